-- A trace over a ring of 64 bytes from count 2^64 - 8, under edition 2 and no attribute; and faulty entries. The checker computes them. Assumes nothing.
use Rattle.std.specs.Prelude.{◌≡◌, refl, ℕ, ◌-◌, ◌^◌, Bool, true, false, ◌&&◌, List, [], ◌∷◌, ◌++◌, length}
use Rattle.meaning.specs.declared.Attributes.{Attributes}
use Rattle.meaning.specs.Bytes.{num, spell, bit, ones, zeros, put}
use Rattle.meaning.specs.Refusals.{first}
use Rattle.meaning.specs.Items as Items
use Rattle.meaning.specs.Editions.{editions, known, unreadable}
use Rattle.meaning.specs.Records.{layout, kind_of, misc_of, size_of, room_shape, room, fields_of, closed, fields_answer, judge}
use Rattle.meaning.specs.Ring.{asking, asking_with, length_allowed, distance, record_at, stopped, sized, frame, scratch_after}
use Rattle.meaning.specs.Drain.{journal_kind, entry, run}
use Rattle.laws.specs.Bytes.{same_bytes}
use Rattle.runs.specs.Cutting.{cut_by, total}
use Rattle.entries.specs.Entries.{entry_bytes, is_whole, entry_at}
use Rattle.replay.specs.declared.Replayed.{Replayed}
use Rattle.replay.specs.Replay.{bench, offered_by, dropped_by, drained_by, sum, held, put_round, offer, drains_off, fault_at, effect, Played, play, replay, half, of_store, replay_told}

abbrev nothing_selected : Attributes
nothing_selected = record { sample = 0; format = 0; all = false; user = 0; interrupt = 0; branch = 0 }

abbrev rules : List ℕ → ℕ
rules = judge (layout (known editions 2) nothing_selected)

abbrev header : ℕ → ℕ → List ℕ
header kind size = spell 4 kind ++ (spell 2 0 ++ spell 2 size)

-- accepted: a switch of 8 bytes, a LOST of 24; refused with 31: a LOST of 40
abbrev switch : List ℕ
switch = header 14 8

abbrev lost : List ℕ
lost = header 2 24 ++ (spell 8 7 ++ spell 8 9)

abbrev long : List ℕ
long = header 2 40 ++ zeros 32

abbrev offers : List ℕ → List ℕ
offers r = entry_bytes 16 r

abbrev drains : ℕ → List ℕ
drains budget = entry_bytes 17 (spell 4 budget)

-- the switch goes in at the ring's end, the LOST at its start; after a drain of one record the long one fills the ring, and another LOST is dropped. The
-- last entry is one of a store
abbrev trace : List ℕ
trace = offers switch ++ (offers lost ++ (drains 1 ++ (offers long ++ (offers lost ++ (drains 9 ++ entry_bytes 1 (spell 2 1))))))

abbrev after : ℕ → Played
after n = play of_store (asking true) rules trace n 0 (bench (zeros 64) (2 ^ 64 - 8) (zeros 64) (zeros 50))

abbrev whole : Played
whole = replay of_store (asking true) rules trace (zeros 64) (2 ^ 64 - 8) (zeros 64) (zeros 50)

-- head, tail, entries, offered, drained, dropped, held: after n entries
abbrev counts : Played → List ℕ
counts p =
    p.now.head ∷ p.now.tail ∷ p.now.used ∷ sum offered_by p.now.history ∷ sum drained_by p.now.history ∷ sum dropped_by p.now.history
    ∷ length (held p.now) ∷ []

pub along-the-trace : Bool
along-the-trace =
    same_bytes (counts (after 0)) ((2 ^ 64 - 8) ∷ (2 ^ 64 - 8) ∷ 0 ∷ 0 ∷ 0 ∷ 0 ∷ 0 ∷ [])
    && (same_bytes (counts (after 2)) (24 ∷ (2 ^ 64 - 8) ∷ 0 ∷ 32 ∷ 0 ∷ 0 ∷ 32 ∷ [])
    && (same_bytes (held (after 2).now) (switch ++ lost)
    && (same_bytes (counts (after 3)) (24 ∷ 0 ∷ 1 ∷ 32 ∷ 8 ∷ 0 ∷ 24 ∷ [])
    && (same_bytes (counts (after 5)) (64 ∷ 0 ∷ 1 ∷ 96 ∷ 8 ∷ 24 ∷ 64 ∷ [])
    && (same_bytes (held (after 5).now) (lost ++ long)
    && (same_bytes (counts whole) (64 ∷ 64 ∷ 3 ∷ 96 ∷ 72 ∷ 24 ∷ 0 ∷ [])
    && (same_bytes (whole.answer ∷ whole.at ∷ []) (52 ∷ 140 ∷ [])
    && same_bytes whole.now.journal (entry 14 0 (2 ^ 64 - 8) ++ (entry 2 0 0 ++ (entry 2 31 24 ++ zeros 2))))))))))

pub along-the-trace-holds : along-the-trace ≡ true
unfolding along-the-trace num spell bit ones put first Items.span Items.rule Items.holds Items.counted Items.before Items.past Items.part Items.settle Items.shape_step Items.step Items.walk known unreadable layout kind_of misc_of size_of room_shape room fields_of closed fields_answer judge length_allowed distance record_at stopped sized frame scratch_after journal_kind entry run cut_by total entry_bytes is_whole entry_at sum put_round offer drains_off fault_at effect play replay same_bytes
along-the-trace-holds = refl

-- what is told at its end: six entries, bytes offered, drained, dropped and held, records taken and dropped, head, tail, why it ended
abbrev fields : Replayed → List ℕ
fields t =
    t.entries ∷ t.offered_bytes ∷ t.drained_bytes ∷ t.dropped_bytes ∷ t.held_bytes ∷ t.taken ∷ t.dropped ∷ t.head ∷ t.tail ∷ t.answer ∷ []

pub told-whole : same_bytes (fields (replay_told whole)) (6 ∷ 96 ∷ 72 ∷ 24 ∷ 0 ∷ 3 ∷ 1 ∷ 64 ∷ 64 ∷ 52 ∷ []) ≡ true
unfolding num spell bit ones put first Items.span Items.rule Items.holds Items.counted Items.before Items.past Items.part Items.settle Items.shape_step Items.step Items.walk known unreadable layout kind_of misc_of size_of room_shape room fields_of closed fields_answer judge length_allowed distance record_at stopped sized frame scratch_after journal_kind entry run cut_by total entry_bytes is_whole entry_at sum put_round offer drains_off fault_at effect play replay same_bytes
told-whole = refl

-- after five entries the ring is full, and nothing of it is drained but the first record
pub told-full : same_bytes (fields (replay_told (after 5))) (5 ∷ 96 ∷ 8 ∷ 24 ∷ 64 ∷ 1 ∷ 1 ∷ 64 ∷ 0 ∷ 0 ∷ []) ≡ true
unfolding num spell bit ones put first Items.span Items.rule Items.holds Items.counted Items.before Items.past Items.part Items.settle Items.shape_step Items.step Items.walk known unreadable layout kind_of misc_of size_of room_shape room fields_of closed fields_answer judge length_allowed distance record_at stopped sized frame scratch_after journal_kind entry run cut_by total entry_bytes is_whole entry_at sum put_round offer drains_off fault_at effect play replay same_bytes
told-full = refl

-- of an odd length there is no half
pub halves : same_bytes (half 128 ∷ half 127 ∷ half 1 ∷ half 0 ∷ []) (64 ∷ 0 ∷ 0 ∷ 0 ∷ []) ≡ true
unfolding same_bytes
halves = refl

-- ---- faulty entries, and what comes before any

abbrev answer_of : Bool → Bool → ℕ → ℕ → List ℕ → ℕ
answer_of ok sound len count xs = (replay of_store (asking_with ok sound) rules xs (zeros len) count (zeros len) []).answer

pub answers : List ℕ
answers =
    -- an empty trace; a drain without journal room ends only itself
    answer_of true true 64 0 []
    ∷ answer_of true true 64 0 (offers switch ++ drains 1)
    -- 1, 2, 5, 11, in this order
    ∷ answer_of false false 65 4 []
    ∷ answer_of false false 64 4 []
    ∷ answer_of true false 64 4 []
    ∷ answer_of true false 64 8 []
    -- cut short: three bytes, and a length past the end; shorter than 6; an unknown kind; a budget of another width
    ∷ answer_of true true 64 0 (zeros 3)
    ∷ answer_of true true 64 0 (spell 4 11 ++ (spell 2 17 ++ spell 4 1))
    ∷ answer_of true true 64 0 (spell 4 5 ++ zeros 20)
    ∷ answer_of true true 64 0 (entry_bytes 18 [])
    ∷ answer_of true true 64 0 (entry_bytes 17 (spell 8 1))
    -- of a store: well formed, and not
    ∷ answer_of true true 64 0 (entry_bytes 3 (zeros 13))
    ∷ answer_of true true 64 0 (entry_bytes 3 (zeros 12))
    -- a body below 8 bytes, the empty one too; a size that 6 refuses; a size that differs from the body's
    ∷ answer_of true true 64 0 (offers [])
    ∷ answer_of true true 64 0 (offers (zeros 7))
    ∷ answer_of true true 64 0 (offers (header 14 4))
    ∷ answer_of true true 64 0 (offers (header 14 16))
    -- a record longer than the ring is dropped, not refused
    ∷ answer_of true true 64 0 (offers (header 2 72 ++ zeros 64))
    ∷ []

pub answers-are : same_bytes answers (0 ∷ 0 ∷ 1 ∷ 2 ∷ 5 ∷ 11 ∷ 51 ∷ 51 ∷ 51 ∷ 51 ∷ 51 ∷ 52 ∷ 51 ∷ 53 ∷ 53 ∷ 53 ∷ 53 ∷ 0 ∷ []) ≡ true
unfolding answers num spell bit ones put first Items.span Items.rule Items.holds Items.counted Items.before Items.past Items.part Items.settle Items.shape_step Items.step Items.walk known unreadable layout kind_of misc_of size_of room_shape room fields_of closed fields_answer judge length_allowed distance record_at stopped sized frame scratch_after journal_kind entry run cut_by total entry_bytes is_whole entry_at sum put_round offer drains_off fault_at effect play replay same_bytes
answers-are = refl
