-- Demand 1, sentence by sentence, for document 01's editions: "Any bytes, pointers and attributes get an answer. Bad input is refused by the numbers
-- in document 01. A stop moves no tail past the record it stopped at; a record refused for its body is passed over; both change only the buffers
-- that 01 names. A name too long for its buffer is refused whole with that buffer untouched."
-- The answers are functions of all inputs; what stands here is what they may be, and what a caller's slices then hold. The ring and the record are
-- only read: no definition has them after the call. The last sentence, on names, is in Names. Assumes nothing.
use Rattle.std.specs.Prelude.{◌≡◌, refl, List, [], Bool, true, false, ℕ, suc, ◌+◌, ◌-◌, ◌*◌, ◌%◌, ◌^◌, ◌<◌, ◌≤◌, length, get_or, take, drop}
use Rattle.std.proofs.Common.{sym, ◌∙◌, arith}
use Rattle.std.proofs.Math.Path.{ap}
use Rattle.meaning.specs.declared.Attributes.{Attributes}
use Rattle.meaning.specs.States.{Frame, One}
use Rattle.meaning.specs.Bytes.{number_at, zeros, put}
use Rattle.meaning.specs.Editions.{editions, allowed, known, is_in}
use Rattle.meaning.specs.Records.{layout, judge, check, record_check}
use Rattle.meaning.specs.Values.{read, read_answered, write_answer, write_buffer}
use Rattle.meaning.specs.Ring.{asked_of, distance, stop_at, frame, record_at, whole, shown, one_frame, taken, not_taken, read_one, one_scratch}
use Rattle.meaning.specs.Drain.{End, entry_for, start, frame_at, after, run, drain}
use Rattle.laws.specs.Answer42.{bytes_of, buffer-holds, buffer-kept}
use Rattle.runs.specs.Cutting.{Cut, begin, cutting_by, entries, total, Chained, All, nothing_cut, framed}
use Rattle.runs.proofs.Entries.{all-at}
use Rattle.runs.proofs.Forward.{Counted, frame-going, going-framed}
use Rattle.runs.specs.Scratches.{scratch-whole, scratch-crosses, put_holds, shown-record}
use Rattle.editions.specs.Numbers.{record_numbers, check_numbers, record_check_numbers, stop_numbers, write_numbers}
use Rattle.editions.proofs.InTable.{judge-in, judge-small, check-in, record-check-in, write-in}
use Rattle.laws.specs.Rows.{gives}
use Rattle.laws.specs.Rings.{stop_rows, frame-stop, frame-reason}
use Rattle.editions.proofs.Drains.{drain-counted, drain-cutting, drain-entry, drain_rest, drain-checked}
use Rattle.editions.proofs.Demand3.{answer-in}
use Rattle.editions.proofs.Stops.{drain-stop, drain-go, drain-in, one-stop, one-stop-tail, one-taken, one-taken-tail, one-stop-in, one_in, one-refused}
use Rattle.promises.proofs.AnyDrain.{ended-leaves, rests-there, stop-0, stop-8, stop-9}
use Rattle.promises.proofs.Scratch.{going-room, lies_whole, drain-all-whole, drain-copied}

-- ---- "Bad input is refused by the numbers in document 01": record check, the reader of a record's bytes, the writer

pub check-numbers : (e : ℕ) (a : Attributes) (xs : List ℕ) → is_in (record_check editions e a xs) record_check_numbers ≡ true
check-numbers = record-check-in editions

pub read-numbers : (e : ℕ) (a : Attributes) (xs : List ℕ) → is_in (read editions e a xs).answer check_numbers ≡ true
unfolding read read_answered
read-numbers = check-in editions

pub write-numbers : (e : ℕ) (a : Attributes) (src ws : List ℕ) (space : ℕ) → is_in (write_answer editions e a src ws space) write_numbers ≡ true
write-numbers = write-in editions

-- ---- the reader of one record

module _ (e : ℕ) (a : Attributes) (ring : List ℕ) (head tail : ℕ) (scratch : List ℕ) where
  -- the next record or the stop, what is told, the scratch then, the record's bytes
  abbrev next : Frame
  next = one_frame editions e ring head tail scratch

  abbrev one : One
  one = read_one editions e a ring head tail scratch

  abbrev scratch-then : List ℕ
  scratch-then = one_scratch editions e ring head tail scratch

  abbrev bytes : List ℕ
  bytes = record_at ring next.place next.size

  pub one-stop-numbers : is_in one.frame.stop stop_numbers ≡ true
  one-stop-numbers = one-stop-in editions e a ring head tail scratch

  -- and it is given for its own reason: a row with that number holds
  pub one-stop-reason : next.go ≡ false → gives next.stop (stop_rows (asked_of editions e) ring head tail 1 16 (length scratch)) ≡ true
  one-stop-reason g =
      (frame-reason (asked_of editions e) ring head tail 1 16 (length scratch) next.stop (frame-stop (asked_of editions e) ring head tail 1 16 (length scratch) g)).0

  pub one-numbers : is_in one.answer record_numbers ≡ true
  one-numbers = one_in editions e a ring head tail scratch

  -- "A stop moves no tail": tail and scratch are as they stood, and there is no value; "A stop shows an empty part of the ring"
  pub one-stop-leaves : next.go ≡ false → (one.tail ≡ tail) × (scratch-then ≡ scratch) × (one.words ≡ zeros 56) × (shown ring scratch-then next ≡ [])
  unfolding not_taken shown
  one-stop-leaves g =
      let s = one-stop editions e a ring head tail scratch g in
      (one-stop-tail editions e a ring head tail scratch g, s.1, ap (λ (o : One). o.words) s.0, rw g)

  -- "'Taken' moves the tail by the size", whatever the answer is: "a record refused for its body is passed over"
  pub one-taken-moves : next.go ≡ true → (one.tail ≡ (tail + next.size) % 2 ^ 64) × (one.answer ≡ judge (layout (known editions e) a) bytes)
  unfolding taken
  one-taken-moves g = (one-taken-tail editions e a ring head tail scratch g, ap (λ (o : One). o.answer) (one-taken editions e a ring head tail scratch g).0)

  -- "A body refusal carries its number and no value"
  pub one-refused-empty : (one.answer ≡ 0 → ⊥) → one.words ≡ zeros 56
  one-refused-empty = one-refused editions e a ring head tail scratch

  -- "A record that doesn't cross the ring's end is shown where it lies, otherwise it is copied": what is shown is the record
  pub one-shows : next.go ≡ true → shown ring scratch-then next ≡ bytes
  one-shows g =
      let w = frame-going (asked_of editions e) ring head tail 1 16 (length scratch) g in
      let h = w.header in
      ap (λ (s : List ℕ). shown ring s next) (one-taken editions e a ring head tail scratch g).1
      ∙ shown-record ring scratch next g (omega (arith, h)) (omega (arith, w.size-near, w.near)) (going-room (asked_of editions e) ring head tail 1 16 (length scratch) g).1

  -- "After a copy the scratch begins with the record and its other bytes are unchanged; that holds too if the body is then refused"
  pub one-scratch-copied : next.go ≡ true → whole ring next.place next.size ≡ false
      → (take next.size scratch-then ≡ bytes) × (drop next.size scratch-then ≡ drop next.size scratch)
  one-scratch-copied g c =
      let w = frame-going (asked_of editions e) ring head tail 1 16 (length scratch) g in
      let h = w.header in
      let m = (going-room (asked_of editions e) ring head tail 1 16 (length scratch) g).1 c in
      let l = (going-framed (asked_of editions e) ring head tail 1 16 (length scratch) next w).0 in
      let q : scratch-then ≡ put scratch 0 bytes = (one-taken editions e a ring head tail scratch g).1
      ∙ scratch-crosses ring next.place next.size scratch (omega (arith, h)) (omega (arith, w.size-near, w.near)) c in
      rw q (put_holds scratch bytes next.size l m)

  -- "In all other cases the scratch is unchanged"
  pub one-scratch-kept : whole ring next.place next.size ≡ true → scratch-then ≡ scratch
  one-scratch-kept c = by next.go refl
    where
      by : (b : Bool) → next.go ≡ b → scratch-then ≡ scratch
      by true g = (one-taken editions e a ring head tail scratch g).1 ∙ scratch-whole ring next.place next.size scratch c
      by false g = (one-stop editions e a ring head tail scratch g).1

-- ---- the drain

-- a record is taken, whatever its answer is: the tail has moved by its size, and the drain goes on behind it with one less of the budget
pub drain-passes : (e : ℕ) (a : Attributes) (ring : List ℕ) (head tail budget : ℕ) (journal scratch : List ℕ)
    → (frame_at (frame (asked_of editions e) ring head) (suc budget) (start tail journal scratch)).go ≡ true
    → drain editions e a ring head tail (suc budget) journal scratch
    ≡ run (frame (asked_of editions e) ring head) (judge (layout (known editions e) a)) ring budget
    (after (judge (layout (known editions e) a)) ring (start tail journal scratch) (frame_at (frame (asked_of editions e) ring head) (suc budget) (start tail journal scratch)))
drain-passes = drain-go editions

module _ (e : ℕ) (a : Attributes) (ring : List ℕ) (head tail budget : ℕ) (journal scratch : List ℕ) where
  -- where it ends; the records as the ring is cut; what answers for a record's bytes
  abbrev end : End
  end = drain editions e a ring head tail budget journal scratch

  abbrev records : List Cut
  records = (cutting_by (asked_of editions e) ring head tail budget (length journal) scratch).records

  abbrev record-at : ℕ → Cut
  record-at i = get_or records i nothing_cut

  abbrev answers : List ℕ → ℕ
  answers = judge (layout (known editions e) a)

  pub drain-stop-numbers : is_in end.stop stop_numbers ≡ true
  drain-stop-numbers = drain-in editions e a ring head tail budget journal scratch

  -- a stop at the first record: "'Stops' leaves tail, scratch and journal as they stood before that record"
  pub drain-stop-leaves : (frame (asked_of editions e) ring head tail budget (length journal) (length scratch)).go ≡ false
      → (end.state.taken ≡ 0) × (end.state.bytes ≡ 0) × (end.state.tail ≡ tail) × (end.state.journal ≡ journal) × (end.state.scratch ≡ scratch)
  drain-stop-leaves g =
      ended-leaves tail journal scratch (frame (asked_of editions e) ring head tail budget (length journal) (length scratch)) end
      (drain-stop editions e a ring head tail budget journal scratch g)

  -- the journal: one entry of 16 bytes for each record, from its start on, and nothing else
  pub drain-journal : end.state.journal ≡ put journal 0 (entries answers records)
  drain-journal = ap (λ (x : End). x.state.journal) (drain-cutting editions e a ring head tail budget journal scratch)

  -- "length 16 (4 bytes), kind (2 bytes ..), answer (2 bytes ..), the record's tail count (8 bytes)"
  pub drain-entries : (i : ℕ) → i < end.state.taken → take 16 (drop (16 * i) end.state.journal) ≡ entry_for answers (record-at i).record-bytes (record-at i).tail
  drain-entries = drain-entry editions e a ring head tail budget journal scratch

  -- "Journal bytes after the last entry are unchanged"
  pub drain-journal-rest : drop (16 * end.state.taken) end.state.journal ≡ drop (16 * end.state.taken) journal
  drain-journal-rest = drain_rest editions e a ring head tail budget journal scratch

  -- the answer in an entry is the record's
  entry-answer : (i : ℕ) → i < end.state.taken → number_at 2 end.state.journal (16 * i + 6) ≡ answers (record-at i).record-bytes
  entry-answer i h = let r : List ℕ = (record-at i).record-bytes in answer-in answers end.state.journal r i (record-at i).tail (judge-small (known editions e) a r) (drain-entries i h)

  pub drain-entry-numbers : (i : ℕ) → i < end.state.taken → is_in (number_at 2 end.state.journal (16 * i + 6)) record_numbers ≡ true
  drain-entry-numbers i h = rw (entry-answer i h) (judge-in (known editions e) a (record-at i).record-bytes)

  module _ (hd : head < 2 ^ 64) (tl : tail < 2 ^ 64) where
    counted : Counted (asked_of editions e) ring head tail budget journal scratch (cutting_by (asked_of editions e) ring head tail budget (length journal) scratch) end
    counted = drain-counted editions e a ring head tail budget journal scratch hd tl

    -- "A stop moves no tail past the record it stopped at": the reason is the one that the rows give at the new tail
    pub drain-reason : frame (asked_of editions e) ring head end.state.tail (budget - end.state.taken) (length journal - 16 * end.state.taken) (length scratch)
        ≡ stop_at end.stop
    drain-reason = counted.reason

    -- and there it leaves tail, counts, journal and scratch as they stand: to go on from the end is to stay there
    pub drain-rests : run (frame (asked_of editions e) ring head) answers ring (budget - end.state.taken) end.state ≡ end
    drain-rests = rests-there (asked_of editions e) ring head tail budget journal scratch _ end counted answers

    -- so "nothing to take" is said only at the head, "budget used up" only after as many records as were allowed, and "fewer than 16 journal bytes
    -- left" only where that is so: no drain that does nothing says so
    pub drain-nothing-left : end.stop ≡ 0 → end.state.tail ≡ head
    drain-nothing-left = stop-0 (asked_of editions e) ring head tail budget journal scratch _ end counted

    pub drain-budget-used : end.stop ≡ 8 → end.state.taken ≡ budget
    drain-budget-used = stop-8 (asked_of editions e) ring head tail budget journal scratch _ end counted

    pub drain-journal-full : end.stop ≡ 9 → length journal < 16 * end.state.taken + 16
    drain-journal-full = stop-9 (asked_of editions e) ring head tail budget journal scratch _ end counted

    -- "takes at most the number of records that the caller allows"
    pub drain-budget : end.state.taken ≤ budget
    drain-budget = counted.most

    -- "The records taken equal the entries written": as many as there are records, and there is room for their entries
    pub drain-taken : (end.state.taken ≡ length records) × (16 * end.state.taken ≤ length journal)
    drain-taken = (counted.count, counted.fits)

    -- "the bytes taken are the sum of their sizes and the distance the tail moved"
    pub drain-bytes : (end.state.bytes ≡ total records) × (end.state.bytes ≡ distance end.state.tail tail) × (end.state.tail ≡ (tail + end.state.bytes) % 2 ^ 64)
    drain-bytes = (counted.sum, counted.moved, counted.new-tail)

    -- each record stands at the tail of the one before it, moved by its size, refused or not; and is one record by its own header
    pub drain-tails : Chained tail records end.state.tail
    drain-tails = counted.tails

    pub drain-framed : All (λ (c : Cut). framed c.record-bytes ≡ true) records
    drain-framed = counted.shaped

    -- the answer in each entry is record check's for that record's bytes, but for 44, which is 0 here
    pub drain-checks : allowed editions e ≡ true → (i : ℕ) → i < end.state.taken → number_at 2 end.state.journal (16 * i + 6) ≡ check editions e a (record-at i).record-bytes
    drain-checks g i h =
        let c = counted.count in
        entry-answer i h
        ∙ sym (all-at (λ (c : Cut). check editions e a c.record-bytes ≡ answers c.record-bytes) records i
        (drain-checked editions e a ring head tail budget journal scratch g hd tl) (omega (arith, c, h)))

    -- the scratch: a record that crosses the ring's end, and there is at most one, is what it begins with, and "its other bytes are unchanged"
    pub drain-scratch-copied : (i : ℕ) → i < end.state.taken → lies_whole ring (record-at i) ≡ false
        → (take (length (record-at i).record-bytes) end.state.scratch ≡ (record-at i).record-bytes)
        × (drop (length (record-at i).record-bytes) end.state.scratch ≡ drop (length (record-at i).record-bytes) scratch)
    drain-scratch-copied i h w =
        let c = counted.count in
        let k = drain-copied (asked_of editions e) ring head hd budget (begin tail (length journal) scratch) tl i (omega (arith, c, h)) w in
        rw (ap (λ (x : End). x.state.scratch) (drain-cutting editions e a ring head tail budget journal scratch) ∙ k.0)
        (put_holds scratch (record-at i).record-bytes (length (record-at i).record-bytes) refl k.1)

    -- "In all other cases the scratch is unchanged"
    pub drain-scratch-kept : All (λ (c : Cut). lies_whole ring c ≡ true) records → end.state.scratch ≡ scratch
    drain-scratch-kept w =
        ap (λ (x : End). x.state.scratch) (drain-cutting editions e a ring head tail budget journal scratch)
        ∙ drain-all-whole (asked_of editions e) ring head hd budget (begin tail (length journal) scratch) w

-- ---- the writer

-- "Refused: buffer unchanged."
pub write-refused : (e : ℕ) (a : Attributes) (src ws buffer : List ℕ) → (write_answer editions e a src ws (length buffer) ≡ 0 → ⊥) → write_buffer editions e a src ws buffer ≡ buffer
write-refused = buffer-kept editions

-- "Accepted: the record, the rest unchanged."
pub write-accepted : (e : ℕ) (a : Attributes) (src ws buffer : List ℕ) → write_answer editions e a src ws (length buffer) ≡ 0
    → (take (length (bytes_of editions e a src ws)) (write_buffer editions e a src ws buffer) ≡ bytes_of editions e a src ws)
    × (drop (length (bytes_of editions e a src ws)) (write_buffer editions e a src ws buffer) ≡ drop (length (bytes_of editions e a src ws)) buffer)
write-accepted = buffer-holds editions
