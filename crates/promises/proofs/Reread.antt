-- O12 of docs/FORMAT.md. A journal's entry names its record by the tail: with that tail and the drain's head the reader of one record, as C calls it, takes the entry's record,
-- shows its bytes and answers as the entry does, given a scratch that is as long as a record that crosses the ring's end, and 56 words. Assumes nothing.
use Rattle.std.specs.Prelude.{◌≡◌, refl, List, Bool, true, false, cond, ℕ, ◌+◌, ◌*◌, ◌%◌, ◌^◌, ◌<◌, ◌≤◌, leb, eqb, length, get_or, take, drop}
use Rattle.std.proofs.Common.{sym, ap, ap₂, ◌∙◌, subst, ⊎_elim, eq-zero-or-pos, arith, le-leb, eqb-true}
use Rattle.std.proofs.lemmas.Bool.{lt-leb}
use Rattle.meaning.specs.declared.Attributes.{Attributes}
use Rattle.meaning.specs.declared.Event.{Event}
use Rattle.meaning.specs.States.{Frame}
use Rattle.meaning.specs.Bytes.{num, number_at, spell}
use Rattle.meaning.specs.Refusals.{or_else}
use Rattle.meaning.specs.Editions.{editions, known}
use Rattle.meaning.specs.Records.{layout, judge}
use Rattle.meaning.specs.Ring.{Asked, asked_of, distance, go_at, frame, record_at, one_scratch}
use Rattle.meaning.specs.Drain.{End, entry, entry_for, drain}
use Rattle.meaning.specs.Events.{asked_events, judge_events, drain_events, one_events_scratch}
use Rattle.one.specs.declared.OneTold.{OneTold}
use Rattle.one.specs.Told.{one_told, one_words}
use Rattle.event_one.specs.Told.{one_events_told, one_events_words}
use Rattle.laws.specs.Bytes.{apart, num-spell}
use Rattle.laws.specs.Put.{part_of}
use Rattle.laws.specs.Rings.{goes-frame, going-length}
use Rattle.runs.specs.Cutting.{Cut, Spot, begin, cutting_by, spot_frame, cut_at, All, nothing_cut}
use Rattle.runs.proofs.Along.{Steps, along}
use Rattle.runs.proofs.Entries.{run-count, run-entry, all-at}
use Rattle.runs.proofs.Crossing.{lies_whole}
use Rattle.runs.proofs.Forward.{Kept, frame-going, frame-roomy, frame-steps}
use Rattle.runs.specs.Scratches.{distance_self}
use Rattle.editions.proofs.InTable.{judge-small}
use Rattle.editions.proofs.EventRecord.{event-small}
use Rattle.editions.proofs.Demand3.{answer-in}
use Rattle.promises.proofs.Called.{part, Called, one-called, one-events-called, told-answers, event-told-answers}

-- ---- a record of a drain, at its own tail

-- what is said of each: the tail is a count; with the same head, a budget of one and room for one entry a record is found there, and it is this one
pub record RecordStands (asked : Asked) (ring : List ℕ) (head : ℕ) (c : Cut) : Type 0 where
  pub count : c.tail < 2 ^ 64
  pub bytes-at : c.record-bytes ≡ record_at ring (c.tail % length ring) (length c.record-bytes)
  pub found : (room : ℕ) → (lies_whole ring c ≡ false → length c.record-bytes ≤ room)
      → frame asked ring head c.tail 1 16 room ≡ go_at (c.tail % length ring) (length c.record-bytes)

module _ (asked : Asked) (ring : List ℕ) (head : ℕ) (hd : head < 2 ^ 64) where
  stands-there : (all n : ℕ) (p : Spot) → Kept ring head all p → (spot_frame (frame asked ring head) n p).go ≡ true
      → RecordStands asked ring head (cut_at ring p (spot_frame (frame asked ring head) n p))
  stands-there all n p k g =
      let f : Frame = spot_frame (frame asked ring head) n p in
      let w = frame-going asked ring head p.tail n p.room (length p.scratch) g in
      let l : length (record_at ring f.place f.size) ≡ f.size = going-length asked ring head p.tail n p.room (length p.scratch) f w in
      record {
        count = k.0;
        bytes-at = ap₂ (record_at ring) w.at (sym l);
        found = λ room fits.
            goes-frame asked ring head p.tail 1 16 room f.size
            (record {
              beside = w.beside;
              allowed = w.allowed;
              near = w.near;
              head-eights = w.head-eights;
              tail-eights = w.tail-eights;
              unequal = λ (q : head ≡ p.tail). absurd (omega (arith, w.size_low, w.size-near, ap (λ (h : ℕ). distance h p.tail) q, distance_self p.tail k.0));
              budget = omega arith;
              entry = omega arith;
              size_is = w.size_is ∙ ap (λ (m : ℕ). number_at 2 ring (m + 6)) w.at;
              size_low = w.size_low;
              size-eight = w.size-eight;
              size-near = w.size-near;
              fits = λ (h : length ring < p.tail % length ring + f.size).
                  subst (λ (m : ℕ). m ≤ room) l (fits (lt-leb (p.tail % length ring + length (record_at ring f.place f.size)) (length ring) (omega (arith, h, l))));
            })
            ∙ ap (go_at (p.tail % length ring)) (sym l);
      }

  stands-steps : (all : ℕ) → Steps ring (Kept ring head all) (RecordStands asked ring head) (frame asked ring head)
  stands-steps all =
      let s = frame-steps asked ring head hd all in
      record { paid = s.paid; roomy = s.roomy; stops = s.stops; long = s.long; kept = s.kept; each = stands-there all }

  pub each_stands : (tail budget room : ℕ) (scratch : List ℕ) → tail < 2 ^ 64 → All (RecordStands asked ring head) (cutting_by asked ring head tail budget room scratch).records
  each_stands tail budget room scratch tl =
      let all : ℕ = 0 + distance head tail in
      (along ring (Kept ring head all) (RecordStands asked ring head) (frame asked ring head) (stands-steps all) budget (begin tail room scratch) tl (tl, refl)).each

-- ---- the tail in an entry reads back
tail-in : (judge : List ℕ → ℕ) (journal r : List ℕ) (i tail : ℕ) → tail < 2 ^ 64 → take 16 (drop (16 * i) journal) ≡ entry_for judge r tail → number_at 8 journal (16 * i + 8) ≡ tail
unfolding entry spell
tail-in judge journal r i tail b p =
    ap num (sym (part_of (16 * i) 8 8 16 journal (omega arith)) ∙ ap (λ (l : List ℕ). take 8 (drop 8 l)) p) ∙ num-spell 8 tail b

-- ---- what is promised of a call with an entry's tail: the record is shown, and its answer is the entry's
pub record Reread (r journal : List ℕ) (i : ℕ) (ring scratch-then words : List ℕ) (t : OneTold) : Type 0 where
  pub taken : t.stop ≡ 0
  pub size_is : t.size ≡ length r
  pub shows : part ring scratch-then t ≡ r
  pub answer-is : 56 ≤ length words → t.answer ≡ number_at 2 journal (16 * i + 6)

-- 40 is not given, and a refusal stays
unshort : (n : ℕ) (words : List ℕ) → 56 ≤ length words → or_else n (cond (leb 56 (length words)) 0 40) ≡ n
unshort n words m = ap (λ (b : Bool). or_else n (cond b 0 40)) (le-leb 56 (length words) m) ∙ by (eqb n 0) refl
  where
    by : (b : Bool) → eqb n 0 ≡ b → cond b 0 n ≡ n
    by true z = sym (eqb-true n 0 z)
    by false z = refl

module _ (asked : Asked) (ring : List ℕ) (head : ℕ) (c : Cut) (s : RecordStands asked ring head c) (lent words : List ℕ) (t : OneTold) (scratch-then words_then : List ℕ)
    (called : Called asked ring head c.tail lent words t scratch-then words_then) (fits : lies_whole ring c ≡ false → length c.record-bytes ≤ length lent) where
  found-there : (0 < t.size) × (t.size ≡ length c.record-bytes)
  found-there =
      ⊎_elim
      (λ (h : t.size ≡ 0). absurd (apart (ap (λ (f : Frame). f.go) (sym (called.stop-tells h).0 ∙ s.found (length lent) fits))))
      (λ (h : 0 < t.size). (h, ap (λ (f : Frame). f.size) (sym (called.taken-tells h).0 ∙ s.found (length lent) fits)))
      (eq-zero-or-pos t.size)

  shown-there : part ring scratch-then t ≡ c.record-bytes
  shown-there = called.shows ∙ ap (record_at ring (c.tail % length ring)) found-there.1 ∙ sym s.bytes-at

-- ---- with one attribute set
module _ (e : ℕ) (a : Attributes) (ring : List ℕ) (head tail budget : ℕ) (journal scratch : List ℕ) (hd : head < 2 ^ 64) (tl : tail < 2 ^ 64) where
  abbrev end : End
  end = drain editions e a ring head tail budget journal scratch

  abbrev record-at : ℕ → Cut
  record-at i = get_or (cutting_by (asked_of editions e) ring head tail budget (length journal) scratch).records i nothing_cut

  -- the tail in entry i, as C reads it there
  abbrev tail_at : ℕ → ℕ
  tail_at i = number_at 8 end.state.journal (16 * i + 8)

  pub entry-reread : (i : ℕ) → i < end.state.taken → (lent words : List ℕ) → (lies_whole ring (record-at i) ≡ false → length (record-at i).record-bytes ≤ length lent)
      → Reread (record-at i).record-bytes end.state.journal i ring (one_scratch editions e ring head (tail_at i) lent) words (one_told editions e a ring head (tail_at i) lent words)
  entry-reread i h lent words fits =
      let c : Cut = record-at i in
      let n = run-count (frame (asked_of editions e) ring head) (frame-roomy (asked_of editions e) ring head) (judge (layout (known editions e) a)) ring tail budget journal scratch in
      let s = all-at (RecordStands (asked_of editions e) ring head) (cutting_by (asked_of editions e) ring head tail budget (length journal) scratch).records i
      (each_stands (asked_of editions e) ring head hd tail budget (length journal) scratch tl) (omega (arith, n, h)) in
      let p = run-entry (frame (asked_of editions e) ring head) (frame-roomy (asked_of editions e) ring head) (judge (layout (known editions e) a)) ring tail budget journal scratch i h in
      let q : c.tail ≡ tail_at i = sym (tail-in (judge (layout (known editions e) a)) end.state.journal c.record-bytes i c.tail s.count p) in
      let k = one-called e a ring head c.tail lent words in
      let t : OneTold = one_told editions e a ring head c.tail lent words in
      let y : List ℕ = one_scratch editions e ring head c.tail lent in
      let f = found-there (asked_of editions e) ring head c s lent words t y (one_words editions e a ring head c.tail lent words) k fits in
      let x = shown-there (asked_of editions e) ring head c s lent words t y (one_words editions e a ring head c.tail lent words) k fits in
      subst (λ (m : ℕ). Reread c.record-bytes end.state.journal i ring (one_scratch editions e ring head m lent) words (one_told editions e a ring head m lent words)) q
      (record {
        taken = (k.taken-tells f.0).1;
        size_is = f.1;
        shows = x;
        answer-is = λ m.
            told-answers e a ring head c.tail lent words f.0
            ∙ ap (λ (r : List ℕ). or_else (judge (layout (known editions e) a) r) (cond (leb 56 (length words)) 0 40)) x
            ∙ unshort (judge (layout (known editions e) a) c.record-bytes) words m
            ∙ sym (answer-in (judge (layout (known editions e) a)) end.state.journal c.record-bytes i c.tail (judge-small (known editions e) a c.record-bytes) p);
      })

-- ---- with a table of events
module _ (limit e : ℕ) (es : List Event) (ring : List ℕ) (head tail budget : ℕ) (journal scratch : List ℕ) (hd : head < 2 ^ 64) (tl : tail < 2 ^ 64) where
  abbrev event_end : End
  event_end = drain_events limit editions e es ring head tail budget journal scratch

  abbrev event_record_at : ℕ → Cut
  event_record_at i = get_or (cutting_by (asked_events limit editions e es) ring head tail budget (length journal) scratch).records i nothing_cut

  abbrev event_tail_at : ℕ → ℕ
  event_tail_at i = number_at 8 event_end.state.journal (16 * i + 8)

  pub event-entry-reread : (i : ℕ) → i < event_end.state.taken → (lent words : List ℕ)
      → (lies_whole ring (event_record_at i) ≡ false → length (event_record_at i).record-bytes ≤ length lent)
      → Reread (event_record_at i).record-bytes event_end.state.journal i ring (one_events_scratch limit editions e es ring head (event_tail_at i) lent) words
      (one_events_told limit editions e es ring head (event_tail_at i) lent words)
  event-entry-reread i h lent words fits =
      let asked : Asked = asked_events limit editions e es in
      let j : List ℕ → ℕ = judge_events (known editions e) es in
      let c : Cut = event_record_at i in
      let n = run-count (frame asked ring head) (frame-roomy asked ring head) j ring tail budget journal scratch in
      let s = all-at (RecordStands asked ring head) (cutting_by asked ring head tail budget (length journal) scratch).records i
      (each_stands asked ring head hd tail budget (length journal) scratch tl) (omega (arith, n, h)) in
      let p = run-entry (frame asked ring head) (frame-roomy asked ring head) j ring tail budget journal scratch i h in
      let q : c.tail ≡ event_tail_at i = sym (tail-in j event_end.state.journal c.record-bytes i c.tail s.count p) in
      let k = one-events-called limit e es ring head c.tail lent words in
      let t : OneTold = one_events_told limit editions e es ring head c.tail lent words in
      let y : List ℕ = one_events_scratch limit editions e es ring head c.tail lent in
      let f = found-there asked ring head c s lent words t y (one_events_words limit editions e es ring head c.tail lent words) k fits in
      let x = shown-there asked ring head c s lent words t y (one_events_words limit editions e es ring head c.tail lent words) k fits in
      subst (λ (m : ℕ). Reread c.record-bytes event_end.state.journal i ring (one_events_scratch limit editions e es ring head m lent) words (one_events_told limit editions e es ring head m lent words)) q
      (record {
        taken = (k.taken-tells f.0).1;
        size_is = f.1;
        shows = x;
        answer-is = λ m.
            event-told-answers limit e es ring head c.tail lent words f.0
            ∙ ap (λ (r : List ℕ). or_else (judge_events (known editions e) es r) (cond (leb 56 (length words)) 0 40)) x
            ∙ unshort (judge_events (known editions e) es c.record-bytes) words m
            ∙ sym (answer-in j event_end.state.journal c.record-bytes i c.tail (event-small (known editions e) es c.record-bytes) p);
      })
