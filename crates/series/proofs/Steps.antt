-- What a drain of a series takes are records that lie one after the other in the last ring, under the last head. Assumes nothing.
use Rattle.std.specs.Prelude.{◌≡◌, refl, true, ℕ, ◌+◌, ◌*◌, ◌%◌, ◌^◌, ◌<◌, ◌≤◌, length, take, drop}
use Rattle.std.proofs.Math.Path.{sym}
use Rattle.std.proofs.Common.{ap, ◌∙◌, subst, mod-lt, length-append}
use mathlib.Core.List.{List, [], ◌∷◌, ◌++◌}
use native.Mathlib.Omega.{arith}
use Rattle.meaning.specs.States.{Frame}
use Rattle.meaning.specs.Ring.{Asked, length_allowed, distance, frame, record_at}
use Rattle.laws.specs.Rings.{length-bounds, frame-stop, going-length, record-length, scratch-length, distance-on}
use Rattle.runs.specs.Cutting.{Cut, Spot, begin, spot_frame, cut_at, entries, Chained, All}
use Rattle.runs.proofs.Runs.{entries-append, chained-on, all_append}
use Rattle.runs.proofs.Along.{Steps as Stepping, along}
use Rattle.runs.proofs.Forward.{frame-paid, frame-roomy, frame-going}
use Rattle.series.specs.Series.{Step, Given, from, drain_at, entries_of, onward, series, reach, Stays, Steady}
use Rattle.series.proofs.Goings.{There, frame-there, there-later, between-part, reach_near, reach-past, reach-most}
use Rattle.series.proofs.Chains.{Link, total-low, step_cuts, drain-reads}

module _ (asked : Asked) (tail : ℕ) (tl : tail < 2 ^ 64) (z : Step) (eight : z.head % 8 ≡ 0) where
  -- the count that lies x bytes past the first tail
  abbrev count : ℕ → ℕ
  count x = (tail + x) % 2 ^ 64

  -- a record that is there at the end
  abbrev Linked : Cut → Type 0
  Linked = Link asked z.ring z.head (length z.scratch)

  -- records from one such count to another, that far at most
  pub record Way (x far : ℕ) (cs : List Cut) (end : ℕ) : Type 0 where
    pub bytes : ℕ
    pub end_is : end ≡ count bytes
    pub reached : bytes ≤ far
    pub counted : x + 8 * length cs ≤ bytes
    pub tails : Chained (count x) cs end
    pub links : All Linked cs

  module _ (s : Step) (stays : Stays tail z s) (before : reach tail s ≤ reach tail z) where
    -- n bytes that lie before a step's head are there under the last head
    pub bytes-later : (x n : ℕ) → x ≤ reach tail s → length_allowed (length s.ring) ≡ true → distance s.head (count x) ≤ length s.ring
        → 0 < n → n ≤ distance s.head (count x)
        → (x + n ≤ reach tail s) × (distance s.head (count x) ≤ distance z.head (count x)) × (distance z.head (count x) ≤ length z.ring)
        × (record_at s.ring (count x % length s.ring) n ≡ record_at z.ring (count x % length z.ring) n)
    bytes-later x n h allowed near pos up =
        let r = reach_near tail x s tl h near in
        let last = reach-past tail z (omega (arith, r)) in
        let most = reach-most tail z in
        let on = distance-on z.head tail x tl (omega (arith, last, r)) in
        let a : length_allowed (length z.ring) ≡ true = subst (λ (k : ℕ). length_allowed k ≡ true) stays.ring-length allowed in (
          omega (arith, r),
          omega (arith, on, last, r),
          omega (arith, on, last, most),
          between-part s.ring tail x n (reach tail s) allowed (omega (arith, r)) (reach-most tail s)
              ∙ ap (λ (b : List ℕ). take n (drop x b)) stays.bytes
              ∙ sym (between-part z.ring tail x n (reach tail s) a (omega (arith, r)) (omega (arith, most))),
        )

    -- a record taken at a step's head is there at the last head
    taken-later : (x size : ℕ) → x ≤ reach tail s → There asked s.ring s.head (count x) (length z.scratch) size
        → (x + size ≤ reach tail s) × Linked (record { tail = count x; record-bytes = record_at s.ring (count x % length s.ring) size })
    taken-later x size h w =
        let low = w.size_low in
        let c : ℕ = count x % length s.ring in
        let pos = (length-bounds (length s.ring) w.allowed).0 in
        let in-ring = mod-lt (count x) {m = length s.ring} (omega arith) in
        let b = bytes-later x size h w.allowed w.near (omega arith) w.size-near in
        let l : length (record_at s.ring c size) ≡ size = record-length s.ring c size (omega arith) (omega (arith, w.near, w.size-near)) in (
          b.0,
          record {
            there = subst (There asked z.ring z.head (count x) (length z.scratch)) (sym l)
                (there-later asked s.ring z.ring s.head z.head (count x) (length z.scratch) size w (mod-lt (tail + x) {m = 2 ^ 64} (omega arith))
                stays.ring-length eight b.1 b.2 b.3);
            bytes = b.3 ∙ ap (record_at z.ring (count x % length z.ring)) (sym l);
          },
        )

    abbrev next : ℕ → Spot → Frame
    next n p = spot_frame (frame asked s.ring s.head) n p

    -- along a drain that begins x bytes past the first tail: where it stands, and how far that is
    abbrev Kept : ℕ → Spot → Type 0
    Kept x p = (p.tail ≡ count (x + p.bytes)) × (x + p.bytes ≤ reach tail s) × (length p.scratch ≡ length z.scratch)

    goes_on : (x n : ℕ) (p : Spot) → Kept x p → (next n p).go ≡ true → (x + p.bytes + (next n p).size ≤ reach tail s) × Linked (cut_at s.ring p (next n p))
    goes_on x n p k g =
        let f : Frame = next n p in
        let c : ℕ = count (x + p.bytes) in
        let e = k.0 in
        let at : f.place ≡ c % length s.ring = (frame-going asked s.ring s.head p.tail n p.room (length p.scratch) g).at ∙ ap (λ (t : ℕ). t % length s.ring) e in
        let w = frame-there asked s.ring s.head p.tail n p.room (length p.scratch) f refl g
        (subst (λ (t : ℕ). t < 2 ^ 64) (sym e) (mod-lt (tail + (x + p.bytes)) {m = 2 ^ 64} (omega arith))) in
        let v = taken-later (x + p.bytes) f.size k.1
        (subst (λ (l : ℕ). There asked s.ring s.head c l f.size) k.2 (subst (λ (t : ℕ). There asked s.ring s.head t (length p.scratch) f.size) e w)) in
        let same : record { tail = c; record-bytes = record_at s.ring (c % length s.ring) f.size } ≡ cut_at s.ring p f =
        λ i. record { tail = sym e i; record-bytes = record_at s.ring (sym at i) f.size } in
        (v.0, subst Linked same v.1)

    drain_steps : (x : ℕ) → Stepping s.ring (Kept x) Linked (frame asked s.ring s.head)
    drain_steps x =
        record {
          paid = frame-paid asked s.ring s.head;
          roomy = frame-roomy asked s.ring s.head;
          stops = λ t n room scratch g. frame-stop asked s.ring s.head t n room scratch g;
          long = λ n p g. going-length asked s.ring s.head p.tail n p.room (length p.scratch) _
              (frame-going asked s.ring s.head p.tail n p.room (length p.scratch) g);
          kept = λ n p k g.
              let f : Frame = next n p in
              let e = k.0 in
              (omega (arith, e), omega (arith, (goes_on x n p k g).0), scratch-length s.ring f.place f.size p.scratch ∙ k.2);
          each = λ n p k g. (goes_on x n p k g).1;
        }

    pub step-way : (x : ℕ) → x ≤ reach tail s → Way x (reach tail s) (step_cuts asked (count x) s).records (step_cuts asked (count x) s).last.tail
    step-way x h =
        let p : Spot = begin (count x) (length s.journal) s.scratch in
        let e : x + 0 ≡ x = omega arith in
        let a = along s.ring (Kept x) Linked (frame asked s.ring s.head) (drain_steps x) s.budget p (mod-lt (tail + x) {m = 2 ^ 64} (omega arith))
        (ap count (sym e), omega arith, stays.scratch-length) in
        let l = a.last in
        record {
          bytes = x + (step_cuts asked (count x) s).last.bytes;
          end_is = l.0;
          reached = l.1;
          counted = omega (arith, a.sum, total-low asked z.ring z.head (length z.scratch) (step_cuts asked (count x) s).records a.each);
          tails = a.tails;
          links = a.each;
        }

  -- ---- the series: what it gave is what the records of one chain give, from the first tail on
  pub record Along (judge : List ℕ → ℕ) (g : Given) (far : ℕ) : Type 0 where
    pub records : List Cut
    pub way : Way 0 far records g.tail
    pub taken : g.taken ≡ length records
    pub entries-are : g.entries ≡ entries judge records

  module _ (judge : List ℕ → ℕ) where
    pub along-step : (g : Given) (far : ℕ) (s : Step) → Along judge g far → far ≤ reach tail s → Stays tail z s → reach tail s ≤ reach tail z
        → Along judge (onward asked judge g s) (reach tail s)
    along-step g far s a h stays before =
        let y : ℕ = a.way.bytes in
        let reached = a.way.reached in
        let v = step-way s stays before y (omega arith) in
        let e : count y ≡ g.tail = sym a.way.end_is in
        let w : Way y (reach tail s) (step_cuts asked g.tail s).records (step_cuts asked g.tail s).last.tail =
        subst (λ (t : ℕ). Way y (reach tail s) (step_cuts asked t s).records (step_cuts asked t s).last.tail) e v in
        let d = drain-reads asked judge g.tail s in
        let cs : List Cut = a.records in
        let ds : List Cut = (step_cuts asked g.tail s).records in
        let n : length (cs ++ ds) ≡ length cs + length ds = length-append cs ds in
        record {
          records = cs ++ ds;
          way = record {
            bytes = w.bytes;
            end_is = d.tail ∙ w.end_is;
            reached = w.reached;
            counted = omega (arith, a.way.counted, w.counted, n);
            tails = chained-on (count 0) (count y) _ cs ds (subst (Chained (count 0) cs) (sym e) a.way.tails) (subst (Chained (count y) ds) (sym d.tail) w.tails);
            links = all_append Linked cs ds a.way.links w.links;
          };
          taken = omega (arith, a.taken, d.taken, n);
          entries-are = ap (λ (x : List ℕ). x ++ entries_of (drain_at asked judge g.tail s)) a.entries-are
              ∙ ap (λ (x : List ℕ). entries judge cs ++ x) d.entries-are
              ∙ sym (entries-append judge cs ds);
        }

    steady-far : (far : ℕ) (ss : List Step) → Steady tail far ss z → far ≤ reach tail z
    steady-far far [] h = h
    steady-far far (s ∷ ss) h = omega (arith, h.0, steady-far (reach tail s) ss h.2)

    pub along-series : (ss : List Step) (g : Given) (far : ℕ) → Along judge g far → Steady tail far ss z → Along judge (series asked judge g ss) (reach tail z)
    unfolding series
    along-series [] g far a h =
        let w = a.way in
        record {
          records = a.records;
          way = record { bytes = w.bytes; end_is = w.end_is; reached = omega (arith, w.reached); counted = w.counted; tails = w.tails; links = w.links };
          taken = a.taken;
          entries-are = a.entries-are;
        }
    along-series (s ∷ ss) g far a h =
        along-series ss (onward asked judge g s) (reach tail s) (along-step g far s a h.0 h.1 (steady-far (reach tail s) ss h.2)) h.2

    pub along-from : Along judge (from tail) 0
    unfolding entries
    along-from =
        let e : tail ≡ count 0 = omega arith in
        record {
          records = [];
          way = record { bytes = 0; end_is = e; reached = omega arith; counted = omega arith; tails = sym e; links = tt };
          taken = refl;
          entries-are = refl;
        }

    -- the same up to a step s, with how far its own head is
    pub along-to : (ss : List Step) (g : Given) (far : ℕ) (s : Step) → Along judge g far → Steady tail far (ss ++ (s ∷ [])) z
        → Along judge (onward asked judge (series asked judge g ss) s) (reach tail s) × Stays tail z s × (reach tail s ≤ reach tail z)
    unfolding series
    along-to [] g far s a h = (along-step g far s a h.0 h.1 h.2, h.1, h.2)
    along-to (x ∷ ss) g far s a h =
        along-to ss (onward asked judge g x) (reach tail x) s (along-step g far x a h.0 h.1 (steady-far (reach tail x) (ss ++ (s ∷ [])) h.2)) h.2
