-- Records one after the other in a ring under a head: where a drain has budget and room for them it takes them, and goes on after them. Assumes nothing.
use Rattle.std.specs.Prelude.{◌≡◌, refl, Bool, true, false, ℕ, zero, suc, ◌+◌, ◌-◌, ◌*◌, ◌%◌, ◌^◌, ◌≤◌, length, take, drop}
use Rattle.std.proofs.Math.Path.{sym, ap}
use Rattle.std.proofs.Common.{◌∙◌, subst, zero-add, arith, take_at}
use mathlib.Core.List.{List, [], ◌∷◌, ◌++◌}
use Rattle.meaning.specs.States.{Frame}
use Rattle.meaning.specs.Bytes.{put}
use Rattle.meaning.specs.Ring.{Asked, go_at, frame, record_at}
use Rattle.meaning.specs.Drain.{End}
use Rattle.laws.specs.Put.{put-start}
use Rattle.laws.specs.Rings.{scratch-length}
use Rattle.runs.specs.Cutting.{Cut, Spot, Cuts, add, spot_frame, cut_at, spot_after, halt, cut_by, cutting_by, entries, total, Chained, All}
use Rattle.runs.proofs.Runs.{run-cut, cut_fits, cut-go, cut-stop, length-entries}
use Rattle.runs.proofs.Forward.{frame-paid, frame-roomy}
use Rattle.series.specs.Series.{Step, drain_at, entries_of}
use Rattle.series.proofs.Goings.{There, there-frame}

-- a record that is there, at its own tail; `Chained` says that each tail is the one before it, moved by its record's size
pub record Link (asked : Asked) (ring : List ℕ) (head scratch : ℕ) (c : Cut) : Type 0 where
  pub there : There asked ring head c.tail scratch (length c.record-bytes)
  pub bytes : c.record-bytes ≡ record_at ring (c.tail % length ring) (length c.record-bytes)

-- each takes 8 bytes at least
pub total-low : (asked : Asked) (ring : List ℕ) (head scratch : ℕ) (cs : List Cut) → All (Link asked ring head scratch) cs → 8 * length cs ≤ total cs
unfolding total
total-low asked ring head scratch [] a = omega arith
total-low asked ring head scratch (c ∷ cs) a = omega (arith, a.0.there.size_low, total-low asked ring head scratch cs a.1)

-- ---- a cutting that begins with records given, and goes on as another one

pub record Then (cs : List Cut) (w v : Cuts) : Type 0 where
  pub records : w.records ≡ cs ++ v.records
  pub tail : w.last.tail ≡ v.last.tail
  pub stop : w.stop ≡ v.stop

-- of a scratch the length alone matters
pub record Alike (p q : Spot) : Type 0 where
  pub tail : p.tail ≡ q.tail
  pub room : p.room ≡ q.room
  pub scratch : length p.scratch ≡ length q.scratch

module _ (asked : Asked) (ring : List ℕ) (head : ℕ) where
  abbrev cuts : ℕ → Spot → Cuts
  cuts n p = cut_by (frame asked ring head) ring n p

  abbrev next : ℕ → Spot → Frame
  next n p = spot_frame (frame asked ring head) n p

  next-alike : (n : ℕ) (p q : Spot) → Alike p q → next n p ≡ next n q
  next-alike n p q a =
      ap (λ (t : ℕ). frame asked ring head t n p.room (length p.scratch)) a.tail
      ∙ ap (λ (r : ℕ). frame asked ring head q.tail n r (length p.scratch)) a.room
      ∙ ap (frame asked ring head q.tail n q.room) a.scratch

  stop-alike : (n : ℕ) (p q : Spot) → Alike p q → (next n p).go ≡ false → Then [] (cuts n p) (cuts n q)
  stop-alike n p q a g =
      let f : next n p ≡ next n q = next-alike n p q a in
      let w : cuts n p ≡ halt p (next n p) = cut-stop (frame asked ring head) ring n p g in
      let v : cuts n q ≡ halt q (next n q) = cut-stop (frame asked ring head) ring n q (ap (λ (x : Frame). x.go) (sym f) ∙ g) in
      record {
        records = ap (λ (x : Cuts). x.records) w ∙ sym (ap (λ (x : Cuts). x.records) v);
        tail = ap (λ (x : Cuts). x.last.tail) w ∙ a.tail ∙ sym (ap (λ (x : Cuts). x.last.tail) v);
        stop = ap (λ (x : Cuts). x.stop) w ∙ ap (λ (x : Frame). x.stop) f ∙ sym (ap (λ (x : Cuts). x.stop) v);
      }

  after-alike : (p q : Spot) (f : Frame) → Alike p q → Alike (spot_after ring p f) (spot_after ring q f)
  after-alike p q f a =
      record {
        tail = ap (λ (t : ℕ). (t + f.size) % 2 ^ 64) a.tail;
        room = ap (λ (r : ℕ). r - 16) a.room;
        scratch = scratch-length ring f.place f.size p.scratch ∙ a.scratch ∙ sym (scratch-length ring f.place f.size q.scratch);
      }

  go-alike : (n : ℕ) (p q : Spot) → Alike p q → (next (suc n) p).go ≡ true
      → Then [] (cuts n (spot_after ring p (next (suc n) p))) (cuts n (spot_after ring q (next (suc n) p))) → Then [] (cuts (suc n) p) (cuts (suc n) q)
  unfolding cut_by
  go-alike n p q a g t =
      let f : Frame = next (suc n) p in
      let e : next (suc n) q ≡ f = sym (next-alike (suc n) p q a) in
      let c : cut_at ring p f ≡ cut_at ring q f = ap (λ (x : ℕ). record { tail = x; record-bytes = record_at ring f.place f.size }) a.tail in
      let w = cut-go (frame asked ring head) ring n p g in
      let v : cuts (suc n) q ≡ add (cut_at ring q f) (cuts n (spot_after ring q f)) = cut-go (frame asked ring head) ring n q (ap (λ (x : Frame). x.go) e ∙ g)
      ∙ ap (λ (x : Frame). add (cut_at ring q x) (cuts n (spot_after ring q x))) e in
      record {
        records = ap (λ (x : Cuts). x.records) w
            ∙ ap (λ (x : Cut). x ∷ (cuts n (spot_after ring p f)).records) c
            ∙ ap (λ (x : List Cut). cut_at ring q f ∷ x) t.records
            ∙ sym (ap (λ (x : Cuts). x.records) v);
        tail = ap (λ (x : Cuts). x.last.tail) w ∙ t.tail ∙ sym (ap (λ (x : Cuts). x.last.tail) v);
        stop = ap (λ (x : Cuts). x.stop) w ∙ t.stop ∙ sym (ap (λ (x : Cuts). x.stop) v);
      }

  pub cuts-alike : (n : ℕ) (p q : Spot) → Alike p q → Then [] (cuts n p) (cuts n q)
  cuts-alike zero p q a = by (next 0 p).go refl
    where
      by : (b : Bool) → (next 0 p).go ≡ b → Then [] (cuts 0 p) (cuts 0 q)
      by true g = let z = frame-paid asked ring head p.tail 0 p.room (length p.scratch) g in absurd (omega arith)
      by false g = stop-alike 0 p q a g
  cuts-alike (suc n) p q a = by (next (suc n) p).go refl (λ x. cuts-alike n (spot_after ring p (next (suc n) p)) (spot_after ring q (next (suc n) p)) x)
    where
      by : (b : Bool) → (next (suc n) p).go ≡ b
          → (Alike (spot_after ring p (next (suc n) p)) (spot_after ring q (next (suc n) p))
          → Then [] (cuts n (spot_after ring p (next (suc n) p))) (cuts n (spot_after ring q (next (suc n) p))))
          → Then [] (cuts (suc n) p) (cuts (suc n) q)
      by true g r = go-alike n p q a g (r (after-alike p q (next (suc n) p) a))
      by false g r = stop-alike (suc n) p q a g

  -- a record that is there is taken
  link-cut : (scratch : ℕ) (c : Cut) (p : Spot) (n : ℕ) → c.tail ≡ p.tail → Link asked ring head scratch c → length p.scratch ≡ scratch → 16 ≤ p.room
      → cuts (suc n) p ≡ add c (cuts n (spot_after ring p (go_at (p.tail % length ring) (length c.record-bytes))))
  link-cut scratch c p n t l s j =
      let z : ℕ = length c.record-bytes in
      let f : Frame = go_at (p.tail % length ring) z in
      let e : next (suc n) p ≡ f = ap (frame asked ring head p.tail (suc n) p.room) s
      ∙ there-frame asked ring head p.tail (suc n) p.room scratch z (subst (λ (x : ℕ). There asked ring head x scratch z) t l.there) (omega arith) j in
      let b : c.record-bytes ≡ record_at ring (p.tail % length ring) z = l.bytes ∙ ap (λ (x : ℕ). record_at ring (x % length ring) z) t in
      let k : c ≡ cut_at ring p f = λ i. record { tail = t i; record-bytes = b i } in
      cut-go (frame asked ring head) ring n p (ap (λ (x : Frame). x.go) e)
      ∙ ap (λ (x : Frame). add (cut_at ring p x) (cuts n (spot_after ring p x))) e
      ∙ ap (λ (x : Cut). add x (cuts n (spot_after ring p f))) (sym k)

  -- with budget and room for them all, records that follow one another are taken, and then what follows
  pub chain-cuts : (scratch : ℕ) (cs : List Cut) (end : ℕ) (p q : Spot) (n m : ℕ) → Chained p.tail cs end → All (Link asked ring head scratch) cs
      → q.tail ≡ end → length p.scratch ≡ scratch → length q.scratch ≡ scratch → n ≡ length cs + m → p.room ≡ 16 * length cs + q.room
      → Then cs (cuts n p) (cuts m q)
  chain-cuts scratch [] end p q n m a ls t s u b r =
      let e : n ≡ m = omega arith in
      let o : p.room ≡ q.room = omega arith in
      subst (λ (k : ℕ). Then [] (cuts n p) (cuts k q)) e (cuts-alike n p q (record { tail = a ∙ sym t; room = o; scratch = s ∙ sym u }))
  chain-cuts scratch (c ∷ cs) end p q zero m a ls t s u b r = absurd (omega arith)
  chain-cuts scratch (c ∷ cs) end p q (suc n) m a ls t s u b r =
      let f : Frame = go_at (p.tail % length ring) (length c.record-bytes) in
      let l = link-cut scratch c p n a.0 ls.0 s (omega arith) in
      let w = chain-cuts scratch cs end (spot_after ring p f) q n m a.1 ls.1 t (scratch-length ring f.place f.size p.scratch ∙ s) u (omega arith) (omega arith) in
      record {
        records = ap (λ (y : Cuts). y.records) l ∙ ap (λ (y : List Cut). c ∷ y) w.records;
        tail = ap (λ (y : Cuts). y.last.tail) l ∙ w.tail;
        stop = ap (λ (y : Cuts). y.stop) l ∙ w.stop;
      }

-- ---- a drain, by its cutting: for any judge

abbrev pub step_cuts : Asked → ℕ → Step → Cuts
step_cuts asked tail s = cutting_by asked s.ring s.head tail s.budget (length s.journal) s.scratch

pub record Read (judge : List ℕ → ℕ) (w : Cuts) (d : End) : Type 0 where
  pub taken : d.state.taken ≡ length w.records
  pub entries-are : entries_of d ≡ entries judge w.records
  pub tail : d.state.tail ≡ w.last.tail
  pub stop : d.stop ≡ w.stop

pub drain-reads : (asked : Asked) (judge : List ℕ → ℕ) (tail : ℕ) (s : Step) → Read judge (step_cuts asked tail s) (drain_at asked judge tail s)
drain-reads asked judge tail s =
    let w : Cuts = step_cuts asked tail s in
    let es : List ℕ = entries judge w.records in
    let k : ℕ = length w.records in
    let roomy = frame-roomy asked s.ring s.head in
    let e = run-cut (frame asked s.ring s.head) roomy s.ring tail s.budget s.journal s.scratch judge in
    let z : 0 + k ≡ k = zero-add k in
    let l : length es ≡ 16 * k = length-entries judge w.records in
    let fits = cut_fits (frame asked s.ring s.head) roomy s.ring tail s.budget s.journal s.scratch in
    record {
      taken = ap (λ (x : End). x.state.taken) e ∙ z;
      entries-are = ap (λ (x : End). entries_of x) e
          ∙ ap (λ (x : ℕ). take (16 * x) (put s.journal (16 * 0) es)) z
          ∙ ap (take (16 * k)) (put-start s.journal es (omega arith))
          ∙ take_at es (drop (length es) s.journal) (16 * k) l;
      tail = ap (λ (x : End). x.state.tail) e;
      stop = ap (λ (x : End). x.stop) e;
    }
