-- The loop over records of two plain rings, in the words of its variables. Assumes nothing.
use Rattle.std.specs.Prelude.{◌≡◌, refl, ℕ, suc, ◌+◌, ◌%◌, ◌^◌, ◌<◌, true, false, ◌&&◌, List, length}
use Rattle.std.proofs.Common.{sym, ap, ap₂, ◌∙◌, subst}
use Rattle.meaning.specs.States.{Frame}
use Rattle.meaning.specs.Bytes.{small}
use Rattle.meaning.specs.Ring.{Asked, record_at, scratch_after, frame}
use Rattle.laws.specs.Rings.{scratch-length}
use Rattle.runs.specs.Cutting.{Spot}
use Rattle.compare.specs.declared.Compared.{Compared}
use Rattle.compare.specs.Fields.{Reads, fields}
use Rattle.compare.specs.Compared.{alike, agree, report, Side, side_of, compared, scratch_then}
use Rattle.compare.proofs.Sides.{framed-side}
use Rattle.compare.specs.Turns.{end_of}
use Rattle.compare.proofs.Turns.{ComparedHolds, holds-start, ends-any, pair}

abbrev spot : ℕ → ℕ → List ℕ → Spot
spot tail bytes scratch = record { tail = tail; bytes = bytes; room = 0; scratch = scratch }

module _ (R : Reads) (asked : Asked) (x y : List ℕ) (hl hr tl tr : ℕ) (ul ur : List ℕ) where
  abbrev L : Side
  L = side_of asked x hl tl ul

  abbrev Q : Side
  Q = side_of asked y hr tr ur

  -- n pairs are equal, the tails are t and s, the scratches u and v
  pub record Here (n t s : ℕ) (u v : List ℕ) : Type 0 where
    pub b : ℕ
    pub c : ℕ
    pub holds : ComparedHolds R L Q hl hr n (spot t b u) (spot s c v)
    pub u-long : length u ≡ length ul
    pub v-long : length v ≡ length ur

  -- what the function ensures
  pub record Ensured (r : Compared) (u v : List ℕ) : Type 0 where
    pub result : r ≡ compared R L Q
    pub left : u ≡ scratch_then r L
    pub right : v ≡ scratch_then r Q

  -- a pair: equal, and on; or not, and the end. f and g are its frames
  pub record PairOf (n t s : ℕ) (u v : List ℕ) (f g : Frame) : Type 0 where
    pub again : alike (fields R (record_at x f.place f.size)) (fields R (record_at y g.place g.size)) ≡ true
        → Here (suc n) ((t + f.size) % 2 ^ 64) ((s + g.size) % 2 ^ 64) (scratch_after x f.place f.size u) (scratch_after y g.place g.size v)
    pub differ : alike (fields R (record_at x f.place f.size)) (fields R (record_at y g.place g.size)) ≡ false
        → (k : ℕ) → agree (fields R (record_at x f.place f.size)) (fields R (record_at y g.place g.size)) ≡ k → (r : Compared) → r ≡ report 1 0 n k
        → Ensured r (scratch_after x f.place f.size u) (scratch_after y g.place g.size v)
    pub count : n < length x

  pub here-same : (n m t t₁ s s₁ : ℕ) (u u₁ v v₁ : List ℕ) → n ≡ m → t ≡ t₁ → s ≡ s₁ → u ≡ u₁ → v ≡ v₁ → Here n t s u v → Here m t₁ s₁ u₁ v₁
  here-same n m t t₁ s s₁ u u₁ v v₁ p q r a b h =
      subst (λ (z : ℕ). Here z t₁ s₁ u₁ v₁) p (subst (λ (z : ℕ). Here n z s₁ u₁ v₁) q (subst (λ (z : ℕ). Here n t z u₁ v₁) r
      (subst (λ (z : List ℕ). Here n t s z v₁) a (subst (λ (z : List ℕ). Here n t s u z) b h))))

  pub ensured-same : (r : Compared) (u u₁ v v₁ : List ℕ) → u ≡ u₁ → v ≡ v₁ → Ensured r u v → Ensured r u₁ v₁
  ensured-same r u u₁ v v₁ a b h = subst (λ (z : List ℕ). Ensured r z v₁) a (subst (λ (z : List ℕ). Ensured r u z) b h)

module _ (R : Reads) (asked : Asked) (x y : List ℕ) (hl hr tl tr : ℕ) (ul ur : List ℕ) (sx : small x ≡ true) (sy : small y ≡ true) (dl : hl < 2 ^ 64) (dr : hr < 2 ^ 64) where
  abbrev LS : Side
  LS = side_of asked x hl tl ul

  abbrev RS : Side
  RS = side_of asked y hr tr ur

  abbrev At : ℕ → ℕ → ℕ → List ℕ → List ℕ → Type 0
  At = Here R asked x y hl hr tl tr ul ur

  pub here-start : tl < 2 ^ 64 → tr < 2 ^ 64 → At 0 tl tr ul ur
  here-start p q = record {
    b = 0;
    c = 0;
    holds = holds-start R LS RS hl hr (framed-side asked x hl tl ul sx) (framed-side asked y hr tr ur sy) p q;
    u-long = refl;
    v-long = refl;
  }

  pub here-ends : (n t s : ℕ) (u v : List ℕ) (f g : Frame) (r : Compared) → At n t s u v → f ≡ frame asked x hl t 1 16 (length u) → g ≡ frame asked y hr s 1 16 (length v)
      → f.go && g.go ≡ false → r ≡ end_of f g n → Ensured R asked x y hl hr tl tr ul ur r u v
  here-ends n t s u v f g r h p q e z =
      let a = ends-any R LS RS hl hr (framed-side asked x hl tl ul sx) (framed-side asked y hr tr ur sy) n (spot t h.b u) (spot s h.c v) h.holds
      (ap₂ (λ (f g : Frame). f.go && g.go) (sym p) (sym q) ∙ e) in
      let w : r ≡ end_of (frame asked x hl t 1 16 (length u)) (frame asked y hr s 1 16 (length v)) n = z ∙ ap₂ (λ (f g : Frame). end_of f g n) p q in
      record { result = w ∙ a.told; left = sym (ap (λ (c : Compared). scratch_then c LS) w ∙ a.left); right = sym (ap (λ (c : Compared). scratch_then c RS) w ∙ a.right) }

  pair_of : (n t s : ℕ) (u v : List ℕ) → At n t s u v → (frame asked x hl t 1 16 (length u)).go ≡ true → (frame asked y hr s 1 16 (length v)).go ≡ true
      → PairOf R asked x y hl hr tl tr ul ur n t s u v (frame asked x hl t 1 16 (length u)) (frame asked y hr s 1 16 (length v))
  pair_of n t s u v h p q =
      let f : Frame = frame asked x hl t 1 16 (length u) in
      let g : Frame = frame asked y hr s 1 16 (length v) in
      let a = pair R LS RS hl hr (framed-side asked x hl tl ul sx) (framed-side asked y hr tr ur sy) dl dr n (spot t h.b u) (spot s h.c v) h.holds p q in
      record {
        again = λ e. record {
          b = h.b + f.size;
          c = h.c + g.size;
          holds = a.again e;
          u-long = scratch-length x f.place f.size u ∙ h.u-long;
          v-long = scratch-length y g.place g.size v ∙ h.v-long;
        };
        differ = λ e k i r z.
            let w = z ∙ ap (λ (j : ℕ). report 1 0 n j) (sym i) in
            let d = a.differ e in
            record { result = w ∙ d.told; left = sym (ap (λ (c : Compared). scratch_then c LS) w ∙ d.left); right = sym (ap (λ (c : Compared). scratch_then c RS) w ∙ d.right) };
        count = a.count;
      }

  pub here-pair : (n t s : ℕ) (u v : List ℕ) (f g : Frame) → At n t s u v → f ≡ frame asked x hl t 1 16 (length u) → g ≡ frame asked y hr s 1 16 (length v)
      → f.go ≡ true → g.go ≡ true → PairOf R asked x y hl hr tl tr ul ur n t s u v f g
  here-pair n t s u v f g h p q a b =
      subst (λ (z : Frame). PairOf R asked x y hl hr tl tr ul ur n t s u v z g) (sym p) (subst (λ (z : Frame). PairOf R asked x y hl hr tl tr ul ur n t s u v (frame asked x hl t 1 16 (length u)) z) (sym q)
      (pair_of n t s u v h (ap (λ (z : Frame). z.go) (sym p) ∙ a) (ap (λ (z : Frame). z.go) (sym q) ∙ b)))
