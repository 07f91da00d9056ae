-- The types whose bytes decide: a name after fields of one width, the build-id form of MMAP2, NAMESPACES, READ of a group, TEXT_POKE. Assumes nothing.
use Rattle.std.specs.Prelude.{◌≡◌, Bool, true, cond, ◌&&◌, ℕ, ◌+◌, ◌-◌, ◌*◌, ◌%◌, ◌<◌, ◌≤◌, drop, leb, ltb}
use Rattle.std.proofs.Math.Path.{refl, sym, ap}
use Rattle.std.proofs.Common.{◌∙◌, subst, arith, le-leb, leb-true, leb-false, ltb-true, ltb-false, eq-eqb, ne_eqb}
use Rattle.std.proofs.Math.Bool.{false}
use mathlib.Core.List.{List, [], ◌∷◌, ◌++◌}
use Rattle.std.proofs.Math.Logic.{⊎_elim}
use Rattle.std.proofs.Math.ListN.{length}
use Rattle.std.proofs.lemmas.Bool.{lt-leb}
use Rattle.laws.specs.Again.{stuck}
use Rattle.laws.specs.Bytes.{le-or-lt}
use Rattle.meaning.specs.States.{Cursor}
use Rattle.meaning.specs.declared.Item.{Item}
use Rattle.meaning.specs.declared.Shape.TheVariants.{Number, Ignored, Count, Times, Earlier, Limit, Listed, Pad, Name}
use Rattle.meaning.specs.declared.Width.TheVariants.{W2, W8}
use Rattle.meaning.specs.Bytes.{number_at, zero_in}
use Rattle.meaning.specs.Items.{cursor, span, rule, holds, counted, before, shape_step, step, walk}
use Rattle.meaning.specs.Schema.{item, always, u32, u64, group_bytes, mmap2}
use Rattle.meaning.specs.Records.{closed}
use Rattle.laws.specs.Shapes.{shape-out, shape-bad, shape-in, name_in, name-none, name-early}
use Rattle.blocks.specs.Seen.{Place, place, Leaves, Closes, closed_at, walk-append, closes-then, closes-stuck, closes-end}
use Rattle.blocks.specs.Steady.{one_width, width_of, steady, total, steady-in, steady-leaves, steady-refused}
use Rattle.blocks.specs.Blocks.{build_front, prot_flags, counted_with, counted_place, counted-leaves, count-in, count-out, times-in, times-out, goes, halts}
use Rattle.blocks.specs.Scan.{name_ok}
use Rattle.exact.specs.Stretches.{group_times, group_fixed, group_list}

-- ---- names

-- a name that starts at a place: 30 where the fields before it are not there, 33 by the rule of its room
unfoldable pub name_answer : List ℕ → ℕ → ℕ
name_answer F from = cond (leb from (length F)) (cond (name_ok F from) 0 33) 30

pub name-short : (F : List ℕ) (from : ℕ) → length F < from → name_answer F from ≡ 30
unfolding name_answer
name-short F from h = rw (lt-leb from (length F) h)

pub name-there : (F : List ℕ) (from : ℕ) → from ≤ length F → name_answer F from ≡ cond (name_ok F from) 0 33
unfolding name_answer
name-there F from h = rw (le-leb from (length F) h)

-- the name's own rule, whatever was remembered
name-closes : (F : List ℕ) (from : ℕ) → Closes F (always Name ∷ []) from (cond (name_ok F from) 0 33)
unfolding Closes walk step name_ok closed
name-closes F from n old = sym (go (ltb z (length F)) (leb (length F) (z + 8)) refl refl)
  where
    z : ℕ
    z = from + zero_in (drop from F)

    c₀ : Cursor
    c₀ = cursor from n old 0

    done : (c : Cursor) (x : ℕ) → c ≡ shape_step Name c₀ (drop from F) → closed (length F) c ≡ x → closed (length F) (shape_step Name c₀ (drop from F)) ≡ x
    done c x e g = ap (closed (length F)) (sym e) ∙ g

    full : closed (length F) (cursor (length F) n old 0) ≡ 0
    full = rw (eq-eqb (length F) (length F) refl)

    bad : closed (length F) (cursor from n old 33) ≡ 33
    bad = refl

    go : (t u : Bool) → ltb z (length F) ≡ t → leb (length F) (z + 8) ≡ u → closed (length F) (shape_step Name c₀ (drop from F)) ≡ cond (t && u) 0 33
    go true true p q = done _ 0 (name_in F c₀ z refl (ltb-true _ _ p) (leb-true _ _ q)) full
    go true false p q = done _ 33 (name-early F c₀ (leb-false _ _ q)) bad
    go false u p q = done _ 33 (name-none F c₀ (ltb-false _ _ p)) bad

-- items of one width, then a name
pub named-closes : (F : List ℕ) (is : List Item) (at from : ℕ) → steady is ≡ true → at + total is ≡ from → at ≤ length F
    → Closes F (is ++ (always Name ∷ [])) at (name_answer F from)
named-closes F is at from f e l =
    ⊎_elim
    (λ (h : from ≤ length F).
    subst (Closes F (is ++ (always Name ∷ [])) at) (sym (name-there F from h))
    (closes-then F is (always Name ∷ []) at (place from 0) (cond (name_ok F from) 0 33)
    (subst (λ (k : ℕ). Leaves F is at (place k 0)) e (steady-leaves F is at (total is) f refl (omega (arith, e, h)))) refl (name-closes F from)))
    (λ (h : length F < from).
    subst (Closes F (is ++ (always Name ∷ [])) at) (sym (name-short F from h))
    (closes-stuck F is (always Name ∷ []) at (place 0 30) (steady-refused F is at (total is) f refl l (omega (arith, e, h))) (λ z. omega (arith, z))))
    (le-or-lt from (length F))

-- ---- the build-id form of MMAP2

-- after the size of its build id, up to the name
abbrev build_back : List Item
build_back = always (Ignored 3) ∷ always (Listed 20) ∷ prot_flags

-- "build id size at most 20", alone
abbrev size20 : List Item
size20 = always (Limit 20) ∷ []

module _ (F : List ℕ) where
  limit-out : (at : ℕ) → length F - at < 1 → Leaves F size20 at (place 0 30)
  unfolding Leaves step span
  limit-out at h n old = halts F _ _ at n old 30 (sym (shape-out (Limit 20) F (cursor at n old 0) 1 refl h)) (λ q. omega (arith, q))

  limit-bad : (at : ℕ) → 1 ≤ length F - at → 20 < number_at 1 F at → Leaves F size20 at (place 0 32)
  unfolding Leaves step span rule
  limit-bad at h g n old =
      halts F _ _ at n old 32 (sym (shape-bad (Limit 20) F (cursor at n old 0) 1 refl 32 h (rw (lt-leb (number_at 1 F at) 20 g)) (λ q. omega (arith, q)))) (λ q. omega (arith, q))

  limit-in : (at : ℕ) → 1 ≤ length F - at → number_at 1 F at ≤ 20 → Leaves F size20 at (place (at + 1) 0)
  unfolding Leaves walk step Rattle.blocks.specs.Seen.seal span rule holds counted before
  limit-in at h g n old =
      let e : step F (always (Limit 20)) (cursor at n old 0) ≡ cursor (at + 1) (number_at 1 F at) old 0 =
      sym (shape-in (Limit 20) F (cursor at n old 0) 1 refl (number_at 1 F at) old h (rw (le-leb (number_at 1 F at) 20 g)) refl refl) in
      ap Rattle.blocks.specs.Seen.seal (sym e)

  fronted : 40 ≤ length F → Leaves F build_front 8 (place 40 0)
  unfolding steady one_width total width_of span
  fronted h = steady-leaves F build_front 8 32 refl refl (omega (arith, h))

  module _ (l : 8 ≤ length F) where
    pub build-short : length F % 8 ≡ 0 → length F < 48 → Closes F (mmap2 true) 8 30
    unfolding steady one_width total width_of span
    build-short m h =
        ⊎_elim
        (λ (q : 40 ≤ length F).
        closes-then F build_front (size20 ++ (build_back ++ (always Name ∷ []))) 8 (place 40 0) 30 (fronted q) refl
        (closes-stuck F size20 (build_back ++ (always Name ∷ [])) 40 (place 0 30) (limit-out 40 (omega (arith, m, h, q))) (λ z. omega (arith, z))))
        (λ (q : length F < 40).
        closes-stuck F build_front (size20 ++ (build_back ++ (always Name ∷ []))) 8 (place 0 30) (steady-refused F build_front 8 32 refl refl l (omega (arith, q))) (λ z. omega (arith, z)))
        (le-or-lt 40 (length F))

    pub build-bad : 48 ≤ length F → 20 < number_at 1 F 40 → Closes F (mmap2 true) 8 32
    build-bad h g =
        closes-then F build_front (size20 ++ (build_back ++ (always Name ∷ []))) 8 (place 40 0) 32 (fronted (omega (arith, h))) refl
        (closes-stuck F size20 (build_back ++ (always Name ∷ [])) 40 (place 0 32) (limit-bad 40 (omega (arith, h)) g) (λ z. omega (arith, z)))

    pub build-good : 48 ≤ length F → number_at 1 F 40 ≤ 20 → Closes F (mmap2 true) 8 (name_answer F 72)
    unfolding steady one_width total width_of span
    build-good h g =
        closes-then F build_front (size20 ++ (build_back ++ (always Name ∷ []))) 8 (place 40 0) (name_answer F 72) (fronted (omega (arith, h))) refl
        (closes-then F size20 (build_back ++ (always Name ∷ [])) 40 (place 41 0) (name_answer F 72) (limit-in 40 (omega (arith, h)) g) refl
        (named-closes F build_back 41 72 refl refl (omega (arith, h))))

-- ---- a count and elements after eight bytes, up to the end

abbrev pub namespaces : List Item
namespaces = u32 ∷ u32 ∷ counted_with [] 16

abbrev pub group_read : ℕ → List Item
group_read format = u32 ∷ u32 ∷ group_list format

module _ (F : List ℕ) (pre mid : List Item) (fixed unit : ℕ) (g : steady pre ≡ true) (w : total pre ≡ 8) (f : steady mid ≡ true) (e : fixed ≡ 8 + total mid) where
  pub elements-short : 8 ≤ length F → length F < 16 → Closes F (pre ++ counted_with mid unit) 8 30
  elements-short l h = closes-stuck F pre (counted_with mid unit) 8 (place 0 30) (steady-refused F pre 8 8 g w l (omega (arith, h))) (λ z. omega (arith, z))

  pub elements-closed : 16 ≤ length F → (p : Place) → p ≡ counted_place F 16 fixed unit → Closes F (pre ++ counted_with mid unit) 8 (closed_at (length F) p)
  elements-closed h p r =
      closes-then F pre (counted_with mid unit) 8 (place 16 0) (closed_at (length F) p) (steady-leaves F pre 8 8 g w (omega (arith, h))) refl
      (closes-end F (counted_with mid unit) 16 p (counted-leaves F 16 fixed unit mid f e h p r))

-- NAMESPACES
module _ (F : List ℕ) where
  pub namespaces-short : 8 ≤ length F → length F < 16 → Closes F namespaces 8 30
  unfolding steady one_width total width_of span
  namespaces-short l h = elements-short F (u32 ∷ u32 ∷ []) [] 8 16 refl refl refl refl l h

  pub namespaces-closed : 16 ≤ length F → (p : Place) → p ≡ counted_place F 16 8 16 → Closes F namespaces 8 (closed_at (length F) p)
  unfolding steady one_width total width_of span
  namespaces-closed h p r = elements-closed F (u32 ∷ u32 ∷ []) [] 8 16 refl refl refl refl h p r

-- READ of a group
module _ (F : List ℕ) (format : ℕ) where
  pub group-short : 8 ≤ length F → length F < 16 → Closes F (group_read format) 8 30
  unfolding steady one_width total width_of span
  group-short l h = elements-short F (u32 ∷ u32 ∷ item false (Number W8) ∷ []) (group_times format) (8 + total (group_times format)) (group_bytes format) refl refl refl refl l h

  pub group-closed : 16 ≤ length F → (p : Place) → p ≡ counted_place F 16 (group_fixed format) (group_bytes format) → Closes F (group_read format) 8 (closed_at (length F) p)
  unfolding steady one_width total width_of span group_fixed
  group-closed h p r = elements-closed F (u32 ∷ u32 ∷ item false (Number W8) ∷ []) (group_times format) (8 + total (group_times format)) (group_bytes format) refl refl refl refl h p r

-- ---- TEXT_POKE

abbrev pub text_poke : List Item
text_poke = u64 ∷ always (Count W2) ∷ always (Count W2) ∷ always (Earlier 1) ∷ always (Times 1) ∷ always Pad ∷ []

module _ (F : List ℕ) where
  abbrev old₁ : ℕ
  old₁ = number_at 2 F 16

  abbrev new₁ : ℕ
  new₁ = number_at 2 F 18

  -- a step that refuses
  refuses : (i : Item) (is : List Item) (at n old : ℕ) → step F i (cursor at n old 0) ≡ cursor at n old 30 → 30 ≡ closed (length F) (walk F (i ∷ is) (cursor at n old 0))
  unfolding closed
  refuses i is at n old e =
      let w : walk F (i ∷ is) (cursor at n old 0) ≡ cursor at n old 30 = goes F i is (cursor at n old 0) (cursor at n old 30) e ∙ stuck F is (cursor at n old 30) (λ z. omega (arith, z)) in
      rw w

  earlier-out : (at n old : ℕ) → length F - at < old * 1 → step F (always (Earlier 1)) (cursor at n old 0) ≡ cursor at n old 30
  unfolding step span
  earlier-out at n old h = sym (shape-out (Earlier 1) F (cursor at n old 0) (old * 1) refl h)

  earlier-in : (at n old : ℕ) → old * 1 ≤ length F - at → step F (always (Earlier 1)) (cursor at n old 0) ≡ cursor (at + old * 1) n old 0
  unfolding step span rule holds counted before
  earlier-in at n old h = sym (shape-in (Earlier 1) F (cursor at n old 0) (old * 1) refl n old h refl refl refl)

  pad-in : (at n old : ℕ) → (8 - at % 8) % 8 ≤ length F - at → step F (always Pad) (cursor at n old 0) ≡ cursor (at + (8 - at % 8) % 8) n old 0
  unfolding step span rule holds counted before
  pad-in at n old h = sym (shape-in Pad F (cursor at n old 0) ((8 - at % 8) % 8) refl n old h refl refl refl)

  -- past the first word
  worded : (is : List Item) (n old : ℕ) → 16 ≤ length F → walk F (u64 ∷ is) (cursor 8 n old 0) ≡ walk F is (cursor 16 n old 0)
  unfolding steady one_width total width_of span
  worded is n old h = walk-append F (u64 ∷ []) is (cursor 8 n old 0) ∙ ap (walk F is) (steady-in F (u64 ∷ []) 8 n old refl h)

  -- past both lengths
  lengths : (n old : ℕ) → 20 ≤ length F
      → walk F text_poke (cursor 8 n old 0) ≡ walk F (always (Earlier 1) ∷ always (Times 1) ∷ always Pad ∷ []) (cursor 20 new₁ old₁ 0)
  lengths n old h =
      worded _ n old (omega (arith, h))
      ∙ goes F _ _ _ _ (count-in F 16 n old W2 (omega (arith, h)))
      ∙ goes F _ _ _ _ (count-in F 18 old₁ n W2 (omega (arith, h)))

  word_out : 8 ≤ length F → length F < 16 → Closes F text_poke 8 30
  unfolding steady one_width total width_of span
  word_out l q =
      closes-stuck F (u64 ∷ []) (always (Count W2) ∷ always (Count W2) ∷ always (Earlier 1) ∷ always (Times 1) ∷ always Pad ∷ []) 8 (place 0 30)
      (steady-refused F (u64 ∷ []) 8 8 refl refl l (omega (arith, q))) (λ z. omega (arith, z))

  pub poke-short : 8 ≤ length F → length F < 20 → Closes F text_poke 8 30
  unfolding Closes
  poke-short l h n old =
      ⊎_elim
      (λ (q : 16 ≤ length F).
      ⊎_elim
      (λ (r : 18 ≤ length F).
      refuses _ _ 18 old₁ n (count-out F 18 old₁ n W2 (omega (arith, h)))
      ∙ ap (closed (length F)) (sym (worded _ n old q ∙ goes F _ _ _ _ (count-in F 16 n old W2 (omega (arith, r))))))
      (λ (r : length F < 18). refuses _ _ 16 n old (count-out F 16 n old W2 (omega (arith, r))) ∙ ap (closed (length F)) (sym (worded _ n old q)))
      (le-or-lt 18 (length F)))
      (λ (q : length F < 16). word_out l q n old)
      (le-or-lt 16 (length F))

  module _ (h : 20 ≤ length F) where
    pub poke-long : length F < 20 + (old₁ + new₁) → Closes F text_poke 8 30
    unfolding Closes
    poke-long g n old =
        ⊎_elim
        (λ (q : 20 + old₁ ≤ length F).
        refuses _ _ (20 + old₁ * 1) new₁ old₁ (times-out F (20 + old₁ * 1) new₁ old₁ 1 (omega (arith, g, q)))
        ∙ ap (closed (length F)) (sym (lengths n old h ∙ goes F _ _ _ _ (earlier-in 20 new₁ old₁ (omega (arith, q))))))
        (λ (q : length F < 20 + old₁). refuses _ _ 20 new₁ old₁ (earlier-out 20 new₁ old₁ (omega (arith, q))) ∙ ap (closed (length F)) (sym (lengths n old h)))
        (le-or-lt (20 + old₁) (length F))

    module _ (m : length F % 8 ≡ 0) (g : 20 + (old₁ + new₁) ≤ length F) where
      abbrev end₁ : ℕ
      end₁ = 20 + old₁ * 1 + new₁ * 1

      end_is : 20 + (old₁ + new₁) ≡ 20 + old₁ * 1 + new₁ * 1
      end_is = omega arith

      past : (n old : ℕ) → walk F text_poke (cursor 8 n old 0) ≡ cursor (end₁ + (8 - end₁ % 8) % 8) new₁ old₁ 0
      past n old =
          let e = end_is in
          lengths n old h
          ∙ goes F _ _ _ _ (earlier-in 20 new₁ old₁ (omega (arith, g)))
          ∙ goes F _ _ _ _ (times-in F (20 + old₁ * 1) new₁ old₁ 1 (omega (arith, g)))
          ∙ goes F _ [] _ _ (pad-in end₁ new₁ old₁ (padded (length F) end₁ m (omega (arith, g, e))))
          ∙ nil (cursor (end₁ + (8 - end₁ % 8) % 8) new₁ old₁ 0)
        where
          nil : (c : Cursor) → walk F [] c ≡ c
          nil c = unfold walk in refl

          padded : (len k : ℕ) → len % 8 ≡ 0 → k ≤ len → (8 - k % 8) % 8 ≤ len - k
          padded len k m l = omega arith

      -- where the padding ends
      ends_at : (len k : ℕ) → len % 8 ≡ 0 → k ≤ len → len - k < 8 → k + (8 - k % 8) % 8 ≡ len
      ends_at len k m l s = omega arith

      ends-before : (len k : ℕ) → len % 8 ≡ 0 → k ≤ len → 8 ≤ len - k → k + (8 - k % 8) % 8 ≡ len → ⊥
      ends-before len k m l s e = omega arith

      pub poke-good : length F - (20 + (old₁ + new₁)) < 8 → Closes F text_poke 8 0
      unfolding Closes closed
      poke-good s n old =
          let e = end_is in
          let q : end₁ + (8 - end₁ % 8) % 8 ≡ length F = ends_at (length F) end₁ m (omega (arith, g, e)) (omega (arith, s, e)) in
          let c : closed (length F) (cursor (end₁ + (8 - end₁ % 8) % 8) new₁ old₁ 0) ≡ 0 = rw (eq-eqb (end₁ + (8 - end₁ % 8) % 8) (length F) q) in
          sym (ap (closed (length F)) (past n old) ∙ c)

      pub poke-over : 8 ≤ length F - (20 + (old₁ + new₁)) → Closes F text_poke 8 31
      unfolding Closes closed
      poke-over s n old =
          let e = end_is in
          let q : end₁ + (8 - end₁ % 8) % 8 ≡ length F → ⊥ = ends-before (length F) end₁ m (omega (arith, g, e)) (omega (arith, s, e)) in
          let c : closed (length F) (cursor (end₁ + (8 - end₁ % 8) % 8) new₁ old₁ 0) ≡ 31 = rw (ne_eqb (end₁ + (8 - end₁ % 8) % 8) (length F) q) in
          sym (ap (closed (length F)) (past n old) ∙ c)
