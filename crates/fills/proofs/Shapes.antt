-- One item: not selected, its zeros are there already; selected, its bytes are there, and what is put and where the cursor goes are its shape's.
-- Assumes nothing.
use mathlib.Core.Path.{◌≡◌, refl, sym, ap, ap₂, ◌∙◌}
use mathlib.Core.Bool.{Bool, true, false, cond}
use mathlib.Core.List.{List, [], ◌∷◌, ◌++◌, append-nil, append_assoc}
use Prim.Native.Nat.{ℕ, zero, suc, ◌+◌, ◌-◌, ◌≤◌}
use native.Mathlib.Nat.{add-zero}
use native.Mathlib.Omega.{arith}
use lib.ListN.{length, take, drop, set, length-drop, length-replicate, take-append-drop}
use lib.Seq.{drop-drop, take-length}
use lib.Dec.{eqb, leb, ltb}
use borrow.Author.Tests.{eq-eqb, leb-true, ltb-true}
use Rattle.meaning.specs.States.{Cursor}
use Rattle.meaning.specs.declared.Shape.{Shape}
use Rattle.meaning.specs.declared.Shape.TheVariants.{Number, Ignored, Count, Size, Times, Earlier, Registers, Filled, Abi, Limit, Listed, Bytes, Pad, Name}
use Rattle.meaning.specs.Bytes.{num, zero_in, put, zeros}
use Rattle.meaning.specs.Items.{cursor, span, rule, holds, counted, before, past, part, walk}
use Rattle.meaning.specs.Schema.{item}
use Rattle.meaning.specs.Values.{slot, slot_shape, tell, words_of, width, words}
use Rattle.laws.specs.Again.{ItemPassed, fine₁}
use Rattle.laws.specs.Bytes.{and-true, unbroken}
use Rattle.laws.specs.Put.{put-nil, put_one, put_two, put-fits}
use Rattle.laws.specs.Told.{take-zeros}
use Rattle.laws.specs.Walks.{step-off, step-on, step-taken}
use Rattle.fills.specs.Chains as chains
use Rattle.fills.specs.Chains.{Ready}

-- zeros over zeros
put-zeros : (d : List ℕ) (at k : ℕ) → at + k ≤ length d → drop at d ≡ zeros (length d - at) → put d at (zeros k) ≡ d
put-zeros d at k h z =
    let l : length (zeros k) ≡ k = length-replicate k 0 in
    let e : take k (drop at d) ≡ zeros k = ap (take k) z ∙ take-zeros k (length d - at) (omega arith) in
    put-fits d at (zeros k) (omega (arith, l))
    ∙ ap₂ (λ (s : List ℕ) (n : ℕ). take at d ++ s ++ drop (at + n) d) (sym e) l
    ∙ append_assoc (take at d) (take k (drop at d)) (drop (at + k) d)
    ∙ ap (λ (r : List ℕ). take at d ++ (take k (drop at d) ++ r)) (sym (drop-drop k at d))
    ∙ ap (λ (r : List ℕ). take at d ++ r) (take-append-drop k (drop at d))
    ∙ take-append-drop at d

blanks : (sh : Shape) → tell sh (slot 0 0 0) ≡ zeros (words_of sh)
unfolding tell
blanks (Number w) = refl
blanks (Ignored k) = refl
blanks (Count w) = refl
blanks (Size w) = refl
blanks (Times k) = refl
blanks (Earlier k) = refl
blanks Registers = refl
blanks Filled = refl
blanks (Abi m) = refl
blanks (Limit k) = refl
blanks (Listed k) = refl
blanks (Bytes k) = refl
blanks Pad = refl
blanks Name = refl

module _ {on : Bool} {sh : Shape} {xs : List ℕ} {c : Cursor} {d : List ℕ} {at : ℕ} (g : Ready (item on sh ∷ []) xs c d at) where
  pub off : on ≡ false → chains.Filling (item on sh ∷ []) xs c d at d c
  unfolding words walk width
  off o =
      let s = g.space in
      record {
        put_is = sym (rw o (ap (put d at) (append-nil (tell sh (slot 0 0 0)) ∙ blanks sh) ∙ put-zeros d at (words_of sh) (omega (arith, s)) g.clear));
        walk_is = sym (step-off xs (item on sh) c o);
      }

  module _ (o : on ≡ true) where
    pub took : ItemPassed sh c (drop c.at xs)
    unfolding walk
    took = step-taken xs (item on sh) c g.fine o

    -- an item that takes bytes has them
    pub has : {k : ℕ} → span sh c (length (drop c.at xs)) ≡ k → 1 ≤ k → c.at + k ≤ length xs
    has s p = let t = took.there in let l = length-drop c.at xs in omega (arith, t, s, l)

    -- where the cursor is then
    past-it : {k n m : ℕ} → k ≡ span sh c (length (drop c.at xs)) → n ≡ counted sh c (holds sh c (part sh c (drop c.at xs))).num → m ≡ before sh c
        → cursor (c.at + k) n m c.why ≡ walk xs (item on sh ∷ []) c
    unfolding walk past
    past-it ek en em = rw (ek, en, em) (sym (step-on xs (item on sh) c (fine₁ xs (item on sh) c g.fine) o ∙ took.is ∙ rw took.long refl))

    told : (ws : List ℕ) → tell sh (slot_shape sh c (part sh c (drop c.at xs))) ≡ ws → put d at ws ≡ put d at (words xs (item on sh ∷ []) c)
    unfolding words
    told ws e = ap (put d at) (sym (rw o (append-nil (tell sh (slot_shape sh c (part sh c (drop c.at xs)))) ∙ e)))

    pub room : {k : ℕ} → words_of sh ≡ k → at + k ≤ length d
    unfolding width
    room e = let s = g.space in omega (arith, s, e)

    module _ {k n m : ℕ} {c' : Cursor} (ek : k ≡ span sh c (length (drop c.at xs))) (en : n ≡ counted sh c (holds sh c (part sh c (drop c.at xs))).num)
        (em : m ≡ before sh c) (ec : c' ≡ cursor (c.at + k) n m c.why) where
      pub one_word : {v : ℕ} → words_of sh ≡ 1 → tell sh (slot_shape sh c (part sh c (drop c.at xs))) ≡ v ∷ [] → chains.Filling (item on sh ∷ []) xs c d at (set d at v) c'
      one_word {v} w e =
          let r = room w in
          record { put_is = put_one d at v (omega (arith, r)) ∙ told (v ∷ []) e; walk_is = ec ∙ past-it ek en em }

      pub two-words : {v u : ℕ} → words_of sh ≡ 2 → tell sh (slot_shape sh c (part sh c (drop c.at xs))) ≡ v ∷ u ∷ []
          → chains.Filling (item on sh ∷ []) xs c d at (set (set d at v) (at + 1) u) c'
      two-words {v} {u} w e =
          let r = room w in
          record { put_is = put_two d at v u (omega (arith, r)) ∙ told (v ∷ u ∷ []) e; walk_is = ec ∙ past-it ek en em }

      pub no_word : words_of sh ≡ 0 → tell sh (slot_shape sh c (part sh c (drop c.at xs))) ≡ [] → chains.Filling (item on sh ∷ []) xs c d at d c'
      no_word w e =
          let r = room w in
          record { put_is = sym (put-nil d at (omega (arith, r))) ∙ told [] e; walk_is = ec ∙ past-it ek en em }

-- a stack of size 0 has no filled length: its word is 0
pub unfilled : {on : Bool} {xs : List ℕ} {c : Cursor} {d : List ℕ} {at : ℕ} → Ready (item on Filled ∷ []) xs c d at → on ≡ true → c.n ≡ 0
    → chains.Filling (item on Filled ∷ []) xs c d at d c
unfolding tell slot_shape part span counted before num width
unfilled {on} {xs} {c} {d} {at} g o z =
    let s = g.space in
    let e : span Filled c (length (drop c.at xs)) ≡ 0 = rw (eq-eqb c.n 0 z) in
    record {
      put_is = sym (put-zeros d at 1 (omega (arith, s)) g.clear) ∙ told g o (0 ∷ []) (rw e);
      walk_is = ap (λ (k : ℕ). cursor k c.n c.old c.why) (sym (add-zero c.at)) ∙ past-it g o (sym e) refl refl;
    }

-- ---- names

pub name-has : {on : Bool} {xs : List ℕ} {c : Cursor} {d : List ℕ} {at : ℕ} → Ready (item on Name ∷ []) xs c d at → on ≡ true
    → (c.at ≤ length xs) × (length xs ≤ c.at + zero_in (drop c.at xs) + 8)
unfolding span rule part
name-has {on} {xs} {c} g o =
    let t = took g o in
    let R : List ℕ = drop c.at xs in
    let a : take (length R) R ≡ R = take-length R in
    let u = and-true (ltb (zero_in R) (length R)) (leb (length R) (zero_in R + 8)) (unbroken _ 33 (omega arith) (rw a at t.kept)) in
    let z = ltb-true (zero_in R) (length R) u.0 in
    let b = leb-true (length R) (zero_in R + 8) u.1 in
    let l = length-drop c.at xs in
    (omega (arith, z, l), omega (arith, z, b, l))

-- the first zero is found from any place before it
zero-drop : (ys : List ℕ) (k : ℕ) → k ≤ zero_in ys → zero_in ys ≡ k + zero_in (drop k ys)
unfolding zero_in
zero-drop ys zero h = omega arith
zero-drop [] (suc k) h = absurd (omega arith)
zero-drop (y ∷ ys) (suc k) h = go (eqb y 0) h (zero-drop ys k)
  where
    go : (t : Bool) → suc k ≤ cond t 0 (suc (zero_in ys)) → (k ≤ zero_in ys → zero_in ys ≡ k + zero_in (drop k ys))
        → cond t 0 (suc (zero_in ys)) ≡ suc k + zero_in (drop k ys)
    go true h r = absurd (omega arith)
    go false h r = let e = r (omega arith) in omega (arith, e)

pub zero-from-end : (xs : List ℕ) (at r : ℕ) → at ≤ length xs → 8 ≤ length xs - at → length xs ≤ at + zero_in (drop at xs) + 8
    → r ≡ length xs - 8 + zero_in (drop (length xs - 8) xs) → (r ≡ at + zero_in (drop at xs)) × (at ≤ r)
zero-from-end xs at r h l z e =
    let k : ℕ = length xs - 8 - at in
    let q : at + k ≡ length xs - 8 = omega arith in
    let f = zero-drop (drop at xs) k (omega arith) in
    let p : drop k (drop at xs) ≡ drop (length xs - 8) xs = drop-drop k at xs ∙ ap (λ (n : ℕ). drop n xs) q in
    let w : zero_in (drop k (drop at xs)) ≡ zero_in (drop (length xs - 8) xs) = ap zero_in p in
    (omega (arith, e, f, w, q), omega (arith, e))
