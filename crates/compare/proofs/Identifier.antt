-- The identifier of an accepted record, by its bytes and by its contents: a SAMPLE's first item, any other record's last. Assumes nothing.
use Rattle.std.specs.Prelude.{◌≡◌, Bool, false, eqb}
use Rattle.std.proofs.Math.Path.{refl, ap}
use Rattle.std.proofs.Common.{sym, ◌∙◌, zero-add, arith, eq-eqb}
use Prim.Native.Nat.{ℕ, zero, suc, ◌+◌, ◌-◌, ◌≤◌}
use Rattle.std.proofs.Math.Bool.{true, cond}
use mathlib.Core.List.{List, [], ◌∷◌}
use Rattle.std.proofs.Math.ListN.{length, take, drop, length-drop}
use Rattle.std.proofs.Math.Seq.{length-take-le}
use Rattle.meaning.specs.declared.Attributes.{Attributes}
use Rattle.meaning.specs.States.{Cursor}
use Rattle.meaning.specs.declared.Item.{Item}
use Rattle.meaning.specs.declared.Known.{Known}
use Rattle.meaning.specs.declared.Shape.TheVariants.{Number}
use Rattle.meaning.specs.declared.Width.TheVariants.{W8}
use Rattle.meaning.specs.Bytes.{num, number_at, bit}
use Rattle.meaning.specs.Items.{Con, con, span, holds, part, step, walk, content, contents}
use Rattle.meaning.specs.Schema.{item, sample, schema, trails, trailer}
use Rattle.meaning.specs.Records.{layout, fixed_shape, fixed, room_shape, room, kind_of, misc_of, origin, fields_of, fields_answer, check_by, body_of, tail_of, value}
use Rattle.laws.specs.Again.{fine, stepped, item-passed}
use Rattle.laws.specs.Answers.{fields-zero, check-zero}
use Rattle.laws.specs.Fixed.{fixed-run}
use Rattle.laws.specs.Put.{take_within}
use Rattle.meaning.specs.Events.{identifier_of}
use Rattle.compare.specs.Fields.{one}

-- the contents of items past the first ones
pub contents-drop : (j : ℕ) (is : List Item) (xs : List ℕ) (c : Cursor) → drop j (contents xs is c) ≡ contents xs (drop j is) (walk xs (take j is) c)
unfolding contents walk
contents-drop zero is xs c = refl
contents-drop (suc j) [] xs c = refl
contents-drop (suc j) (i ∷ is) xs c = contents-drop j is xs (step xs i c)

pub room_split : (j : ℕ) (is : List Item) → room is ≡ room (take j is) + room (drop j is)
unfolding room
room_split zero is = sym (zero-add (room is))
room_split (suc j) [] = refl
room_split (suc j) (i ∷ is) = let h = room_split j is in let k : ℕ = cond i.on (room_shape i.shape) 0 in let e : k + room is ≡ k + room (take j is) + room (drop j is) = omega (arith, h) in e

-- the content of a selected word
word : (xs : List ℕ) (c : Cursor) (on : Bool) → on ≡ true → content xs (item on (Number W8)) c ≡ one (number_at 8 xs c.at)
unfolding content holds part span
word xs c on e = rw e

off-blank : (xs : List ℕ) (c : Cursor) (on : Bool) → on ≡ false → content xs (item on (Number W8)) c ≡ con 0 []
unfolding content
off-blank xs c on e = rw e

-- a word that was not refused is there
pub word-there : (F : List ℕ) (is : List Item) (c : Cursor) → c.why ≡ 0 → (walk F (item true (Number W8) ∷ is) c).why ≡ 0 → 8 ≤ length (drop c.at F)
unfolding walk span
word-there F is c z h =
    let s = fine F is (step F (item true (Number W8)) c) h in
    (item-passed (Number W8) c (drop c.at F) (ap (λ (d : Cursor). d.why) (sym (stepped true (Number W8) F c z)) ∙ s)).there

module _ (k : Known) (a : Attributes) (xs : List ℕ) (h : check_by (layout k a) xs ≡ 0) (m : bit a.sample 16 ≡ true) where
  abbrev trail : List Item
  trail = trailer (kind_of xs) a

  fields-good : fields_answer (schema (kind_of xs) (misc_of xs) a) (room trail) xs ≡ 0
  unfolding layout
  fields-good = (check-zero (layout k a) xs h).4

  -- a SAMPLE's identifier is its body's first content
  pub body-first : kind_of xs ≡ 9 → take 1 (value (layout k a) xs).body ≡ one (identifier_of xs) ∷ []
  unfolding layout value body_of contents fields_of identifier_of
  body-first e =
      let n : ℕ = length xs - room trail in
      let F : List ℕ = take n xs in
      let is : List Item = item true (Number W8) ∷ drop 1 (sample a) in
      let s : schema (kind_of xs) (misc_of xs) a ≡ is = ap (λ (z : ℕ). schema z (misc_of xs) a) e ∙ ap (λ (b : Bool). item b (Number W8) ∷ drop 1 (sample a)) m in
      let z = fields-zero (schema (kind_of xs) (misc_of xs) a) (room trail) xs fields-good in
      let w = word-there F (drop 1 (sample a)) (origin 8) refl (ap (λ (l : List Item). (walk F l (origin 8)).why) (sym s) ∙ z.1) in
      let d = length-drop 8 F in
      let l : length F ≡ n = length-take-le n xs (omega arith) in
      let q : take 8 (drop 8 F) ≡ take 8 (drop 8 xs) = take_within 8 8 n xs (omega (arith, w, d, l)) in
      ap (λ (l : List Item). take 1 (contents F l (origin 8))) s
      ∙ ap (λ (v : Con). v ∷ []) (word F (origin 8) true refl ∙ ap (λ (l : List ℕ). one (num l)) q)
      ∙ ap (λ (b : Bool). one (cond b (number_at 8 xs 8) (number_at 8 xs (length xs - 8))) ∷ []) (sym (eq-eqb (kind_of xs) 9 e))

  -- the trailer's last item stands at the record's last eight bytes
  last-room : trails (kind_of xs) a 16 ≡ true → room (drop 7 trail) ≡ 8
  unfolding room room_shape
  last-room o = ap (λ (b : Bool). cond b 8 0 + 0) o

  seven-fixed : fixed (take 7 trail) ≡ true
  unfolding fixed fixed_shape
  seven-fixed = refl

  last-place : trails (kind_of xs) a 16 ≡ true → (walk xs (take 7 trail) (origin (length xs - room trail))).at ≡ length xs - 8
  last-place o =
      let z = (fields-zero (schema (kind_of xs) (misc_of xs) a) (room trail) xs fields-good).0 in
      let r = room_split 7 trail in
      let l = last-room o in
      let f = (fixed-run (take 7 trail) xs (origin (length xs - room trail)) seven-fixed refl (omega (arith, z, r))).1 in
      omega (arith, z, r, l, f)

  -- the trailer's last content: nothing in a SAMPLE, elsewhere the identifier
  last-content : a.all ≡ true → (t : Bool) → eqb (kind_of xs) 9 ≡ t
      → content xs (item (trails (kind_of xs) a 16) (Number W8)) (walk xs (take 7 trail) (origin (length xs - room trail)))
      ≡ cond t (con 0 []) (one (cond t (number_at 8 xs 8) (number_at 8 xs (length xs - 8))))
  last-content all true e = off-blank xs (walk xs (take 7 trail) (origin (length xs - room trail))) (trails (kind_of xs) a 16) (rw (all, e))
  last-content all false e =
      let o : trails (kind_of xs) a 16 ≡ true = rw (all, e) m in
      word xs (walk xs (take 7 trail) (origin (length xs - room trail))) (trails (kind_of xs) a 16) o
      ∙ ap (λ (n : ℕ). one (number_at 8 xs n)) (last-place o)

  last-contents : (d : Cursor) → contents xs (drop 7 trail) d ≡ content xs (item (trails (kind_of xs) a 16) (Number W8)) d ∷ []
  unfolding contents
  last-contents d = refl

  pub tail-last : a.all ≡ true → drop 7 (value (layout k a) xs).tail ≡ cond (eqb (kind_of xs) 9) (con 0 []) (one (identifier_of xs)) ∷ []
  unfolding layout value tail_of identifier_of
  tail-last all =
      contents-drop 7 trail xs (origin (length xs - room trail))
      ∙ last-contents (walk xs (take 7 trail) (origin (length xs - room trail)))
      ∙ ap (λ (v : Con). v ∷ []) (last-content all (eqb (kind_of xs) 9) refl)
