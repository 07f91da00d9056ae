-- Where a record's event stands, test by test in the order of the rows. Assumes nothing.
use Rattle.std.specs.Prelude.{◌≡◌, Bool, ◌||◌, List, ℕ, ◌<◌, ◌≤◌, ltb, eqb}
use Rattle.std.proofs.Math.Path.{refl, subst}
use Rattle.std.proofs.Common.{sym, ap, ap₂, ◌∙◌, arith}
use Rattle.std.proofs.Math.Bool.{true, false}
use Rattle.std.proofs.Math.ListN.{length}
use borrow.Author.Tests.{lt-leb, le-leb, lt-ltb, le-ltb}
use Rattle.meaning.specs.declared.Known.{Known}
use Rattle.meaning.specs.declared.Event.{Event}
use Rattle.meaning.specs.Refusals.{first}
use Rattle.meaning.specs.Records.{kind_of}
use Rattle.meaning.specs.Events.{identifiers, identifier_of, index_of, index_for, unmatched}
use Rattle.laws.specs.Lookup.{in-there, in-none, identifiers-length}
use Rattle.event_laws.specs.Match.{Match, matched}

abbrev pub says : ℕ → ℕ → Match
says answer index = record { answer = answer; index = index }

module _ (k : Known) (es : List Event) (r : List ℕ) (k₁ : Known) (t : ℕ) (ek : k₁ ≡ k) (et : t ≡ kind_of r) where
  kinds : (b : Bool) → (eqb t 0 || ltb k₁.kinds t) ≡ b → (eqb (kind_of r) 0 || ltb k.kinds (kind_of r)) ≡ b
  kinds b h = sym (ap₂ (λ (x : Known) (y : ℕ). eqb y 0 || ltb x.kinds y) ek et) ∙ h

  pub answers-20 : (eqb t 0 || ltb k₁.kinds t) ≡ true → says 20 0 ≡ matched k es r
  unfolding matched unmatched first
  answers-20 h = rw (kinds true h) refl

  module _ (h : (eqb t 0 || ltb k₁.kinds t) ≡ false) where
    pub answers-21 : k₁.samples ≤ 16 → says 21 0 ≡ matched k es r
    unfolding matched unmatched first
    answers-21 s =
        let u : k.samples ≤ 16 = subst (λ (x : Known). x.samples ≤ 16) ek s in
        rw (kinds false h, le-ltb 16 k.samples u) refl

    module _ (s : 16 < k₁.samples) where
      knows16 : ltb 16 k.samples ≡ true
      knows16 = lt-ltb 16 k.samples (subst (λ (x : Known). 16 < x.samples) ek s)

      pub answers-27 : length r < 16 → says 27 0 ≡ matched k es r
      unfolding matched unmatched first
      answers-27 l = rw (kinds false h, knows16, lt-leb 16 (length r) l) refl

      module _ (l : 16 ≤ length r) (x i : ℕ) (ex : x ≡ identifier_of r) (ei : i ≡ index_of x (identifiers es)) where
        is : i ≡ index_for es r
        is = ei ∙ ap (λ (y : ℕ). index_of y (identifiers es)) ex

        pub answers-26 : length es ≤ i → says 26 0 ≡ matched k es r
        unfolding matched unmatched first
        answers-26 g =
            let m : length (identifiers es) ≤ index_for es r = omega (arith, identifiers-length es, is) in
            rw (kinds false h, knows16, le-leb 16 (length r) l, in-none (identifier_of r) (identifiers es) m) refl

        pub answers-found : i < length es → says 0 i ≡ matched k es r
        unfolding matched unmatched first
        answers-found g =
            let m : index_for es r < length (identifiers es) = omega (arith, identifiers-length es, is) in
            rw (kinds false h, knows16, le-leb 16 (length r) l, in-there (identifier_of r) (identifiers es) m) (ap (says 0) is)
