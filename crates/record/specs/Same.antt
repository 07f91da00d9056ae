-- The answer of a record takes the edition by 20 to 25 alone; what an accepted record has; record check. Assumes nothing.
use Rattle.std.specs.Prelude.{◌≡◌, refl, ℕ, ◌%◌, List}
use Rattle.std.proofs.Common.{sym, ap, ◌∙◌}
use Rattle.meaning.specs.declared.Attributes.{Attributes}
use Rattle.meaning.specs.declared.Known.{Known}
use Rattle.meaning.specs.Refusals.{or_else}
use Rattle.meaning.specs.Schema.{schema, trailer}
use Rattle.meaning.specs.Editions.{known, unreadable}
use Rattle.meaning.specs.Records.{layout, kind_of, misc_of, room, fields_answer, judge, check, flag_of, record_check}
use Rattle.laws.specs.Answers.{check-zero}
use Rattle.laws.specs.Answer42.{check-of}
use Rattle.record.specs.Into.{Accepted, or_dirty}

-- "What a record decodes to depends on the edition only through refusals 20 to 24", and M-102's 25: where those agree, so do the answers.
-- Kept: a judge that asks the edition for anything else is refused here
pub same_answer : (k l : Known) (a : Attributes) (xs : List ℕ) → unreadable k a (kind_of xs) (misc_of xs) ≡ unreadable l a (kind_of xs) (misc_of xs)
    → judge (layout k a) xs ≡ judge (layout l a) xs
unfolding judge layout
same_answer k l a xs e =
    ap (λ (why : ℕ). or_else why (fields_answer (schema (kind_of xs) (misc_of xs) a) (room (trailer (kind_of xs) a)) xs)) e

-- a record that is accepted, as what looks at its fields asks for it
pub accepted : (ks : List Known) (e : ℕ) (a : Attributes) (xs : List ℕ) → check ks e a xs ≡ 0 → Accepted a xs (kind_of xs)
unfolding layout
accepted ks e a xs h =
    let z = check-zero (layout (known ks e) a) xs (check-of ks e a xs h).1 in
    record { kind-is = refl; eights = ap (λ (n : ℕ). n % 8) (sym z.1) ∙ z.2; answer-is = z.4 }

-- record check is the answer that it shares with the readers, and 44 in place of 0
pub or-dirty : (ks : List Known) (e : ℕ) (a : Attributes) (xs : List ℕ) (answer : ℕ) → answer ≡ check ks e a xs → or_dirty answer a xs ≡ record_check ks e a xs
unfolding or_dirty record_check flag_of layout
or-dirty ks e a xs answer h = ap (λ (n : ℕ). or_dirty n a xs) h
