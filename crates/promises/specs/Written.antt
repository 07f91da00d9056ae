-- The writer's rows as C calls it, in the order checked: "2; 20 to 24; 41 ..; 42 ..; 40 ..", with M-102's 25 "after 23 and before 24" and M-107's 43 "after 24
-- and before 41". What its last tests give by them is in proofs/WriterRows, that its answer is the number of the first row that holds in proofs/Written.
-- Assumes nothing: these are definitions.
use Rattle.std.specs.Prelude.{List, [], ◌∷◌, ◌++◌, cond, false, not, take, get_or}
use Prim.Native.Nat.{ℕ}
use Rattle.std.proofs.Math.Dec.{leb}
use Rattle.std.proofs.Math.ListN.{length}
use Rattle.meaning.specs.declared.Attributes.{Attributes}
use Rattle.meaning.specs.Refusals.{Refusal, refusal, first}
use Rattle.meaning.specs.Editions.{editions, allowed, known, unknowns, clashes}
use Rattle.meaning.specs.Records.{Layout, layout}
use Rattle.meaning.specs.Values.{flagged, writable}
use Rattle.laws.specs.Answer42.{bytes_of, passes}

module _ (e : ℕ) (a : Attributes) (src ws : List ℕ) (space : ℕ) where
  abbrev lay : Layout
  lay = layout (known editions e) a

  -- the value: the first 56 words, of which the first are its type and its misc
  abbrev vs : List ℕ
  vs = take 56 ws

  abbrev kind_word : ℕ
  kind_word = get_or vs 0 0

  abbrev misc_word : ℕ
  misc_word = get_or vs 1 0

  -- past 20 to 25: 43, "a value with the flag set"; 41, "if a selected list or name .. passes the lent source's end"; 42, "no record decodes .. to the same
  -- numbers and listed bytes", which is what `writable` decides: Exported, `exactly-42`; 40, "if the record doesn't fit the buffer"
  abbrev pub last_rows : List Refusal
  last_rows =
      refusal (flagged lay vs) 43
      ∷ refusal (passes editions e a src vs) 41
      ∷ refusal (not (writable lay src vs)) 42
      ∷ refusal (not (leb (length (bytes_of editions e a src vs)) space)) 40
      ∷ []

  abbrev pub write_rows : List Refusal
  write_rows =
      refusal (not (allowed editions e)) 2
      ∷ refusal (not (leb 56 (length ws))) 42
      ∷ (unknowns (known editions e) kind_word misc_word a ++ (clashes kind_word a ++ last_rows))
