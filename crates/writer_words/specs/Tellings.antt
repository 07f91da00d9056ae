-- How words tell an item, as a table over the shapes. Not what must be believed: proofs/Laws says that it is what the definitions of `meaning`
-- say. Assumes nothing: these are definitions.
use Rattle.std.specs.Prelude.{ℕ, ◌+◌, Bool, true, false, cond, List, drop, get_or}
use Rattle.meaning.specs.declared.Item.{Item}
use Rattle.meaning.specs.declared.Shape.{Shape}
use Rattle.meaning.specs.declared.Shape.TheVariants.{Number, Ignored, Count, Size, Times, Earlier, Registers, Filled, Abi, Limit, Listed, Bytes, Pad, Name}
use Rattle.meaning.specs.Values.{Slot, slot, words_of, slot_told, slot_off, last_told, before_told}
use Rattle.writer_words.specs.declared.Given.{Given}
use Rattle.meaning.specs.declared.Spot.{Spot}
use Rattle.writer_words.specs.declared.Wording.{Wording}
use Rattle.writer_words.specs.declared.Wording.TheVariants.{Unspoken, Plain, LastCount, NextCount, Listing}
use Rattle.writer_words.specs.declared.ListCount.{ListCount}
use Rattle.writer_words.specs.declared.ListCount.TheVariants.{Last, Before, Own}

-- how words tell a shape: how many of them, is the first a number or a place; which count a list has (the last one, the one before it, else its
-- second word); and whether the number is remembered as a count, and the last count before it too
pub record Telling : Type 0 where
  pub many : ℕ
  pub number : Bool
  pub list : Bool
  pub last : Bool
  pub earlier : Bool
  pub keeps : Bool
  pub shifts : Bool

abbrev pub slot_of : Given → Slot
slot_of g = slot g.number g.place g.count

-- far more words than any value has: a bound so that the next word has a place
abbrev pub few_words : ℕ
few_words = 1000

-- before the first word of a part
abbrev pub start_at : ℕ → Spot
start_at at = record { at = at; n = 0; old = 0 }

-- the item's slot, from where the words are told to; and how far they are told after it
abbrev pub given_slot : List ℕ → Spot → Item → Slot
given_slot ws t i = cond i.on (slot_told i.shape t.n t.old (drop t.at ws)) (slot_off i.shape (drop t.at ws))

abbrev pub reached_after : List ℕ → Spot → Item → Spot
reached_after ws t i = record {
  at = t.at + words_of i.shape;
  n = cond i.on (last_told i.shape t.n (get_or (drop t.at ws) 0 0)) t.n;
  old = cond i.on (before_told i.shape t.n t.old) t.old;
}

-- no word; a number; a list or a name
abbrev pub unspoken : Telling
unspoken = record { many = 0; number = false; list = false; last = false; earlier = false; keeps = false; shifts = false }

abbrev pub number : Bool → Bool → Telling
number keeps shifts = record { many = 1; number = true; list = false; last = false; earlier = false; keeps = keeps; shifts = shifts }

abbrev pub list : ℕ → Bool → Bool → Telling
list many last earlier = record { many = many; number = false; list = true; last = last; earlier = earlier; keeps = false; shifts = false }

unfoldable pub telling : Shape → Telling
telling (Number w) = number false false
telling (Ignored k) = unspoken
telling (Count w) = number true true
telling (Size w) = number true false
telling (Times k) = list 1 true false
telling (Earlier k) = list 1 false true
telling Registers = list 2 false false
telling Filled = number false false
telling (Abi m) = number false false
telling (Limit k) = number true false
telling (Listed k) = list 1 true false
telling (Bytes k) = list 2 false false
telling Pad = unspoken
telling Name = list 2 false false

-- the code's enums as rows of that table
abbrev pub list_by : ListCount → Telling
list_by Last = list 1 true false
list_by Before = list 1 false true
list_by Own = list 2 false false

abbrev pub telling_by : Wording → Telling
telling_by Unspoken = unspoken
telling_by Plain = number false false
telling_by LastCount = number true false
telling_by NextCount = number true true
telling_by (Listing count) = list_by count
