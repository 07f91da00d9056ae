-- An item at a place, as it is written: a table over the shapes. Not what must be believed: proofs/Fitting says that it is what the definitions
-- of `meaning` say. Assumes nothing: these are definitions.
use Rattle.std.specs.Prelude.{ℕ, ◌+◌, ◌-◌, ◌*◌, ◌%◌, ◌^◌, Bool, true, false, cond, ◌&&◌, ◌||◌, List, ◌++◌, length, take, drop, leb, eqb, ltb}
use Rattle.meaning.specs.States.{Cursor}
use Rattle.meaning.specs.declared.Item.{Item}
use Rattle.meaning.specs.declared.Shape.{Shape}
use Rattle.meaning.specs.declared.Shape.TheVariants.{Number, Ignored, Count, Size, Times, Earlier, Registers, Filled, Abi, Limit, Listed, Bytes, Pad, Name}
use Rattle.meaning.specs.Bytes.{ones, spell, zeros, nonzero}
use Rattle.meaning.specs.Items.{bytes, cursor}
use Rattle.meaning.specs.Values.{Slot}
use Rattle.writer_forms.specs.declared.Form.{Form as CodeForm}
use Rattle.writer_forms.specs.declared.Content.{Content}
use Rattle.writer_forms.specs.declared.Content.TheVariants.{Blank, Number as NumberContent, List as ListContent, Name as NameContent}

-- an item at a place, as it is written: a number of so many bytes, at most so large (and, with its own bytes, a multiple of 8 or not); then the bytes
-- of a list of `want` elements (a name has no zero among them); then zero bytes. And the counts that are remembered after it
pub record Form : Type 0 where
  pub width : ℕ
  pub top : ℕ
  pub eights : Bool
  pub list : Bool
  pub name : Bool
  pub unit : ℕ
  pub want : ℕ
  pub pad : ℕ
  pub n : ℕ
  pub old : ℕ

-- the code's content as such a row, before no zero bytes; and the code's form
abbrev pub content_form : Content → Form
content_form Blank = record { width = 0; top = 0; eights = false; list = false; name = false; unit = 1; want = 0; pad = 0; n = 0; old = 0 }
content_form (NumberContent width top eights) = record { width = bytes width; top = top; eights = eights; list = false; name = false; unit = 1; want = 0; pad = 0; n = 0; old = 0 }
content_form (ListContent unit want) = record { width = 0; top = 0; eights = false; list = true; name = false; unit = unit; want = want; pad = 0; n = 0; old = 0 }
content_form (NameContent want) = record { width = 0; top = 0; eights = false; list = true; name = true; unit = 1; want = want; pad = 0; n = 0; old = 0 }

abbrev pub form_of : CodeForm → Form
form_of f = record {
  width = (content_form f.content).width;
  top = (content_form f.content).top;
  eights = (content_form f.content).eights;
  list = (content_form f.content).list;
  name = (content_form f.content).name;
  unit = (content_form f.content).unit;
  want = (content_form f.content).want;
  pad = f.pad;
  n = f.n;
  old = f.old;
}

-- zero bytes alone; a number; a list; a name
abbrev pub blank_form : Cursor → ℕ → Form
blank_form c pad = record { width = 0; top = 0; eights = false; list = false; name = false; unit = 1; want = 0; pad = pad; n = c.n; old = c.old }

abbrev pub number_form : ℕ → ℕ → Bool → ℕ → ℕ → Form
number_form width top eights n old = record { width = width; top = top; eights = eights; list = false; name = false; unit = 1; want = 0; pad = 0; n = n; old = old }

abbrev pub list_form : Cursor → ℕ → ℕ → ℕ → Form
list_form c unit want pad = record { width = 0; top = 0; eights = false; list = true; name = false; unit = unit; want = want; pad = pad; n = c.n; old = c.old }

abbrev pub name_form : Cursor → ℕ → ℕ → Form
name_form c want pad = record { width = 0; top = 0; eights = false; list = true; name = true; unit = 1; want = want; pad = pad; n = c.n; old = c.old }

-- the largest number of k bytes
abbrev pub top : ℕ → ℕ
top k = 256 ^ k - 1

unfoldable pub shape_form : Shape → Cursor → Slot → Form
shape_form (Number w) c s = number_form (bytes w) (top (bytes w)) false c.n c.old
shape_form (Ignored k) c s = blank_form c k
shape_form (Count w) c s = number_form (bytes w) (top (bytes w)) false s.num c.n
shape_form (Size w) c s = number_form (bytes w) (top (bytes w)) true s.num c.old
shape_form (Times k) c s = list_form c k c.n 0
shape_form (Earlier k) c s = list_form c k c.old 0
shape_form Registers c s = list_form c 8 c.n 0
shape_form Filled c s = number_form (cond (eqb c.n 0) 0 8) c.n false c.n c.old
shape_form (Abi m) c s = number_form 8 (top 8) false (cond (eqb s.num 0) 0 (ones 64 m)) c.old
shape_form (Limit k) c s = number_form 1 (k - (k - 255)) false s.num c.old
shape_form (Listed k) c s = list_form c 1 (k - (k - c.n)) (k - (k - (k - c.n)))
shape_form (Bytes k) c s = list_form c 1 k 0
shape_form Pad c s = blank_form c ((8 - c.at % 8) % 8)
shape_form Name c s = name_form c s.count (8 - (c.at + s.count) % 8)

unfoldable pub form : Item → Cursor → Slot → Form
form i c s = cond i.on (shape_form i.shape c s) (blank_form c 0)

-- a slot fits a form: its number is not too large, and makes a multiple of 8 with its own bytes where that is asked; its count is the one wanted
-- (elements of no bytes have no count); a name has no zero in it
unfoldable pub fits_form : Form → List ℕ → Slot → Bool
fits_form f src s =
    (leb s.num f.top && cond f.eights (eqb ((s.num + f.width) % 8) 0) true)
    && ((eqb s.count f.want || eqb f.unit 0) && cond f.name (nonzero (take s.count (drop s.place src))) true)

-- a selected list passes the source's end
unfoldable pub passes_end : List ℕ → Bool → ℕ → ℕ → ℕ → Bool
passes_end src list unit place count = list && ltb (length src) (place + count * unit)

-- how many bytes of the source the list has, and the bytes of the item
unfoldable pub list_bytes : Form → Slot → ℕ
list_bytes f s = cond f.list (s.count * f.unit) 0

unfoldable pub form_bytes : Form → List ℕ → Slot → List ℕ
form_bytes f src s = (spell f.width s.num ++ take (list_bytes f s) (drop s.place src)) ++ zeros f.pad

-- the state after it
unfoldable pub form_next : Form → Slot → Cursor → Cursor
form_next f s c = cursor (c.at + (f.width + list_bytes f s + f.pad)) f.n f.old c.why
