-- What one item of a record's layout takes, refuses, holds and leaves remembered; and the walk over a list of items.
-- A shape is a row in each of these small tables, over the item's own bytes; one general step reads the rows.
-- Assumes nothing: these are definitions.
use Rattle.std.specs.Prelude.{ℕ, ◌+◌, ◌-◌, ◌*◌, ◌%◌, cond, ◌&&◌, List, [], ◌∷◌, length, take, drop, leb, eqb, ltb}
use Rattle.meaning.specs.States.{Cursor}
use Rattle.meaning.specs.declared.Item.{Item}
use Rattle.meaning.specs.declared.Shape.{Shape}
use Rattle.meaning.specs.declared.Shape.TheVariants.{Number, Ignored, Count, Size, Times, Earlier, Registers, Filled, Abi, Limit, Listed, Bytes, Pad, Name}
use Rattle.meaning.specs.declared.Width.{Width}
use Rattle.meaning.specs.declared.Width.TheVariants.{W1, W2, W4, W8}
use Rattle.meaning.specs.Bytes.{num, ones, zero_in}

abbrev pub cursor : ℕ → ℕ → ℕ → ℕ → Cursor
cursor at n old why = record { at = at; n = n; old = old; why = why }

abbrev pub refuse : ℕ → Cursor → Cursor
refuse why c = cursor c.at c.n c.old why

abbrev pub bytes : Width → ℕ
bytes W1 = 1
bytes W2 = 2
bytes W4 = 4
bytes W8 = 8

-- the content of an item: a number, and the bytes of a list or a name; either may be nothing
pub record Con : Type 0 where
  pub num : ℕ
  pub list : List ℕ

abbrev pub con : ℕ → List ℕ → Con
con n l = record { num = n; list = l }

-- the bytes that an item takes, where r are left. A count is never multiplied in a way that wraps: these are plain numbers
unfoldable pub span : Shape → Cursor → ℕ → ℕ
span (Number w) c r = bytes w
span (Ignored k) c r = k
span (Count w) c r = bytes w
span (Size w) c r = bytes w
span (Times k) c r = c.n * k
span (Earlier k) c r = c.old * k
span Registers c r = c.n * 8
span Filled c r = cond (eqb c.n 0) 0 8
span (Abi m) c r = 8
span (Limit k) c r = 1
span (Listed k) c r = k
span (Bytes k) c r = k
span Pad c r = (8 - c.at % 8) % 8
span Name c r = r

-- the refusal of an item's bytes by its own rule, or 0: "raw size plus 4 is a multiple of 8; stack and aux sizes are multiples of 8; filled
-- length at most stack size; build id size at most 20" (32); "no zero byte in the name's room, or the first is not among its last 8 bytes" (33)
unfoldable pub rule : Shape → Cursor → List ℕ → ℕ
rule (Number w) c ys = 0
rule (Ignored k) c ys = 0
rule (Count w) c ys = 0
rule (Size w) c ys = cond (eqb ((num ys + bytes w) % 8) 0) 0 32
rule (Times k) c ys = 0
rule (Earlier k) c ys = 0
rule Registers c ys = 0
rule Filled c ys = cond (leb (num ys) c.n) 0 32
rule (Abi m) c ys = 0
rule (Limit k) c ys = cond (leb (num ys) k) 0 32
rule (Listed k) c ys = 0
rule (Bytes k) c ys = 0
rule Pad c ys = 0
rule Name c ys = cond (ltb (zero_in ys) (length ys) && leb (length ys) (zero_in ys + 8)) 0 33

-- the content of an item's bytes
unfoldable pub holds : Shape → Cursor → List ℕ → Con
holds (Number w) c ys = con (num ys) []
holds (Ignored k) c ys = con 0 []
holds (Count w) c ys = con (num ys) []
holds (Size w) c ys = con (num ys) []
holds (Times k) c ys = con 0 ys
holds (Earlier k) c ys = con 0 ys
holds Registers c ys = con 0 ys
holds Filled c ys = con (num ys) []
holds (Abi m) c ys = con (num ys) []
holds (Limit k) c ys = con (num ys) []
holds (Listed k) c ys = con 0 (take c.n ys)
holds (Bytes k) c ys = con 0 ys
holds Pad c ys = con 0 []
holds Name c ys = con 0 (take (zero_in ys) ys)

-- the count that is remembered after an item, and the one before it. "As many registers as the mask has ones; if the abi is 0, none follow"
unfoldable pub counted : Shape → Cursor → ℕ → ℕ
counted (Number w) c v = c.n
counted (Ignored k) c v = c.n
counted (Count w) c v = v
counted (Size w) c v = v
counted (Times k) c v = c.n
counted (Earlier k) c v = c.n
counted Registers c v = c.n
counted Filled c v = c.n
counted (Abi m) c v = cond (eqb v 0) 0 (ones 64 m)
counted (Limit k) c v = v
counted (Listed k) c v = c.n
counted (Bytes k) c v = c.n
counted Pad c v = c.n
counted Name c v = c.n

unfoldable pub before : Shape → Cursor → ℕ
before (Number w) c = c.old
before (Ignored k) c = c.old
before (Count w) c = c.n
before (Size w) c = c.old
before (Times k) c = c.old
before (Earlier k) c = c.old
before Registers c = c.old
before Filled c = c.old
before (Abi m) c = c.old
before (Limit k) c = c.old
before (Listed k) c = c.old
before (Bytes k) c = c.old
before Pad c = c.old
before Name c = c.old

-- past an item of k bytes that holds v
unfoldable pub past : Shape → Con → ℕ → Cursor → Cursor
past sh v k c = cursor (c.at + k) (counted sh c v.num) (before sh c) c.why

-- an item's bytes, where `rest` is what is left
unfoldable pub part : Shape → Cursor → List ℕ → List ℕ
part sh c rest = take (span sh c (length rest)) rest

unfoldable pub settle : ℕ → Cursor → Cursor → Cursor
settle why c d = cond (eqb why 0) d (refuse why c)

-- 30: "a field .. would pass the record's end"; else the item's own rule; else past it
unfoldable pub shape_step : Shape → Cursor → List ℕ → Cursor
shape_step sh c rest =
    cond (leb (span sh c (length rest)) (length rest))
    (settle (rule sh c (part sh c rest)) c (past sh (holds sh c (part sh c rest)) (length (part sh c rest)) c))
    (refuse 30 c)

-- an item that is not selected, or comes after a refusal, changes nothing
unfoldable pub step : List ℕ → Item → Cursor → Cursor
step xs i c = cond (eqb c.why 0) (cond i.on (shape_step i.shape c (drop c.at xs)) c) c

unfoldable pub walk : List ℕ → List Item → Cursor → Cursor
walk xs [] c = c
walk xs (i ∷ is) c = walk xs is (step xs i c)

-- an item that is not selected holds nothing
unfoldable pub content : List ℕ → Item → Cursor → Con
content xs i c = cond i.on (holds i.shape c (part i.shape c (drop c.at xs))) (con 0 [])

unfoldable pub contents : List ℕ → List Item → Cursor → List Con
contents xs [] c = []
contents xs (i ∷ is) c = content xs i c ∷ contents xs is (step xs i c)
