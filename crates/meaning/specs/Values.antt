-- A value as it is held: words that a reader fills and a writer takes. "Lists and names are given as a place and a count in the record; two
-- records are the same if their numbers, counts and the bytes at the places are, wherever the places lie."
-- Assumes nothing: these are definitions.
use Rattle.std.specs.Prelude.{ℕ, ◌+◌, ◌-◌, ◌*◌, Bool, true, false, not, cond, ◌&&◌, ◌||◌, List, [], ◌∷◌, ◌++◌, length, take, drop, get_or, leb, eqb, ltb}
use Rattle.meaning.specs.declared.Attributes.{Attributes}
use Rattle.meaning.specs.States.{Cursor, Reading}
use Rattle.meaning.specs.declared.Item.{Item}
use Rattle.meaning.specs.declared.Known.{Known}
use Rattle.meaning.specs.declared.Shape.{Shape}
use Rattle.meaning.specs.declared.Shape.TheVariants.{Number, Ignored, Count, Size, Times, Earlier, Registers, Filled, Abi, Limit, Listed, Bytes, Pad, Name}
use Rattle.meaning.specs.Bytes.{num, zeros, zero_in, all_zero, put}
use Rattle.meaning.specs.Refusals.{or_else}
use Rattle.meaning.specs.Items.{Con, con, part, step}
use Rattle.meaning.specs.Writing.{named}
use Rattle.meaning.specs.Editions.{known, allowed}
use Rattle.meaning.specs.Records.{Layout, layout, Value, kind_of, misc_of, size_of, room, origin, fields_of, flag_by, check, fits, write_record}

-- what is held of an item: its number; of a list or a name the place and the count, in elements
pub record Slot : Type 0 where
  pub num : ℕ
  pub place : ℕ
  pub count : ℕ

abbrev pub slot : ℕ → ℕ → ℕ → Slot
slot n p k = record { num = n; place = p; count = k }

-- is it a list or a name? the bytes of one element
unfoldable pub lists : Shape → Bool
lists (Number w) = false
lists (Ignored k) = false
lists (Count w) = false
lists (Size w) = false
lists (Times k) = true
lists (Earlier k) = true
lists Registers = true
lists Filled = false
lists (Abi m) = false
lists (Limit k) = false
lists (Listed k) = true
lists (Bytes k) = true
lists Pad = false
lists Name = true

unfoldable pub unit : Shape → ℕ
unit (Number w) = 1
unit (Ignored k) = 1
unit (Count w) = 1
unit (Size w) = 1
unit (Times k) = k
unit (Earlier k) = k
unit Registers = 8
unit Filled = 1
unit (Abi m) = 1
unit (Limit k) = 1
unit (Listed k) = 1
unit (Bytes k) = 1
unit Pad = 1
unit Name = 1

-- ---- what slots mean

-- the source is looked at for a selected list alone; elsewhere a count that is not 0 fits nothing
unfoldable pub held : List ℕ → Item → Slot → Con
held src i s = con s.num (cond (i.on && lists i.shape) (take (s.count * unit i.shape) (drop s.place src)) (zeros s.count))

unfoldable pub means : List ℕ → List Item → List Slot → List Con
means src [] ss = []
means src (i ∷ is) [] = []
means src (i ∷ is) (s ∷ ss) = held src i s ∷ means src is ss

-- "41 if a selected list or name, by place plus bytes unwrapped, passes the lent source's end"
unfoldable pub beyond : List ℕ → Item → Slot → Bool
beyond src i s = (i.on && lists i.shape) && ltb (length src) (s.place + s.count * unit i.shape)

unfoldable pub any_beyond : List ℕ → List Item → List Slot → Bool
any_beyond src [] ss = false
any_beyond src (i ∷ is) [] = false
any_beyond src (i ∷ is) (s ∷ ss) = beyond src i s || any_beyond src is ss

-- ---- the reader's slots: of an item's bytes, from the reader's state; an item that is not selected is zero and empty

unfoldable pub slot_shape : Shape → Cursor → List ℕ → Slot
slot_shape (Number w) c ys = slot (num ys) 0 0
slot_shape (Ignored k) c ys = slot 0 0 0
slot_shape (Count w) c ys = slot (num ys) 0 0
slot_shape (Size w) c ys = slot (num ys) 0 0
slot_shape (Times k) c ys = slot 0 c.at c.n
slot_shape (Earlier k) c ys = slot 0 c.at c.old
slot_shape Registers c ys = slot 0 c.at c.n
slot_shape Filled c ys = slot (num ys) 0 0
slot_shape (Abi m) c ys = slot (num ys) 0 0
slot_shape (Limit k) c ys = slot (num ys) 0 0
slot_shape (Listed k) c ys = slot 0 c.at (k - (k - c.n))
slot_shape (Bytes k) c ys = slot 0 c.at k
slot_shape Pad c ys = slot 0 0 0
slot_shape Name c ys = slot 0 c.at (zero_in ys)

abbrev pub slot_item : List ℕ → Item → Cursor → Slot
slot_item xs i c = cond i.on (slot_shape i.shape c (part i.shape c (drop c.at xs))) (slot 0 0 0)

-- ---- slots as words, an item's words after those of the item before it

-- a number has one word; a list or a name its place, and its count where no count word of the record holds it
unfoldable pub tell : Shape → Slot → List ℕ
tell (Number w) s = s.num ∷ []
tell (Ignored k) s = []
tell (Count w) s = s.num ∷ []
tell (Size w) s = s.num ∷ []
tell (Times k) s = s.place ∷ []
tell (Earlier k) s = s.place ∷ []
tell Registers s = s.place ∷ s.count ∷ []
tell Filled s = s.num ∷ []
tell (Abi m) s = s.num ∷ []
tell (Limit k) s = s.num ∷ []
tell (Listed k) s = s.place ∷ []
tell (Bytes k) s = s.place ∷ s.count ∷ []
tell Pad s = []
tell Name s = s.place ∷ s.count ∷ []

abbrev pub words_of : Shape → ℕ
words_of sh = length (tell sh (slot 0 0 0))

-- how many words a layout has
unfoldable pub width : List Item → ℕ
width [] = 0
width (i ∷ is) = words_of i.shape + width is

-- the words of a record's items
unfoldable pub words : List ℕ → List Item → Cursor → List ℕ
words xs [] c = []
words xs (i ∷ is) c = tell i.shape (slot_item xs i c) ++ words xs is (step xs i c)

abbrev pub body_words : ℕ
body_words = 3

abbrev pub trail_words : ℕ
trail_words = 48

abbrev pub value_words : ℕ
value_words = 56

-- the flag's word is the next after those of the fields
unfoldable pub flag_words : List Item → ℕ → List ℕ
flag_words is f = cond (named is) (f ∷ []) []

unfoldable pub flag_told : List Item → List ℕ → ℕ
flag_told is ws = cond (named is) (get_or ws (body_words + width is) 0) 0

abbrev pub body_width : List Item → ℕ
body_width is = width is + length (flag_words is 0)

-- the words of a record that decodes: type, misc, size; the body's from 3 on; then, where the type has a name, the flag; the trailer's from 48 on; every other word is 0
unfoldable pub words_by : List Item → List Item → List ℕ → List ℕ
words_by is ts xs =
    put
    (put (kind_of xs ∷ misc_of xs ∷ size_of xs ∷ zeros 53) body_words (words (fields_of (room ts) xs) is (origin 8) ++ flag_words is (flag_by is (room ts) xs)))
    trail_words
    (words xs ts (origin (length xs - room ts)))

unfoldable pub record_words : Layout → List ℕ → List ℕ
record_words lay xs = words_by (lay.body (kind_of xs) (misc_of xs)) (lay.trail (kind_of xs)) xs

-- the reader of a record's bytes: its answer, and where it is 0 the words; refused: no value, zero throughout
unfoldable pub read_answered : ℕ → List ℕ → Reading
read_answered answer ws = record { answer = answer; words = cond (eqb answer 0) ws (zeros value_words) }

unfoldable pub read : List Known → ℕ → Attributes → List ℕ → Reading
read rows e a xs = read_answered (check rows e a xs) (record_words (layout (known rows e) a) xs)

-- ---- words as slots: what a writer is given. The counts remembered on the way (n, and old before it) are those of the items that are selected

unfoldable pub slot_told : Shape → ℕ → ℕ → List ℕ → Slot
slot_told (Number w) n old ws = slot (get_or ws 0 0) 0 0
slot_told (Ignored k) n old ws = slot 0 0 0
slot_told (Count w) n old ws = slot (get_or ws 0 0) 0 0
slot_told (Size w) n old ws = slot (get_or ws 0 0) 0 0
slot_told (Times k) n old ws = slot 0 (get_or ws 0 0) n
slot_told (Earlier k) n old ws = slot 0 (get_or ws 0 0) old
slot_told Registers n old ws = slot 0 (get_or ws 0 0) (get_or ws 1 0)
slot_told Filled n old ws = slot (get_or ws 0 0) 0 0
slot_told (Abi m) n old ws = slot (get_or ws 0 0) 0 0
slot_told (Limit k) n old ws = slot (get_or ws 0 0) 0 0
slot_told (Listed k) n old ws = slot 0 (get_or ws 0 0) n
slot_told (Bytes k) n old ws = slot 0 (get_or ws 0 0) (get_or ws 1 0)
slot_told Pad n old ws = slot 0 0 0
slot_told Name n old ws = slot 0 (get_or ws 0 0) (get_or ws 1 0)

-- an item that is not selected: a list's count is then its own word, or the word of its count item, which is looked at there
abbrev pub slot_off : Shape → List ℕ → Slot
slot_off sh ws = slot_told sh 0 0 ws

unfoldable pub last_told : Shape → ℕ → ℕ → ℕ
last_told (Number w) n v = n
last_told (Ignored k) n v = n
last_told (Count w) n v = v
last_told (Size w) n v = v
last_told (Times k) n v = n
last_told (Earlier k) n v = n
last_told Registers n v = n
last_told Filled n v = n
last_told (Abi m) n v = n
last_told (Limit k) n v = v
last_told (Listed k) n v = n
last_told (Bytes k) n v = n
last_told Pad n v = n
last_told Name n v = n

unfoldable pub before_told : Shape → ℕ → ℕ → ℕ
before_told (Number w) n old = old
before_told (Ignored k) n old = old
before_told (Count w) n old = n
before_told (Size w) n old = old
before_told (Times k) n old = old
before_told (Earlier k) n old = old
before_told Registers n old = old
before_told Filled n old = old
before_told (Abi m) n old = old
before_told (Limit k) n old = old
before_told (Listed k) n old = old
before_told (Bytes k) n old = old
before_told Pad n old = old
before_told Name n old = old

unfoldable pub slots_told : List Item → List ℕ → ℕ → ℕ → List Slot
slots_told [] ws n old = []
slots_told (i ∷ is) ws n old =
    cond i.on (slot_told i.shape n old ws) (slot_off i.shape ws)
    ∷ slots_told is (drop (words_of i.shape) ws) (cond i.on (last_told i.shape n (get_or ws 0 0)) n) (cond i.on (before_told i.shape n old) old)

-- what the words mean, with a source of bytes
unfoldable pub meant : Layout → List ℕ → List ℕ → Value
meant lay src ws = record {
  kind = get_or ws 0 0;
  misc = get_or ws 1 0;
  size = get_or ws 2 0;
  body = means src (lay.body (get_or ws 0 0) (get_or ws 1 0)) (slots_told (lay.body (get_or ws 0 0) (get_or ws 1 0)) (drop body_words ws) 0 0);
  tail = means src (lay.trail (get_or ws 0 0)) (slots_told (lay.trail (get_or ws 0 0)) (drop trail_words ws) 0 0);
  flag = flag_told (lay.body (get_or ws 0 0) (get_or ws 1 0)) ws;
}

-- the words that the type does not have: they are zero in every value that is read
unfoldable pub spare_by : List Item → List Item → List ℕ → List ℕ
spare_by is ts ws = drop (body_words + body_width is) (take trail_words ws) ++ drop (trail_words + width ts) (take value_words ws)

unfoldable pub spare : Layout → List ℕ → List ℕ
spare lay ws = spare_by (lay.body (get_or ws 0 0) (get_or ws 1 0)) (lay.trail (get_or ws 0 0)) ws

-- ---- the writer: "2; 20 to 24; 41 ..; 42 ..; 40 ..", with M-102's 25 after 23 and before 24, and M-107's 43 "after 24 and before 41"

-- "The writer refuses a value with the flag set with 43": the flag's word, where the type has a name
unfoldable pub flagged : Layout → List ℕ → Bool
flagged lay ws = not (eqb (flag_told (lay.body (get_or ws 0 0) (get_or ws 1 0)) ws) 0)

-- 42 is decided by a test over the items; that it says exactly "no record decodes, .., to the same numbers and listed bytes" is a theorem
unfoldable pub writable : Layout → List ℕ → List ℕ → Bool
writable lay src ws = all_zero (spare lay ws) && fits lay (meant lay src ws)

unfoldable pub write_by : Layout → List ℕ → List ℕ → ℕ → ℕ
write_by lay src ws space =
    or_else (lay.unknown (get_or ws 0 0) (get_or ws 1 0))
    (cond (flagged lay ws) 43
    (cond
    (any_beyond
    src
    (lay.body (get_or ws 0 0) (get_or ws 1 0))
    (slots_told (lay.body (get_or ws 0 0) (get_or ws 1 0)) (drop body_words ws) 0 0))
    41
    (cond (writable lay src ws) (cond (leb (length (write_record lay (meant lay src ws))) space) 0 40) 42)))

-- the answer, of words, a source and a room in bytes
unfoldable pub write_answer : List Known → ℕ → Attributes → List ℕ → List ℕ → ℕ → ℕ
write_answer rows e a src ws space = cond (allowed rows e) (write_by (layout (known rows e) a) src ws space) 2

-- "Refused: buffer unchanged. Accepted: the record, the rest unchanged."
unfoldable pub write_buffer : List Known → ℕ → Attributes → List ℕ → List ℕ → List ℕ → List ℕ
write_buffer rows e a src ws buffer =
    cond (eqb (write_answer rows e a src ws (length buffer)) 0) (put buffer 0 (write_record (layout (known rows e) a) (meant (layout (known rows e) a) src ws))) buffer
