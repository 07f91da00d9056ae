-- The bytes of contents, when contents can be written, and which bytes are ignored: "res, bytes after a name's zero, text padding, the
-- reserved three and the unused build id bytes", written as zero.
-- Assumes nothing: these are definitions.
use Rattle.std.specs.Prelude.{ℕ, ◌+◌, ◌-◌, ◌*◌, ◌%◌, ◌^◌, Bool, true, false, cond, ◌&&◌, ◌||◌, List, [], ◌∷◌, ◌++◌, length, drop, leb, eqb, ltb}
use Rattle.meaning.specs.States.{Cursor}
use Rattle.meaning.specs.declared.Item.{Item}
use Rattle.meaning.specs.declared.Shape.{Shape}
use Rattle.meaning.specs.declared.Shape.TheVariants.{Number, Ignored, Count, Size, Times, Earlier, Registers, Filled, Abi, Limit, Listed, Bytes, Pad, Name}
use Rattle.meaning.specs.Bytes.{num, spell, zeros, zero_in, small, nonzero, stale, keep}
use Rattle.meaning.specs.Items.{Con, bytes, past, step, part}

-- the bytes of an item that holds v
unfoldable pub emit : Shape → Cursor → Con → List ℕ
emit (Number w) c v = spell (bytes w) v.num
emit (Ignored k) c v = zeros k
emit (Count w) c v = spell (bytes w) v.num
emit (Size w) c v = spell (bytes w) v.num
emit (Times k) c v = v.list
emit (Earlier k) c v = v.list
emit Registers c v = v.list
emit Filled c v = spell (cond (eqb c.n 0) 0 8) v.num
emit (Abi m) c v = spell 8 v.num
emit (Limit k) c v = spell 1 v.num
emit (Listed k) c v = v.list ++ zeros (k - length v.list)
emit (Bytes k) c v = v.list
emit Pad c v = zeros ((8 - c.at % 8) % 8)
emit Name c v = v.list ++ zeros (8 - (c.at + length v.list) % 8)

-- a number of k bytes and no list; nothing; a list of k bytes and no number
unfoldable pub number : ℕ → Con → Bool
number k v = ltb v.num (256 ^ k) && eqb (length v.list) 0

unfoldable pub blank : Con → Bool
blank v = eqb v.num 0 && eqb (length v.list) 0

unfoldable pub listed : ℕ → Con → Bool
listed k v = eqb v.num 0 && (eqb (length v.list) k && small v.list)

-- can an item hold v?
unfoldable pub fit_shape : Shape → Cursor → Con → Bool
fit_shape (Number w) c v = number (bytes w) v
fit_shape (Ignored k) c v = blank v
fit_shape (Count w) c v = number (bytes w) v
fit_shape (Size w) c v = number (bytes w) v && eqb ((v.num + bytes w) % 8) 0
fit_shape (Times k) c v = listed (c.n * k) v
fit_shape (Earlier k) c v = listed (c.old * k) v
fit_shape Registers c v = listed (c.n * 8) v
fit_shape Filled c v = number (cond (eqb c.n 0) 0 8) v && leb v.num c.n
fit_shape (Abi m) c v = number 8 v
fit_shape (Limit k) c v = number 1 v && leb v.num k
fit_shape (Listed k) c v = listed (k - (k - c.n)) v
fit_shape (Bytes k) c v = listed k v
fit_shape Pad c v = blank v
fit_shape Name c v = eqb v.num 0 && (small v.list && nonzero v.list)

-- the state after an item that is written
unfoldable pub next : Item → Con → Cursor → Cursor
next i v c = cond i.on (past i.shape v (length (emit i.shape c v)) c) c

unfoldable pub fit : List Item → List Con → Cursor → Bool
fit [] [] c = true
fit [] (v ∷ vs) c = false
fit (i ∷ is) [] c = false
fit (i ∷ is) (v ∷ vs) c = cond i.on (fit_shape i.shape c v) (blank v) && fit is vs (next i v c)

unfoldable pub write : List Item → List Con → Cursor → List ℕ
write [] vs c = []
write (i ∷ is) [] c = []
write (i ∷ is) (v ∷ vs) c = cond i.on (emit i.shape c v) [] ++ write is vs (next i v c)

-- the state after all of them: its place is the length of what is written
unfoldable pub nexts : List Item → List Con → Cursor → Cursor
nexts [] vs c = c
nexts (i ∷ is) [] c = c
nexts (i ∷ is) (v ∷ vs) c = nexts is vs (next i v c)

-- how many of an item's bytes are kept; the others are ignored
unfoldable pub kept : Shape → Cursor → List ℕ → ℕ
kept (Number w) c ys = length ys
kept (Ignored k) c ys = 0
kept (Count w) c ys = length ys
kept (Size w) c ys = length ys
kept (Times k) c ys = length ys
kept (Earlier k) c ys = length ys
kept Registers c ys = length ys
kept Filled c ys = length ys
kept (Abi m) c ys = length ys
kept (Limit k) c ys = length ys
kept (Listed k) c ys = c.n
kept (Bytes k) c ys = length ys
kept Pad c ys = 0
kept Name c ys = zero_in ys

-- a record's bytes from the state on, the ignored ones as zero
unfoldable pub cleaned : List ℕ → List Item → Cursor → List ℕ
cleaned xs [] c = []
cleaned xs (i ∷ is) c =
    cond i.on (keep (kept i.shape c (part i.shape c (drop c.at xs))) (part i.shape c (drop c.at xs))) []
    ++ cleaned xs is (step xs i c)

-- a name goes to the fields' end: it is the last item
unfoldable pub ends : Shape → Bool
ends (Number w) = false
ends (Ignored k) = false
ends (Count w) = false
ends (Size w) = false
ends (Times k) = false
ends (Earlier k) = false
ends Registers = false
ends Filled = false
ends (Abi m) = false
ends (Limit k) = false
ends (Listed k) = false
ends (Bytes k) = false
ends Pad = false
ends Name = true

unfoldable pub ends_last : List Item → Bool
ends_last [] = true
ends_last (i ∷ []) = true
ends_last (i ∷ j ∷ is) = cond (ends i.shape) false (ends_last (j ∷ is))

-- MMAP, MMAP2, COMM, KSYMBOL and CGROUP have a name, which is always selected; the others have none
unfoldable pub named : List Item → Bool
named [] = false
named (i ∷ is) = ends i.shape || named is

-- "whether any byte after the name's zero within its room is not zero"
unfoldable pub dirty : List ℕ → List Item → Cursor → Bool
dirty xs [] c = false
dirty xs (i ∷ is) c = ((i.on && ends i.shape) && stale (part i.shape c (drop c.at xs))) || dirty xs is (step xs i c)
