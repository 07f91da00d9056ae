-- Which bytes of the fields of two records are compared: all but the ignored ones, "res, bytes after a name's zero, text padding, the reserved three
-- and the unused build id bytes". Where those lie is said by the left record. Assumes nothing: these are definitions; the whole record is `Same` of twins.
use Rattle.std.specs.Prelude.{Bool, cond, ◌&&◌, ◌||◌, List, ℕ, ◌+◌, ◌-◌, ◌*◌, leb, eqb, length, take, drop}
use Rattle.std.specs.Int.Bits.{bit_and}
use Rattle.meaning.specs.Bytes.{bit, ones, number_at, zero_in}
use Rattle.compare.specs.Compared.{same_bytes}

-- the bytes from i up to j, where both have them
unfoldable pub same_span : List ℕ → List ℕ → ℕ → ℕ → Bool
same_span s t i j = leb i j && (leb j (length s) && (leb j (length t) && same_bytes (take (j - i) (drop i s)) (take (j - i) (drop i t))))

unfoldable pub same_but_four : List ℕ → List ℕ → ℕ → ℕ → Bool
same_but_four s t from res = same_span s t from res && same_span s t (res + 4) (length s)

-- "cpu and res 7": the bits of x that stand before them are those of the mask
unfoldable pub around_res : List ℕ → List ℕ → ℕ → ℕ → ℕ → Bool
around_res s t x mask from = cond (bit x 7) (same_but_four s t from (from + (ones 64 (bit_and x mask) * 8 + 4))) (same_span s t from (length s))

-- up to the zero of the name that starts at a place, with it
unfoldable pub name_same : List ℕ → List ℕ → ℕ → ℕ → Bool
name_same s t begin from = same_span s t begin (from + zero_in (drop from s) + 1)

-- MMAP2 with a build id: "build id size u8, 3 reserved bytes, 20 bytes"
unfoldable pub build_same : List ℕ → List ℕ → Bool
build_same s t = same_span s t 8 41 && (same_span s t 44 (44 + number_at 1 s 40) && name_same s t 64 72)

-- TEXT_POKE: both lengths, both texts
unfoldable pub text_same : List ℕ → List ℕ → Bool
text_same s t = same_span s t 8 (20 + (number_at 2 s 16 + number_at 2 s 18))

-- where the name of a type starts: MMAP, COMM and CGROUP, MMAP2, KSYMBOL
unfoldable pub name_at : ℕ → ℕ
name_at kind = cond (eqb kind 1) 40 (cond (eqb kind 3 || eqb kind 19) 16 (cond (eqb kind 10) 72 (cond (eqb kind 17) 24 0)))

-- the fields of a type whose only ignored bytes are those after its name's zero, if it has one
unfoldable pub others_same : List ℕ → List ℕ → ℕ → Bool
others_same s t kind = cond (eqb (name_at kind) 0) (same_span s t 8 (length s)) (name_same s t 8 (name_at kind))

-- before a SAMPLE's res: identifier, ip, pid and tid, time, addr, id, stream id (16, 0 to 3, 6, 9)
abbrev pub before_res : ℕ
before_res = 66127

-- the fields, x the sample type
unfoldable pub body_same : List ℕ → List ℕ → ℕ → ℕ → ℕ → Bool
body_same s t kind misc x =
    cond (eqb kind 9) (around_res s t x before_res 8)
    (cond (eqb kind 20) (text_same s t)
    (cond (eqb kind 10 && bit misc 14) (build_same s t)
    (cond (eqb (name_at kind) 0) (same_span s t 8 (length s)) (name_same s t 8 (name_at kind)))))
