-- What the bits of misc mean: "Its lowest three bits are the CPU mode; bit 13 means data mapping (MMAP, MMAP2), exec (COMM) or switched
-- out (types 14, 15); bit 14 means exact address (SAMPLE), preempted (14, 15) or build id (MMAP2)."
-- The type is the whole word of the header; bits from 16 up, which no record has, mean nothing.
-- Assumes nothing: these are definitions.
use Rattle.std.specs.Prelude.{ℕ, ◌+◌, ◌%◌, cond, List, [], ◌∷◌}
use Rattle.meaning.specs.Bytes.{bit}
use Rattle.meaning.specs.Editions.{is_in}
use Rattle.meaning.specs.declared.Bit13.{Bit13}
use Rattle.meaning.specs.declared.Bit13.TheVariants.{Nothing, DataMapping, Exec, SwitchedOut}
use Rattle.meaning.specs.declared.Bit14.{Bit14}
use Rattle.meaning.specs.declared.Bit14.TheVariants.{Nothing as Nothing14, ExactAddress, Preempted, BuildId}

-- the record types of each meaning
unfoldable pub types13 : Bit13 → List ℕ
types13 Nothing = []
types13 DataMapping = 1 ∷ 10 ∷ []
types13 Exec = 3 ∷ []
types13 SwitchedOut = 14 ∷ 15 ∷ []

unfoldable pub types14 : Bit14 → List ℕ
types14 Nothing14 = []
types14 ExactAddress = 9 ∷ []
types14 Preempted = 14 ∷ 15 ∷ []
types14 BuildId = 10 ∷ []

-- a bit that is not set means nothing, and so does one of any other type
unfoldable pub means13 : ℕ → ℕ → Bit13
means13 kind misc =
    cond (bit misc 13)
    (cond (is_in kind (types13 DataMapping)) DataMapping
    (cond (is_in kind (types13 Exec)) Exec (cond (is_in kind (types13 SwitchedOut)) SwitchedOut Nothing)))
    Nothing

unfoldable pub means14 : ℕ → ℕ → Bit14
means14 kind misc =
    cond (bit misc 14)
    (cond (is_in kind (types14 ExactAddress)) ExactAddress
    (cond (is_in kind (types14 Preempted)) Preempted (cond (is_in kind (types14 BuildId)) BuildId Nothing14)))
    Nothing14

-- the CPU mode
abbrev pub cpu_mode : ℕ → ℕ
cpu_mode misc = misc % 8

-- the number of each meaning, as C is told it: beside the CPU mode, one bit each
abbrev pub number13 : Bit13 → ℕ
number13 Nothing = 0
number13 DataMapping = 8
number13 Exec = 16
number13 SwitchedOut = 32

abbrev pub number14 : Bit14 → ℕ
number14 Nothing14 = 0
number14 ExactAddress = 64
number14 Preempted = 128
number14 BuildId = 256

unfoldable pub misc_meaning : ℕ → ℕ → ℕ
misc_meaning kind misc = cpu_mode misc + (number13 (means13 kind misc) + number14 (means14 kind misc))
