-- The items of each type's fields, and of the trailer, in pieces of a few; what is equal for two types stands once. Assumes nothing: these are definitions.
-- Written by tools/chains.py from the rows of crate table; that they are the layouts is found by computation where they are used.
use Rattle.std.specs.Prelude.{true, not, ◌&&◌, ◌||◌, List, [], ◌∷◌, ◌++◌, ℕ}
use Rattle.meaning.specs.declared.Item.{Item}
use Rattle.meaning.specs.declared.Shape.TheVariants.{Number, Ignored, Count, Size, Times, Earlier, Registers, Filled, Abi, Limit, Listed, Bytes, Pad, Name}
use Rattle.meaning.specs.declared.Width.TheVariants.{W2, W4, W8}
use Rattle.meaning.specs.Bytes.{bit}
use Rattle.meaning.specs.Schema.{item, group_bytes}

abbrev pub mmap : List Item
mmap =
    item true (Number W4)
    ∷ item true (Number W4)
    ∷ item true (Number W8)
    ∷ item true (Number W8)
    ∷ item true (Number W8)
    ∷ item true Name
    ∷ []

abbrev pub lost : List Item
lost =
    item true (Number W8)
    ∷ item true (Number W8)
    ∷ []

abbrev pub comm : List Item
comm =
    item true (Number W4)
    ∷ item true (Number W4)
    ∷ item true Name
    ∷ []

abbrev pub exit : List Item
exit =
    item true (Number W4)
    ∷ item true (Number W4)
    ∷ item true (Number W4)
    ∷ item true (Number W4)
    ∷ item true (Number W8)
    ∷ []

abbrev pub throttle : List Item
throttle =
    item true (Number W8)
    ∷ item true (Number W8)
    ∷ item true (Number W8)
    ∷ []

abbrev pub read-1 : ℕ → List Item
read-1 f =
    item true (Number W4)
    ∷ item true (Number W4)
    ∷ item (not (bit f 3)) (Number W8)
    ∷ item (bit f 3) (Count W8)
    ∷ item (bit f 0) (Number W8)
    ∷ []

abbrev pub read-2 : ℕ → List Item
read-2 f =
    item (bit f 1) (Number W8)
    ∷ item ((not (bit f 3)) && (bit f 2)) (Number W8)
    ∷ item ((not (bit f 3)) && (bit f 4)) (Number W8)
    ∷ item (bit f 3) (Times (group_bytes f))
    ∷ []

abbrev pub read : ℕ → List Item
read f = (read-1 f) ++ ((read-2 f))

abbrev pub sample-1 : ℕ → List Item
sample-1 x =
    item (bit x 16) (Number W8)
    ∷ item (bit x 0) (Number W8)
    ∷ item (bit x 1) (Number W4)
    ∷ item (bit x 1) (Number W4)
    ∷ item (bit x 2) (Number W8)
    ∷ item (bit x 3) (Number W8)
    ∷ []

abbrev pub sample-2 : ℕ → ℕ → List Item
sample-2 x f =
    item (bit x 6) (Number W8)
    ∷ item (bit x 9) (Number W8)
    ∷ item (bit x 7) (Number W4)
    ∷ item (bit x 7) (Ignored 4)
    ∷ item (bit x 8) (Number W8)
    ∷ item ((bit x 4) && (not (bit f 3))) (Number W8)
    ∷ []

abbrev pub sample-3 : ℕ → ℕ → List Item
sample-3 x f =
    item ((bit x 4) && (bit f 3)) (Count W8)
    ∷ item ((bit x 4) && (bit f 0)) (Number W8)
    ∷ item ((bit x 4) && (bit f 1)) (Number W8)
    ∷ item ((bit x 4) && ((not (bit f 3)) && (bit f 2))) (Number W8)
    ∷ item ((bit x 4) && ((not (bit f 3)) && (bit f 4))) (Number W8)
    ∷ item ((bit x 4) && (bit f 3)) (Times (group_bytes f))
    ∷ []

abbrev pub sample-4 : ℕ → ℕ → List Item
sample-4 x b =
    item (bit x 5) (Count W8)
    ∷ item (bit x 5) (Times 8)
    ∷ item (bit x 10) (Size W4)
    ∷ item (bit x 10) (Times 1)
    ∷ item (bit x 11) (Count W8)
    ∷ item ((bit x 11) && (bit b 17)) (Number W8)
    ∷ []

abbrev pub sample-5 : ℕ → ℕ → List Item
sample-5 x user =
    item (bit x 11) (Times 24)
    ∷ item (bit x 12) (Abi user)
    ∷ item (bit x 12) Registers
    ∷ item (bit x 13) (Size W8)
    ∷ item (bit x 13) (Times 1)
    ∷ item (bit x 13) Filled
    ∷ []

abbrev pub sample-6 : ℕ → ℕ → List Item
sample-6 x interrupt =
    item ((bit x 14) || (bit x 24)) (Number W8)
    ∷ item (bit x 15) (Number W8)
    ∷ item (bit x 17) (Number W8)
    ∷ item (bit x 18) (Abi interrupt)
    ∷ item (bit x 18) Registers
    ∷ item (bit x 19) (Number W8)
    ∷ []

abbrev pub sample-7 : ℕ → List Item
sample-7 x =
    item (bit x 21) (Number W8)
    ∷ item (bit x 22) (Number W8)
    ∷ item (bit x 23) (Number W8)
    ∷ item (bit x 20) (Size W8)
    ∷ item (bit x 20) (Times 1)
    ∷ []

abbrev pub sample : ℕ → ℕ → ℕ → ℕ → ℕ → List Item
sample x f b user interrupt = (sample-1 x) ++ ((sample-2 x f) ++ ((sample-3 x f) ++ ((sample-4 x b) ++ ((sample-5 x user) ++ ((sample-6 x interrupt) ++ ((sample-7 x)))))))

abbrev pub mmap2-1 : List Item
mmap2-1 =
    item true (Number W4)
    ∷ item true (Number W4)
    ∷ item true (Number W8)
    ∷ item true (Number W8)
    ∷ item true (Number W8)
    ∷ []

abbrev pub mmap2-2 : ℕ → List Item
mmap2-2 misc =
    item (not (bit misc 14)) (Number W4)
    ∷ item (not (bit misc 14)) (Number W4)
    ∷ item (not (bit misc 14)) (Number W8)
    ∷ item (not (bit misc 14)) (Number W8)
    ∷ item (bit misc 14) (Limit 20)
    ∷ []

abbrev pub mmap2-3 : ℕ → List Item
mmap2-3 misc =
    item (bit misc 14) (Ignored 3)
    ∷ item (bit misc 14) (Listed 20)
    ∷ item true (Number W4)
    ∷ item true (Number W4)
    ∷ item true Name
    ∷ []

abbrev pub mmap2 : ℕ → List Item
mmap2 misc = mmap2-1 ++ ((mmap2-2 misc) ++ ((mmap2-3 misc)))

abbrev pub itrace-start : List Item
itrace-start =
    item true (Number W4)
    ∷ item true (Number W4)
    ∷ []

abbrev pub lost-samples : List Item
lost-samples =
    item true (Number W8)
    ∷ []

abbrev pub namespaces : List Item
namespaces =
    item true (Number W4)
    ∷ item true (Number W4)
    ∷ item true (Count W8)
    ∷ item true (Times 16)
    ∷ []

abbrev pub ksymbol : List Item
ksymbol =
    item true (Number W8)
    ∷ item true (Number W4)
    ∷ item true (Number W2)
    ∷ item true (Number W2)
    ∷ item true Name
    ∷ []

abbrev pub bpf-event : List Item
bpf-event =
    item true (Number W2)
    ∷ item true (Number W2)
    ∷ item true (Number W4)
    ∷ item true (Bytes 8)
    ∷ []

abbrev pub cgroup : List Item
cgroup =
    item true (Number W8)
    ∷ item true Name
    ∷ []

abbrev pub text-poke : List Item
text-poke =
    item true (Number W8)
    ∷ item true (Count W2)
    ∷ item true (Count W2)
    ∷ item true (Earlier 1)
    ∷ item true (Times 1)
    ∷ item true Pad
    ∷ []

abbrev pub trailer-1 : ℕ → List Item
trailer-1 x =
    item (bit x 1) (Number W4)
    ∷ item (bit x 1) (Number W4)
    ∷ item (bit x 2) (Number W8)
    ∷ item (bit x 6) (Number W8)
    ∷ []

abbrev pub trailer-2 : ℕ → List Item
trailer-2 x =
    item (bit x 9) (Number W8)
    ∷ item (bit x 7) (Number W4)
    ∷ item (bit x 7) (Ignored 4)
    ∷ item (bit x 16) (Number W8)
    ∷ []

abbrev pub trailer : ℕ → List Item
trailer x = (trailer-1 x) ++ ((trailer-2 x))
