-- There are as many names as words, for every type and all attributes: by one computation over the whole table. Assumes nothing.
use Rattle.std.specs.Prelude.{◌≡◌, refl, [], ◌∷◌, map, ℕ, length}
use Rattle.meaning.specs.declared.Attributes.{Attributes}
use Rattle.meaning.specs.Schema.{schemas, trailer}
use Rattle.meaning.specs.Writing.{ends, named}
use Rattle.meaning.specs.Values.{tell, width, flag_words, body_width}
use Rattle.meaning.specs.WordNames.{pid, ppid, tid, prot, flags, name_flag, identifier, word_names, trailer_names, name_of}

-- kept: a row of names that is longer or shorter than the words of its type is refused here
pub names-wide : (misc : ℕ) (a : Attributes) → map length word_names ≡ map body_width (schemas misc a)
unfolding width tell flag_words named ends
names-wide misc a = refl

-- kept: and so is the trailer's
pub trailer-names-wide : (kind : ℕ) (a : Attributes) → length trailer_names ≡ width (trailer kind a)
unfolding width tell
trailer-names-wide kind a = refl

-- an EXIT's words 3 to 5, the trailer's last. kept: one of these names at another place is refused here
pub some-names : map (name_of 4) (3 ∷ 4 ∷ 5 ∷ 54 ∷ []) ≡ pid ∷ ppid ∷ tid ∷ identifier ∷ []
some-names = refl

-- an MMAP2's words 14 and 15. kept: the same of these
pub more-names : map (name_of 10) (14 ∷ 15 ∷ []) ≡ prot ∷ flags ∷ []
more-names = refl

-- the flag's word of MMAP, COMM, MMAP2, KSYMBOL and CGROUP, as the header has it. kept: a name's row without it, or with it elsewhere
pub flag-names : map (λ (w : ℕ × ℕ). name_of w.0 w.1) ((1, 10) ∷ (3, 7) ∷ (10, 18) ∷ (17, 9) ∷ (19, 6) ∷ [])
    ≡ name_flag ∷ name_flag ∷ name_flag ∷ name_flag ∷ name_flag ∷ []
flag-names = refl
