-- What C's numbers say: the attributes. Assumes nothing: this is a definition.
use Rattle.std.specs.Prelude.{ℕ, not, eqb}
use Rattle.meaning.specs.declared.Attributes.{Attributes}

-- sample_id_all comes as a number of 32 bits: "nonzero is set"
abbrev pub given : ℕ → ℕ → ℕ → ℕ → ℕ → ℕ → Attributes
given sample format all user interrupt branch = record { sample = sample; format = format; all = not (eqb all 0); user = user; interrupt = interrupt; branch = branch }
