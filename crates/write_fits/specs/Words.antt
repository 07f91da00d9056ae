-- The words of a value are enough for the fields of each type, and for the trailer, with one to spare. Assumes nothing.
use Rattle.std.specs.Prelude.{ℕ, ◌+◌, ◌<◌, ◌≤◌}
use Rattle.std.proofs.Common.{arith}
use Rattle.meaning.specs.declared.Attributes.{Attributes}
use Rattle.meaning.specs.Schema.{schema, trailer}
use Rattle.meaning.specs.Values.{tell, width, body_words, trail_words, value_words}
use Rattle.laws.specs.Told.{fields-few}

pub fields-words : (kind misc : ℕ) (a : Attributes) (n : ℕ) → value_words ≤ n → body_words + width (schema kind misc a) < n
fields-words kind misc a n h = let f = fields-few kind misc a in omega (arith, f, h)

pub trailer-words : (kind : ℕ) (a : Attributes) (n : ℕ) → value_words ≤ n → trail_words + width (trailer kind a) < n
unfolding width tell
trailer-words kind a n h = omega (arith, h)
