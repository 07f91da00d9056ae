-- Two records that are the same but for ignored bytes. Assumes nothing: these are definitions.
use Rattle.std.specs.Prelude.{◌≡◌, List, ℕ, ◌-◌, ◌%◌, ◌≤◌, length, take, drop}
use Rattle.meaning.specs.declared.Attributes.{Attributes}
use Rattle.meaning.specs.States.{Cursor}
use Rattle.meaning.specs.declared.Item.{Item}
use Rattle.meaning.specs.declared.Known.{Known}
use Rattle.meaning.specs.declared.Shape.{Shape}
use Rattle.meaning.specs.Items.{holds, part, shape_step, walk, contents}
use Rattle.meaning.specs.Schema.{schema, trailer}
use Rattle.meaning.specs.Records.{layout, room, kind_of, misc_of, size_of, fields_answer, value}

-- two lists of one length, whose bytes from p up to f are the same
pub record Abreast (s t : List ℕ) (p f : ℕ) : Type 0 where
  pub long : length t ≡ length s
  pub low : p ≤ f
  pub high : f ≤ length s
  pub bytes : take (f - p) (drop p t) ≡ take (f - p) (drop p s)

-- an item of both is read alike
pub record Read (s t : List ℕ) (sh : Shape) (c : Cursor) : Type 0 where
  pub step_is : shape_step sh c (drop c.at t) ≡ shape_step sh c (drop c.at s)
  pub held : holds sh c (part sh c (drop c.at t)) ≡ holds sh c (part sh c (drop c.at s))

-- items of both are read alike
pub record Twins (s t : List ℕ) (is : List Item) (c : Cursor) : Type 0 where
  pub walk_is : walk t is c ≡ walk s is c
  pub held : contents t is c ≡ contents s is c

-- an accepted record, and another one of its type, misc, size and length
pub record Beside (xs ys : List ℕ) (kind misc : ℕ) (a : Attributes) : Type 0 where
  pub x-kind : kind ≡ kind_of xs
  pub y-kind : kind ≡ kind_of ys
  pub x-misc : misc ≡ misc_of xs
  pub y-misc : misc ≡ misc_of ys
  pub size_is : size_of ys ≡ size_of xs
  pub long : length ys ≡ length xs
  pub eights : length xs % 8 ≡ 0
  pub fine : fields_answer (schema (kind_of xs) (misc_of xs) a) (room (trailer (kind_of xs) a)) xs ≡ 0

-- which is accepted too, with the same value
pub record Like (xs ys : List ℕ) (a : Attributes) : Type 0 where
  pub fine : fields_answer (schema (kind_of ys) (misc_of ys) a) (room (trailer (kind_of ys) a)) ys ≡ 0
  pub value-is : (k : Known) → value (layout k a) ys ≡ value (layout k a) xs
