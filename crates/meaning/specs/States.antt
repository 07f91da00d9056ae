-- What definitions tell of a walk, of a ring's next record and of a record that is read, a refusal or a stop by its number. Functions give these as
-- results and options; the views of Reasons say which. Assumes nothing: these are definitions.
use Rattle.std.specs.Prelude.{ℕ, Bool, List}

-- a walk's state: the place, the count remembered last, the one before it, the refusal so far (0: none)
pub record Cursor : Type 0 where
  pub at : ℕ
  pub n : ℕ
  pub old : ℕ
  pub why : ℕ

-- the next record of a ring: where it is, or, if `go` is false, the number that stops the reader
pub record Frame : Type 0 where
  pub go : Bool
  pub stop : ℕ
  pub place : ℕ
  pub size : ℕ

-- a record's answer and the words of its value: type, misc, size; the body's from 3 on; the trailer's from 48 on
pub record Reading : Type 0 where
  pub answer : ℕ
  pub words : List ℕ

-- what the reader of one record tells: the frame (a stop, or where the record lies), its answer, the next tail, its words
pub record One : Type 0 where
  pub frame : Frame
  pub answer : ℕ
  pub tail : ℕ
  pub words : List ℕ
