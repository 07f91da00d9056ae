-- Where the loop over the fields of a pair stands. Assumes nothing: these are definitions.
use Rattle.std.specs.Prelude.{◌≡◌, Bool, true, false, cond, List, [], ◌∷◌, ◌++◌, map, ℕ, ◌+◌, ◌-◌, ◌*◌, ◌%◌, ◌≤◌, length, take, drop}
use Rattle.std.proofs.Math.Seq.{slice}
use Rattle.meaning.specs.declared.Attributes.{Attributes}
use Rattle.meaning.specs.declared.Item.{Item}
use Rattle.meaning.specs.Bytes.{bit}
use Rattle.meaning.specs.Items.{Con}
use Rattle.meaning.specs.Writing.{named}
use Rattle.meaning.specs.Schema.{schema, trailer}
use Rattle.meaning.specs.Records.{room, kind_of, misc_of, origin, fields_answer, flag_by}
use Rattle.table.specs.Rows.{rows, field_rows, all_rows, item_of}
use Rattle.compare.specs.Fields.{first, one}
use Rattle.compare.specs.Compared.{alike, agree}
use Rattle.compare.proofs.Inner.{met, Steady}
use Rattle.meaning.specs.States.{Cursor}
use Rattle.item_pairs.specs.Passed.{Both}

-- where the loop over the fields of a pair stands: k of them are equal. `done`: there are no more or, where `same` is false, field k differs. Else
-- both records are accepted, of one type, misc and event, and the rows from `row` up to `to` come next, in the first `end` bytes of both: those of
-- the body or, where `last` is set, those of the trailer. w and x are the numbers of the items before, c and d the states of the two walks
pub record Pos : Type 0 where
  pub k : ℕ
  pub same : Bool
  pub done : Bool
  pub last : Bool
  pub row : ℕ
  pub to : ℕ
  pub end : ℕ
  pub kind : ℕ
  pub misc : ℕ
  pub a : Attributes
  pub w : ℕ
  pub x : ℕ
  pub c : Cursor
  pub d : Cursor

-- ---- what is still to come of a record

abbrev pub trail : Pos → List Item
trail p = trailer p.kind p.a

abbrev pub items : Pos → List Item
items p = map (item_of p.a p.misc p.kind) (slice p.row p.to rows)

-- the flag of a name, last
unfoldable pub flags : Pos → List ℕ → List Con
flags p zs = cond (named (schema p.kind p.misc p.a)) (one (flag_by (schema p.kind p.misc p.a) (room (trail p)) zs) ∷ []) []

-- after the rows up to `to`: after those of the body come those of the trailer, without its identifier
unfoldable pub later : Pos → List ℕ → List Con
later p zs = cond p.last (flags p zs) (met zs (take 7 (trail p)) 0 (origin (length zs - room (trail p))) ++ flags p zs)

abbrev pub to_left : Pos → List ℕ → List Con
to_left p xs = met (take p.end xs) (items p) p.w p.c ++ later p xs

abbrev pub to_right : Pos → List ℕ → List Con
to_right p ys = met (take p.end ys) (items p) p.x p.d ++ later p ys

-- ---- what will be found: are all fields alike, and which is the first that differs

unfoldable pub is_alike : Pos → List ℕ → List ℕ → Bool
is_alike p xs ys = cond p.done p.same (alike (to_left p xs) (to_right p ys))

unfoldable pub is_field : Pos → List ℕ → List ℕ → ℕ
is_field p xs ys = cond p.done p.k (p.k + agree (to_left p xs) (to_right p ys))

-- so many turns are left at the most
unfoldable pub to_go : Pos → ℕ
to_go p = cond p.done 0 (1 + (cond p.last 0 all_rows + (p.to - p.row)))

-- ---- what holds there

-- nothing is left to be looked at
pub record Settled (k : ℕ) (same : Bool) (p : Pos) : Type 0 where
  pub k-is : p.k ≡ k
  pub same-is : p.same ≡ same
  pub done-is : p.done ≡ true

-- nothing but the first five fields is behind: the rows of the body come next, but for a SAMPLE's identifier
abbrev pub begun_at : List ℕ → ℕ → ℕ → Attributes → ℕ → ℕ → Pos
begun_at xs kind misc a row to = record {
  k = 5;
  same = true;
  done = false;
  last = false;
  row = row;
  to = to;
  end = length xs - room (trailer kind a);
  kind = kind;
  misc = misc;
  a = a;
  w = 0;
  x = 0;
  c = origin (8 + 8 * first kind);
  d = origin (8 + 8 * first kind);
}

pub record Begun (xs : List ℕ) (kind misc : ℕ) (a : Attributes) (p : Pos) : Type 0 where
  pub is : p ≡ begun_at xs kind misc a p.row p.to
  pub ordered : p.row ≤ p.to
  pub within : p.to ≤ field_rows
  pub layout_is : map (item_of a misc kind) (slice p.row p.to rows) ≡ drop (first kind) (schema kind misc a)

-- one row further, which both have passed with equal fields
abbrev pub moved : Pos → Both → Pos
moved p b = record {
  k = cond b.told (p.k + 1) p.k;
  same = true;
  done = false;
  last = p.last;
  row = p.row + 1;
  to = p.to;
  end = p.end;
  kind = p.kind;
  misc = p.misc;
  a = p.a;
  w = b.w;
  x = b.x;
  c = b.c;
  d = b.d;
}

-- the rows of the body are over: those of the trailer come next, but for its eighth, the identifier
abbrev pub trailing : List ℕ → Pos → Pos
trailing xs p = record {
  k = p.k;
  same = true;
  done = false;
  last = true;
  row = field_rows;
  to = all_rows - 1;
  end = length xs;
  kind = p.kind;
  misc = p.misc;
  a = p.a;
  w = 0;
  x = 0;
  c = origin p.end;
  d = origin p.end;
}

-- two accepted records of one type, misc, length and event, whose attributes are a
pub record Pair (xs ys : List ℕ) (kind misc : ℕ) (a : Attributes) : Type 0 where
  pub x-kind : kind ≡ kind_of xs
  pub y-kind : kind ≡ kind_of ys
  pub x-misc : misc ≡ misc_of xs
  pub y-misc : misc ≡ misc_of ys
  pub long : length ys ≡ length xs
  pub eights : length xs % 8 ≡ 0
  pub x-fine : fields_answer (schema (kind_of xs) (misc_of xs) a) (room (trailer (kind_of xs) a)) xs ≡ 0
  pub y-fine : fields_answer (schema (kind_of ys) (misc_of ys) a) (room (trailer (kind_of ys) a)) ys ≡ 0
  pub marked : bit a.sample 16 ≡ true

-- rows are still to come
pub record Ready (xs ys : List ℕ) (p : Pos) : Type 0 where
  pub pair : Pair xs ys p.kind p.misc p.a
  pub going : p.same ≡ true
  pub ordered : p.row ≤ p.to
  pub within : p.to ≤ all_rows
  pub body : p.last ≡ false → p.to ≤ field_rows
  pub few : p.k ≤ p.row + 5
  pub end_is : p.end ≡ cond p.last (length xs) (length xs - room (trail p))
  pub steady : Steady (take p.end xs) (take p.end ys) (items p) p.w p.x p.c p.d

-- b is whether all fields are alike, n the first that differs
pub record FieldsStand (b : Bool) (n : ℕ) (xs ys : List ℕ) (p : Pos) : Type 0 where
  pub test : is_alike p xs ys ≡ b
  pub number : b ≡ false → is_field p xs ys ≡ n
  pub ready : p.done ≡ false → Ready xs ys p
  pub shut : p.same ≡ false → p.done ≡ true
