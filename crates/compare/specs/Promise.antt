-- What M-108 promises: "Each pair before the reported place is equal under demand 2, and the named field differs."
-- Assumes nothing: these are definitions.
use Rattle.std.specs.Prelude.{◌≡◌, ℕ, ◌<◌, ◌≤◌, true, List, [], length, take, get_or}
use Rattle.meaning.specs.Bytes.{bit, small}
use Rattle.meaning.specs.Items.{Con, con}
use Rattle.meaning.specs.Records.{judge}
use Rattle.meaning.specs.Events.{identifier_of}
use Rattle.runs.specs.Cutting.{Cuts, framed, record_of}
use Rattle.compare.specs.declared.Compared.{Compared}
use Rattle.compare.specs.Fields.{Reads, fields, layout_of, value_of}
use Rattle.compare.specs.Compared.{all_alike, differs, ends_first, stops}

-- what a comparison reads by, as a table of events gives it: a record that is accepted is accepted under the attributes that its identifier selects,
-- and these select the identifier
pub record SoundReads (R : Reads) : Type 0 where
  pub own : (xs : List ℕ) → R.judge xs ≡ 0 → judge (layout_of R xs) xs ≡ 0
  pub marked : (xs : List ℕ) → R.judge xs ≡ 0 → (bit (R.attributes (identifier_of xs)).sample 16 ≡ true) × ((R.attributes (identifier_of xs)).all ≡ true)

-- the bytes of one record, as a ring is cut
abbrev pub Whole : List ℕ → Type 0
Whole xs = (small xs ≡ true) × (framed xs ≡ true)

-- two records are equal: accepted, with the same value, as demand 2 has it (numbers, counts, the bytes at the places, and the flag); or refused, with the
-- same bytes
pub data Same (R : Reads) (xs ys : List ℕ) : Type 0 where
  decoded : R.judge xs ≡ 0 → R.judge ys ≡ 0 → value_of R xs ≡ value_of R ys → Same R xs ys
  refused : (R.judge xs ≡ 0 → ⊥) → xs ≡ ys → Same R xs ys

-- field k is the first that differs: both records have it, and all fields before it are equal
pub record First (us vs : List Con) (k : ℕ) : Type 0 where
  pub left : k < length us
  pub right : k < length vs
  pub before : take k us ≡ take k vs
  pub here : get_or us k (con 0 []) ≡ get_or vs k (con 0 []) → ⊥

-- what is told of two rings that are cut, each case with what it says
pub data Says (R : Reads) (l r : Cuts) : Compared → Type 0 where
  all_alike_lem : {n : ℕ} → length l.records ≡ n → length r.records ≡ n → l.stop ≡ 0 → r.stop ≡ 0 → Says R l r (all_alike n)
  field-differs : {n k : ℕ} → n < length l.records → n < length r.records → First (fields R (record_of l n)) (fields R (record_of r n)) k → Says R l r (differs n k)
  left_ended : {n : ℕ} → length l.records ≡ n → l.stop ≡ 0 → n < length r.records → Says R l r (ends_first 2 n)
  right-ended : {n : ℕ} → length r.records ≡ n → r.stop ≡ 0 → n < length l.records → Says R l r (ends_first 3 n)
  left-stopped : {n : ℕ} → length l.records ≡ n → (l.stop ≡ 0 → ⊥) → n ≤ length r.records → Says R l r (stops 4 l.stop n)
  right-stopped : {n : ℕ} → length r.records ≡ n → (r.stop ≡ 0 → ⊥) → n ≤ length l.records → (length l.records ≡ n → l.stop ≡ 0) → Says R l r (stops 5 r.stop n)

-- and every pair before is equal. With that no case but one holds (Meeting, `only`)
pub record TrueReport (R : Reads) (l r : Cuts) (c : Compared) : Type 0 where
  pub says : Says R l r c
  pub before : (i : ℕ) → i < c.records → Same R (record_of l i) (record_of r i)
