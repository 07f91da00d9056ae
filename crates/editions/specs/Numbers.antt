-- Demand 1: "Bad input is refused by the numbers in document 01". Which numbers each answer may be. Assumes nothing: these are definitions.
use Rattle.std.specs.Prelude.{ℕ, List, [], ◌∷◌}

-- the fields of a record: 0, or a body refusal
abbrev pub field_numbers : List ℕ
field_numbers = 0 ∷ 30 ∷ 31 ∷ 32 ∷ 33 ∷ []

-- a record that is taken
abbrev pub record_numbers : List ℕ
record_numbers = 0 ∷ 20 ∷ 21 ∷ 22 ∷ 23 ∷ 25 ∷ 24 ∷ 30 ∷ 31 ∷ 32 ∷ 33 ∷ []

-- "Record check .. 2; 7 ..; 6; 7 ..; 20 to 33; otherwise 0"
abbrev pub check_numbers : List ℕ
check_numbers = 0 ∷ 2 ∷ 6 ∷ 7 ∷ 20 ∷ 21 ∷ 22 ∷ 23 ∷ 25 ∷ 24 ∷ 30 ∷ 31 ∷ 32 ∷ 33 ∷ []

-- record check alone answers 44
abbrev pub record_check_numbers : List ℕ
record_check_numbers = 44 ∷ check_numbers

-- the rows that stop a reader, in the order checked. 10 was one, and is never used again: M-104
abbrev pub stop_numbers : List ℕ
stop_numbers = 1 ∷ 2 ∷ 4 ∷ 5 ∷ 0 ∷ 8 ∷ 9 ∷ 6 ∷ 7 ∷ 3 ∷ []

-- with a table of events: 11 after 5; a record that is taken may be 26 and 27
abbrev pub table_stop_numbers : List ℕ
table_stop_numbers = 1 ∷ 2 ∷ 4 ∷ 5 ∷ 11 ∷ 0 ∷ 8 ∷ 9 ∷ 6 ∷ 7 ∷ 3 ∷ []

abbrev pub event_numbers : List ℕ
event_numbers = 0 ∷ 20 ∷ 21 ∷ 22 ∷ 23 ∷ 25 ∷ 24 ∷ 26 ∷ 27 ∷ 30 ∷ 31 ∷ 32 ∷ 33 ∷ []

-- the walk over a backward ring (M-109): "1, 2, 5 (head alone), 11 with a table, 0, 6, 13, 8, 9, 3 ..; 4 and 7 don't occur"
abbrev pub walk_numbers : List ℕ
walk_numbers = 1 ∷ 2 ∷ 5 ∷ 0 ∷ 6 ∷ 13 ∷ 8 ∷ 9 ∷ 3 ∷ []

abbrev pub table_walk_numbers : List ℕ
table_walk_numbers = 1 ∷ 2 ∷ 5 ∷ 11 ∷ 0 ∷ 6 ∷ 13 ∷ 8 ∷ 9 ∷ 3 ∷ []

-- "Writer, in this order: 2; 20 to 24; 41 ..; 42 ..; 40 ..", with M-102's 25 between 23 and 24
abbrev pub write_numbers : List ℕ
write_numbers = 0 ∷ 2 ∷ 20 ∷ 21 ∷ 22 ∷ 23 ∷ 25 ∷ 24 ∷ 43 ∷ 41 ∷ 42 ∷ 40 ∷ []

-- "Name copy, in this order: 41 ..; 12 .."
abbrev pub name_numbers : List ℕ
name_numbers = 0 ∷ 41 ∷ 12 ∷ []
