-- The event entries of a store that was written are read one after the other. Assumes nothing.
use Rattle.std.specs.Prelude.{◌≡◌, refl, Bool, true, cond, List, [], ◌∷◌, ◌++◌, ℕ, suc, ◌+◌, ◌^◌, ◌<◌, ◌≤◌, eqb, length, get_or, drop}
use Rattle.std.proofs.Common.{sym, ap, ◌∙◌, append_assoc, append-nil, zero-add, arith, length-append, eq-eqb}
use Rattle.std.proofs.Math.Seq.{append_snoc}
use Rattle.meaning.specs.Bytes.{number_at, spell}
use Rattle.laws.specs.Bytes.{true-and, length-spell}
use Rattle.entries.specs.Entries.{entry, entry_at}
use Rattle.entries.specs.Numbers.{number-there, number-after}
use Rattle.entries.specs.Laws.{written}
use Rattle.settings.specs.Versions.{Version, row_length, place_of}
use Rattle.settings.specs.Reading.{is_event, in_turn, turns_from, row_from, rows_of}
use Rattle.settings.specs.Writing.{word_bytes, row_bytes, rows_bytes}

-- what a store keeps of a row: all but sample_id_all, which is set
abbrev pub kept : List ℕ → List ℕ
kept r = get_or r 0 0 ∷ get_or r 1 0 ∷ get_or r 2 0 ∷ get_or r 3 0 ∷ get_or r 4 0 ∷ get_or r 5 0 ∷ 1 ∷ []

abbrev pub kept_rows : List (List ℕ) → List (List ℕ)
kept_rows [] = []
kept_rows (r ∷ rs) = kept r ∷ kept_rows rs

-- rows of words of 64 bits
abbrev pub Words : List (List ℕ) → Type 0
Words rows = (i j : ℕ) → get_or (get_or rows i []) j 0 < 256 ^ 8

-- a version whose numbers fit their bytes
pub record Proper (v : Version) : Type 0 where
  pub known : 0 < v.width
  pub narrow : v.width ≤ 8
  pub indexes : v.limit ≤ 256 ^ v.width
  pub word : v.number < 256 ^ 2

pub moved : (xs ys : List ℕ) (a b : ℕ) → a ≡ b → drop a xs ≡ ys → drop b xs ≡ ys
moved xs ys a b e h = ap (λ (k : ℕ). drop k xs) (sym e) ∙ h

-- a number, and what is left after it
pub next-number : (k v : ℕ) (ys xs rest : List ℕ) (at : ℕ) → drop at xs ≡ (spell k v ++ ys) ++ rest → v < 256 ^ k
    → (number_at k xs at ≡ v) × (drop (at + k) xs ≡ ys ++ rest)
next-number k v ys xs rest at e b =
    let f : drop at xs ≡ spell k v ++ (ys ++ rest) = e ∙ append_assoc (spell k v) ys rest in
    (number-there k v xs (ys ++ rest) at f b, number-after k v xs (ys ++ rest) at f)

pub words-length : (r : List ℕ) → length (word_bytes r) ≡ 48
words-length r =
    let g : ℕ → List ℕ = λ i. spell 8 (get_or r i 0) in
    let l : (i : ℕ) → length (g i) ≡ 8 = λ i. length-spell 8 (get_or r i 0) in
    omega (
      arith,
      l 0,
      l 1,
      l 2,
      l 3,
      l 4,
      l 5,
      length-append (g 0) (g 1 ++ (g 2 ++ (g 3 ++ (g 4 ++ g 5)))),
      length-append (g 1) (g 2 ++ (g 3 ++ (g 4 ++ g 5))),
      length-append (g 2) (g 3 ++ (g 4 ++ g 5)),
      length-append (g 3) (g 4 ++ g 5),
      length-append (g 4) (g 5),
    )

pub words-there : (xs rest : List ℕ) (at : ℕ) (r : List ℕ) → ((j : ℕ) → get_or r j 0 < 256 ^ 8) → drop at xs ≡ word_bytes r ++ rest → row_from xs at ≡ kept r
words-there xs rest at r b e =
    let g : ℕ → List ℕ = λ i. spell 8 (get_or r i 0) in
    let p2 : at + 8 + 8 ≡ at + 16 = omega arith in
    let p3 : at + 16 + 8 ≡ at + 24 = omega arith in
    let p4 : at + 24 + 8 ≡ at + 32 = omega arith in
    let p5 : at + 32 + 8 ≡ at + 40 = omega arith in
    let s0 = next-number 8 (get_or r 0 0) (g 1 ++ (g 2 ++ (g 3 ++ (g 4 ++ g 5)))) xs rest at e (b 0) in
    let s1 = next-number 8 (get_or r 1 0) (g 2 ++ (g 3 ++ (g 4 ++ g 5))) xs rest (at + 8) s0.1 (b 1) in
    let s2 = next-number 8 (get_or r 2 0) (g 3 ++ (g 4 ++ g 5)) xs rest (at + 16) (moved xs _ _ _ p2 s1.1) (b 2) in
    let s3 = next-number 8 (get_or r 3 0) (g 4 ++ g 5) xs rest (at + 24) (moved xs _ _ _ p3 s2.1) (b 3) in
    let s4 = next-number 8 (get_or r 4 0) (g 5) xs rest (at + 32) (moved xs _ _ _ p4 s3.1) (b 4) in
    let s5 : number_at 8 xs (at + 40) ≡ get_or r 5 0 = number-there 8 (get_or r 5 0) xs rest (at + 40) (moved xs _ _ _ p5 s4.1) (b 5) in
    λ j. s0.0 j ∷ s1.0 j ∷ s2.0 j ∷ s3.0 j ∷ s4.0 j ∷ s5 j ∷ 1 ∷ []

pub record Turn (v : Version) (xs rest : List ℕ) (n : ℕ) (r : List ℕ) : Type 0 where
  pub in-turn : in_turn v xs n ≡ true
  pub row : row_from xs (place_of v n + (6 + v.width)) ≡ kept r
  pub next : drop (place_of v (suc n)) xs ≡ rest

pub turn : (v : Version) (xs rest : List ℕ) (n : ℕ) (r : List ℕ) → v.width ≤ 8 → n < 256 ^ v.width → ((j : ℕ) → get_or r j 0 < 256 ^ 8)
    → drop (place_of v n) xs ≡ row_bytes v n r ++ rest → Turn v xs rest n r
unfolding in_turn place_of
turn v xs rest n r small i b e =
    let p : ℕ = place_of v n in
    let body : List ℕ = spell v.width n ++ word_bytes r in
    let l : length body ≡ row_length v = omega (arith, length-append (spell v.width n) (word_bytes r), length-spell v.width n, words-length r) in
    let w = written xs rest body p 2 e (omega arith) (omega (arith, l)) in
    let k : entry_at xs p ≡ entry 2 (p + 6) (row_length v) = w.told ∙ (λ j. entry 2 (p + 6) (l j)) in
    let m = next-number v.width n (word_bytes r) xs rest (p + 6) w.held i in
    let q : p + 6 + v.width ≡ p + (6 + v.width) = omega arith in
    record {
      in-turn =
          true-and (is_event v (entry_at xs p)) (eqb (number_at v.width xs (p + 6)) n)
          (ap (is_event v) k ∙ eq-eqb (row_length v) (row_length v) refl) (eq-eqb _ _ m.0);
      row = words-there xs rest (p + (6 + v.width)) r b (moved xs _ _ _ q m.1);
      next = ap (λ (j : ℕ). drop (p + (6 + j)) xs) (sym l) ∙ w.next;
    }

-- ---- all of them

pub record Turns (v : Version) (xs rest : List ℕ) (n : ℕ) (rows : List (List ℕ)) : Type 0 where
  pub left : drop (place_of v (length rows + n)) xs ≡ rest
  pub counted : (k : ℕ) → turns_from v xs (length rows + k) n ≡ turns_from v xs k (length rows + n)
  pub held : rows_of v xs (length rows + n) ≡ rows_of v xs n ++ kept_rows rows

pub turns : (v : Version) (xs rest : List ℕ) (n : ℕ) (rows : List (List ℕ)) → v.width ≤ 8 → n + length rows ≤ 256 ^ v.width → Words rows
    → drop (place_of v n) xs ≡ rows_bytes v n rows ++ rest → Turns v xs rest n rows
unfolding rows_bytes turns_from rows_of
turns v xs rest n [] small i b e =
    let z : n ≡ 0 + n = sym (zero-add n) in
    record {
      left = ap (λ (m : ℕ). drop (place_of v m) xs) (sym z) ∙ e;
      counted = λ k. ap (λ (m : ℕ). turns_from v xs m n) (zero-add k) ∙ ap (turns_from v xs k) z;
      held = ap (rows_of v xs) (sym z) ∙ sym (append-nil (rows_of v xs n));
    }
turns v xs rest n (r ∷ rs) small i b e =
    let t = turn v xs (rows_bytes v (suc n) rs ++ rest) n r small (omega arith) (b 0) (e ∙ append_assoc (row_bytes v n r) (rows_bytes v (suc n) rs) rest) in
    let u = turns v xs rest (suc n) rs small (omega arith) (λ i j. b (suc i) j) t.next in
    let z : length rs + suc n ≡ suc (length rs) + n = omega arith in
    let y : (k : ℕ) → suc (length rs) + k ≡ suc (length rs + k) = λ k. omega arith in
    record {
      left = ap (λ (m : ℕ). drop (place_of v m) xs) (sym z) ∙ u.left;
      counted =
          λ k.
          ap (λ (m : ℕ). turns_from v xs m n) (y k)
          ∙ ap (λ (q : Bool). cond q (turns_from v xs (length rs + k) (suc n)) n) t.in-turn
          ∙ u.counted k
          ∙ ap (turns_from v xs k) z;
      held =
          ap (rows_of v xs) (sym z)
          ∙ u.held
          ∙ ap (λ (q : List ℕ). (rows_of v xs n ++ (q ∷ [])) ++ kept_rows rs) t.row
          ∙ append_snoc (rows_of v xs n) (kept r) (kept_rows rs);
    }
