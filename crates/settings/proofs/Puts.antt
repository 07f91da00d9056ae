-- The bytes of a store put into a buffer part by part, and the writer's answers one by one. Assumes nothing.
use Rattle.std.specs.Prelude.{◌≡◌, refl, Bool, true, false, cond, List, [], ◌∷◌, ◌++◌, ℕ, zero, suc, ◌+◌, ◌*◌, ◌<◌, ◌≤◌, eqb, ltb, length, get_or, take}
use Rattle.std.proofs.Common.{sym, ◌∙◌, append_assoc, add-one, arith, length-append, take-suc, length-take-le, eq-eqb, ne_eqb, lt-ltb, le-ltb}
use Rattle.std.proofs.Math.Path.{ap}
use Rattle.std.proofs.Math.Bool.{not}
use Rattle.meaning.specs.Bytes.{spell, put}
use Rattle.meaning.specs.Refusals.{refusal, first}
use Rattle.meaning.specs.declared.Known.{Known}
use Rattle.meaning.specs.Editions.{allowed}
use Rattle.meaning.specs.Ring.{length_allowed}
use Rattle.laws.specs.Bytes.{length-spell}
use Rattle.laws.specs.Put.{put-put, put-nil}
use Rattle.entries.specs.Entries.{entry_bytes}
use Rattle.entries.specs.Laws.{entry_length}
use Rattle.meaning.specs.Events.{events_of, sound}
use Rattle.settings.specs.Versions.{Version, row_length, place_of}
use Rattle.settings.specs.Writing.{word_bytes, row_bytes, rows_bytes, last_bytes, store_bytes, write_answer, stored, write_store, buffer_after}
use Rattle.laws.specs.Rows.{first-no, first-yes, first-none}
use Rattle.settings.proofs.Turns.{words-length}
use Rattle.settings.proofs.Only.{rows_snoc}

-- bytes put right after those that were put
pub more : (d e : List ℕ) (at n p k : ℕ) (s t : List ℕ) → e ≡ put d at s → length s ≡ n → length t ≡ k → p ≡ at + n → p + k ≤ length d
    → (put e p t ≡ put d at (s ++ t)) × (length (s ++ t) ≡ n + k)
more d e at n p k s t q l m z h =
    let y : p ≡ at + length s = omega arith in
    (ap (λ (x : List ℕ). put x p t) q ∙ ap (λ (j : ℕ). put (put d at s) j t) y ∙ put-put d at s t (omega arith), omega (arith, length-append s t))

pub words-put : (d d1 d2 d3 d4 d5 d6 : List ℕ) (at : ℕ) (r : List ℕ) → at + 48 ≤ length d
    → d1 ≡ put d at (spell 8 (get_or r 0 0)) → d2 ≡ put d1 (at + 8) (spell 8 (get_or r 1 0)) → d3 ≡ put d2 (at + 16) (spell 8 (get_or r 2 0))
    → d4 ≡ put d3 (at + 24) (spell 8 (get_or r 3 0)) → d5 ≡ put d4 (at + 32) (spell 8 (get_or r 4 0)) → d6 ≡ put d5 (at + 40) (spell 8 (get_or r 5 0))
    → d6 ≡ put d at (word_bytes r)
words-put d d1 d2 d3 d4 d5 d6 at r h e1 e2 e3 e4 e5 e6 =
    let g : ℕ → List ℕ = λ i. spell 8 (get_or r i 0) in
    let l : (i : ℕ) → length (g i) ≡ 8 = λ i. length-spell 8 (get_or r i 0) in
    let m2 = more d d1 at 8 (at + 8) 8 (g 0) (g 1) e1 (l 0) (l 1) refl (omega arith) in
    let m3 = more d d2 at 16 (at + 16) 8 (g 0 ++ g 1) (g 2) (e2 ∙ m2.0) m2.1 (l 2) refl (omega arith) in
    let m4 = more d d3 at 24 (at + 24) 8 ((g 0 ++ g 1) ++ g 2) (g 3) (e3 ∙ m3.0) m3.1 (l 3) refl (omega arith) in
    let m5 = more d d4 at 32 (at + 32) 8 (((g 0 ++ g 1) ++ g 2) ++ g 3) (g 4) (e4 ∙ m4.0) m4.1 (l 4) refl (omega arith) in
    let m6 = more d d5 at 40 (at + 40) 8 ((((g 0 ++ g 1) ++ g 2) ++ g 3) ++ g 4) (g 5) (e5 ∙ m5.0) m5.1 (l 5) refl (omega arith) in
    let f : ((((g 0 ++ g 1) ++ g 2) ++ g 3) ++ g 4) ++ g 5 ≡ word_bytes r = simp append_assoc in
    e6 ∙ m6.0 ∙ ap (put d at) f

pub row_put : (v : Version) (d d1 d2 d3 : List ℕ) (at n : ℕ) (r : List ℕ) → at + (v.width + 54) ≤ length d
    → d1 ≡ put d at (spell 4 (6 + (v.width + 48)) ++ spell 2 2) → d2 ≡ put d1 (at + 6) (spell v.width n)
    → d3 ≡ put d2 (at + 6 + v.width) (word_bytes r) → d3 ≡ put d at (row_bytes v n r)
unfolding entry_bytes
row_put v d d1 d2 d3 at n r h e1 e2 e3 =
    let w : ℕ = v.width in
    let k : List ℕ = spell 4 (6 + (w + 48)) in
    let b : List ℕ = spell w n ++ word_bytes r in
    let lh : length (k ++ spell 2 2) ≡ 6 = omega (arith, length-append k (spell 2 2), length-spell 4 (6 + (w + 48)), length-spell 2 2) in
    let lb : length b ≡ w + 48 = omega (arith, length-append (spell w n) (word_bytes r), length-spell w n, words-length r) in
    let m2 = more d d1 at 6 (at + 6) w (k ++ spell 2 2) (spell w n) e1 lh (length-spell w n) refl (omega arith) in
    let m3 = more d d2 at (6 + w) (at + 6 + w) 48 ((k ++ spell 2 2) ++ spell w n) (word_bytes r) (e2 ∙ m2.0) m2.1 (words-length r) (omega arith) (omega arith) in
    e3
    ∙ m3.0
    ∙ ap (put d at)
    (append_assoc (k ++ spell 2 2) (spell w n) (word_bytes r)
    ∙ append_assoc k (spell 2 2) b
    ∙ ap (λ (j : ℕ). spell 4 (6 + j) ++ (spell 2 2 ++ b)) (sym lb))

pub last-put : (d d1 d2 d3 d4 : List ℕ) (at ring edition budget : ℕ) → at + 19 ≤ length d
    → d1 ≡ put d at (spell 4 (6 + 13) ++ spell 2 3) → d2 ≡ put d1 (at + 6) (spell 8 ring) → d3 ≡ put d2 (at + 14) (spell 1 edition)
    → d4 ≡ put d3 (at + 15) (spell 4 budget) → d4 ≡ put d at (last_bytes ring edition budget)
unfolding entry_bytes
last-put d d1 d2 d3 d4 at ring edition budget h e1 e2 e3 e4 =
    let k : List ℕ = spell 4 19 in
    let x : List ℕ = spell 8 ring in
    let y : List ℕ = spell 1 edition in
    let z : List ℕ = spell 4 budget in
    let lh : length (k ++ spell 2 3) ≡ 6 = omega (arith, length-append k (spell 2 3), length-spell 4 19, length-spell 2 3) in
    let lb : length (x ++ (y ++ z)) ≡ 13 = omega (arith, length-append x (y ++ z), length-append y z, length-spell 8 ring, length-spell 1 edition, length-spell 4 budget) in
    let m2 = more d d1 at 6 (at + 6) 8 (k ++ spell 2 3) x e1 lh (length-spell 8 ring) refl (omega arith) in
    let m3 = more d d2 at 14 (at + 14) 1 ((k ++ spell 2 3) ++ x) y (e2 ∙ m2.0) m2.1 (length-spell 1 edition) refl (omega arith) in
    let m4 = more d d3 at 15 (at + 15) 4 (((k ++ spell 2 3) ++ x) ++ y) z (e3 ∙ m3.0) m3.1 (length-spell 4 budget) refl (omega arith) in
    e4
    ∙ m4.0
    ∙ ap (put d at)
    (append_assoc ((k ++ spell 2 3) ++ x) y z
    ∙ append_assoc (k ++ spell 2 3) x (y ++ z)
    ∙ append_assoc k (spell 2 3) (x ++ (y ++ z))
    ∙ ap (λ (j : ℕ). spell 4 (6 + j) ++ (spell 2 3 ++ (x ++ (y ++ z)))) (sym lb))

-- ---- lengths

pub row-length : (v : Version) (n : ℕ) (r : List ℕ) → length (row_bytes v n r) ≡ 6 + row_length v
row-length v n r =
    omega (arith, entry_length 2 (spell v.width n ++ word_bytes r), length-append (spell v.width n) (word_bytes r), length-spell v.width n, words-length r)

pub rows_end : (v : Version) (n : ℕ) (rows : List (List ℕ)) → 8 + length (rows_bytes v n rows) ≡ place_of v (length rows)
unfolding rows_bytes place_of
rows_end v n [] = refl
rows_end v n (r ∷ rs) = omega (arith, rows_end v (suc n) rs, length-append (row_bytes v n r) (rows_bytes v (suc n) rs), row-length v n r)

pub last-length : (ring edition budget : ℕ) → length (last_bytes ring edition budget) ≡ 19
last-length ring edition budget =
    let x : List ℕ = spell 8 ring in
    let y : List ℕ = spell 1 edition in
    let z : List ℕ = spell 4 budget in
    omega (arith, entry_length 3 (x ++ (y ++ z)), length-append x (y ++ z), length-append y z, length-spell 8 ring, length-spell 1 edition, length-spell 4 budget)

pub store_length : (v : Version) (rows : List (List ℕ)) (ring edition budget : ℕ) → length (store_bytes v rows ring edition budget) ≡ place_of v (length rows) + 19
unfolding store_bytes
store_length v rows ring edition budget =
    let h : List ℕ = entry_bytes 1 (spell 2 v.number) in
    let t : List ℕ = last_bytes ring edition budget in
    omega (
      arith,
      length-append h (rows_bytes v 0 rows ++ t),
      length-append (rows_bytes v 0 rows) t,
      entry_length 1 (spell 2 v.number),
      length-spell 2 v.number,
      rows_end v 0 rows,
      last-length ring edition budget,
    )

pub place-bound : (v : Version) (n : ℕ) → v.width ≤ 2 → place_of v n ≤ 8 + 56 * n
unfolding place_of
place-bound v zero w = omega arith
place-bound v (suc n) w = omega (arith, place-bound v n w, w)

-- ---- the rows, one after the other

pub rows-put : (v : Version) (d e : List ℕ) (rows : List (List ℕ)) (i : ℕ) → i < length rows → place_of v (i + 1) ≤ length d
    → e ≡ put d 8 (rows_bytes v 0 (take i rows))
    → put e (place_of v i) (row_bytes v i (get_or rows i [])) ≡ put d 8 (rows_bytes v 0 (take (i + 1) rows))
unfolding place_of
rows-put v d e rows i h m q =
    let s : List ℕ = rows_bytes v 0 (take i rows) in
    let r : List ℕ = get_or rows i [] in
    let l : length (take i rows) ≡ i = length-take-le i rows (omega arith) in
    let p : 8 + length s ≡ place_of v i = rows_end v 0 (take i rows) ∙ ap (place_of v) l in
    let y : place_of v (i + 1) ≡ place_of v i + (6 + row_length v) = ap (place_of v) (add-one i) in
    let n : length (take i rows) + 0 ≡ i = omega arith in
    (more d e 8 (length s) (place_of v i) (6 + row_length v) s (row_bytes v i r) q refl (row-length v i r) (sym p) (omega arith)).0
    ∙ ap (put d 8)
    (ap (λ (k : ℕ). s ++ row_bytes v k r) (sym n)
    ∙ sym (rows_snoc v 0 (take i rows) r)
    ∙ ap (rows_bytes v 0) (sym (take-suc rows i [] h) ∙ ap (λ (k : ℕ). take k rows) (sym (add-one i))))

pub rows_none : (v : Version) (d : List ℕ) (rows : List (List ℕ)) → 8 ≤ length d → d ≡ put d 8 (rows_bytes v 0 (take 0 rows))
unfolding rows_bytes
rows_none v d rows h = sym (put-nil d 8 h)

-- ---- the whole

pub store-put : (v : Version) (d d1 d2 d3 : List ℕ) (rows : List (List ℕ)) (at ring edition budget : ℕ) → at ≡ place_of v (length rows)
    → place_of v (length rows) + 19 ≤ length d → d1 ≡ put d 0 (entry_bytes 1 (spell 2 v.number)) → d2 ≡ put d1 8 (rows_bytes v 0 rows)
    → d3 ≡ put d2 at (last_bytes ring edition budget) → d3 ≡ put d 0 (store_bytes v rows ring edition budget)
unfolding store_bytes
store-put v d d1 d2 d3 rows at ring edition budget z h e1 e2 e3 =
    let a : List ℕ = entry_bytes 1 (spell 2 v.number) in
    let b : List ℕ = rows_bytes v 0 rows in
    let c : List ℕ = last_bytes ring edition budget in
    let la : length a ≡ 8 = omega (arith, entry_length 1 (spell 2 v.number), length-spell 2 v.number) in
    let p : 8 + length b ≡ place_of v (length rows) = rows_end v 0 rows in
    let m2 = more d d1 0 8 8 (length b) a b e1 la refl refl (omega arith) in
    let m3 = more d d2 0 (8 + length b) at 19 (a ++ b) c (e2 ∙ m2.0) m2.1 (last-length ring edition budget) (omega arith) (omega arith) in
    e3 ∙ m3.0 ∙ ap (put d 0) (append_assoc a b c)

-- ---- the answers

module _ (v : Version) (ks : List Known) (rows : List (List ℕ)) (ring edition budget room : ℕ) where
  pub write-11 : sound v.limit (events_of rows) ≡ false → write_answer v ks rows ring edition budget room ≡ 11
  unfolding write_answer
  write-11 s = first-yes (refusal (not (sound v.limit (events_of rows))) 11) _ 0 (ap not s)

  pub write-1 : sound v.limit (events_of rows) ≡ true → length_allowed ring ≡ false → write_answer v ks rows ring edition budget room ≡ 1
  unfolding write_answer
  write-1 s r = first-no (refusal (not (sound v.limit (events_of rows))) 11) _ 0 (ap not s) ∙ first-yes (refusal (not (length_allowed ring)) 1) _ 0 (ap not r)

  pub write-2 : sound v.limit (events_of rows) ≡ true → length_allowed ring ≡ true → allowed ks edition ≡ false → write_answer v ks rows ring edition budget room ≡ 2
  unfolding write_answer
  write-2 s r e =
      first-no (refusal (not (sound v.limit (events_of rows))) 11) _ 0 (ap not s)
      ∙ first-no (refusal (not (length_allowed ring)) 1) _ 0 (ap not r)
      ∙ first-yes (refusal (not (allowed ks edition)) 2) _ 0 (ap not e)

  pub write-past : sound v.limit (events_of rows) ≡ true → length_allowed ring ≡ true → allowed ks edition ≡ true
      → write_answer v ks rows ring edition budget room ≡ first (refusal (ltb room (place_of v (length rows) + 19)) 40 ∷ []) 0
  unfolding write_answer
  write-past s r e =
      first-no (refusal (not (sound v.limit (events_of rows))) 11) _ 0 (ap not s)
      ∙ first-no (refusal (not (length_allowed ring)) 1) _ 0 (ap not r)
      ∙ first-no (refusal (not (allowed ks edition)) 2) _ 0 (ap not e)
      ∙ ap (λ (n : ℕ). first (refusal (ltb room n) 40 ∷ []) 0) (store_length v rows ring edition budget)

pub write-40 : (v : Version) (ks : List Known) (rows : List (List ℕ)) (ring edition budget room : ℕ) → sound v.limit (events_of rows) ≡ true → length_allowed ring ≡ true
    → allowed ks edition ≡ true → room < place_of v (length rows) + 19 → write_answer v ks rows ring edition budget room ≡ 40
write-40 v ks rows ring edition budget room s r e h =
    write-past v ks rows ring edition budget room s r e ∙ first-yes (refusal (ltb room (place_of v (length rows) + 19)) 40) [] 0 (lt-ltb _ _ h)

pub write-0 : (v : Version) (ks : List Known) (rows : List (List ℕ)) (ring edition budget room : ℕ) → sound v.limit (events_of rows) ≡ true → length_allowed ring ≡ true
    → allowed ks edition ≡ true → place_of v (length rows) + 19 ≤ room → write_answer v ks rows ring edition budget room ≡ 0
write-0 v ks rows ring edition budget room s r e h =
    write-past v ks rows ring edition budget room s r e ∙ first-no (refusal (ltb room (place_of v (length rows) + 19)) 40) [] 0 (le-ltb _ _ h) ∙ first-none 0

pub write-refused : (v : Version) (ks : List Known) (rows : List (List ℕ)) (ring edition budget : ℕ) (d : List ℕ) (k : ℕ)
    → write_answer v ks rows ring edition budget (length d) ≡ k → (k ≡ 0 → ⊥)
    → (stored k 0 ≡ write_store v ks rows ring edition budget (length d)) × (d ≡ buffer_after v ks rows ring edition budget d)
unfolding write_store buffer_after
write-refused v ks rows ring edition budget d k e z =
    let a : ℕ = write_answer v ks rows ring edition budget (length d) in
    let q : eqb a 0 ≡ false = ne_eqb a 0 (λ h. z (sym e ∙ h)) in (
      sym (ap (λ (b : Bool). cond b (stored 0 (length (store_bytes v rows ring edition budget))) (stored a 0)) q ∙ ap (λ (n : ℕ). stored n 0) e),
      sym (ap (λ (b : Bool). cond b (put d 0 (store_bytes v rows ring edition budget)) d) q),
    )

pub write-given : (v : Version) (ks : List Known) (rows : List (List ℕ)) (ring edition budget : ℕ) (d : List ℕ) → write_answer v ks rows ring edition budget (length d) ≡ 0
    → (stored 0 (place_of v (length rows) + 19) ≡ write_store v ks rows ring edition budget (length d))
    × (put d 0 (store_bytes v rows ring edition budget) ≡ buffer_after v ks rows ring edition budget d)
unfolding write_store buffer_after
write-given v ks rows ring edition budget d e =
    let a : ℕ = write_answer v ks rows ring edition budget (length d) in
    let q : eqb a 0 ≡ true = eq-eqb a 0 e in (
      sym (ap (λ (b : Bool). cond b (stored 0 (length (store_bytes v rows ring edition budget))) (stored a 0)) q ∙ ap (stored 0) (store_length v rows ring edition budget)),
      sym (ap (λ (b : Bool). cond b (put d 0 (store_bytes v rows ring edition budget)) d) q),
    )

-- a list that begins with n elements has as many in front
pub prefix-length : {A : Type 0} (n : ℕ) (x p q : List A) → x ≡ p ++ q → length p ≡ n → n ≡ length (take n x)
prefix-length n x p q e h = sym (length-take-le n x (omega (arith, ap length e, length-append p q)))
