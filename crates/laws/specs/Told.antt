-- The words of a whole record, laid in their places; what a writer is told by them is the record's value. Assumes nothing.
use Rattle.std.specs.Prelude.{◌≡◌, Bool, true, false, ◌&&◌, cond, get_or, leb, eqb}
use Rattle.std.proofs.Math.Path.{refl, sym, ap, ap₂}
use Rattle.std.proofs.Common.{◌∙◌, subst, arith, length-append, length-take-le, take_at, drop-drop, drop-cons, take_all, leb-true}
use Prim.Native.Nat.{ℕ, zero, suc, ◌+◌, ◌-◌, ◌≤◌}
use mathlib.Core.List.{List, [], ◌∷◌, ◌++◌, append_assoc}
use Rattle.std.proofs.Math.ListN.{length, take, drop, length-replicate}
use Rattle.std.proofs.Math.Seq.{take-length, drop_at, take-append-add, drop-append-add}
use Rattle.meaning.specs.declared.Attributes.{Attributes}
use Rattle.meaning.specs.States.{Cursor}
use Rattle.meaning.specs.declared.Item.{Item}
use Rattle.meaning.specs.declared.Known.{Known}
use Rattle.meaning.specs.Bytes.{zeros, all_zero, put, bit}
use Rattle.meaning.specs.Items.{step}
use Rattle.meaning.specs.Writing.{ends, named}
use Rattle.meaning.specs.Schema.{schema, schemas, trailer, trails}
use Rattle.meaning.specs.Records.{Layout, layout, room, kind_of, misc_of, size_of, origin, fields_of, check_by, body_of, tail_of, flag_by, flag_of, value}
use Rattle.meaning.specs.Values.{tell, width, flag_words, flag_told, body_width, words, words_by, record_words, means, slots_told, any_beyond, meant, spare_by, spare, slot_item}
use Rattle.laws.specs.Bytes.{apart, and-true, true-and, all-zeros}
use Rattle.laws.specs.Put.{put-fits}
use Rattle.laws.specs.Fixed.{fixed-run}
use Rattle.laws.specs.Answers.{fields-zero, check-zero}
use Rattle.laws.specs.Whole.{SoundLayout, nameless-clean}
use Rattle.laws.specs.Every.{sound}
use Rattle.laws.specs.Words.{start, seen, asks, steady, Agree, tell-length, items-told}

-- ---- zeros

pub take-zeros : (a b : ℕ) → a ≤ b → take a (zeros b) ≡ zeros a
take-zeros zero b h = refl
take-zeros (suc a) zero h = absurd (omega arith)
take-zeros (suc a) (suc b) h = ap (λ (l : List ℕ). 0 ∷ l) (take-zeros a b (omega arith))

pub drop-zeros : (a b : ℕ) → drop a (zeros b) ≡ zeros (b - a)
drop-zeros zero b = let e : b ≡ b - 0 = omega arith in ap (λ (n : ℕ). zeros n) e
drop-zeros (suc a) zero = let e : 0 ≡ 0 - suc a = omega arith in ap (λ (n : ℕ). zeros n) e
drop-zeros (suc a) (suc b) = let e : b - a ≡ suc b - suc a = omega arith in drop-zeros a b ∙ ap (λ (n : ℕ). zeros n) e

pub all_append : (xs ys : List ℕ) → all_zero xs ≡ true → all_zero ys ≡ true → all_zero (xs ++ ys) ≡ true
unfolding all_zero
all_append [] ys p q = q
all_append (x ∷ xs) ys p q =
    let s = and-true (eqb x 0) (all_zero xs) p in
    true-and (eqb x 0) (all_zero (xs ++ ys)) s.0 (all_append xs ys s.1 q)

-- ---- places of an append

take-over : (n : ℕ) (xs ys : List ℕ) → length xs ≤ n → take n (xs ++ ys) ≡ xs ++ take (n - length xs) ys
take-over n xs ys h =
    let e : n ≡ length xs + (n - length xs) = omega arith in
    ap (λ (k : ℕ). take k (xs ++ ys)) e ∙ take-append-add xs ys (n - length xs)

drop-over : (n : ℕ) (xs ys : List ℕ) → length xs ≤ n → drop n (xs ++ ys) ≡ drop (n - length xs) ys
drop-over n xs ys h =
    let e : n ≡ length xs + (n - length xs) = omega arith in
    ap (λ (k : ℕ). drop k (xs ++ ys)) e ∙ drop-append-add xs ys (n - length xs)

-- ---- the words in their places

module _ (k m s : ℕ) (W T : List ℕ) (wide : length W ≤ 45) (few : length T ≤ 8) where
  abbrev laid : List ℕ
  laid = k ∷ m ∷ s ∷ (W ++ (zeros (45 - length W) ++ (T ++ zeros (8 - length T))))

  first-put : put (k ∷ m ∷ s ∷ zeros 53) 3 W ≡ k ∷ m ∷ s ∷ (W ++ zeros (53 - length W))
  first-put =
      put-fits (k ∷ m ∷ s ∷ zeros 53) 3 W (omega arith)
      ∙ ap (λ (l : List ℕ). k ∷ m ∷ s ∷ (W ++ l)) (sym (drop-drop (length W) 3 (k ∷ m ∷ s ∷ zeros 53)) ∙ drop-zeros (length W) 53)

  second-put : put (k ∷ m ∷ s ∷ (W ++ zeros (53 - length W))) 48 T ≡ laid
  second-put =
      let w : ℕ = length W in
      let Z : List ℕ = zeros (53 - w) in
      let d : List ℕ = k ∷ m ∷ s ∷ (W ++ Z) in
      let l_z = length-replicate {A = ℕ} (53 - w) 0 in
      let l_x = length-append W Z in
      let n₁ : 53 - w - (45 - w) ≡ 8 = omega arith in
      let front : take 45 (W ++ Z) ≡ W ++ zeros (45 - w) =
      take-over 45 W Z wide ∙ ap (λ (l : List ℕ). W ++ l) (take-zeros (45 - w) (53 - w) (omega arith)) in
      let back : drop (48 + length T) d ≡ zeros (8 - length T) =
      sym (drop-drop (length T) 48 d)
      ∙ ap (λ (l : List ℕ). drop (length T) l) (drop-over 45 W Z wide ∙ drop-zeros (45 - w) (53 - w) ∙ ap (λ (n : ℕ). zeros n) n₁)
      ∙ drop-zeros (length T) 8 in
      put-fits d 48 T (omega (arith, l_x, l_z))
      ∙ ap₂ (λ (a b : List ℕ). (k ∷ m ∷ s ∷ a) ++ T ++ b) front back
      ∙ append_assoc (k ∷ m ∷ s ∷ (W ++ zeros (45 - w))) T (zeros (8 - length T))
      ∙ ap (λ (l : List ℕ). k ∷ m ∷ s ∷ l) (append_assoc W (zeros (45 - w)) (T ++ zeros (8 - length T)))

  pub both-put : put (put (k ∷ m ∷ s ∷ zeros 53) 3 W) 48 T ≡ laid
  both-put = ap (λ (l : List ℕ). put l 48 T) first-put ∙ second-put

  pub laid-length : length laid ≡ 56
  laid-length =
      let a = length-append W (zeros (45 - length W) ++ (T ++ zeros (8 - length T))) in
      let b = length-append (zeros (45 - length W)) (T ++ zeros (8 - length T)) in
      let c = length-append T (zeros (8 - length T)) in
      let d = length-replicate {A = ℕ} (45 - length W) 0 in
      let e = length-replicate {A = ℕ} (8 - length T) 0 in
      omega (arith, a, b, c, d, e)

  -- the trailer's words follow, 48 words on
  laid-trail : drop 48 laid ≡ T ++ zeros (8 - length T)
  laid-trail =
      let d = length-replicate {A = ℕ} (45 - length W) 0 in
      drop-over 45 W (zeros (45 - length W) ++ (T ++ zeros (8 - length T))) wide
      ∙ drop_at (zeros (45 - length W)) (T ++ zeros (8 - length T)) (45 - length W) d

  -- the others are zero
  laid-spare : (is ts : List Item) → length W ≡ body_width is → length T ≡ width ts → all_zero (spare_by is ts laid) ≡ true
  unfolding spare_by
  laid-spare is ts p q =
      let w : ℕ = length W in
      let Y : List ℕ = T ++ zeros (8 - length T) in
      let d = length-replicate {A = ℕ} (45 - w) 0 in
      let front : take 48 laid ≡ k ∷ m ∷ s ∷ (W ++ zeros (45 - w)) =
      ap (λ (l : List ℕ). k ∷ m ∷ s ∷ l) (take-over 45 W (zeros (45 - w) ++ Y) wide ∙ ap (λ (l : List ℕ). W ++ l) (take_at (zeros (45 - w)) Y (45 - w) d)) in
      let body : drop (3 + body_width is) (take 48 laid) ≡ zeros (45 - w) =
      ap₂ (λ (n : ℕ) (l : List ℕ). drop (3 + n) l) (sym p) front
      ∙ sym (drop-drop w 3 (k ∷ m ∷ s ∷ (W ++ zeros (45 - w)))) ∙ drop_at W (zeros (45 - w)) w refl in
      let trail : drop (48 + width ts) (take 56 laid) ≡ zeros (8 - length T) =
      ap₂ (λ (n : ℕ) (l : List ℕ). drop (48 + n) l) (sym q) (take_all 56 laid (let l = laid-length in omega (arith, l)))
      ∙ sym (drop-drop (length T) 48 laid) ∙ ap (λ (l : List ℕ). drop (length T) l) laid-trail ∙ drop_at T (zeros (8 - length T)) (length T) refl in
      rw (body, trail) (all_append (zeros (45 - w)) (zeros (8 - length T)) (all-zeros (45 - w)) (all-zeros (8 - length T)))

pub words-length : (is : List Item) (xs : List ℕ) (c : Cursor) → length (words xs is c) ≡ width is
unfolding words width
words-length [] xs c = refl
words-length (i ∷ is) xs c =
    length-append (tell i.shape (slot_item xs i c)) (words xs is (step xs i c))
    ∙ ap₂ (λ (a b : ℕ). a + b) (tell-length i.shape (slot_item xs i c)) (words-length is xs (step xs i c))

-- what the words ask of a layout: no list counted by an abi word, and no more words than there is room for
pub record Worded (lay : Layout) : Type 0 where
  pub counts : (kind misc : ℕ) → steady (lay.body kind misc) start ≡ true
  pub trails : (kind : ℕ) → steady (lay.trail kind) start ≡ true
  pub wide : (kind misc : ℕ) → body_width (lay.body kind misc) ≤ 45
  pub few : (kind : ℕ) → width (lay.trail kind) ≤ 8

agree-start : (at : ℕ) → Agree start 0 0 (origin at)
agree-start at = record { last = λ e. refl; earlier = λ e. refl; most = λ e. absurd (apart e) }

-- what is told: the value, with its flag; every place inside the record; the other words zero
pub record Tells (lay : Layout) (xs ws : List ℕ) : Type 0 where
  pub kind : get_or ws 0 0 ≡ kind_of xs
  pub misc : get_or ws 1 0 ≡ misc_of xs
  pub flag : flag_told (lay.body (get_or ws 0 0) (get_or ws 1 0)) ws ≡ flag_of lay xs
  pub means : meant lay xs ws ≡ value lay xs
  pub inside : any_beyond xs (lay.body (get_or ws 0 0) (get_or ws 1 0)) (slots_told (lay.body (get_or ws 0 0) (get_or ws 1 0)) (drop 3 ws) 0 0) ≡ false
  pub spared : all_zero (spare lay ws) ≡ true
  pub long : length ws ≡ 56

pub flag-length : (is : List Item) (f : ℕ) → length (flag_words is f) ≡ length (flag_words is 0)
unfolding flag_words
flag-length is f = go (named is)
  where
    go : (t : Bool) → length (cond t (f ∷ []) []) ≡ length (cond {A = List ℕ} t (0 ∷ []) [])
    go true = refl
    go false = refl

-- the flag's word stands after those of the fields
flag-told : (is : List Item) (ws w rest : List ℕ) (f : ℕ) → length w ≡ width is → drop 3 ws ≡ w ++ (flag_words is f ++ rest) → length ws ≡ 56 → width is ≤ 45
    → (named is ≡ false → f ≡ 0) → flag_told is ws ≡ f
unfolding flag_told flag_words
flag-told is ws w rest f lw e l m n = go (named is) refl e
  where
    go : (t : Bool) → named is ≡ t → drop 3 ws ≡ w ++ (cond t (f ∷ []) [] ++ rest) → cond t (get_or ws (3 + width is) 0) 0 ≡ f
    go true p q =
        ap (λ (x : List ℕ). get_or x 0 0)
        (sym (drop-cons ws (3 + width is) 0 (omega (arith, l, m))) ∙ sym (drop-drop (width is) 3 ws) ∙ ap (λ (x : List ℕ). drop (width is) x) q ∙ drop_at w (f ∷ rest) (width is) lw)
    go false p q = sym (n p)

pub record_told : (lay : Layout) (xs : List ℕ) → SoundLayout lay → Worded lay → check_by lay xs ≡ 0 → Tells lay xs (record_words lay xs)
unfolding record_words words_by meant value body_of tail_of flag_of spare fields_of
record_told lay xs sound worded h =
    let is : List Item = lay.body (kind_of xs) (misc_of xs) in
    let ts : List Item = lay.trail (kind_of xs) in
    let t : ℕ = room ts in
    let z = check-zero lay xs h in
    let f = fields-zero is t xs z.4 in
    let F : List ℕ = fields_of t xs in
    let f₁ : ℕ = flag_by is t xs in
    let w : List ℕ = words F is (origin 8) in
    let fw : List ℕ = flag_words is f₁ in
    let W : List ℕ = w ++ fw in
    let o : Cursor = origin (length xs - t) in
    let T : List ℕ = words xs ts o in
    let lw : length w ≡ width is = words-length is F (origin 8) in
    let lf = flag-length is f₁ in
    let la = length-append w fw in
    let l_w : length W ≡ body_width is = omega (arith, lw, lf, la) in
    let l_t : length T ≡ width ts = words-length ts xs o in
    let w₁ = worded.wide (kind_of xs) (misc_of xs) in
    let w₂ = worded.few (kind_of xs) in
    let wide : length W ≤ 45 = omega (arith, l_w, w₁) in
    let few : length T ≤ 8 = omega (arith, l_t, w₂) in
    let e : record_words lay xs ≡ laid (kind_of xs) (misc_of xs) (size_of xs) W T wide few = both-put (kind_of xs) (misc_of xs) (size_of xs) W T wide few in
    let least = f.0 in
    let l_f : length F ≡ length xs - t = length-take-le (length xs - t) xs (omega arith) in
    let b = items-told is xs F (length xs - t) (origin 8) start 0 0 (fw ++ (zeros (45 - length W) ++ (T ++ zeros (8 - length T)))) refl (omega (arith, l_f, least)) f.1 (agree-start 8) (worded.counts (kind_of xs) (misc_of xs)) in
    let r = fixed-run ts xs o (sound.plain (kind_of xs)) refl (omega (arith, least)) in
    let d = items-told ts xs xs (length xs) o start 0 0 (zeros (8 - length T)) (sym (take-length xs)) (omega (arith, least)) r.0 (agree-start (length xs - t)) (worded.trails (kind_of xs)) in
    let asc = append_assoc w fw (zeros (45 - length W) ++ (T ++ zeros (8 - length T))) in
    let g : flag_told is (laid (kind_of xs) (misc_of xs) (size_of xs) W T wide few) ≡ flag_of lay xs =
    flag-told is (laid (kind_of xs) (misc_of xs) (size_of xs) W T wide few) w (zeros (45 - length W) ++ (T ++ zeros (8 - length T))) f₁ lw asc (laid-length (kind_of xs) (misc_of xs) (size_of xs) W T wide few) (omega (arith, l_w, w₁)) (nameless-clean lay xs) in
    let q = laid-trail (kind_of xs) (misc_of xs) (size_of xs) W T wide few in
    subst (λ (ws : List ℕ). Tells lay xs ws) (sym e) (record {
      kind = refl;
      misc = refl;
      flag = g;
      means = λ j. record {
        kind = kind_of xs;
        misc = misc_of xs;
        size = size_of xs;
        body = (ap (λ (l : List ℕ). means xs is (slots_told is l 0 0)) asc ∙ b.0) j;
        tail = (ap (λ (l : List ℕ). means xs ts (slots_told ts l 0 0)) q ∙ d.0) j;
        flag = g j;
      };
      inside = ap (λ (l : List ℕ). any_beyond xs is (slots_told is l 0 0)) asc ∙ b.1;
      spared = laid-spare (kind_of xs) (misc_of xs) (size_of xs) W T wide few is ts l_w l_t;
      long = laid-length (kind_of xs) (misc_of xs) (size_of xs) W T wide few;
    })

-- ---- the layouts of every edition and all attributes

unfoldable all_steady : List (List Item) → Bool
all_steady [] = true
all_steady (is ∷ ls) = steady is start && all_steady ls

unfoldable all_within : ℕ → List (List Item) → Bool
all_within k [] = true
all_within k (is ∷ ls) = leb (body_width is) k && all_within k ls

steady-of : (ls : List (List Item)) (k : ℕ) → all_steady ls ≡ true → steady (get_or ls k []) start ≡ true
unfolding all_steady steady
steady-of [] k h = refl
steady-of (is ∷ ls) zero h = (and-true (steady is start) (all_steady ls) h).0
steady-of (is ∷ ls) (suc k) h = steady-of ls k (and-true (steady is start) (all_steady ls) h).1

within_of : (m : ℕ) (ls : List (List Item)) (k : ℕ) → all_within m ls ≡ true → body_width (get_or ls k []) ≤ m
unfolding all_within width flag_words named
within_of m [] k h = omega arith
within_of m (is ∷ ls) zero h = leb-true (body_width is) m (and-true (leb (body_width is) m) (all_within m ls) h).0
within_of m (is ∷ ls) (suc k) h = within_of m ls k (and-true (leb (body_width is) m) (all_within m ls) h).1

all-within : (misc : ℕ) (a : Attributes) → all_within 45 (schemas misc a) ≡ true
unfolding all_within width tell flag_words named ends
all-within misc a = refl

same : (b : Bool) → cond b b true ≡ true
same true = refl
same false = refl

capped : (b : Bool) → cond b (b && (b && true)) true ≡ true
capped true = refl
capped false = refl

all-steady : (misc : ℕ) (a : Attributes) → all_steady (schemas misc a) ≡ true
unfolding all_steady steady seen asks
all-steady misc a =
    rw (
      same (bit a.format 3),
      same (bit a.sample 4 && bit a.format 3),
      same (bit a.sample 5),
      same (bit a.sample 10),
      same (bit a.sample 11),
      same (bit a.sample 13),
      same (bit a.sample 20),
      capped (bit misc 14),
    )

trailer-steady : (kind : ℕ) (a : Attributes) → steady (trailer kind a) start ≡ true
unfolding steady seen asks
trailer-steady kind a = refl

pub trailer-few : (kind : ℕ) (a : Attributes) → width (trailer kind a) ≤ 8
unfolding width tell
trailer-few kind a = omega arith

pub fields-few : (kind misc : ℕ) (a : Attributes) → body_width (schema kind misc a) ≤ 45
fields-few kind misc a = within_of 45 (schemas misc a) kind (all-within misc a)

pub worded : (k : Known) (a : Attributes) → Worded (layout k a)
unfolding layout
worded k a = record {
  counts = λ kind misc. steady-of (schemas misc a) kind (all-steady misc a);
  trails = λ kind. trailer-steady kind a;
  wide = λ kind misc. fields-few kind misc a;
  few = λ kind. trailer-few kind a;
}

-- the words of a record that is accepted mean its value
pub words-told : (k : Known) (a : Attributes) (xs : List ℕ) → check_by (layout k a) xs ≡ 0 → Tells (layout k a) xs (record_words (layout k a) xs)
words-told k a xs h = record_told (layout k a) xs (sound k a) (worded k a) h
