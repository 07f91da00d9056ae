-- The words of a record that decodes tell the writer what the reader read: the same numbers, and places and counts of the same bytes, all of
-- them inside the record. Assumes nothing.
use Rattle.std.specs.Prelude.{◌≡◌, refl, ℕ, ◌+◌, ◌*◌, ◌≤◌, Bool, true, false, ◌&&◌, cond, List, [], ◌∷◌, ◌++◌, length, take, drop, get_or, leb, ltb}
use Rattle.std.proofs.Common.{sym, ap, ap₂, ◌∙◌, subst, mul-one, arith, append_assoc, length-drop, take-take, drop_at, leb-true, ltb-true, le-ltb}
use Rattle.std.proofs.Math.Seq.{take-length}
use Rattle.meaning.specs.States.{Cursor}
use Rattle.meaning.specs.declared.Item.{Item}
use Rattle.meaning.specs.declared.Shape.{Shape}
use Rattle.meaning.specs.declared.Shape.TheVariants.{Number, Ignored, Count, Size, Times, Earlier, Registers, Filled, Abi, Limit, Listed, Bytes, Pad, Name}
use Rattle.meaning.specs.Bytes.{num, zero_in}
use Rattle.meaning.specs.Schema.{item}
use Rattle.meaning.specs.Items.{Con, con, span, rule, holds, counted, before, past, part, shape_step, step, walk, content, contents}
use Rattle.meaning.specs.Values.{Slot, slot, lists, unit, held, beyond, any_beyond, means, slot_shape, slot_item, tell, words_of, words, slot_told, slot_off, last_told, before_told, slots_told}
use Rattle.laws.specs.Bytes.{apart, and-true, take-length-by, unbroken}
use Rattle.laws.specs.Put.{take_within}
use Rattle.laws.specs.Again.{fine, fine₁, stepped, item-passed, past-at}

-- ---- counts. A writer remembers the counts that the words tell; the reader's cursor remembers those of the record. They differ after an abi
-- word alone, and no list is counted by one of those. `Seen` is what a layout says beforehand: under which tests both are the same, and a bound

pub record Seen : Type 0 where
  pub last : Bool
  pub earlier : Bool
  pub capped : Bool
  pub cap : ℕ

abbrev pub start : Seen
start = record { last = true; earlier = true; capped = false; cap = 0 }

unfoldable pub seen : Bool → Shape → Seen → Seen
seen on (Number w) s = s
seen on (Ignored k) s = s
seen on (Count w) s = record { last = on; earlier = on && s.last; capped = false; cap = 0 }
seen on (Size w) s = record { last = on; earlier = s.earlier; capped = false; cap = 0 }
seen on (Times k) s = s
seen on (Earlier k) s = s
seen on Registers s = s
seen on Filled s = s
seen on (Abi m) s = record { last = false; earlier = s.earlier; capped = false; cap = 0 }
seen on (Limit k) s = record { last = on; earlier = s.earlier; capped = on; cap = k }
seen on (Listed k) s = s
seen on (Bytes k) s = s
seen on Pad s = s
seen on Name s = s

-- what a list asks of it
unfoldable pub asks : Bool → Shape → Seen → Bool
asks on (Number w) s = true
asks on (Ignored k) s = true
asks on (Count w) s = true
asks on (Size w) s = true
asks on (Times k) s = cond on s.last true
asks on (Earlier k) s = cond on s.earlier true
asks on Registers s = true
asks on Filled s = true
asks on (Abi m) s = true
asks on (Limit k) s = true
asks on (Listed k) s = cond on (s.last && (s.capped && leb s.cap k)) true
asks on (Bytes k) s = true
asks on Pad s = true
asks on Name s = true

unfoldable pub steady : List Item → Seen → Bool
steady [] s = true
steady (i ∷ is) s = asks i.on i.shape s && steady is (seen i.on i.shape s)

pub record Agree (s : Seen) (n old : ℕ) (c : Cursor) : Type 0 where
  pub last : s.last ≡ true → n ≡ c.n
  pub earlier : s.earlier ≡ true → old ≡ c.old
  pub most : s.capped ≡ true → c.n ≤ s.cap

agree-off : (sh : Shape) (s : Seen) (n old : ℕ) (c : Cursor) → Agree s n old c → Agree (seen false sh s) n old c
unfolding seen
agree-off (Number w) s n old c g = g
agree-off (Ignored k) s n old c g = g
agree-off (Count w) s n old c g = record { last = λ e. absurd (apart e); earlier = λ e. absurd (apart e); most = λ e. absurd (apart e) }
agree-off (Size w) s n old c g = record { last = λ e. absurd (apart e); earlier = g.earlier; most = λ e. absurd (apart e) }
agree-off (Times k) s n old c g = g
agree-off (Earlier k) s n old c g = g
agree-off Registers s n old c g = g
agree-off Filled s n old c g = g
agree-off (Abi m) s n old c g = record { last = λ e. absurd (apart e); earlier = g.earlier; most = λ e. absurd (apart e) }
agree-off (Limit k) s n old c g = record { last = λ e. absurd (apart e); earlier = g.earlier; most = λ e. absurd (apart e) }
agree-off (Listed k) s n old c g = g
agree-off (Bytes k) s n old c g = g
agree-off Pad s n old c g = g
agree-off Name s n old c g = g

-- a rule that is not broken
kept_on : (s : Seen) (n old : ℕ) (c : Cursor) (k : ℕ) → Agree s n old c → Agree s n old (record { at = c.at + k; n = c.n; old = c.old; why = c.why })
kept_on s n old c k g = record { last = g.last; earlier = g.earlier; most = g.most }

agree_on : (sh : Shape) (s : Seen) (n old : ℕ) (c : Cursor) (ys rest : List ℕ) → rule sh c ys ≡ 0 → Agree s n old c
    → Agree (seen true sh s) (last_told sh n (get_or (tell sh (slot_shape sh c ys) ++ rest) 0 0)) (before_told sh n old) (past sh (holds sh c ys) (length ys) c)
unfolding seen last_told before_told tell slot_shape past holds counted before rule
agree_on (Number w) s n old c ys rest r g = kept_on s n old c (length ys) g
agree_on (Ignored k) s n old c ys rest r g = kept_on s n old c (length ys) g
agree_on (Count w) s n old c ys rest r g = record { last = λ e. refl; earlier = g.last; most = λ e. absurd (apart e) }
agree_on (Size w) s n old c ys rest r g = record { last = λ e. refl; earlier = g.earlier; most = λ e. absurd (apart e) }
agree_on (Times k) s n old c ys rest r g = kept_on s n old c (length ys) g
agree_on (Earlier k) s n old c ys rest r g = kept_on s n old c (length ys) g
agree_on Registers s n old c ys rest r g = kept_on s n old c (length ys) g
agree_on Filled s n old c ys rest r g = kept_on s n old c (length ys) g
agree_on (Abi m) s n old c ys rest r g = record { last = λ e. absurd (apart e); earlier = g.earlier; most = λ e. absurd (apart e) }
agree_on (Limit k) s n old c ys rest r g = record { last = λ e. refl; earlier = g.earlier; most = λ e. leb-true (num ys) k (unbroken _ 32 (omega arith) r) }
agree_on (Listed k) s n old c ys rest r g = kept_on s n old c (length ys) g
agree_on (Bytes k) s n old c ys rest r g = kept_on s n old c (length ys) g
agree_on Pad s n old c ys rest r g = kept_on s n old c (length ys) g
agree_on Name s n old c ys rest r g = kept_on s n old c (length ys) g

-- ---- one item, told. The record's fields are the front of the source: a place in them is the same place there

inside : (src F : List ℕ) (m at k : ℕ) → F ≡ take m src → at + k ≤ length F → (take k (drop at src) ≡ take k (drop at F)) × (at + k ≤ length src)
inside src F m at k e h =
    let l = ap length e in
    let t = take-length-by m src in
    (sym (ap (λ (x : List ℕ). take k (drop at x)) e ∙ take_within k at m src (omega (arith, h, l, t))), omega (arith, h, l, t))

pub tell-length : (sh : Shape) (s : Slot) → length (tell sh s) ≡ words_of sh
unfolding tell
tell-length (Number w) s = refl
tell-length (Ignored k) s = refl
tell-length (Count w) s = refl
tell-length (Size w) s = refl
tell-length (Times k) s = refl
tell-length (Earlier k) s = refl
tell-length Registers s = refl
tell-length Filled s = refl
tell-length (Abi m) s = refl
tell-length (Limit k) s = refl
tell-length (Listed k) s = refl
tell-length (Bytes k) s = refl
tell-length Pad s = refl
tell-length Name s = refl

-- a selected list that lies in the fields: the bytes at its place in the source, and it does not pass the source's end
listed-told : (sh : Shape) (src F : List ℕ) (m at n k : ℕ) (l : List ℕ) → lists sh ≡ true → F ≡ take m src → n * unit sh ≡ k → at + k ≤ length F → l ≡ take k (drop at F)
    → (held src (item true sh) (slot 0 at n) ≡ con 0 l) × (beyond src (item true sh) (slot 0 at n) ≡ false)
unfolding held beyond
listed-told sh src F m at n k l t e q h g =
    let p = inside src F m at k e h in
    (rw (t, q) (ap (λ (x : List ℕ). con 0 x) (p.0 ∙ sym g)), rw (t, q) (le-ltb (length src) (at + k) p.1))

abbrev HeldAs : Shape → List ℕ → Slot → Con → Type 0
HeldAs sh src s v = (held src (item true sh) s ≡ v) × (beyond src (item true sh) s ≡ false)

-- ys are the item's bytes: k of them, as many as it takes
shape-told : (sh : Shape) (src F : List ℕ) (m : ℕ) (c : Cursor) (s : Seen) (n old : ℕ) (rest : List ℕ) → F ≡ take m src → c.at ≤ length F
    → length (part sh c (drop c.at F)) ≤ length (drop c.at F) → length (part sh c (drop c.at F)) ≡ span sh c (length (drop c.at F))
    → rule sh c (part sh c (drop c.at F)) ≡ 0 → Agree s n old c → asks true sh s ≡ true
    → HeldAs sh src (slot_told sh n old (tell sh (slot_shape sh c (part sh c (drop c.at F))) ++ rest)) (holds sh c (part sh c (drop c.at F)))
unfolding slot_told tell slot_shape holds asks held beyond lists unit part span rule
shape-told (Number w) src F m c s n old rest e l p q r g a = (refl, refl)
shape-told (Ignored k) src F m c s n old rest e l p q r g a = (refl, refl)
shape-told (Count w) src F m c s n old rest e l p q r g a = (refl, refl)
shape-told (Size w) src F m c s n old rest e l p q r g a = (refl, refl)
shape-told (Times k) src F m c s n old rest e l p q r g a =
    let d = length-drop c.at F in
    listed-told (Times k) src F m c.at n (c.n * k) _ refl e (ap (λ (j : ℕ). j * k) (g.last a)) (omega (arith, p, q, d, l)) refl
shape-told (Earlier k) src F m c s n old rest e l p q r g a =
    let d = length-drop c.at F in
    listed-told (Earlier k) src F m c.at old (c.old * k) _ refl e (ap (λ (j : ℕ). j * k) (g.earlier a)) (omega (arith, p, q, d, l)) refl
shape-told Registers src F m c s n old rest e l p q r g a =
    let d = length-drop c.at F in
    listed-told Registers src F m c.at c.n (c.n * 8) _ refl e refl (omega (arith, p, q, d, l)) refl
shape-told Filled src F m c s n old rest e l p q r g a = (refl, refl)
shape-told (Abi m₁) src F m c s n old rest e l p q r g a = (refl, refl)
shape-told (Limit k) src F m c s n old rest e l p q r g a = (refl, refl)
shape-told (Listed k) src F m c s n old rest e l p q r g a =
    let d = length-drop c.at F in
    let u = and-true s.last (s.capped && leb s.cap k) a in
    let v = and-true s.capped (leb s.cap k) u.1 in
    let h : c.n ≤ k = (let x = g.most v.0 in let y = leb-true s.cap k v.1 in omega arith) in
    listed-told (Listed k) src F m c.at n c.n _ refl e (mul-one n ∙ g.last u.0) (omega (arith, p, q, d, l, h)) (take-take c.n k (drop c.at F) h)
shape-told (Bytes k) src F m c s n old rest e l p q r g a =
    let d = length-drop c.at F in
    listed-told (Bytes k) src F m c.at k k _ refl e (mul-one k) (omega (arith, p, q, d, l)) refl
shape-told Pad src F m c s n old rest e l p q r g a = (refl, refl)
shape-told Name src F m c s n old rest e l p q r g a =
    let R : List ℕ = drop c.at F in
    let ys : List ℕ = take (length R) R in
    let z : ℕ = zero_in ys in
    let d = length-drop c.at F in
    let u = and-true (ltb z (length ys)) (leb (length ys) (z + 8)) (unbroken _ 33 (omega arith) r) in
    let lo = ltb-true z (length ys) u.0 in
    listed-told Name src F m c.at z z _ refl e (mul-one z) (omega (arith, p, d, l, lo)) (ap (λ (x : List ℕ). take z x) (take-length R))

-- an item that is not selected is told as nothing
off-told : (sh : Shape) (rest : List ℕ) → slot_off sh (tell sh (slot 0 0 0) ++ rest) ≡ slot 0 0 0
unfolding slot_told tell
off-told (Number w) rest = refl
off-told (Ignored k) rest = refl
off-told (Count w) rest = refl
off-told (Size w) rest = refl
off-told (Times k) rest = refl
off-told (Earlier k) rest = refl
off-told Registers rest = refl
off-told Filled rest = refl
off-told (Abi m) rest = refl
off-told (Limit k) rest = refl
off-told (Listed k) rest = refl
off-told (Bytes k) rest = refl
off-told Pad rest = refl
off-told Name rest = refl

-- one item: what it is told as means its content, does not pass the source's end; and the counts agree after it
record One (on : Bool) (sh : Shape) (src F : List ℕ) (c : Cursor) (s : Seen) (n old : ℕ) (ws : List ℕ) : Type 0 where
  means : held src (item on sh) (cond on (slot_told sh n old ws) (slot_off sh ws)) ≡ content F (item on sh) c
  inside : beyond src (item on sh) (cond on (slot_told sh n old ws) (slot_off sh ws)) ≡ false
  agree : Agree (seen on sh s) (cond on (last_told sh n (get_or ws 0 0)) n) (cond on (before_told sh n old) old) (step F (item on sh) c)
  within : (step F (item on sh) c).at ≤ length F

one_told : (on : Bool) (sh : Shape) (src F : List ℕ) (m : ℕ) (c : Cursor) (s : Seen) (n old : ℕ) (rest : List ℕ) → F ≡ take m src → c.at ≤ length F
    → c.why ≡ 0 → (step F (item on sh) c).why ≡ 0 → Agree s n old c → asks on sh s ≡ true
    → One on sh src F c s n old (tell sh (slot_item F (item on sh) c) ++ rest)
unfolding content held beyond
one_told true sh src F m c s n old rest e l z h g a =
    let R : List ℕ = drop c.at F in
    let st : step F (item true sh) c ≡ shape_step sh c R = stepped true sh F c z in
    let p = item-passed sh c R (ap (λ (d : Cursor). d.why) (sym st) ∙ h) in
    let f : step F (item true sh) c ≡ past sh (holds sh c (part sh c R)) (length (part sh c R)) c = st ∙ p.is in
    let d = length-drop c.at F in
    let q : length (part sh c R) ≤ length R = omega (arith, p.there, p.long) in
    let t = shape-told sh src F m c s n old rest e l q p.long p.kept g a in
    record {
      means = t.0;
      inside = t.1;
      agree = subst (λ (x : Cursor). Agree (seen true sh s) (last_told sh n (get_or (tell sh (slot_shape sh c (part sh c R)) ++ rest) 0 0)) (before_told sh n old) x) (sym f) (agree_on sh s n old c (part sh c R) rest p.kept g);
      within = subst (λ (x : Cursor). x.at ≤ length F) (sym f) (past-at sh (holds sh c (part sh c R)) (length (part sh c R)) c (length F) (omega (arith, q, d, l)));
    }
one_told false sh src F m c s n old rest e l z h g a =
    let st : step F (item false sh) c ≡ c = stepped false sh F c z in
    record {
      means = ap (λ (x : Slot). held src (item false sh) x) (off-told sh rest);
      inside = refl;
      agree = subst (λ (x : Cursor). Agree (seen false sh s) n old x) (sym st) (agree-off sh s n old c g);
      within = subst (λ (x : Cursor). x.at ≤ length F) (sym st) l;
    }

-- all of them: the words of a walk that refuses nothing, told back
pub items-told : (is : List Item) (src F : List ℕ) (m : ℕ) (c : Cursor) (s : Seen) (n old : ℕ) (rest : List ℕ) → F ≡ take m src → c.at ≤ length F
    → (walk F is c).why ≡ 0 → Agree s n old c → steady is s ≡ true
    → (means src is (slots_told is (words F is c ++ rest) n old) ≡ contents F is c) × (any_beyond src is (slots_told is (words F is c ++ rest) n old) ≡ false)
unfolding walk words slots_told means any_beyond contents steady
items-told [] src F m c s n old rest e l h g a = (refl, refl)
items-told (i ∷ is) src F m c s n old rest e l h g a =
    let h₁ : (step F i c).why ≡ 0 = fine F is (step F i c) h in
    let z : c.why ≡ 0 = fine₁ F i c h₁ in
    let sh : Shape = i.shape in
    let b = and-true (asks i.on sh s) (steady is (seen i.on sh s)) a in
    let W : List ℕ = words F is (step F i c) in
    let T : List ℕ = tell sh (slot_item F i c) in
    let ws : List ℕ = T ++ (W ++ rest) in
    let o = one_told i.on sh src F m c s n old (W ++ rest) e l z h₁ g b.0 in
    let n' : ℕ = cond i.on (last_told sh n (get_or ws 0 0)) n in
    let old' : ℕ = cond i.on (before_told sh n old) old in
    let r = items-told is src F m (step F i c) (seen i.on sh s) n' old' rest e o.within h o.agree b.1 in
    let q : drop (words_of sh) ws ≡ W ++ rest = drop_at T (W ++ rest) (words_of sh) (tell-length sh (slot_item F i c)) in
    rw (append_assoc T W rest, q) (ap₂ (λ (x : Con) (y : List Con). x ∷ y) o.means r.0, rw o.inside r.1)
