-- A record decodes exactly when it is laid out by the schema: the exact conditions of answer 0, with no walk and no cursor's refusal in them.
-- Assumes nothing.
use Rattle.std.specs.Prelude.{◌≡◌, refl, ℕ, ◌+◌, ◌-◌, ◌%◌, ◌≤◌, Bool, true, false, List, [], ◌∷◌, ◌++◌, length, take, drop}
use Rattle.std.proofs.Common.{sym, ap, ap₂, ◌∙◌, subst, arith, length-append, length-drop, take-append-drop, take_at, drop_at, drop-drop, take_all, length-take-le, le-leb}
use Rattle.std.proofs.lemmas.List.{drop-append-le}
use Rattle.std.proofs.Math.Seq.{drop-length}
use Rattle.meaning.specs.declared.Attributes.{Attributes}
use Rattle.meaning.specs.States.{Cursor}
use Rattle.meaning.specs.declared.Item.{Item}
use Rattle.meaning.specs.declared.Known.{Known}
use Rattle.meaning.specs.declared.Shape.{Shape}
use Rattle.meaning.specs.Items.{Con, span, rule, holds, past, part, settle, shape_step, step, walk}
use Rattle.meaning.specs.Editions.{known, allowed}
use Rattle.meaning.specs.Schema.{item, trailer}
use Rattle.meaning.specs.Records.{Layout, layout, room, kind_of, misc_of, size_of, origin, fields_of, check_by, check}
use Rattle.laws.specs.Again.{fine, fine₁, stepped, item-passed}
use Rattle.laws.specs.Answers.{fields-zero, fields-pass, check-zero, check-pass}
use Rattle.laws.specs.Put.{take_within}
use Rattle.laws.specs.Answer42.{check-of, of-check}

-- the bytes ys are laid out by the items: each selected item in turn has as many bytes as it takes, they break no rule of its own, and nothing is
-- left over. The state c is the place, and the counts remembered on the way
pub data Laid : List Item → Cursor → List ℕ → Type 0 where
  finished : {c : Cursor} {ys : List ℕ} → ys ≡ [] → Laid [] c ys
  unselected : {sh : Shape} {is : List Item} {c : Cursor} {ys : List ℕ} → Laid is c ys → Laid (item false sh ∷ is) c ys
  selected : {sh : Shape} {is : List Item} {c : Cursor} {ys : List ℕ} (bs rest : List ℕ) → ys ≡ bs ++ rest → length bs ≡ span sh c (length ys) → rule sh c bs ≡ 0
      → Laid is (past sh (holds sh c bs) (length bs) c) rest → Laid (item true sh ∷ is) c ys

-- an item that has its bytes and breaks no rule is passed
step_past : (sh : Shape) (F : List ℕ) (c : Cursor) (bs rest : List ℕ) → c.why ≡ 0 → drop c.at F ≡ bs ++ rest → length bs ≡ span sh c (length (drop c.at F)) → rule sh c bs ≡ 0
    → step F (item true sh) c ≡ past sh (holds sh c bs) (length bs) c
unfolding shape_step settle part
step_past sh F c bs rest z e l r =
    let R : List ℕ = drop c.at F in
    let n = ap length e ∙ length-append bs rest in
    let p : take (span sh c (length R)) R ≡ bs = ap₂ (λ (k : ℕ) (m : List ℕ). take k m) (sym l) e ∙ take_at bs rest (length bs) refl in
    stepped true sh F c z ∙ rw (le-leb (span sh c (length R)) (length R) (omega (arith, l, n)), p, r)

past-why : (sh : Shape) (v : Con) (k : ℕ) (c : Cursor) → (past sh v k c).why ≡ c.why
unfolding past
past-why sh v k c = refl

pub past-place : (sh : Shape) (v : Con) (k : ℕ) (c : Cursor) → (past sh v k c).at ≡ c.at + k
unfolding past
past-place sh v k c = refl

-- what is left after an item's bytes
rest_of : (F bs rest : List ℕ) (at at' : ℕ) → drop at F ≡ bs ++ rest → at' ≡ at + length bs → drop at' F ≡ rest
rest_of F bs rest at at' e a =
    ap (λ (n : ℕ). drop n F) a ∙ sym (drop-drop (length bs) at F) ∙ ap (λ (l : List ℕ). drop (length bs) l) e ∙ drop_at bs rest (length bs) refl

pub laid-walk : (is : List Item) (F : List ℕ) (c : Cursor) (ys : List ℕ) → Laid is c ys → drop c.at F ≡ ys → c.at ≤ length F → c.why ≡ 0
    → ((walk F is c).why ≡ 0) × ((walk F is c).at ≡ length F)
unfolding walk
laid-walk [] F c ys (finished n) e l z =
    let d = length-drop c.at F in
    let q = ap length (e ∙ n) in
    (z, omega (arith, d, q, l))
laid-walk (i ∷ is) F c ys (unselected r) e l z =
    let st = stepped false i.shape F c z in
    subst (λ (d : Cursor). ((walk F is d).why ≡ 0) × ((walk F is d).at ≡ length F)) (sym st) (laid-walk is F c ys r e l z)
laid-walk (i ∷ is) F c ys (selected bs rest p k u r) e l z =
    let d = length-drop c.at F in
    let n = ap length (e ∙ p) ∙ length-append bs rest in
    let v : Con = holds i.shape c bs in
    let b : Cursor = past i.shape v (length bs) c in
    let a : b.at ≡ c.at + length bs = past-place i.shape v (length bs) c in
    let st = step_past i.shape F c bs rest z (e ∙ p) (k ∙ ap (λ (m : List ℕ). span i.shape c (length m)) (sym e)) u in
    subst (λ (d : Cursor). ((walk F is d).why ≡ 0) × ((walk F is d).at ≡ length F)) (sym st)
    (laid-walk is F b rest r (rest_of F bs rest c.at b.at (e ∙ p) a) (omega (arith, a, d, n, l)) (past-why i.shape v (length bs) c ∙ z))

one-laid : (on : Bool) (sh : Shape) (is : List Item) (F : List ℕ) (c : Cursor) → c.why ≡ 0 → (step F (item on sh) c).why ≡ 0
    → Laid is (step F (item on sh) c) (drop (step F (item on sh) c).at F) → Laid (item on sh ∷ is) c (drop c.at F)
unfolding part
one-laid false sh is F c z h r = unselected (subst (λ (d : Cursor). Laid is d (drop d.at F)) (stepped false sh F c z) r)
one-laid true sh is F c z h r =
    let R : List ℕ = drop c.at F in
    let k : ℕ = span sh c (length R) in
    let st = stepped true sh F c z in
    let p = item-passed sh c R (ap (λ (d : Cursor). d.why) (sym st) ∙ h) in
    let bs : List ℕ = part sh c R in
    let b : Cursor = past sh (holds sh c bs) (length bs) c in
    let e : R ≡ bs ++ drop k R = sym (take-append-drop k R) in
    let r₁ : Laid is b (drop b.at F) = subst (λ (d : Cursor). Laid is d (drop d.at F)) (st ∙ p.is) r in
    selected bs (drop k R) e p.long p.kept
    (subst (λ (m : List ℕ). Laid is b m) (rest_of F bs (drop k R) c.at b.at e (past-place sh (holds sh c bs) (length bs) c)) r₁)

pub walk-laid : (is : List Item) (F : List ℕ) (c : Cursor) → (walk F is c).why ≡ 0 → (walk F is c).at ≡ length F → Laid is c (drop c.at F)
unfolding walk
walk-laid [] F c h e = finished (ap (λ (n : ℕ). drop n F) e ∙ drop-length F)
walk-laid (i ∷ is) F c h e =
    let h₁ : (step F i c).why ≡ 0 = fine F is (step F i c) h in
    one-laid i.on i.shape is F c (fine₁ F i c h₁) h₁ (walk-laid is F (step F i c) h e)

-- a record that is laid out by the schema: a header whose size is the length, a multiple of 8; nothing that the edition does not know (20 to 25); the
-- fields; and a trailer of as many bytes as its selected items take
pub record LaidOut (lay : Layout) (xs : List ℕ) : Type 0 where
  pub least : 8 ≤ length xs
  pub true-size : size_of xs ≡ length xs
  pub eights : size_of xs % 8 ≡ 0
  pub known : lay.unknown (kind_of xs) (misc_of xs) ≡ 0
  pub fields : List ℕ
  pub tail : List ℕ
  pub split : drop 8 xs ≡ fields ++ tail
  pub trailer : length tail ≡ room (lay.trail (kind_of xs))
  pub laid : Laid (lay.body (kind_of xs) (misc_of xs)) (origin 8) fields

before-trailer : (t : ℕ) (xs fields tail : List ℕ) → 8 ≤ length xs → drop 8 xs ≡ fields ++ tail → length tail ≡ t
    → (8 + t ≤ length xs) × (drop 8 (fields_of t xs) ≡ fields) × (length (fields_of t xs) ≡ length xs - t)
unfolding fields_of
before-trailer t xs fields tail least e l =
    let n : ℕ = length xs - t in
    let F : List ℕ = take n xs in
    let d = length-drop 8 xs in
    let s = ap length e ∙ length-append fields tail in
    let l_f : length F ≡ n = length-take-le n xs (omega arith) in
    let d_f = length-drop 8 F in (
      omega (arith, d, s, l, least),
      sym (take_all (n - 8) (drop 8 F) (omega (arith, d_f, l_f))) ∙ take_within (n - 8) 8 n xs (omega (arith, d, s, l, least))
          ∙ ap (λ (m : List ℕ). take (n - 8) m) e ∙ take_at fields tail (n - 8) (omega (arith, d, s, l, least)),
      l_f,
    )

pub laid-accepted : (lay : Layout) (xs : List ℕ) → LaidOut lay xs → check_by lay xs ≡ 0
laid-accepted lay xs r =
    let is : List Item = lay.body (kind_of xs) (misc_of xs) in
    let t : ℕ = room (lay.trail (kind_of xs)) in
    let b = before-trailer t xs r.fields r.tail r.least r.split r.trailer in
    let b₀ = b.0 in
    let b₂ = b.2 in
    let w = laid-walk is (fields_of t xs) (origin 8) r.fields r.laid b.1 (omega (arith, b₀, b₂)) refl in
    check-pass lay xs r.least r.true-size r.eights r.known (fields-pass is t xs b.0 w.0 (w.1 ∙ b.2))

pub accepted-laid : (lay : Layout) (xs : List ℕ) → check_by lay xs ≡ 0 → LaidOut lay xs
unfolding fields_of
accepted-laid lay xs h =
    let is : List Item = lay.body (kind_of xs) (misc_of xs) in
    let t : ℕ = room (lay.trail (kind_of xs)) in
    let z = check-zero lay xs h in
    let f = fields-zero is t xs z.4 in
    let n : ℕ = length xs - t in
    let F : List ℕ = fields_of t xs in
    let least = f.0 in
    let l_f : length F ≡ n = length-take-le n xs (omega arith) in
    let l_t = length-drop n xs in
    record {
      least = z.0;
      true-size = z.1;
      eights = z.2;
      known = z.3;
      fields = drop 8 F;
      tail = drop n xs;
      split = ap (λ (m : List ℕ). drop 8 m) (sym (take-append-drop n xs)) ∙ drop-append-le 8 F (drop n xs) (omega (arith, l_f, least));
      trailer = omega (arith, l_t, least);
      laid = walk-laid is F (origin 8) f.1 (f.2 ∙ sym l_f);
    }

-- answer 0, exactly
pub decodes-exactly : (rows : List Known) (e : ℕ) (a : Attributes) (xs : List ℕ)
    → (check rows e a xs ≡ 0 → (allowed rows e ≡ true) × LaidOut (layout (known rows e) a) xs)
    × ((allowed rows e ≡ true) × LaidOut (layout (known rows e) a) xs → check rows e a xs ≡ 0)
decodes-exactly rows e a xs = (
  λ h. let k = check-of rows e a xs h in (k.0, accepted-laid (layout (known rows e) a) xs k.1),
  λ p. of-check rows e a xs p.0 (laid-accepted (layout (known rows e) a) xs p.1),
)
