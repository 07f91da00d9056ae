-- What is written reads back: one step, and one induction over the items. Assumes nothing.
use Rattle.std.specs.Prelude.{◌≡◌, refl, ℕ, ◌+◌, Bool, true, false, cond, ◌&&◌, ◌||◌, List, [], ◌∷◌, ◌++◌, length, take, drop}
use Rattle.std.proofs.Common.{sym, ap, ap₂, ◌∙◌, add-zero, arith, length-append, take_at, drop_at, drop-drop, le-leb, eq-eqb}
use Rattle.meaning.specs.States.{Cursor}
use Rattle.meaning.specs.declared.Item.{Item}
use Rattle.meaning.specs.declared.Shape.{Shape}
use Rattle.meaning.specs.Bytes.{small, stale}
pub use Rattle.meaning.specs.Schema.{item}
use Rattle.meaning.specs.Items.{Con, span, holds, past, part, settle, shape_step, step, walk, content, contents}
use Rattle.meaning.specs.Writing.{emit, blank, fit_shape, next, fit, write, ends, ends_last, dirty}
use Rattle.laws.specs.Bytes.{apart, and-true, small-append}
use Rattle.laws.specs.Items.{Wrote, wrote, blank-is}

-- an item's own bytes stand first in what is left
shape_one : (sh : Shape) (c : Cursor) (v : Con) (rest R : List ℕ) → fit_shape sh c v ≡ true → (ends sh ≡ true → rest ≡ []) → R ≡ emit sh c v ++ rest
    → (shape_step sh c R ≡ past sh v (length (emit sh c v)) c) × (holds sh c (part sh c R) ≡ v) × (ends sh && stale (part sh c R) ≡ false)
unfolding shape_step settle part Wrote
shape_one sh c v rest R f g e =
    let w = wrote sh c v f in
    let ys : List ℕ = emit sh c v in
    let l : length R ≡ length ys + length rest = ap length e ∙ length-append ys rest in
    let s : span sh c (length R) ≡ length ys = w.1 (length R) (λ t. l ∙ ap (λ (m : List ℕ). length ys + length m) (g t) ∙ add-zero (length ys)) in
    let p : take (span sh c (length R)) R ≡ ys = ap₂ (λ (n : ℕ) (m : List ℕ). take n m) s e ∙ take_at ys rest (length ys) refl in
    (rw (le-leb (span sh c (length R)) (length R) (omega (arith, s, l)), p, w.2, w.3), rw p w.3, rw p w.4)

one : (on : Bool) (sh : Shape) (c : Cursor) (v : Con) (xs rest : List ℕ) → c.why ≡ 0 → cond on (fit_shape sh c v) (blank v) ≡ true
    → (ends sh ≡ true → rest ≡ []) → drop c.at xs ≡ cond on (emit sh c v) [] ++ rest
    → (step xs (item on sh) c ≡ next (item on sh) v c) × (content xs (item on sh) c ≡ v)
    × ((on && ends sh) && stale (part sh c (drop c.at xs)) ≡ false)
unfolding step next content
one true sh c v xs rest z f g e = let o = shape_one sh c v rest (drop c.at xs) f g e in (rw (eq-eqb c.why 0 z) o.0, o.1, o.2)
one false sh c v xs rest z f g e = (rw (eq-eqb c.why 0 z), blank-is v f, refl)

pub next-why : (on : Bool) (sh : Shape) (v : Con) (c : Cursor) → (next (item on sh) v c).why ≡ c.why
unfolding next past
next-why true sh v c = refl
next-why false sh v c = refl

pub next-at : (on : Bool) (sh : Shape) (v : Con) (c : Cursor) → (next (item on sh) v c).at ≡ c.at + length (cond on (emit sh c v) [])
unfolding next past
next-at true sh v c = refl
next-at false sh v c = sym (add-zero c.at)

-- after an item that goes to the end nothing is written
last-item : (i : Item) (is : List Item) (vs : List Con) (c : Cursor) → ends_last (i ∷ is) ≡ true → (ends i.shape ≡ true → write is vs c ≡ []) × (ends_last is ≡ true)
unfolding ends_last write
last-item i [] vs c h = (λ e. refl, refl)
last-item i (j ∷ is) vs c h = go (ends i.shape) h
  where
    go : (t : Bool) → cond t false (ends_last (j ∷ is)) ≡ true → (t ≡ true → write (j ∷ is) vs c ≡ []) × (ends_last (j ∷ is) ≡ true)
    go true g = absurd (apart g)
    go false g = (λ e. absurd (apart e), g)

-- nothing is refused, all of it is read, the contents are those written, and no name is dirty
unfoldable pub There : List Item → List Con → Cursor → List ℕ → Type 0
There is vs c xs = ((walk xs is c).why ≡ 0) × ((walk xs is c).at ≡ c.at + length (write is vs c)) × (contents xs is c ≡ vs) × (dirty xs is c ≡ false)

pub there : (is : List Item) (vs : List Con) (c : Cursor) (xs : List ℕ) → ends_last is ≡ true → fit is vs c ≡ true → c.why ≡ 0
    → drop c.at xs ≡ write is vs c → There is vs c xs
unfolding There walk contents write fit dirty
there [] [] c xs l f z d = (z, sym (add-zero c.at), refl, refl)
there [] (v ∷ vs) c xs l f z d = absurd (apart f)
there (i ∷ is) [] c xs l f z d = absurd (apart f)
there (i ∷ is) (v ∷ vs) c xs l f z d =
    let s = and-true (cond i.on (fit_shape i.shape c v) (blank v)) (fit is vs (next i v c)) f in
    let e = last-item i is vs (next i v c) l in
    let ys : List ℕ = cond i.on (emit i.shape c v) [] in
    let rest : List ℕ = write is vs (next i v c) in
    let o = one i.on i.shape c v xs rest z s.0 e.0 d in
    let a : (next i v c).at ≡ c.at + length ys = next-at i.on i.shape v c in
    let w : (next i v c).why ≡ 0 = next-why i.on i.shape v c ∙ z in
    let d₁ : drop (next i v c).at xs ≡ rest =
    ap (λ (n : ℕ). drop n xs) a ∙ sym (drop-drop (length ys) c.at xs) ∙ ap (λ (m : List ℕ). drop (length ys) m) d ∙ drop_at ys rest (length ys) refl in
    let r = there is vs (next i v c) xs e.1 s.1 w d₁ in
    let st : step xs i c ≡ next i v c = o.0 in (
      ap (λ (b : Cursor). (walk xs is b).why) st ∙ r.0,
      ap (λ (b : Cursor). (walk xs is b).at) st ∙ r.1 ∙ (let q = length-append ys rest in omega (arith, q, a)),
      ap₂ (λ (x : Con) (y : List Con). x ∷ y) o.1 (ap (λ (b : Cursor). contents xs is b) st ∙ r.2),
      ap₂ (λ (x y : Bool). x || y) o.2 (ap (λ (b : Cursor). dirty xs is b) st ∙ r.3),
    )

-- what is written are bytes
emit-small : (on : Bool) (sh : Shape) (c : Cursor) (v : Con) → cond on (fit_shape sh c v) (blank v) ≡ true → small (cond on (emit sh c v) []) ≡ true
unfolding Wrote small
emit-small true sh c v f = (wrote sh c v f).0
emit-small false sh c v f = refl

pub write-small : (is : List Item) (vs : List Con) (c : Cursor) → fit is vs c ≡ true → small (write is vs c) ≡ true
unfolding write fit small
write-small [] vs c f = refl
write-small (i ∷ is) [] c f = refl
write-small (i ∷ is) (v ∷ vs) c f =
    let s = and-true (cond i.on (fit_shape i.shape c v) (blank v)) (fit is vs (next i v c)) f in
    small-append (cond i.on (emit i.shape c v) []) (write is vs (next i v c)) (emit-small i.on i.shape c v s.0) (write-small is vs (next i v c) s.1)
