-- Laws of a chain of refusals, whose rows are asked by their number and not by their place. With a numeral `gives` computes to the rows of that
-- number alone: a row that comes or goes elsewhere changes no proof that asks so. Assumes nothing.
use Rattle.std.specs.Prelude.{◌≡◌, refl, List, [], ◌∷◌, ◌++◌, Bool, true, false, cond, not, ◌&&◌, ◌||◌, ℕ, eqb}
use Rattle.std.proofs.Common.{sym, ap, ◌∙◌, subst, eq-eqb, eqb-true}
use Rattle.meaning.specs.States.{Frame}
use Rattle.meaning.specs.Refusals.{Refusal, first}
use Rattle.meaning.specs.Editions.{is_in}
use Rattle.meaning.specs.Ring.{stop_at, stopped}
use Rattle.laws.specs.Bytes.{apart, and-true}

-- neither of two
pub or-false : (a b : Bool) → (a || b) ≡ false → (a ≡ false) × (b ≡ false)
or-false true b e = absurd (apart (sym e))
or-false false b e = (refl, e)

-- ---- lists of numbers

abbrev pub every : (ℕ → Bool) → List ℕ → Bool
every p [] = true
every p (n ∷ ns) = p n && every p ns

-- a test that every number of a list passes is passed by each that is in it
pub in-each : (p : ℕ → Bool) (ns : List ℕ) (x : ℕ) → every p ns ≡ true → is_in x ns ≡ true → p x ≡ true
in-each p [] x a h = absurd (apart h)
in-each p (n ∷ ns) x a h =
    let s = and-true (p n) (every p ns) a in
    by (eqb x n) refl s.0 h (in-each p ns x s.1)
  where
    by : (b : Bool) → eqb x n ≡ b → p n ≡ true → (b || is_in x ns) ≡ true → (is_in x ns ≡ true → p x ≡ true) → p x ≡ true
    by true e i g r = rw (eqb-true x n e) i
    by false e i g r = r g

pub in-more : (ns ms : List ℕ) (x : ℕ) → every (λ (n : ℕ). is_in n ms) ns ≡ true → is_in x ns ≡ true → is_in x ms ≡ true
in-more ns ms = in-each (λ (n : ℕ). is_in n ms) ns

-- one of two
pub in-cond : (ns : List ℕ) (b : Bool) (x y : ℕ) → is_in x ns ≡ true → is_in y ns ≡ true → is_in (cond b x y) ns ≡ true
in-cond ns true x y p q = p
in-cond ns false x y p q = q

-- ---- a row by its number

-- the tests of the rows with this number
abbrev pub tests : ℕ → List Refusal → List Bool
tests k [] = []
tests k (r ∷ rs) = cond (eqb k r.number) (r.holds ∷ tests k rs) (tests k rs)

-- one of them is true; a test that is alone stands for itself
abbrev pub some : Bool → List Bool → Bool
some b [] = b
some b (c ∷ cs) = b || some c cs

abbrev pub any : List Bool → Bool
any [] = false
any (b ∷ bs) = some b bs

-- some row with this number holds
abbrev pub gives : ℕ → List Refusal → Bool
gives k rs = any (tests k rs)

-- the rows before the first one with this number
abbrev pub before : ℕ → List Refusal → List Refusal
before k [] = []
before k (r ∷ rs) = cond (eqb k r.number) [] (r ∷ before k rs)

-- the rows that have none of these numbers
abbrev pub others : List ℕ → List Refusal → List Refusal
others ns [] = []
others ns (r ∷ rs) = cond (is_in r.number ns) (others ns rs) (r ∷ others ns rs)

-- no row holds
abbrev pub Passed : List Refusal → Type 0
Passed [] = Unit {0}
Passed (r ∷ rs) = (r.holds ≡ false) × Passed rs

-- no row with one of these numbers holds
abbrev pub Quiet : List ℕ → List Refusal → Type 0
Quiet [] rs = Unit {0}
Quiet (n ∷ ns) rs = (gives n rs ≡ false) × Quiet ns rs

-- ---- lists of tests
abbrev AllFalse : List Bool → Type 0
AllFalse [] = Unit {0}
AllFalse (b ∷ bs) = (b ≡ false) × AllFalse bs

some-none : (b : Bool) (bs : List Bool) → b ≡ false → AllFalse bs → some b bs ≡ false
some-none b [] e p = e
some-none b (c ∷ cs) e p = rw e (some-none c cs p.0 p.1)

any_none : (bs : List Bool) → AllFalse bs → any bs ≡ false
any_none [] p = refl
any_none (b ∷ bs) p = some-none b bs p.0 p.1

none-some : (b : Bool) (bs : List Bool) → some b bs ≡ false → AllFalse (b ∷ bs)
none-some b [] e = (e, tt)
none-some true (c ∷ cs) e = absurd (apart (sym e))
none-some false (c ∷ cs) e = (refl, none-some c cs e)

none_any : (bs : List Bool) → any bs ≡ false → AllFalse bs
none_any [] e = tt
none_any (b ∷ bs) e = none-some b bs e

any_some : (b : Bool) (bs : List Bool) → any bs ≡ true → some b bs ≡ true
any_some b [] e = absurd (apart e)
any_some true (c ∷ cs) e = refl
any_some false (c ∷ cs) e = e

-- ---- what goes on has passed every row, so none of any number holds

tests-passed : (k : ℕ) (rs : List Refusal) → Passed rs → AllFalse (tests k rs)
tests-passed k [] p = tt
tests-passed k (r ∷ rs) p = by (eqb k r.number) (tests-passed k rs p.1)
  where
    by : (b : Bool) → AllFalse (tests k rs) → AllFalse (cond b (r.holds ∷ tests k rs) (tests k rs))
    by true q = (p.0, q)
    by false q = q

pub passed-by : (rs : List Refusal) → Passed rs → (k : ℕ) → gives k rs ≡ false
passed-by rs p k = any_none (tests k rs) (tests-passed k rs p)

pub passed-others : (ns : List ℕ) (rs : List Refusal) → Passed rs → Passed (others ns rs)
passed-others ns [] p = tt
passed-others ns (r ∷ rs) p = by (is_in r.number ns) (passed-others ns rs p.1)
  where
    by : (b : Bool) → Passed (others ns rs) → Passed (cond b (others ns rs) (r ∷ others ns rs))
    by true q = q
    by false q = (p.0, q)

-- ---- the other way: number by number, and the rest

row-quiet : (r : Refusal) (rs : List Refusal) → gives r.number (r ∷ rs) ≡ false → r.holds ≡ false
row-quiet r rs e = (none_any (r.holds ∷ tests r.number rs) (rw (eq-eqb r.number r.number refl) at e)).0

rest-quiet : (r : Refusal) (rs : List Refusal) (k : ℕ) → gives k (r ∷ rs) ≡ false → gives k rs ≡ false
rest-quiet r rs k = by (eqb k r.number)
  where
    by : (b : Bool) → any (cond b (r.holds ∷ tests k rs) (tests k rs)) ≡ false → gives k rs ≡ false
    by true e = any_none (tests k rs) (none_any (r.holds ∷ tests k rs) e).1
    by false e = e

quiet-rest : (r : Refusal) (rs : List Refusal) (ns : List ℕ) → Quiet ns (r ∷ rs) → Quiet ns rs
quiet-rest r rs [] q = tt
quiet-rest r rs (n ∷ ns) q = (rest-quiet r rs n q.0, quiet-rest r rs ns q.1)

quiet_at : (k : ℕ) (rs : List Refusal) (ns : List ℕ) → Quiet ns rs → is_in k ns ≡ true → gives k rs ≡ false
quiet_at k rs [] q h = absurd (apart h)
quiet_at k rs (n ∷ ns) q h = by (eqb k n) refl h (quiet_at k rs ns q.1)
  where
    by : (b : Bool) → eqb k n ≡ b → (b || is_in k ns) ≡ true → (is_in k ns ≡ true → gives k rs ≡ false) → gives k rs ≡ false
    by true e g next = subst (λ (m : ℕ). gives m rs ≡ false) (sym (eqb-true k n e)) q.0
    by false e g next = next g

pub quiet-passed : (ns : List ℕ) (rs : List Refusal) → Quiet ns rs → Passed (others ns rs) → Passed rs
quiet-passed ns [] q p = tt
quiet-passed ns (r ∷ rs) q p = by (is_in r.number ns) refl p (quiet-passed ns rs (quiet-rest r rs ns q))
  where
    by : (b : Bool) → is_in r.number ns ≡ b → Passed (cond b (others ns rs) (r ∷ others ns rs)) → (Passed (others ns rs) → Passed rs) → Passed (r ∷ rs)
    by true e p next = (row-quiet r rs (quiet_at r.number (r ∷ rs) ns q e), next p)
    by false e p next = (p.0, next p.1)

-- ---- the first row that holds stops

pub stopped-yes : (r : Refusal) (rs : List Refusal) (f : Frame) → r.holds ≡ true → stopped (r ∷ rs) f ≡ stop_at r.number
unfolding stopped
stopped-yes r rs f e = simp e

pub stopped-no : (r : Refusal) (rs : List Refusal) (f : Frame) → r.holds ≡ false → stopped (r ∷ rs) f ≡ stopped rs f
unfolding stopped
stopped-no r rs f e = simp e

pub stopped_none : (f : Frame) → stopped [] f ≡ f
unfolding stopped
stopped_none f = refl

pub stopped-append : (rs ss : List Refusal) (f : Frame) → stopped (rs ++ ss) f ≡ stopped rs (stopped ss f)
unfolding stopped
stopped-append [] ss f = refl
stopped-append (r ∷ rs) ss f = ap (λ (g : Frame). cond r.holds (stop_at r.number) g) (stopped-append rs ss f)

-- no row holds: what comes after the rows
pub stopped-passed : (rs : List Refusal) (f : Frame) → Passed rs → stopped rs f ≡ f
unfolding stopped
stopped-passed [] f p = refl
stopped-passed (r ∷ rs) f p = rw p.0 (stopped-passed rs f p.1)

pub stopped-rest : (rs ss : List Refusal) (f : Frame) → Passed rs → stopped (rs ++ ss) f ≡ stopped ss f
stopped-rest rs ss f p = stopped-append rs ss f ∙ stopped-passed rs (stopped ss f) p

-- rows that hold nowhere once the rows before them are passed: the chain is the same without them
pub stopped-after : (rs ss : List Refusal) (f : Frame) → (Passed rs → Passed ss) → stopped (rs ++ ss) f ≡ stopped rs f
unfolding stopped
stopped-after [] ss f h = stopped-passed ss f (h tt)
stopped-after (r ∷ rs) ss f h = by r.holds refl (λ q. stopped-after rs ss f (λ p. h (q, p)))
  where
    by : (b : Bool) → r.holds ≡ b → (r.holds ≡ false → stopped (rs ++ ss) f ≡ stopped rs f)
        → cond b (stop_at r.number) (stopped (rs ++ ss) f) ≡ cond b (stop_at r.number) (stopped rs f)
    by true e q = refl
    by false e q = q e

-- what goes on has passed them all
pub passed : (rs : List Refusal) (rest f : Frame) → f.go ≡ true → f ≡ stopped rs rest → Passed rs × (f ≡ rest)
unfolding stopped
passed [] rest f g e = (tt, e)
passed (r ∷ rs) rest f g e = by r.holds refl (λ p. passed rs rest f g p)
  where
    by : (b : Bool) → r.holds ≡ b → (f ≡ stopped rs rest → Passed rs × (f ≡ rest)) → Passed (r ∷ rs) × (f ≡ rest)
    by true h next = absurd (apart (sym (ap (λ (x : Frame). x.go) (e ∙ stopped-yes r rs rest h)) ∙ g))
    by false h next = let w = next (e ∙ stopped-no r rs rest h) in ((h, w.0), w.1)

-- what does not go on is a stop: no place, no size
pub stopped-stop : (rs : List Refusal) (f : Frame) → (f.go ≡ false → f ≡ stop_at f.stop) → (stopped rs f).go ≡ false → stopped rs f ≡ stop_at (stopped rs f).stop
unfolding stopped
stopped-stop [] f h g = h g
stopped-stop (r ∷ rs) f h g = by r.holds g (stopped-stop rs f h)
  where
    by : (b : Bool) → (cond b (stop_at r.number) (stopped rs f)).go ≡ false → ((stopped rs f).go ≡ false → stopped rs f ≡ stop_at (stopped rs f).stop)
        → cond b (stop_at r.number) (stopped rs f) ≡ stop_at (cond b (stop_at r.number) (stopped rs f)).stop
    by true e q = refl
    by false e q = q e

-- a stop is given for its own reason: a row with its number holds, and no row before the first with that number
pub stopped-reason : (rs : List Refusal) (f : Frame) → f.go ≡ true → (k : ℕ) → stopped rs f ≡ stop_at k → (gives k rs ≡ true) × Passed (before k rs)
unfolding stopped
stopped-reason [] f h k e = absurd (apart (sym (ap (λ (x : Frame). x.go) e) ∙ h))
stopped-reason (r ∷ rs) f h k e = by r.holds refl e (stopped-reason rs f h k)
  where
    here : (b : Bool) → eqb k r.number ≡ b → k ≡ r.number → (some true (tests k rs) ≡ true)
        → (any (cond b (true ∷ tests k rs) (tests k rs)) ≡ true) × Passed (cond b [] (r ∷ before k rs))
    here true q z t = (t, tt)
    here false q z t = absurd (apart (sym q ∙ eq-eqb k r.number z))

    first_one : (bs : List Bool) → some true bs ≡ true
    first_one [] = refl
    first_one (c ∷ cs) = refl

    later : (b : Bool) → r.holds ≡ false → (gives k rs ≡ true) × Passed (before k rs)
        → (any (cond b (r.holds ∷ tests k rs) (tests k rs)) ≡ true) × Passed (cond b [] (r ∷ before k rs))
    later true q w = (any_some r.holds (tests k rs) w.0, tt)
    later false q w = (w.0, (q, w.1))

    by : (b : Bool) → r.holds ≡ b → cond b (stop_at r.number) (stopped rs f) ≡ stop_at k → (stopped rs f ≡ stop_at k → (gives k rs ≡ true) × Passed (before k rs))
        → (gives k (r ∷ rs) ≡ true) × Passed (before k (r ∷ rs))
    by true q z next =
        let n : k ≡ r.number = sym (ap (λ (x : Frame). x.stop) z) in
        subst (λ (b : Bool). (any (cond (eqb k r.number) (b ∷ tests k rs) (tests k rs)) ≡ true) × Passed (before k (r ∷ rs))) (sym q)
        (here (eqb k r.number) refl n (first_one (tests k rs)))
    by false q z next = later (eqb k r.number) q (next z)

-- ---- rows that are asked for their number first: 0 is no refusal among them

abbrev pub no_zero : List Refusal → Bool
no_zero [] = true
no_zero (r ∷ rs) = not (eqb r.number 0) && no_zero rs

zero-not : (n : ℕ) → not (eqb n 0) ≡ true → n ≡ 0 → ⊥
zero-not n h e = apart (ap not (sym (eq-eqb n 0 e)) ∙ h)

pub first-yes : (r : Refusal) (rs : List Refusal) (rest : ℕ) → r.holds ≡ true → first (r ∷ rs) rest ≡ r.number
unfolding first
first-yes r rs rest e = simp e

pub first-no : (r : Refusal) (rs : List Refusal) (rest : ℕ) → r.holds ≡ false → first (r ∷ rs) rest ≡ first rs rest
unfolding first
first-no r rs rest e = simp e

pub first-none : (rest : ℕ) → first [] rest ≡ rest
unfolding first
first-none rest = refl

-- an answer of 0: no row holds, and what follows them is 0
pub first-through : (rs : List Refusal) (rest : ℕ) → no_zero rs ≡ true → first rs rest ≡ 0 → Passed rs × (rest ≡ 0)
unfolding first
first-through [] rest n e = (tt, e)
first-through (r ∷ rs) rest n e = let s = and-true (not (eqb r.number 0)) (no_zero rs) n in by r.holds refl e (first-through rs rest s.1) s.0
  where
    by : (b : Bool) → r.holds ≡ b → cond b r.number (first rs rest) ≡ 0 → (first rs rest ≡ 0 → Passed rs × (rest ≡ 0)) → not (eqb r.number 0) ≡ true
        → Passed (r ∷ rs) × (rest ≡ 0)
    by true h e next z = absurd (zero-not r.number z e)
    by false h e next z = let w = next e in ((h, w.0), w.1)

pub first-passed : (rs : List Refusal) → no_zero rs ≡ true → first rs 0 ≡ 0 → Passed rs
first-passed rs n e = (first-through rs 0 n e).0

pub first_stops : (rs ss : List Refusal) (f : Frame) → (first rs 0 ≡ 0 → ⊥) → stopped (rs ++ ss) f ≡ stop_at (first rs 0)
unfolding first stopped
first_stops [] ss f e = absurd (e refl)
first_stops (r ∷ rs) ss f e = by r.holds e (first_stops rs ss f)
  where
    by : (b : Bool) → (cond b r.number (first rs 0) ≡ 0 → ⊥) → ((first rs 0 ≡ 0 → ⊥) → stopped (rs ++ ss) f ≡ stop_at (first rs 0))
        → cond b (stop_at r.number) (stopped (rs ++ ss) f) ≡ stop_at (cond b r.number (first rs 0))
    by true e next = refl
    by false e next = next e

-- ---- which numbers a chain may give: any rows, any numbers
abbrev pub rows_in : List Refusal → List ℕ → Bool
rows_in [] ns = true
rows_in (r ∷ rs) ns = is_in r.number ns && rows_in rs ns

pub first-in : (ns : List ℕ) (rs : List Refusal) (rest : ℕ) → rows_in rs ns ≡ true → is_in rest ns ≡ true → is_in (first rs rest) ns ≡ true
unfolding first
first-in ns [] rest a h = h
first-in ns (r ∷ rs) rest a h =
    let s = and-true (is_in r.number ns) (rows_in rs ns) a in
    in-cond ns r.holds r.number (first rs rest) s.0 (first-in ns rs rest s.1 h)

pub stopped-in : (ns : List ℕ) (rs : List Refusal) (f : Frame) → rows_in rs ns ≡ true → is_in f.stop ns ≡ true → is_in (stopped rs f).stop ns ≡ true
unfolding stopped
stopped-in ns [] f a h = h
stopped-in ns (r ∷ rs) f a h =
    let s = and-true (is_in r.number ns) (rows_in rs ns) a in
    by r.holds s.0 (stopped-in ns rs f s.1 h)
  where
    by : (b : Bool) → is_in r.number ns ≡ true → is_in (stopped rs f).stop ns ≡ true → is_in (cond b (stop_at r.number) (stopped rs f)).stop ns ≡ true
    by true p q = p
    by false p q = q
