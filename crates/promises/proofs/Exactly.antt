-- The stops, "in the order checked": a stop is given exactly when a row with its number holds and no row before the first with that number does, both
-- ways; and a record is taken exactly when no row holds. For the drain and the reader of one record, with one attribute set and with a table of events, and
-- for the walk over a backward ring. `stop_rows` and `back_rows` list the rows of 01 and of M-109 in their order. Assumes nothing.
use Rattle.std.specs.Prelude.{◌≡◌, refl, List, [], ◌∷◌, map, Bool, true, false, cond, not, ◌&&◌, ℕ, ◌-◌, ◌*◌, ◌^◌, ◌<◌, eqb, length}
use Rattle.std.proofs.Common.{sym, ap, ◌∙◌, subst, ⊎_elim, eq-zero-or-pos, eqb-true}
use Rattle.std.proofs.lemmas.Bool.{not-true}
use Rattle.meaning.specs.declared.Attributes.{Attributes}
use Rattle.meaning.specs.declared.Event.{Event}
use Rattle.meaning.specs.States.{Frame}
use Rattle.meaning.specs.Refusals.{Refusal}
use Rattle.meaning.specs.Editions.{editions, known}
use Rattle.meaning.specs.Records.{layout, judge}
use Rattle.meaning.specs.Ring.{Asked, asked_of, stop_at, stopped, frame}
use Rattle.meaning.specs.Drain.{End, drain}
use Rattle.meaning.specs.Events.{asked_events, judge_events, drain_events}
use Rattle.meaning.specs.Backward.{back_frame, walk_back, walk_events}
use Rattle.one.specs.declared.OneTold.{OneTold}
use Rattle.one.specs.Told.{one_told}
use Rattle.event_one.specs.Told.{one_events_told}
use Rattle.laws.specs.Bytes.{apart, and-true}
use Rattle.laws.specs.Rows.{tests, any, gives, before, Passed, passed, stopped-yes, stopped-no, stopped-passed}
use Rattle.laws.specs.Rings.{stop_rows, frame-rows, frame-reason}
use Rattle.runs.specs.Cutting.{Cuts, cutting_by}
use Rattle.runs.proofs.Forward.{Counted}
use Rattle.editions.proofs.Drains.{drain-counted}
use Rattle.editions.proofs.EventDrains.{drain-events-counted}
use Rattle.backward.specs.Promise.{walk_cuts, Walks}
use Rattle.backward.specs.Frames.{back_rows, back-rows, back-reason}
use Rattle.backward.proofs.Walks.{walk-walks}
use Rattle.promises.proofs.Called.{Called, one-called, one-events-called}

-- ---- any rows

-- a row with this number holds, and no row before the first with that number does
abbrev pub Foremost : ℕ → List Refusal → Type 0
Foremost k rs = (gives k rs ≡ true) × Passed (before k rs)

-- rows of one number stand next to each other: two rows with 5 are one after the other
abbrev pub without : ℕ → List Refusal → Bool
without k [] = true
without k (r ∷ rs) = not (eqb k r.number) && without k rs

abbrev pub together : ℕ → List Refusal → Bool
together k [] = true
together k (r ∷ rs) = cond (eqb k r.number) (together k rs) (without k rs)

abbrev pub grouped : List Refusal → Bool
grouped [] = true
grouped (r ∷ rs) = together r.number rs && grouped rs

none-gives : (k : ℕ) (rs : List Refusal) → without k rs ≡ true → gives k rs ≡ true → ⊥
none-gives k [] w g = apart g
none-gives k (r ∷ rs) w g =
    let s = and-true (not (eqb k r.number)) (without k rs) w in
    none-gives k rs s.1 (subst (λ (b : Bool). any (cond b (r.holds ∷ tests k rs) (tests k rs)) ≡ true) (not-true (eqb k r.number) s.0) g)

-- the first row of this number, and it holds; or it does not, and a later one does
any-first : (b : Bool) (bs : List Bool) → any (b ∷ bs) ≡ true → b ≡ false → any bs ≡ true
any-first b [] g h = absurd (apart (sym h ∙ g))
any-first b (c ∷ cs) g h = subst (λ (x : Bool). any (x ∷ c ∷ cs) ≡ true) h g

module _ (f : Frame) where
  -- one after the other, from here on
  block-stops : (k : ℕ) (rs : List Refusal) → together k rs ≡ true → gives k rs ≡ true → stopped rs f ≡ stop_at k
  block-stops k [] t g = absurd (apart g)
  block-stops k (r ∷ rs) t g = by (eqb k r.number) refl t g (block-stops k rs)
    where
      by : (b : Bool) → eqb k r.number ≡ b → cond b (together k rs) (without k rs) ≡ true → any (cond b (r.holds ∷ tests k rs) (tests k rs)) ≡ true
          → (together k rs ≡ true → gives k rs ≡ true → stopped rs f ≡ stop_at k) → stopped (r ∷ rs) f ≡ stop_at k
      by true q t g next = holding r.holds refl
        where
          holding : (h : Bool) → r.holds ≡ h → stopped (r ∷ rs) f ≡ stop_at k
          holding true h = stopped-yes r rs f h ∙ ap stop_at (sym (eqb-true k r.number q))
          holding false h = stopped-no r rs f h ∙ next t (any-first r.holds (tests k rs) g h)
      by false q t g next = absurd (none-gives k rs t g)

  foremost-stops : (k : ℕ) (rs : List Refusal) → grouped rs ≡ true → Foremost k rs → stopped rs f ≡ stop_at k
  foremost-stops k [] w p = absurd (apart p.0)
  foremost-stops k (r ∷ rs) w p =
      let s = and-true (together r.number rs) (grouped rs) w in
      by (eqb k r.number) refl p.0 p.1 s.0 (foremost-stops k rs s.1)
    where
      by : (b : Bool) → eqb k r.number ≡ b → any (cond b (r.holds ∷ tests k rs) (tests k rs)) ≡ true → Passed (cond b [] (r ∷ before k rs)) → together r.number rs ≡ true
          → (Foremost k rs → stopped rs f ≡ stop_at k) → stopped (r ∷ rs) f ≡ stop_at k
      by true q g p t next = holding r.holds refl
        where
          holding : (h : Bool) → r.holds ≡ h → stopped (r ∷ rs) f ≡ stop_at k
          holding true h = stopped-yes r rs f h ∙ ap stop_at (sym (eqb-true k r.number q))
          holding false h =
              stopped-no r rs f h
              ∙ block-stops k rs (subst (λ (n : ℕ). together n rs ≡ true) (sym (eqb-true k r.number q)) t) (any-first r.holds (tests k rs) g h)
      by false q g p t next = stopped-no r rs f p.0 ∙ next (g, p.1)

-- ---- the orders: "Refusal numbers, in the order checked", with M-100's 11 "after 5 and before anything is taken" and without M-104's 10; and M-109's
-- "1, 2, 5 (head alone), 11 with a table, 0, 6, 13, 8, 9, 3". A number that stands twice has two tests

abbrev pub numbers_of : List Refusal → List ℕ
numbers_of rs = map (λ (r : Refusal). r.number) rs

pub stops-in-order : (asked : Asked) (ring : List ℕ) (head tail left journal scratch : ℕ)
    → numbers_of (stop_rows asked ring head tail left journal scratch) ≡ 1 ∷ 2 ∷ 4 ∷ 5 ∷ 5 ∷ 11 ∷ 0 ∷ 8 ∷ 9 ∷ 6 ∷ 6 ∷ 7 ∷ 3 ∷ []
stops-in-order asked ring head tail left journal scratch = refl

pub walk-stops-in-order : (asked : Asked) (ring : List ℕ) (head count left journal scratch : ℕ)
    → numbers_of (back_rows asked ring head count left journal scratch) ≡ 1 ∷ 2 ∷ 5 ∷ 11 ∷ 0 ∷ 0 ∷ 6 ∷ 6 ∷ 13 ∷ 8 ∷ 9 ∷ 3 ∷ []
walk-stops-in-order asked ring head count left journal scratch = refl

-- ---- the ring that is read forward, whatever the rows ask beside it
module _ (asked : Asked) (ring : List ℕ) (head tail left journal scratch : ℕ) where
  abbrev rows : List Refusal
  rows = stop_rows asked ring head tail left journal scratch

  abbrev next : Frame
  next = frame asked ring head tail left journal scratch

  -- a stop, both ways
  pub stops-exactly : (k : ℕ) → (next ≡ stop_at k → Foremost k rows) × (Foremost k rows → next ≡ stop_at k)
  stops-exactly k = (
    frame-reason asked ring head tail left journal scratch k,
    λ p. frame-rows asked ring head tail left journal scratch ∙ foremost-stops _ k rows refl p,
  )

  -- a record is taken exactly when no row holds
  pub goes-exactly : (next.go ≡ true → Passed rows) × (Passed rows → next.go ≡ true)
  goes-exactly = (
    λ g. (passed rows _ next g (frame-rows asked ring head tail left journal scratch)).0,
    λ p. ap (λ (f : Frame). f.go) (frame-rows asked ring head tail left journal scratch ∙ stopped-passed rows _ p),
  )

-- ---- the drain: the rows at the new tail, with what is left of budget and journal

-- whatever is counted so
counted-exactly : (asked : Asked) (ring : List ℕ) (head tail budget : ℕ) (journal scratch : List ℕ) (w : Cuts) (d : End) → Counted asked ring head tail budget journal scratch w d → (k : ℕ)
    → (d.stop ≡ k → Foremost k (stop_rows asked ring head d.state.tail (budget - d.state.taken) (length journal - 16 * d.state.taken) (length scratch)))
    × (Foremost k (stop_rows asked ring head d.state.tail (budget - d.state.taken) (length journal - 16 * d.state.taken) (length scratch)) → d.stop ≡ k)
counted-exactly asked ring head tail budget journal scratch w d c k =
    let x = stops-exactly asked ring head d.state.tail (budget - d.state.taken) (length journal - 16 * d.state.taken) (length scratch) k in
    (λ q. x.0 (c.reason ∙ ap stop_at q), λ p. ap (λ (f : Frame). f.stop) (sym c.reason ∙ x.1 p))

module _ (e : ℕ) (a : Attributes) (ring : List ℕ) (head tail budget : ℕ) (journal scratch : List ℕ) (hd : head < 2 ^ 64) (tl : tail < 2 ^ 64) where
  abbrev drained : End
  drained = drain editions e a ring head tail budget journal scratch

  pub drain-exactly : (k : ℕ)
      → (drained.stop ≡ k
      → Foremost k (stop_rows (asked_of editions e) ring head drained.state.tail (budget - drained.state.taken) (length journal - 16 * drained.state.taken) (length scratch)))
      × (Foremost k (stop_rows (asked_of editions e) ring head drained.state.tail (budget - drained.state.taken) (length journal - 16 * drained.state.taken) (length scratch))
      → drained.stop ≡ k)
  drain-exactly =
      counted-exactly (asked_of editions e) ring head tail budget journal scratch (cutting_by (asked_of editions e) ring head tail budget (length journal) scratch) drained
      (drain-counted editions e a ring head tail budget journal scratch hd tl)

module _ (limit e : ℕ) (es : List Event) (ring : List ℕ) (head tail budget : ℕ) (journal scratch : List ℕ) (hd : head < 2 ^ 64) (tl : tail < 2 ^ 64) where
  abbrev event_drained : End
  event_drained = drain_events limit editions e es ring head tail budget journal scratch

  pub drain-events-exactly : (k : ℕ)
      → (event_drained.stop ≡ k
      → Foremost k
      (stop_rows (asked_events limit editions e es) ring head event_drained.state.tail (budget - event_drained.state.taken) (length journal - 16 * event_drained.state.taken) (length scratch)))
      × (Foremost k
      (stop_rows (asked_events limit editions e es) ring head event_drained.state.tail (budget - event_drained.state.taken) (length journal - 16 * event_drained.state.taken) (length scratch))
      → event_drained.stop ≡ k)
  drain-events-exactly =
      counted-exactly (asked_events limit editions e es) ring head tail budget journal scratch (cutting_by (asked_events limit editions e es) ring head tail budget (length journal) scratch) event_drained
      (drain-events-counted limit editions e es ring head tail budget journal scratch hd tl)

-- ---- the reader of one record, as C calls it: a stop has the size 0

called-exactly : (asked : Asked) (ring : List ℕ) (head tail : ℕ) (scratch words : List ℕ) (t : OneTold) (scratch-then words_then : List ℕ)
    → Called asked ring head tail scratch words t scratch-then words_then → (k : ℕ)
    → ((t.size ≡ 0) × (t.stop ≡ k) → Foremost k (stop_rows asked ring head tail 1 16 (length scratch)))
    × (Foremost k (stop_rows asked ring head tail 1 16 (length scratch)) → (t.size ≡ 0) × (t.stop ≡ k))
called-exactly asked ring head tail scratch words t scratch-then words_then c k =
    let x = stops-exactly asked ring head tail 1 16 (length scratch) k in (
      λ q. x.0 ((c.stop-tells q.0).0 ∙ ap stop_at q.1),
      λ p. ⊎_elim
          (λ (h : t.size ≡ 0). (h, ap (λ (f : Frame). f.stop) (sym (c.stop-tells h).0 ∙ x.1 p)))
          (λ (h : 0 < t.size). absurd (apart (ap (λ (f : Frame). f.go) (sym (x.1 p) ∙ (c.taken-tells h).0))))
          (eq-zero-or-pos t.size),
    )

called-taken-exactly : (asked : Asked) (ring : List ℕ) (head tail : ℕ) (scratch words : List ℕ) (t : OneTold) (scratch-then words_then : List ℕ)
    → Called asked ring head tail scratch words t scratch-then words_then
    → (0 < t.size → Passed (stop_rows asked ring head tail 1 16 (length scratch))) × (Passed (stop_rows asked ring head tail 1 16 (length scratch)) → 0 < t.size)
called-taken-exactly asked ring head tail scratch words t scratch-then words_then c =
    let x = goes-exactly asked ring head tail 1 16 (length scratch) in (
      λ h. x.0 (ap (λ (f : Frame). f.go) (c.taken-tells h).0),
      λ p. ⊎_elim
          (λ (h : t.size ≡ 0). absurd (apart (ap (λ (f : Frame). f.go) (sym (c.stop-tells h).0) ∙ x.1 p)))
          (λ (h : 0 < t.size). h)
          (eq-zero-or-pos t.size),
    )

module _ (e : ℕ) (a : Attributes) (ring : List ℕ) (head tail : ℕ) (scratch words : List ℕ) where
  abbrev told : OneTold
  told = one_told editions e a ring head tail scratch words

  pub one-exactly : (k : ℕ)
      → ((told.size ≡ 0) × (told.stop ≡ k) → Foremost k (stop_rows (asked_of editions e) ring head tail 1 16 (length scratch)))
      × (Foremost k (stop_rows (asked_of editions e) ring head tail 1 16 (length scratch)) → (told.size ≡ 0) × (told.stop ≡ k))
  one-exactly = called-exactly (asked_of editions e) ring head tail scratch words told _ _ (one-called e a ring head tail scratch words)

  pub one-taken-exactly : (0 < told.size → Passed (stop_rows (asked_of editions e) ring head tail 1 16 (length scratch)))
      × (Passed (stop_rows (asked_of editions e) ring head tail 1 16 (length scratch)) → 0 < told.size)
  one-taken-exactly = called-taken-exactly (asked_of editions e) ring head tail scratch words told _ _ (one-called e a ring head tail scratch words)

module _ (limit e : ℕ) (es : List Event) (ring : List ℕ) (head tail : ℕ) (scratch words : List ℕ) where
  abbrev event_told : OneTold
  event_told = one_events_told limit editions e es ring head tail scratch words

  pub one-events-exactly : (k : ℕ)
      → ((event_told.size ≡ 0) × (event_told.stop ≡ k) → Foremost k (stop_rows (asked_events limit editions e es) ring head tail 1 16 (length scratch)))
      × (Foremost k (stop_rows (asked_events limit editions e es) ring head tail 1 16 (length scratch)) → (event_told.size ≡ 0) × (event_told.stop ≡ k))
  one-events-exactly = called-exactly (asked_events limit editions e es) ring head tail scratch words event_told _ _ (one-events-called limit e es ring head tail scratch words)

  pub one-events-taken-exactly : (0 < event_told.size → Passed (stop_rows (asked_events limit editions e es) ring head tail 1 16 (length scratch)))
      × (Passed (stop_rows (asked_events limit editions e es) ring head tail 1 16 (length scratch)) → 0 < event_told.size)
  one-events-taken-exactly = called-taken-exactly (asked_events limit editions e es) ring head tail scratch words event_told _ _ (one-events-called limit e es ring head tail scratch words)

-- ---- the walk over a backward ring: the rows where it ended

module _ (asked : Asked) (ring : List ℕ) (head count left journal scratch : ℕ) where
  pub back-exactly : (k : ℕ)
      → (back_frame asked ring head count left journal scratch ≡ stop_at k → Foremost k (back_rows asked ring head count left journal scratch))
      × (Foremost k (back_rows asked ring head count left journal scratch) → back_frame asked ring head count left journal scratch ≡ stop_at k)
  back-exactly k = (
    back-reason asked ring head count left journal scratch k,
    λ p. back-rows asked ring head count left journal scratch ∙ foremost-stops _ k (back_rows asked ring head count left journal scratch) refl p,
  )

  pub back-goes-exactly : ((back_frame asked ring head count left journal scratch).go ≡ true → Passed (back_rows asked ring head count left journal scratch))
      × (Passed (back_rows asked ring head count left journal scratch) → (back_frame asked ring head count left journal scratch).go ≡ true)
  back-goes-exactly = (
    λ g. (passed (back_rows asked ring head count left journal scratch) _ (back_frame asked ring head count left journal scratch) g (back-rows asked ring head count left journal scratch)).0,
    λ p. ap (λ (f : Frame). f.go) (back-rows asked ring head count left journal scratch ∙ stopped-passed (back_rows asked ring head count left journal scratch) _ p),
  )

walk-by-exactly : (asked : Asked) (judge : List ℕ → ℕ) (ring : List ℕ) (head budget : ℕ) (journal scratch : List ℕ) (d : End)
    → Walks asked judge ring head budget journal scratch (walk_cuts asked ring head budget (length journal) scratch) d → (k : ℕ)
    → (d.stop ≡ k → Foremost k (back_rows asked ring head d.state.tail (budget - d.state.taken) (length journal - 16 * d.state.taken) (length scratch)))
    × (Foremost k (back_rows asked ring head d.state.tail (budget - d.state.taken) (length journal - 16 * d.state.taken) (length scratch)) → d.stop ≡ k)
walk-by-exactly asked judge ring head budget journal scratch d w k =
    let x = back-exactly asked ring head d.state.tail (budget - d.state.taken) (length journal - 16 * d.state.taken) (length scratch) k in
    (λ q. x.0 (w.reason ∙ ap stop_at q), λ p. ap (λ (f : Frame). f.stop) (sym w.reason ∙ x.1 p))

module _ (e : ℕ) (a : Attributes) (ring : List ℕ) (head budget : ℕ) (journal scratch : List ℕ) (hd : head < 2 ^ 64) where
  abbrev walked : End
  walked = walk_back editions e a ring head budget journal scratch

  pub walk-exactly : (k : ℕ)
      → (walked.stop ≡ k
      → Foremost k (back_rows (asked_of editions e) ring head walked.state.tail (budget - walked.state.taken) (length journal - 16 * walked.state.taken) (length scratch)))
      × (Foremost k (back_rows (asked_of editions e) ring head walked.state.tail (budget - walked.state.taken) (length journal - 16 * walked.state.taken) (length scratch))
      → walked.stop ≡ k)
  walk-exactly =
      walk-by-exactly (asked_of editions e) (judge (layout (known editions e) a)) ring head budget journal scratch walked
      (walk-walks (asked_of editions e) (judge (layout (known editions e) a)) ring head budget journal scratch hd)

module _ (limit e : ℕ) (es : List Event) (ring : List ℕ) (head budget : ℕ) (journal scratch : List ℕ) (hd : head < 2 ^ 64) where
  abbrev event_walked : End
  event_walked = walk_events limit editions e es ring head budget journal scratch

  pub walk-events-exactly : (k : ℕ)
      → (event_walked.stop ≡ k
      → Foremost k
      (back_rows (asked_events limit editions e es) ring head event_walked.state.tail (budget - event_walked.state.taken) (length journal - 16 * event_walked.state.taken) (length scratch)))
      × (Foremost k
      (back_rows (asked_events limit editions e es) ring head event_walked.state.tail (budget - event_walked.state.taken) (length journal - 16 * event_walked.state.taken) (length scratch))
      → event_walked.stop ≡ k)
  walk-events-exactly =
      walk-by-exactly (asked_events limit editions e es) (judge_events (known editions e) es) ring head budget journal scratch event_walked
      (walk-walks (asked_events limit editions e es) (judge_events (known editions e) es) ring head budget journal scratch hd)
