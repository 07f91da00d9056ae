-- Demand 3 for one record under a table, once over all pairs of editions; and the numbers of its answer. Assumes nothing.
use Rattle.std.specs.Prelude.{◌≡◌, refl, Bool, true, false, cond, not, ◌&&◌, ◌||◌, List, [], ◌∷◌, ℕ, ◌<◌, ◌≤◌, leb, ltb, eqb, length}
use Rattle.std.proofs.Common.{sym, ap, ◌∙◌, subst, ltb-true}
use Rattle.meaning.specs.declared.Known.{Known}
use Rattle.meaning.specs.Refusals.{refusal, first}
use Rattle.meaning.specs.Editions.{allowed, known, Thing, kind, sample_bit, knows, outside, depends, is_in, is_unknown}
use Rattle.meaning.specs.Records.{kind_of, misc_of, judge}
use Rattle.editions.specs.Fairness.{rising, Fair}
use Rattle.editions.proofs.Outside.{outside-when, outside-less, known-within}
use Rattle.editions.proofs.OneRecord.{any_holds, kind-outside, fair-free, fair-first, record-fair}
use Rattle.meaning.specs.declared.Event.{Event}
use Rattle.meaning.specs.Events.{attributes_of, identifiers, identifier_of, index_for, event_for, has_event, gate, eventless, layout_for, judge_events, event_depends}
use Rattle.laws.specs.Bytes.{apart}
use Rattle.laws.specs.Rows.{in-each, in-more, first-in}
use Rattle.editions.specs.Numbers.{record_numbers, event_numbers}
use Rattle.editions.proofs.InTable.{judge-in}
use Rattle.editions.specs.EventPromise.{EventWords}

-- the rows 20 and 21 before the lookup hold exactly where the type or bit 16 is outside
gate-outside : (k : Known) (t : ℕ) → any_holds (gate k t) ≡ outside k (kind t ∷ sample_bit 16 ∷ [])
unfolding outside
gate-outside k t = ap (λ (b : Bool). b || (not (knows k (sample_bit 16)) || false)) (kind-outside k t)

-- 27 and 26 are no edition's; past them the answers are the event's own
own-fair : (b c : Bool) (x y : ℕ) (out : Bool) → Fair x y out
    → Fair (first (refusal (not b) 27 ∷ refusal (not c) 26 ∷ []) x) (first (refusal (not b) 27 ∷ refusal (not c) 26 ∷ []) y) ((b && c) && out)
unfolding first is_unknown
own-fair true true x y out w = w
own-fair true false x y out w = fair-free 26 refl
own-fair false c x y out w = fair-free 27 refl

or-join : (x y o : Bool) → ((x || (y || false)) || o) ≡ (x || (y || o))
or-join true y o = refl
or-join false true o = refl
or-join false false o = refl

-- a record of any bytes, under any table
pub event-fair : (rows : List Known) → rising rows ≡ true → (e₁ e₂ : ℕ) → e₁ ≤ e₂ → allowed rows e₂ ≡ true → (es : List Event) → EventWords es → (r : List ℕ)
    → Fair (judge_events (known rows e₁) es r) (judge_events (known rows e₂) es r) (outside (known rows e₁) (event_depends es r))
unfolding judge_events event_depends has_event outside is_unknown
event-fair rows u e₁ e₂ g h es ws r =
    let k : Known = known rows e₁ in
    let m : Known = known rows e₂ in
    let t : ℕ = kind_of r in
    let i : ℕ = index_for es r in
    let long : Bool = leb 16 (length r) in
    let there : Bool = is_in (identifier_of r) (identifiers es) in
    let ts : List Thing = depends t (misc_of r) (attributes_of (event_for es r)) in
    let own = own-fair long there _ _ _ (record-fair rows u e₁ e₂ g h (attributes_of (event_for es r)) (ws i) r) in
    let fewer : any_holds (gate k t) ≡ false → any_holds (gate m t) ≡ false =
    λ o. gate-outside m t ∙ outside-less k m (known-within rows u e₁ e₂ g h) (kind t ∷ sample_bit 16 ∷ []) (sym (gate-outside k t) ∙ o) in
    let rest = fair-first (gate k t) (gate m t) _ _ _ refl fewer own in
    subst (Fair _ _)
    (ap (λ (b : Bool). b || ((long && there) && outside k ts)) (gate-outside k t)
    ∙ or-join (not (knows k (kind t))) (not (knows k (sample_bit 16))) ((long && there) && outside k ts)
    ∙ ap (λ (b : Bool). not (knows k (kind t)) || (not (knows k (sample_bit 16)) || b)) (sym (outside-when k (long && there) ts)))
    rest

-- ---- the numbers

pub event-in : (k : Known) (es : List Event) (r : List ℕ) → is_in (judge_events k es r) event_numbers ≡ true
unfolding judge_events
event-in k es r =
    let own : ℕ = judge (layout_for k es r) r in
    first-in event_numbers (gate k (kind_of r)) (first (eventless es r) own) refl
    (first-in event_numbers (eventless es r) own refl (in-more record_numbers event_numbers own refl (judge-in k (attributes_of (event_for es r)) r)))

-- so an answer fits its two bytes of the journal
pub event-small : (k : Known) (es : List Event) (r : List ℕ) → judge_events k es r < 65536
event-small k es r = ltb-true _ _ (in-each (λ (n : ℕ). ltb n 65536) event_numbers (judge_events k es r) refl (event-in k es r))

-- every record that has no event is 20, 21, 27 or 26
pub no-event-in : (k : Known) (es : List Event) (r : List ℕ) → has_event es r ≡ false → is_in (judge_events k es r) (20 ∷ 21 ∷ 27 ∷ 26 ∷ []) ≡ true
unfolding judge_events has_event first
no-event-in k es r h =
    by (eqb (kind_of r) 0 || ltb k.kinds (kind_of r)) (not (knows k (sample_bit 16))) (leb 16 (length r)) (is_in (identifier_of r) (identifiers es)) h (judge (layout_for k es r) r)
  where
    by : (a b l i : Bool) → (l && i) ≡ false → (n : ℕ) → is_in (cond a 20 (cond b 21 (cond (not l) 27 (cond (not i) 26 n)))) (20 ∷ 21 ∷ 27 ∷ 26 ∷ []) ≡ true
    by true b l i h n = refl
    by false true l i h n = refl
    by false false false i h n = refl
    by false false true false h n = refl
    by false false true true h n = absurd (apart (sym h))
