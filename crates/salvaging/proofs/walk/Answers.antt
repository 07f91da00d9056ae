-- Each turn is a step: what is still to come is the whole; where it writes, both buffers hold the first part of what they will hold (`Held`).
use Rattle.std.specs.Prelude.{◌≡◌, ℕ, ◌+◌, ◌-◌, ◌*◌, ◌<◌, ◌≤◌, cond, List, length, unwrap_or}
use Rattle.std.proofs.Common.{sym, ◌∙◌, subst, arith}
use Rattle.meaning.specs.declared.Event.{Event}
use Rattle.meaning.specs.Editions.{editions}
use Rattle.salvage.specs.declared.Walk.{Walk}
use Rattle.salvage.specs.Salvage.{holes, table_judge}
use Rattle.salvage.specs.Walks.{out_by, list_by, list_closed}
use Rattle.salvage.proofs.Promises.{changes-length}
use Rattle.salvage.proofs.Turns.{sized, wrote-lengths, stands-end, hole-room, most, by-kept}
use Rattle.salvaging.proofs.Held.{Held, writes, is-on, on-is, off-is, where-kept, size_is, held-start, held-stands, held-wrote, held-again, held-end}
use Rattle.salvaging.proofs.walk.Goals.{then-this-ne0, else-this-ne0, then-this-ne0-2, else-this-ne0-2}
use Rattle.salvaging.proofs.walk.Goals as goal

-- the judge of a table
abbrev J : ℕ → List Event → List ℕ → ℕ
J e es = table_judge editions e es

pub loop-w-init : goal.loop-w-init
loop-w-init g c = let a = c.args in held-start (J a.e a.events.now) a.xs.now a.out.now a.list.now (writes g.row.WRITES)

pub write_step-requires : goal.write_step-requires
write_step-requires g c =
    let a = c.args in
    let l = c.loop-w in
    let on = is-on g.row.WRITES c.if-this-ne0.true in
    let v = held-wrote (J a.e a.events.now) a.xs.now a.out.now a.list.now l.w l.out l.list (writes g.row.WRITES) on l.invariant in
    let t = sized (J a.e a.events.now) a.xs.now l.w v.stands c.loop-w-test.true (unwrap_or c.kept_size-kept.result 0) (size_is (J a.e a.events.now) a.xs.now l.w.at _ c.loop-w-test.true c.kept_size-kept.ensures.value) in
    let n = (wrote-lengths (J a.e a.events.now) a.xs.now a.out.now a.list.now l.w l.out l.list v).1 in
    record {
      size_in_bounds = t.inside;
      holes_in_bounds = where-kept _ c.kept_size-kept.ensures.positive
          (λ p h. omega (arith, t.next-hole p h, changes-length (holes (J a.e a.events.now) a.xs.now), (c.requires on).list-fits, n));
    }

pub advance-w-requires : goal.advance-w-requires
advance-w-requires g c =
    let a = c.args in
    let l = c.loop-w in
    let s = held-stands (J a.e a.events.now) a.xs.now a.out.now a.list.now l.w l.out l.list (writes g.row.WRITES) l.invariant in
    let m = most (J a.e a.events.now) a.xs.now in
    let t = sized (J a.e a.events.now) a.xs.now l.w s c.loop-w-test.true (unwrap_or c.kept_size-kept.result 0) (size_is (J a.e a.events.now) a.xs.now l.w.at _ c.loop-w-test.true c.kept_size-kept.ensures.value) in
    (omega (arith, c.loop-w-test.true), omega (arith, t.inside), omega (arith, t.kept_in_lem, m.0), omega (arith, s.holes_in_lem, m.1))

pub loop-w-smaller : goal.loop-w-smaller
loop-w-smaller g c =
    let a = c.args in
    let l = c.loop-w in
    let s = held-stands (J a.e a.events.now) a.xs.now a.out.now a.list.now l.w l.out l.list (writes g.row.WRITES) l.invariant in
    let t = sized (J a.e a.events.now) a.xs.now l.w s c.loop-w-test.true (unwrap_or c.kept_size-kept.result 0) (size_is (J a.e a.events.now) a.xs.now l.w.at _ c.loop-w-test.true c.kept_size-kept.ensures.value) in
    subst (λ (x : Walk). length a.xs.now - x.at < length a.xs.now - l.w.at) (sym (c.advance-w.ensures ∙ by-kept l.w c.kept_size-kept.result _ c.kept_size-kept.ensures.positive)) t.onward

pub loop-w-preserved : goal.loop-w-preserved
loop-w-preserved g c =
    let a = c.args in
    let l = c.loop-w in
    let n = g.row.WRITES in
    let k = c.kept_size-kept.result in
    let eo : c.if-this-ne0.out ≡ cond (writes n) (out_by a.xs.now l.w k l.out) l.out = elim c.if-this-ne0.branch [
      | then-this-ne0 u ↦ u.out-is ∙ u.write_step.ensures.out_after ∙ on-is n u.if-this-ne0.true _ _
      | else-this-ne0 u ↦ u.out-is ∙ off-is n u.if-this-ne0.false _ _
    ] in
    let el : c.if-this-ne0.list ≡ cond (writes n) (list_by l.w k l.list) l.list = elim c.if-this-ne0.branch [
      | then-this-ne0 u ↦ u.list-is ∙ u.write_step.ensures.list_after ∙ on-is n u.if-this-ne0.true _ _
      | else-this-ne0 u ↦ u.list-is ∙ off-is n u.if-this-ne0.false _ _
    ] in
    subst (λ (x : Walk). Held (writes n) (J a.e a.events.now) a.xs.now a.out.now a.list.now x c.if-this-ne0.out c.if-this-ne0.list) (sym c.advance-w.ensures)
    (held-again (J a.e a.events.now) a.xs.now a.out.now a.list.now l.w l.out l.list (writes n) c.requires l.invariant c.loop-w-test.true k c.kept_size-kept.ensures.positive
    (size_is (J a.e a.events.now) a.xs.now l.w.at _ c.loop-w-test.true c.kept_size-kept.ensures.value) _ _ eo el)

pub write_closed-requires : goal.write_closed-requires
write_closed-requires g c =
    let a = c.args in
    let l = c.loop-w in
    let on = is-on g.row.WRITES c.if-this-ne0-2.true in
    let v = held-wrote (J a.e a.events.now) a.xs.now a.out.now a.list.now l.w l.out l.list (writes g.row.WRITES) on l.invariant in
    let e = stands-end (J a.e a.events.now) a.xs.now l.w v.stands c.loop-w-test.false in
    λ h. hole-room (J a.e a.events.now) a.xs.now a.out.now a.list.now (c.requires on) l.w l.list _ v.stands.holes_in_lem
    (wrote-lengths (J a.e a.events.now) a.xs.now a.out.now a.list.now l.w l.out l.list v).1 (e.last-hole h)

pub closed-holes-requires : goal.closed-holes-requires
closed-holes-requires g c =
    let a = c.args in
    let l = c.loop-w in
    let s = held-stands (J a.e a.events.now) a.xs.now a.out.now a.list.now l.w l.out l.list (writes g.row.WRITES) l.invariant in
    omega (arith, s.holes_in_lem, (most (J a.e a.events.now) a.xs.now).1)

pub returns : goal.returns
returns g c =
    let a = c.args in
    let l = c.loop-w in
    let n = g.row.WRITES in
    let s = held-stands (J a.e a.events.now) a.xs.now a.out.now a.list.now l.w l.out l.list (writes n) l.invariant in
    let e = stands-end (J a.e a.events.now) a.xs.now l.w s c.loop-w-test.false in
    let d = held-end (J a.e a.events.now) a.xs.now a.out.now a.list.now l.w l.out l.list (writes n) c.requires l.invariant c.loop-w-test.false in
    let el : c.if-this-ne0-2.list ≡ cond (writes n) (list_closed l.w l.list) l.list = elim c.if-this-ne0-2.branch [
      | then-this-ne0-2 u ↦ u.list-is ∙ u.write_closed.ensures ∙ on-is n u.if-this-ne0-2.true _ _
      | else-this-ne0-2 u ↦ u.list-is ∙ off-is n u.if-this-ne0-2.false _ _
    ] in
    record { counts = (e.kept-all, c.closed-holes.ensures ∙ e.closed_all); out_after = d.0; list_after = el ∙ d.1 }
