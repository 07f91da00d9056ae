-- A size decides; a refusal stands; else the bytes decide.
use mathlib.Core.Path.{◌∙◌, sym, subst}
use Prim.Native.Nat.{◌-◌}
use native.Mathlib.Omega.{arith}
use Rattle.meaning.specs.Records.{misc_of}
use Rattle.marks.specs.Marks.{Refusal, unreadable-named, refused_mark, size-judged, refused-judged}
use Rattle.plan.proofs.other.Goals as goal

pub returns-then-p-lt-OPEN : goal.returns-then-p-lt-OPEN
returns-then-p-lt-OPEN c =
    let a = c.args in
    c.sized.ensures ∙ size-judged a.p.known a.p.a a.p.r.bytes.now a.p.r.kind c.args.p.r.typed a.p.mark (c.args.p.marked.fixed c.if-p-lt-OPEN.true)

-- the mark's refusal is one that edition and attributes decide
pub refusal-requires : goal.refusal-requires
refusal-requires c =
    let a = c.args in
    let m = c.args.p.marked.refused c.if-p-ge-REFUSED.true in
    let l = m.0 in
    let u = m.2 0 in
    subst Refusal u (unreadable-named a.p.known a.p.a a.p.r.kind 0 (λ z. let w = sym u ∙ z in omega (arith, w, l)))

pub returns-then-p-ge-REFUSED : goal.returns-then-p-ge-REFUSED
returns-then-p-ge-REFUSED c =
    let a = c.args in
    let m = c.args.p.marked.refused c.if-p-ge-REFUSED.true in
    let l = m.0 in
    c.refusal.ensures
    ∙ refused-judged a.p.known a.p.a a.p.r.bytes.now a.p.r.kind c.args.p.r.typed (a.p.mark - refused_mark) (m.2 (misc_of a.p.r.bytes.now)) (λ z. omega (arith, z, l))

pub opened-requires : goal.opened-requires
opened-requires c = record { open_mark_le_mark = c.if-p-lt-OPEN.false; mark_lt_refused_mark = c.if-p-ge-REFUSED.false; fact = c.requires }
