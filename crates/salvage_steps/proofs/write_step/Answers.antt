-- None writes nothing; a record is put behind the bytes kept, and the hole that ends before it.
use Rattle.std.specs.Prelude.{◌≡◌, ◌≤◌, ◌<◌, ◌+◌, ◌*◌, ◌-◌, ℕ, List, length, refl, Option, Some, None, unwrap_or, IfSome, take, drop}
use Rattle.std.proofs.Common.{sym, ap, ◌∙◌, subst, arith}
use Rattle.meaning.specs.Bytes.{put}
use Rattle.salvage.specs.Walks.{out_by, list_by}
use Rattle.salvage_steps.proofs.write_step.Goals as goal

pub returns-in_default : goal.returns-in_default
returns-in_default c =
    let a = c.args in
    record {
      out_after = ap (λ (k : Option ℕ). out_by a.xs.now a.w k a.out.now) (sym c.in_default.is);
      list_after = ap (λ (k : Option ℕ). list_by a.w k a.list.now) (sym c.in_default.is);
    }

pub write_closed-requires : goal.write_closed-requires
write_closed-requires c =
    let a = c.args in
    subst (λ (k : Option ℕ). IfSome k (λ size. a.w.start < a.w.at → 22 * a.w.holes + 22 ≤ length a.list.now)) c.in-Some.is c.requires.holes_in_bounds

pub returns : goal.returns
returns c =
    let a = c.args in
    let size = c.in-Some.size in
    let e : a.w.at + size - a.w.at ≡ size = omega arith in
    record {
      out_after = c.copy_at.ensures ∙ ap (λ (n : ℕ). put a.out.now a.w.kept (take n (drop a.w.at a.xs.now))) e
          ∙ ap (λ (k : Option ℕ). out_by a.xs.now a.w k a.out.now) (sym c.in-Some.is);
      list_after = c.write_closed.ensures ∙ ap (λ (k : Option ℕ). list_by a.w k a.list.now) (sym c.in-Some.is);
    }
