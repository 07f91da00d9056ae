-- Four stretches, one after the other: the first that refuses answers, the last ends with the record.
use mathlib.Core.Path.{refl}
use mathlib.Core.List.{List, ◌++◌}
use Prim.Native.Nat.{ℕ}
use Rattle.std.proofs.lemmas.Result.{err_from_is_err_and}
use Rattle.laws.specs.Reasons.{number-some}
use Rattle.blocks.specs.Seen.{closes-then, closes-stuck}
use Rattle.meaning.specs.Schema.{sample_last}
use Rattle.exact.specs.Stretches.{front, lists, state}
use Rattle.exact_sample.proofs.sample.Goals as goal

pub returns-in_err-past : goal.returns-in_err-past
returns-in_err-past c =
    let a = c.args.w.a in
    let p = err_from_is_err_and c.from_residual.result c.from_residual.ensures.1 in
    rw (p.1, p.2) (closes-stuck c.args.s.now (front a) (lists a ++ (state a ++ sample_last a)) 8 _ c.in_err-past.ensures.0 (number-some _))

pub lists-requires : goal.lists-requires
lists-requires c = record { at_in_bounds = c.in_ok-past.ensures.1 refl; s_len_bound = c.requires.s_len_bound }

pub returns-in_err-then : goal.returns-in_err-then
returns-in_err-then c =
    let xs : List ℕ = c.args.s.now in
    let a = c.args.w.a in
    let p = err_from_is_err_and c.from_residual-in_err-then.result c.from_residual-in_err-then.ensures.1 in
    rw (p.1, p.2)
    (closes-then xs (front a) (lists a ++ (state a ++ sample_last a)) 8 _ _ c.in_ok-past.ensures.0 refl
    (closes-stuck xs (lists a) (state a ++ sample_last a) _ _ c.in_err-then.ensures.0 (number-some _)))

pub state-requires : goal.state-requires
state-requires c = record { at_in_bounds = c.in_ok-then.ensures.1 refl; wide_value = λ q. c.args.w.right.user q }

pub returns-in_err-late : goal.returns-in_err-late
returns-in_err-late c =
    let xs : List ℕ = c.args.s.now in
    let a = c.args.w.a in
    let p = err_from_is_err_and c.from_residual-in_err-late.result c.from_residual-in_err-late.ensures.1 in
    rw (p.1, p.2)
    (closes-then xs (front a) (lists a ++ (state a ++ sample_last a)) 8 _ _ c.in_ok-past.ensures.0 refl
    (closes-then xs (lists a) (state a ++ sample_last a) _ _ _ c.in_ok-then.ensures.0 refl
    (closes-stuck xs (state a) (sample_last a) _ _ c.in_err-late.ensures.0 (number-some _))))

pub rest-requires : goal.rest-requires
rest-requires c = c.in_ok-late.ensures.1 refl

pub returns : goal.returns
returns c =
    let xs : List ℕ = c.args.s.now in
    let a = c.args.w.a in
    closes-then xs (front a) (lists a ++ (state a ++ sample_last a)) 8 _ _ c.in_ok-past.ensures.0 refl
    (closes-then xs (lists a) (state a ++ sample_last a) _ _ _ c.in_ok-then.ensures.0 refl
    (closes-then xs (state a) (sample_last a) _ _ _ c.in_ok-late.ensures.0 refl c.rest.ensures))
