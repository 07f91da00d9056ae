-- `one::read_one` meets its contract: the frame is the chain's; what is shown after the gathering is the record, and its reading is the definition's.
use Rattle.std.proofs.Common.{refl, ap, ◌∙◌}
use Rattle.std.specs.Prelude.{Ok, Err, Some, None}
use Rattle.std.proofs.lemmas.Result.{err_from_is_err_and}
use Rattle.meaning.specs.Editions.{editions}
use Rattle.meaning.specs.Reasons.{frame_of}
use Rattle.meaning.specs.Values.{read}
use Rattle.plain_read.specs.Read.{reading_of}
use Rattle.one.proofs.Reading.{framed, gathered-shown, one-going, one-going-scratch, one-stop}
use Rattle.one.proofs.read_one.Goals as goal

pub returns-in_err-next-clause-value : goal.returns-in_err-next-clause-value
returns-in_err-next-clause-value c =
    let s = c.args in
    let f = frame_of (Err c.in_err-next.field-0.0) in
    let e = framed editions s.e s.ring.now s.head s.tail s.scratch.now f c.allowed.result c.in_err-next.ensures.value c.allowed.ensures in
    let p = err_from_is_err_and c.from_residual.result c.from_residual.ensures.1 in
    rw (p.1, p.2) (one-stop editions s.e s.a s.ring.now s.head s.tail s.scratch.now f e refl).0

pub returns-in_err-next-clause-scratch_after : goal.returns-in_err-next-clause-scratch_after
returns-in_err-next-clause-scratch_after c =
    let s = c.args in
    let f = frame_of (Err c.in_err-next.field-0.0) in
    let e = framed editions s.e s.ring.now s.head s.tail s.scratch.now f c.allowed.result c.in_err-next.ensures.value c.allowed.ensures in
    c.in_err-next.ensures.scratch_after ∙ (one-stop editions s.e s.a s.ring.now s.head s.tail s.scratch.now f e refl).1

pub returns-in_default-clause-value : goal.returns-in_default-clause-value
returns-in_default-clause-value c =
    let s = c.args in
    let v = rw c.in_default.is at c.in_ok-next.ensures.value in
    let f = frame_of (Ok None) in
    let e = framed editions s.e s.ring.now s.head s.tail s.scratch.now f c.allowed.result v c.allowed.ensures in
    (one-stop editions s.e s.a s.ring.now s.head s.tail s.scratch.now f e refl).0

pub returns-in_default-clause-scratch_after : goal.returns-in_default-clause-scratch_after
returns-in_default-clause-scratch_after c =
    let s = c.args in
    let v = rw c.in_default.is at c.in_ok-next.ensures.value in
    let w = rw c.in_default.is at c.in_ok-next.ensures.scratch_after in
    let f = frame_of (Ok None) in
    let e = framed editions s.e s.ring.now s.head s.tail s.scratch.now f c.allowed.result v c.allowed.ensures in
    w ∙ (one-stop editions s.e s.a s.ring.now s.head s.tail s.scratch.now f e refl).1

pub returns-clause-value : goal.returns-clause-value
returns-clause-value c =
    let s = c.args in
    let v = rw c.in-Some.is at c.in_ok-next.ensures.value in
    let w = rw c.in-Some.is at c.in_ok-next.ensures.scratch_after in
    let f = frame_of (Ok (Some c.in-Some.found)) in
    let e = framed editions s.e s.ring.now s.head s.tail s.scratch.now f c.allowed.result v c.allowed.ensures in
    let x = c.record_shown.ensures.result_value ∙ gathered-shown editions s.e s.a s.ring.now s.head s.tail s.scratch.now f e refl _ w in
    one-going editions s.e s.a s.ring.now s.head s.tail s.scratch.now f e refl (reading_of c.read-value.result) (c.read-value.ensures ∙ ap (read editions s.e s.a) x) _ refl

pub returns-clause-scratch_after : goal.returns-clause-scratch_after
returns-clause-scratch_after c =
    let s = c.args in
    let v = rw c.in-Some.is at c.in_ok-next.ensures.value in
    let w = rw c.in-Some.is at c.in_ok-next.ensures.scratch_after in
    let f = frame_of (Ok (Some c.in-Some.found)) in
    let e = framed editions s.e s.ring.now s.head s.tail s.scratch.now f c.allowed.result v c.allowed.ensures in
    w ∙ one-going-scratch editions s.e s.a s.ring.now s.head s.tail s.scratch.now f e refl
