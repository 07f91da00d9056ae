-- `one::read_one_into` meets its contract: the frame is the chain's; what is shown after the gathering is the record, read into the lent words.
use Rattle.std.proofs.Common.{refl, ◌∙◌}
use Rattle.std.specs.Prelude.{Ok, Err, Some, None}
use Rattle.meaning.specs.Editions.{editions}
use Rattle.meaning.specs.Reasons.{frame_of}
use Rattle.one.proofs.Reading.{framed, gathered-shown, one-going-scratch, one-stop, told-stop, told-taken, told-words}
use Rattle.one.proofs.read_one_into.Goals as goal

pub returns-in-Err-clause-value : goal.returns-in-Err-clause-value
returns-in-Err-clause-value c =
    let s = c.args in
    let v = c.in-Err.ensures.value in
    let f = frame_of (Err c.in-Err.reason) in
    let e = framed editions s.e s.ring.now s.head s.tail s.scratch.now f c.allowed.result v c.allowed.ensures in
    c.told_stop.ensures ∙ (told-stop editions s.e s.a s.ring.now s.head s.tail s.scratch.now f e s.words.now refl).0

pub returns-in-Err-clause-scratch_after : goal.returns-in-Err-clause-scratch_after
returns-in-Err-clause-scratch_after c =
    let s = c.args in
    let v = c.in-Err.ensures.value in
    let f = frame_of (Err c.in-Err.reason) in
    let e = framed editions s.e s.ring.now s.head s.tail s.scratch.now f c.allowed.result v c.allowed.ensures in
    c.in-Err.ensures.scratch_after ∙ (one-stop editions s.e s.a s.ring.now s.head s.tail s.scratch.now f e refl).1

pub returns-in-Err-clause-words_after : goal.returns-in-Err-clause-words_after
returns-in-Err-clause-words_after c =
    let s = c.args in
    let v = c.in-Err.ensures.value in
    let f = frame_of (Err c.in-Err.reason) in
    let e = framed editions s.e s.ring.now s.head s.tail s.scratch.now f c.allowed.result v c.allowed.ensures in
    (told-stop editions s.e s.a s.ring.now s.head s.tail s.scratch.now f e s.words.now refl).1

pub returns-in_default-clause-value : goal.returns-in_default-clause-value
returns-in_default-clause-value c =
    let s = c.args in
    let v = rw c.in_default.is at c.in-Ok.ensures.value in
    let f = frame_of (Ok None) in
    let e = framed editions s.e s.ring.now s.head s.tail s.scratch.now f c.allowed.result v c.allowed.ensures in
    c.told_stop-in_default.ensures ∙ (told-stop editions s.e s.a s.ring.now s.head s.tail s.scratch.now f e s.words.now refl).0

pub returns-in_default-clause-scratch_after : goal.returns-in_default-clause-scratch_after
returns-in_default-clause-scratch_after c =
    let s = c.args in
    let v = rw c.in_default.is at c.in-Ok.ensures.value in
    let f = frame_of (Ok None) in
    let e = framed editions s.e s.ring.now s.head s.tail s.scratch.now f c.allowed.result v c.allowed.ensures in
    let w = rw c.in_default.is at c.in-Ok.ensures.scratch_after in
    w ∙ (one-stop editions s.e s.a s.ring.now s.head s.tail s.scratch.now f e refl).1

pub returns-in_default-clause-words_after : goal.returns-in_default-clause-words_after
returns-in_default-clause-words_after c =
    let s = c.args in
    let v = rw c.in_default.is at c.in-Ok.ensures.value in
    let f = frame_of (Ok None) in
    let e = framed editions s.e s.ring.now s.head s.tail s.scratch.now f c.allowed.result v c.allowed.ensures in
    (told-stop editions s.e s.a s.ring.now s.head s.tail s.scratch.now f e s.words.now refl).1

pub returns-clause-value : goal.returns-clause-value
returns-clause-value c =
    let s = c.args in
    let v = rw c.in-Some.is at c.in-Ok.ensures.value in
    let f = frame_of (Ok (Some c.in-Some.found)) in
    let e = framed editions s.e s.ring.now s.head s.tail s.scratch.now f c.allowed.result v c.allowed.ensures in
    let w = rw c.in-Some.is at c.in-Ok.ensures.scratch_after in
    let x = gathered-shown editions s.e s.a s.ring.now s.head s.tail s.scratch.now f e refl _ w in
    c.told_taken.ensures ∙ told-taken editions s.e s.a s.ring.now s.head s.tail s.scratch.now f e s.words.now refl _ refl _ x _ _ (c.answer_number.ensures ∙ c.read_shown-answer.ensures.0) refl

pub returns-clause-scratch_after : goal.returns-clause-scratch_after
returns-clause-scratch_after c =
    let s = c.args in
    let v = rw c.in-Some.is at c.in-Ok.ensures.value in
    let f = frame_of (Ok (Some c.in-Some.found)) in
    let e = framed editions s.e s.ring.now s.head s.tail s.scratch.now f c.allowed.result v c.allowed.ensures in
    let w = rw c.in-Some.is at c.in-Ok.ensures.scratch_after in
    w ∙ one-going-scratch editions s.e s.a s.ring.now s.head s.tail s.scratch.now f e refl

pub returns-clause-words_after : goal.returns-clause-words_after
returns-clause-words_after c =
    let s = c.args in
    let v = rw c.in-Some.is at c.in-Ok.ensures.value in
    let f = frame_of (Ok (Some c.in-Some.found)) in
    let e = framed editions s.e s.ring.now s.head s.tail s.scratch.now f c.allowed.result v c.allowed.ensures in
    let w = rw c.in-Some.is at c.in-Ok.ensures.scratch_after in
    let x = gathered-shown editions s.e s.a s.ring.now s.head s.tail s.scratch.now f e refl _ w in
    c.read_shown-answer.ensures.1 ∙ told-words editions s.e s.a s.ring.now s.head s.tail s.scratch.now f e s.words.now refl _ x
