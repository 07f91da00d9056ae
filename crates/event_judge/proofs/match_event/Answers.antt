-- Each test is a row's, in the order of the rows: 20, 21, 27, 26; past them the identifier stands in the table.
use Rattle.std.specs.Prelude.{length}
use native.Mathlib.Omega.{arith}
use borrow.Author.Rules.{rules}
use Rattle.meaning.specs.Editions.{editions, known}
use Rattle.meaning.specs.Records.{kind_of}
use Rattle.event_laws.specs.Answers.{answers-20, answers-21, answers-27, answers-26, answers-found}
use Rattle.event_judge.proofs.match_event.Goals as goal

pub returns-then-kind-k : goal.returns-then-kind-k
unfolding kind_of
returns-then-kind-k c =
    let a = c.args in
    answers-20 (known editions a.e) a.events.now a.r.now c.edition-k.result c.u32_at-kind.result c.edition-k.ensures c.u32_at-kind.ensures.0 c.if-kind-k.true

pub returns-then-k-le16 : goal.returns-then-k-le16
unfolding kind_of
returns-then-k-le16 c =
    let a = c.args in
    answers-21 (known editions a.e) a.events.now a.r.now c.edition-k.result c.u32_at-kind.result c.edition-k.ensures c.u32_at-kind.ensures.0 c.if-kind-k.false c.if-k-le16.true

pub returns-then-r-lt16 : goal.returns-then-r-lt16
unfolding kind_of
returns-then-r-lt16 c =
    let a = c.args in
    answers-27 (known editions a.e) a.events.now a.r.now c.edition-k.result c.u32_at-kind.result c.edition-k.ensures c.u32_at-kind.ensures.0 c.if-kind-k.false c.if-k-le16.false c.if-r-lt16.true

pub identifier_of-requires : goal.identifier_of-requires
unfolding kind_of
identifier_of-requires c = (c.if-r-lt16.false, c.u32_at-kind.ensures.0)

pub returns-in_default : goal.returns-in_default
unfolding kind_of
returns-in_default c =
    let a = c.args in
    answers-26 (known editions a.e) a.events.now a.r.now c.edition-k.result c.u32_at-kind.result c.edition-k.ensures c.u32_at-kind.ensures.0 c.if-kind-k.false c.if-k-le16.false c.if-r-lt16.false c.identifier_of.result (length a.events.now) c.identifier_of.ensures c.in_default.ensures.value (omega arith)

pub returns : goal.returns
unfolding kind_of
returns c =
    let a = c.args in
    answers-found (known editions a.e) a.events.now a.r.now c.edition-k.result c.u32_at-kind.result c.edition-k.ensures c.u32_at-kind.ensures.0 c.if-kind-k.false c.if-k-le16.false c.if-r-lt16.false c.identifier_of.result c.in-Some.index c.identifier_of.ensures c.in-Some.ensures.value (omega (arith, c.in-Some.ensures.found))
