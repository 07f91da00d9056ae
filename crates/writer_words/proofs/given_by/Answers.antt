-- `writer_words::given_by` meets its contract: each arm is a row of the table of tellings, and `Laws` says that the table is the definitions' slot. Assumes nothing.
use Rattle.std.proofs.Common.{◌∙◌}
use Rattle.writer_words.proofs.Laws.{given_is, given-number, counts-on, counts-off, given-last, given-before, given-own}
use Rattle.writer_words.proofs.given_by.Goals as goal
use Rattle.writer_words.proofs.given_by.Goals.{then-i, else-i}

pub returns-in-Unspoken : goal.returns-in-Unspoken
returns-in-Unspoken c = let a = c.args in given_is a.ws.now a.t a.i _ c.in-Unspoken.ensures

pub returns-in-Plain : goal.returns-in-Plain
returns-in-Plain c =
    let a = c.args in
    given-number a.ws.now a.t a.i c.wording_of.result _ c.wording_of.ensures c.in-Plain.is c.word-first.ensures

pub returns-in-Listing-Last : goal.returns-in-Listing-Last
returns-in-Listing-Last c =
    let a = c.args in
    let tells = rw c.in-Listing-Last.field-0-is at c.in-Listing-Last.ensures in
    elim c.if-i.branch [
      | then-i w ↦ given-last a.ws.now a.t a.i _ _ tells c.word-first.ensures (counts-on a.t _ a.i.on w.if-i.true w.counts-is).0
      | else-i w ↦ given-last a.ws.now a.t a.i _ _ tells c.word-first.ensures (counts-off a.t _ a.i.on w.if-i.false (w.counts-is ∙ w.start_at-counts.ensures)).0
    ]

pub returns-in-Listing-Before : goal.returns-in-Listing-Before
returns-in-Listing-Before c =
    let a = c.args in
    let tells = rw c.in-Listing-Before.field-0-is at c.in-Listing-Before.ensures in
    elim c.if-i.branch [
      | then-i w ↦ given-before a.ws.now a.t a.i _ _ tells c.word-first.ensures (counts-on a.t _ a.i.on w.if-i.true w.counts-is).1
      | else-i w ↦ given-before a.ws.now a.t a.i _ _ tells c.word-first.ensures (counts-off a.t _ a.i.on w.if-i.false (w.counts-is ∙ w.start_at-counts.ensures)).1
    ]

pub returns-in-Listing-Own : goal.returns-in-Listing-Own
returns-in-Listing-Own c =
    let a = c.args in
    given-own a.ws.now a.t a.i _ _ (rw c.in-Listing-Own.field-0-is at c.in-Listing-Own.ensures) c.word-first.ensures c.word.ensures
