-- `writer_words::after` meets its contract: the two counts are `cond`s of the table of tellings. Assumes nothing.
use Rattle.std.proofs.lemmas.Bool.{not-true, not-false}
use Rattle.writer_words.proofs.Laws.{after_off, after_on, after_same}
use Rattle.writer_words.proofs.after.Goals as goal

pub returns-then-not-i : goal.returns-then-not-i
returns-then-not-i c = let a = c.args in after_off a.ws.now a.t a.i _ c.words_of.ensures.0 (not-true a.i.on c.if-not-i.true)

pub returns-in-LastCount : goal.returns-in-LastCount
returns-in-LastCount c =
    let a = c.args in
    after_on a.ws.now a.t a.i _ c.words_of.ensures.0 (not-false a.i.on c.if-not-i.false) _ _ c.in-LastCount.ensures c.word.ensures

pub returns-in-NextCount : goal.returns-in-NextCount
returns-in-NextCount c =
    let a = c.args in
    after_on a.ws.now a.t a.i _ c.words_of.ensures.0 (not-false a.i.on c.if-not-i.false) _ _ c.in-NextCount.ensures c.word-in-NextCount.ensures

pub returns-in-Unspoken : goal.returns-in-Unspoken
returns-in-Unspoken c =
    let a = c.args in
    after_same a.ws.now a.t a.i _ c.words_of.ensures.0 (not-false a.i.on c.if-not-i.false) c.wording_of.result c.wording_of.ensures c.in-Unspoken.is
