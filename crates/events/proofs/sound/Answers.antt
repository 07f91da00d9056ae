-- Too few, too many, one without its marks; then identifiers that rise are distinct, and the others are asked.
use mathlib.Core.Path.{sym, ◌∙◌}
use native.Mathlib.Omega.{arith}
use Rattle.meaning.specs.Events.{identifiers}
use Rattle.event_laws.specs.Rising.{rises-distinct}
use Rattle.event_laws.specs.Sound.{sound-short, sound-long, sound-unmarked, sound-by}
use Rattle.events.proofs.sound.Goals as goal

pub returns-then-n-lt1 : goal.returns-then-n-lt1
returns-then-n-lt1 c = let a = c.args in sym (sound-short a.limit a.events.now (omega (arith, c.if-n-lt1.true)))

pub returns-then-limit-n : goal.returns-then-limit-n
returns-then-limit-n c = let a = c.args in sym (sound-long a.limit a.events.now (omega (arith, c.if-limit-n.true)))

pub returns-then-not-all_marked : goal.returns-then-not-all_marked
returns-then-not-all_marked c = let a = c.args in sym (sound-unmarked a.limit a.events.now (sym c.all_marked.ensures ∙ c.if-not-all_marked.true))

pub returns-then-rises : goal.returns-then-rises
returns-then-rises c =
    let a = c.args in
    sym (sound-by a.limit a.events.now (omega arith) (omega arith) (sym c.all_marked.ensures ∙ c.if-not-all_marked.false)
    ∙ rises-distinct (identifiers a.events.now) (sym c.rises.ensures ∙ c.if-rises.true))

pub returns : goal.returns
returns c =
    let a = c.args in
    c.apart.ensures ∙ sym (sound-by a.limit a.events.now (omega arith) (omega arith) (sym c.all_marked.ensures ∙ c.if-not-all_marked.false))
