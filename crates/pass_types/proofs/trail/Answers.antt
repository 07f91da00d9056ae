-- `pass_types::trail` meets its contract: the trailer's items are those that the bits select. Assumes nothing.
use mathlib.Core.Path.{sym, ap, ◌∙◌}
use Rattle.pass.specs.Laws.{ready-as, done-as}
use Rattle.layouts.specs.Lists as lists
use Rattle.layouts.specs.Types.{trailer-is}
use borrow.Author.Rules.{rules}
use Rattle.pass_types.proofs.trail.Goals as goal

pub trailer-requires : goal.trailer-requires
trailer-requires g c =
    ready-as g.P.Pass.Ready (sym (ap lists.trailer c.trailer_bits.ensures ∙ trailer-is c.args.kind c.args.a)) c.requires

pub returns : goal.returns
returns g c = done-as g.P.Pass.Done (ap lists.trailer c.trailer_bits.ensures ∙ trailer-is c.args.kind c.args.a) c.trailer.ensures
