-- The pass that fills words: what it asks and leaves are `Ready` and `Filling` of crate fills, and that record and lent words stay the same ones.
-- Assumes nothing.
use Rattle.std.specs.Prelude.{◌≡◌, refl, List, ◌++◌, ℕ, ◌+◌}
use Rattle.std.proofs.Common.{sym, ◌∙◌, subst}
use Rattle.meaning.specs.declared.Item.{Item}
use Rattle.meaning.specs.Reasons.{cursor_of}
use Rattle.meaning.specs.Values.{width}
use Rattle.fills.specs.Chains.{Ready, Filling, start, done, head, next, last}
use Rattle.pass.specs.Laws.{PassLaws}
use Rattle.chains.specs.declared.Fill.{Fill}

abbrev pub MayFill : List Item → Fill → ℕ → Type 0
MayFill is p w = Ready is p.bytes.now (cursor_of p.spot) p.words.now w

abbrev pub Filled : List Item → Fill → ℕ → Fill → Type 0
Filled is p w q =
    Filling is p.bytes.now (cursor_of p.spot) p.words.now w q.words.now (cursor_of q.spot)
    × (q.bytes ≡ p.bytes) × (q.words.ghost_name ≡ p.words.ghost_name)

module _ (is js : List Item) (p q : Fill) (w : ℕ) (r : MayFill (is ++ js) p w) (d : Filled is p w q) where
  after : MayFill js q (w + width is)
  after = subst (λ (b : _). Ready js b.now (cursor_of q.spot) q.words.now (w + width is)) (sym d.1) (next is js (start r) d.0).ready

  both : (t : Fill) → Filled js q (w + width is) t → Filled (is ++ js) p w t
  both t e =
      let f : Filling js p.bytes.now (cursor_of q.spot) q.words.now (w + width is) t.words.now (cursor_of t.spot) =
      subst (λ (b : _). Filling js b.now (cursor_of q.spot) q.words.now (w + width is) t.words.now (cursor_of t.spot)) d.1 e.0 in
      (last (next is js (start r) d.0) f, e.1 ∙ d.1, e.2 ∙ d.2)

pub laws : PassLaws MayFill Filled
laws = record {
  nothing = λ p w r. (done (start r), refl, refl);
  first = λ is js p w r. head is js (start r);
  after = λ is js p q w r d. after is js p q w r d;
  both = λ is js p q t w r d e. both is js p q w r d t e;
}
