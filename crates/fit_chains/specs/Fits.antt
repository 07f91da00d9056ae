-- The pass that tests words: it asks that the place is one that a record has, and that the items' words and one more are there; it leaves what `Tried` of
-- crate write_fits says, and words and source stay the same ones. Assumes nothing.
use Rattle.std.specs.Prelude.{◌≡◌, refl, List, ◌++◌, ℕ, ◌+◌, ◌<◌, ◌≤◌, length}
use Rattle.std.proofs.Common.{ap, ◌∙◌, subst, arith}
use Rattle.meaning.specs.declared.Item.{Item}
use Rattle.meaning.specs.Values.{width}
use Rattle.fills.specs.Chains.{width-append}
use Rattle.pass.specs.Laws.{PassLaws}
use Rattle.writer_items.specs.Tries.{most_bytes}
use Rattle.write_fits.specs.Steps.{Tried, tried-none, tried-join}
use Rattle.fit_chains.specs.declared.Fit.{Fit}

abbrev pub MayFit : List Item → Fit → ℕ → Type 0
MayFit is p w = (p.state.at ≤ most_bytes) × (w + width is < length p.words.now)

abbrev pub Fitted : List Item → Fit → ℕ → Fit → Type 0
Fitted is p w q = Tried is p.source.now p.words.now w p.state q.state × (q.words ≡ p.words) × (q.source ≡ p.source)

module _ (is js : List Item) (p q : Fit) (w : ℕ) (r : MayFit (is ++ js) p w) (d : Fitted is p w q) where
  after : MayFit js q (w + width is)
  after =
      let e = width-append is js in
      let l = ap (λ (b : _). length b.now) d.1 in
      let n = r.1 in
      (d.0.place, omega (arith, n, e, l))

  both : (t : Fit) → Fitted js q (w + width is) t → Fitted (is ++ js) p w t
  both t e =
      let f : Tried js p.source.now q.words.now (w + width is) q.state t.state =
      subst (λ (b : _). Tried js b.now q.words.now (w + width is) q.state t.state) d.2 e.0 in
      let g : Tried js p.source.now p.words.now (w + width is) q.state t.state =
      subst (λ (b : _). Tried js p.source.now b.now (w + width is) q.state t.state) d.1 f in
      (tried-join is js d.0 g, e.1 ∙ d.1, e.2 ∙ d.2)

pub laws : PassLaws MayFit Fitted
laws = record {
  nothing = λ p w r. (tried-none r.0, refl, refl);
  first = λ is js p w r. (r.0, let e = width-append is js in let n = r.1 in omega (arith, n, e));
  after = λ is js p q w r d. after is js p q w r d;
  both = λ is js p q t w r d e. both is js p q w r d t e;
}
