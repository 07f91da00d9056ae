-- The pass that puts bytes: what it asks and leaves are `Ready` and `Placed` of crate write_puts, with the items' words and one more there, and words, source
-- and buffer stay the same ones. Assumes nothing.
use Rattle.std.specs.Prelude.{◌≡◌, refl, List, ◌++◌, ℕ, ◌+◌, ◌<◌, length}
use Rattle.std.proofs.Common.{sym, ap, ◌∙◌, subst, arith}
use Rattle.meaning.specs.declared.Item.{Item}
use Rattle.meaning.specs.Values.{width}
use Rattle.fills.specs.Chains.{width-append}
use Rattle.pass.specs.Laws.{PassLaws}
use Rattle.write_puts.specs.Puts.{Ready, Placed, placed-none, placed-join, ready-first, ready-after}
use Rattle.put_chains.specs.declared.Put.{Put}

abbrev pub MayPut : List Item → Put → ℕ → Type 0
MayPut is p w = Ready is p.source.now p.words.now w p.state p.buffer.now × (w + width is < length p.words.now)

abbrev pub Laid : List Item → Put → ℕ → Put → Type 0
Laid is p w q =
    Placed is p.source.now p.words.now w p.state p.buffer.now q.buffer.now q.state
    × (q.words ≡ p.words) × (q.source ≡ p.source) × (q.buffer.ghost_name ≡ p.buffer.ghost_name)

module _ (is js : List Item) (p q : Put) (w : ℕ) (r : MayPut (is ++ js) p w) (d : Laid is p w q) where
  after : MayPut js q (w + width is)
  after =
      let e = width-append is js in
      let l = ap (λ (b : _). length b.now) d.1 in
      let n = r.1 in
      let a : Ready js p.source.now p.words.now (w + width is) q.state q.buffer.now = ready-after is js d.0 r.0 in
      let b : Ready js q.source.now p.words.now (w + width is) q.state q.buffer.now =
      subst (λ (b : _). Ready js b.now p.words.now (w + width is) q.state q.buffer.now) (sym d.2) a in
      (subst (λ (b : _). Ready js q.source.now b.now (w + width is) q.state q.buffer.now) (sym d.1) b, omega (arith, n, e, l))

  both : (t : Put) → Laid js q (w + width is) t → Laid (is ++ js) p w t
  both t e =
      let f : Placed js p.source.now q.words.now (w + width is) q.state q.buffer.now t.buffer.now t.state =
      subst (λ (b : _). Placed js b.now q.words.now (w + width is) q.state q.buffer.now t.buffer.now t.state) d.2 e.0 in
      let g : Placed js p.source.now p.words.now (w + width is) q.state q.buffer.now t.buffer.now t.state =
      subst (λ (b : _). Placed js p.source.now b.now (w + width is) q.state q.buffer.now t.buffer.now t.state) d.1 f in
      (placed-join is js d.0 g, e.1 ∙ d.1, e.2 ∙ d.2, e.3 ∙ d.3)

pub laws : PassLaws MayPut Laid
laws = record {
  nothing = λ p w r. (placed-none, refl, refl, refl);
  first = λ is js p w r. (ready-first is js r.0, let e = width-append is js in let n = r.1 in omega (arith, n, e));
  after = λ is js p q w r d. after is js p q w r d;
  both = λ is js p q t w r d e. both is js p q w r d t e;
}
