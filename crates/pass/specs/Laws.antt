-- A pass over a record's items: what a step over a list of items asks and leaves, the laws of the two, and how pieces join. Assumes nothing.
use Rattle.std.specs.Prelude.{◌≡◌, Bool, List, [], ◌∷◌, ◌++◌, ℕ, ◌+◌}
use Rattle.std.proofs.Common.{sym, subst, add-zero}
use Rattle.meaning.specs.declared.Item.{Item}
use Rattle.meaning.specs.declared.Shape.{Shape}
use Rattle.meaning.specs.Schema.{item}
use Rattle.meaning.specs.Values.{words_of, width}

-- by the number of the first word: nothing asks nothing; of two lists one after the other the first may begin, then the second, and both are done
pub record PassLaws {S : Type 0} (Ready : List Item → S → ℕ → Type 0) (Done : List Item → S → ℕ → S → Type 0) : Type 0 where
  pub nothing : (p : S) (w : ℕ) → Ready [] p w → Done [] p w p
  pub first : (is js : List Item) (p : S) (w : ℕ) → Ready (is ++ js) p w → Ready is p w
  pub after : (is js : List Item) (p q : S) (w : ℕ) → Ready (is ++ js) p w → Done is p w q → Ready js q (w + width is)
  pub both : (is js : List Item) (p q r : S) (w : ℕ) → Ready (is ++ js) p w → Done is p w q → Done js q (w + width is) r → Done (is ++ js) p w r

-- what is left to do of `all`, which began at p₀ and the word w₀
pub record Going {S : Type 0} (Ready : List Item → S → ℕ → Type 0) (Done : List Item → S → ℕ → S → Type 0) (is : List Item) (p : S) (w : ℕ) (all : List Item) (p₀ : S) (w₀ : ℕ) : Type 0 where
  pub ready : Ready is p w
  pub last : (r : S) → Done is p w r → Done all p₀ w₀ r

module _ {S : Type 0} {Ready : List Item → S → ℕ → Type 0} {Done : List Item → S → ℕ → S → Type 0} where
  pub start : {is : List Item} {p : S} {w : ℕ} → Ready is p w → Going Ready Done is p w is p w
  start r = record { ready = r; last = λ q d. d }

  module _ (l : PassLaws Ready Done) {all : List Item} {p₀ : S} {w₀ : ℕ} where
    pub done : {p : S} {w : ℕ} → Going Ready Done [] p w all p₀ w₀ → Done all p₀ w₀ p
    done {p} {w} g = g.last p (l.nothing p w g.ready)

    module _ (is js : List Item) {p : S} {w : ℕ} (g : Going Ready Done (is ++ js) p w all p₀ w₀) where
      pub head : Ready is p w
      head = l.first is js p w g.ready

      pub next : {q : S} → Done is p w q → Going Ready Done js q (w + width is) all p₀ w₀
      next {q} d = record { ready = l.after is js p q w g.ready d; last = λ r e. g.last r (l.both is js p q r w g.ready d e) }

    -- one item, whose guard was found by the code
    module _ {on t : Bool} {sh : Shape} {is : List Item} {p : S} {w : ℕ} (e : t ≡ on) (g : Going Ready Done (item on sh ∷ is) p w all p₀ w₀) where
      as-found : Going Ready Done ((item t sh ∷ []) ++ is) p w all p₀ w₀
      as-found = rw e g

      pub head₁ : Ready (item t sh ∷ []) p w
      head₁ = head (item t sh ∷ []) is as-found

      pub next₁ : {q : S} → Done (item t sh ∷ []) p w q → Going Ready Done is q (w + words_of sh) all p₀ w₀
      unfolding width
      next₁ d = rw (sym (add-zero (words_of sh))) (next (item t sh ∷ []) is as-found d)

-- of equal lists
pub ready-as : {S : Type 0} (Ready : List Item → S → ℕ → Type 0) {is js : List Item} {p : S} {w : ℕ} → is ≡ js → Ready is p w → Ready js p w
ready-as Ready {is} {js} {p} {w} e r = subst (λ (l : List Item). Ready l p w) e r

pub done-as : {S : Type 0} (Done : List Item → S → ℕ → S → Type 0) {is js : List Item} {p q : S} {w : ℕ} → is ≡ js → Done is p w q → Done js p w q
done-as Done {is} {js} {p} {q} {w} e d = subst (λ (l : List Item). Done l p w q) e d
