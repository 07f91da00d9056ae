-- Straight code that puts the bytes of items one after the other: what it asks for, what it leaves, and how two pieces join. Assumes nothing.
use Rattle.std.specs.Prelude.{◌≡◌, refl, Bool, List, [], ◌∷◌, ◌++◌, ℕ, ◌+◌, ◌≤◌, length}
use Rattle.std.proofs.Common.{sym, ap, ◌∙◌, append_assoc, append-nil, add-zero, arith}
use Rattle.std.proofs.Math.Path.{subst}
use Rattle.meaning.specs.States.{Cursor}
use Rattle.meaning.specs.declared.Item.{Item}
use Rattle.meaning.specs.declared.Shape.{Shape}
use Rattle.meaning.specs.Bytes.{put}
use Rattle.meaning.specs.Schema.{item}
use Rattle.meaning.specs.Writing.{write}
use Rattle.meaning.specs.Values.{words_of, width}
use Rattle.laws.specs.Put.{put-nil}
use Rattle.writer_parts.specs.Parts.{try_items}
use Rattle.write_fits.specs.declared.Walked.{Walked}
use Rattle.fills.specs.Chains.{width-append}
use Rattle.write_fits.specs.Steps.{try_from, write_from}

-- the items fit, with what comes after them, and there is room for all of it
pub record Ready (is : List Item) (src ws : List ℕ) (w : ℕ) (c : Walked) (b : List ℕ) : Type 0 where
  pub rest : List Item
  pub fine : (try_from src ws (is ++ rest) w c).why ≡ 0
  pub space : (try_from src ws (is ++ rest) w c).at ≤ length b

-- the items' bytes are put: what is still to come, put where the state says, makes the whole
pub record Placed (is : List Item) (src ws : List ℕ) (w : ℕ) (c : Walked) (b b' : List ℕ) (c' : Walked) : Type 0 where
  pub same : (js : List Item) → try_from src ws (is ++ js) w c ≡ try_from src ws js (w + width is) c'
  pub puts : (js : List Item) → (try_from src ws (is ++ js) w c).why ≡ 0 → (try_from src ws (is ++ js) w c).at ≤ length b
      → put b c.at (write_from src ws (is ++ js) w c) ≡ put b' c'.at (write_from src ws js (w + width is) c')
  pub long : length b' ≡ length b

-- ---- one piece after the other

pub placed-none : {src ws : List ℕ} {w : ℕ} {c : Walked} {b : List ℕ} → Placed [] src ws w c b b c
unfolding width
placed-none {src} {ws} {w} {c} {b} = record {
  same = λ js. ap (λ (k : ℕ). try_from src ws js k c) (sym (add-zero w));
  puts = λ js f s. ap (λ (k : ℕ). put b c.at (write_from src ws js k c)) (sym (add-zero w));
  long = refl;
}

module _ (is js : List Item) {src ws : List ℕ} {w : ℕ} {c c₁ : Walked} {b b₁ : List ℕ} (t : Placed is src ws w c b b₁ c₁) where
  private-same : (ks : List Item) → try_from src ws ((is ++ js) ++ ks) w c ≡ try_from src ws (js ++ ks) (w + width is) c₁
  private-same ks = ap (λ (l : List Item). try_from src ws l w c) (append_assoc is js ks) ∙ t.same (js ++ ks)

  pub ready-after : Ready (is ++ js) src ws w c b → Ready js src ws (w + width is) c₁ b₁
  ready-after r =
      let e = private-same r.rest in
      let s = r.space in
      let a = ap (λ (x : Cursor). x.at) e in
      let l = t.long in
      record { rest = r.rest; fine = ap (λ (x : Cursor). x.why) (sym e) ∙ r.fine; space = omega (arith, s, a, l) }

  pub placed-join : {c₂ : Walked} {b₂ : List ℕ} → Placed js src ws (w + width is) c₁ b₁ b₂ c₂ → Placed (is ++ js) src ws w c b b₂ c₂
  placed-join {c₂} {b₂} u =
      let h = width-append is js in
      let k : w + width is + width js ≡ w + width (is ++ js) = omega (arith, h) in
      record {
        same = λ ks. private-same ks ∙ u.same ks ∙ ap (λ (n : ℕ). try_from src ws ks n c₂) k;
        puts = λ ks f s.
            let p = append_assoc is js ks in
            let e = private-same ks in
            let a = ap (λ (x : Cursor). x.at) e in
            let l = t.long in
            ap (λ (m : List Item). put b c.at (write_from src ws m w c)) p
            ∙ t.puts (js ++ ks) (ap (λ (m : List Item). (try_from src ws m w c).why) (sym p) ∙ f) (subst (λ (m : List Item). (try_from src ws m w c).at ≤ length b) p s)
            ∙ u.puts ks (ap (λ (x : Cursor). x.why) (sym e) ∙ f) (omega (arith, s, a, l))
            ∙ ap (λ (n : ℕ). put b₂ c₂.at (write_from src ws ks n c₂)) k;
        long = u.long ∙ t.long;
      }

-- the first piece of several
pub ready-first : (is js : List Item) {src ws : List ℕ} {w : ℕ} {c : Walked} {b : List ℕ} → Ready (is ++ js) src ws w c b → Ready is src ws w c b
ready-first is js {src} {ws} {w} {c} {b} r = record {
  rest = js ++ r.rest;
  fine = ap (λ (l : List Item). (try_from src ws l w c).why) (sym (append_assoc is js r.rest)) ∙ r.fine;
  space = subst (λ (l : List Item). (try_from src ws l w c).at ≤ length b) (append_assoc is js r.rest) r.space;
}

-- of equal lists
pub ready-as : {is js : List Item} {src ws : List ℕ} {w : ℕ} {c : Walked} {b : List ℕ} → is ≡ js → Ready is src ws w c b → Ready js src ws w c b
ready-as {is} {js} {src} {ws} {w} {c} {b} e r = subst (λ (l : List Item). Ready l src ws w c b) e r

pub placed-as : {is js : List Item} {src ws : List ℕ} {w : ℕ} {c c' : Walked} {b b' : List ℕ} → is ≡ js → Placed is src ws w c b b' c' → Placed js src ws w c b b' c'
placed-as {is} {js} {src} {ws} {w} {c} {c'} {b} {b'} e t = subst (λ (l : List Item). Placed l src ws w c b b' c') e t

-- ---- one item, whose guard was found by the code

module _ {on t : Bool} {sh : Shape} {js : List Item} {src ws : List ℕ} {w : ℕ} {c : Walked} {b : List ℕ} (e : t ≡ on) (r : Ready (item on sh ∷ js) src ws w c b) where
  pub head₁ : Ready (item t sh ∷ []) src ws w c b
  head₁ = subst (λ (x : Bool). Ready (item x sh ∷ []) src ws w c b) (sym e) (ready-first (item on sh ∷ []) js r)

  pub next₁ : {c₁ : Walked} {b₁ : List ℕ} → Placed (item t sh ∷ []) src ws w c b b₁ c₁ → Ready js src ws (w + words_of sh) c₁ b₁
  unfolding width
  next₁ {c₁} {b₁} p =
      subst (λ (k : ℕ). Ready js src ws (w + k) c₁ b₁) (add-zero (words_of sh))
      (ready-after (item on sh ∷ []) js (subst (λ (x : Bool). Placed (item x sh ∷ []) src ws w c b b₁ c₁) e p) r)

pub placed₁ : {on t : Bool} {sh : Shape} {is : List Item} {src ws : List ℕ} {w : ℕ} {c c₁ c₂ : Walked} {b b₁ b₂ : List ℕ} → t ≡ on → Placed is src ws w c b b₁ c₁
    → Placed (item t sh ∷ []) src ws (w + width is) c₁ b₁ b₂ c₂ → Placed (is ++ (item on sh ∷ [])) src ws w c b b₂ c₂
placed₁ {on} {t} {sh} {is} {src} {ws} {w} {c} {c₁} {c₂} {b} {b₁} {b₂} e p q =
    placed-join is (item on sh ∷ []) p (subst (λ (x : Bool). Placed (item x sh ∷ []) src ws (w + width is) c₁ b₁ b₂ c₂) e q)

-- two pieces whose lists their facts have
pub placed-then : {is js : List Item} {src ws : List ℕ} {w : ℕ} {c c₁ c₂ : Walked} {b b₁ b₂ : List ℕ} → Placed is src ws w c b b₁ c₁
    → Placed js src ws (w + width is) c₁ b₁ b₂ c₂ → Placed (is ++ js) src ws w c b b₂ c₂
placed-then {is} {js} t u = placed-join is js t u

-- all of them: the bytes, put where the state was
pub all_placed_lem : {is : List Item} {src ws : List ℕ} {w : ℕ} {c c' : Walked} {b b' : List ℕ} → Placed is src ws w c b b' c' → (try_from src ws is w c).why ≡ 0
    → (try_from src ws is w c).at ≤ length b → b' ≡ put b c.at (write_from src ws is w c)
unfolding write_from write try_from try_items
all_placed_lem {is} {src} {ws} {w} {c} {c'} {b} {b'} t f s =
    let n = append-nil is in
    let e : try_from src ws (is ++ []) w c ≡ try_from src ws is w c = ap (λ (l : List Item). try_from src ws l w c) n in
    let a = ap (λ (x : Cursor). x.at) e in
    let d = ap (λ (x : Cursor). x.at) (t.same []) in
    let l = t.long in
    sym (put-nil b' c'.at (let z = none-at src ws (w + width is) c' in omega (arith, s, a, d, l, z)))
    ∙ sym (t.puts [] (ap (λ (x : Cursor). x.why) e ∙ f) (omega (arith, s, a)))
    ∙ ap (λ (l : List Item). put b c.at (write_from src ws l w c)) n
  where
    none-at : (src ws : List ℕ) (w : ℕ) (c : Walked) → (try_from src ws [] w c).at ≡ c.at
    none-at src ws w c = refl
