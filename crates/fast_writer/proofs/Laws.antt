-- The chains' ends are the plain walks': what they say of the size, and of the bytes. Assumes nothing.
use mathlib.Core.Path.{◌≡◌, refl, sym, ap, ◌∙◌, subst}
use mathlib.Core.Bool.{Bool, true, false, cond, ◌&&◌}
use mathlib.Core.List.{List, [], ◌∷◌, ◌++◌, append-nil}
use Prim.Native.Nat.{ℕ, zero, suc, ◌+◌, ◌-◌, ◌%◌, ◌<◌, ◌≤◌}
use native.Mathlib.Omega.{arith}
use lib.ListN.{length, drop, get_or, drop_of_length-le}
use lib.Dec.{leb, eqb}
use Rattle.meaning.specs.declared.Attributes.{Attributes}
use Rattle.meaning.specs.States.{Cursor}
use Rattle.meaning.specs.declared.Item.{Item}
use Rattle.meaning.specs.Bytes.{all_zero, spell, put}
use Rattle.meaning.specs.Writing.{next}
use Rattle.meaning.specs.Records.{fixed, origin, room, written}
use Rattle.meaning.specs.Values.{Slot, held, any_beyond, slots_told, spare_by, body_words, trail_words}
use Rattle.writer_words.specs.Tellings.{start_at}
use Rattle.writer_items.specs.Tries.{unfit, good}
use Rattle.writer_parts.specs.Parts.{try_items, slots_from}
use Rattle.writer_parts.specs.Turns.{good-parts, no-state}
use Rattle.writer_record.specs.Measures.{value_meant, measured, size_meant, bytes_meant}
use Rattle.writer_record.specs.Measuring.{bad-body, bad-tail, end-at, long-enough, measured-yes, measured-no}
use Rattle.writer_record.specs.Records.{Sized, sized, all-put}
use Rattle.writer.specs.Known.{passes}
use Rattle.writer.specs.Answers.{Known, known-41, known-42, known-40, known-0}
use Rattle.write_fits.specs.declared.Walked.{Walked}
use Rattle.write_fits.specs.Steps.{walked, state_of, try_from, write_from, Tried}
use Rattle.write_puts.specs.Puts.{Ready, Placed, all_placed_lem}

-- before the first item of a part
abbrev pub begin : ℕ → Walked
begin at = walked at 0 0 0 0 false

-- ---- a chain that tests

module _ {is : List Item} {src ws : List ℕ} {w : ℕ} {c c' : Walked} (t : Tried is src ws w c c') where
  pub chain-state : c'.bad ≡ false → try_from src ws is w c ≡ state_of c'
  unfolding try_from try_items
  chain-state h = ap (λ (l : List Item). try_from src ws l w c) (sym (append-nil is)) ∙ t.fits h []

  pub chain-unfit : c.bad ≡ false → c'.bad ≡ true → try_from src ws is w c ≡ unfit
  chain-unfit b h = ap (λ (l : List Item). try_from src ws l w c) (sym (append-nil is)) ∙ t.misfits b h []

-- where every item is good none passes the source's end
tried-inside : (src : List ℕ) (is : List Item) (ss : List Slot) (c : Cursor) → (try_items src is ss c).why ≡ 0 → any_beyond src is ss ≡ false
unfolding try_items any_beyond
tried-inside src [] ss c z = refl
tried-inside src (i ∷ is) [] c z = refl
tried-inside src (i ∷ is) (s ∷ ss) c z =
    let u = no-state (good src i s c) (try_items src is ss (next i (held src i s) c)) z in
    rw (good-parts src i s c u.0).1 (tried-inside src is ss (next i (held src i s) c) (ap (λ (x : Cursor). x.why) (sym u.1) ∙ z))

module _ (is ts : List Item) (src ws : List ℕ) (plain : fixed ts ≡ true) where
  abbrev past41 : Bool
  past41 = any_beyond src is (slots_told is (drop body_words ws) 0 0)

  abbrev answered : ℕ
  answered = cond past41 0 (measured is ts src ws)

  size_none : (past41 ≡ false → 0 ≡ measured is ts src ws) → 0 ≡ answered
  size_none f = go past41 f
    where
      go : (b : Bool) → (b ≡ false → 0 ≡ measured is ts src ws) → 0 ≡ cond b 0 (measured is ts src ws)
      go true g = refl
      go false g = g refl

  module _ {c₀ c₁ : Walked} (e₀ : c₀ ≡ begin 8) (t₁ : Tried is src ws body_words c₀ c₁) where
    from-eight : Tried is src ws body_words (begin 8) c₁
    from-eight = subst (λ (x : Walked). Tried is src ws body_words x c₁) e₀ t₁

    pub body-bad : c₁.bad ≡ true → 0 ≡ answered
    unfolding try_from
    body-bad h = size_none (λ p. bad-body is ts src ws plain p unfit (sym (chain-unfit from-eight refl h)) (λ z. omega (arith, z)))

    module _ (g₁ : c₁.bad ≡ false) where
      body_is : state_of c₁ ≡ try_items src is (slots_from is (start_at body_words) ws) (origin 8)
      unfolding try_from
      body_is = sym (chain-state from-eight g₁)

      inside : past41 ≡ false
      unfolding slots_from
      inside = tried-inside src is (slots_from is (start_at body_words) ws) (origin 8) (ap (λ (x : Cursor). x.why) (sym body_is))

      module _ {d₀ d₁ : Walked} (f₀ : d₀ ≡ begin c₁.at) (t₂ : Tried ts src ws trail_words d₀ d₁) where
        from-there : Tried ts src ws trail_words (begin c₁.at) d₁
        from-there = subst (λ (x : Walked). Tried ts src ws trail_words x d₁) f₀ t₂

        pub tail-bad : d₁.bad ≡ true → 0 ≡ answered
        unfolding try_from
        tail-bad h = size_none (λ p. bad-tail is ts src ws plain p (state_of c₁) body_is refl unfit (sym (chain-unfit from-there refl h)) (λ z. omega (arith, z)))

        module _ (g₂ : d₁.bad ≡ false) where
          tail-is : state_of d₁ ≡ try_items src ts (slots_from ts (start_at trail_words) ws) (origin c₁.at)
          unfolding try_from
          tail-is = sym (chain-state from-there g₂)

          -- a record has a header
          pub size-some : 0 < d₁.at
          size-some =
              let e = end-at is ts src ws plain inside (state_of c₁) body_is refl (state_of d₁) tail-is refl t₁.place in
              let l = long-enough is ts (value_meant is ts src ws) in
              omega (arith, e, l)

          module _ (kind misc size : ℕ) (spare : Bool) (eₖ : kind ≡ get_or ws 0 0) (eₘ : misc ≡ get_or ws 1 0) (eₛ : size ≡ get_or ws 2 0) (eₚ : spare ≡ all_zero (spare_by is ts ws)) where
            abbrev tests : Bool
            tests = ((leb kind 4294967295 && leb misc 65535) && (eqb size d₁.at && eqb (size % 8) 0)) && spare

            pub size-yes : tests ≡ true → d₁.at ≡ answered
            size-yes h =
                measured-yes is ts src ws plain inside (state_of c₁) body_is refl (state_of d₁) tail-is refl t₁.place kind misc size spare eₖ eₘ eₛ eₚ h
                ∙ ap (λ (b : Bool). cond b 0 (measured is ts src ws)) (sym inside)

            pub size-no : tests ≡ false → 0 ≡ answered
            size-no h =
                size_none (λ p. measured-no is ts src ws plain p (state_of c₁) body_is refl (state_of d₁) tail-is refl t₁.place kind misc size spare eₖ eₘ eₛ eₚ h)

-- a size that was measured is the size, and nothing passes the source's end
pub measured-some : (b : Bool) (n m : ℕ) → m ≡ cond b 0 n → (m ≡ 0 → ⊥) → (b ≡ false) × (m ≡ n)
measured-some true n m e z = absurd (z e)
measured-some false n m e z = (refl, e)

-- ---- a chain that puts

ready-all : {is : List Item} {src ws : List ℕ} {w : ℕ} {c : Walked} {b : List ℕ} → (try_from src ws is w c).why ≡ 0 → (try_from src ws is w c).at ≤ length b → Ready is src ws w c b
ready-all {is} {src} {ws} {w} {c} {b} f s = record {
  rest = [];
  fine = ap (λ (l : List Item). (try_from src ws l w c).why) (append-nil is) ∙ f;
  space = subst (λ (l : List Item). (try_from src ws l w c).at ≤ length b) (sym (append-nil is)) s;
}

placed-state : {is : List Item} {src ws : List ℕ} {w : ℕ} {c c' : Walked} {b b' : List ℕ} → Placed is src ws w c b b' c' → try_from src ws is w c ≡ state_of c'
unfolding try_from try_items
placed-state {is} {src} {ws} {w} {c} t = ap (λ (l : List Item). try_from src ws l w c) (sym (append-nil is)) ∙ t.same []

module _ (is ts : List Item) (src ws : List ℕ) (plain : fixed ts ≡ true) (inside : any_beyond src is (slots_told is (drop body_words ws) 0 0) ≡ false) (end : ℕ)
    (e : end ≡ measured is ts src ws) (some : 0 < end) (b : List ℕ) (h : end ≤ length b) where
  size : Sized is ts src ws plain inside end e some
  size = sized is ts src ws plain inside end e some

  pub eight_fits : 8 ≤ length b
  eight_fits = let k = size.before in omega (arith, k, h)

  module _ {b₁ : List ℕ} {c₀ : Walked} (e₀ : c₀ ≡ begin 8) (e₁ : b₁ ≡ put b 0 (spell 4 (get_or ws 0 0) ++ (spell 2 (get_or ws 1 0) ++ spell 2 (get_or ws 2 0)))) (l₁ : length b₁ ≡ length b) where
    pub body-ready : Ready is src ws body_words c₀ b₁
    unfolding try_from
    body-ready =
        let q = size.body_end in
        subst (λ (x : Walked). Ready is src ws body_words x b₁) (sym e₀) (ready-all size.body-why (omega (arith, q, h, l₁)))

    module _ {b₂ : List ℕ} {d d₀ : Walked} (p : Placed is src ws body_words c₀ b₁ b₂ d) (f₀ : d₀ ≡ begin d.at) where
      placed-eight : Placed is src ws body_words (begin 8) b₁ b₂ d
      placed-eight = subst (λ (x : Walked). Placed is src ws body_words x b₁ b₂ d) e₀ p

      there : d.at ≡ end - room ts
      unfolding try_from
      there = ap (λ (x : Cursor). x.at) (sym (placed-state placed-eight)) ∙ size.body_end

      start_is : d₀ ≡ begin (end - room ts)
      start_is = f₀ ∙ ap begin there

      second : b₂ ≡ put b₁ 8 (write_from src ws is body_words (begin 8))
      unfolding try_from
      second = let q = size.body_end in all_placed_lem placed-eight size.body-why (omega (arith, q, h, l₁))

      pub tail-ready : Ready ts src ws trail_words d₀ b₂
      unfolding try_from
      tail-ready =
          let q = size.tail-end in
          let l = p.long in
          subst (λ (x : Walked). Ready ts src ws trail_words x b₂) (sym start_is) (ready-all size.tail-why (omega (arith, q, h, l₁, l)))

      module _ {b₃ : List ℕ} {g : Walked} (r : Placed ts src ws trail_words d₀ b₂ b₃ g) where
        third : b₃ ≡ put b₂ (end - room ts) (write_from src ws ts trail_words (begin (end - room ts)))
        unfolding try_from
        third =
            let q = size.tail-end in
            let l = p.long in
            all_placed_lem (subst (λ (x : Walked). Placed ts src ws trail_words x b₂ b₃ g) start_is r) size.tail-why (omega (arith, q, h, l₁, l))

        pub record-put : b₃ ≡ put b 0 (written is ts (value_meant is ts src ws))
        unfolding write_from value_meant slots_from
        record-put = all-put is ts src ws plain inside end e some b b₁ b₂ b₃ h e₁ second third

-- ---- the words that are zero

-- zero so far, and the rest decides
abbrev pub zero_so_far : List ℕ → ℕ → Bool → Type 0
zero_so_far xs k ok = ok && all_zero (drop k xs) ≡ all_zero xs

zero_head : (xs : List ℕ) (k : ℕ) → k < length xs → all_zero (drop k xs) ≡ eqb (get_or xs k 0) 0 && all_zero (drop (k + 1) xs)
unfolding all_zero
zero_head [] k h = absurd (omega arith)
zero_head (x ∷ xs) zero h = refl
zero_head (x ∷ xs) (suc k) h =
    let e : suc (k + 1) ≡ suc k + 1 = omega arith in
    zero_head xs k (omega arith) ∙ ap (λ (n : ℕ). eqb (get_or xs k 0) 0 && all_zero (drop n (x ∷ xs))) e

pub zero-next : (xs : List ℕ) (k : ℕ) (ok r : Bool) → zero_so_far xs k ok → k < length xs → r ≡ eqb (get_or xs k 0) 0 → zero_so_far xs (k + 1) (ok && r)
zero-next xs k ok r h l e =
    go ok r (all_zero (drop (k + 1) xs)) ∙ ap (λ (b : Bool). ok && b) (ap (λ (b : Bool). b && all_zero (drop (k + 1) xs)) e ∙ sym (zero_head xs k l)) ∙ h
  where
    go : (a b c : Bool) → (a && b) && c ≡ a && (b && c)
    go true b c = refl
    go false b c = refl

pub zero-all : (xs : List ℕ) (k : ℕ) (ok : Bool) → zero_so_far xs k ok → length xs ≤ k → ok ≡ all_zero xs
unfolding all_zero
zero-all xs k ok h l = go ok ∙ ap (λ (b : Bool). ok && b) (sym (ap all_zero (drop_of_length-le xs l))) ∙ h
  where
    go : (b : Bool) → b ≡ b && true
    go true = refl
    go false = refl

-- ---- the answers

module _ (src ws buffer : List ℕ) (a : Attributes) (kind misc : ℕ) (end : ℕ) (e : end ≡ cond (passes src ws a kind misc) 0 (size_meant src ws a kind misc)) where
  -- nothing was measured
  pub known-refused : (r : ℕ) → r ≡ cond (passes src ws a kind misc) 41 42 → end ≡ 0 → Known src ws buffer a kind misc r buffer
  known-refused r eᵣ z = go (passes src ws a kind misc) refl
    where
      go : (b : Bool) → passes src ws a kind misc ≡ b → Known src ws buffer a kind misc r buffer
      go true h =
          subst (λ (x : ℕ). Known src ws buffer a kind misc x buffer) (sym (eᵣ ∙ ap (λ (b : Bool). cond b 41 42) h)) (known-41 src ws buffer a kind misc true h refl)
      go false h =
          subst (λ (x : ℕ). Known src ws buffer a kind misc x buffer) (sym (eᵣ ∙ ap (λ (b : Bool). cond b 41 42) h))
          (known-42 src ws buffer a kind misc false h refl end (e ∙ ap (λ (b : Bool). cond b 0 (size_meant src ws a kind misc)) h) z)

  module _ (n : end ≡ 0 → ⊥) where
    pub measured-inside : passes src ws a kind misc ≡ false
    measured-inside = (measured-some (passes src ws a kind misc) (size_meant src ws a kind misc) end e n).0

    pub measured-size : end ≡ size_meant src ws a kind misc
    measured-size = (measured-some (passes src ws a kind misc) (size_meant src ws a kind misc) end e n).1

    pub known_small : length buffer < end → Known src ws buffer a kind misc 40 buffer
    known_small h = known-40 src ws buffer a kind misc false measured-inside refl end measured-size n h

    pub known_written : end ≤ length buffer → (b : List ℕ) → b ≡ put buffer 0 (bytes_meant src ws a kind misc) → Known src ws buffer a kind misc 0 b
    known_written h b q = known-0 src ws buffer a kind misc false measured-inside refl end measured-size n h b q
