-- The fields of each type, and a trailer: where all bytes are the same but those that its definition leaves out, they are read alike. Assumes nothing.
use Rattle.std.specs.Prelude.{◌≡◌, Bool, not, ◌&&◌, ◌||◌, length, take}
use Rattle.std.proofs.Math.Path.{refl, sym, ap, subst}
use Rattle.std.proofs.Common.{◌∙◌, arith, eqb-true, le-leb}
use Rattle.std.proofs.Math.Bool.{true, false, cond}
use mathlib.Core.List.{List, [], ◌∷◌, ◌++◌}
use Rattle.std.proofs.Math.Logic.{⊎_elim}
use Prim.Native.Nat.{ℕ, ◌+◌, ◌-◌, ◌*◌, ◌<◌, ◌≤◌}
use Rattle.std.specs.Int.Bits.{bit_and}
use Rattle.std.proofs.Math.Dec.{eqb}
use Rattle.std.proofs.lemmas.Bool.{lt-leb}
use Rattle.meaning.specs.declared.Attributes.{Attributes}
use Rattle.meaning.specs.States.{Cursor}
use Rattle.meaning.specs.declared.Item.{Item}
use Rattle.meaning.specs.declared.Shape.TheVariants.{Number, Ignored, Count, Times, Earlier, Limit, Listed, Pad, Name}
use Rattle.meaning.specs.declared.Width.TheVariants.{W2, W4, W8}
use Rattle.meaning.specs.Bytes.{bit, ones, number_at}
use Rattle.meaning.specs.Items.{cursor, span, rule, holds, counted, before, step, walk}
use Rattle.meaning.specs.Schema.{item, always, selected, u16, u32, u64, sample, sample_first, read_values, sample_lists, sample_last, mmap2, schema, trailer}
use Rattle.meaning.specs.Records.{origin}
use Rattle.laws.specs.Bytes.{apart, and-true, le-or-lt}
use Rattle.laws.specs.Again.{fine}
use Rattle.laws.specs.Counting.{bits_from, eights, eights-ones, two-fours}
use Rattle.laws.specs.Shapes.{shape-in, shape-bad}
use Rattle.blocks.specs.Seen.{walk-append}
use Rattle.blocks.specs.Steady.{one_width, width_of, steady, total, steady-in}
use Rattle.blocks.specs.Blocks.{build_front, prot_flags, count-in, times-in, goes}
use Rattle.twins.specs.Twins.{Twins}
use Rattle.same_parts.specs.Parts.{same_span, same_but_four, around_res, name_same, build_same, text_same, name_at, before_res, body_same}
use Rattle.twins.specs.Same.{trail_bits, trail_before}
use Rattle.twins.specs.Pieces.{read-ignored, read-pad, read-listed, abreast-take, abreast-all, span-abreast, twins-one, twins-append, twins-all, twins-within, front-is, after-fine, twins-around, twins-name}

module _ (s t : List ℕ) (long : length t ≡ length s) where
  -- no byte is ignored
  pub twins-plain : (is : List Item) (from : ℕ) → same_span s t from (length s) ≡ true → Twins s t is (origin from)
  twins-plain is from h = twins-all s t is (origin from) (abreast-all s t from (length s) (span-abreast s t from (length s) long h) refl)

  -- res, where the cpu is selected
  twins-res : (is js : List Item) (from x mask : ℕ) → steady is ≡ true → (bit x 7 ≡ true → total is ≡ ones 64 (bit_and x mask) * 8 + 4)
      → (walk s (is ++ (item (bit x 7) (Ignored 4) ∷ js)) (origin from)).why ≡ 0 → around_res s t x mask from ≡ true
      → Twins s t (is ++ (item (bit x 7) (Ignored 4) ∷ js)) (origin from)
  unfolding around_res
  twins-res is js from x mask w e z h = by (bit x 7) refl h z
    where
      by : (b : Bool) → bit x 7 ≡ b → cond b (same_but_four s t from (from + (ones 64 (bit_and x mask) * 8 + 4))) (same_span s t from (length s)) ≡ true
          → (walk s (is ++ (item b (Ignored 4) ∷ js)) (origin from)).why ≡ 0 → Twins s t (is ++ (item b (Ignored 4) ∷ js)) (origin from)
      by true q h z = twins-around s t is js from (ones 64 (bit_and x mask) * 8 + 4) w (e q) long z h
      by false q h z = twins-plain (is ++ (item false (Ignored 4) ∷ js)) from h

  -- ---- SAMPLE

  abbrev res_front : Attributes → List Item
  res_front a = take 9 (sample_first a)

  abbrev after_res : Attributes → List Item
  after_res a = selected a 8 (Number W8) ∷ (read_values a (bit a.sample 4) ++ (sample_lists a ++ sample_last a))

  before-count : (a : Attributes) → bit a.sample 7 ≡ true → total (res_front a) ≡ ones 64 (bit_and a.sample before_res) * 8 + 4
  unfolding total width_of span bits_from eights
  before-count a h =
      let e : 8 * ones 64 (bit_and a.sample before_res) ≡ eights a.sample (0 ∷ 1 ∷ 2 ∷ 3 ∷ 6 ∷ 9 ∷ 16 ∷ []) = eights-ones a.sample before_res in
      let p = two-fours (bit a.sample 1) in
      rw h (omega (arith, e, p))

  sample-twins : (a : Attributes) → (walk s (sample a) (origin 8)).why ≡ 0 → around_res s t a.sample before_res 8 ≡ true → Twins s t (sample a) (origin 8)
  unfolding steady one_width
  sample-twins a z h = twins-res (res_front a) (after_res a) 8 a.sample before_res refl (before-count a) z h

  -- ---- a trailer

  abbrev trail_front : ℕ → List Item
  trail_front x = item (bit x 1) (Number W4) ∷ item (bit x 1) (Number W4) ∷ item (bit x 2) (Number W8) ∷ item (bit x 6) (Number W8) ∷ item (bit x 9) (Number W8) ∷ item (bit x 7) (Number W4) ∷ []

  trail-count : (x : ℕ) → bit x 7 ≡ true → total (trail_front x) ≡ ones 64 (bit_and x trail_before) * 8 + 4
  unfolding total width_of span bits_from eights
  trail-count x h =
      let e : 8 * ones 64 (bit_and x trail_before) ≡ eights x (1 ∷ 2 ∷ 6 ∷ 9 ∷ []) = eights-ones x trail_before in
      let p = two-fours (bit x 1) in
      rw h (omega (arith, e, p))

  abbrev trail_items : Bool → Bool → ℕ → List Item
  trail_items u v x =
      item (u && not v && bit x 1) (Number W4)
      ∷ item (u && not v && bit x 1) (Number W4)
      ∷ item (u && not v && bit x 2) (Number W8)
      ∷ item (u && not v && bit x 6) (Number W8)
      ∷ item (u && not v && bit x 9) (Number W8)
      ∷ item (u && not v && bit x 7) (Number W4)
      ∷ item (u && not v && bit x 7) (Ignored 4)
      ∷ item (u && not v && bit x 16) (Number W8)
      ∷ []

  none-res : (is : List Item) (end : ℕ) → around_res s t 0 trail_before end ≡ true → Twins s t is (origin end)
  unfolding around_res bit
  none-res is end h = twins-plain is end h

  trail-by : (u v : Bool) (x end : ℕ) → (walk s (trail_items u v x) (origin end)).why ≡ 0 → around_res s t (cond (u && not v) x 0) trail_before end ≡ true → Twins s t (trail_items u v x) (origin end)
  unfolding steady one_width
  trail-by true true x end z h = none-res (trail_items true true x) end h
  trail-by true false x end z h = twins-res (trail_front x) (item (bit x 16) (Number W8) ∷ []) end x trail_before refl (trail-count x) z h
  trail-by false v x end z h = none-res (trail_items false v x) end h

  pub trail-twins : (kind : ℕ) (a : Attributes) (end : ℕ) → (walk s (trailer kind a) (origin end)).why ≡ 0 → around_res s t (trail_bits kind a) trail_before end ≡ true → Twins s t (trailer kind a) (origin end)
  unfolding trail_bits
  trail-twins kind a end z h = trail-by a.all (eqb kind 9) a.sample end z h

  -- ---- MMAP2 with a build id

  limit-step : (at n old : ℕ) → at + 1 ≤ length s → (step s (always (Limit 20)) (cursor at n old 0)).why ≡ 0
      → (number_at 1 s at ≤ 20) × (step s (always (Limit 20)) (cursor at n old 0) ≡ cursor (at + 1) (number_at 1 s at) old 0)
  unfolding step span rule holds counted before
  limit-step at n old l z =
      ⊎_elim
      (λ (g : number_at 1 s at ≤ 20).
      (g, sym (shape-in (Limit 20) s (cursor at n old 0) 1 refl (number_at 1 s at) old (omega (arith, l)) (rw (le-leb (number_at 1 s at) 20 g)) refl refl)))
      (λ (g : 20 < number_at 1 s at).
      let e = shape-bad (Limit 20) s (cursor at n old 0) 1 refl 32 (omega (arith, l)) (rw (lt-leb (number_at 1 s at) 20 g)) (λ q. omega (arith, q)) in
      absurd (let q = ap (λ (c : Cursor). c.why) e ∙ z in omega (arith, q)))
      (le-or-lt (number_at 1 s at) 20)

  build-twins : (walk s (mmap2 true) (origin 8)).why ≡ 0 → build_same s t ≡ true → Twins s t (mmap2 true) (origin 8)
  unfolding build_same steady one_width total width_of span walk
  build-twins z h =
      let p = and-true (same_span s t 8 41) _ h in
      let q = and-true (same_span s t 44 (44 + number_at 1 s 40)) _ p.1 in
      let a = span-abreast s t 8 41 long p.0 in
      let b = span-abreast s t 44 (44 + number_at 1 s 40) long q.0 in
      let l₁ = a.high in
      let l₂ = b.high in
      let r₃ : List Item = prot_flags ++ (always Name ∷ []) in
      let r₂ : List Item = always (Listed 20) ∷ r₃ in
      let r₁ : List Item = always (Ignored 3) ∷ r₂ in
      let r₀ : List Item = always (Limit 20) ∷ r₁ in
      let z₀ : (walk s r₀ (cursor 40 0 0 0)).why ≡ 0 = after-fine s build_front r₀ 8 0 0 refl (omega (arith, l₁)) z in
      let m = limit-step 40 0 0 (omega (arith, l₁)) (fine s r₁ (step s (always (Limit 20)) (cursor 40 0 0 0)) z₀) in
      let n : ℕ = number_at 1 s 40 in
      let z₁ : (walk s r₁ (cursor 41 n 0 0)).why ≡ 0 = ap (λ (c : Cursor). (walk s r₁ c).why) (sym m.1) ∙ z₀ in
      let f₁ : walk s (always (Ignored 3) ∷ []) (cursor 41 n 0 0) ≡ cursor 44 n 0 0 = front-is s (always (Ignored 3) ∷ []) r₂ 41 n 0 refl (omega (arith, l₁)) z₁ in
      let z₂ : (walk s r₂ (cursor 44 n 0 0)).why ≡ 0 = after-fine s (always (Ignored 3) ∷ []) r₂ 41 n 0 refl (omega (arith, l₁)) z₁ in
      let f₂ : walk s (always (Listed 20) ∷ []) (cursor 44 n 0 0) ≡ cursor 64 n 0 0 = front-is s (always (Listed 20) ∷ []) r₃ 44 n 0 refl (omega (arith, l₂)) z₂ in
      let z₃ : (walk s r₃ (cursor 64 n 0 0)).why ≡ 0 = after-fine s (always (Listed 20) ∷ []) r₃ 44 n 0 refl (omega (arith, l₂)) z₂ in
      let e₀ : walk s (build_front ++ (always (Limit 20) ∷ [])) (origin 8) ≡ cursor 41 n 0 0 =
      walk-append s build_front (always (Limit 20) ∷ []) (origin 8) ∙ ap (λ (c : Cursor). walk s (always (Limit 20) ∷ []) c) (front-is s build_front r₀ 8 0 0 refl (omega (arith, l₁)) z) ∙ m.1 in
      let t₀ = twins-within s t (build_front ++ (always (Limit 20) ∷ [])) (origin 8) 41 (ap (λ (c : Cursor). c.why) e₀) (let k = ap (λ (c : Cursor). c.at) e₀ in omega (arith, k)) a in
      let t₁ = twins-one s t (Ignored 3) (cursor 41 n 0 0) refl (read-ignored s t long (Ignored 3) (cursor 41 n 0 0) 3 refl) in
      let t₂ = twins-one s t (Listed 20) (cursor 44 n 0 0) refl (read-listed s t long (Listed 20) (cursor 44 n 0 0) 20 refl m.0 (abreast-take s t 44 (44 + n) b n (omega arith))) in
      let t₃ = twins-name s t prot_flags 64 n 0 72 refl refl long z₃ q.1 in
      twins-append s t (build_front ++ (always (Limit 20) ∷ [])) r₁ (origin 8) (cursor 41 n 0 0) (sym e₀) t₀
      (twins-append s t (always (Ignored 3) ∷ []) r₂ (cursor 41 n 0 0) (cursor 44 n 0 0) (sym f₁) t₁
      (twins-append s t (always (Listed 20) ∷ []) r₃ (cursor 44 n 0 0) (cursor 64 n 0 0) (sym f₂) t₂ t₃))

  -- ---- TEXT_POKE

  abbrev texts : List Item
  texts = u64 ∷ always (Count W2) ∷ always (Count W2) ∷ always (Earlier 1) ∷ always (Times 1) ∷ []

  earlier-in : (at n old : ℕ) → old * 1 ≤ length s - at → step s (always (Earlier 1)) (cursor at n old 0) ≡ cursor (at + old * 1) n old 0
  unfolding step span rule holds counted before
  earlier-in at n old h = sym (shape-in (Earlier 1) s (cursor at n old 0) (old * 1) refl n old h refl refl refl)

  texts-is : 20 + (number_at 2 s 16 + number_at 2 s 18) ≤ length s → walk s texts (origin 8) ≡ cursor (20 + number_at 2 s 16 * 1 + number_at 2 s 18 * 1) (number_at 2 s 18) (number_at 2 s 16) 0
  unfolding steady one_width total width_of span
  texts-is l =
      let o : ℕ = number_at 2 s 16 in
      let n : ℕ = number_at 2 s 18 in
      walk-append s (u64 ∷ []) (always (Count W2) ∷ always (Count W2) ∷ always (Earlier 1) ∷ always (Times 1) ∷ []) (origin 8)
      ∙ ap (walk s (always (Count W2) ∷ always (Count W2) ∷ always (Earlier 1) ∷ always (Times 1) ∷ [])) (steady-in s (u64 ∷ []) 8 0 0 refl (omega (arith, l)))
      ∙ goes s _ _ _ _ (count-in s 16 0 0 W2 (omega (arith, l)))
      ∙ goes s _ _ _ _ (count-in s 18 o 0 W2 (omega (arith, l)))
      ∙ goes s _ _ _ _ (earlier-in 20 n o (omega (arith, l)))
      ∙ goes s _ [] _ _ (times-in s (20 + o * 1) n o 1 (omega (arith, l)))
      ∙ nil (cursor (20 + o * 1 + n * 1) n o 0)
    where
      nil : (c : Cursor) → walk s [] c ≡ c
      nil c = unfold walk in refl

  text-twins : text_same s t ≡ true → Twins s t (texts ++ (always Pad ∷ [])) (origin 8)
  unfolding text_same
  text-twins h =
      let a = span-abreast s t 8 (20 + (number_at 2 s 16 + number_at 2 s 18)) long h in
      let e = texts-is a.high in
      let c : Cursor = cursor (20 + number_at 2 s 16 * 1 + number_at 2 s 18 * 1) (number_at 2 s 18) (number_at 2 s 16) 0 in
      let v = twins-within s t texts (origin 8) (20 + (number_at 2 s 16 + number_at 2 s 18)) (ap (λ (d : Cursor). d.why) e) (let k = ap (λ (d : Cursor). d.at) e in omega (arith, k)) a in
      twins-append s t texts (always Pad ∷ []) (origin 8) c (sym e) v (twins-one s t Pad c refl (read-pad s t long Pad c refl))

  -- ---- by type

  module _ (kind misc : ℕ) (a : Attributes) (z : (walk s (schema kind misc a) (origin 8)).why ≡ 0) where
    -- of one type
    of-type : (k : ℕ) → kind ≡ k → ((walk s (schema k misc a) (origin 8)).why ≡ 0 → Twins s t (schema k misc a) (origin 8)) → Twins s t (schema kind misc a) (origin 8)
    of-type k e f =
        subst (λ (i : ℕ). Twins s t (schema i misc a) (origin 8)) (sym e) (f (subst (λ (i : ℕ). (walk s (schema i misc a) (origin 8)).why ≡ 0) e z))

    -- a name, at the end of the fields
    named : (k : ℕ) → kind ≡ k → (is : List Item) (from : ℕ) → schema k misc a ≡ is ++ (always Name ∷ []) → steady is ≡ true → 8 + total is ≡ from → name_same s t 8 from ≡ true
        → Twins s t (schema kind misc a) (origin 8)
    named k e is from q w f h =
        of-type k e (λ y. subst (λ (js : List Item). Twins s t js (origin 8)) (sym q)
        (twins-name s t is 8 0 0 from w f long (subst (λ (js : List Item). (walk s js (origin 8)).why ≡ 0) q y) h))

    by_name : (b₁ b₃ b₁₉ b₁₀ b₁₇ m : Bool) → eqb kind 1 ≡ b₁ → eqb kind 3 ≡ b₃ → eqb kind 19 ≡ b₁₉ → eqb kind 10 ≡ b₁₀ → eqb kind 17 ≡ b₁₇ → bit misc 14 ≡ m → (b₁₀ && m) ≡ false
        → cond (eqb (cond b₁ 40 (cond (b₃ || b₁₉) 16 (cond b₁₀ 72 (cond b₁₇ 24 0)))) 0) (same_span s t 8 (length s)) (name_same s t 8 (cond b₁ 40 (cond (b₃ || b₁₉) 16 (cond b₁₀ 72 (cond b₁₇ 24 0))))) ≡ true
        → Twins s t (schema kind misc a) (origin 8)
    unfolding steady one_width total width_of span
    by_name true b₃ b₁₉ b₁₀ b₁₇ m e₁ e₃ e₁₉ e₁₀ e₁₇ em g h = named 1 (eqb-true kind 1 e₁) (u32 ∷ u32 ∷ u64 ∷ u64 ∷ u64 ∷ []) 40 refl refl refl h
    by_name false true b₁₉ b₁₀ b₁₇ m e₁ e₃ e₁₉ e₁₀ e₁₇ em g h = named 3 (eqb-true kind 3 e₃) (u32 ∷ u32 ∷ []) 16 refl refl refl h
    by_name false false true b₁₀ b₁₇ m e₁ e₃ e₁₉ e₁₀ e₁₇ em g h = named 19 (eqb-true kind 19 e₁₉) (u64 ∷ []) 16 refl refl refl h
    by_name false false false true b₁₇ true e₁ e₃ e₁₉ e₁₀ e₁₇ em g h = absurd (apart (sym g))
    by_name false false false true b₁₇ false e₁ e₃ e₁₉ e₁₀ e₁₇ em g h =
        named 10 (eqb-true kind 10 e₁₀) (u32 ∷ u32 ∷ u64 ∷ u64 ∷ u64 ∷ u32 ∷ u32 ∷ u64 ∷ u64 ∷ item false (Limit 20) ∷ item false (Ignored 3) ∷ item false (Listed 20) ∷ u32 ∷ u32 ∷ []) 72 (ap mmap2 em) refl refl h
    by_name false false false false true m e₁ e₃ e₁₉ e₁₀ e₁₇ em g h = named 17 (eqb-true kind 17 e₁₇) (u64 ∷ u32 ∷ u16 ∷ u16 ∷ []) 24 refl refl refl h
    by_name false false false false false m e₁ e₃ e₁₉ e₁₀ e₁₇ em g h = twins-plain (schema kind misc a) 8 h

    by-build : (b : Bool) → (eqb kind 10 && bit misc 14) ≡ b → cond b (build_same s t) (cond (eqb (name_at kind) 0) (same_span s t 8 (length s)) (name_same s t 8 (name_at kind))) ≡ true
        → Twins s t (schema kind misc a) (origin 8)
    unfolding name_at
    by-build true e h =
        let q = and-true (eqb kind 10) (bit misc 14) e in
        of-type 10 (eqb-true kind 10 q.0) (λ y. subst (λ (m : Bool). Twins s t (mmap2 m) (origin 8)) (sym q.1) (build-twins (subst (λ (m : Bool). (walk s (mmap2 m) (origin 8)).why ≡ 0) q.1 y) h))
    by-build false e h = by_name (eqb kind 1) (eqb kind 3) (eqb kind 19) (eqb kind 10) (eqb kind 17) (bit misc 14) refl refl refl refl refl refl e h

    pub body-twins : body_same s t kind misc a.sample ≡ true → Twins s t (schema kind misc a) (origin 8)
    unfolding body_same
    body-twins h = by (eqb kind 9) (eqb kind 20) refl refl h
      where
        by : (b c : Bool) → eqb kind 9 ≡ b → eqb kind 20 ≡ c
            → cond b (around_res s t a.sample before_res 8) (cond c (text_same s t) (cond (eqb kind 10 && bit misc 14) (build_same s t) (cond (eqb (name_at kind) 0) (same_span s t 8 (length s)) (name_same s t 8 (name_at kind))))) ≡ true
            → Twins s t (schema kind misc a) (origin 8)
        by true c e f h = of-type 9 (eqb-true kind 9 e) (λ y. sample-twins a y h)
        by false true e f h = of-type 20 (eqb-true kind 20 f) (λ y. text-twins h)
        by false false e f h = by-build (eqb kind 10 && bit misc 14) refl h
