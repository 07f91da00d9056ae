-- Demand 3 for one record, once over all pairs of editions. Assumes nothing.
use Rattle.std.specs.Prelude.{◌≡◌, refl, List, [], ◌∷◌, ◌++◌, Bool, true, false, cond, not, ◌&&◌, ◌||◌, ◌⊎◌, ℕ, zero, suc, ◌%◌, ◌^◌, ◌<◌, ◌≤◌, leb, ltb, eqb, length}
use Rattle.std.proofs.Common.{sym, ap, ap₂, ◌∙◌, subst, inl, inr, arith, le-leb, ne_eqb, ltb-false, ltb-true}
use Rattle.std.proofs.Math.Bool.{and_comm, or-false as or_nil}
use Rattle.std.proofs.lemmas.Bool.{lt-leb, not-true}
use Rattle.meaning.specs.declared.Attributes.{Attributes}
use Rattle.meaning.specs.declared.Known.{Known}
use Rattle.meaning.specs.Refusals.{Refusal, first, or_else}
use Rattle.meaning.specs.Schema.{schema, trailer}
use Rattle.meaning.specs.Editions.{editions, allowed, known, Thing, knows, outside, when, bits, kind, sample_bit, format_bit, build_id, branch_bit, depends, has_sample_bits, has_read_values, has_build_id, has_branches, strange_branch, unknowns, clashes, unreadable, is_unknown}
use Rattle.meaning.specs.Records.{layout, kind_of, misc_of, size_of, room, fields_answer, judge, check_by, check}
use Rattle.laws.specs.Bytes.{apart, and-true}
use Rattle.editions.specs.Fairness.{within, rising, Words, depends_of, Fair}
use Rattle.runs.specs.Cutting.{framed}
use Rattle.laws.specs.Rows.{or-false, no_zero}
use Rattle.editions.proofs.Outside.{outside-append, outside-when, bits-outside, branch-outside, outside-less, known-within}
use Rattle.editions.proofs.InTable.{fields-known}

-- ---- any list of rows
abbrev pub any_holds : List Refusal → Bool
any_holds [] = false
any_holds (r ∷ rs) = r.holds || any_holds rs

-- every number of the rows says "unknown"; none does
abbrev pub all_unknown : List Refusal → Bool
all_unknown [] = true
all_unknown (r ∷ rs) = is_unknown r.number && all_unknown rs

abbrev pub none_unknown : List Refusal → Bool
none_unknown [] = true
none_unknown (r ∷ rs) = not (is_unknown r.number) && none_unknown rs

-- the answer says "unknown" exactly where a row holds, or where the rest says so
pub first-unknown : (rs : List Refusal) (rest : ℕ) → all_unknown rs ≡ true → is_unknown (first rs rest) ≡ (any_holds rs || is_unknown rest)
unfolding first
first-unknown [] rest a = refl
first-unknown (r ∷ rs) rest a =
    let s = and-true (is_unknown r.number) (all_unknown rs) a in
    by r.holds s.0 (first-unknown rs rest s.1)
  where
    by : (b : Bool) → is_unknown r.number ≡ true → is_unknown (first rs rest) ≡ (any_holds rs || is_unknown rest)
        → is_unknown (cond b r.number (first rs rest)) ≡ ((b || any_holds rs) || is_unknown rest)
    by true p q = p
    by false p q = q

-- rows that are no edition's leave it unsaid
pub first-known : (rs : List Refusal) (rest : ℕ) → none_unknown rs ≡ true → is_unknown rest ≡ false → is_unknown (first rs rest) ≡ false
unfolding first
first-known [] rest a h = h
first-known (r ∷ rs) rest a h =
    let s = and-true (not (is_unknown r.number)) (none_unknown rs) a in
    by r.holds (not-true (is_unknown r.number) s.0) (first-known rs rest s.1 h)
  where
    by : (b : Bool) → is_unknown r.number ≡ false → is_unknown (first rs rest) ≡ false → is_unknown (cond b r.number (first rs rest)) ≡ false
    by true p q = p
    by false p q = q

-- where none holds, the rest answers
pub first-none : (rs : List Refusal) (rest : ℕ) → any_holds rs ≡ false → first rs rest ≡ rest
unfolding first
first-none [] rest e = refl
first-none (r ∷ rs) rest e =
    let s = or-false r.holds (any_holds rs) e in
    rw s.0 (first-none rs rest s.1)

-- 0 is none of their numbers, so "the first, else the body" is one chain
pub first_else : (rs : List Refusal) (rest body : ℕ) → no_zero rs ≡ true → or_else (first rs rest) body ≡ first rs (or_else rest body)
unfolding first
first_else [] rest body z = refl
first_else (r ∷ rs) rest body z =
    let s = and-true (not (eqb r.number 0)) (no_zero rs) z in
    by r.holds s.0 (first_else rs rest body s.1)
  where
    kept : (n : ℕ) (b : Bool) → eqb n 0 ≡ b → not b ≡ true → cond b body n ≡ n
    kept n true e g = absurd (apart g)
    kept n false e g = refl

    by : (b : Bool) → not (eqb r.number 0) ≡ true → or_else (first rs rest) body ≡ first rs (or_else rest body)
        → or_else (cond b r.number (first rs rest)) body ≡ cond b r.number (first rs (or_else rest body))
    by true g q = kept r.number (eqb r.number 0) refl g
    by false g q = q

-- ---- the rows 20 to 23 and 25 hold exactly where something that the reading depends on is outside
pub kind-outside : (k : Known) (t : ℕ) → (eqb t 0 || ltb k.kinds t) ≡ not (knows k (kind t))
kind-outside k zero = refl
kind-outside k (suc t) = by (ltb k.kinds (suc t)) refl
  where
    by : (b : Bool) → ltb k.kinds (suc t) ≡ b → (eqb (suc t) 0 || ltb k.kinds (suc t)) ≡ not (leb 1 (suc t) && leb (suc t) k.kinds)
    by true e = rw (e, ne_eqb (suc t) 0 (λ q. absurd (omega (arith, q))), le-leb 1 (suc t) (omega arith), lt-leb (suc t) k.kinds (ltb-true k.kinds (suc t) e)) refl
    by false e = rw (e, ne_eqb (suc t) 0 (λ q. absurd (omega (arith, q))), le-leb 1 (suc t) (omega arith), le-leb (suc t) k.kinds (ltb-false k.kinds (suc t) e)) refl

sample-outside : (k : Known) (t : ℕ) (a : Attributes) → a.sample < 2 ^ 64
    → (leb (2 ^ k.samples) a.sample && has_sample_bits t a) ≡ outside k (when (has_sample_bits t a) (bits sample_bit a.sample 0 64))
sample-outside k t a s =
    and_comm (leb (2 ^ k.samples) a.sample) (has_sample_bits t a)
    ∙ ap (λ (b : Bool). has_sample_bits t a && b) (sym (bits-outside k sample_bit k.samples (λ b. refl) a.sample k.samples 0 64 (omega arith) s))
    ∙ sym (outside-when k (has_sample_bits t a) (bits sample_bit a.sample 0 64))

format-outside : (k : Known) (t : ℕ) (a : Attributes) → a.format < 2 ^ 64
    → (leb (2 ^ k.formats) a.format && has_read_values t a) ≡ outside k (when (has_read_values t a) (bits format_bit a.format 0 64))
format-outside k t a s =
    and_comm (leb (2 ^ k.formats) a.format) (has_read_values t a)
    ∙ ap (λ (b : Bool). has_read_values t a && b) (sym (bits-outside k format_bit k.formats (λ b. refl) a.format k.formats 0 64 (omega arith) s))
    ∙ sym (outside-when k (has_read_values t a) (bits format_bit a.format 0 64))

-- a single form: the build-id form is one
form-outside : (k : Known) (b : Bool) (t : Thing) → (b && not (knows k t)) ≡ outside k (when b (t ∷ []))
unfolding outside
form-outside k true t = sym (or_nil (not (knows k t)))
form-outside k false t = refl

branches-outside : (k : Known) (t : ℕ) (a : Attributes) → a.branch < 2 ^ 64
    → (has_branches t a && strange_branch k a) ≡ outside k (when (has_branches t a) (bits branch_bit a.branch 0 64))
branches-outside k t a s =
    ap (λ (b : Bool). has_branches t a && b) (sym (branch-outside k a.branch s)) ∙ sym (outside-when k (has_branches t a) (bits branch_bit a.branch 0 64))

pub rules-outside : (k : Known) (t misc : ℕ) (a : Attributes) → Words a → any_holds (unknowns k t misc a) ≡ outside k (depends t misc a)
unfolding depends outside
rules-outside k t misc a ws =
    let x : List Thing = when (has_sample_bits t a) (bits sample_bit a.sample 0 64) in
    let y : List Thing = when (has_read_values t a) (bits format_bit a.format 0 64) in
    let z : List Thing = when (has_build_id t misc) (build_id ∷ []) in
    let v : List Thing = when (has_branches t a) (bits branch_bit a.branch 0 64) in
    let c5 = or_nil _ ∙ branches-outside k t a ws.branch in
    let c4 = ap₂ (λ (p q : Bool). p || q) (form-outside k (has_build_id t misc) build_id) c5 ∙ sym (outside-append k z v) in
    let c3 = ap₂ (λ (p q : Bool). p || q) (format-outside k t a ws.format) c4 ∙ sym (outside-append k y (z ++ v)) in
    let c2 = ap₂ (λ (p q : Bool). p || q) (sample-outside k t a ws.sample) c3 ∙ sym (outside-append k x (y ++ (z ++ v))) in
    ap₂ (λ (p q : Bool). p || q) (kind-outside k t) c2

-- ---- fair answers

-- an answer that no edition enters, and that does not say "unknown"
pub fair-free : (n : ℕ) → is_unknown n ≡ false → Fair n n false
fair-free n h = record { exact = h; alike = λ o. refl }

-- a stretch of rows before a fair rest: the newer edition's hold only where the older's do
pub fair-first : (rs₁ rs₂ : List Refusal) (rest₁ rest₂ : ℕ) (out : Bool) → all_unknown rs₁ ≡ true → (any_holds rs₁ ≡ false → any_holds rs₂ ≡ false)
    → Fair rest₁ rest₂ out → Fair (first rs₁ rest₁) (first rs₂ rest₂) (any_holds rs₁ || out)
fair-first rs₁ rs₂ rest₁ rest₂ out u h w =
    record {
      exact = first-unknown rs₁ rest₁ u ∙ ap (λ (b : Bool). any_holds rs₁ || b) w.exact;
      alike = λ (o : (any_holds rs₁ || out) ≡ false).
          let s = or-false (any_holds rs₁) out o in
          first-none rs₁ rest₁ s.0 ∙ w.alike s.1 ∙ sym (first-none rs₂ rest₂ (h s.0));
    }

-- 20 to 25, then what the body says, is one chain
unreadable-chain : (k : Known) (a : Attributes) (t misc body : ℕ) → or_else (unreadable k a t misc) body ≡ first (unknowns k t misc a) (first (clashes t a) body)
unfolding unreadable
unreadable-chain k a t misc body =
    first_else (unknowns k t misc a) (first (clashes t a) 0) body refl ∙ ap (first (unknowns k t misc a)) (first_else (clashes t a) 0 body refl)

-- any two rows of which one is within the other, and any body that says no "unknown"
pub unreadable-fair : (k m : Known) → within k m ≡ true → (t misc : ℕ) (a : Attributes) (body : ℕ) → Words a → is_unknown body ≡ false
    → Fair (or_else (unreadable k a t misc) body) (or_else (unreadable m a t misc) body) (outside k (depends t misc a))
unfolding is_unknown
unreadable-fair k m w t misc a body ws h =
    let rest : ℕ = first (clashes t a) body in
    let fewer : any_holds (unknowns k t misc a) ≡ false → any_holds (unknowns m t misc a) ≡ false =
    λ o. rules-outside m t misc a ws ∙ outside-less k m w (depends t misc a) (sym (rules-outside k t misc a ws) ∙ o) in
    rw (unreadable-chain k a t misc body, unreadable-chain m a t misc body)
    (subst (Fair (first (unknowns k t misc a) rest) (first (unknowns m t misc a) rest)) (or_nil _ ∙ rules-outside k t misc a ws)
    (fair-first (unknowns k t misc a) (unknowns m t misc a) rest rest false refl fewer (fair-free rest (first-known (clashes t a) body refl h))))

-- once over all pairs of editions of a rising table: a record of any bytes
pub record-fair : (rows : List Known) → rising rows ≡ true → (e₁ e₂ : ℕ) → e₁ ≤ e₂ → allowed rows e₂ ≡ true → (a : Attributes) → Words a → (r : List ℕ)
    → Fair (judge (layout (known rows e₁) a) r) (judge (layout (known rows e₂) a) r) (outside (known rows e₁) (depends_of a r))
unfolding judge layout
record-fair rows u e₁ e₂ g h a ws r =
    let t : ℕ = kind_of r in
    let misc : ℕ = misc_of r in
    unreadable-fair (known rows e₁) (known rows e₂) (known-within rows u e₁ e₂ g h) t misc a (fields_answer (schema t misc a) (room (trailer t a)) r) ws
    (fields-known (schema t misc a) (room (trailer t a)) r)

-- the record check: of any slice at all. One that is no record is refused alike, by 7 or 6
pub tested : (l s d : Bool) (x y : ℕ) (out : Bool) → Fair x y out
    → Fair (cond l (cond s (cond d x 7) 6) 7) (cond l (cond s (cond d y 7) 6) 7) ((l && (s && d)) && out)
unfolding is_unknown
tested false s d x y out w = fair-free 7 refl
tested true false d x y out w = fair-free 6 refl
tested true true false x y out w = fair-free 7 refl
tested true true true x y out w = w

pub check-fair : (rows : List Known) → rising rows ≡ true → (e₁ e₂ : ℕ) → e₁ ≤ e₂ → allowed rows e₁ ≡ true → allowed rows e₂ ≡ true
    → (a : Attributes) → Words a → (r : List ℕ)
    → Fair (check rows e₁ a r) (check rows e₂ a r) (framed r && outside (known rows e₁) (depends_of a r))
unfolding check check_by
check-fair rows u e₁ e₂ g h₁ h₂ a ws r =
    rw (h₁, h₂)
    (tested (leb 8 (length r)) (leb 8 (size_of r) && eqb (size_of r % 8) 0) (eqb (size_of r) (length r))
    (judge (layout (known rows e₁) a) r) (judge (layout (known rows e₂) a) r) (outside (known rows e₁) (depends_of a r))
    (record-fair rows u e₁ e₂ g h₂ a ws r))

-- of one record the check is the judge
pub check-framed : (rows : List Known) (e : ℕ) → allowed rows e ≡ true → (a : Attributes) (r : List ℕ) → framed r ≡ true
    → check rows e a r ≡ judge (layout (known rows e) a) r
unfolding check check_by
check-framed rows e h a r f =
    let s = and-true (leb 8 (length r)) ((leb 8 (size_of r) && eqb (size_of r % 8) 0) && eqb (size_of r) (length r)) f in
    let q = and-true (leb 8 (size_of r) && eqb (size_of r % 8) 0) (eqb (size_of r) (length r)) s.1 in
    rw (h, s.0, q.0, q.1) refl

-- the demand's first half by itself: answered as the newer does, or refused as unknown
pub either : (older newer : ℕ) (out : Bool) → Fair older newer out → (older ≡ newer) ⊎ (is_unknown older ≡ true)
either older newer true w = inr w.exact
either older newer false w = inl (w.alike refl)

-- ---- document 01's table: a row more is a row, and no other proof
pub editions-rise : rising editions ≡ true
editions-rise = refl
