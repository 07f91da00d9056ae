-- What a slot says of an identifier, and what the slots of a drain say; a record's answer by its identifier's slot. Assumes nothing.
use Rattle.std.proofs.Math.Path.{◌≡◌, refl, sym, ap, subst}
use Rattle.std.proofs.Common.{◌∙◌, arith, length-set, get_or-set_same, get_or-set_other}
use Rattle.std.specs.Prelude.{Bool, not, ◌||◌, ℕ, ◌+◌, ◌-◌, ◌*◌, ◌/◌, ◌%◌, ◌^◌, ◌<◌, ◌≤◌, ltb, eqb, set, replicate}
use Rattle.std.proofs.Math.Bool.{true, false, cond}
use mathlib.Core.List.{List, [], ◌∷◌}
use Rattle.std.specs.Int.Bits.{bit_and}
use Rattle.std.proofs.lemmas.Nat.{and_le_r}
use Rattle.std.proofs.Math.ListN.{length, get_or}
use Rattle.std.proofs.lemmas.List.{length-replicate, get_or-replicate}
use borrow.Author.Tests.{eqb-true, eqb-false, ne_eqb, le-ltb, lt-ltb, le-leb, lt-leb, ltb-false}
use Rattle.meaning.specs.declared.Attributes.{Attributes}
use Rattle.meaning.specs.declared.Event.{Event}
use Rattle.meaning.specs.declared.Known.{Known}
use Rattle.slots.specs.declared.Slot.{Slot}
use Rattle.slots.specs.declared.State.{State}
use Rattle.slots.specs.declared.State.TheVariants.{Empty, Indexed, InTable, UnknownBit, Absent}
use Rattle.meaning.specs.Bytes.{bit, ones}
use Rattle.meaning.specs.Refusals.{first}
use Rattle.meaning.specs.Editions.{is_in, unreadable}
use Rattle.meaning.specs.Records.{layout, kind_of, judge}
use Rattle.meaning.specs.Events.{attributes_of, event_at, identifiers, distinct, identifier_of, index_of, layout_for, judge_events}
use Rattle.laws.specs.Bytes.{apart}
use Rattle.laws.specs.Lookup.{identifiers-length, identifier-at, in-there, in-none, index-unique}
use Rattle.sums.specs.Sums.{sum_over, early_bits, after_bits, time_bits, sums_of, ones-most, trail-small, first_small, last-small}
use Rattle.marks.specs.Marks.{Marked}

-- ---- eight sums in two words

-- a sum is below it, so that four stand in one word
abbrev pub quarter : ℕ
quarter = 2 ^ 16

-- the four numbers in one word, 16 bits each
unfoldable pub Four : ℕ → ℕ → ℕ → ℕ → ℕ → Type 0
Four a b c d x = (x % quarter ≡ a) × (x / quarter % quarter ≡ b) × (x / 2 ^ 32 % quarter ≡ c) × (x / 2 ^ 48 ≡ d)

abbrev pub unpacked : ℕ → ℕ → List ℕ
unpacked x y =
    x % quarter
    ∷ (x / quarter % quarter)
    ∷ (x / 2 ^ 32 % quarter)
    ∷ (x / 2 ^ 48)
    ∷ (y % quarter)
    ∷ (y / quarter % quarter)
    ∷ (y / 2 ^ 32 % quarter)
    ∷ (y / 2 ^ 48)
    ∷ []

-- where the slot of an identifier is, of n slots
pub slot-inside : (id n : ℕ) → 1 ≤ n → bit_and id (n - 1) < n
slot-inside id n h = omega (arith, h, and_le_r id (n - 1))

-- the sums in a slot
abbrev pub sums_in : Slot → List ℕ
sums_in s = unpacked s.early s.late

module _ (a : Attributes) (sums : List ℕ) (e : sums ≡ sums_of a) where
  -- each sum fits
  pub narrow : (get_or sums 0 0 < quarter) × (get_or sums 1 0 < quarter) × (get_or sums 2 0 < quarter) × (get_or sums 3 0 < quarter) × (get_or sums 4 0 < quarter) × (get_or sums 5 0 < quarter) × (get_or sums 6 0 < quarter) × (get_or sums 7 0 < quarter)
  unfolding sums_of
  narrow =
      let t = trail-small a sums e in
      let f = (first_small a sums e).0 in
      let l = (last-small a sums e).0 in (
        omega (arith, t),
        omega (arith, f),
        omega (arith, l),
        below 3 (masked (bit a.sample 12) a.user),
        below 4 (counted a.sample early_bits),
        below 5 (counted a.sample after_bits),
        below 6 (masked (bit a.sample 18) a.interrupt),
        below 7 (fixed a.format),
      )
    where
      below : (i : ℕ) → get_or (sums_of a) i 0 < quarter → get_or sums i 0 < quarter
      below i h = subst (λ (l : List ℕ). get_or l i 0 < quarter) (sym e) h

      counted : (x m : ℕ) → sum_over x m < quarter
      counted x m = let h = ones-most 64 (bit_and x m) in omega (arith, h)

      fixed : (x : ℕ) → 8 + sum_over x time_bits < quarter
      fixed x = let h = ones-most 64 (bit_and x time_bits) in omega (arith, h)

      masked : (b : Bool) (x : ℕ) → cond b (ones 64 x * 8) 0 < quarter
      masked true x = let h = ones-most 64 x in omega (arith, h)
      masked false x = omega arith

  -- what is packed is unpacked
  pub unpacks : (x y : ℕ) → Four (get_or sums 0 0) (get_or sums 1 0) (get_or sums 2 0) (get_or sums 3 0) x → Four (get_or sums 4 0) (get_or sums 5 0) (get_or sums 6 0) (get_or sums 7 0) y
      → unpacked x y ≡ sums_of a
  unfolding Four sums_of
  unpacks x y f g =
      let at : (i : ℕ) → get_or sums i 0 ≡ get_or (sums_of a) i 0 = λ i. ap (λ (l : List ℕ). get_or l i 0) e in
      λ j.
      (f.0 ∙ at 0) j
      ∷ (f.1 ∙ at 1) j
      ∷ (f.2 ∙ at 2) j
      ∷ (f.3 ∙ at 3) j
      ∷ (g.0 ∙ at 4) j
      ∷ (g.1 ∙ at 5) j
      ∷ (g.2 ∙ at 6) j
      ∷ (g.3 ∙ at 7) j
      ∷ []

-- ---- what is noted

-- a slot that names no identifier
abbrev pub empty_slot : Slot
empty_slot = record { identifier = 0; state = Empty; why = 0; sample = 0; read = 0; index = 0; early = 0; late = 0 }

-- whether it is known of the slot's identifier what its records are
abbrev pub is_filled : State → Bool
is_filled Empty = false
is_filled Indexed = false
is_filled InTable = true
is_filled UnknownBit = true
is_filled Absent = true

-- the answer of the records of an identifier that has no event, by its slot's state
abbrev pub refused_by : State → ℕ
refused_by Empty = 0
refused_by Indexed = 0
refused_by InTable = 0
refused_by UnknownBit = 21
refused_by Absent = 26

-- what the state says of an identifier: the edition does not know bit 16; it is not in the table; it is there
unfoldable pub standing : Known → List Event → ℕ → State
standing k es id = cond (ltb 16 k.samples) (cond (is_in id (identifiers es)) InTable Absent) UnknownBit

-- no slot of these is empty, nor one in which the index alone is noted
pub standing-filled : (k : Known) (es : List Event) (id : ℕ) → is_filled (standing k es id) ≡ true
unfolding standing
standing-filled k es id = by (ltb 16 k.samples) (is_in id (identifiers es))
  where
    by : (b c : Bool) → is_filled (cond b (cond c InTable Absent) UnknownBit) ≡ true
    by true true = refl
    by true false = refl
    by false c = refl

-- what edition and attributes fix of an event
pub record Planned (k : Known) (a : Attributes) (s : Slot) : Type 0 where
  pub why : s.why ≡ unreadable k a 1 0
  pub sample : Marked k a 9 s.sample
  pub read : Marked k a 8 s.read
  pub sums : sums_in s ≡ sums_of a

-- the attributes of an identifier's event
abbrev pub attributes_for : List Event → ℕ → Attributes
attributes_for es id = attributes_of (event_at es (index_of id (identifiers es)))

-- the slot of an identifier
pub record SlotOf (k : Known) (es : List Event) (id : ℕ) (s : Slot) : Type 0 where
  pub whose : s.identifier ≡ id
  pub stands : s.state ≡ standing k es id
  pub index : s.state ≡ InTable → (s.index ≡ index_of id (identifiers es)) × (index_of id (identifiers es) < length es)
  pub planned : s.state ≡ InTable → Planned k (attributes_for es id) s

-- a slot in which the index of its identifier alone is noted: the edition knows bit 16, and the identifier is in the table
pub record Noted (k : Known) (es : List Event) (id : ℕ) (s : Slot) : Type 0 where
  pub known-there : 16 < k.samples
  pub index : s.index ≡ index_of id (identifiers es)
  pub inside : index_of id (identifiers es) < length es

-- a slot that is not filled says nothing, or its index alone; any other is its identifier's
pub record SlotHolds (k : Known) (es : List Event) (s : Slot) : Type 0 where
  pub filled : is_filled s.state ≡ true → SlotOf k es s.identifier s
  pub noted : s.state ≡ Indexed → Noted k es s.identifier s

-- every slot of a drain is the slot of the identifier that it names
pub record Memo (k : Known) (es : List Event) (m : List Slot) : Type 0 where
  pub at : (i : ℕ) → i < length m → SlotHolds k es (get_or m i empty_slot)

-- ---- the slots of a drain

-- all are empty
pub memo-first : (k : Known) (es : List Event) (n : ℕ) → Memo k es (replicate n empty_slot)
memo-first k es n = record { at = λ i h. subst (SlotHolds k es) (sym (get_or-replicate n i empty_slot empty_slot (subst (λ (l : ℕ). i < l) (length-replicate n _) h))) none }
  where
    unfilled : ◌≡◌ {A = State} Empty Indexed → ⊥
    unfilled e = cc

    none : SlotHolds k es empty_slot
    none = record { filled = λ z. absurd (apart z); noted = λ e. absurd (unfilled e) }

-- the slot at a place is another's
pub memo-put : (k : Known) (es : List Event) (m : List Slot) (h : ℕ) (s : Slot) → Memo k es m → SlotHolds k es s → Memo k es (set m h s)
memo-put k es m h s w f = record { at = λ i l. by i (subst (λ (n : ℕ). i < n) (length-set m h s) l) (eqb i h) refl }
  where
    by : (i : ℕ) → i < length m → (b : Bool) → eqb i h ≡ b → SlotHolds k es (get_or (set m h s) i empty_slot)
    by i l true e =
        let q = eqb-true i h e in
        subst (λ (j : ℕ). SlotHolds k es (get_or (set m h s) j empty_slot)) (sym q) (subst (SlotHolds k es) (sym (get_or-set_same m h s empty_slot (subst (λ (j : ℕ). j < length m) q l))) f)
    by i l false e = subst (SlotHolds k es) (sym (get_or-set_other m h i s empty_slot (eqb-false i h e))) (w.at i l)

-- a slot of this identifier, which is filled
pub memo-held : (k : Known) (es : List Event) (m : List Slot) (h id : ℕ) → Memo k es m → h < length m → (get_or m h empty_slot).identifier ≡ id
    → is_filled (get_or m h empty_slot).state ≡ true → SlotOf k es id (get_or m h empty_slot)
memo-held k es m h id w l e z = subst (λ (n : ℕ). SlotOf k es n (get_or m h empty_slot)) e ((w.at h l).filled z)

-- a slot of this identifier, in which its index is noted
pub slot-noted : (k : Known) (es : List Event) (id : ℕ) (s : Slot) → SlotHolds k es s → s.identifier ≡ id → s.state ≡ Indexed → Noted k es id s
slot-noted k es id s w e f = subst (λ (n : ℕ). Noted k es n s) e (w.noted f)

-- what is filled says what its identifier's records are
filled-some : (k : Known) (es : List Event) (id : ℕ) (s : Slot) → SlotOf k es id s → s.state ≡ Indexed → ⊥
filled-some k es id s f e = apart (sym (ap is_filled e) ∙ ap is_filled f.stands ∙ standing-filled k es id)

filled-slot : (k : Known) (es : List Event) (id : ℕ) (s : Slot) → SlotOf k es id s → SlotHolds k es s
filled-slot k es id s f = record { filled = λ z. subst (λ (n : ℕ). SlotOf k es n s) (sym f.whose) f; noted = λ e. absurd (filled-some k es id s f e) }

-- the index of an event of a table whose identifiers are distinct, noted at a place
pub memo-entered : (k : Known) (es : List Event) (m : List Slot) (h i : ℕ) (s : Slot) → Memo k es m → 16 < k.samples → distinct (identifiers es) ≡ true → i < length es
    → s.identifier ≡ (event_at es i).identifier → s.state ≡ Indexed → s.index ≡ i → Memo k es (set m h s)
memo-entered k es m h i s w b d l e f g =
    memo-put k es m h s w
    (record { filled = λ z. absurd (apart (sym (ap is_filled f) ∙ z)); noted = λ q. record { known-there = b; index = g ∙ sym its; inside = omega (arith, its, l) } })
  where
    same : get_or (identifiers es) i 0 ≡ s.identifier
    same = identifier-at es i ∙ sym e

    its : index_of s.identifier (identifiers es) ≡ i
    its = ap (λ (n : ℕ). index_of n (identifiers es)) (sym same) ∙ index-unique (identifiers es) i d (omega (arith, identifiers-length es, l))

pub memo-filled : (k : Known) (es : List Event) (m : List Slot) (h id : ℕ) (s : Slot) → Memo k es m → h < length m → SlotOf k es id s
    → Memo k es (set m h s) × SlotOf k es id (get_or (set m h s) h empty_slot)
memo-filled k es m h id s w l f = (memo-put k es m h s w (filled-slot k es id s f), subst (SlotOf k es id) (sym (get_or-set_same m h s empty_slot l)) f)

-- ---- a slot that is made

known-bit : (x : State) → x ≡ UnknownBit → x ≡ InTable → ⊥
known-bit x e f = cc

there : (x : State) → x ≡ Absent → x ≡ InTable → ⊥
there x e f = cc

module _ (k : Known) (es : List Event) (id : ℕ) where
  -- the edition does not know bit 16
  pub filled-unknown : (s : Slot) → k.samples ≤ 16 → s.identifier ≡ id → s.state ≡ UnknownBit → SlotOf k es id s
  unfolding standing
  filled-unknown s h e f =
      record {
        whose = e;
        stands = f ∙ rw (le-ltb 16 k.samples h) refl;
        index = λ q. absurd (known-bit s.state f q);
        planned = λ q. absurd (known-bit s.state f q);
      }

  module _ (h : 16 < k.samples) (i : ℕ) (ei : i ≡ index_of id (identifiers es)) where
    -- it is not in the table
    pub filled-absent : (s : Slot) → length es ≤ i → s.identifier ≡ id → s.state ≡ Absent → SlotOf k es id s
    unfolding standing
    filled-absent s l e f =
        let n : length (identifiers es) ≤ index_of id (identifiers es) = omega (arith, identifiers-length es, ei, l) in
        record {
          whose = e;
          stands = f ∙ rw (lt-ltb 16 k.samples h, in-none id (identifiers es) n) refl;
          index = λ q. absurd (there s.state f q);
          planned = λ q. absurd (there s.state f q);
        }

    -- it is
    pub filled-found : (s : Slot) → i < length es → s.identifier ≡ id → s.state ≡ InTable → s.index ≡ i
        → Planned k (attributes_of (event_at es i)) s → SlotOf k es id s
    unfolding standing
    filled-found s l e f g p =
        let n : index_of id (identifiers es) < length (identifiers es) = omega (arith, identifiers-length es, ei, l) in
        record {
          whose = e;
          stands = f ∙ rw (lt-ltb 16 k.samples h, in-there id (identifiers es) n) refl;
          index = λ q. (g ∙ ei, omega (arith, ei, l));
          planned = λ q. subst (λ (j : ℕ). Planned k (attributes_of (event_at es j)) s) ei p;
        }

-- ---- the answer of a record of a type that the edition has

-- which types those are
pub type-there : (k : Known) (t : ℕ) → (eqb t 0 || ltb k.kinds t) ≡ false → (1 ≤ t) × (t ≤ k.kinds)
type-there k t e = by (eqb t 0) (ltb k.kinds t) refl refl e
  where
    by : (x y : Bool) → eqb t 0 ≡ x → ltb k.kinds t ≡ y → (x || y) ≡ false → (1 ≤ t) × (t ≤ k.kinds)
    by true y g h q = absurd (apart (sym q))
    by false true g h q = absurd (apart (sym q))
    by false false g h q = let z = eqb-false t 0 g in (omega (arith, z), ltb-false k.kinds t h)

-- any other is 20
pub type-strange : (k : Known) (es : List Event) (r : List ℕ) → (eqb (kind_of r) 0 || ltb k.kinds (kind_of r)) ≡ true → 20 ≡ judge_events k es r
unfolding judge_events first
type-strange k es r e = rw e refl

module _ (k : Known) (es : List Event) (r : List ℕ) (from : 1 ≤ kind_of r) (to : kind_of r ≤ k.kinds) where
  typed : (eqb (kind_of r) 0 || ltb k.kinds (kind_of r)) ≡ false
  typed = rw (ne_eqb (kind_of r) 0 (λ q. omega (arith, q, from)), le-ltb k.kinds (kind_of r) to) refl

  -- too short for an identifier: 21 by the edition, else 27
  pub short-unknown : k.samples ≤ 16 → 21 ≡ judge_events k es r
  unfolding judge_events first
  short-unknown h = rw (typed, le-ltb 16 k.samples h) refl

  pub short-judged : 16 < k.samples → length r < 16 → 27 ≡ judge_events k es r
  unfolding judge_events first
  short-judged h l = rw (typed, lt-ltb 16 k.samples h, lt-leb 16 (length r) l) refl

  module _ (long : 16 ≤ length r) (s : Slot) (f : SlotOf k es (identifier_of r) s) where
    -- what the slot says of its identifier, before its event is asked
    by-standing : judge_events k es r ≡ cond (ltb 16 k.samples) (cond (is_in (identifier_of r) (identifiers es)) (judge (layout_for k es r) r) 26) 21
    unfolding judge_events first
    by-standing = rw (typed, le-leb 16 (length r) long) (by (ltb 16 k.samples) (is_in (identifier_of r) (identifiers es)) (judge (layout_for k es r) r))
      where
        by : (b c : Bool) (n : ℕ) → cond (not b) 21 (cond (not c) 26 n) ≡ cond b (cond c n 26) 21
        by true true n = refl
        by true false n = refl
        by false c n = refl

    -- refused by it
    pub slot-refused : (s.state ≡ InTable → ⊥) → refused_by s.state ≡ judge_events k es r
    unfolding standing
    slot-refused z =
        ap refused_by f.stands
        ∙ by (ltb 16 k.samples) (is_in (identifier_of r) (identifiers es)) (λ q. z (f.stands ∙ q)) (judge (layout_for k es r) r)
        ∙ sym by-standing
      where
        by : (b c : Bool) → (◌≡◌ {A = State} (cond b (cond c InTable Absent) UnknownBit) InTable → ⊥) → (n : ℕ)
            → refused_by (cond b (cond c InTable Absent) UnknownBit) ≡ cond b (cond c n 26) 21
        by true true z n = absurd (z refl)
        by true false z n = refl
        by false c z n = refl

    -- its event's own
    pub slot-judged : s.state ≡ InTable → judge (layout k (attributes_for es (identifier_of r))) r ≡ judge_events k es r
    unfolding standing
    slot-judged e = by (ltb 16 k.samples) (is_in (identifier_of r) (identifiers es)) (sym f.stands ∙ e) (judge (layout_for k es r) r) ∙ sym by-standing
      where
        by : (b c : Bool) → ◌≡◌ {A = State} (cond b (cond c InTable Absent) UnknownBit) InTable → (n : ℕ) → n ≡ cond b (cond c n 26) 21
        by true true q n = refl
        by true false q n = absurd (there Absent refl q)
        by false c q n = absurd (known-bit UnknownBit refl q)
