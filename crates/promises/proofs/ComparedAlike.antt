-- M-108, "Positions and ignored bytes don't count; the M-107 flag does", of what `ollskuvan_compare` reports: two rings are alike exactly when both end with 0 after
-- as many records, and each two records are accepted and the same but for their ignored bytes, with the same flag, or else the same bytes. Assumes nothing.
use Rattle.std.specs.Prelude.{◌≡◌, refl, Bool, true, false, cond, List, [], ◌∷◌, ◌⊎◌, eqb, length, get_or, take, drop}
use Rattle.std.proofs.Math.Path.{sym, ap}
use Rattle.std.proofs.Common.{◌∙◌, subst, ⊎_elim, arith, eqb-true}
use Rattle.std.proofs.Math.Logic.{inl, inr}
use Prim.Native.Nat.{ℕ, ◌<◌}
use Rattle.std.proofs.lemmas.Bool.{eqb-false}
use Rattle.meaning.specs.declared.Attributes.{Attributes}
use Rattle.meaning.specs.declared.Event.{Event}
use Rattle.meaning.specs.declared.Known.{Known}
use Rattle.meaning.specs.Bytes.{bit, small}
use Rattle.meaning.specs.Items.{Con, con}
use Rattle.meaning.specs.Editions.{editions, known}
use Rattle.meaning.specs.Records.{Layout, Value, layout, kind_of, judge, check_by, check, flag_of, value, unflagged, cleaned_record}
use Rattle.meaning.specs.Events.{identifier_of, sound, asked_events}
use Rattle.laws.specs.Whole.{Decodes, record-again, record-there, flag-unwritten, same-value}
use Rattle.laws.specs.Every.{sound as layout-sound}
use Rattle.laws.specs.Matched.{sound-marked}
use Rattle.runs.specs.Cutting.{Cut, framed, record_of}
use Rattle.runs.proofs.Entries.{all-at}
use Rattle.editions.proofs.OneRecord.{check-framed}
use Rattle.compare.specs.declared.Compared.{Compared}
use Rattle.compare.specs.Fields.{Reads, layout_of, value_of}
use Rattle.compare.specs.Compared.{Side, all_alike, cutting_all, compared, event_reads}
use Rattle.compare.specs.Promise.{SoundReads, Whole, Same, decoded, refused}
use Rattle.compare.proofs.Identifier.{body-first, tail-last}
use Rattle.compare.proofs.Pairs.{same_id}
use Rattle.compare.proofs.Sides.{framed-side, side-whole}
use Rattle.compare.proofs.Facts.{flag-of, ignored-alike}
use Rattle.comparing.specs.Table.{left_side, right_side, event-sound}
use Rattle.promises.proofs.Compared.{alike-all-equal}
use Rattle.promises.specs.ComparedAlike.{Cleaned, SameButIgnored}

-- ---- one record

-- of one record by its header the check is the judge: the table of one edition
checked : (k : Known) (a : Attributes) (xs : List ℕ) → framed xs ≡ true → check_by (layout k a) xs ≡ judge (layout k a) xs
unfolding check known
checked k a xs f = check-framed (k ∷ []) 1 refl a xs f

-- with the ignored bytes as zero it is accepted too, and has the same value but for the flag
cleaned-decodes : (k : Known) (a : Attributes) (xs : List ℕ) → small xs ≡ true → check_by (layout k a) xs ≡ 0
    → Decodes (layout k a) (cleaned_record (layout k a) xs) (unflagged (value (layout k a) xs))
cleaned-decodes k a xs s h =
    let lay : Layout = layout k a in
    let p = record-again lay xs (layout-sound k a) s h in
    subst (λ (l : List ℕ). Decodes lay l (unflagged (value lay xs))) (flag-unwritten lay (value lay xs) ∙ p.1)
    (record-there lay (unflagged (value lay xs)) (layout-sound k a) p.0)

-- so it has the same identifier, which no ignored byte is part of
cleaned-identifier : (k : Known) (a : Attributes) (xs : List ℕ) → small xs ≡ true → check_by (layout k a) xs ≡ 0 → bit a.sample 16 ≡ true → a.all ≡ true
    → identifier_of (cleaned_record (layout k a) xs) ≡ identifier_of xs
unfolding Decodes value unflagged
cleaned-identifier k a xs s h m o = by (eqb (kind_of xs) 9) refl
  where
    ys : List ℕ
    ys = cleaned_record (layout k a) xs

    d : (small ys ≡ true) × (check_by (layout k a) ys ≡ 0) × (value (layout k a) ys ≡ unflagged (value (layout k a) xs))
    d = cleaned-decodes k a xs s h

    kinds : kind_of ys ≡ kind_of xs
    kinds = ap (λ (v : Value). v.kind) d.2

    top : List Con → ℕ
    top l = (get_or l 0 (con 0 [])).num

    by : (t : Bool) → eqb (kind_of xs) 9 ≡ t → identifier_of ys ≡ identifier_of xs
    by true e =
        let n : kind_of xs ≡ 9 = eqb-true (kind_of xs) 9 e in
        ap top (sym (body-first k a ys d.1 m (kinds ∙ n)) ∙ ap (λ (v : Value). take 1 v.body) d.2 ∙ body-first k a xs h m n)
    by false e =
        let p = tail-last k a ys d.1 m o ∙ ap (λ (b : Bool). cond b (con 0 []) (con (identifier_of ys) []) ∷ []) (ap (λ (n : ℕ). eqb n 9) kinds ∙ e) in
        let q = tail-last k a xs h m o ∙ ap (λ (b : Bool). cond b (con 0 []) (con (identifier_of xs) []) ∷ []) e in
        ap top (sym p ∙ ap (λ (v : Value). drop 7 v.tail) d.2 ∙ q)

-- ---- two records

module _ (R : Reads) (good : SoundReads R) (xs ys : List ℕ) (wx : Whole xs) (wy : Whole ys) where
  abbrev lay : ℕ → Layout
  lay i = layout R.known (R.attributes i)

  -- an accepted record is accepted under its own layout
  left-checked : R.judge xs ≡ 0 → check_by (layout_of R xs) xs ≡ 0
  left-checked h = checked R.known (R.attributes (identifier_of xs)) xs wx.1 ∙ good.own xs h

  right-checked : R.judge ys ≡ 0 → check_by (layout_of R ys) ys ≡ 0
  right-checked h = checked R.known (R.attributes (identifier_of ys)) ys wy.1 ∙ good.own ys h

  cleaned-same : Cleaned R xs ys → Same R xs ys
  cleaned-same c =
      let hx = c.left-accepted in
      let hy = c.right-accepted in
      let i : ℕ = identifier_of xs in
      let ei : identifier_of xs ≡ identifier_of ys =
      sym (cleaned-identifier R.known (R.attributes i) xs wx.0 (left-checked hx) (good.marked xs hx).0 (good.marked xs hx).1)
      ∙ ap identifier_of c.bytes-alike
      ∙ cleaned-identifier R.known (R.attributes (identifier_of ys)) ys wy.0 (right-checked hy) (good.marked ys hy).0 (good.marked ys hy).1 in
      let cy : check_by (lay i) ys ≡ 0 = ap (λ (j : ℕ). check_by (lay j) ys) ei ∙ right-checked hy in
      let e : cleaned_record (lay i) xs ≡ cleaned_record (lay i) ys = c.bytes-alike ∙ ap (λ (j : ℕ). cleaned_record (lay j) ys) (sym ei) in
      let f : flag_of (lay i) xs ≡ flag_of (lay i) ys = c.flags-alike ∙ ap (λ (j : ℕ). flag_of (lay j) ys) (sym ei) in
      decoded hx hy (ignored-alike R.known (R.attributes i) xs ys wx.0 wy.0 (left-checked hx) cy e f ∙ ap (λ (j : ℕ). value (lay j) ys) ei)

  bytes_same : xs ≡ ys → Same R xs ys
  bytes_same e = by (eqb (R.judge xs) 0) refl
    where
      by : (t : Bool) → eqb (R.judge xs) 0 ≡ t → Same R xs ys
      by true z =
          let h = eqb-true (R.judge xs) 0 z in
          decoded h (ap R.judge (sym e) ∙ h) (ap (λ (l : List ℕ). value_of R l) e)
      by false z = refused (eqb-false (R.judge xs) 0 z) e

  -- and the other way: records of one value have the same bytes but for the ignored ones
  same-cleaned : Same R xs ys → SameButIgnored R xs ys
  unfolding Decodes
  same-cleaned (decoded hx hy v) =
      let i : ℕ = identifier_of xs in
      let ei : identifier_of xs ≡ identifier_of ys = same_id R good xs ys wx wy hx hy v in
      let cy : check_by (lay i) ys ≡ 0 = ap (λ (j : ℕ). check_by (lay j) ys) ei ∙ right-checked hy in
      let w : value (lay i) ys ≡ value (lay i) xs = ap (λ (j : ℕ). value (lay j) ys) ei ∙ sym v in
      let s = same-value (lay i) xs ys (value (lay i) xs) (layout-sound R.known (R.attributes i)) (wx.0, left-checked hx, refl) (wy.0, cy, w) in
      inl (record {
        left-accepted = hx;
        right-accepted = hy;
        bytes-alike = s ∙ ap (λ (j : ℕ). cleaned_record (lay j) ys) ei;
        flags-alike = sym (flag-of (lay i) xs) ∙ ap (λ (x : Value). x.flag) v ∙ flag-of (layout_of R ys) ys;
      })
  same-cleaned (refused h e) = inr e

  -- two records are equal exactly when they are the same but for ignored bytes
  pub equal-exactly : (SameButIgnored R xs ys → Same R xs ys) × (Same R xs ys → SameButIgnored R xs ys)
  equal-exactly = (⊎_elim cleaned-same bytes_same, same-cleaned)

-- ---- two rings, as `ollskuvan_compare` takes them

module _ (limit e : ℕ) (es : List Event) (ring₁ ring₂ : List ℕ) (head₁ head₂ tail₁ tail₂ : ℕ) (scratch₁ scratch₂ : List ℕ) where
  abbrev reads : Reads
  reads = event_reads (known editions e) es

  abbrev left : Side
  left = left_side limit editions e es ring₁ ring₂ head₁ head₂ tail₁ tail₂ scratch₁ scratch₂

  abbrev right : Side
  right = right_side limit editions e es ring₁ ring₂ head₁ head₂ tail₁ tail₂ scratch₁ scratch₂

  abbrev report : Compared
  report = compared reads left right

  -- both end with 0 after n records, and each two are the same but for ignored bytes
  pub record AllSame (n : ℕ) : Type 0 where
    pub left-long : length (cutting_all left).records ≡ n
    pub right-long : length (cutting_all right).records ≡ n
    pub left_end : (cutting_all left).stop ≡ 0
    pub right_end : (cutting_all right).stop ≡ 0
    pub pairs : (i : ℕ) → i < n → SameButIgnored reads (record_of (cutting_all left) i) (record_of (cutting_all right) i)

  module _ (h : sound limit es ≡ true) (s₁ : small ring₁ ≡ true) (s₂ : small ring₂ ≡ true) where
    abbrev WholeCut : Cut → Type 0
    WholeCut c = Whole c.record-bytes

    left-whole : (i : ℕ) → i < length (cutting_all left).records → Whole (record_of (cutting_all left) i)
    left-whole i = all-at WholeCut (cutting_all left).records i (side-whole left head₁ (framed-side (asked_events limit editions e es) ring₁ head₁ tail₁ scratch₁ s₁))

    right-whole : (i : ℕ) → i < length (cutting_all right).records → Whole (record_of (cutting_all right) i)
    right-whole i = all-at WholeCut (cutting_all right).records i (side-whole right head₂ (framed-side (asked_events limit editions e es) ring₂ head₂ tail₂ scratch₂ s₂))

    both : (n i : ℕ) → length (cutting_all left).records ≡ n → length (cutting_all right).records ≡ n → i < n
        → (SameButIgnored reads (record_of (cutting_all left) i) (record_of (cutting_all right) i) → Same reads (record_of (cutting_all left) i) (record_of (cutting_all right) i))
        × (Same reads (record_of (cutting_all left) i) (record_of (cutting_all right) i) → SameButIgnored reads (record_of (cutting_all left) i) (record_of (cutting_all right) i))
    both n i p q g =
        equal-exactly reads (event-sound (known editions e) es (sound-marked limit es h)) (record_of (cutting_all left) i) (record_of (cutting_all right) i)
        (left-whole i (omega (arith, p, g))) (right-whole i (omega (arith, q, g)))

    -- "Positions and ignored bytes don't count"
    pub ignored-do-not-count : (n : ℕ) → AllSame n → report ≡ all_alike n
    ignored-do-not-count n a =
        (alike-all-equal limit e es ring₁ ring₂ head₁ head₂ tail₁ tail₂ scratch₁ scratch₂ h s₁ s₂).1 n
        (record {
          left-long = a.left-long;
          right-long = a.right-long;
          left_end = a.left_end;
          right_end = a.right_end;
          pairs = λ i g. (both n i a.left-long a.right-long g).0 (a.pairs i g);
        })

    -- all else does: what is told to be alike differs in positions and ignored bytes alone
    pub all-else-counts : report.what ≡ 0 → AllSame report.records
    all-else-counts z =
        let q = (alike-all-equal limit e es ring₁ ring₂ head₁ head₂ tail₁ tail₂ scratch₁ scratch₂ h s₁ s₂).0 z in
        record {
          left-long = q.left-long;
          right-long = q.right-long;
          left_end = q.left_end;
          right_end = q.right_end;
          pairs = λ i g. (both report.records i q.left-long q.right-long g).1 (q.pairs i g);
        }
