-- The results of single crates, each told apart by what its contract says of it, as Views has it of answers and steps.
-- Assumes nothing.
use Rattle.std.specs.Prelude.{◌≡◌, refl, ℕ, ◌<◌, ◌≤◌, cond, eqb, List, length, get_or, is_some, unwrap_or, Result, Ok, Err, Option, Some, None, IfOk, IfSome}
use Rattle.std.specs.Coded.{le_prop}
use Rattle.std.proofs.Common.{sym, ap, ◌∙◌, arith}
use mathlib.Core.HLevel.{is_prop→PathP}
use Rattle.laws.specs.Bytes.{apart}
use Rattle.meaning.specs.declared.Found.{Found}
use Rattle.meaning.specs.declared.Reason.{Reason}
use Rattle.meaning.specs.declared.Spot.{Spot}
use Rattle.meaning.specs.States.{Cursor, Frame, Reading, One}
use Rattle.meaning.specs.Reasons.{answer_of}
use Rattle.entries.specs.declared.Entry.{Entry as FoundEntry}
use Rattle.entries.specs.Entries.{Entry, entry_of}
use Rattle.fields.specs.declared.Words.{Words}
use Rattle.fields.specs.declared.Words.TheVariants.{One as OneWord, Two as TwoWords}
use Rattle.fields.specs.declared.Words.TheVariants as word
use Rattle.fields.specs.Told.{words_in}
use Rattle.item_pairs.specs.declared.After.{After}
use Rattle.item_pairs.specs.Passed.{Both, both_of}
use Rattle.reader.specs.declared.Field.{Field as FoundField}
use Rattle.reader.specs.declared.Header.{Header as FoundHeader}
use Rattle.reader.specs.declared.Cut.{Cut}
use Rattle.reader.specs.Field.{Field, Header, field_told, header_told}
use Rattle.answers.specs.declared.Stopped.{Stopped}
use Rattle.answers.specs.Answer.{walk_told, Whole, refused_or}
use Rattle.laws.specs.Reasons.{number-some}
use Rattle.plain_read.specs.Read.{reading_of}
use Rattle.ring.specs.Part.{told_frame}
use Rattle.one.specs.declared.One.{One as Taken}
use Rattle.one.specs.Told.{one_of}
use Rattle.event_laws.specs.Match.{Match, match_of}
use Rattle.settings.specs.declared.Version.{Version as HeldVersion}
use Rattle.settings.specs.Versions.{Version, row_of, found, passed}
use Rattle.replay_entries.specs.declared.Step.{Step}
use Rattle.replay_entries.specs.declared.Step.TheVariants.{Offer, Drain}
use Rattle.replay_entries.specs.Steps.{asked, StepIs}
use Rattle.replay_offer.specs.declared.Bench.{Bench}
use Rattle.replay_offer.specs.Benches.{lent_of, SameBench}
use Rattle.window.specs.Window.{Answer as WindowAnswer, answer_told}
use Rattle.writer_items.specs.Tries.{state_of}
use Rattle.writer_words.specs.declared.Given.{Given}
use Rattle.writer_words.specs.Tellings.{slot_of}
use Rattle.uniqueness.specs.Views.{answer_with, reason-again, carried, one-reason, one-answer}

-- ---- an index or a size that may be none: what stands for none is no index, and no size

pub one-index : (n : ℕ) (x y : Option ℕ) → IfSome x (λ i. i < n) → IfSome y (λ i. i < n) → unwrap_or x n ≡ unwrap_or y n → x ≡ y
one-index n None None g h e = refl
one-index n None (Some j) g h e = absurd (omega (arith, h, e))
one-index n (Some i) None g h e = absurd (omega (arith, g, e))
one-index n (Some i) (Some j) g h e = ap Some e

pub one-size : (x y : Option ℕ) → IfSome x (λ n. 0 < n) → IfSome y (λ n. 0 < n) → unwrap_or x 0 ≡ unwrap_or y 0 → x ≡ y
one-size None None g h e = refl
one-size None (Some j) g h e = absurd (omega (arith, h, e))
one-size (Some i) None g h e = absurd (omega (arith, g, e))
one-size (Some i) (Some j) g h e = ap Some e

pub one-unit : (x y : Option ℕ) → is_some x ≡ is_some y → unwrap_or x 1 ≡ unwrap_or y 1 → x ≡ y
one-unit None None g e = refl
one-unit None (Some j) g e = absurd (apart g)
one-unit (Some i) None g e = absurd (apart (sym g))
one-unit (Some i) (Some j) g e = ap Some e

-- ---- entries: an entry that stands at a place

abbrev entry_with : Entry → Option FoundEntry
entry_with e = cond e.whole (Some (record { kind = e.kind; body = e.body; length = e.length })) None

entry-again : (x : Option FoundEntry) → entry_with (entry_of x) ≡ x
entry-again None = refl
entry-again (Some e) = refl

pub one-entry : (x y : Option FoundEntry) → entry_of x ≡ entry_of y → x ≡ y
one-entry x y e = sym (entry-again x) ∙ (ap entry_with e ∙ entry-again y)

-- ---- fields: the words of an item

abbrev words_with : List ℕ → Words
words_with ws = cond (eqb (length ws) 0) word.None (cond (eqb (length ws) 1) (OneWord (get_or ws 0 0)) (TwoWords (get_or ws 0 0) (get_or ws 1 0)))

words-again : (x : Words) → words_with (words_in x) ≡ x
words-again word.None = refl
words-again (OneWord a) = refl
words-again (TwoWords a b) = refl

pub one-words : (x y : Words) → words_in x ≡ words_in y → x ≡ y
one-words x y e = sym (words-again x) ∙ (ap words_with e ∙ words-again y)

-- ---- item_pairs: where both walks stand after an item, whose fields are the same or are not

after-same : (a b : After) → both_of (Ok a) ≡ both_of (Ok b) → a ≡ b
after-same a b e = λ j. record {
  c = record { at = (e j).c.at; n = (e j).c.n; old = (e j).c.old };
  d = record { at = (e j).d.at; n = (e j).d.n; old = (e j).d.old };
  w = (e j).w;
  x = (e j).x;
  told = (e j).told;
}

after-differs : (a b : After) → both_of (Err a) ≡ both_of (Err b) → a ≡ b
after-differs a b e = λ j. record {
  c = record { at = (e j).c.at; n = (e j).c.n; old = (e j).c.old };
  d = record { at = (e j).d.at; n = (e j).d.n; old = (e j).d.old };
  w = (e j).w;
  x = (e j).x;
  told = (e j).told;
}

pub one-after : (x y : Result After After) → both_of x ≡ both_of y → x ≡ y
one-after (Ok a) (Ok b) e = ap Ok (after-same a b e)
one-after (Ok a) (Err b) e = absurd (apart (sym (ap (λ (b : Both). b.same) e)))
one-after (Err a) (Ok b) e = absurd (apart (ap (λ (b : Both). b.same) e))
one-after (Err a) (Err b) e = ap Err (after-differs a b e)

-- ---- reader: a field, and a header

abbrev field_with : Field → Result FoundField Reason
field_with f = carried (answer_with f.why) (record { value = f.value; next = f.next })

field-again : (at : ℕ) (x : Result FoundField Reason) → field_with (field_told at x) ≡ x
field-again at (Ok f) = refl
field-again at (Err r) = ap (λ (a : Result (Unit {0}) Reason). carried a (record { value = 0; next = at })) (reason-again r)

pub one-field : (at : ℕ) (x y : Result FoundField Reason) → field_told at x ≡ field_told at y → x ≡ y
one-field at x y e = sym (field-again at x) ∙ (ap field_with e ∙ field-again at y)

abbrev header_with : Header → Result FoundHeader Cut
header_with h =
    cond (eqb h.why 0) (Ok (record { kind = h.kind; misc = h.misc; size = h.size })) (Err (record { kind = h.kind; misc = h.misc; next = h.next }))

header-again : (x : Result FoundHeader Cut) → header_with (header_told x) ≡ x
header-again (Ok h) = refl
header-again (Err c) = refl

pub one-header : (x y : Result FoundHeader Cut) → header_told x ≡ header_told y → x ≡ y
one-header x y e = sym (header-again x) ∙ (ap header_with e ∙ header-again y)

-- ---- answers: where a walk ends, and the header of a whole record

abbrev pub stopped_by : Result (Unit {0}) Reason → Spot → Result Spot Stopped
stopped_by (Ok _) s = Ok s
stopped_by (Err r) s = Err (record { spot = s; reason = r })

abbrev walk_with : Cursor → Result Spot Stopped
walk_with c = stopped_by (answer_with c.why) (record { at = c.at; n = c.n; old = c.old })

walk-again : (x : Result Spot Stopped) → walk_with (walk_told x) ≡ x
walk-again (Ok s) = refl
walk-again (Err s) = ap (λ (a : Result (Unit {0}) Reason). stopped_by a s.spot) (reason-again s.reason)

pub one-walk : (x y : Result Spot Stopped) → walk_told x ≡ walk_told y → x ≡ y
one-walk x y e = sym (walk-again x) ∙ (ap walk_with e ∙ walk-again y)

pub one-whole :
    (xs : List ℕ) (x y : Result FoundHeader Reason) → IfOk x (λ h. Whole xs h) → IfOk y (λ h. Whole xs h)
    → refused_or x 0 ≡ refused_or y 0 → x ≡ y
one-whole xs (Ok h) (Ok k) p q e =
    let kind = p.kind-is ∙ sym q.kind-is in
    let misc = p.misc-is ∙ sym q.misc-is in
    let size = p.size_is ∙ sym q.size_is in
    λ j. Ok (record { kind = kind j; misc = misc j; size = size j })
one-whole xs (Ok h) (Err r) p q e = absurd (number-some r (sym e))
one-whole xs (Err r) (Ok k) p q e = absurd (number-some r e)
one-whole xs (Err r) (Err s) p q e = ap Err (one-reason r s e)

-- ---- plain_read, one: the words of a record, and the next record with them

abbrev reading_with : Reading → Result (List ℕ) Reason
reading_with r = carried (answer_with r.answer) r.words

reading-again : (x : Result (List ℕ) Reason) → reading_with (reading_of x) ≡ x
reading-again (Ok ws) = refl
reading-again (Err r) = ap (λ (a : Result (Unit {0}) Reason). carried a (reading_of (Err r)).words) (reason-again r)

pub one-reading : (x y : Result (List ℕ) Reason) → reading_of x ≡ reading_of y → x ≡ y
one-reading x y e = sym (reading-again x) ∙ (ap reading_with e ∙ reading-again y)

abbrev one_with : One → Result (Option Taken) Reason
one_with o =
    cond o.frame.go
    (Ok (Some (record { found = record { place = o.frame.place; size = o.frame.size }; tail = o.tail; value = reading_with (record { answer = o.answer; words = o.words }) })))
    (carried (answer_with o.frame.stop) None)

one-again : (tail : ℕ) (x : Result (Option Taken) Reason) → one_with (one_of tail x) ≡ x
one-again tail (Ok (Some o)) = ap (λ (v : Result (List ℕ) Reason). Ok (Some (record { found = o.found; tail = o.tail; value = v }))) (reading-again o.value)
one-again tail (Ok None) = refl
one-again tail (Err r) = ap (λ (a : Result (Unit {0}) Reason). carried a None) (reason-again r)

pub one-taken : (tail : ℕ) (x y : Result (Option Taken) Reason) → one_of tail x ≡ one_of tail y → x ≡ y
one-taken tail x y e = sym (one-again tail x) ∙ (ap one_with e ∙ one-again tail y)

-- ---- ring: the next record, or the number of a stop

abbrev found_with : Frame → Result Found ℕ
found_with f = cond f.go (Ok (record { place = f.place; size = f.size })) (Err f.stop)

found-again : (x : Result Found ℕ) → found_with (told_frame x) ≡ x
found-again (Ok f) = refl
found-again (Err k) = refl

pub one-found : (x y : Result Found ℕ) → told_frame x ≡ told_frame y → x ≡ y
one-found x y e = sym (found-again x) ∙ (ap found_with e ∙ found-again y)

-- ---- event_judge: the event that a record is matched with

abbrev match_with : Match → Result ℕ Reason
match_with m = carried (answer_with m.answer) m.index

match-again : (x : Result ℕ Reason) → match_with (match_of x) ≡ x
match-again (Ok i) = refl
match-again (Err r) = ap (λ (a : Result (Unit {0}) Reason). carried a 0) (reason-again r)

pub one-match : (x y : Result ℕ Reason) → match_of x ≡ match_of y → x ≡ y
one-match x y e = sym (match-again x) ∙ (ap match_with e ∙ match-again y)

-- ---- settings: a version that was looked for, and the one that a store shows

one-held : (v w : HeldVersion) → row_of v ≡ row_of w → v ≡ w
one-held v w e = λ i. record {
  number = (e i).number;
  width = (e i).width;
  limit = (e i).limit;
  low = is_prop→PathP (λ k. 1 ≤ (e k).width) (λ k. le_prop) v.low w.low i;
  high = is_prop→PathP (λ k. (e k).width ≤ 2) (λ k. le_prop) v.high w.high i;
  most = is_prop→PathP (λ k. (e k).limit ≤ 1024) (λ k. le_prop) v.most w.most i;
}

pub one-version : (x y : Option HeldVersion) → found x ≡ found y → x ≡ y
one-version None None e = refl
one-version None (Some v) e = absurd (let n = ap (λ (w : Version). w.width) e in let l = v.low in omega (arith, l, n))
one-version (Some v) None e = absurd (let n = ap (λ (w : Version). w.width) e in let l = v.low in omega (arith, l, n))
one-version (Some v) (Some w) e = ap Some (one-held v w e)

pub one-first : (v : Version) (x y : Result HeldVersion Reason) → IfOk x (λ w. row_of w ≡ v) → IfOk y (λ w. row_of w ≡ v) → answer_of (passed x) ≡ answer_of (passed y) → x ≡ y
one-first v (Ok a) (Ok b) g h e = ap Ok (one-held a b (g ∙ sym h))
one-first v (Ok a) (Err r) g h e = absurd (number-some r (sym e))
one-first v (Err r) (Ok b) g h e = absurd (number-some r e)
one-first v (Err r) (Err s) g h e = ap Err (one-reason r s e)

-- ---- replay_entries: what the entry at a place asks for; replay_offer: the bench after an offer

one-ask : (xs : List ℕ) (from : ℕ × ℕ) (at : ℕ) (a b : Step) → StepIs xs from at a → StepIs xs from at b → a ≡ b
one-ask xs from at (Offer r) (Offer t) g h =
    ap Offer (λ i. record { ref_ptr = (g.2 ∙ sym h.2) i; now = (g.1 ∙ sym h.1) i })
one-ask xs from at (Offer r) (Drain m) g h = absurd (let k = ap (λ (e : Entry). e.kind) (sym g.0 ∙ h.0) in omega (arith, k))
one-ask xs from at (Drain n) (Offer r) g h = absurd (let k = ap (λ (e : Entry). e.kind) (sym h.0 ∙ g.0) in omega (arith, k))
one-ask xs from at (Drain n) (Drain m) g h = ap Drain (g.1 ∙ sym h.1)

pub one-next : (xs : List ℕ) (from : ℕ × ℕ) (at : ℕ) (x y : Result Step Reason) → IfOk x (StepIs xs from at) → IfOk y (StepIs xs from at)
    → answer_of (asked x) ≡ answer_of (asked y) → x ≡ y
one-next xs from at (Ok a) (Ok b) g h e = ap Ok (one-ask xs from at a b g h)
one-next xs from at (Ok a) (Err r) g h e = absurd (number-some r (sym e))
one-next xs from at (Err r) (Ok b) g h e = absurd (number-some r e)
one-next xs from at (Err r) (Err s) g h e = ap Err (one-reason r s e)

pub one-bench : (b x y : Bench) → lent_of x ≡ lent_of y → SameBench b x → SameBench b y → x ≡ y
one-bench b x y e g h =
    λ i. record {
      rooms = record { ref_ptr = (g.1.1 ∙ sym h.1.1) i; ghost_name = (g.1.0 ∙ sym h.1.0) i; now = (e i).rooms };
      half = (g.0 ∙ sym h.0) i;
      journal = record { ref_ptr = (g.2.1 ∙ sym h.2.1) i; ghost_name = (g.2.0 ∙ sym h.2.0) i; now = (e i).journal };
      counts = (e i).counts;
    }

-- ---- window: the answer of a record, or none

pub one-told : (x y : Option (Result (Unit {0}) Reason)) → answer_told x ≡ answer_told y → x ≡ y
one-told None None e = refl
one-told None (Some b) e = absurd (apart (ap (λ (w : WindowAnswer). w.go) e))
one-told (Some a) None e = absurd (apart (sym (ap (λ (w : WindowAnswer). w.go) e)))
one-told (Some a) (Some b) e = ap Some (one-answer a b (ap (λ (w : WindowAnswer). w.answer) e))

-- ---- writer: the state after an item, and what tells it

abbrev state_with : Cursor → Result Spot Reason
state_with c = carried (answer_with c.why) (record { at = c.at; n = c.n; old = c.old })

state-again : (x : Result Spot Reason) → state_with (state_of x) ≡ x
state-again (Ok t) = refl
state-again (Err r) = ap (λ (a : Result (Unit {0}) Reason). carried a (record { at = 0; n = 0; old = 0 })) (reason-again r)

pub one-state : (x y : Result Spot Reason) → state_of x ≡ state_of y → x ≡ y
one-state x y e = sym (state-again x) ∙ (ap state_with e ∙ state-again y)

pub one-given : (x y : Given) → slot_of x ≡ slot_of y → x ≡ y
one-given x y e = λ j. record { number = (e j).num; place = (e j).place; count = (e j).count }
