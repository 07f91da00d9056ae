-- "For every public function the contract says what comes back and what each lent slice then holds, for all inputs, refusals too. Show that any two
-- results allowed by it are equal". Stated over the contracts themselves: for each public function, any two results that its contract allows at the
-- same arguments are equal, and so is what each lent slice holds at exit. `Learnt` is what a caller learns of a call: the claims of the
-- contract's clauses, as the check of that crate reads them, so a contract that is weakened is refused here. What a contract leaves open is
-- listed in docs/UNIQUENESS.md. Assumes nothing.
use Rattle.std.specs.Prelude.{◌≡◌, refl, Bool, true, false, cond, List, [], ◌∷◌, map, ℕ}
use Rattle.std.proofs.Common.{sym, ap, ◌∙◌, add-zero}
use Rattle.std.proofs.Math.Seq.{slice}
use contract.Lifetimes.{Lfts}
use denote.Triple.Clauses.{AtExit}
use borrow.Fn.Kinds.{ParamKind, ResultKind, Out, Dens, res_t, ended_of}
use denote.RattleType.{RattleType}
use denote.Param.Laws.{Laws}
use mir.Syntax.{Dict}
use Rattle.meaning.specs.declared.Attributes.{Attributes}
use Rattle.meaning.specs.States.{Cursor, Frame}
use Rattle.meaning.specs.declared.Item.{Item}
use Rattle.meaning.specs.declared.Shape.TheVariants.{Bytes}
use Rattle.meaning.specs.Items.{span}
use Rattle.meaning.specs.Schema.{always}
use Rattle.meaning.specs.Editions.{editions}
use Rattle.meaning.specs.Events.{event_limit, asked_events}
use Rattle.table.specs.Rows.{rows, item_of}
use Rattle.blocks.specs.Seen.{Leaves, Closes}
use Rattle.blocks.specs.Steady.{one_width, width_of, steady, total}
use Rattle.uniqueness.specs.Views.{one-reason, one-answer, one-step, one-spot, one-frame, one-place}
use Rattle.uniqueness.specs.Results.{one-index, one-size, one-unit, one-entry, one-words, one-after, one-field, one-header, one-walk, one-whole, one-reading, one-taken, one-found, one-match, one-version, one-first, one-next, one-bench, one-told, one-state, one-given}
use Rattle.meaning.proofs as meaning
use Rattle.put.proofs as put
use Rattle.wire.proofs as wire
use Rattle.entries.proofs as entries
use Rattle.spans.proofs as spans
use Rattle.shapes.proofs as shapes
use Rattle.fields.proofs as fields
use Rattle.misc.proofs as misc
use Rattle.table.proofs as table
use Rattle.items.proofs as items
use Rattle.rules.proofs as rules
use Rattle.answers.proofs as answers
use Rattle.record.proofs as records
use Rattle.identifiers.proofs as identifiers
use Rattle.identifiers.specs.declared.Identified.{Ghosts as Identifiers}
use Rattle.plain_read.proofs as readings
use Rattle.events.proofs as events
use Rattle.event_judge.proofs as event-judge
use Rattle.event_list.proofs as list
use Rattle.blocks.proofs as blocks
use Rattle.exact.proofs as exact
use Rattle.exact_sample.proofs as exact-sample
use Rattle.sums.proofs as sums
use Rattle.marks.proofs as marks
use Rattle.plan.proofs as plan
use Rattle.names.proofs as names
use Rattle.ring.proofs as ring
use Rattle.settings.specs.Lent.{same-table}
use Rattle.settings.specs.Versions.{row_of, place_of}
use Rattle.settings.proofs as settings
use Rattle.settings_entries.proofs as settings-entries
use Rattle.settings_walk.proofs as settings-walk
use Rattle.settings_rows.proofs as settings-rows
use Rattle.settings_read.proofs as settings-read
use Rattle.settings_put.proofs as settings-put
use Rattle.settings_write.proofs as settings-write
use Rattle.readers.proofs as readers
use Rattle.shown.proofs as shown
use Rattle.one.proofs as one
use Rattle.one.specs.Told.{gathered}
use Rattle.reader.proofs as reader
use Rattle.journals.proofs as journals
use Rattle.taking.proofs as taking
use Rattle.taking.specs.declared.Judge.{Ghosts as Judges}
use Rattle.drain.proofs as drains
use Rattle.event_drain.proofs as eventful
use Rattle.walk_back.proofs as walks
use Rattle.back_rows.proofs as backrows
use Rattle.event_check.proofs as event-check
use Rattle.event_read.proofs as event-read
use Rattle.event_one.proofs as single
use Rattle.salvage_kept.proofs as salvage-kept
use Rattle.salvage_steps.proofs as salvage-steps
use Rattle.salvaging.proofs as salvaging
use Rattle.same_bytes.proofs as same_bytes
use Rattle.item_pairs.proofs as item-pairs
use Rattle.item_pairs.specs.Passed.{passed-one}
use Rattle.same_parts.proofs as same_parts
use Rattle.twins.proofs as twins
use Rattle.comparing.proofs as comparing
use Rattle.compare.specs.declared.Compared.{Compared}
use Rattle.compare.specs.Compared.{Side, side_of, scratch_then}
use Rattle.fast_drain.proofs as fast
use Rattle.window.specs.declared.WindowJudge.{Ghosts as WindowJudges}
use Rattle.window.proofs as windows
use Rattle.event_window.proofs as event-windows
use Rattle.fast_event_drain.proofs as fast-events
use Rattle.window_entries.proofs as window-entries
use Rattle.rooms.proofs as rooms
use Rattle.replay_entries.proofs as replay-entries
use Rattle.replay_offer.proofs as replay-offer
use Rattle.playing.proofs as playing
use Rattle.replaying.proofs as replaying
use Rattle.given.proofs as given
use Rattle.fast_check.proofs as checks
use Rattle.layouts.proofs as layouts
use Rattle.fills.proofs as fills
use Rattle.chains.proofs as chains
use Rattle.fast_read.proofs as fast-read
use Rattle.ollskuvan_loop.proofs as loop
use Rattle.ollskuvan_table.proofs as tabled
use Rattle.ollskuvan_events.proofs as recorded
use Rattle.ollskuvan_store.proofs as stored
use Rattle.ollskuvan_saved.proofs as saved
use Rattle.ollskuvan.proofs as ollskuvan
use Rattle.writer_words.proofs as words
use Rattle.writer_forms.proofs as forms
use Rattle.writer_forms.specs.One.{one-form}
use Rattle.writer_items.proofs as written-items
use Rattle.writer_parts.proofs as parts
use Rattle.writer_parts.specs.Parts.{part_items}
use Rattle.writer_record.proofs as whole
use Rattle.writer.proofs as writer
use Rattle.writer.specs.declared.Pen.{Ghosts as Pens}
use Rattle.writer_items.specs.Tries.{unfit}
use Rattle.writer_parts.specs.Parts.{try_items}
use Rattle.write_fits.proofs as fits
use Rattle.write_fits.specs.declared.Walked.{Walked as Reached}
use Rattle.write_fits.specs.Steps.{state_of, try_from, Tried}
use Rattle.write_puts.proofs as puts
use Rattle.fit_chains.proofs as tests
use Rattle.fast_writer.proofs as straight

-- the law: a contract is an equation for each result and each slice, so one law settles it
pub same : {A : Type 0} {x y z : A} → x ≡ z → y ≡ z → x ≡ y
same p q = p ∙ sym q

-- any two results; s and t are the parameters at exit
abbrev pub Result : {n : ℕ} (ps : List (ParamKind n)) (r : ResultKind n) → Out n ps r → Type 0
Result {n} ps r Learnt = (κs : Lfts n) (a : Dens κs ps) (x y : (res_t r κs).Denot) (s t : AtExit (ended_of n ps r) κs) → Learnt κs a x s → Learnt κs a y t → x ≡ y

-- what is seen of any two results, and of the parameters at exit
abbrev pub Seen : {n : ℕ} (ps : List (ParamKind n)) (r : ResultKind n) → Out n ps r → {S : Type 0} → ((κs : Lfts n) → (res_t r κs).Denot → AtExit (ended_of n ps r) κs → S) → Type 0
Seen {n} ps r Learnt see =
    (κs : Lfts n) (a : Dens κs ps) (x y : (res_t r κs).Denot) (s t : AtExit (ended_of n ps r) κs) → Learnt κs a x s → Learnt κs a y t → see κs x s ≡ see κs y t

-- ---- meaning: the numbers of reasons, answers, types and bits of misc; widths; a row as an event, an event as attributes

pub meaning-reason-number : Result meaning.Reason.number.Kinds.ps meaning.Reason.number.Kinds.r meaning.Reason.number.Reads.Learnt
meaning-reason-number κs a x y s t p q = same p q

pub meaning-answer-number : Result meaning.answer_number.Kinds.ps meaning.answer_number.Kinds.r meaning.answer_number.Reads.Learnt
meaning-answer-number κs a x y s t p q = same p q

pub meaning-kind-number : Result meaning.Kind.number.Kinds.ps meaning.Kind.number.Kinds.r meaning.Kind.number.Reads.Learnt
meaning-kind-number κs a x y s t p q = same p q

pub meaning-bit13-number : Result meaning.Bit13.number.Kinds.ps meaning.Bit13.number.Kinds.r meaning.Bit13.number.Reads.Learnt
meaning-bit13-number κs a x y s t p q = same p.0 q.0

pub meaning-bit14-number : Result meaning.Bit14.number.Kinds.ps meaning.Bit14.number.Kinds.r meaning.Bit14.number.Reads.Learnt
meaning-bit14-number κs a x y s t p q = same p.0 q.0

pub meaning-width-bytes : Result meaning.Width.bytes.Kinds.ps meaning.Width.bytes.Kinds.r meaning.Width.bytes.Reads.Learnt
meaning-width-bytes κs a x y s t p q = same p.0 q.0

pub meaning-width-largest : Result meaning.Width.largest.Kinds.ps meaning.Width.largest.Kinds.r meaning.Width.largest.Reads.Learnt
meaning-width-largest κs a x y s t p q = same p q

pub meaning-event-from : Result meaning.EventFromArrayU647.from.Kinds.ps meaning.EventFromArrayU647.from.Kinds.r meaning.EventFromArrayU647.from.Reads.Learnt
meaning-event-from κs a x y s t p q = same p q

pub meaning-attributes-from : Result meaning.AttributesFromEvent.from.Kinds.ps meaning.AttributesFromEvent.from.Kinds.r meaning.AttributesFromEvent.from.Reads.Learnt
meaning-attributes-from κs a x y s t p q = same p q

-- ---- put, wire: bytes, numbers and bits in lent slices

pub wire-wide : Result wire.wide.Kinds.ps wire.wide.Kinds.r wire.wide.Reads.Learnt
wire-wide κs a x y s t p q = same p.0 q.0

pub wire-u8-at : Result wire.u8_at.Kinds.ps wire.u8_at.Kinds.r wire.u8_at.Reads.Learnt
wire-u8-at κs a x y s t p q = same p.0 q.0

pub wire-u16-at : Result wire.u16_at.Kinds.ps wire.u16_at.Kinds.r wire.u16_at.Reads.Learnt
wire-u16-at κs a x y s t p q = same p.0 q.0

pub wire-u32-at : Result wire.u32_at.Kinds.ps wire.u32_at.Kinds.r wire.u32_at.Reads.Learnt
wire-u32-at κs a x y s t p q = same p.0 q.0

pub wire-u64-at : Result wire.u64_at.Kinds.ps wire.u64_at.Kinds.r wire.u64_at.Reads.Learnt
wire-u64-at κs a x y s t p q = same p q

pub put-copy-at : Seen put.copy_at.Kinds.ps put.copy_at.Kinds.r put.copy_at.Reads.Learnt (λ κs x s. s.1.0.now)
put-copy-at κs a x y s t p q = same p q

pub put-zero-at : Seen put.zero_at.Kinds.ps put.zero_at.Kinds.r put.zero_at.Reads.Learnt (λ κs x s. s.0.now)
put-zero-at κs a x y s t p q = same p q

pub put-le16 : Result put.le16.Kinds.ps put.le16.Kinds.r put.le16.Reads.Learnt
put-le16 κs a x y s t p q = same p q

pub put-le32 : Result put.le32.Kinds.ps put.le32.Kinds.r put.le32.Reads.Learnt
put-le32 κs a x y s t p q = same p q

pub put-le64 : Result put.le64.Kinds.ps put.le64.Kinds.r put.le64.Reads.Learnt
put-le64 κs a x y s t p q = same p q

pub put-put8 : Seen put.put8.Kinds.ps put.put8.Kinds.r put.put8.Reads.Learnt (λ κs x s. s.0.now)
put-put8 κs a x y s t p q = same p q

pub put-put16 : Seen put.put16.Kinds.ps put.put16.Kinds.r put.put16.Reads.Learnt (λ κs x s. s.0.now)
put-put16 κs a x y s t p q = same p q

pub put-put32 : Seen put.put32.Kinds.ps put.put32.Kinds.r put.put32.Reads.Learnt (λ κs x s. s.0.now)
put-put32 κs a x y s t p q = same p q

pub put-put64 : Seen put.put64.Kinds.ps put.put64.Kinds.r put.put64.Reads.Learnt (λ κs x s. s.0.now)
put-put64 κs a x y s t p q = same p q

pub wire-has-bit : Result wire.has_bit.Kinds.ps wire.has_bit.Kinds.r wire.has_bit.Reads.Learnt
wire-has-bit κs a x y s t p q = same p q

pub wire-low3 : Result wire.low3.Kinds.ps wire.low3.Kinds.r wire.low3.Reads.Learnt
wire-low3 κs a x y s t p q = same p q

pub wire-count-ones : Result wire.count_ones.Kinds.ps wire.count_ones.Kinds.r wire.count_ones.Reads.Learnt
wire-count-ones κs a x y s t p q = same p.0 q.0

-- ---- entries: the format of stores, traces and lists of changes

pub entries-kind-number : Result entries.EntryKind.number.Kinds.ps entries.EntryKind.number.Kinds.r entries.EntryKind.number.Reads.Learnt
entries-kind-number κs a x y s t p q = same p q

pub entries-entry-is-of : Result entries.Entry.is_of.Kinds.ps entries.Entry.is_of.Kinds.r entries.Entry.is_of.Reads.Learnt
entries-entry-is-of κs a x y s t p q = same p q

pub entries-entry-at : Result entries.entry_at.Kinds.ps entries.entry_at.Kinds.r entries.entry_at.Reads.Learnt
entries-entry-at κs a x y s t p q = one-entry _ _ (same p q)

pub entries-put-head : Seen entries.put_head.Kinds.ps entries.put_head.Kinds.r entries.put_head.Reads.Learnt (λ κs x s. s.0.now)
entries-put-head κs a x y s t p q = same p q

pub entries-put-entry : Seen entries.put_entry.Kinds.ps entries.put_entry.Kinds.r entries.put_entry.Reads.Learnt (λ κs x s. s.0.now)
entries-put-entry κs a x y s t p q = same p q

-- ---- spans, shapes, fields: one function for each shape of item; the step; the words

pub spans-ignored : Result spans.ignored.Kinds.ps spans.ignored.Kinds.r spans.ignored.Reads.Learnt
spans-ignored κs a x y s t p q = one-step _ _ _ (same p q)

pub spans-elements : Result spans.elements.Kinds.ps spans.elements.Kinds.r spans.elements.Reads.Learnt
spans-elements κs a x y s t p q = one-step _ _ _ (same p q)

pub shapes-zero-from : Result shapes.zero_from.Kinds.ps shapes.zero_from.Kinds.r shapes.zero_from.Reads.Learnt
shapes-zero-from κs a x y s t p q = same p.0 q.0

pub shapes-name : Result shapes.name.Kinds.ps shapes.name.Kinds.r shapes.name.Reads.Learnt
shapes-name κs a x y s t p q = one-step _ _ _ (same p q)

pub shapes-word-at : Result shapes.word_at.Kinds.ps shapes.word_at.Kinds.r shapes.word_at.Reads.Learnt
shapes-word-at κs a x y s t p q = same p q

pub shapes-count : Result shapes.count.Kinds.ps shapes.count.Kinds.r shapes.count.Reads.Learnt
shapes-count κs a x y s t p q = one-step _ _ _ (same p q)

pub shapes-sized : Result shapes.sized.Kinds.ps shapes.sized.Kinds.r shapes.sized.Reads.Learnt
shapes-sized κs a x y s t p q = one-step _ _ _ (same p q)

pub shapes-filled : Result shapes.filled.Kinds.ps shapes.filled.Kinds.r shapes.filled.Reads.Learnt
shapes-filled κs a x y s t p q = one-step _ _ _ (same p q)

pub shapes-abi : Result shapes.abi.Kinds.ps shapes.abi.Kinds.r shapes.abi.Reads.Learnt
shapes-abi κs a x y s t p q = one-step _ _ _ (same p q)

pub shapes-limit : Result shapes.limit.Kinds.ps shapes.limit.Kinds.r shapes.limit.Reads.Learnt
shapes-limit κs a x y s t p q = one-step _ _ _ (same p q)

pub fields-step : Result fields.step.Kinds.ps fields.step.Kinds.r fields.step.Reads.Learnt
fields-step κs a x y s t p q = one-step _ _ _ (same p q)

pub fields-words-of : Result fields.words_of.Kinds.ps fields.words_of.Kinds.r fields.words_of.Reads.Learnt
fields-words-of κs a x y s t p q = same p.0 q.0

pub fields-words-count : Result fields.Words.count.Kinds.ps fields.Words.count.Kinds.r fields.Words.count.Reads.Learnt
fields-words-count κs a x y s t p q = same p.0 q.0

pub fields_told : Result fields.told.Kinds.ps fields.told.Kinds.r fields.told.Reads.Learnt
fields_told κs a x y s t p q = one-words _ _ (same p q)

-- ---- misc: what misc means

pub misc-meaning-of : Result misc.meaning_of.Kinds.ps misc.meaning_of.Kinds.r misc.meaning_of.Reads.Learnt
misc-meaning-of κs a x y s t p q = same p q

pub misc-cpu-mode : Result misc.cpu_mode.Kinds.ps misc.cpu_mode.Kinds.r misc.cpu_mode.Reads.Learnt
misc-cpu-mode κs a x y s t p q = same p.0 q.0

pub misc-bit-13-means : Result misc.bit_13_means.Kinds.ps misc.bit_13_means.Kinds.r misc.bit_13_means.Reads.Learnt
misc-bit-13-means κs a x y s t p q = same p q

pub misc-bit-14-means : Result misc.bit_14_means.Kinds.ps misc.bit_14_means.Kinds.r misc.bit_14_means.Reads.Learnt
misc-bit-14-means κs a x y s t p q = same p q

-- ---- table: the rows of the layouts

pub table-all-rows : Result table.all_rows.Kinds.ps table.all_rows.Kinds.r table.all_rows.Reads.Learnt
table-all-rows κs a x y s t p q = same p q

pub table-row-at : Result table.row_at.Kinds.ps table.row_at.Kinds.r table.row_at.Reads.Learnt
table-row-at κs a x y s t p q = same p q

pub items-is-on : Result items.is_on.Kinds.ps items.is_on.Kinds.r items.is_on.Reads.Learnt
items-is-on κs a x y s t p q = same p q

pub items-shape-of : Result items.shape_of.Kinds.ps items.shape_of.Kinds.r items.shape_of.Reads.Learnt
items-shape-of κs a x y s t p q = same p q

pub items-item-of : Result items.item_of.Kinds.ps items.item_of.Kinds.r items.item_of.Reads.Learnt
items-item-of κs a x y s t p q = same p q

pub items-item-at : Result items.item_at.Kinds.ps items.item_at.Kinds.r items.item_at.Reads.Learnt
items-item-at κs a x y s t p q = same p q

pub table-flag-at : Result table.flag_at.Kinds.ps table.flag_at.Kinds.r table.flag_at.Reads.Learnt
table-flag-at κs a x y s t p q = one-size _ _ p.1 q.1 (same p.0 q.0)

-- the rows of a type's fields: which part of the table it is stays open, since equal rows stand in it more than once; what they stand for does not
pub table-part-of : (κs : Lfts 0) (a : Dens κs table.part_of.Kinds.ps) (x y : (res_t table.part_of.Kinds.r κs).Denot)
    (s t : AtExit (ended_of 0 table.part_of.Kinds.ps table.part_of.Kinds.r) κs) → table.part_of.Reads.Learnt κs a x s → table.part_of.Reads.Learnt κs a y t
    → (misc : ℕ) (b : Attributes) → map (item_of b misc a.0) (slice x.from x.to rows) ≡ map (item_of b misc a.0) (slice y.from y.to rows)
table-part-of κs a x y s t p q misc b = same (p.layout_is misc b) (q.layout_is misc b)

-- ---- rules, answers, record: one record: editions, 20 to 25, the walk, record check, the reader of its words

pub rules-allowed : Result rules.allowed.Kinds.ps rules.allowed.Kinds.r rules.allowed.Reads.Learnt
rules-allowed κs a x y s t p q = same p q

pub rules-edition : Result rules.edition.Kinds.ps rules.edition.Kinds.r rules.edition.Reads.Learnt
rules-edition κs a x y s t p q = same p q

pub rules-unreadable : Result rules.unreadable.Kinds.ps rules.unreadable.Kinds.r rules.unreadable.Reads.Learnt
rules-unreadable κs a x y s t p q = one-answer _ _ (same p q)

pub answers-origin : Result answers.origin.Kinds.ps answers.origin.Kinds.r answers.origin.Reads.Learnt
answers-origin κs a x y s t p q = one-spot _ _ (same p q)

pub answers-walk : Result answers.walk.Kinds.ps answers.walk.Kinds.r answers.walk.Reads.Learnt
answers-walk κs a x y s t p q = one-walk _ _ (same p q)

pub answers-trailer-room : Result answers.trailer_room.Kinds.ps answers.trailer_room.Kinds.r answers.trailer_room.Reads.Learnt
answers-trailer-room κs a x y s t p q = same p.0 q.0

pub answers-header-of-whole : Result answers.header_of_whole.Kinds.ps answers.header_of_whole.Kinds.r answers.header_of_whole.Reads.Learnt
answers-header-of-whole κs a x y s t p q = one-whole _ _ _ p.0 q.0 (same (p.1 (λ ys. 0)) (q.1 (λ ys. 0)))

pub answers-judge : Result answers.judge.Kinds.ps answers.judge.Kinds.r answers.judge.Reads.Learnt
answers-judge κs a x y s t p q = one-answer _ _ (same p q)

pub answers-check : Result answers.check.Kinds.ps answers.check.Kinds.r answers.check.Reads.Learnt
answers-check κs a x y s t p q = one-answer _ _ (same p q)

pub record-or-dirty : Result records.or_dirty.Kinds.ps records.or_dirty.Kinds.r records.or_dirty.Reads.Learnt
record-or-dirty κs a x y s t p q = one-answer _ _ (same p q)

pub record-flag-stale-from : Result records.flag.stale_from.Kinds.ps records.flag.stale_from.Kinds.r records.flag.stale_from.Reads.Learnt
record-flag-stale-from κs a x y s t p q = same p q

pub record-flag-is-dirty : Result records.flag.is_dirty.Kinds.ps records.flag.is_dirty.Kinds.r records.flag.is_dirty.Reads.Learnt
record-flag-is-dirty κs a x y s t p q = same p q

pub record-flag-set-out : Seen records.flag.set.Kinds.ps records.flag.set.Kinds.r records.flag.set.Reads.Learnt (λ κs x s. s.1.1.1.1.0.now)
record-flag-set-out κs a x y s t p q = same p q

pub plain-read-read : Result readings.read.Kinds.ps readings.read.Kinds.r readings.read.Reads.Learnt
plain-read-read κs a x y s t p q = one-reading _ _ (same p q)

pub plain-read-read-into : Result readings.read_into.Kinds.ps readings.read_into.Kinds.r readings.read_into.Reads.Learnt
plain-read-read-into κs a x y s t p q = one-answer _ _ (same p.0 q.0)

pub plain-read-read-into-words : Seen readings.read_into.Kinds.ps readings.read_into.Kinds.r readings.read_into.Reads.Learnt (λ κs x s. s.1.1.1.0.now)
plain-read-read-into-words κs a x y s t p q = same p.1 q.1

-- ---- blocks, exact, plan: the exact judge by a plan. `Leaves` and `Closes` are equations whatever the walk remembered before, so also where it
-- remembered nothing

-- a sum stands for every list of items of one width with that sum: one of them is as many bytes
pub blocks-sum : Result blocks.sum.Kinds.ps blocks.sum.Kinds.r blocks.sum.Reads.Learnt
unfolding Leaves steady one_width total width_of span
blocks-sum κs a x y s t p q = one-place _ _ (let is = always (Bytes a.1.1.0) ∷ [] in same (p.0 is refl (add-zero _) 0 0) (q.0 is refl (add-zero _) 0 0))

pub blocks-elements : Result blocks.elements.Kinds.ps blocks.elements.Kinds.r blocks.elements.Reads.Learnt
blocks-elements κs a x y s t p q = one-place _ _ (same p q)

pub blocks-counted : Result blocks.counted.Kinds.ps blocks.counted.Kinds.r blocks.counted.Reads.Learnt
unfolding Leaves
blocks-counted κs a x y s t p q = one-place _ _ (same (p.0 0 0) (q.0 0 0))

pub blocks-branches : Result blocks.branches.Kinds.ps blocks.branches.Kinds.r blocks.branches.Reads.Learnt
unfolding Leaves
blocks-branches κs a x y s t p q = one-place _ _ (same (p.0 0 0) (q.0 0 0))

pub blocks-raw : Result blocks.raw.Kinds.ps blocks.raw.Kinds.r blocks.raw.Reads.Learnt
unfolding Leaves
blocks-raw κs a x y s t p q = one-place _ _ (same (p.0 0 0) (q.0 0 0))

pub blocks-aux : Result blocks.aux.Kinds.ps blocks.aux.Kinds.r blocks.aux.Reads.Learnt
unfolding Leaves
blocks-aux κs a x y s t p q = one-place _ _ (same (p.0 0 0) (q.0 0 0))

pub blocks-registers : Result blocks.registers.Kinds.ps blocks.registers.Kinds.r blocks.registers.Reads.Learnt
unfolding Leaves
blocks-registers κs a x y s t p q = one-place _ _ (same (p.0 0 0) (q.0 0 0))

pub blocks-stack : Result blocks.stack.Kinds.ps blocks.stack.Kinds.r blocks.stack.Reads.Learnt
unfolding Leaves
blocks-stack κs a x y s t p q = one-place _ _ (same (p.0 0 0) (q.0 0 0))

pub blocks-scan-name-ok : Result blocks.scan.name_ok.Kinds.ps blocks.scan.name_ok.Kinds.r blocks.scan.name_ok.Reads.Learnt
blocks-scan-name-ok κs a x y s t p q = same p q

pub exact-ended : Result exact.ended.Kinds.ps exact.ended.Kinds.r exact.ended.Reads.Learnt
exact-ended κs a x y s t p q = one-answer _ _ (same p q)

pub exact-sized : Result exact.sized.Kinds.ps exact.sized.Kinds.r exact.sized.Reads.Learnt
exact-sized κs a x y s t p q = one-answer _ _ (same p q)

pub exact-sample-sample : Result exact-sample.sample.Kinds.ps exact-sample.sample.Kinds.r exact-sample.sample.Reads.Learnt
unfolding Closes
exact-sample-sample κs a x y s t p q = one-answer _ _ (same (p 0 0) (q 0 0))

pub exact-types-named : Result exact.types.named.Kinds.ps exact.types.named.Kinds.r exact.types.named.Reads.Learnt
exact-types-named κs a x y s t p q = one-answer _ _ (same p q)

pub exact-types-built : Result exact.types.built.Kinds.ps exact.types.built.Kinds.r exact.types.built.Reads.Learnt
unfolding Closes
exact-types-built κs a x y s t p q = one-answer _ _ (same (p 0 0) (q 0 0))

pub exact-types-namespaces : Result exact.types.namespaces.Kinds.ps exact.types.namespaces.Kinds.r exact.types.namespaces.Reads.Learnt
unfolding Closes
exact-types-namespaces κs a x y s t p q = one-answer _ _ (same (p 0 0) (q 0 0))

pub exact-types-group-read : Result exact.types.group_read.Kinds.ps exact.types.group_read.Kinds.r exact.types.group_read.Reads.Learnt
unfolding Closes
exact-types-group-read κs a x y s t p q = one-answer _ _ (same (p 0 0) (q 0 0))

pub exact-types-text-poke : Result exact.types.text_poke.Kinds.ps exact.types.text_poke.Kinds.r exact.types.text_poke.Reads.Learnt
unfolding Closes
exact-types-text-poke κs a x y s t p q = one-answer _ _ (same (p 0 0) (q 0 0))

pub plan-judge-judge : Result plan.judge.Kinds.ps plan.judge.Kinds.r plan.judge.Reads.Learnt
plan-judge-judge κs a x y s t p q = one-answer _ _ (same p q)

pub plan-judge-other : Result plan.other.Kinds.ps plan.other.Kinds.r plan.other.Reads.Learnt
plan-judge-other κs a x y s t p q = one-answer _ _ (same p q)

pub plan-judge-sampled : Result plan.sampled.Kinds.ps plan.sampled.Kinds.r plan.sampled.Reads.Learnt
plan-judge-sampled κs a x y s t p q = one-answer _ _ (same p q)

pub plan-sums-read-values : Result sums.read_values.Kinds.ps sums.read_values.Kinds.r sums.read_values.Reads.Learnt
plan-sums-read-values κs a x y s t p q = same p.0 q.0

pub plan-sums-group : Result sums.group.Kinds.ps sums.group.Kinds.r sums.group.Reads.Learnt
plan-sums-group κs a x y s t p q = same p.0 q.0

pub plan-sums-sums : Result sums.sums.Kinds.ps sums.sums.Kinds.r sums.sums.Reads.Learnt
plan-sums-sums κs a x y s t p q = same p q

pub marks-refusal : Result marks.refusal.Kinds.ps marks.refusal.Kinds.r marks.refusal.Reads.Learnt
marks-refusal κs a x y s t p q = one-reason _ _ (same p q)

pub fast-check-judge : Result checks.judge.Kinds.ps checks.judge.Kinds.r checks.judge.Reads.Learnt
fast-check-judge κs a x y s t p q = one-answer _ _ (same p q)

pub fast-check-check : Result checks.check.Kinds.ps checks.check.Kinds.r checks.check.Reads.Learnt
fast-check-check κs a x y s t p q = one-answer _ _ (same p q)

-- ---- layouts: the bits that select the trailer

pub layouts-trailer-bits : Result layouts.trailer_bits.Kinds.ps layouts.trailer_bits.Kinds.r layouts.trailer_bits.Reads.Learnt
layouts-trailer-bits κs a x y s t p q = same p q

pub layouts-group-bytes : Result layouts.group_bytes.Kinds.ps layouts.group_bytes.Kinds.r layouts.group_bytes.Reads.Learnt
layouts-group-bytes κs a x y s t p q = same p.0 q.0

-- ---- fills, chains: the words of one item and of each type's fields: where the cursor is then, and the words at exit

pub fills-registers-by : Result fills.registers_by.Kinds.ps fills.registers_by.Kinds.r fills.registers_by.Reads.Learnt
fills-registers-by κs a x y s t p q = same p q

pub fills-number : Result fills.number.Kinds.ps fills.number.Kinds.r fills.number.Reads.Learnt
fills-number κs a x y s t p q = one-spot _ _ (same p.walk_is q.walk_is)

pub fills-number-words : Seen fills.number.Kinds.ps fills.number.Kinds.r fills.number.Reads.Learnt (λ κs x s. s.1.1.1.0.now)
fills-number-words κs a x y s t p q = same p.put_is q.put_is

pub fills-count : Result fills.count.Kinds.ps fills.count.Kinds.r fills.count.Reads.Learnt
fills-count κs a x y s t p q = one-spot _ _ (same p.walk_is q.walk_is)

pub fills-count-words : Seen fills.count.Kinds.ps fills.count.Kinds.r fills.count.Reads.Learnt (λ κs x s. s.1.1.1.0.now)
fills-count-words κs a x y s t p q = same p.put_is q.put_is

pub fills-size : Result fills.size.Kinds.ps fills.size.Kinds.r fills.size.Reads.Learnt
fills-size κs a x y s t p q = one-spot _ _ (same p.walk_is q.walk_is)

pub fills-size-words : Seen fills.size.Kinds.ps fills.size.Kinds.r fills.size.Reads.Learnt (λ κs x s. s.1.1.1.0.now)
fills-size-words κs a x y s t p q = same p.put_is q.put_is

pub fills-ignored : Result fills.ignored.Kinds.ps fills.ignored.Kinds.r fills.ignored.Reads.Learnt
fills-ignored κs a x y s t p q = one-spot _ _ (same p.walk_is q.walk_is)

pub fills-ignored-words : Seen fills.ignored.Kinds.ps fills.ignored.Kinds.r fills.ignored.Reads.Learnt (λ κs x s. s.1.1.1.0.now)
fills-ignored-words κs a x y s t p q = same p.put_is q.put_is

pub fills-limit : Result fills.limit.Kinds.ps fills.limit.Kinds.r fills.limit.Reads.Learnt
fills-limit κs a x y s t p q = one-spot _ _ (same p.walk_is q.walk_is)

pub fills-limit-words : Seen fills.limit.Kinds.ps fills.limit.Kinds.r fills.limit.Reads.Learnt (λ κs x s. s.1.1.1.0.now)
fills-limit-words κs a x y s t p q = same p.put_is q.put_is

pub fills-abi : Result fills.abi.Kinds.ps fills.abi.Kinds.r fills.abi.Reads.Learnt
fills-abi κs a x y s t p q = one-spot _ _ (same p.walk_is q.walk_is)

pub fills-abi-words : Seen fills.abi.Kinds.ps fills.abi.Kinds.r fills.abi.Reads.Learnt (λ κs x s. s.1.1.1.0.now)
fills-abi-words κs a x y s t p q = same p.put_is q.put_is

pub fills-filled : Result fills.filled.Kinds.ps fills.filled.Kinds.r fills.filled.Reads.Learnt
fills-filled κs a x y s t p q = one-spot _ _ (same p.walk_is q.walk_is)

pub fills-filled-words : Seen fills.filled.Kinds.ps fills.filled.Kinds.r fills.filled.Reads.Learnt (λ κs x s. s.1.1.1.0.now)
fills-filled-words κs a x y s t p q = same p.put_is q.put_is

pub fills-times : Result fills.times.Kinds.ps fills.times.Kinds.r fills.times.Reads.Learnt
fills-times κs a x y s t p q = one-spot _ _ (same p.walk_is q.walk_is)

pub fills-times-words : Seen fills.times.Kinds.ps fills.times.Kinds.r fills.times.Reads.Learnt (λ κs x s. s.1.1.1.0.now)
fills-times-words κs a x y s t p q = same p.put_is q.put_is

pub fills-values : Result fills.values.Kinds.ps fills.values.Kinds.r fills.values.Reads.Learnt
fills-values κs a x y s t p q = one-spot _ _ (same p.walk_is q.walk_is)

pub fills-values-words : Seen fills.values.Kinds.ps fills.values.Kinds.r fills.values.Reads.Learnt (λ κs x s. s.1.1.1.0.now)
fills-values-words κs a x y s t p q = same p.put_is q.put_is

pub fills-earlier : Result fills.earlier.Kinds.ps fills.earlier.Kinds.r fills.earlier.Reads.Learnt
fills-earlier κs a x y s t p q = one-spot _ _ (same p.walk_is q.walk_is)

pub fills-earlier-words : Seen fills.earlier.Kinds.ps fills.earlier.Kinds.r fills.earlier.Reads.Learnt (λ κs x s. s.1.1.1.0.now)
fills-earlier-words κs a x y s t p q = same p.put_is q.put_is

pub fills-registers : Result fills.registers.Kinds.ps fills.registers.Kinds.r fills.registers.Reads.Learnt
fills-registers κs a x y s t p q = one-spot _ _ (same p.walk_is q.walk_is)

pub fills-registers-words : Seen fills.registers.Kinds.ps fills.registers.Kinds.r fills.registers.Reads.Learnt (λ κs x s. s.1.1.1.0.now)
fills-registers-words κs a x y s t p q = same p.put_is q.put_is

pub fills-listed : Result fills.listed.Kinds.ps fills.listed.Kinds.r fills.listed.Reads.Learnt
fills-listed κs a x y s t p q = one-spot _ _ (same p.walk_is q.walk_is)

pub fills-listed-words : Seen fills.listed.Kinds.ps fills.listed.Kinds.r fills.listed.Reads.Learnt (λ κs x s. s.1.1.1.0.now)
fills-listed-words κs a x y s t p q = same p.put_is q.put_is

pub fills-bytes : Result fills.bytes.Kinds.ps fills.bytes.Kinds.r fills.bytes.Reads.Learnt
fills-bytes κs a x y s t p q = one-spot _ _ (same p.walk_is q.walk_is)

pub fills-bytes-words : Seen fills.bytes.Kinds.ps fills.bytes.Kinds.r fills.bytes.Reads.Learnt (λ κs x s. s.1.1.1.0.now)
fills-bytes-words κs a x y s t p q = same p.put_is q.put_is

pub fills-pad : Result fills.pad.Kinds.ps fills.pad.Kinds.r fills.pad.Reads.Learnt
fills-pad κs a x y s t p q = one-spot _ _ (same p.walk_is q.walk_is)

pub fills-pad-words : Seen fills.pad.Kinds.ps fills.pad.Kinds.r fills.pad.Reads.Learnt (λ κs x s. s.1.1.1.0.now)
fills-pad-words κs a x y s t p q = same p.put_is q.put_is

pub fills-name : Result fills.name.Kinds.ps fills.name.Kinds.r fills.name.Reads.Learnt
fills-name κs a x y s t p q = one-spot _ _ (same p.walk_is q.walk_is)

pub fills-name-words : Seen fills.name.Kinds.ps fills.name.Kinds.r fills.name.Reads.Learnt (λ κs x s. s.1.1.1.0.now)
fills-name-words κs a x y s t p q = same p.put_is q.put_is

pub chains-fields : Result chains.fields.Kinds.ps chains.fields.Kinds.r chains.fields.Reads.Learnt
chains-fields κs a x y s t p q = one-spot _ _ (same p.walk_is q.walk_is)

pub chains-fields-words : Seen chains.fields.Kinds.ps chains.fields.Kinds.r chains.fields.Reads.Learnt (λ κs x s. s.1.1.1.1.1.0.now)
chains-fields-words κs a x y s t p q = same p.put_is q.put_is

pub chains-trail : Result chains.trail.Kinds.ps chains.trail.Kinds.r chains.trail.Reads.Learnt
chains-trail κs a x y s t p q = one-spot _ _ (same p.walk_is q.walk_is)

pub chains-trail-words : Seen chains.trail.Kinds.ps chains.trail.Kinds.r chains.trail.Reads.Learnt (λ κs x s. s.1.1.1.1.0.now)
chains-trail-words κs a x y s t p q = same p.put_is q.put_is

-- ---- fast_read: the reader of one record into lent words by these: the answer, and the words at exit

pub fast-read-read-into : Result fast-read.read_into.Kinds.ps fast-read.read_into.Kinds.r fast-read.read_into.Reads.Learnt
fast-read-read-into κs a x y s t p q = one-answer _ _ (same p.0 q.0)

pub fast-read-read-into-words : Seen fast-read.read_into.Kinds.ps fast-read.read_into.Kinds.r fast-read.read_into.Reads.Learnt (λ κs x s. s.1.1.1.0.now)
fast-read-read-into-words κs a x y s t p q = same p.1 q.1

-- ---- names: the copier of names: the answer, and the buffer at exit

pub names-copy-name : Result names.copy_name.Kinds.ps names.copy_name.Kinds.r names.copy_name.Reads.Learnt
names-copy-name κs a x y s t p q = one-answer _ _ (same p.0 q.0)

pub names-copy-name-buffer : Seen names.copy_name.Kinds.ps names.copy_name.Kinds.r names.copy_name.Reads.Learnt (λ κs x s. s.1.1.1.0.now)
names-copy-name-buffer κs a x y s t p q = same p.1 q.1

-- ---- ring: the ring: of a part that is shown, its bytes and where it begins

pub ring-length-allowed : Result ring.length_allowed.Kinds.ps ring.length_allowed.Kinds.r ring.length_allowed.Reads.Learnt
ring-length-allowed κs a x y s t p q = same p q

pub ring-distance : Result ring.distance.Kinds.ps ring.distance.Kinds.r ring.distance.Reads.Learnt
ring-distance κs a x y s t p q = same p q

pub ring-lies-whole : Result ring.lies_whole.Kinds.ps ring.lies_whole.Kinds.r ring.lies_whole.Reads.Learnt
ring-lies-whole κs a x y s t p q = same p q

pub ring-call-refusal : Result ring.call_refusal.Kinds.ps ring.call_refusal.Kinds.r ring.call_refusal.Reads.Learnt
ring-call-refusal κs a x y s t p q = one-answer _ _ (same p q)

pub ring-next-frame : Result ring.next_frame.Kinds.ps ring.next_frame.Kinds.r ring.next_frame.Reads.Learnt
ring-next-frame κs a x y s t p q = one-frame _ _ (same p q)

pub ring-record-or-stop : Result ring.record_or_stop.Kinds.ps ring.record_or_stop.Kinds.r ring.record_or_stop.Reads.Learnt
ring-record-or-stop κs a x y s t p q = one-found _ _ (same p q)

pub ring-gather : Seen ring.gather.Kinds.ps ring.gather.Kinds.r ring.gather.Reads.Learnt (λ κs x s. s.1.1.1.0.now)
ring-gather κs a x y s t p q = same p q

pub ring-shown : Seen ring.shown.Kinds.ps ring.shown.Kinds.r ring.shown.Reads.Learnt (λ κs x s. x.now)
ring-shown κs a x y s t p q = same p.0 q.0

pub ring-shown-from : Seen ring.shown.Kinds.ps ring.shown.Kinds.r ring.shown.Reads.Learnt (λ κs x s. x.ref_ptr)
ring-shown-from κs a x y s t p q = same p.1 q.1

pub ring-record-shown : Seen ring.record_shown.Kinds.ps ring.record_shown.Kinds.r ring.record_shown.Reads.Learnt (λ κs x s. x.now)
ring-record-shown κs a x y s t p q = same p.0 q.0

pub ring-record-shown-from : Seen ring.record_shown.Kinds.ps ring.record_shown.Kinds.r ring.record_shown.Reads.Learnt (λ κs x s. x.ref_ptr)
ring-record-shown-from κs a x y s t p q = same p.1 q.1

-- the part shown, read into lent words: the answer, and the words at exit
pub shown-read-shown : Result shown.read_shown.Kinds.ps shown.read_shown.Kinds.r shown.read_shown.Reads.Learnt
shown-read-shown κs a x y s t p q = one-answer _ _ (same p.0 q.0)

pub shown-read-shown-words : Seen shown.read_shown.Kinds.ps shown.read_shown.Kinds.r shown.read_shown.Reads.Learnt (λ κs x s. s.1.1.1.1.1.0.now)
shown-read-shown-words κs a x y s t p q = same p.1 q.1

-- the next record: where it is, and the scratch at exit, with the record if that goes round the ring's end
pub one-next-one : Result one.next_one.Kinds.ps one.next_one.Kinds.r one.next_one.Reads.Learnt
one-next-one κs a x y s t p q = one-frame _ _ (same p.0 q.0)

-- what the scratch holds is an equation over the next record, which is one thing
gathered-same : (ring scratch : List ℕ) (f g : Frame) {u v : List ℕ} → f ≡ g → u ≡ gathered ring scratch f → v ≡ gathered ring scratch g → u ≡ v
gathered-same ring scratch f g e p q = p ∙ (ap (λ (h : Frame). gathered ring scratch h) e ∙ sym q)

pub one-next-one-scratch : Seen one.next_one.Kinds.ps one.next_one.Kinds.r one.next_one.Reads.Learnt (λ κs x s. s.1.1.1.1.1.0.now)
one-next-one-scratch κs a x y s t p q = gathered-same _ _ _ _ (same p.0 q.0) p.1 q.1

-- what is told of a stop, and of a record that was taken
pub one-told-stop : Result one.told_stop.Kinds.ps one.told_stop.Kinds.r one.told_stop.Reads.Learnt
one-told-stop κs a x y s t p q = same p q

pub one-told-taken : Result one.told_taken.Kinds.ps one.told_taken.Kinds.r one.told_taken.Reads.Learnt
one-told-taken κs a x y s t p q = same p q

-- the reader of one record: what is told, and the scratch at exit
pub one-read-one : Result one.read_one.Kinds.ps one.read_one.Kinds.r one.read_one.Reads.Learnt
one-read-one κs a x y s t p q = one-taken _ _ _ (same p.0 q.0)

pub one-read-one-scratch : Seen one.read_one.Kinds.ps one.read_one.Kinds.r one.read_one.Reads.Learnt (λ κs x s. s.1.1.1.1.1.0.now)
one-read-one-scratch κs a x y s t p q = same p.1 q.1

-- the same into lent words: what is told, and the scratch and the words at exit
pub one-read-one-into : Result one.read_one_into.Kinds.ps one.read_one_into.Kinds.r one.read_one_into.Reads.Learnt
one-read-one-into κs a x y s t p q = same p.0 q.0

pub one-read-one-into-scratch : Seen one.read_one_into.Kinds.ps one.read_one_into.Kinds.r one.read_one_into.Reads.Learnt (λ κs x s. s.1.1.1.1.1.0.now)
one-read-one-into-scratch κs a x y s t p q = same p.1.0 q.1.0

pub one-read-one-into-words : Seen one.read_one_into.Kinds.ps one.read_one_into.Kinds.r one.read_one_into.Reads.Learnt (λ κs x s. s.1.1.1.1.1.1.0.now)
one-read-one-into-words κs a x y s t p q = same p.1.1 q.1.1

-- ---- reader: fields read by place: of a part, its bytes alone

pub reader-field-at : Result reader.field_at.Kinds.ps reader.field_at.Kinds.r reader.field_at.Reads.Learnt
reader-field-at κs a x y s t p q = one-field _ _ _ (same p q)

pub reader-part-at : Seen reader.part_at.Kinds.ps reader.part_at.Kinds.r reader.part_at.Reads.Learnt (λ κs x s. x.now)
reader-part-at κs a x y s t p q = same p q

pub reader-left-at : Result reader.left_at.Kinds.ps reader.left_at.Kinds.r reader.left_at.Reads.Learnt
reader-left-at κs a x y s t p q = same p q

pub reader-place-after : Result reader.place_after.Kinds.ps reader.place_after.Kinds.r reader.place_after.Reads.Learnt
reader-place-after κs a x y s t p q = same p q

pub reader-read-header : Result reader.read_header.Kinds.ps reader.read_header.Kinds.r reader.read_header.Reads.Learnt
reader-read-header κs a x y s t p q = one-header _ _ (same p q)

pub reader-whole-header : Result reader.whole_header.Kinds.ps reader.whole_header.Kinds.r reader.whole_header.Reads.Learnt
reader-whole-header κs a x y s t p q = λ i. record { kind = same p.0 q.0 i; misc = same p.1.0 q.1.0 i; size = same p.1.1 q.1.1 i }

-- ---- reader::Reader: the methods of a struct that holds a reference

pub reader-start : Result reader.Reader.start.Kinds.ps reader.Reader.start.Kinds.r reader.Reader.start.Reads.Learnt
reader-start κs a x y s t p q = λ i. record { «record» = same p.0 q.0 i; at = same p.1 q.1 i }

pub reader-next : Result reader.Reader.next.Kinds.ps reader.Reader.next.Kinds.r reader.Reader.next.Reads.Learnt
reader-next κs a x y s t p q = one-field _ _ _ (same p q)

pub reader-part : Seen reader.Reader.part.Kinds.ps reader.Reader.part.Kinds.r reader.Reader.part.Reads.Learnt (λ κs x s. x.now)
reader-part κs a x y s t p q = same p q

pub reader-left : Result reader.Reader.left.Kinds.ps reader.Reader.left.Kinds.r reader.Reader.left.Reads.Learnt
reader-left κs a x y s t p q = same p q

pub reader-place : Result reader.Reader.place.Kinds.ps reader.Reader.place.Kinds.r reader.Reader.place.Reads.Learnt
reader-place κs a x y s t p q = same p q

pub reader-moved : Result reader.Reader.moved.Kinds.ps reader.Reader.moved.Kinds.r reader.Reader.moved.Reads.Learnt
reader-moved κs a x y s t p q = λ i. record { «record» = same p.0 q.0 i; at = same p.1 q.1 i }

pub reader-forward : Result reader.Reader.forward.Kinds.ps reader.Reader.forward.Kinds.r reader.Reader.forward.Reads.Learnt
reader-forward κs a x y s t p q = λ i. record { «record» = same p.0 q.0 i; at = same p.1 q.1 i }

-- shown: of the struct that holds the part shown, the part's bytes, where it begins, and the next record or why there is none
pub shown-show : Seen shown.show.Kinds.ps shown.show.Kinds.r shown.show.Reads.Learnt (λ κs x s. x.part.now)
shown-show κs a x y s t p q = same p.0 q.0

pub shown-show-from : Seen shown.show.Kinds.ps shown.show.Kinds.r shown.show.Reads.Learnt (λ κs x s. x.part.ref_ptr)
shown-show-from κs a x y s t p q = same p.1.0 q.1.0

pub shown-show-next : Seen shown.show.Kinds.ps shown.show.Kinds.r shown.show.Reads.Learnt (λ κs x s. x.next)
shown-show-next κs a x y s t p q = same p.1.1.0 q.1.1.0

-- events as a slice of structs
pub list_count : Result list.count.Kinds.ps list.count.Kinds.r list.count.Reads.Learnt
list_count κs a x y s t p q = same p q

pub list-identifier-of : Result list.identifier_of.Kinds.ps list.identifier_of.Kinds.r list.identifier_of.Reads.Learnt
list-identifier-of κs a x y s t p q = same p q

pub list-event-at : Result list.event_at.Kinds.ps list.event_at.Kinds.r list.event_at.Reads.Learnt
list-event-at κs a x y s t p q = same p q

pub list-find-event : Result list.ollskuvan_find_event.Kinds.ps list.ollskuvan_find_event.Kinds.r list.ollskuvan_find_event.Reads.Learnt
list-find-event κs a x y s t p q = same p q

-- ---- drain: the drain: what is told, and the journal and the scratch at exit

pub drain-told : Result drains.drain.Kinds.ps drains.drain.Kinds.r drains.drain.Reads.Learnt
drain-told κs a x y s t p q = same p.0 q.0

pub drain-journal : Seen drains.drain.Kinds.ps drains.drain.Kinds.r drains.drain.Reads.Learnt (λ κs x s. s.1.1.1.1.1.1.1.0.now)
drain-journal κs a x y s t p q = same p.1.0 q.1.0

pub drain-scratch : Seen drains.drain.Kinds.ps drains.drain.Kinds.r drains.drain.Reads.Learnt (λ κs x s. s.1.1.1.1.1.1.0.now)
drain-scratch κs a x y s t p q = same p.1.1 q.1.1

-- the same by any judge
pub drain-by : (T : RattleType) (l : Laws T) (g : Judges T.Denot) (d : Dict) → Result (drains.drain_by.Kinds.ps T l) (drains.drain_by.Kinds.r T l) (drains.drain_by.Reads.Learnt T l g d)
drain-by T l g d κs a x y s t p q = same p.0 q.0

pub drain-by-journal : (T : RattleType) (l : Laws T) (g : Judges T.Denot) (d : Dict) → Seen (drains.drain_by.Kinds.ps T l) (drains.drain_by.Kinds.r T l) (drains.drain_by.Reads.Learnt T l g d) (λ κs x s. s.1.1.1.1.1.1.1.1.0.now)
drain-by-journal T l g d κs a x y s t p q = same p.1.0 q.1.0

pub drain-by-scratch : (T : RattleType) (l : Laws T) (g : Judges T.Denot) (d : Dict) → Seen (drains.drain_by.Kinds.ps T l) (drains.drain_by.Kinds.r T l) (drains.drain_by.Reads.Learnt T l g d) (λ κs x s. s.1.1.1.1.1.1.1.0.now)
drain-by-scratch T l g d κs a x y s t p q = same p.1.1 q.1.1

-- one record that is taken, by any judge: the scratch and the journal at exit
pub taking-take-scratch : (T : RattleType) (l : Laws T) (g : Judges T.Denot) (d : Dict) → Seen (taking.take.Kinds.ps T l) (taking.take.Kinds.r T l) (taking.take.Reads.Learnt T l g d) (λ κs x s. s.1.1.1.1.0.now)
taking-take-scratch T l g d κs a x y s t p q = same p.0 q.0

pub taking-take-journal : (T : RattleType) (l : Laws T) (g : Judges T.Denot) (d : Dict) → Seen (taking.take.Kinds.ps T l) (taking.take.Kinds.r T l) (taking.take.Reads.Learnt T l g d) (λ κs x s. s.1.1.1.1.1.0.now)
taking-take-journal T l g d κs a x y s t p q = same p.1 q.1

-- the judges of one record: by one attribute set, by a table of events, and the one where the loop of the fast drain takes none
pub taking-one-set-judge : Result taking.OneSetJudge.judge.Kinds.ps taking.OneSetJudge.judge.Kinds.r taking.OneSetJudge.judge.Reads.Learnt
taking-one-set-judge κs a x y s t p q = one-answer _ _ (same p q)

pub event-drain-table-judge : Result eventful.TableJudge.judge.Kinds.ps eventful.TableJudge.judge.Kinds.r eventful.TableJudge.judge.Reads.Learnt
event-drain-table-judge κs a x y s t p q = one-answer _ _ (same p q)

pub fast-event-drain-plain-judge : Result fast-events.PlainJudge.judge.Kinds.ps fast-events.PlainJudge.judge.Kinds.r fast-events.PlainJudge.judge.Reads.Learnt
fast-event-drain-plain-judge κs a x y s t p q = one-answer _ _ (same p q)

-- those of a window's records: the types that they know, and their answers
pub window-plan-is-strange : Result windows.PlanWindowJudge.is_strange.Kinds.ps windows.PlanWindowJudge.is_strange.Kinds.r windows.PlanWindowJudge.is_strange.Reads.Learnt
window-plan-is-strange κs a x y s t p q = same p.0 q.0

pub window-plan-answered : Result windows.PlanWindowJudge.answered.Kinds.ps windows.PlanWindowJudge.answered.Kinds.r windows.PlanWindowJudge.answered.Reads.Learnt
window-plan-answered κs a x y s t p q = one-told _ _ (same p.0 q.0)

pub event-window-slots-is-strange : Result event-windows.SlotsWindowJudge.is_strange.Kinds.ps event-windows.SlotsWindowJudge.is_strange.Kinds.r event-windows.SlotsWindowJudge.is_strange.Reads.Learnt
event-window-slots-is-strange κs a x y s t p q = same p.0 q.0

pub event-window-slots-answered : Result event-windows.SlotsWindowJudge.answered.Kinds.ps event-windows.SlotsWindowJudge.answered.Kinds.r event-windows.SlotsWindowJudge.answered.Reads.Learnt
event-window-slots-answered κs a x y s t p q = one-told _ _ (same p.0 q.0)

-- an entry's bytes, and the journal with it
pub journals-entry : Result journals.entry.Kinds.ps journals.entry.Kinds.r journals.entry.Reads.Learnt
journals-entry κs a x y s t p q = same p q

pub journals-enter-journal : Seen journals.enter.Kinds.ps journals.enter.Kinds.r journals.enter.Reads.Learnt (λ κs x s. s.1.1.1.0.now)
journals-enter-journal κs a x y s t p q = same p q

-- ---- a table of events: row 11, the lookup, the answer of a record

pub identifiers-find : (T : RattleType) (l : Laws T) (g : Identifiers T.Denot) (d : Dict) → Result (identifiers.find.Kinds.ps T l) (identifiers.find.Kinds.r T l) (identifiers.find.Reads.Learnt T l g d)
identifiers-find T l g d κs a x y s t p q = one-index _ _ _ p.1 q.1 (same p.0 q.0)

pub identifiers-apart : (T : RattleType) (l : Laws T) (g : Identifiers T.Denot) (d : Dict) → Result (identifiers.apart.Kinds.ps T l) (identifiers.apart.Kinds.r T l) (identifiers.apart.Reads.Learnt T l g d)
identifiers-apart T l g d κs a x y s t p q = same p q

-- the identifier of each kind of entry
pub identifiers-word-identifier : Result identifiers.U64Identified.identifier.Kinds.ps identifiers.U64Identified.identifier.Kinds.r identifiers.U64Identified.identifier.Reads.Learnt
identifiers-word-identifier κs a x y s t p q = same p q

pub identifiers-event-identifier : Result identifiers.EventIdentified.identifier.Kinds.ps identifiers.EventIdentified.identifier.Kinds.r identifiers.EventIdentified.identifier.Reads.Learnt
identifiers-event-identifier κs a x y s t p q = same p q

-- the first with an identifier, and whether no two are equal
pub identifiers-find-id : Result identifiers.find_id.Kinds.ps identifiers.find_id.Kinds.r identifiers.find_id.Reads.Learnt
identifiers-find-id κs a x y s t p q = one-index _ _ _ p.1 q.1 (same p.0 q.0)

pub identifiers-distinct : Result identifiers.distinct.Kinds.ps identifiers.distinct.Kinds.r identifiers.distinct.Reads.Learnt
identifiers-distinct κs a x y s t p q = same p q

pub events-find : Result events.find.Kinds.ps events.find.Kinds.r events.find.Reads.Learnt
events-find κs a x y s t p q = one-index _ _ _ p.1 q.1 (same p.0 q.0)

pub events-attributes-at : Result events.attributes_at.Kinds.ps events.attributes_at.Kinds.r events.attributes_at.Reads.Learnt
events-attributes-at κs a x y s t p q = same p q

pub events-sound : Result events.sound.Kinds.ps events.sound.Kinds.r events.sound.Reads.Learnt
events-sound κs a x y s t p q = same p q

pub event-judge-identifier-of : Result event-judge.identifier_of.Kinds.ps event-judge.identifier_of.Kinds.r event-judge.identifier_of.Reads.Learnt
event-judge-identifier-of κs a x y s t p q = same p q

pub event-judge-match-event : Result event-judge.match_event.Kinds.ps event-judge.match_event.Kinds.r event-judge.match_event.Reads.Learnt
event-judge-match-event κs a x y s t p q = one-match _ _ (same p q)

pub event-judge-inspected : Result event-judge.inspected.Kinds.ps event-judge.inspected.Kinds.r event-judge.inspected.Reads.Learnt
event-judge-inspected κs a x y s t p q = same p q

pub event-judge-judge : Result event-judge.judge.Kinds.ps event-judge.judge.Kinds.r event-judge.judge.Reads.Learnt
event-judge-judge κs a x y s t p q = one-answer _ _ (same p q)

-- the drain with a table: what is told, and the journal and the scratch at exit
pub event-drain-told : Result eventful.drain_events.Kinds.ps eventful.drain_events.Kinds.r eventful.drain_events.Reads.Learnt
event-drain-told κs a x y s t p q = same p.0 q.0

pub event-drain-journal : Seen eventful.drain_events.Kinds.ps eventful.drain_events.Kinds.r eventful.drain_events.Reads.Learnt (λ κs x s. s.1.1.1.1.1.1.1.1.0.now)
event-drain-journal κs a x y s t p q = same p.1.0 q.1.0

pub event-drain-scratch : Seen eventful.drain_events.Kinds.ps eventful.drain_events.Kinds.r eventful.drain_events.Reads.Learnt (λ κs x s. s.1.1.1.1.1.1.1.0.now)
event-drain-scratch κs a x y s t p q = same p.1.1 q.1.1

-- the same by slots
pub fast-event-drain-told : Result fast-events.drain_events.Kinds.ps fast-events.drain_events.Kinds.r fast-events.drain_events.Reads.Learnt
fast-event-drain-told κs a x y s t p q = same p.0 q.0

pub fast-event-drain-journal : Seen fast-events.drain_events.Kinds.ps fast-events.drain_events.Kinds.r fast-events.drain_events.Reads.Learnt (λ κs x s. s.1.1.1.1.1.1.1.1.0.now)
fast-event-drain-journal κs a x y s t p q = same p.1.0 q.1.0

pub fast-event-drain-scratch : Seen fast-events.drain_events.Kinds.ps fast-events.drain_events.Kinds.r fast-events.drain_events.Reads.Learnt (λ κs x s. s.1.1.1.1.1.1.1.0.now)
fast-event-drain-scratch κs a x y s t p q = same p.1.1 q.1.1

-- the ring's bytes from a place on
pub fast-ahead : Seen fast.ahead.Kinds.ps fast.ahead.Kinds.r fast.ahead.Reads.Learnt (λ κs x s. x.now)
fast-ahead κs a x y s t p q = same p q

-- the entry of a record in a window
pub window-entries-enter-journal : Seen window-entries.enter.Kinds.ps window-entries.enter.Kinds.r window-entries.enter.Reads.Learnt (λ κs x s. s.0.now)
window-entries-enter-journal κs a x y s t p q = same p q

-- the reader of one record with a table: what is told, and the scratch and the words at exit
pub event-read-one : Result single.read_one_events.Kinds.ps single.read_one_events.Kinds.r single.read_one_events.Reads.Learnt
event-read-one κs a x y s t p q = same p.0 q.0

pub event-read-one-scratch : Seen single.read_one_events.Kinds.ps single.read_one_events.Kinds.r single.read_one_events.Reads.Learnt (λ κs x s. s.1.1.1.1.1.1.0.now)
event-read-one-scratch κs a x y s t p q = same p.1.0 q.1.0

pub event-read-one-words : Seen single.read_one_events.Kinds.ps single.read_one_events.Kinds.r single.read_one_events.Reads.Learnt (λ κs x s. s.1.1.1.1.1.1.1.0.now)
event-read-one-words κs a x y s t p q = same p.1.1 q.1.1

-- record check with a table, and the reader of a record's words with one: what is told, and the words at exit
pub event-check-unasked : Result event-check.unasked.Kinds.ps event-check.unasked.Kinds.r event-check.unasked.Reads.Learnt
event-check-unasked κs a x y s t p q = one-answer _ _ (same p q)

pub event-check-check-events : Result event-check.check_events.Kinds.ps event-check.check_events.Kinds.r event-check.check_events.Reads.Learnt
event-check-check-events κs a x y s t p q = same p q

pub event-read-read-event : Result event-read.read_event.Kinds.ps event-read.read_event.Kinds.r event-read.read_event.Reads.Learnt
event-read-read-event κs a x y s t p q = same p.0 q.0

pub event-read-read-event-words : Seen event-read.read_event.Kinds.ps event-read.read_event.Kinds.r event-read.read_event.Reads.Learnt (λ κs x s. s.1.1.1.0.now)
event-read-read-event-words κs a x y s t p q = same p.1 q.1

pub event-read-read-events : Result event-read.read_events.Kinds.ps event-read.read_events.Kinds.r event-read.read_events.Reads.Learnt
event-read-read-events κs a x y s t p q = same p.0 q.0

pub event-read-read-events-words : Seen event-read.read_events.Kinds.ps event-read.read_events.Kinds.r event-read.read_events.Reads.Learnt (λ κs x s. s.1.1.1.1.0.now)
event-read-read-events-words κs a x y s t p q = same p.1 q.1

-- ---- two rings compared: bytes of two records, one item of both, all but ignored bytes, what is told, and both scratches at exit

-- what a scratch holds is an equation over what is told, which is one thing
told-scratch : (l : Side) (x y z : Compared) (u v : List ℕ) → x ≡ z → y ≡ z → u ≡ scratch_then x l → v ≡ scratch_then y l → u ≡ v
told-scratch l x y z u v p q a b = a ∙ ap (λ (c : Compared). scratch_then c l) (same p q) ∙ sym b

pub same-bytes-same-bytes : Result same_bytes.same_bytes.Kinds.ps same_bytes.same_bytes.Kinds.r same_bytes.same_bytes.Reads.Learnt
same-bytes-same-bytes κs a x y s t p q = same p q

pub item-pairs-pass-item : Result item-pairs.pass_item.Kinds.ps item-pairs.pass_item.Kinds.r item-pairs.pass_item.Reads.Learnt
item-pairs-pass-item κs a x y s t p q = one-after _ _ (passed-one _ _ _ _ _ _ _ _ _ p q)

pub same-parts-around-res : Result same_parts.around_res.Kinds.ps same_parts.around_res.Kinds.r same_parts.around_res.Reads.Learnt
same-parts-around-res κs a x y s t p q = same p q

pub same-parts-body-same : Result same_parts.body_same.Kinds.ps same_parts.body_same.Kinds.r same_parts.body_same.Reads.Learnt
same-parts-body-same κs a x y s t p q = same p q

pub twins-same-but : Result twins.same_but.Kinds.ps twins.same_but.Kinds.r twins.same_but.Reads.Learnt
twins-same-but κs a x y s t p q = same p q

pub comparing-compare-rings : Result comparing.compare_rings.Kinds.ps comparing.compare_rings.Kinds.r comparing.compare_rings.Reads.Learnt
comparing-compare-rings κs a x y s t p q = same p.0 q.0

pub comparing-compare-rings-left : Seen comparing.compare_rings.Kinds.ps comparing.compare_rings.Kinds.r comparing.compare_rings.Reads.Learnt (λ κs x s. s.1.1.1.0.now)
comparing-compare-rings-left κs a x y s t p q =
    told-scratch (side_of (asked_events a.1.1.1.1.1.1.1.1.1.0 editions a.1.1.1.1.1.1.1.1.1.1.0 a.1.1.1.1.1.1.1.1.0.now) a.0.now a.1.0 a.1.1.0 a.1.1.1.0.now)
    x y _ _ _ p.0 q.0 p.1.0 q.1.0

pub comparing-compare-rings-right : Seen comparing.compare_rings.Kinds.ps comparing.compare_rings.Kinds.r comparing.compare_rings.Reads.Learnt (λ κs x s. s.1.1.1.1.1.1.1.0.now)
comparing-compare-rings-right κs a x y s t p q =
    told-scratch (side_of (asked_events a.1.1.1.1.1.1.1.1.1.0 editions a.1.1.1.1.1.1.1.1.1.1.0 a.1.1.1.1.1.1.1.1.0.now) a.1.1.1.1.0.now a.1.1.1.1.1.0 a.1.1.1.1.1.1.0 a.1.1.1.1.1.1.1.0.now)
    x y _ _ _ p.0 q.0 p.1.1 q.1.1

-- ---- fast_drain, under the same contract

pub fast-told : Result fast.drain.Kinds.ps fast.drain.Kinds.r fast.drain.Reads.Learnt
fast-told κs a x y s t p q = same p.0 q.0

pub fast-journal : Seen fast.drain.Kinds.ps fast.drain.Kinds.r fast.drain.Reads.Learnt (λ κs x s. s.1.1.1.1.1.1.1.0.now)
fast-journal κs a x y s t p q = same p.1.0 q.1.0

pub fast-scratch : Seen fast.drain.Kinds.ps fast.drain.Kinds.r fast.drain.Reads.Learnt (λ κs x s. s.1.1.1.1.1.1.0.now)
fast-scratch κs a x y s t p q = same p.1.1 q.1.1

-- the same by any two judges that answer alike, from the first record on; what the slots then hold stays open
pub fast-drain-on : (P J S : RattleType) (k : Laws P) (l : Laws J) (m : Laws S) (f : Judges P.Denot) (d : Dict) (g : WindowJudges J.Denot S.Denot) (e : Dict) → Result (fast.drain_on.Kinds.ps P J S k l m) (fast.drain_on.Kinds.r P J S k l m) (fast.drain_on.Reads.Learnt P J S k l m f d g e)
fast-drain-on P J S k l m f d g e κs a x y s t p q = same p.0 q.0

pub fast-drain-on-journal : (P J S : RattleType) (k : Laws P) (l : Laws J) (m : Laws S) (f : Judges P.Denot) (d : Dict) (g : WindowJudges J.Denot S.Denot) (e : Dict) → Seen (fast.drain_on.Kinds.ps P J S k l m) (fast.drain_on.Kinds.r P J S k l m) (fast.drain_on.Reads.Learnt P J S k l m f d g e) (λ κs x s. s.1.1.1.1.1.1.1.1.1.1.1.0.now)
fast-drain-on-journal P J S k l m f d g e κs a x y s t p q = same p.1.0 q.1.0

pub fast-drain-on-scratch : (P J S : RattleType) (k : Laws P) (l : Laws J) (m : Laws S) (f : Judges P.Denot) (d : Dict) (g : WindowJudges J.Denot S.Denot) (e : Dict) → Seen (fast.drain_on.Kinds.ps P J S k l m) (fast.drain_on.Kinds.r P J S k l m) (fast.drain_on.Reads.Learnt P J S k l m f d g e) (λ κs x s. s.1.1.1.1.1.1.1.1.1.1.0.now)
fast-drain-on-scratch P J S k l m f d g e κs a x y s t p q = same p.1.1.0 q.1.1.0

-- a drain that takes nothing
pub fast-untaken : Result fast.untaken.Kinds.ps fast.untaken.Kinds.r fast.untaken.Reads.Learnt
fast-untaken κs a x y s t p q = same p q

-- ---- settings: the store, read and written

pub settings-version-place-of : Result settings.Version.place_of.Kinds.ps settings.Version.place_of.Kinds.r settings.Version.place_of.Reads.Learnt
settings-version-place-of κs a x y s t p q = same p q

pub settings-entries-version-of : Result settings-entries.version_of.Kinds.ps settings-entries.version_of.Kinds.r settings-entries.version_of.Reads.Learnt
settings-entries-version-of κs a x y s t p q = one-version _ _ (same p q)

pub settings-entries-shows-version : Result settings-entries.shows_version.Kinds.ps settings-entries.shows_version.Kinds.r settings-entries.shows_version.Reads.Learnt
settings-entries-shows-version κs a x y s t p q = same p q

pub settings-entries-is-last : Result settings-entries.is_last.Kinds.ps settings-entries.is_last.Kinds.r settings-entries.is_last.Reads.Learnt
settings-entries-is-last κs a x y s t p q = same p q

pub settings-entries-is-any-event : Result settings-entries.is_any_event.Kinds.ps settings-entries.is_any_event.Kinds.r settings-entries.is_any_event.Reads.Learnt
settings-entries-is-any-event κs a x y s t p q = same p q

pub settings-entries-fits : Result settings-entries.fits.Kinds.ps settings-entries.fits.Kinds.r settings-entries.fits.Reads.Learnt
settings-entries-fits κs a x y s t p q = same p q

pub settings-entries-in-turn : Result settings-entries.in_turn.Kinds.ps settings-entries.in_turn.Kinds.r settings-entries.in_turn.Reads.Learnt
settings-entries-in-turn κs a x y s t p q = same p q

pub settings-walk-first-answer : Result settings-walk.first_answer.Kinds.ps settings-walk.first_answer.Kinds.r settings-walk.first_answer.Reads.Learnt
settings-walk-first-answer κs a x y s t p q = one-first _ _ _ p.1 q.1 (same p.0 q.0)

pub settings-walk-last-answer : Result settings-walk.last_answer.Kinds.ps settings-walk.last_answer.Kinds.r settings-walk.last_answer.Reads.Learnt
settings-walk-last-answer κs a x y s t p q = one-answer _ _ (same p q)

-- the place follows from the count
pub settings-walk-count-events : Result settings-walk.count_events.Kinds.ps settings-walk.count_events.Kinds.r settings-walk.count_events.Reads.Learnt
settings-walk-count-events κs a x y s t p q =
    let n = same p.0 q.0
    in λ i. record { count = n i; at = (p.1 ∙ (ap (λ (k : ℕ). place_of (row_of a.1.0) k) n ∙ sym q.1)) i }

pub settings-rows-sound : Result settings-rows.Events.rows_sound.Kinds.ps settings-rows.Events.rows_sound.Kinds.r settings-rows.Events.rows_sound.Reads.Learnt
settings-rows-sound κs a x y s t p q = same p q

pub settings-rows-fill : Seen settings-rows.Events.fill_rows.Kinds.ps settings-rows.Events.fill_rows.Kinds.r settings-rows.Events.fill_rows.Reads.Learnt (λ κs x s. s.1.0.now)
settings-rows-fill κs a x y s t p q = same-table _ _ (same p q)

pub settings-read-store : Result settings-read.read_store.Kinds.ps settings-read.read_store.Kinds.r settings-read.read_store.Reads.Learnt
settings-read-store κs a x y s t p q = same p.0 q.0

pub settings-read-store-rows : Seen settings-read.read_store.Kinds.ps settings-read.read_store.Kinds.r settings-read.read_store.Reads.Learnt (λ κs x s. s.1.0.now)
settings-read-store-rows κs a x y s t p q = same-table _ _ (same p.1 q.1)

pub settings-put-rows : Seen settings-put.put_rows.Kinds.ps settings-put.put_rows.Kinds.r settings-put.put_rows.Reads.Learnt (λ κs x s. s.0.now)
settings-put-rows κs a x y s t p q = same p q

pub settings-put-last : Seen settings-put.put_last.Kinds.ps settings-put.put_last.Kinds.r settings-put.put_last.Reads.Learnt (λ κs x s. s.0.now)
settings-put-last κs a x y s t p q = same p q

pub settings-write-store : Result settings-write.write_store.Kinds.ps settings-write.write_store.Kinds.r settings-write.write_store.Reads.Learnt
settings-write-store κs a x y s t p q = same p.0 q.0

pub settings-write-store-buffer : Seen settings-write.write_store.Kinds.ps settings-write.write_store.Kinds.r settings-write.write_store.Reads.Learnt (λ κs x s. s.1.1.1.1.0.now)
settings-write-store-buffer κs a x y s t p q = same p.1 q.1

-- ---- walk_back: the walk over a backward ring

pub walk-back-placed-at : Result backrows.placed_at.Kinds.ps backrows.placed_at.Kinds.r backrows.placed_at.Reads.Learnt
walk-back-placed-at κs a x y s t p q = one-frame _ _ (same p q)

pub walk-back-next-back : Result backrows.next_back.Kinds.ps backrows.next_back.Kinds.r backrows.next_back.Reads.Learnt
walk-back-next-back κs a x y s t p q = one-frame _ _ (same p q)

pub walk-back-walk-back : Result walks.walk_back.Kinds.ps walks.walk_back.Kinds.r walks.walk_back.Reads.Learnt
walk-back-walk-back κs a x y s t p q = same p.0 q.0

pub walk-back-walk-back-journal : Seen walks.walk_back.Kinds.ps walks.walk_back.Kinds.r walks.walk_back.Reads.Learnt (λ κs x s. s.1.1.1.1.1.1.0.now)
walk-back-walk-back-journal κs a x y s t p q = same p.1.0 q.1.0

pub walk-back-walk-back-scratch : Seen walks.walk_back.Kinds.ps walks.walk_back.Kinds.r walks.walk_back.Reads.Learnt (λ κs x s. s.1.1.1.1.1.0.now)
walk-back-walk-back-scratch κs a x y s t p q = same p.1.1 q.1.1

pub walk-back-walk-events : Result walks.walk_events.Kinds.ps walks.walk_events.Kinds.r walks.walk_events.Reads.Learnt
walk-back-walk-events κs a x y s t p q = same p.0 q.0

pub walk-back-walk-events-journal : Seen walks.walk_events.Kinds.ps walks.walk_events.Kinds.r walks.walk_events.Reads.Learnt (λ κs x s. s.1.1.1.1.1.1.1.0.now)
walk-back-walk-events-journal κs a x y s t p q = same p.1.0 q.1.0

pub walk-back-walk-events-scratch : Seen walks.walk_events.Kinds.ps walks.walk_events.Kinds.r walks.walk_events.Reads.Learnt (λ κs x s. s.1.1.1.1.1.1.0.now)
walk-back-walk-events-scratch κs a x y s t p q = same p.1.1 q.1.1

-- ---- readers: two of one ring

pub readers-new : Result readers.Readers.new.Kinds.ps readers.Readers.new.Kinds.r readers.Readers.new.Reads.Learnt
readers-new κs a x y s t p q = same p q

pub readers-advance-first : Result readers.Readers.advance_first.Kinds.ps readers.Readers.advance_first.Kinds.r readers.Readers.advance_first.Reads.Learnt
readers-advance-first κs a x y s t p q = same p q

pub readers-advance-second : Result readers.Readers.advance_second.Kinds.ps readers.Readers.advance_second.Kinds.r readers.Readers.advance_second.Reads.Learnt
readers-advance-second κs a x y s t p q = same p q

pub readers-publish : Result readers.Readers.publish.Kinds.ps readers.Readers.publish.Kinds.r readers.Readers.publish.Reads.Learnt
readers-publish κs a x y s t p q = same p q

-- ---- replay

pub rooms-put-round : Seen rooms.put_round.Kinds.ps rooms.put_round.Kinds.r rooms.put_round.Reads.Learnt (λ κs x s. s.0.now)
rooms-put-round κs a x y s t p q = same p q

pub rooms-drain-within : Result rooms.drain_within.Kinds.ps rooms.drain_within.Kinds.r rooms.drain_within.Reads.Learnt
rooms-drain-within κs a x y s t p q = same p.0 q.0

pub rooms-drain-within-journal : Seen rooms.drain_within.Kinds.ps rooms.drain_within.Kinds.r rooms.drain_within.Reads.Learnt (λ κs x s. s.1.1.1.1.1.1.1.0.now)
rooms-drain-within-journal κs a x y s t p q = same p.1.0 q.1.0

pub rooms-drain-within-rooms : Seen rooms.drain_within.Kinds.ps rooms.drain_within.Kinds.r rooms.drain_within.Reads.Learnt (λ κs x s. s.0.now)
rooms-drain-within-rooms κs a x y s t p q = same p.1.1 q.1.1

pub replay-entries-step-at : Result replay-entries.step_at.Kinds.ps replay-entries.step_at.Kinds.r replay-entries.step_at.Reads.Learnt
replay-entries-step-at κs a x y s t p q = one-next _ _ _ _ _ p.1 q.1 (same p.0 q.0)

pub replay-entries-step-size : Result replay-entries.Step.size.Kinds.ps replay-entries.Step.size.Kinds.r replay-entries.Step.size.Reads.Learnt
replay-entries-step-size κs a x y s t p q = same p q

pub replay-offer-count-drain : Result replay-offer.count_drain.Kinds.ps replay-offer.count_drain.Kinds.r replay-offer.count_drain.Reads.Learnt
replay-offer-count-drain κs a x y s t p q = same p q

pub replay-offer-bench-offer : Seen replay-offer.Bench.offer.Kinds.ps replay-offer.Bench.offer.Kinds.r replay-offer.Bench.offer.Reads.Learnt (λ κs x s. s.0.now)
replay-offer-bench-offer κs a x y s t p q = one-bench a.0.now s.0.now t.0.now (same p.0 q.0) p.1 q.1

pub playing-begin : Result playing.begin.Kinds.ps playing.begin.Kinds.r playing.begin.Reads.Learnt
playing-begin κs a x y s t p q = same p q

pub playing-play : Result playing.play.Kinds.ps playing.play.Kinds.r playing.play.Reads.Learnt
playing-play κs a x y s t p q = same p.0 q.0

pub playing-play-rooms : Seen playing.play.Kinds.ps playing.play.Kinds.r playing.play.Reads.Learnt (λ κs x s. s.1.1.1.1.0.now)
playing-play-rooms κs a x y s t p q = same p.1.0 q.1.0

pub playing-play-journal : Seen playing.play.Kinds.ps playing.play.Kinds.r playing.play.Reads.Learnt (λ κs x s. s.1.1.1.1.1.1.0.now)
playing-play-journal κs a x y s t p q = same p.1.1 q.1.1

pub replay-replay : Result replaying.replay.Kinds.ps replaying.replay.Kinds.r replaying.replay.Reads.Learnt
replay-replay κs a x y s t p q = same p.0 q.0

pub replay-replay-rooms : Seen replaying.replay.Kinds.ps replaying.replay.Kinds.r replaying.replay.Reads.Learnt (λ κs x s. s.1.1.1.1.1.0.now)
replay-replay-rooms κs a x y s t p q = same p.1.0 q.1.0

pub replay-replay-journal : Seen replaying.replay.Kinds.ps replaying.replay.Kinds.r replaying.replay.Reads.Learnt (λ κs x s. s.1.1.1.1.1.1.0.now)
replay-replay-journal κs a x y s t p q = same p.1.1 q.1.1

-- ---- salvage

pub salvage-kept-size : Result salvage-kept.kept_size.Kinds.ps salvage-kept.kept_size.Kinds.r salvage-kept.kept_size.Reads.Learnt
salvage-kept-size κs a x y s t p q = one-size _ _ p.1 q.1 (same p.0 q.0)

pub salvage-steps-advance : Result salvage-steps.advance.Kinds.ps salvage-steps.advance.Kinds.r salvage-steps.advance.Reads.Learnt
salvage-steps-advance κs a x y s t p q = same p q

pub salvage-steps-closed : Result salvage-steps.closed.Kinds.ps salvage-steps.closed.Kinds.r salvage-steps.closed.Reads.Learnt
salvage-steps-closed κs a x y s t p q = same p q

pub salvage-steps-write-closed : Seen salvage-steps.write_closed.Kinds.ps salvage-steps.write_closed.Kinds.r salvage-steps.write_closed.Reads.Learnt (λ κs x s. s.1.0.now)
salvage-steps-write-closed κs a x y s t p q = same p q

pub salvage-steps-write-step-out : Seen salvage-steps.write_step.Kinds.ps salvage-steps.write_step.Kinds.r salvage-steps.write_step.Reads.Learnt (λ κs x s. s.1.1.1.0.now)
salvage-steps-write-step-out κs a x y s t p q = same p.0 q.0

pub salvage-steps-write-step-list : Seen salvage-steps.write_step.Kinds.ps salvage-steps.write_step.Kinds.r salvage-steps.write_step.Reads.Learnt (λ κs x s. s.1.1.1.1.0.now)
salvage-steps-write-step-list κs a x y s t p q = same p.1 q.1

pub salvage-salvage : Result salvaging.salvage.Kinds.ps salvaging.salvage.Kinds.r salvaging.salvage.Reads.Learnt
salvage-salvage κs a x y s t p q = same p.0 q.0

pub salvage-salvage-out : Seen salvaging.salvage.Kinds.ps salvaging.salvage.Kinds.r salvaging.salvage.Reads.Learnt (λ κs x s. s.1.1.1.1.0.now)
salvage-salvage-out κs a x y s t p q = same p.1.0 q.1.0

pub salvage-salvage-list : Seen salvaging.salvage.Kinds.ps salvaging.salvage.Kinds.r salvaging.salvage.Reads.Learnt (λ κs x s. s.1.1.1.1.1.0.now)
salvage-salvage-list κs a x y s t p q = same p.1.1 q.1.1

-- ---- given, ollskuvan_loop, ollskuvan: what C calls

pub given-attributes : Result given.attributes.Kinds.ps given.attributes.Kinds.r given.attributes.Reads.Learnt
given-attributes κs a x y s t p q = same p q

pub ollskuvan-drain : Result loop.ollskuvan_drain.Kinds.ps loop.ollskuvan_drain.Kinds.r loop.ollskuvan_drain.Reads.Learnt
ollskuvan-drain κs a x y s t p q = same p.0 q.0

pub ollskuvan-drain-journal : Seen loop.ollskuvan_drain.Kinds.ps loop.ollskuvan_drain.Kinds.r loop.ollskuvan_drain.Reads.Learnt (λ κs x s. s.1.1.1.1.1.1.1.1.1.1.1.1.0.now)
ollskuvan-drain-journal κs a x y s t p q = same p.1.0 q.1.0

pub ollskuvan-drain-scratch : Seen loop.ollskuvan_drain.Kinds.ps loop.ollskuvan_drain.Kinds.r loop.ollskuvan_drain.Reads.Learnt (λ κs x s. s.1.1.1.1.1.1.1.1.1.1.1.0.now)
ollskuvan-drain-scratch κs a x y s t p q = same p.1.1 q.1.1

pub ollskuvan-read-one : Result ollskuvan.ollskuvan_read_one.Kinds.ps ollskuvan.ollskuvan_read_one.Kinds.r ollskuvan.ollskuvan_read_one.Reads.Learnt
ollskuvan-read-one κs a x y s t p q = same p.0 q.0

pub ollskuvan-read-one-scratch : Seen ollskuvan.ollskuvan_read_one.Kinds.ps ollskuvan.ollskuvan_read_one.Kinds.r ollskuvan.ollskuvan_read_one.Reads.Learnt (λ κs x s. s.1.1.1.1.1.1.1.1.1.1.0.now)
ollskuvan-read-one-scratch κs a x y s t p q = same p.1.0 q.1.0

pub ollskuvan-read-one-words : Seen ollskuvan.ollskuvan_read_one.Kinds.ps ollskuvan.ollskuvan_read_one.Kinds.r ollskuvan.ollskuvan_read_one.Reads.Learnt (λ κs x s. s.1.1.1.1.1.1.1.1.1.1.1.0.now)
ollskuvan-read-one-words κs a x y s t p q = same p.1.1 q.1.1

pub ollskuvan-drain-events : Result tabled.ollskuvan_drain_events.Kinds.ps tabled.ollskuvan_drain_events.Kinds.r tabled.ollskuvan_drain_events.Reads.Learnt
ollskuvan-drain-events κs a x y s t p q = same p.0 q.0

pub ollskuvan-drain-events-journal : Seen tabled.ollskuvan_drain_events.Kinds.ps tabled.ollskuvan_drain_events.Kinds.r tabled.ollskuvan_drain_events.Reads.Learnt (λ κs x s. s.1.1.1.1.1.1.1.0.now)
ollskuvan-drain-events-journal κs a x y s t p q = same p.1.0 q.1.0

pub ollskuvan-drain-events-scratch : Seen tabled.ollskuvan_drain_events.Kinds.ps tabled.ollskuvan_drain_events.Kinds.r tabled.ollskuvan_drain_events.Reads.Learnt (λ κs x s. s.1.1.1.1.1.1.0.now)
ollskuvan-drain-events-scratch κs a x y s t p q = same p.1.1 q.1.1

pub ollskuvan-compare : Result saved.ollskuvan_compare.Kinds.ps saved.ollskuvan_compare.Kinds.r saved.ollskuvan_compare.Reads.Learnt
ollskuvan-compare κs a x y s t p q = same p.0 q.0

pub ollskuvan-compare-left : Seen saved.ollskuvan_compare.Kinds.ps saved.ollskuvan_compare.Kinds.r saved.ollskuvan_compare.Reads.Learnt (λ κs x s. s.1.1.1.0.now)
ollskuvan-compare-left κs a x y s t p q =
    told-scratch (side_of (asked_events event_limit editions a.1.1.1.1.1.1.1.1.1.0 a.1.1.1.1.1.1.1.1.0.now) a.0.now a.1.0 a.1.1.0 a.1.1.1.0.now)
    x y _ _ _ p.0 q.0 p.1.0 q.1.0

pub ollskuvan-compare-right : Seen saved.ollskuvan_compare.Kinds.ps saved.ollskuvan_compare.Kinds.r saved.ollskuvan_compare.Reads.Learnt (λ κs x s. s.1.1.1.1.1.1.1.0.now)
ollskuvan-compare-right κs a x y s t p q =
    told-scratch (side_of (asked_events event_limit editions a.1.1.1.1.1.1.1.1.1.0 a.1.1.1.1.1.1.1.1.0.now) a.1.1.1.1.0.now a.1.1.1.1.1.0 a.1.1.1.1.1.1.0 a.1.1.1.1.1.1.1.0.now)
    x y _ _ _ p.0 q.0 p.1.1 q.1.1

pub ollskuvan-read-one-events : Result recorded.ollskuvan_read_one_events.Kinds.ps recorded.ollskuvan_read_one_events.Kinds.r recorded.ollskuvan_read_one_events.Reads.Learnt
ollskuvan-read-one-events κs a x y s t p q = same p.0 q.0

pub ollskuvan-read-one-events-scratch : Seen recorded.ollskuvan_read_one_events.Kinds.ps recorded.ollskuvan_read_one_events.Kinds.r recorded.ollskuvan_read_one_events.Reads.Learnt (λ κs x s. s.1.1.1.1.1.0.now)
ollskuvan-read-one-events-scratch κs a x y s t p q = same p.1.0 q.1.0

pub ollskuvan-read-one-events-words : Seen recorded.ollskuvan_read_one_events.Kinds.ps recorded.ollskuvan_read_one_events.Kinds.r recorded.ollskuvan_read_one_events.Reads.Learnt (λ κs x s. s.1.1.1.1.1.1.0.now)
ollskuvan-read-one-events-words κs a x y s t p q = same p.1.1 q.1.1

pub ollskuvan-check-events : Result recorded.ollskuvan_check_events.Kinds.ps recorded.ollskuvan_check_events.Kinds.r recorded.ollskuvan_check_events.Reads.Learnt
ollskuvan-check-events κs a x y s t p q = same p q

pub ollskuvan-read-events : Result recorded.ollskuvan_read_events.Kinds.ps recorded.ollskuvan_read_events.Kinds.r recorded.ollskuvan_read_events.Reads.Learnt
ollskuvan-read-events κs a x y s t p q = same p.0 q.0

pub ollskuvan-read-events-fields : Seen recorded.ollskuvan_read_events.Kinds.ps recorded.ollskuvan_read_events.Kinds.r recorded.ollskuvan_read_events.Reads.Learnt (λ κs x s. s.1.1.1.0.now)
ollskuvan-read-events-fields κs a x y s t p q = same p.1 q.1

pub ollskuvan-check : Result ollskuvan.ollskuvan_check.Kinds.ps ollskuvan.ollskuvan_check.Kinds.r ollskuvan.ollskuvan_check.Reads.Learnt
ollskuvan-check κs a x y s t p q = same p q

pub ollskuvan-publish : Result ollskuvan.ollskuvan_publish.Kinds.ps ollskuvan.ollskuvan_publish.Kinds.r ollskuvan.ollskuvan_publish.Reads.Learnt
ollskuvan-publish κs a x y s t p q = same p q

pub ollskuvan-replay : Result saved.ollskuvan_replay.Kinds.ps saved.ollskuvan_replay.Kinds.r saved.ollskuvan_replay.Reads.Learnt
ollskuvan-replay κs a x y s t p q = same p.0 q.0

pub ollskuvan-replay-rooms : Seen saved.ollskuvan_replay.Kinds.ps saved.ollskuvan_replay.Kinds.r saved.ollskuvan_replay.Reads.Learnt (λ κs x s. s.1.1.1.1.0.now)
ollskuvan-replay-rooms κs a x y s t p q = same p.1.0 q.1.0

pub ollskuvan-replay-journal : Seen saved.ollskuvan_replay.Kinds.ps saved.ollskuvan_replay.Kinds.r saved.ollskuvan_replay.Reads.Learnt (λ κs x s. s.1.1.1.1.1.0.now)
ollskuvan-replay-journal κs a x y s t p q = same p.1.1 q.1.1

pub ollskuvan-walk-back : Result loop.ollskuvan_walk_back.Kinds.ps loop.ollskuvan_walk_back.Kinds.r loop.ollskuvan_walk_back.Reads.Learnt
ollskuvan-walk-back κs a x y s t p q = same p.0 q.0

pub ollskuvan-walk-back-journal : Seen loop.ollskuvan_walk_back.Kinds.ps loop.ollskuvan_walk_back.Kinds.r loop.ollskuvan_walk_back.Reads.Learnt (λ κs x s. s.1.1.1.1.1.1.1.1.1.1.1.0.now)
ollskuvan-walk-back-journal κs a x y s t p q = same p.1.0 q.1.0

pub ollskuvan-walk-back-scratch : Seen loop.ollskuvan_walk_back.Kinds.ps loop.ollskuvan_walk_back.Kinds.r loop.ollskuvan_walk_back.Reads.Learnt (λ κs x s. s.1.1.1.1.1.1.1.1.1.1.0.now)
ollskuvan-walk-back-scratch κs a x y s t p q = same p.1.1 q.1.1

pub ollskuvan-walk-back-events : Result tabled.ollskuvan_walk_back_events.Kinds.ps tabled.ollskuvan_walk_back_events.Kinds.r tabled.ollskuvan_walk_back_events.Reads.Learnt
ollskuvan-walk-back-events κs a x y s t p q = same p.0 q.0

pub ollskuvan-walk-back-events-journal : Seen tabled.ollskuvan_walk_back_events.Kinds.ps tabled.ollskuvan_walk_back_events.Kinds.r tabled.ollskuvan_walk_back_events.Reads.Learnt (λ κs x s. s.1.1.1.1.1.1.0.now)
ollskuvan-walk-back-events-journal κs a x y s t p q = same p.1.0 q.1.0

pub ollskuvan-walk-back-events-scratch : Seen tabled.ollskuvan_walk_back_events.Kinds.ps tabled.ollskuvan_walk_back_events.Kinds.r tabled.ollskuvan_walk_back_events.Reads.Learnt (λ κs x s. s.1.1.1.1.1.0.now)
ollskuvan-walk-back-events-scratch κs a x y s t p q = same p.1.1 q.1.1

pub ollskuvan-salvage : Result saved.ollskuvan_salvage.Kinds.ps saved.ollskuvan_salvage.Kinds.r saved.ollskuvan_salvage.Reads.Learnt
ollskuvan-salvage κs a x y s t p q = same p.0 q.0

pub ollskuvan-salvage-out : Seen saved.ollskuvan_salvage.Kinds.ps saved.ollskuvan_salvage.Kinds.r saved.ollskuvan_salvage.Reads.Learnt (λ κs x s. s.1.1.1.0.now)
ollskuvan-salvage-out κs a x y s t p q = same p.1.0 q.1.0

pub ollskuvan-salvage-changes : Seen saved.ollskuvan_salvage.Kinds.ps saved.ollskuvan_salvage.Kinds.r saved.ollskuvan_salvage.Reads.Learnt (λ κs x s. s.1.1.1.1.0.now)
ollskuvan-salvage-changes κs a x y s t p q = same p.1.1 q.1.1

pub ollskuvan-misc-meaning : Result ollskuvan.ollskuvan_misc_meaning.Kinds.ps ollskuvan.ollskuvan_misc_meaning.Kinds.r ollskuvan.ollskuvan_misc_meaning.Reads.Learnt
ollskuvan-misc-meaning κs a x y s t p q = same p q

pub ollskuvan-copy-name : Result ollskuvan.ollskuvan_copy_name.Kinds.ps ollskuvan.ollskuvan_copy_name.Kinds.r ollskuvan.ollskuvan_copy_name.Reads.Learnt
ollskuvan-copy-name κs a x y s t p q = same p.0 q.0

pub ollskuvan-copy-name-buffer : Seen ollskuvan.ollskuvan_copy_name.Kinds.ps ollskuvan.ollskuvan_copy_name.Kinds.r ollskuvan.ollskuvan_copy_name.Reads.Learnt (λ κs x s. s.1.1.1.0.now)
ollskuvan-copy-name-buffer κs a x y s t p q = same p.1 q.1

pub ollskuvan-read : Result ollskuvan.ollskuvan_read.Kinds.ps ollskuvan.ollskuvan_read.Kinds.r ollskuvan.ollskuvan_read.Reads.Learnt
ollskuvan-read κs a x y s t p q = same p.0 q.0

pub ollskuvan-read-words : Seen ollskuvan.ollskuvan_read.Kinds.ps ollskuvan.ollskuvan_read.Kinds.r ollskuvan.ollskuvan_read.Reads.Learnt (λ κs x s. s.1.1.1.1.1.1.1.1.0.now)
ollskuvan-read-words κs a x y s t p q = same p.1 q.1

pub ollskuvan-write : Result ollskuvan.ollskuvan_write.Kinds.ps ollskuvan.ollskuvan_write.Kinds.r ollskuvan.ollskuvan_write.Reads.Learnt
ollskuvan-write κs a x y s t p q = same p.0 q.0

pub ollskuvan-write-buffer : Seen ollskuvan.ollskuvan_write.Kinds.ps ollskuvan.ollskuvan_write.Kinds.r ollskuvan.ollskuvan_write.Reads.Learnt (λ κs x s. s.1.1.1.1.1.1.1.1.1.0.now)
ollskuvan-write-buffer κs a x y s t p q = same p.1 q.1

pub ollskuvan-read-store : Result stored.ollskuvan_read_store.Kinds.ps stored.ollskuvan_read_store.Kinds.r stored.ollskuvan_read_store.Reads.Learnt
ollskuvan-read-store κs a x y s t p q = same p.0 q.0

pub ollskuvan-read-store-events : Seen stored.ollskuvan_read_store.Kinds.ps stored.ollskuvan_read_store.Kinds.r stored.ollskuvan_read_store.Reads.Learnt (λ κs x s. s.1.0.now)
ollskuvan-read-store-events κs a x y s t p q = same-table _ _ (same p.1 q.1)

pub ollskuvan-write-store : Result stored.ollskuvan_write_store.Kinds.ps stored.ollskuvan_write_store.Kinds.r stored.ollskuvan_write_store.Reads.Learnt
ollskuvan-write-store κs a x y s t p q = same p.0 q.0

pub ollskuvan-write-store-buffer : Seen stored.ollskuvan_write_store.Kinds.ps stored.ollskuvan_write_store.Kinds.r stored.ollskuvan_write_store.Reads.Learnt (λ κs x s. s.1.1.1.1.0.now)
ollskuvan-write-store-buffer κs a x y s t p q = same p.1 q.1

-- ---- writer: the words that tell an item, and its form

pub writer-words-word : Result words.word.Kinds.ps words.word.Kinds.r words.word.Reads.Learnt
writer-words-word κs a x y s t p q = same p q

pub writer-words-start-at : Result words.start_at.Kinds.ps words.start_at.Kinds.r words.start_at.Reads.Learnt
writer-words-start-at κs a x y s t p q = same p q

pub writer-words-after : Result words.after.Kinds.ps words.after.Kinds.r words.after.Reads.Learnt
writer-words-after κs a x y s t p q = same p q

pub writer-words-given-by : Result words.given_by.Kinds.ps words.given_by.Kinds.r words.given_by.Reads.Learnt
writer-words-given-by κs a x y s t p q = one-given _ _ (same p q)

pub writer-forms-of-item : Result forms.of_item.Kinds.ps forms.of_item.Kinds.r forms.of_item.Reads.Learnt
writer-forms-of-item κs a x y s t p q = one-form _ _ (same p q)

pub writer-forms-form-width : Result forms.Form.width.Kinds.ps forms.Form.width.Kinds.r forms.Form.width.Reads.Learnt
writer-forms-form-width κs a x y s t p q = same p q

pub writer-forms-form-unit : Result forms.Form.unit.Kinds.ps forms.Form.unit.Kinds.r forms.Form.unit.Reads.Learnt
writer-forms-form-unit κs a x y s t p q = one-unit _ _ (same p.0 q.0) (same p.1 q.1)

-- ---- writer: one item

pub writer-items-no-zero : Result written-items.no_zero.Kinds.ps written-items.no_zero.Kinds.r written-items.no_zero.Reads.Learnt
writer-items-no-zero κs a x y s t p q = same p q

pub writer-items-beyond : Result written-items.beyond.Kinds.ps written-items.beyond.Kinds.r written-items.beyond.Reads.Learnt
writer-items-beyond κs a x y s t p q = same p q

pub writer-items-advance : Result written-items.advance.Kinds.ps written-items.advance.Kinds.r written-items.advance.Reads.Learnt
writer-items-advance κs a x y s t p q = one-state _ _ (same p q)

pub writer-items-try-item : Result written-items.try_item.Kinds.ps written-items.try_item.Kinds.r written-items.try_item.Reads.Learnt
writer-items-try-item κs a x y s t p q = one-state _ _ (same p q)

pub writer-items-put-item : Result written-items.put_item.Kinds.ps written-items.put_item.Kinds.r written-items.put_item.Reads.Learnt
writer-items-put-item κs a x y s t p q = one-spot _ _ (same p.1 q.1)

pub writer-items-put-item-buffer : Seen written-items.put_item.Kinds.ps written-items.put_item.Kinds.r written-items.put_item.Reads.Learnt (λ κs x s. s.1.1.1.1.0.now)
writer-items-put-item-buffer κs a x y s t p q = same p.0 q.0

-- ---- writer: the items of a part. As for `part_of`, which rows a part has stays open; what they stand for does not

pub writer-parts-type-part-item : Result parts.TypePart.item.Kinds.ps parts.TypePart.item.Kinds.r parts.TypePart.item.Reads.Learnt
writer-parts-type-part-item κs a x y s t p q = same p q

pub writer-parts-any-beyond : Result parts.any_beyond.Kinds.ps parts.any_beyond.Kinds.r parts.any_beyond.Reads.Learnt
writer-parts-any-beyond κs a x y s t p q = same p q

pub writer-parts-try-all : Result parts.try_all.Kinds.ps parts.try_all.Kinds.r parts.try_all.Reads.Learnt
writer-parts-try-all κs a x y s t p q = one-state _ _ (same p q)

pub writer-parts-put-all-buffer : Seen parts.put_all.Kinds.ps parts.put_all.Kinds.r parts.put_all.Reads.Learnt (λ κs x s. s.1.1.1.1.1.0.now)
writer-parts-put-all-buffer κs a x y s t p q = same p q

pub writer-parts-body : Seen parts.body.Kinds.ps parts.body.Kinds.r parts.body.Reads.Learnt (λ κs x s. part_items x)
writer-parts-body κs a x y s t p q = same p.items q.items

pub writer-parts-trailing : Seen parts.trailing.Kinds.ps parts.trailing.Kinds.r parts.trailing.Reads.Learnt (λ κs x s. part_items x)
writer-parts-trailing κs a x y s t p q = same p.items q.items

-- ---- writer: a whole record, and the answers

pub writer-record-measure : Result whole.measure.Kinds.ps whole.measure.Kinds.r whole.measure.Reads.Learnt
writer-record-measure κs a x y s t p q = one-size _ _ p.1 q.1 (same p.0 q.0)

pub writer-record-put-record-buffer : Seen whole.put_record.Kinds.ps whole.put_record.Kinds.r whole.put_record.Reads.Learnt (λ κs x s. s.1.1.1.1.1.1.0.now)
writer-record-put-record-buffer κs a x y s t p q = same p q

pub write : Result writer.write.Kinds.ps writer.write.Kinds.r writer.write.Reads.Learnt
write κs a x y s t p q = one-answer _ _ (same p.0 q.0)

pub write-buffer : Seen writer.write.Kinds.ps writer.write.Kinds.r writer.write.Reads.Learnt (λ κs x s. s.1.1.1.1.0.now)
write-buffer κs a x y s t p q = same p.1 q.1

-- the same by any pen
pub write-by : (T : RattleType) (l : Laws T) (g : Pens T.Denot) (d : Dict) → Result (writer.write_by.Kinds.ps T l) (writer.write_by.Kinds.r T l) (writer.write_by.Reads.Learnt T l g d)
write-by T l g d κs a x y s t p q = one-answer _ _ (same p.0 q.0)

pub write-by-buffer : (T : RattleType) (l : Laws T) (g : Pens T.Denot) (d : Dict) → Seen (writer.write_by.Kinds.ps T l) (writer.write_by.Kinds.r T l) (writer.write_by.Reads.Learnt T l g d) (λ κs x s. s.1.1.1.1.0.now)
write-by-buffer T l g d κs a x y s t p q = same p.1 q.1

-- the same by the rows of the table
pub writer-plain-write-known : Result writer.PlainPen.write_known.Kinds.ps writer.PlainPen.write_known.Kinds.r writer.PlainPen.write_known.Reads.Learnt
writer-plain-write-known κs a x y s t p q = one-answer _ _ (same p.0 q.0)

pub writer-plain-write-known-buffer : Seen writer.PlainPen.write_known.Kinds.ps writer.PlainPen.write_known.Kinds.r writer.PlainPen.write_known.Reads.Learnt (λ κs x s. s.1.1.1.1.1.0.now)
writer-plain-write-known-buffer κs a x y s t p q = same p.1 q.1

-- ---- the straight writer: of an item, or of a type's items, whether they fit, and if so the place and the counts after them

abbrev ended : Reached → Cursor
ended x = cond x.bad unfit (state_of x)

tried_same : {is : List Item} {src ws : List ℕ} {w : ℕ} {c x y : Reached} → Tried is src ws w c x → Tried is src ws w c y → ended x ≡ ended y
unfolding try_from try_items
tried_same {is} {src} {ws} {w} {c} {x} {y} t u = go x.bad y.bad refl refl
  where
    go : (b d : Bool) → x.bad ≡ b → y.bad ≡ d → cond b unfit (state_of x) ≡ cond d unfit (state_of y)
    go true true h k = refl
    go false false h k = sym (t.fits h []) ∙ u.fits k []
    go false true h k = sym (t.fits h []) ∙ u.misfits (t.kept h) k []
    go true false h k = sym (t.misfits (u.kept k) h []) ∙ u.fits k []

pub write-fits-number : Seen fits.number.Kinds.ps fits.number.Kinds.r fits.number.Reads.Learnt (λ κs x s. ended x)
write-fits-number κs a x y s t p q = tried_same p q

pub write-fits-count : Seen fits.count.Kinds.ps fits.count.Kinds.r fits.count.Reads.Learnt (λ κs x s. ended x)
write-fits-count κs a x y s t p q = tried_same p q

pub write-fits-size : Seen fits.size.Kinds.ps fits.size.Kinds.r fits.size.Reads.Learnt (λ κs x s. ended x)
write-fits-size κs a x y s t p q = tried_same p q

pub write-fits-limit : Seen fits.limit.Kinds.ps fits.limit.Kinds.r fits.limit.Reads.Learnt (λ κs x s. ended x)
write-fits-limit κs a x y s t p q = tried_same p q

pub write-fits-abi : Seen fits.abi.Kinds.ps fits.abi.Kinds.r fits.abi.Reads.Learnt (λ κs x s. ended x)
write-fits-abi κs a x y s t p q = tried_same p q

pub write-fits-filled : Seen fits.filled.Kinds.ps fits.filled.Kinds.r fits.filled.Reads.Learnt (λ κs x s. ended x)
write-fits-filled κs a x y s t p q = tried_same p q

pub write-fits-ignored : Seen fits.ignored.Kinds.ps fits.ignored.Kinds.r fits.ignored.Reads.Learnt (λ κs x s. ended x)
write-fits-ignored κs a x y s t p q = tried_same p q

pub write-fits-pad : Seen fits.pad.Kinds.ps fits.pad.Kinds.r fits.pad.Reads.Learnt (λ κs x s. ended x)
write-fits-pad κs a x y s t p q = tried_same p q

pub write-fits-times : Seen fits.times.Kinds.ps fits.times.Kinds.r fits.times.Reads.Learnt (λ κs x s. ended x)
write-fits-times κs a x y s t p q = tried_same p q

pub write-fits-values : Seen fits.values.Kinds.ps fits.values.Kinds.r fits.values.Reads.Learnt (λ κs x s. ended x)
write-fits-values κs a x y s t p q = tried_same p q

pub write-fits-earlier : Seen fits.earlier.Kinds.ps fits.earlier.Kinds.r fits.earlier.Reads.Learnt (λ κs x s. ended x)
write-fits-earlier κs a x y s t p q = tried_same p q

pub write-fits-registers : Seen fits.registers.Kinds.ps fits.registers.Kinds.r fits.registers.Reads.Learnt (λ κs x s. ended x)
write-fits-registers κs a x y s t p q = tried_same p q

pub write-fits-listed : Seen fits.listed.Kinds.ps fits.listed.Kinds.r fits.listed.Reads.Learnt (λ κs x s. ended x)
write-fits-listed κs a x y s t p q = tried_same p q

pub write-fits-bytes : Seen fits.bytes.Kinds.ps fits.bytes.Kinds.r fits.bytes.Reads.Learnt (λ κs x s. ended x)
write-fits-bytes κs a x y s t p q = tried_same p q

pub write-fits-name : Seen fits.name.Kinds.ps fits.name.Kinds.r fits.name.Reads.Learnt (λ κs x s. ended x)
write-fits-name κs a x y s t p q = tried_same p q

pub fit-chains-fields : Seen tests.fields.Kinds.ps tests.fields.Kinds.r tests.fields.Reads.Learnt (λ κs x s. ended x)
fit-chains-fields κs a x y s t p q = tried_same p q

pub fit-chains-trail : Seen tests.trail.Kinds.ps tests.trail.Kinds.r tests.trail.Reads.Learnt (λ κs x s. ended x)
fit-chains-trail κs a x y s t p q = tried_same p q

pub fit-chains-own-end : Result tests.own_end.Kinds.ps tests.own_end.Kinds.r tests.own_end.Reads.Learnt
fit-chains-own-end κs a x y s t p q = same p.0 q.0

pub write-puts-header-buffer : Seen puts.header.Kinds.ps puts.header.Kinds.r puts.header.Reads.Learnt (λ κs x s. s.1.1.1.0.now)
write-puts-header-buffer κs a x y s t p q = same p q

pub fast-write : Result straight.write.Kinds.ps straight.write.Kinds.r straight.write.Reads.Learnt
fast-write κs a x y s t p q = one-answer _ _ (same p.0 q.0)

pub fast-write-buffer : Seen straight.write.Kinds.ps straight.write.Kinds.r straight.write.Reads.Learnt (λ κs x s. s.1.1.1.1.0.now)
fast-write-buffer κs a x y s t p q = same p.1 q.1
