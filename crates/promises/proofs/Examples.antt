-- "Examples at the edges (marked P: the set to prove)": P1 to P12 of document 01, the list of specs/Examples with a single proof over it. The checker
-- computes the answers from the definitions. Assumes nothing.
use Rattle.std.specs.Prelude.{◌≡◌, refl, true}
use Rattle.meaning.specs.Bytes.{num, spell, bit, ones, zero_in, all_zero, stale, put}
use Rattle.meaning.specs.Refusals.{first}
use Rattle.meaning.specs.Items.{span, rule, holds, counted, before, past, part, settle, shape_step, step, walk}
use Rattle.meaning.specs.Writing.{ends, named, dirty}
use Rattle.meaning.specs.Editions.{known, unreadable}
use Rattle.meaning.specs.Records.{layout, kind_of, misc_of, size_of, room_shape, room, fields_of, closed, fields_answer, judge, check_by, check, flag_by, flag_of, record_check}
use Rattle.meaning.specs.Misc.{types13, types14, means13, means14, misc_meaning}
use Rattle.meaning.specs.Values.{tell, slot_shape, flag_words, words, words_by, record_words, read_answered}
use Rattle.meaning.specs.Ring.{length_allowed, distance, record_at, stopped, sized, frame, scratch_after, taken, not_taken, read_one, one_scratch}
use Rattle.promises.specs.Examples.{all, passes, cases}

pub every-example : all cases ≡ true
unfolding all passes cases num spell bit ones zero_in put first span rule holds counted before past part settle shape_step step walk known unreadable layout kind_of misc_of size_of room_shape room fields_of closed fields_answer judge check_by check all_zero stale ends named dirty flag_by flag_of record_check types13 types14 means13 means14 misc_meaning tell slot_shape flag_words words words_by record_words read_answered length_allowed distance record_at stopped sized frame scratch_after taken not_taken read_one one_scratch
every-example = refl
