use Rattle.std.proofs.Common.{◌≤◌, length}
use Rattle.fast_writer.proofs.Laws.{zero_so_far}
use Rattle.fast_writer.proofs.all_zero.Given as goal

abbrev pub invariant-loop-word : goal.invariant-loop-word
invariant-loop-word l = (l.word-index ≤ length l.ws) × zero_so_far l.ws l.word-index l.zero
