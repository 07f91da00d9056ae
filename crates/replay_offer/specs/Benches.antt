-- The bench as the code holds it, seen as what the definitions speak of. Assumes nothing: these are definitions.
use Rattle.std.specs.Prelude.{◌≡◌, ℕ, List, length}
use Rattle.std.specs.Borrow.{MutBor}
use Rattle.replay.specs.Steps.{Lent, lent}
use Rattle.replay_offer.specs.declared.Bench.{Bench}

-- the bytes lent, and the counts
abbrev pub lent_of : Bench → Lent
lent_of b = lent b.rooms.now b.journal.now b.counts

-- the same slice is lent, as long as before
abbrev pub SameLent : MutBor (List ℕ) → MutBor (List ℕ) → Type 0
SameLent x y = (y.ghost_name ≡ x.ghost_name) × (y.ref_ptr ≡ x.ref_ptr) × (length y.now ≡ length x.now)

-- the same slices are lent, and the first is halved where it was
abbrev pub SameBench : Bench → Bench → Type 0
SameBench b c = (c.half ≡ b.half) × SameLent b.rooms c.rooms × SameLent b.journal c.journal
