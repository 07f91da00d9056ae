-- What is promised of a walk over a backward ring (M-109), in one record; that it holds is in proofs/Backward, `walk-promised`.
use Rattle.std.specs.Prelude.{◌≡◌, List, true, false, ℕ, ◌-◌, ◌*◌, ◌<◌, ◌≤◌, length, get_or, take, drop}
use Rattle.meaning.specs.Ring.{Asked}
use Rattle.meaning.specs.Drain.{End, entry_for}
use Rattle.meaning.specs.Backward.{walk_by}
use Rattle.laws.specs.Rows.{gives}
use Rattle.runs.specs.Cutting.{Cut, All, nothing_cut}
use Rattle.runs.proofs.Crossing.{lies_whole, OneCrosses}
use Rattle.backward.specs.Promise.{walk_cuts, Walks, Ended}
use Rattle.backward.specs.Frames.{back_rows}

-- ---- what is promised of a walk, under any judge and whatever the rows ask beside the ring
module _ (asked : Asked) (judge : List ℕ → ℕ) (ring : List ℕ) (head budget : ℕ) (journal scratch : List ℕ) where
  -- where it ends, and the records as the ring is cut
  abbrev end : End
  end = walk_by asked judge ring head budget journal scratch

  abbrev records : List Cut
  records = (walk_cuts asked ring head budget (length journal) scratch).records

  pub record Promised : Type 0 where
    -- records taken are entries written; bytes walked are the sum of the sizes, at most one ring length; where each record starts; the journal
    pub counted : Walks asked judge ring head budget journal scratch (walk_cuts asked ring head budget (length journal) scratch) end
    pub entry : (i : ℕ) → i < end.state.taken
        → take 16 (drop (16 * i) end.state.journal) ≡ entry_for judge (get_or records i nothing_cut).record-bytes (get_or records i nothing_cut).tail
    -- why it ended: a row with its number holds there; and what each of 0, 6, 13, 8, 9 and 3 says
    pub reason : gives end.stop (back_rows asked ring head end.state.tail (budget - end.state.taken) (length journal - 16 * end.state.taken) (length scratch)) ≡ true
    pub ended_so : Ended ring budget journal scratch end
    -- the scratch: at most one record crosses the ring's end; it is what the scratch then begins with, the other bytes unchanged; where none does, all are
    pub crosses-once : OneCrosses ring records
    pub scratch-copied : (i : ℕ) → i < end.state.taken → lies_whole ring (get_or records i nothing_cut) ≡ false
        → (take (length (get_or records i nothing_cut).record-bytes) end.state.scratch ≡ (get_or records i nothing_cut).record-bytes)
        × (drop (length (get_or records i nothing_cut).record-bytes) end.state.scratch ≡ drop (length (get_or records i nothing_cut).record-bytes) scratch)
    pub scratch-kept : All (λ (c : Cut). lies_whole ring c ≡ true) records → end.state.scratch ≡ scratch
    -- what always suffices: one record for every 8 bytes of the ring, twice its length for the journal, its length for the scratch
    pub eights : 8 * end.state.taken ≤ end.state.bytes
    pub budget-enough : length ring ≤ 8 * budget → end.stop ≡ 8 → ⊥
    pub journal-enough : 2 * length ring ≤ length journal → end.stop ≡ 9 → ⊥
    pub scratch-enough : length ring ≤ length scratch → end.stop ≡ 3 → ⊥
