-- One item of the loop that tests: the state after it, or none where it does not fit, passes the source's end, or ends past 65,535, where no
-- record ends. Not what must be believed. Assumes nothing: these are definitions.
use Rattle.std.specs.Prelude.{ℕ, Bool, cond, not, ◌&&◌, List, leb, Result, Ok, Err}
use Rattle.meaning.specs.States.{Cursor}
use Rattle.meaning.specs.declared.Item.{Item}
use Rattle.meaning.specs.declared.Reason.{Reason}
use Rattle.meaning.specs.declared.Spot.{Spot}
use Rattle.meaning.specs.Items.{cursor}
use Rattle.meaning.specs.Reasons.{cursor_of, number_of}
use Rattle.meaning.specs.Writing.{blank, fit_shape, next}
use Rattle.meaning.specs.Values.{Slot, held, beyond}

-- the most that the two bytes of a record's size can say: no item ends past it
abbrev pub most_bytes : ℕ
most_bytes = 65535

-- no state of a writer: 42
abbrev pub unfit : Cursor
unfit = cursor 0 0 0 42

-- the code's state, or why there is none
abbrev pub state_of : Result Spot Reason → Cursor
state_of (Ok c) = cursor_of c
state_of (Err reason) = cursor 0 0 0 (number_of reason)

abbrev pub fits_item : List ℕ → Item → Slot → Cursor → Bool
fits_item src i s c = cond i.on (fit_shape i.shape c (held src i s)) (blank (held src i s))

unfoldable pub good : List ℕ → Item → Slot → Cursor → Bool
good src i s c = fits_item src i s c && (not (beyond src i s) && leb (next i (held src i s) c).at most_bytes)

unfoldable pub try_item : List ℕ → Item → Slot → Cursor → Cursor
try_item src i s c = cond (good src i s c) (next i (held src i s) c) unfit
