-- Where the loop over the fields of a pair stands, as the definitions have it. Assumes nothing: these are definitions.
use Rattle.std.specs.Prelude.{refl, Bool, true, false, ℕ}
use Rattle.meaning.specs.Reasons.{cursor_of}
use Rattle.meaning.specs.Records.{origin}
use Rattle.pair_fields.specs.declared.Rest.{Rest}
use Rattle.pair_fields.specs.declared.State.{State}
use Rattle.pair_fields.specs.declared.State.TheVariants.{Alike, Differs, At}
use Rattle.pair_fields.specs.Inner.{Pos, Settled}

-- some fields are still to come
abbrev pub pos_of : Rest → Pos
pos_of p = record {
  k = p.k;
  same = true;
  done = false;
  last = p.last;
  row = p.row;
  to = p.to;
  end = p.end;
  kind = p.kind;
  misc = p.misc;
  a = p.a;
  w = p.w;
  x = p.x;
  c = cursor_of p.c;
  d = cursor_of p.d;
}

-- nothing is left to be looked at
abbrev pub settled_at : ℕ → Bool → Pos
settled_at k same = record {
  k = k;
  same = same;
  done = true;
  last = true;
  row = 0;
  to = 0;
  end = 0;
  kind = 0;
  misc = 0;
  a = record { sample = 0; format = 0; all = false; user = 0; interrupt = 0; branch = 0 };
  w = 0;
  x = 0;
  c = origin 0;
  d = origin 0;
}

abbrev pub state_of : State → Pos
state_of Alike = settled_at 0 true
state_of (Differs k) = settled_at k false
state_of (At p) = pos_of p

pub settled-at : (k : ℕ) (same : Bool) → Settled k same (settled_at k same)
settled-at k same = record { k-is = refl; same-is = refl; done-is = refl }
