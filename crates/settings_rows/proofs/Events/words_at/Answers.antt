-- The entry of an event before the last ends within the stretch that all of them take.
use Rattle.std.specs.Prelude.{ℕ, ◌+◌, ◌<◌, ◌≤◌, List, length}
use Rattle.std.proofs.Common.{arith}
use Rattle.settings.specs.Versions.{Version, row_of, place_of}
use Rattle.settings.proofs.Steps.{place-next, place_up}
use Rattle.settings_rows.proofs.Events.words_at.Goals as goal

room : (v : Version) (b : List ℕ) (i n : ℕ) → i < n → place_of v n ≤ length b → place_of v i + (v.width + 54) ≤ length b
room v b i n t h =
    let m : i + 1 ≤ n = omega arith in
    omega (arith, place-next v i, place_up v (i + 1) n m, h)

pub place_of-requires : goal.place_of-requires
place_of-requires c = let s = c.args.self in omega (arith, room (row_of s.version) s.bytes.now c.args.i s.count c.requires s.inside, c.well_formed)

pub overflow_add-result : goal.overflow_add-result
overflow_add-result c = let s = c.args.self in omega (arith, room (row_of s.version) s.bytes.now c.args.i s.count c.requires s.inside, c.place_of.ensures, c.well_formed)

pub overflow_add-result-2 : goal.overflow_add-result-2
overflow_add-result-2 c = let s = c.args.self in omega (arith, room (row_of s.version) s.bytes.now c.args.i s.count c.requires s.inside, c.place_of.ensures, c.well_formed)

pub returns : goal.returns
returns c =
    let s = c.args.self in
    record {
      value = omega (arith, c.place_of.ensures);
      inside = omega (arith, room (row_of s.version) s.bytes.now c.args.i s.count c.requires s.inside, c.place_of.ensures);
    }
