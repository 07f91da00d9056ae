-- The entries put so far are those of the first events; the next stands right after them.
use Rattle.std.specs.Prelude.{◌≡◌, ℕ, ◌+◌, ◌<◌, ◌≤◌, List, [], length, get_or, take}
use Rattle.std.proofs.Common.{sym, ap, ◌∙◌, arith, take_all}
use Rattle.std.proofs.lemmas.List.{get_or-map}
use Rattle.meaning.specs.Bytes.{put}
use Rattle.meaning.specs.Events.{no_event}
use Rattle.settings.specs.Lent.{words_of, lent_rows, lent-length}
use Rattle.settings.specs.Versions.{Version, row_of, place_of}
use Rattle.settings.specs.Writing.{row_bytes, rows_bytes}
use Rattle.settings.proofs.Steps.{place-next, place_up}
use Rattle.settings.proofs.Puts.{rows-put, rows_none}
use Rattle.settings_put.proofs.put_rows.Goals as goal

room : (v : Version) (i n m : ℕ) → i < n → place_of v n ≤ m → place_of v i + (v.width + 54) ≤ m
room v i n m t h = omega (arith, place-next v i, place_up v (i + 1) n (omega arith), h)

pub loop-i-init : goal.loop-i-init
unfolding place_of
loop-i-init c =
    rows_none (row_of c.args.v) c.args.d.now (lent_rows c.args.events.now) (omega (arith, place_up (row_of c.args.v) 0 (length c.args.events.now) (omega arith), c.requires))

pub place_of-requires : goal.place_of-requires
place_of-requires c =
    omega (arith, room (row_of c.args.v) c.loop-i.i (length c.args.events.now) (length c.args.d.now) c.loop-i-test.true c.requires, c.well_formed)

pub put_row-requires : goal.put_row-requires
put_row-requires c =
    omega (arith, room (row_of c.args.v) c.loop-i.i (length c.args.events.now) (length c.args.d.now) c.loop-i-test.true c.requires, c.place_of.ensures, c.loop-i.auto.d)

pub loop-i-preserved : goal.loop-i-preserved
loop-i-preserved c =
    let a = c.args in
    let l = c.loop-i in
    let es = a.events.now in
    let m : place_of (row_of a.v) (l.i + 1) ≤ length a.d.now = omega (arith, room (row_of a.v) l.i (length es) (length a.d.now) c.loop-i-test.true c.requires, place-next (row_of a.v) l.i) in
    let r : get_or (lent_rows es) l.i [] ≡ words_of (get_or es l.i no_event) = get_or-map words_of es l.i no_event [] c.loop-i-test.true in
    c.put_row.ensures
    ∙ ap (λ (p : ℕ). put l.d p (row_bytes (row_of a.v) l.i (words_of (get_or es l.i no_event)))) c.place_of.ensures
    ∙ ap (λ (q : List ℕ). put l.d (place_of (row_of a.v) l.i) (row_bytes (row_of a.v) l.i q)) (sym r)
    ∙ rows-put (row_of a.v) a.d.now l.d (lent_rows es) l.i (omega (arith, lent-length es, c.loop-i-test.true)) m l.invariant

pub returns : goal.returns
returns c =
    let a = c.args in
    let l = c.loop-i in
    let rows = lent_rows a.events.now in
    l.invariant ∙ ap (λ (q : List (List ℕ)). put a.d.now 8 (rows_bytes (row_of a.v) 0 q)) (take_all l.i rows (omega (arith, lent-length a.events.now, c.loop-i-test.false)))
