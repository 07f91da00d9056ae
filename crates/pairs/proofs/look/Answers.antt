-- `pairs::look` meets its contract: equal bytes, or bytes that are the same but for ignored ones, have no field that differs; else the fields are looked at.
use mathlib.Core.Path.{sym, ◌∙◌}
use Rattle.meaning.specs.Editions.{editions, known}
use Rattle.laws.specs.Bytes.{apart}
use Rattle.compare.specs.Compared.{event_reads}
use Rattle.compare.proofs.Pairs.{same_bytes_lem}
use Rattle.compare.proofs.Others.{same-record}
use mathlib.Core.Bool.{true}
use Rattle.pair_fields.specs.States.{settled_at, settled-at}
use Rattle.pair_fields.specs.Fields.{settled-stands}
use Rattle.pairs.proofs.look.Goals as goal

pub returns-then-same_record : goal.returns-then-same_record
returns-then-same_record c =
    let a = c.args in
    let e = same-record (event_reads (known editions a.e) a.events.now) a.x.now a.y.now (same_bytes_lem a.x.now a.y.now (sym c.same_record.ensures ∙ c.if-same_record.true)) in
    settled-stands a.x.now a.y.now _ _ 0 true (settled_at 0 true) (settled-at 0 true) (sym e) (λ z. absurd (apart (sym z ∙ e)))

pub returns-then-like : goal.returns-then-like
returns-then-like c =
    let a = c.args in
    let e = c.like.ensures c.if-like.true in
    settled-stands a.x.now a.y.now _ _ 0 true (settled_at 0 true) (settled-at 0 true) (sym e) (λ z. absurd (apart (sym z ∙ e)))
