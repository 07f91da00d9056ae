-- `pairs::like` meets its contract: x is accepted, y has its type, misc, length and event, and is the same but for ignored bytes.
use mathlib.Core.Path.{◌≡◌, sym, ap, ◌∙◌}
use Prim.Native.Nat.{ℕ}
use native.Mathlib.Omega.{arith}
use lib.ListN.{length}
use Rattle.meaning.specs.Editions.{editions, known}
use Rattle.meaning.specs.Events.{attributes_of, event_at, identifiers, identifier_of, index_of}
use Rattle.twins.proofs.Whole.{same-like}
use Rattle.laws.specs.Numbers.{kind-is, misc-is}
use Rattle.pairs.specs.Start.{framed-long, accepted-long, accepted-there, beside-is, like-alike}
use Rattle.pairs.proofs.Found.{is-there, there-is, no-refusal}
use Rattle.pairs.proofs.like.Goals as goal

pub u32_at-kind-requires : goal.u32_at-kind-requires
u32_at-kind-requires c = let l = framed-long c.args.x.now c.requires.x_value.0 in omega (arith, l)

pub u32_at-requires : goal.u32_at-requires
u32_at-requires c = let l = framed-long c.args.y.now c.requires.x_value.1 in omega (arith, l)

pub u16_at-misc-requires : goal.u16_at-misc-requires
u16_at-misc-requires c = let l = framed-long c.args.x.now c.requires.x_value.0 in omega (arith, l)

pub u16_at-requires : goal.u16_at-requires
u16_at-requires c = let l = framed-long c.args.y.now c.requires.x_value.1 in omega (arith, l)

pub judge-requires : goal.judge-requires
judge-requires c = framed-long c.args.x.now c.requires.x_value.0

pub identifier_of-id-requires : goal.identifier_of-id-requires
identifier_of-id-requires c =
    let a = c.args in
    (accepted-long (known editions a.e) a.events.now c.requires.events_value a.x.now (sym c.judge.ensures ∙ no-refusal _ (sym c.is_err.ensures.value ∙ c.if-is_err.false)), c.u32_at-kind.ensures.0 ∙ kind-is a.x.now)

pub identifier_of-requires : goal.identifier_of-requires
identifier_of-requires c =
    let a = c.args in
    let l = accepted-long (known editions a.e) a.events.now c.requires.events_value a.x.now (sym c.judge.ensures ∙ no-refusal _ (sym c.is_err.ensures.value ∙ c.if-is_err.false)) in
    let e = c.if-x-y.false in
    (omega (arith, l, e), c.if-kind-u32_at.false ∙ c.u32_at.ensures.0 ∙ kind-is a.y.now)

pub unwrap-event-requires : goal.unwrap-event-requires
unwrap-event-requires c =
    let a = c.args in
    let t = accepted-there (known editions a.e) a.events.now c.requires.events_value a.x.now (sym c.judge.ensures ∙ no-refusal _ (sym c.is_err.ensures.value ∙ c.if-is_err.false)) in
    let e = c.find.ensures.value ∙ ap (λ (i : ℕ). index_of i (identifiers a.events.now)) c.identifier_of-id.ensures in
    is-there c.find.result (length a.events.now) _ e (omega (arith, t))

pub attributes_at-requires : goal.attributes_at-requires
attributes_at-requires c =
    let a = c.args in
    let t = accepted-there (known editions a.e) a.events.now c.requires.events_value a.x.now (sym c.judge.ensures ∙ no-refusal _ (sym c.is_err.ensures.value ∙ c.if-is_err.false)) in
    let e = there-is _ _ _ _ c.find.ensures.value c.unwrap-event.ensures ∙ ap (λ (i : ℕ). index_of i (identifiers a.events.now)) c.identifier_of-id.ensures in
    omega (arith, t, e)

pub same_but-requires : goal.same_but-requires
same_but-requires c =
    let a = c.args in
    let i = index_of (identifier_of a.x.now) (identifiers a.events.now) in
    let f : c.unwrap-event.result ≡ i = there-is _ _ _ _ c.find.ensures.value c.unwrap-event.ensures ∙ ap (λ (j : ℕ). index_of j (identifiers a.events.now)) c.identifier_of-id.ensures in
    let kx = c.u32_at-kind.ensures.0 ∙ kind-is a.x.now in
    let mx = c.u16_at-misc.ensures.0 ∙ misc-is a.x.now in
    beside-is (known editions a.e) a.events.now c.requires.events_value a.x.now a.y.now c.requires.x_value.0 c.requires.x_value.1
    (sym c.judge.ensures ∙ no-refusal _ (sym c.is_err.ensures.value ∙ c.if-is_err.false)) (sym kx ∙ c.if-kind-u32_at.false ∙ c.u32_at.ensures.0 ∙ kind-is a.y.now) (sym mx ∙ c.if-misc-u16_at.false ∙ c.u16_at.ensures.0 ∙ misc-is a.y.now)
    c.if-x-y.false (sym c.identifier_of-id.ensures ∙ c.if-id-identifier_of.false ∙ c.identifier_of.ensures)
    c.attributes_at.result (c.attributes_at.ensures ∙ ap (λ (j : ℕ). attributes_of (event_at a.events.now j)) f) _ _ kx mx

pub returns : goal.returns
returns c q =
    let a = c.args in
    let i = index_of (identifier_of a.x.now) (identifiers a.events.now) in
    let f : c.unwrap-event.result ≡ i = there-is _ _ _ _ c.find.ensures.value c.unwrap-event.ensures ∙ ap (λ (j : ℕ). index_of j (identifiers a.events.now)) c.identifier_of-id.ensures in
    let kx = c.u32_at-kind.ensures.0 ∙ kind-is a.x.now in
    let mx = c.u16_at-misc.ensures.0 ∙ misc-is a.x.now in
    let ac = sym c.judge.ensures ∙ no-refusal _ (sym c.is_err.ensures.value ∙ c.if-is_err.false) in
    let k = sym kx ∙ c.if-kind-u32_at.false ∙ c.u32_at.ensures.0 ∙ kind-is a.y.now in
    let m = sym mx ∙ c.if-misc-u16_at.false ∙ c.u16_at.ensures.0 ∙ misc-is a.y.now in
    let ids = sym c.identifier_of-id.ensures ∙ c.if-id-identifier_of.false ∙ c.identifier_of.ensures in
    let at = c.attributes_at.ensures ∙ ap (λ (j : ℕ). attributes_of (event_at a.events.now j)) f in
    let b = beside-is (known editions a.e) a.events.now c.requires.events_value a.x.now a.y.now c.requires.x_value.0 c.requires.x_value.1 ac k m c.if-x-y.false ids c.attributes_at.result at _ _ kx mx in
    like-alike (known editions a.e) a.events.now c.requires.events_value a.x.now a.y.now c.requires.x_value.0 c.requires.x_value.1 ac k m c.if-x-y.false ids
    c.attributes_at.result at (same-like a.x.now a.y.now _ _ _ b (sym c.same_but.ensures ∙ q))
