-- `fast_read::set_flag` meets its contract: the fields' last eight bytes say the flag, which goes to the word after those of the fields; a type without
-- a name has none. Assumes nothing.
use mathlib.Core.Path.{◌≡◌, refl, sym, ap, ◌∙◌}
use mathlib.Core.List.{List}
use Prim.Native.Nat.{ℕ, ◌-◌, ◌≤◌}
use native.Mathlib.Omega.{arith}
use lib.ListN.{length, set, take, drop}
use lib.Seq.{length-take-le}
use Rattle.meaning.specs.declared.Attributes.{Attributes}
use Rattle.meaning.specs.Bytes.{stale}
use Rattle.meaning.specs.Schema.{trailer}
use Rattle.meaning.specs.Records.{room}
use Rattle.record.specs.Into.{Accepted}
use Rattle.record.specs.Flag.{byte_is, trailer-there, dirty-some, number_is, word_none, word-there, word_some}
use Rattle.table.specs.Flags.{flag_at}
use Rattle.fast_read.proofs.set_flag.Goals as goal

-- eight bytes or more are before the trailer
long : (a : Attributes) (xs : List ℕ) (kind end : ℕ) → Accepted a xs kind → end ≡ length xs - room (trailer kind a) → (8 ≤ end) × (end ≤ length xs)
long a xs kind end g e =
    let h = trailer-there a xs kind g _ refl in
    (omega (arith, h, e), omega (arith, h, e))

pub slice_bounds-stale_from-end : goal.slice_bounds-stale_from-end
slice_bounds-stale_from-end c = let h = long c.args.a c.args.r.now c.args.kind c.args.end c.requires.0 c.requires.1 in sym (length-take-le _ _ h.1)

pub overflow_sub-end : goal.overflow_sub-end
overflow_sub-end c = let h = (long c.args.a c.args.r.now c.args.kind c.args.end c.requires.0 c.requires.1).0 in omega (arith, h)

pub stale_from-requires : goal.stale_from-requires
stale_from-requires c =
    let h = long c.args.a c.args.r.now c.args.kind c.args.end c.requires.0 c.requires.1 in
    let l = length-take-le c.args.end c.args.r.now h.1 in
    omega (arith, h.0, l)

pub bounds-out-at : goal.bounds-out-at
bounds-out-at c =
    let f = c.in-Some.ensures in
    let h = word-there c.args.a c.args.r.now c.args.kind c.requires.0 c.args.misc (λ z. omega (arith, f.value, f.some, z)) in
    let l = c.requires.2 in
    omega (arith, h, l, f.value)

pub returns-in-Some : goal.returns-in-Some
returns-in-Some c =
    let a = c.args in
    let xs = a.r.now in
    let f = c.in-Some.ensures in
    let n : flag_at a.kind ≡ 0 → ⊥ = λ z. omega (arith, f.value, f.some, z) in
    let d = c.stale_from.ensures ∙ ap (λ (k : ℕ). stale (drop (k - 8) (take k xs))) c.requires.1 in
    ap (λ (k : ℕ). set a.out.now k c.from.result) f.value
    ∙ word_some a.a xs a.kind c.requires.0 a.misc n a.out.now _ c.requires.2
    (c.from.ensures ∙ byte_is c.stale_from.result ∙ number_is a.a xs a.kind c.requires.0 _ (dirty-some a.a xs a.kind c.requires.0 n _ refl _ d))

pub returns-in_default : goal.returns-in_default
returns-in_default c = word_none c.args.a c.args.r.now c.args.kind c.requires.0 c.args.misc c.args.out.now c.requires.2 (sym c.in_default.ensures.value)
