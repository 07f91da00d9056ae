-- `writer_items::fits` meets its contract: each arm tests the factors of `fits_form` that its content leaves open. Assumes nothing.
use Rattle.std.proofs.Common.{◌≡◌, ℕ, ◌+◌, ◌-◌, take, drop, ap, ◌∙◌, arith}
use Rattle.meaning.specs.Bytes.{nonzero}
use Rattle.writer_words.specs.Tellings.{slot_of}
use Rattle.writer_items.proofs.Tests.{fits_blank, fits_number, fits_list, fits_name}
use Rattle.writer_items.proofs.fits.Goals as goal

pub returns-in-Blank : goal.returns-in-Blank
returns-in-Blank c = let a = c.args in fits_blank a.f a.source.now (slot_of a.s) c.in-Blank.is

pub returns-in-Number : goal.returns-in-Number
returns-in-Number c = let a = c.args in fits_number a.f a.source.now (slot_of a.s) _ _ _ _ c.in-Number.is c.bytes.ensures.0

pub returns-in-List : goal.returns-in-List
returns-in-List c = let a = c.args in fits_list a.f a.source.now (slot_of a.s) _ _ c.in-List.is

pub returns-in-Name : goal.returns-in-Name
returns-in-Name c =
    let a = c.args in
    let n : a.s.place + a.s.count - a.s.place ≡ a.s.count = omega arith in
    fits_name a.f a.source.now (slot_of a.s) _ _ c.in-Name.is (c.no_zero.ensures ∙ ap (λ (k : ℕ). nonzero (take k (drop a.s.place a.source.now))) n)
