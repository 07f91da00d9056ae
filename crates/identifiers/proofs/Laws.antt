-- The identifiers of a table's elements, by what the code finds among the elements. Assumes nothing.
use Rattle.std.proofs.Common.{◌≡◌, sym, ap, ◌∙◌, arith, ℕ, ◌+◌, ◌-◌, ◌<◌, List, map, length, take, drop, Option, Some, None, IfSome, is_some, unwrap_or}
use Rattle.std.proofs.lemmas.List.{drop-map, length-map}
use Rattle.meaning.specs.Editions.{is_in}
use Rattle.meaning.specs.Events.{index_of}
use Rattle.laws.specs.Lookup.{in-there, in-none}
use Rattle.event_laws.specs.Marks.{part_end}

-- among them exactly where one is found
pub is_in-found : {A : Type 0} (key : A → ℕ) (l : List A) (x : ℕ) (r : Option ℕ) → unwrap_or r (length l) ≡ index_of x (map key l) → IfSome r (λ i. i < length l)
    → is_some r ≡ is_in x (map key l)
is_in-found key l x None e h = sym (in-none x (map key l) (omega (arith, length-map l key, e)))
is_in-found key l x (Some i) e h = sym (in-there x (map key l) (omega (arith, length-map l key, e, h)))

-- those behind the one before place i
pub behind_keys : {A : Type 0} (key : A → ℕ) (l : List A) (i : ℕ) → 0 < i → map key (take (length l - (i - 1 + 1)) (drop (i - 1 + 1) l)) ≡ drop i (map key l)
behind_keys key l i h =
    let z : i - 1 + 1 ≡ i = omega arith in
    ap (map key) (part_end l (i - 1 + 1)) ∙ sym (drop-map key (i - 1 + 1) l) ∙ ap (λ (k : ℕ). drop k (map key l)) z
