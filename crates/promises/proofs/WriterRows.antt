-- What the last tests of the writer as C calls it, one in the other, give by its rows. That its answer is the number of the first row that holds is in
-- Written. Assumes nothing.
use Rattle.std.proofs.Math.Path.{◌≡◌, refl}
use Rattle.std.specs.Prelude.{List, Bool, not, take}
use Rattle.std.proofs.Math.Bool.{true, false, cond}
use Prim.Native.Nat.{ℕ}
use Rattle.std.proofs.Math.Dec.{leb}
use Rattle.std.proofs.Math.ListN.{length}
use Rattle.meaning.specs.declared.Attributes.{Attributes}
use Rattle.meaning.specs.Refusals.{first}
use Rattle.meaning.specs.Editions.{editions, known}
use Rattle.meaning.specs.Records.{Layout, layout}
use Rattle.meaning.specs.Values.{flagged, writable}
use Rattle.laws.specs.Answer42.{bytes_of, passes}
use Rattle.promises.specs.Written.{last_rows}

module _ (e : ℕ) (a : Attributes) (src ws : List ℕ) (space : ℕ) where
  abbrev lay : Layout
  lay = layout (known editions e) a

  abbrev vs : List ℕ
  vs = take 56 ws

  pub last-rows : cond (flagged lay vs) 43 (cond (passes editions e a src vs) 41 (cond (writable lay src vs) (cond (leb (length (bytes_of editions e a src vs)) space) 0 40) 42))
      ≡ first (last_rows e a src ws space) 0
  unfolding first
  last-rows = by (flagged lay vs) (passes editions e a src vs) (writable lay src vs) (leb (length (bytes_of editions e a src vs)) space)
    where
      by : (f p w l : Bool) → ◌≡◌ {A = ℕ} (cond f 43 (cond p 41 (cond w (cond l 0 40) 42))) (cond f 43 (cond p 41 (cond (not w) 42 (cond (not l) 40 0))))
      by true p w l = refl
      by false true w l = refl
      by false false true true = refl
      by false false true false = refl
      by false false false l = refl
