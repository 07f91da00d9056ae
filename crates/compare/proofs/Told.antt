-- Every count word of every record type is told with a list after it, under all attributes. Assumes nothing.
use Rattle.std.specs.Prelude.{◌≡◌, refl, ℕ, zero, suc, Bool, true, false, List, [], ◌∷◌, ◌++◌, get_or, take, drop}
use Rattle.meaning.specs.declared.Attributes.{Attributes}
use Rattle.meaning.specs.declared.Item.{Item}
use Rattle.meaning.specs.declared.Shape.TheVariants.{Number, Ignored, Count, Size, Times, Registers, Filled, Abi}
use Rattle.meaning.specs.declared.Width.{Width}
use Rattle.meaning.specs.Bytes.{bit}
use Rattle.meaning.specs.Schema.{item, sample, sample_lists, sample_last, read_values, mmap2, schema, schemas, trailer}
use Rattle.compare.proofs.Numbered.{owed, paid, may, owes, tells}

-- the items tell every count, the last one's being owed or not: shut, so that `_` is found
Tells : Bool → List Item → Type 0
Tells n is = tells (owed n false false) is ≡ true

none : Tells false []
unfolding Tells tells
none = refl

-- a number, and ignored bytes, say nothing of counts
number : (n b : Bool) (w : Width) (is : List Item) → Tells n is → Tells n (item b (Number w) ∷ is)
unfolding Tells tells may owes
number n true w is h = h
number n false w is h = h

ignored : (n b : Bool) (k : ℕ) (is : List Item) → Tells n is → Tells n (item b (Ignored k) ∷ is)
unfolding Tells tells may owes
ignored n true k is h = h
ignored n false k is h = h

-- a selected count, size or limit is owed
count : (b : Bool) (w : Width) (is : List Item) → Tells b is → Tells false (item b (Count w) ∷ is)
unfolding Tells tells may owes
count true w is h = h
count false w is h = h

size : (b : Bool) (w : Width) (is : List Item) → Tells b is → Tells false (item b (Size w) ∷ is)
unfolding Tells tells may owes
size true w is h = h
size false w is h = h

-- until its list comes
times : (b : Bool) (k : ℕ) (is : List Item) → Tells false is → Tells b (item b (Times k) ∷ is)
unfolding Tells tells may owes
times true k is h = h
times false k is h = h

filled : (b : Bool) (is : List Item) → Tells false is → Tells false (item b Filled ∷ is)
unfolding Tells tells may owes
filled true is h = h
filled false is h = h

registers : (b : Bool) (m : ℕ) (is : List Item) → Tells false is → Tells false (item b (Abi m) ∷ item b Registers ∷ is)
unfolding Tells tells may owes
registers true m is h = h
registers false m is h = h

read-tells : (a : Attributes) (on : Bool) (is : List Item) → Tells false is → Tells false (read_values a on ++ is)
read-tells a on is h =
    number _ _ _ _ (count _ _ _ (number _ _ _ _ (number _ _ _ _ (number _ _ _ _ (number _ _ _ _ (times _ _ _ h))))))

last-tells : (a : Attributes) → Tells false (sample_last a)
last-tells a =
    number _ _ _ _ (number _ _ _ _ (number _ _ _ _ (registers _ _ _
    (number _ _ _ _ (number _ _ _ _ (number _ _ _ _ (number _ _ _ _ (size _ _ _ (times _ _ _ none)))))))))

lists-tells : (a : Attributes) (is : List Item) → Tells false is → Tells false (sample_lists a ++ is)
lists-tells a is h =
    count _ _ _ (times _ _ _ (size _ _ _ (times _ _ _ (count _ _ _ (number _ _ _ _ (times _ _ _
    (registers _ _ _ (size _ _ _ (times _ _ _ (filled _ _ h))))))))))

-- a SAMPLE without its identifier
sample-others : (a : Attributes) → Tells false (drop 1 (sample a))
sample-others a =
    number _ _ _ _ (number _ _ _ _ (number _ _ _ _ (number _ _ _ _ (number _ _ _ _ (number _ _ _ _ (number _ _ _ _ (number _ _ _ _
    (ignored _ _ _ _ (number _ _ _ _ (read-tells a (bit a.sample 4) _ (lists-tells a _ (last-tells a))))))))))))

mmap2-tells : (b : Bool) → Tells false (mmap2 b)
unfolding Tells tells may owes
mmap2-tells true = refl
mmap2-tells false = refl

abbrev Each : List (List Item) → Type 0
Each [] = Unit {0}
Each (is ∷ ls) = Tells false is × Each ls

one_of : (ls : List (List Item)) (k : ℕ) → Each ls → Tells false (get_or ls k [])
one_of [] k h = none
one_of (is ∷ ls) zero h = h.0
one_of (is ∷ ls) (suc k) h = one_of ls k h.1

tell : (is : List Item) → tells paid is ≡ true → Tells false is
unfolding Tells
tell is h = h

untell : (is : List Item) → Tells false is → tells paid is ≡ true
unfolding Tells
untell is h = h

-- by type, from 0 on
each : (misc : ℕ) (a : Attributes) → Each (schemas misc a)
unfolding tells may owes
each misc a = (
  none,
  (
    tell _ refl,
    (
      tell _ refl,
      (
        tell _ refl,
        (
          tell _ refl,
          (
            tell _ refl,
            (
              tell _ refl,
              (
                tell _ refl,
                (
                  number _ _ _ _ (number _ _ _ _ (read-tells a true [] none)),
                  (
                    number _ _ _ _ (sample-others a),
                    (
                      mmap2-tells (bit misc 14),
                      (tell _ refl, (tell _ refl, (tell _ refl, (none, (tell _ refl, (tell _ refl, (tell _ refl, (tell _ refl, (tell _ refl, (tell _ refl, (tell _ refl, tt))))))))))),
                    ),
                  ),
                ),
              ),
            ),
          ),
        ),
      ),
    ),
  ),
)

pub schema-tells : (kind misc : ℕ) (a : Attributes) → tells paid (schema kind misc a) ≡ true
schema-tells kind misc a = untell _ (one_of (schemas misc a) kind (each misc a))

pub sample-tells : (a : Attributes) → tells paid (drop 1 (sample a)) ≡ true
sample-tells a = untell _ (sample-others a)

-- a trailer without its identifier
pub trailer-tells : (kind : ℕ) (a : Attributes) → tells paid (take 7 (trailer kind a)) ≡ true
trailer-tells kind a = untell _ (number _ _ _ _ (number _ _ _ _ (number _ _ _ _ (number _ _ _ _ (number _ _ _ _ (number _ _ _ _ (ignored _ _ _ _ none)))))))
