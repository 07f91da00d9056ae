-- A drain of a replay stops with 0, 8 or 9, and with 0 only where nothing waits: the records that wait are whole. Assumes nothing.
use Rattle.std.specs.Prelude.{◌≡◌, refl, List, [], ◌++◌, Bool, cond, not, ◌&&◌, ℕ, ◌+◌, ◌%◌, ◌^◌, ◌<◌, ◌≤◌, ltb}
use Rattle.std.proofs.Math.Path.{sym, ap}
use Rattle.std.proofs.Common.{◌∙◌, arith, length-append}
use Rattle.std.proofs.Math.Bool.{true, false}
use Rattle.std.proofs.Math.Nat.{mod-lt}
use borrow.Author.Tests.{le-ltb, eq-eqb, ne_eqb}
use Rattle.std.proofs.Math.Dec.{eqb}
use Rattle.std.proofs.Math.ListN.{length}
use Rattle.meaning.specs.Bytes.{number_at}
use Rattle.meaning.specs.Records.{size_of}
use Rattle.meaning.specs.Ring.{asking, length_allowed, distance, record_at, whole, stop_at, go_at, stopped, size_rows, sized, frame}
use Rattle.laws.specs.Rows.{stopped-passed}
use Rattle.laws.specs.Numbers.{size_is}
use Rattle.laws.specs.Rings.{length-bounds, record-number, record-length, distance_self, distance_none}
use Rattle.laws.proofs.Framing.{header-whole}
use Rattle.runs.specs.Cutting.{framed}
use Rattle.runs.proofs.Streams.{framed-says, framed-size}

and_no : (a b : Bool) → b ≡ false → (a && b) ≡ false
and_no true b e = e
and_no false b e = refl

-- a size that the rows 6, 7 and 3 let pass
sized-passes : (ring : List ℕ) (place far scratch size : ℕ) → number_at 2 ring (place + 6) ≡ size → 8 ≤ size → size % 8 ≡ 0 → size ≤ far → size ≤ scratch
    → sized ring place far scratch ≡ go_at place size
unfolding sized
sized-passes ring place far scratch size z low eight near long =
    ap (λ (k : ℕ). stopped (size_rows ring place k far scratch) (go_at place k)) z
    ∙ stopped-passed (size_rows ring place size far scratch) (go_at place size)
    ((le-ltb size 8 low, (ap not (eq-eqb (size % 8) 0 eight), (le-ltb far size near, (and_no (not (whole ring place size)) (ltb scratch size) (le-ltb scratch size long), tt)))))

-- what is asked of the bench before a drain
pub record Ready (ring : List ℕ) (head tail scratch : ℕ) : Type 0 where
  pub allowed : length_allowed (length ring) ≡ true
  pub head-fits : head < 2 ^ 64
  pub tail-fits : tail < 2 ^ 64
  pub near : distance head tail ≤ length ring
  pub head-eight : head % 8 ≡ 0
  pub tail-eight : tail % 8 ≡ 0
  pub scratch-long : length ring ≤ scratch

module _ (ring : List ℕ) (head tail left room scratch : ℕ) (p : Ready ring head tail scratch) where
  -- nothing waits: 0
  pub nothing-waits : record_at ring (tail % length ring) (distance head tail) ≡ [] → frame (asking true) ring head tail left room scratch ≡ stop_at 0
  unfolding frame stopped
  nothing-waits e =
      let pos = (length-bounds (length ring) p.allowed).0 in
      let l : length (record_at ring (tail % length ring) (distance head tail)) ≡ distance head tail =
      record-length ring (tail % length ring) (distance head tail) (omega (arith, mod-lt tail {m = length ring} (omega arith))) p.near in
      let z : distance head tail ≡ 0 = sym l ∙ ap length e in
      let q : eqb head tail ≡ true = eq-eqb head tail (distance_none head tail p.head-fits p.tail-fits z) in
      simp (p.allowed, le-ltb (length ring) (distance head tail) p.near, eq-eqb (head % 8) 0 p.head-eight, eq-eqb (tail % 8) 0 p.tail-eight, q)

  -- a record waits: 8, 9, or it is taken
  pub record-waits : (r rest : List ℕ) → framed r ≡ true → record_at ring (tail % length ring) (distance head tail) ≡ r ++ rest
      → frame (asking true) ring head tail left room scratch ≡ cond (eqb left 0) (stop_at 8) (cond (ltb room 16) (stop_at 9) (go_at (tail % length ring) (length r)))
  unfolding frame stopped
  record-waits r rest f e =
      let pos = (length-bounds (length ring) p.allowed).0 in
      let m : tail % length ring < length ring = mod-lt tail {m = length ring} (omega arith) in
      let l : length (record_at ring (tail % length ring) (distance head tail)) ≡ distance head tail =
      record-length ring (tail % length ring) (distance head tail) (omega arith) p.near in
      let g = framed-says r f in
      let low : 8 ≤ length r = g.low in
      let n : length r + length rest ≡ distance head tail = sym (length-append r rest) ∙ sym (ap length e) ∙ l in
      let q : eqb head tail ≡ false = ne_eqb head tail (λ (z : head ≡ tail).
      let y : distance head tail ≡ 0 = ap (λ (h : ℕ). distance h tail) z ∙ distance_self tail p.tail-fits in omega arith) in
      let h : tail % length ring + 8 ≤ length ring = header-whole tail (length ring) p.allowed p.tail-eight in
      let z : number_at 2 ring (tail % length ring + 6) ≡ length r =
      sym (record-number ring (tail % length ring) (distance head tail) 2 6 (omega arith) (omega arith)) ∙ size_is _ ∙ ap size_of e ∙ framed-size r rest f in
      let k : sized ring (tail % length ring) (distance head tail) scratch ≡ go_at (tail % length ring) (length r) =
      sized-passes ring (tail % length ring) (distance head tail) scratch (length r) z low (ap (λ (x : ℕ). x % 8) (sym g.size) ∙ g.eight) (omega arith)
      (omega (arith, p.near, p.scratch-long)) in
      simp (
        p.allowed,
        le-ltb (length ring) (distance head tail) p.near,
        eq-eqb (head % 8) 0 p.head-eight,
        eq-eqb (tail % 8) 0 p.tail-eight,
        q,
        k,
      )
