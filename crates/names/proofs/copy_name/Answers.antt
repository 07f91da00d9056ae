-- 41 and 12 are asked before anything is written; then each turn puts one byte more of the name, and the zero comes last.
use mathlib.Core.Path.{◌≡◌, ap, ◌∙◌}
use mathlib.Core.List.{List}
use Prim.Native.Nat.{ℕ, ◌+◌, ◌-◌, ◌<◌, ◌≤◌}
use native.Mathlib.Omega.{arith}
use lib.ListN.{length, take, drop, set}
use borrow.Author.Tests.{lt-ltb, le-ltb}
use lib.ListN.{length-drop}
use lib.Seq.{length-take-le}
use Rattle.meaning.specs.Bytes.{put}
use Rattle.laws.specs.Put.{put-snoc}
use Rattle.meaning.specs.Refusals.{first}
use Rattle.meaning.specs.Names.{name_answer, name_buffer}
use Rattle.names.proofs.copy_name.Goals as goal

pub returns-then-bytes-p : goal.returns-then-bytes-p
unfolding name_buffer name_answer first
returns-then-bytes-p c =
    let a = c.args in
    let h : length a.bytes.now < a.place + a.count = omega arith in record { value = simp (lt-ltb _ _ h); buffer_after = simp (lt-ltb _ _ h) }

pub returns-then-bytes-p-2 : goal.returns-then-bytes-p-2
unfolding name_buffer name_answer first
returns-then-bytes-p-2 c =
    let a = c.args in
    let h : length a.bytes.now < a.place + a.count = omega arith in record { value = simp (lt-ltb _ _ h); buffer_after = simp (lt-ltb _ _ h) }

pub returns-then-buffer-n : goal.returns-then-buffer-n
unfolding name_buffer name_answer first
returns-then-buffer-n c =
    let a = c.args in
    let h : a.place + a.count ≤ length a.bytes.now = omega arith in
    let k : length a.buffer.now < a.count + 1 = omega arith in record { value = simp (le-ltb _ _ h, lt-ltb _ _ k); buffer_after = simp (le-ltb _ _ h, lt-ltb _ _ k) }

pub returns : goal.returns
unfolding name_buffer name_answer first
returns c =
    let a = c.args in
    let h : a.place + a.count ≤ length a.bytes.now = omega arith in
    let k : a.count + 1 ≤ length a.buffer.now = omega arith in
    let name : List ℕ = take a.count (drop a.place a.bytes.now) in
    let z : a.place + a.count - a.place ≡ a.count = omega arith in
    let n : length name ≡ a.count = length-take-le a.count (drop a.place a.bytes.now) (omega (arith, length-drop a.place a.bytes.now)) in
    let e : a.count ≡ 0 + length name = omega arith in record {
      value = simp (le-ltb _ _ h, le-ltb _ _ k);
      buffer_after = simp (le-ltb _ _ h, le-ltb _ _ k)
          (ap (λ (l : List ℕ). set l a.count 0)
          (c.copy_at.ensures ∙ ap (λ (m : ℕ). put a.buffer.now 0 (take m (drop a.place a.bytes.now))) z)
          ∙ ap (λ (m : ℕ). set (put a.buffer.now 0 name) m 0) e
          ∙ put-snoc a.buffer.now 0 name 0 (omega arith));
    }
