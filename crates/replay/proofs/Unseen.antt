-- What ring and scratch held before a replay does not show in any result. Assumes nothing.
use Rattle.std.specs.Prelude.{◌≡◌, List, [], ◌∷◌, ◌++◌, Bool, cond, leb, eqb, drop}
use Rattle.std.proofs.Math.Path.{refl, sym, ap, subst}
use Rattle.std.proofs.Common.{◌∙◌, eqb-true}
use Rattle.std.proofs.Math.Bool.{true, false}
use Prim.Native.Nat.{ℕ, zero, suc, ◌+◌, ◌-◌, ◌*◌, ◌%◌, ◌^◌, ◌<◌, ◌≤◌}
use Rattle.std.proofs.Math.ListN.{length}
use Rattle.meaning.specs.Bytes.{number_at, put}
use Rattle.meaning.specs.Ring.{asking, length_allowed, distance, frame}
use Rattle.meaning.specs.Drain.{End}
use Rattle.runs.specs.Cutting.{entries, total}
use Rattle.runs.proofs.Runs.{run-cut}
use Rattle.runs.proofs.Forward.{run-counted, frame-roomy}
use Rattle.entries.specs.Entries.{Entry}
use Rattle.entries.specs.Entries.{entry_at}
use Rattle.replay.specs.Replay.{Happened, went_in, was_dropped, drained, Bench, bench, records_in, records_out, free, goes_in, goes_by, offer, journal_left, drain_of, bench_cuts, drains_off, body_of, is_offer, fault_at, effect, Played, played, play}
use Rattle.replay.proofs.Round.{round-length}
use Rattle.replay.specs.Queue.{took}
use Rattle.replay.proofs.Along.{BenchHolds, holds-start, holds-effect}
use Rattle.replay.proofs.Promises.{drain-why, drain-takes, why}

-- two benches that differ in the bytes of ring and scratch alone
pub record Alike (b c : Bench) : Type 0 where
  pub head : b.head ≡ c.head
  pub tail : b.tail ≡ c.tail
  pub journal : b.journal ≡ c.journal
  pub used : b.used ≡ c.used
  pub history : b.history ≡ c.history
  pub ring-length : length b.ring ≡ length c.ring

module _ (b c : Bench) (a : Alike b c) where
  alike-in : (r : List ℕ) → Alike (goes_in b r) (goes_in c r)
  alike-in r =
      record {
        head = ap (λ (h : ℕ). (h + length r) % 2 ^ 64) a.head;
        tail = a.tail;
        journal = a.journal;
        used = a.used;
        history = ap (λ (h : List Happened). h ++ (went_in r ∷ [])) a.history;
        ring-length = round-length b.ring (b.head % length b.ring) r ∙ a.ring-length ∙ sym (round-length c.ring (c.head % length c.ring) r);
      }

  alike-by : (r : List ℕ) → Alike (goes_by b r) (goes_by c r)
  alike-by r =
      record {
        head = a.head;
        tail = a.tail;
        journal = a.journal;
        used = a.used;
        history = ap (λ (h : List Happened). h ++ (was_dropped r ∷ [])) a.history;
        ring-length = a.ring-length;
      }

  alike-offer : (r : List ℕ) → Alike (offer b r) (offer c r)
  unfolding offer
  alike-offer r = subst (λ (n : ℕ). Alike (cond (leb (length r) (free b)) (goes_in b r) (goes_by b r)) (cond (leb (length r) n) (goes_in c r) (goes_by c r))) same (by (leb (length r) (free b)))
    where
      same : free b ≡ free c
      same = λ i. a.ring-length i - distance (a.head i) (a.tail i)

      by : (t : Bool) → Alike (cond t (goes_in b r) (goes_by b r)) (cond t (goes_in c r) (goes_by c r))
      by true = alike-in r
      by false = alike-by r

  module _ (judge : List ℕ → ℕ) (lent : List ℕ) (hb : BenchHolds judge lent b) (hc : BenchHolds judge lent c) (budget : ℕ) where
    records-same : (bench_cuts (asking true) b budget).records ≡ (bench_cuts (asking true) c budget).records
    records-same =
        drain-takes judge lent b hb budget
        ∙ (λ i. took budget (a.tail i) (length (drop (16 * a.used i) (a.journal i))) (drop (length (records_out (a.history i))) (records_in (a.history i))))
        ∙ sym (drain-takes judge lent c hc budget)

    stop-same : (drain_of (asking true) judge b budget).stop ≡ (drain_of (asking true) judge c budget).stop
    stop-same =
        drain-why judge lent b hb budget
        ∙ (λ i. why (budget - length (records-same i)) (drop (length (records_out (a.history i) ++ records-same i)) (records_in (a.history i))))
        ∙ sym (drain-why judge lent c hc budget)

    alike-drain : Alike (drains_off (asking true) judge b budget) (drains_off (asking true) judge c budget)
    unfolding drains_off
    alike-drain =
        let nb = run-counted (asking true) judge b.ring b.head b.tail budget (journal_left b) b.scratch hb.head-fits hb.tail-fits in
        let nc = run-counted (asking true) judge c.ring c.head c.tail budget (journal_left c) c.scratch hc.head-fits hc.tail-fits in
        let jb : (drain_of (asking true) judge b budget).state.journal ≡ put (journal_left b) 0 (entries judge (bench_cuts (asking true) b budget).records) =
        ap (λ (x : End). x.state.journal) (run-cut (frame (asking true) b.ring b.head) (frame-roomy (asking true) b.ring b.head) b.ring b.tail budget (journal_left b) b.scratch judge) in
        let jc : (drain_of (asking true) judge c budget).state.journal ≡ put (journal_left c) 0 (entries judge (bench_cuts (asking true) c budget).records) =
        ap (λ (x : End). x.state.journal) (run-cut (frame (asking true) c.ring c.head) (frame-roomy (asking true) c.ring c.head) c.ring c.tail budget (journal_left c) c.scratch judge) in
        let bytes : (drain_of (asking true) judge b budget).state.bytes ≡ (drain_of (asking true) judge c budget).state.bytes = nb.sum ∙ ap total records-same ∙ sym nc.sum in
        let count : (drain_of (asking true) judge b budget).state.taken ≡ (drain_of (asking true) judge c budget).state.taken = nb.count ∙ ap length records-same ∙ sym nc.count in
        let whole : (drain_of (asking true) judge b budget).state.journal ≡ (drain_of (asking true) judge c budget).state.journal =
        jb ∙ (λ i. put (drop (16 * a.used i) (a.journal i)) 0 (entries judge (records-same i))) ∙ sym jc in
        record {
          head = a.head;
          tail = nb.new-tail ∙ (λ i. (a.tail i + bytes i) % 2 ^ 64) ∙ sym nc.new-tail;
          journal = λ i. put (a.journal i) (16 * a.used i) (whole i);
          used = λ i. a.used i + count i;
          history = λ i. a.history i ++ (drained (records-same i) (stop-same i) ∷ []);
          ring-length = a.ring-length;
        }

-- the same replay over two rings
pub record Same (p q : Played) : Type 0 where
  pub now : Alike p.now q.now
  pub at : p.at ≡ q.at
  pub answer : p.answer ≡ q.answer

module _ (of_store : Entry → Bool) (judge : List ℕ → ℕ) (xs lent : List ℕ) where
  alike-effect : (e : Entry) (b c : Bench) → Alike b c → BenchHolds judge lent b → BenchHolds judge lent c → Alike (effect (asking true) judge xs e b) (effect (asking true) judge xs e c)
  unfolding effect
  alike-effect e b c a hb hc = by (is_offer e)
    where
      by : (t : Bool) → Alike (cond t (offer b (body_of xs e)) (drains_off (asking true) judge b (number_at 4 xs e.body))) (cond t (offer c (body_of xs e)) (drains_off (asking true) judge c (number_at 4 xs e.body)))
      by true = alike-offer b c a (body_of xs e)
      by false = alike-drain b c a judge lent hb hc (number_at 4 xs e.body)

  same-play : (n at : ℕ) (b c : Bench) → Alike b c → BenchHolds judge lent b → BenchHolds judge lent c → Same (play of_store (asking true) judge xs n at b) (play of_store (asking true) judge xs n at c)
  unfolding play
  same-play zero at b c a hb hc = record { now = a; at = refl; answer = refl }
  same-play (suc n) at b c a hb hc =
      by (leb (length xs) at) (eqb (fault_at of_store xs at) 0) refl
      (λ p q r. same-play n (at + (6 + (entry_at xs at).length)) (effect (asking true) judge xs (entry_at xs at) b) (effect (asking true) judge xs (entry_at xs at) c) p q r)
    where
      there : ℕ
      there = at + (6 + (entry_at xs at).length)

      bn : Bench
      bn = effect (asking true) judge xs (entry_at xs at) b

      cn : Bench
      cn = effect (asking true) judge xs (entry_at xs at) c

      by : (t u : Bool) → eqb (fault_at of_store xs at) 0 ≡ u
          → (Alike bn cn → BenchHolds judge lent bn → BenchHolds judge lent cn → Same (play of_store (asking true) judge xs n there bn) (play of_store (asking true) judge xs n there cn))
          → Same (cond t (played b at 0) (cond u (play of_store (asking true) judge xs n there bn) (played b at (fault_at of_store xs at))))
          (cond t (played c at 0) (cond u (play of_store (asking true) judge xs n there cn) (played c at (fault_at of_store xs at))))
      by true u e next = record { now = a; at = refl; answer = refl }
      by false false e next = record { now = a; at = refl; answer = refl }
      by false true e next =
          let f = eqb-true (fault_at of_store xs at) 0 e in
          next (alike-effect (entry_at xs at) b c a hb hc) (holds-effect of_store (asking true) judge xs lent at b f hb) (holds-effect of_store (asking true) judge xs lent at c f hc)

-- What the ring held before does not show: after n entries head, tail, journal, history, place and answer are the same over any two rings of one length
pub ring-unseen : (of_store : Entry → Bool) (judge : List ℕ → ℕ) (xs ring other : List ℕ) (count : ℕ) (scratch beside lent : List ℕ)
    → length ring ≡ length other → length_allowed (length ring) ≡ true → count < 2 ^ 64 → count % 8 ≡ 0
    → length ring ≤ length scratch → length other ≤ length beside → (n : ℕ)
    → Same (play of_store (asking true) judge xs n 0 (bench ring count scratch lent)) (play of_store (asking true) judge xs n 0 (bench other count beside lent))
ring-unseen of_store judge xs ring other count scratch beside lent l ok c e s t n =
    same-play of_store judge xs lent n 0 (bench ring count scratch lent) (bench other count beside lent)
    (record { head = refl; tail = refl; journal = refl; used = refl; history = refl; ring-length = l })
    (holds-start judge lent ring count scratch ok c e s)
    (holds-start judge lent other count beside (subst (λ (k : ℕ). length_allowed k ≡ true) l ok) c e t)
