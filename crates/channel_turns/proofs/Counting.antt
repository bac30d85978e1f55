-- Counts of looks, turns and word steps add up.
use Rattle.std.proofs.Common.{◌≡◌, ℕ, ◌+◌, ◌≤◌, Bool, true, false, cond, refl, sym, ap, ◌∙◌, subst, arith, length}
use Rattle.std.specs.Prelude.{nat_lt, ◌==◌}
use Rattle.pcc_steps.specs.declared.wiring.Wiring.{Wiring}
use Rattle.pcc_steps.specs.Wires.{block_of}
use Rattle.channel_core.specs.declared.answers.Look.{Look}
use Rattle.channel_core.specs.declared.answers.Look.TheVariants as look
use Rattle.channel_core.specs.declared.answers.Turn.{Turn}
use Rattle.channel_turns.specs.ChannelRuns.{journal_limit}
use Rattle.pcc_steps.specs.Agree.{flying}
use Rattle.channel_turns.specs.EndsStates.{EndsState, Turned, rings, turned}
use Rattle.channel_turns.specs.Counts.{Counts, Rises, Spent, SpentByPoll}
use Rattle.channel_turns.specs.Seeing.{SpentByLook}
use Rattle.channel_turns.proofs.Polls.{place_of}

rises_again : (m n a b c : ℕ) → Rises m a b → Rises n b c → Rises (m + n) a c
rises_again m n a b c h k = λ lt. let e : b ≡ a + m = h (omega (arith, lt)) in let f : c ≡ b + n = k (omega (arith, lt, e)) in omega (arith, e, f)

rises_none : (a : ℕ) → Rises 0 a a
rises_none a = λ lt. omega arith

rises_same : (m n a b : ℕ) → m ≡ n → Rises m a b → Rises n a b
rises_same m n a b e h = subst (λ (k : ℕ). Rises k a b) e h

pub spent_none : (a : Counts) → Spent 0 0 0 a a
spent_none a = record { clears = rises_none a.clears; turns = rises_none a.turns; steps = omega arith }

pub spent_again : (l t n l' t' n' : ℕ) (a b c : Counts) → Spent l t n a b → Spent l' t' n' b c → Spent (l + l') (t + t') (n + n') a c
spent_again l t n l' t' n' a b c h k = let x = h.steps in let y = k.steps in
    record { clears = rises_again l l' a.clears b.clears c.clears h.clears k.clears; turns = rises_again t t' a.turns b.turns c.turns h.turns k.turns; steps = omega (arith, x, y) }

pub spent_as : (l t n l' t' n' : ℕ) (a b : Counts) → l ≡ l' → t ≡ t' → n ≤ n' → Spent l t n a b → Spent l' t' n' a b
spent_as l t n l' t' n' a b e f le h = let x = h.steps in record { clears = rises_same l l' a.clears b.clears e h.clears; turns = rises_same t t' a.turns b.turns f h.turns; steps = omega (arith, x, le) }

-- ---- a turn keeps the wiring

turned_wiring : (s : EndsState) → (turned s).now.wiring ≡ s.wiring
turned_wiring s = by (nat_lt 0 s.hold) (length s.history.records + flying s.executed == journal_limit) (rings s) _ _ _ _ refl refl refl refl
  where
    by : (a b c : Bool) (p q r u : Turned) → p.now.wiring ≡ s.wiring → q.now.wiring ≡ s.wiring → r.now.wiring ≡ s.wiring → u.now.wiring ≡ s.wiring
        → (cond a p (cond b q (cond c r u))).now.wiring ≡ s.wiring
    by true b c p q r u h k m n = h
    by false true c p q r u h k m n = k
    by false false true p q r u h k m n = m
    by false false false p q r u h k m n = n

-- a turn and a look
pub poll_spends : (s t : EndsState) (said : Turn) (told : Look) (a b c : Counts) → record { now = t; told = said } ≡ turned s → Spent 0 1 0 a b
    → SpentByLook (block_of t.wiring) told b c → SpentByPoll (block_of s.wiring) (place_of told) a c
poll_spends s t said told a b c e h k = by told (subst (λ (w : Wiring). SpentByLook (block_of w) told b c) (ap (λ (z : Turned). z.now.wiring) e ∙ turned_wiring s) k)
  where
    drains : (m : ℕ) → Spent 0 0 (m + 6) b c → Spent 0 1 (m + 6) a c
    drains m k = spent_as (0 + 0) (1 + 0) (0 + (m + 6)) 0 1 (m + 6) a c refl refl (omega arith) (spent_again 0 1 0 0 0 (m + 6) a b c h k)

    by : (told : Look) → SpentByLook (block_of s.wiring) told b c → SpentByPoll (block_of s.wiring) (place_of told) a c
    by (look.Clear looks) k = spent_again 0 1 0 1 0 1 a b c h k
    by (look.Drained place late) k = let m : ℕ = block_of s.wiring in drains m k

-- ---- some polls

pub polls_more : (i : ℕ) (a b c : Counts) → Spent i i i a b → Spent 1 1 1 b c → Spent (i + 1) (i + 1) (i + 1) a c
polls_more i a b c h k = spent_again i i i 1 1 1 a b c h k

pub polls_end : (block i hold : ℕ) (a b c : Counts) → hold ≡ i → Spent i i i a b → Spent 0 1 (block + 6) b c
    → Spent hold (hold + 1) (hold + (block + 6)) a c
polls_end block i hold a b c e h k = subst (λ (n : ℕ). Spent n (n + 1) (n + (block + 6)) a c) (sym e) (let z : i + 0 ≡ i = omega arith in spent_as (i + 0) (i + 1) (i + (block + 6)) i (i + 1) (i + (block + 6)) a c z refl (omega arith) (spent_again i i i 0 1 (block + 6) a b c h k))

pub polls_stop : (i polls : ℕ) (a b : Counts) → i ≤ polls → polls ≤ i → Spent i i i a b → Spent polls polls polls a b
polls_stop i polls a b le ge h = let e : i ≡ polls = omega (arith, le, ge) in subst (λ (n : ℕ). Spent n n n a b) e h
