-- Polls, one after the other.
use Rattle.std.proofs.Common.{◌≡◌, ℕ, ◌+◌, ◌-◌, ◌<◌, ◌≤◌, Bool, true, false, cond, length, refl, sym, ap, ◌∙◌, subst, arith}
use Rattle.std.specs.Prelude.{Option, Some, None, nat_lt, not, ◌==◌}
use Rattle.std.proofs.lemmas.Bool.Decides.{nat_tests}
use Rattle.pcc_history.specs.Devices.{Device}
use Rattle.pcc_steps.specs.Agree.{flying}
use Rattle.channel_core.specs.Sendings.{command_of, is_flying}
use Rattle.channel_core.specs.declared.sent.Sent.{Sent}
use Rattle.channel_turns.specs.ChannelRuns.{journal_limit}
use Rattle.channel_turns.specs.EndsStates.{Awaited, EndsState, Looked, Turned, awaited, awaited_for, drained, looked, rings, rings_for, turned}
use Rattle.channel_core.specs.declared.answers.Look.{Look}
use Rattle.channel_core.specs.declared.answers.Look.TheVariants as look
use Rattle.channel_core.specs.declared.answers.Turn.{Turn}
use Rattle.channel_turns.proofs.Tellings.{looked_at}

unexecuted : (b : Bool) → not b ≡ true → b ≡ false
unexecuted true e = absurd (cc e)
unexecuted false e = refl

-- where the look reported a place
abbrev pub place_of : Look → Option ℕ
place_of (look.Drained place late) = Some place
place_of (look.Clear looks) = None

pub flies : (sent : Option Sent) (executed : Bool) → rings_for (command_of sent) executed ≡ true → is_flying sent ≡ true
flies None executed e = absurd (cc e)
flies (Some c) executed e = refl

module _ (exec : Device) where
  -- a turn of a held command
  turned_held : (s : EndsState) → 0 < s.hold → (turned s).now ≡ record s { hold = s.hold - 1 }
  turned_held s h = let held : nat_lt 0 s.hold ≡ true = grind (arith, nat_tests) in rw held refl

  -- a turn of a command that isn't held
  turned_free : (s : EndsState) → rings s ≡ true → s.executed ≡ false → s.hold ≡ 0 → length s.history.records < 4096
      → (turned s).now ≡ record s { executed = true }
  turned_free s ring x h few =
      let free : nat_lt 0 s.hold ≡ false = grind (arith, nat_tests) in
      let none : flying s.executed ≡ 0 = ap flying x in
      let room : (length s.history.records + flying s.executed == journal_limit) ≡ false = grind (arith, nat_tests) in
      rw (free, room, ring) refl

  abbrev polled : EndsState → Looked
  polled s = looked exec (turned s).now

  -- ---- what polls make of the ends, by whether the hold is below them

  abbrev pub completes : Sent → EndsState → Awaited exec
  completes c s = record { now = record (drained exec c.command s) { hold = 0; looks = s.looks + s.hold }; place = Some (length s.history.records) }

  abbrev pub stays : ℕ → EndsState → Awaited exec
  stays polls s = record { now = record s { hold = s.hold - polls; looks = s.looks + polls }; place = None }

  awaited_at : (s : EndsState) (c : Sent) (polls : ℕ) (b : Bool) → s.history.sent ≡ Some c → nat_lt s.hold polls ≡ b
      → awaited exec polls s ≡ cond b (completes c s) (stays polls s)
  awaited_at s c polls b e q = ap (λ (o : Option Sent). awaited_for exec o polls s) e ∙ ap (λ (b : Bool). cond b (completes c s) (stays polls s)) q

  pub at_once : (s : EndsState) (c : Sent) (polls : ℕ) → s.history.sent ≡ Some c → s.hold < polls → awaited exec polls s ≡ completes c s
  at_once s c polls e lt = let b : nat_lt s.hold polls ≡ true = grind (arith, nat_tests) in awaited_at s c polls true e b

  pub held_on : (s : EndsState) (c : Sent) (polls : ℕ) → s.history.sent ≡ Some c → polls ≤ s.hold → awaited exec polls s ≡ stays polls s
  held_on s c polls e le = let b : nat_lt s.hold polls ≡ false = grind (arith, nat_tests) in awaited_at s c polls false e b

  -- a command is drained only when its hold is below the polls, and stays in flight only when it isn't
  pub below_polls : (s : EndsState) (c : Sent) (polls place : ℕ) → s.history.sent ≡ Some c → (awaited exec polls s).place ≡ Some place → s.hold < polls
  below_polls s c polls place e n = by (nat_lt s.hold polls) refl
    where
      by : (b : Bool) → nat_lt s.hold polls ≡ b → s.hold < polls
      by true q = grind (arith, nat_tests)
      by false q = let p : None ≡ Some place = ap (λ (a : Awaited exec). a.place) (sym (awaited_at s c polls false e q)) ∙ n in absurd (cc p)

  pub above_polls : (s : EndsState) (c : Sent) (polls : ℕ) → s.history.sent ≡ Some c → (awaited exec polls s).place ≡ None → polls ≤ s.hold
  above_polls s c polls e n = by (nat_lt s.hold polls) refl
    where
      by : (b : Bool) → nat_lt s.hold polls ≡ b → polls ≤ s.hold
      by false q = grind (arith, nat_tests)
      by true q = let p : Some (length s.history.records) ≡ None = ap (λ (a : Awaited exec). a.place) (sym (awaited_at s c polls true e q)) ∙ n in absurd (cc p)

  poll_by : (b : Bool) (s : EndsState) (c : Sent) → s.history.sent ≡ Some c → rings s ≡ true → s.executed ≡ false → nat_lt s.hold 1 ≡ b
      → length s.history.records < 4096 → record { now = (polled s).now; place = place_of (polled s).told } ≡ awaited exec 1 s
  poll_by true s c e ring x h few = let free : s.hold ≡ 0 = grind (arith, nat_tests) in let t : EndsState = record s { executed = true } in
      let sum : s.looks ≡ s.looks + s.hold = omega (arith, free) in
      ap (λ (z : EndsState). record { now = (looked exec z).now; place = place_of (looked exec z).told }) (turned_free s ring x free few)
      ∙ (ap (λ (l : Looked). record { now = l.now; place = place_of l.told }) (looked_at exec t c true e refl)
      ∙ ((λ i. record { now = record (drained exec c.command s) { hold = free i; looks = sum i }; place = Some (length s.history.records) })
      ∙ sym (at_once s c 1 e (omega (arith, free)))))
  poll_by false s c e ring x h few = let held : 0 < s.hold = grind (arith, nat_tests) in let t : EndsState = record s { hold = s.hold - 1 } in
      ap (λ (z : EndsState). record { now = (looked exec z).now; place = place_of (looked exec z).told }) (turned_held s held)
      ∙ (ap (λ (l : Looked). record { now = l.now; place = place_of l.told }) (looked_at exec t c false e x) ∙ sym (held_on s c 1 e (omega (arith, held))))

  -- a command in flight that isn't executed
  pub record Rung (s : EndsState) : Type 0 where
    pub sent : Sent
    pub is : s.history.sent ≡ Some sent
    pub unexecuted : s.executed ≡ false

  pub rung : (s : EndsState) → rings s ≡ true → Rung s
  rung s ring = by s.history.sent refl ring
    where
      by : (sent : Option Sent) → s.history.sent ≡ sent → rings_for (command_of sent) s.executed ≡ true → Rung s
      by None e r = absurd (cc r)
      by (Some c) e r = record { sent = c; is = e; unexecuted = unexecuted s.executed r }

  -- a turn and a look
  pub poll_is : (s t u : EndsState) (told : Look) (said : Turn) → rings s ≡ true → length s.history.records < 4096
      → record { now = t; told = said } ≡ turned s → record { now = u; told = told } ≡ looked exec t
      → record { now = u; place = place_of told } ≡ awaited exec 1 s
  poll_is s t u told said ring few turn seen = let r = rung s ring in
      ap (λ (l : Looked). record { now = l.now; place = place_of l.told }) (seen ∙ ap (λ (z : Turned). looked exec z.now) turn)
      ∙ poll_by (nat_lt s.hold 1) s r.sent r.is ring r.unexecuted refl few

  -- ---- some polls

  pub record Going (old : EndsState) (i : ℕ) (s : EndsState) : Type 0 where
    pub is : s ≡ record old { hold = old.hold - i; looks = old.looks + i }
    pub held : i ≤ old.hold

  pub going_start : (old : EndsState) → Going old 0 old
  going_start old = let a : old.hold ≡ old.hold - 0 = omega arith in let b : old.looks ≡ old.looks + 0 = omega arith in
      record { is = λ i. record old { hold = a i; looks = b i }; held = omega arith }

  pub going_more : (old s t : EndsState) (i : ℕ) → rings old ≡ true → Going old i s → record { now = t; place = None } ≡ awaited exec 1 s
      → Going old (i + 1) t
  going_more old s t i ring h e = let p = rung old ring in let same : s.history.sent ≡ Some p.sent = ap (λ (z : EndsState). z.history.sent) h.is ∙ p.is in
      let held : 1 ≤ s.hold = above_polls s p.sent 1 same (ap (λ (a : Awaited exec). a.place) (sym e)) in
      let left : s.hold ≡ old.hold - i = ap (λ (z : EndsState). z.hold) h.is in
      let next : t ≡ record s { hold = s.hold - 1; looks = s.looks + 1 } = ap (λ (a : Awaited exec). a.now) (e ∙ held_on s p.sent 1 same held) in
      let a : old.hold - i - 1 ≡ old.hold - (i + 1) = omega arith in let b : old.looks + i + 1 ≡ old.looks + (i + 1) = omega arith in
      record {
        is = next ∙ (ap (λ (z : EndsState). record z { hold = z.hold - 1; looks = z.looks + 1 }) h.is ∙ (λ j. record old { hold = a j; looks = b j }));
        held = omega (arith, held, left);
      }

  pub going_ends : (old s t : EndsState) (i polls place : ℕ) → rings old ≡ true → i < polls → Going old i s
      → record { now = t; place = Some place } ≡ awaited exec 1 s → record { now = t; place = Some place } ≡ awaited exec polls old
  going_ends old s t i polls place ring lt h e = let p = rung old ring in
      let same : s.history.sent ≡ Some p.sent = ap (λ (z : EndsState). z.history.sent) h.is ∙ p.is in
      let free : s.hold < 1 = below_polls s p.sent 1 place same (ap (λ (a : Awaited exec). a.place) (sym e)) in
      let left : s.hold ≡ old.hold - i = ap (λ (z : EndsState). z.hold) h.is in let most = h.held in let all : old.hold ≡ i = omega (arith, free, left, most) in
      let sum : old.looks + i + (old.hold - i) ≡ old.looks + old.hold = omega (arith, most) in
      e ∙ (at_once s p.sent 1 same free
      ∙ (ap (completes p.sent) h.is
      ∙ ((λ j. record { now = record (drained exec p.sent.command old) { hold = 0; looks = sum j }; place = Some (length old.history.records) })
      ∙ sym (at_once old p.sent polls p.is (omega (arith, all, lt))))))

  -- where the reply is taken, the hold has run down
  pub going_hold : (old s t : EndsState) (i place : ℕ) → rings old ≡ true → Going old i s → record { now = t; place = Some place } ≡ awaited exec 1 s
      → old.hold ≡ i
  going_hold old s t i place ring h e = let p = rung old ring in
      let same : s.history.sent ≡ Some p.sent = ap (λ (z : EndsState). z.history.sent) h.is ∙ p.is in
      let free : s.hold < 1 = below_polls s p.sent 1 place same (ap (λ (a : Awaited exec). a.place) (sym e)) in
      let left : s.hold ≡ old.hold - i = ap (λ (z : EndsState). z.hold) h.is in let most = h.held in omega (arith, free, left, most)

  -- the wiring stays
  pub going_wiring : (old s : EndsState) (i : ℕ) → Going old i s → s.wiring ≡ old.wiring
  going_wiring old s i h = ap (λ (z : EndsState). z.wiring) h.is

  pub going_stops : (old s : EndsState) (i polls : ℕ) → rings old ≡ true → i ≤ polls → polls ≤ i → Going old i s
      → record { now = s; place = None } ≡ awaited exec polls old
  going_stops old s i polls ring le ge h = let p = rung old ring in let same : i ≡ polls = omega (arith, le, ge) in let most = h.held in
      ap (λ (z : EndsState). record { now = z; place = None }) (h.is ∙ ap (λ (n : ℕ). record old { hold = old.hold - n; looks = old.looks + n }) same)
      ∙ sym (held_on old p.sent polls p.is (omega (arith, most, same)))

  -- what the next poll wants
  pub going_rings : (old s : EndsState) (i : ℕ) → Going old i s → rings old ≡ true → rings s ≡ true
  going_rings old s i h ring = ap rings h.is ∙ ring

  pub going_few : (old s : EndsState) (i : ℕ) → Going old i s → length old.history.records < 4096 → length s.history.records < 4096
  going_few old s i h few = subst (λ (z : EndsState). length z.history.records < 4096) (sym h.is) few

  pub going_left : (old s : EndsState) (i polls : ℕ) → Going old i s → old.looks ≡ 0 → old.budget ≡ polls → i < polls → s.looks < s.budget
  going_left old s i polls h none all lt = subst (λ (z : EndsState). z.looks < z.budget) (sym h.is) (omega (arith, none, all, lt))
