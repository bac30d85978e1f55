-- What each call makes of the ends, and reports.
use Rattle.std.proofs.Common.{◌≡◌, ◌≢◌, ◌<◌, ℕ, ◌+◌, ◌-◌, Bool, true, false, cond, List, [], ◌∷◌, ◌++◌, length, refl, sym, ap, ◌∙◌, subst, arith}
use Rattle.std.specs.Prelude.{Option, Some, None, nat_lt, not, ◌==◌}
use Rattle.std.proofs.lemmas.Bool.Decides.{nat_tests}
use Rattle.pcc_causes.specs.Clock.{line_reading}
use Rattle.pcc_history.specs.Devices.{Device}
use Rattle.pcc_history.specs.Channel.{Exchange}
use Rattle.pcc_history.specs.Histories.{state_after}
use Rattle.pcc_io.specs.LineClocks.{LineState}
use Rattle.pcc_journal.specs.declared.record.Record.{Record}
use Rattle.pcc_journal.specs.declared.text.JournalHead.{JournalHead}
use Rattle.pcc_journal.specs.Records.{exchange_of_record, exchanges_of}
use Rattle.pcc_journal.specs.declared.record.Pending.{Pending}
use Rattle.pcc_steps.specs.Agree.{flying}
use Rattle.channel_core.specs.declared.answers.Look.TheVariants as look
use Rattle.channel_core.specs.declared.answers.Turn.TheVariants as turn
use Rattle.channel_core.specs.declared.caller.Reading.{Reading}
use Rattle.channel_core.specs.declared.sent.Sent.{Sent}
use Rattle.channel_core.specs.CommandHistory.{CommandHistory, drained_by, marked_done, marked_post}
use Rattle.channel_core.specs.Readings.{counted}
use Rattle.channel_core.specs.Readying.{ReadyCommand, sent_by}
use Rattle.channel_core.specs.Sendings.{command_of, is_flying, is_given_up, note_of, record_of}
use Rattle.pcc_steps.specs.declared.ask.AskOutcome.TheVariants.{Posted, Clear, Drained}
use Rattle.pcc_steps.specs.Asking.{ask_begun, ask_looking}
use Rattle.channel_turns.specs.ChannelRuns.{journal_limit}
use Rattle.channel_turns.specs.EndsStates.{EndsState, drained, exchange_in, looked, looked_for, posted, reading_of, rings, rings_for, turned, Looked}
use Rattle.channel_turns.specs.WordRuns.{AskSteps}
use Rattle.channel_turns.specs.Standing.{LinkState, Stands, seen}
use Rattle.channel_turns.proofs.Standings.{drain_reply, drained_stands, exchanges_more, state_more}

-- ---- turns

pub turned_on : (s : EndsState) (b : Bool) → s.hold ≡ 0 → length s.history.records + flying s.executed ≢ journal_limit → rings s ≡ b
    → turned s ≡ cond b (record { now = record s { executed = true }; told = turn.Served }) (record { now = s; told = turn.Idle })
turned_on s b hold room ring =
    let free : nat_lt 0 s.hold ≡ false = grind (arith, nat_tests) in
    let few : (length s.history.records + flying s.executed == journal_limit) ≡ false = grind (arith, nat_tests) in
    rw (free, few, ring) refl

-- ---- looks

unexecuted : (b : Bool) → not b ≡ true → b ≡ false
unexecuted true e = absurd (cc e)
unexecuted false e = refl

-- a look that saw completion clear
abbrev pub clear_by : EndsState → Looked
clear_by s = record { now = record s { looks = s.looks + 1 }; told = look.Clear (s.looks + 1) }

module _ (exec : Device) where
  -- a look that takes the reply
  abbrev pub taken_by : Pending → EndsState → Looked
  taken_by p s = record { now = drained exec p s; told = look.Drained (length s.history.records) (is_given_up s.history.sent) }

  pub looked_at : (s : EndsState) (c : Sent) (b : Bool) → s.history.sent ≡ Some c → s.executed ≡ b
      → looked exec s ≡ cond b (taken_by c.command s) (clear_by s)
  looked_at s c b e x = ap (λ (o : Option Sent). looked_for exec o s) e ∙ ap (λ (b : Bool). cond b (taken_by c.command s) (clear_by s)) x

  pub looked_rung : (s : EndsState) (sent : Option Sent) → s.history.sent ≡ sent → rings_for (command_of sent) s.executed ≡ true
      → looked exec s ≡ clear_by s
  looked_rung s None e x = absurd (cc x)
  looked_rung s (Some c) e x = looked_at s c false e (unexecuted s.executed x)

module _ (exec : Device) (head : JournalHead) (first opening : List ℕ) where
  abbrev at : LineState → LinkState → CommandHistory → Bool → ℕ → EndsState
  at clock p h executed hold = seen exec head clock first opening p h executed hold

  -- the reading that the clock gives next
  abbrev IsRead : LineState → LineState → ℕ → ℕ → Type 0
  IsRead clock clock' at number = (at ≡ line_reading clock.start clock.step clock.added clock.taken) × (number ≡ clock.taken)
      × (clock' ≡ record clock { taken = counted clock.taken })

  -- a look that saw completion clear
  pub clear_is : (clock : LineState) (p q : LinkState) (h : CommandHistory) (executed : Bool) (hold : ℕ) → rings_for (command_of h.sent) executed ≡ true
      → AskSteps p.words (ask_looking p.ask) q.words q.ask (Some Clear)
      → record { now = at clock q h executed hold; told = look.Clear q.ask.looks } ≡ looked exec (at clock p h executed hold)
  clear_is clock p q h executed hold x steps = let s : EndsState = at clock p h executed hold in
      (λ i. record { now = record s { wiring = steps.wiring i; object = record s.object { space = steps.space i }; budget = steps.budget i; looks = steps.looks i }; told = look.Clear (steps.looks i) }) ∙ sym (looked_rung exec s h.sent refl x)

  module _ (is_state : List ℕ → Type 0) (room_of : List ℕ → ℕ) where
    -- what a look leaves that took the reply
    pub record Took (clock clock' : LineState) (p q : LinkState) (h h' : CommandHistory) (executed : Bool) (hold place : ℕ) (late : Bool) : Type 0 where
      pub told : record { now = at clock' q h' false hold; told = look.Drained place late } ≡ looked exec (at clock p h executed hold)
      pub stands : Stands exec head first opening is_state room_of q h'.records (command_of h'.sent) false

    pub takes : (clock clock' : LineState) (p q : LinkState) (h h' : CommandHistory) (executed : Bool) (hold reading number place : ℕ) (late error : Bool)
        → q ≡ record p { words = q.words; ask = q.ask } → p.ask.looks < p.ask.budget
        → AskSteps p.words (ask_looking p.ask) q.words q.ask (Some (Drained error)) → is_flying h.sent ≡ true
        → IsRead clock clock' reading number → h' ≡ marked_done error q.ask.space reading number h → place ≡ length h.records
        → late ≡ is_given_up h.sent → Stands exec head first opening is_state room_of p h.records (command_of h.sent) executed
        → Took clock clock' p q h h' executed hold place late
    takes clock clock' p q h h' executed hold reading number place late error e left steps flies read eh ep el k = by h.sent refl
      where
        by : (o : Option Sent) → h.sent ≡ o → Took clock clock' p q h h' executed hold place late
        by None es = absurd (none (ap is_flying (sym es) ∙ flies))
          where
            none : false ≡ true → ⊥
            none f = cc
        by (Some c) es =
            let s : EndsState = at clock p h executed hold in
            let k' : Stands exec head first opening is_state room_of p h.records (Some c.command) executed = subst (λ (o : Option Sent). Stands exec head first opening is_state room_of p h.records (command_of o) executed) es k in
            let reply = drain_reply exec head first opening is_state room_of p q h.records c.command executed error left steps k' in
            let x : Exchange = exchange_in exec s c.command in
            let came : record { code = c.command.code; input = c.command.input; error = error; output = q.ask.space } ≡ x = sym reply.1 in
            let r : Record = record_of c error q.ask.space reading in
            let next : CommandHistory = record { records = h.records ++ r ∷ []; notes = h.notes ++ note_of c number ∷ []; sent = None; spare = h.spare - 1 } in
            let now : h' ≡ next = eh ∙ ap (λ (o : Option Sent). drained_by o error q.ask.space reading number h) es in
            let records : h'.records ≡ h.records ++ r ∷ [] = ap (λ (z : CommandHistory). z.records) now in
            let free : h'.sent ≡ None = ap (λ (z : CommandHistory). z.sent) now in
            let history : h' ≡ marked_done x.error x.output (reading_of s) s.taken h = eh ∙ (λ i. marked_done (came i).error (came i).output (read.0 i) (read.1 i) h) in
            let state : state_after exec first (exchanges_of h'.records) ≡ (exec s.object.state c.command.code c.command.input).state = ap (λ (l : List Record). state_after exec first (exchanges_of l)) records
            ∙ (ap (state_after exec first) (exchanges_more h.records r) ∙ state_more exec first (exchanges_of h.records) (exchange_of_record r)) in
            let is : record { now = at clock' q h' false hold; told = look.Drained place late } ≡ taken_by exec c.command s = λ i. record {
              now = record {
                head = head;
                wiring = steps.wiring i;
                clock = record { start = (read.2 i).start; step = (read.2 i).step };
                first = first;
                opening = opening;
                object = record { state = state i; space = (came i).output };
                history = history i;
                executed = false;
                taken = (read.2 i).taken;
                added = (read.2 i).added;
                hold = hold;
                budget = steps.budget i;
                looks = steps.looks i;
              };
              told = look.Drained (ep i) (el i);
            } in
            let done : Stands exec head first opening is_state room_of q h'.records None false = drained_stands exec head first opening is_state room_of p q h.records h'.records c.command executed error r e left steps records refl k' in
            record {
              told = is ∙ sym (looked_at exec s c true es reply.0);
              stands = subst (λ (o : Option Sent). Stands exec head first opening is_state room_of q h'.records (command_of o) false) (sym free) done;
            }

  -- ---- posts

  pub posted_is : (clock clock' : LineState) (p q : LinkState) (h h' : CommandHistory) (executed : Bool) (hold caller code : ℕ) (bytes : List ℕ)
      (ready : ReadyCommand) (post : Reading) → AskSteps p.words (ask_begun p.ask code bytes) q.words q.ask (Some Posted)
      → post ≡ record { at = line_reading clock.start clock.step clock.added clock.taken; number = clock.taken }
      → clock' ≡ record clock { taken = counted clock.taken } → h' ≡ marked_post (sent_by caller ready post p.ask.space) h
      → at clock' q h' false hold ≡ posted caller ready (at clock p h executed hold)
  posted_is clock clock' p q h h' executed hold caller code bytes ready post steps ep ek eh = ap (λ (z : CommandHistory). at clock' q z false hold) eh ∙ (λ i. record {
    head = head;
    wiring = steps.wiring i;
    clock = record { start = (ek i).start; step = (ek i).step };
    first = first;
    opening = opening;
    object = record { state = state_after exec first (exchanges_of h.records); space = steps.space i };
    history = marked_post (sent_by caller ready (ep i) p.ask.space) h;
    executed = false;
    taken = (ek i).taken;
    added = (ek i).added;
    hold = hold;
    budget = steps.budget i;
    looks = steps.looks i;
  })
