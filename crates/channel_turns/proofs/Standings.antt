-- What whole runs make of a channel between two calls.
use Rattle.std.proofs.Common.{◌≡◌, ⊎_elim, ℕ, ◌+◌, ◌^◌, ◌<◌, ◌≤◌, Bool, true, false, List, [], ◌∷◌, ◌++◌, length, take, drop, refl, sym, ap, ◌∙◌, subst, arith, length-append, length-drop}
use Rattle.std.specs.Prelude.{Option, Some, None, Result, Ok, Err, get_or, not}
use Rattle.std.specs.Int.{from_bool}
use Rattle.std.proofs.lemmas.List.{length-map, map-append, append-nil, drop_all, take_all}
use Rattle.std.proofs.Math.Seq.{get_or-append_seam}
use Rattle.pcc_bytes.specs.Bytes.{IsBytes}
use Rattle.pcc_exec.specs.Execution.{IsSpace, Leaves}
use Rattle.shmem_header.specs.Spelling.{words_of}
use Rattle.pcc_history.specs.Devices.{Device}
use Rattle.pcc_history.specs.Channel.{Exchange, exchange_of, over}
use Rattle.pcc_history.specs.Histories.{Legal, state_after}
use Rattle.pcc_journal.specs.declared.record.Record.{Record}
use Rattle.pcc_journal.specs.declared.text.JournalHead.{JournalHead}
use Rattle.pcc_journal.specs.Records.{exchanges_of, exchange_of_record}
use Rattle.pcc_steps.specs.declared.wiring.Wiring.{Wiring}
use Rattle.pcc_steps.specs.declared.ask.AskStage.{AskStage}
use Rattle.pcc_steps.specs.declared.ask.AskStage.TheVariants.{AskRest}
use Rattle.pcc_steps.specs.declared.ask.AskOutcome.TheVariants.{Posted, Clear, Drained}
use Rattle.pcc_steps.specs.declared.answer.AnswerStage.{AnswerStage}
use Rattle.pcc_steps.specs.declared.answer.AnswerStage.TheVariants.{AnswerRest}
use Rattle.pcc_steps.specs.declared.answer.AnswerOutcome.TheVariants.{Idle, Served}
use Rattle.pcc_steps.specs.Wires.{style_of, block_of, opening_header, opening_word, opening_words, sees_done}
use Rattle.pcc_steps.specs.Asking.{Ask, AskOk, IsNewAsk, ask_begun, ask_budgeted, ask_looking}
use Rattle.pcc_steps.specs.Answering.{Answer, AnswerOk, IsNewAnswer}
use Rattle.pcc_steps.specs.Agree.{flying, Core, Asker, asker_begun, new_asker, Answerer, Agree, Agreed, quiet, resting, pose_at, turn_at, Fits, Row, IsDone, flight, answered, closed}
use Rattle.pcc_steps.proofs.Agreement.{budget_agrees, device_stays, look_begin_agrees, post_begin_agrees, starts_agreed}
use Rattle.pcc_steps.proofs.Bits.{finished_set}
use Rattle.pcc_steps.proofs.Lists.{eight_more, one_more}
use Rattle.channel_core.specs.CommandHistory.{CommandHistory, posts_of}
use Rattle.channel_core.specs.Readying.{IsReadied, ReadiedBy, ReadyCommand}
use Rattle.channel_core.specs.Refusals.{refusal_of}
use Rattle.channel_core.specs.Sendings.{FliesWith, command_of, given_up_after, is_flying}
use Rattle.channel_core.specs.declared.answers.CallRefusal.{CallRefusal}
use Rattle.channel_core.specs.declared.sent.Sent.{Sent}
use Rattle.pcc_journal.specs.declared.record.Pending.{Pending}
use Rattle.channel_turns.specs.EndsStates.{rings_for}
use Rattle.channel_turns.specs.WordRuns.{AskSteps, AnswerKeeps, HasExecuted, LineWas}
use Rattle.channel_turns.specs.Standing.{Allows, LinkState, Carries, IsHeadOf, Stands, answerer_of, asker_of, exchange_after, waits}

-- the doorbell line
abbrev pub line_at : Bool → ℕ
line_at true = 1
line_at false = 0

not_both : (b : Bool) → b ≡ true → b ≡ false → ⊥
not_both b t f = cc

-- ---- lists

pub over_long : (space bytes : List ℕ) → length bytes ≤ length space → length (over space bytes) ≡ length space
over_long space bytes le = let a = length-append bytes (drop (length bytes) space) in let d = length-drop (length bytes) space in omega (arith, a, d, le)

-- a slice of the whole list
pub whole_words : (n : ℕ) (new items : List ℕ) → n ≡ length items → length new ≡ length items → take n (new ++ drop (length new) items) ≡ new
whole_words n new items e l = let none : drop (length new) items ≡ [] = drop_all (length new) items (omega (arith, l)) in
    ap (λ (x : List ℕ). take n (new ++ x)) none ∙ (ap (take n) (append-nil new) ∙ take_all n new (omega (arith, e, l)))

last_same : (xs : List Exchange) (x y : Exchange) → xs ++ x ∷ [] ≡ xs ++ y ∷ [] → x ≡ y
last_same xs x y e = sym (get_or-append_seam xs x [] x) ∙ ap (λ (l : List Exchange). get_or l (length xs) x) e ∙ get_or-append_seam xs y [] x

not_more : (xs ys : List Exchange) (e : Exchange) → ys ≡ xs → ys ≡ xs ++ e ∷ [] → ⊥
not_more xs ys e p q = let l = ap (λ (l : List Exchange). length l) p in let k = one_more xs ys e q in omega (arith, l, k)

pub exchanges_more : (rs : List Record) (r : Record) → exchanges_of (rs ++ r ∷ []) ≡ exchanges_of rs ++ exchange_of_record r ∷ []
exchanges_more rs r = map-append exchange_of_record rs (r ∷ [])

pub state_more : (exec : Device) (state : List ℕ) (xs : List Exchange) (c : Exchange)
    → state_after exec state (xs ++ c ∷ []) ≡ (exec (state_after exec state xs) c.code c.input).state
state_more exec state [] c = refl
state_more exec state (x ∷ xs) c = state_more exec (exec state x.code x.input).state xs c

-- ---- the command in flight

-- its caller gives it up: the command is the same
pub given_up_same : (looks : ℕ) (sent : Option Sent) → command_of (given_up_after looks sent) ≡ command_of sent
given_up_same looks None = refl
given_up_same looks (Some c) = refl

-- the commands that are executed and not drained
pub count_executed : (b : Bool) → from_bool b ≡ flying b
count_executed true = refl
count_executed false = refl

-- a command that is made ready changes neither the records nor the command in flight
readied_by : (o : Option CallRefusal) (old new : CommandHistory) (r : ReadyCommand) (result : Result ReadyCommand CallRefusal)
    → ReadiedBy o old r new result → (new.records ≡ old.records) × (new.sent ≡ old.sent)
readied_by (Some e) old new r result h = (ap (λ (z : CommandHistory). z.records) h.1, ap (λ (z : CommandHistory). z.sent) h.1)
readied_by None old new r (Ok made) h = (ap (λ (z : CommandHistory). z.records) h.1, ap (λ (z : CommandHistory). z.sent) h.1)
readied_by None old new r (Err e) h = (ap (λ (z : CommandHistory). z.records) h.1, ap (λ (z : CommandHistory). z.sent) h.1)

pub readied_keeps : (old new : CommandHistory) (r : ReadyCommand) (result : Result ReadyCommand CallRefusal) → IsReadied old r new result
    → (new.records ≡ old.records) × (new.sent ≡ old.sent)
readied_keeps old new r result h = readied_by (refusal_of r.kind r.room r.code (length r.bytes) (posts_of old)) old new r result h

-- the last exchange of a legal history is what the device makes of it
legal_last : (exec : Device) (reports : Bool) (state : List ℕ) (xs : List Exchange) (c : Exchange) → Legal exec reports state (xs ++ c ∷ [])
    → c ≡ exchange_of exec reports (state_after exec state xs) c.code c.input
legal_last exec reports state [] c h = λ i. record { code = c.code; input = c.input; error = h.0 i; output = h.1 i }
legal_last exec reports state (x ∷ xs) c h = legal_last exec reports (exec state x.code x.input).state xs c h.2

carries_same : (flight : Option Pending) (a b : Ask) → b.in_flight ≡ a.in_flight → b.code ≡ a.code → b.input ≡ a.input → Carries flight a
    → Carries flight b
carries_same None a b f k i h = f ∙ h
carries_same (Some p) a b f k i h = (f ∙ h.0, k ∙ h.1, i ∙ h.2)

pub is_flown : (sent : Option Sent) (a : Ask) → is_flying sent ≡ true → Carries (command_of sent) a → a.in_flight ≡ true
is_flown None a e h = absurd (cc e)
is_flown (Some c) a e h = h.0

module _ (exec : Device) where
  -- ---- both ends rest

  rests_fit : (start : List ℕ) (x : Asker) (y : Answerer) (c : Core) (f : Bool) → x.m.stage ≡ AskRest → y.m.stage ≡ AnswerRest → x.m.in_flight ≡ f
      → Agreed exec start x y c → Fits (resting f) quiet x y c
  rests_fit start x y c f r q e g =
      let h : Fits (resting x.m.in_flight) quiet x y c = subst (λ (z : AskStage × AnswerStage). Fits (pose_at z.0 x.m) (turn_at z.1 y.m) x y c) (λ i. (r i, q i)) g.fits in
      subst (λ (b : Bool). Fits (resting b) quiet x y c) e h

  -- nothing is in flight
  free_line : (start ws : List ℕ) (x : Asker) (y : Answerer) → x.m.stage ≡ AskRest → y.m.stage ≡ AnswerRest → x.m.in_flight ≡ false
      → Agree exec start ws x y → get_or ws 2 0 ≡ 0
  free_line start ws x y r q e g = ap (λ (l : List ℕ). get_or l 2 0) g.1.1 ∙ (rests_fit start x y g.0 false r q e g.1.2).1.line

  -- a command is in flight that isn't executed: the line is up
  rung_line : (start ws : List ℕ) (x : Asker) (y : Answerer) → x.m.stage ≡ AskRest → y.m.stage ≡ AnswerRest → x.m.in_flight ≡ true → y.done ≡ x.done
      → Agree exec start ws x y → get_or ws 2 0 ≡ 1
  rung_line start ws x y r q e h g = ap (λ (l : List ℕ). get_or l 2 0) g.1.1
      ∙ ⊎_elim (λ (w : Row x.m.wiring x.m.code y.done g.0 closed 1 x.m.sent x.done). w.line)
      (λ (d : (o : Bool × List ℕ) × IsDone (flight x) y.done g.0 o.0 o.1). absurd (not_more x.done y.done (answered (flight x) d.0.0 d.0.1) h d.1.row.done))
      (rests_fit start x y g.0 true r q e g.1.2)

  -- it is executed
  done_is : (start ws : List ℕ) (x : Asker) (y : Answerer) → x.m.stage ≡ AskRest → y.m.stage ≡ AnswerRest → x.m.in_flight ≡ true
      → length y.done ≡ length x.done + 1 → (g : Agree exec start ws x y) → (o : Bool × List ℕ) × IsDone (flight x) y.done g.0 o.0 o.1
  done_is start ws x y r q e h g = ⊎_elim (λ (w : Row x.m.wiring x.m.code y.done g.0 closed 1 x.m.sent x.done). absurd (longer w.done))
      (λ (d : (o : Bool × List ℕ) × IsDone (flight x) y.done g.0 o.0 o.1). d)
      (rests_fit start x y g.0 true r q e g.1.2)
    where
      longer : y.done ≡ x.done → ⊥
      longer p = let l = ap (λ (l : List Exchange). length l) p in omega (arith, l, h)

  done_line : (start ws : List ℕ) (x : Asker) (y : Answerer) → x.m.stage ≡ AskRest → y.m.stage ≡ AnswerRest → x.m.in_flight ≡ true
      → length y.done ≡ length x.done + 1 → Agree exec start ws x y → get_or ws 2 0 ≡ 0
  done_line start ws x y r q e h g = let d = done_is start ws x y r q e h g in ap (λ (l : List ℕ). get_or l 2 0) g.1.1 ∙ d.1.row.line

  done_word : (start ws : List ℕ) (x : Asker) (y : Answerer) → x.m.stage ≡ AskRest → y.m.stage ≡ AnswerRest → x.m.in_flight ≡ true
      → length y.done ≡ length x.done + 1 → Agree exec start ws x y → sees_done x.m.wiring (get_or ws 0 0) ≡ true
  done_word start ws x y r q e h g = let d = done_is start ws x y r q e h g in let w : Wiring = x.m.wiring in let ok = g.1.2.ask_ok in
      ap (sees_done w) (ap (λ (l : List ℕ). get_or l 0 0) g.1.1) ∙ finished_set (style_of w) w x.m.code g.0.completion d.0.0 ok.id ok.code d.1.row.completion

  -- what the answering end has executed
  done_reply : (start ws : List ℕ) (x : Asker) (y : Answerer) → x.m.stage ≡ AskRest → y.m.stage ≡ AnswerRest → x.m.in_flight ≡ true
      → length y.done ≡ length x.done + 1 → Agree exec start ws x y
      → y.done ≡ x.done ++ exchange_of exec x.m.wiring.reports (state_after exec start x.done) x.m.code x.m.input ∷ []
  done_reply start ws x y r q e h g = let d = done_is start ws x y r q e h g in let c : Exchange = answered (flight x) d.0.0 d.0.1 in let p : y.done ≡ x.done ++ c ∷ [] = d.1.row.done in
      p ∙ ap (λ (z : Exchange). x.done ++ z ∷ []) (legal_last exec x.m.wiring.reports start x.done c (subst (Legal exec x.m.wiring.reports start) p g.1.2.legal))

  -- ---- the machine of the asking end at rest

  module _ (head : JournalHead) (first opening : List ℕ) (is_state : List ℕ → Type 0) (room_of : List ℕ → ℕ) where
    abbrev pub Standing : LinkState → List Record → Option Pending → Bool → Type 0
    Standing = Stands exec head first opening is_state room_of

    abbrev reply : List Record → Pending → Exchange
    reply rs c = exchange_after exec head first opening rs c

    abbrev asks : (p : LinkState) (rs : List Record) (flight : Option Pending) (x : Bool) → Standing p rs flight x → Asker
    asks p rs flight x k = asker_of exec head first opening p rs k.clears k.asked

    abbrev answers : LinkState → List Record → Option Pending → Bool → Answerer
    answers p rs flight x = answerer_of exec head first opening p rs flight x

    -- what a run of the asking end changes
    abbrev IsAsked : LinkState → LinkState → Type 0
    IsAsked p q = q ≡ record p { words = q.words; ask = q.ask }

    -- what a run of the answering end changes
    abbrev IsServed : LinkState → LinkState → Type 0
    IsServed p q = q ≡ record p { words = q.words; answer = q.answer; device = q.device }

    -- a look takes the reply
    abbrev Drains : LinkState → LinkState → Bool → Type 0
    Drains p q error = AskSteps p.words (ask_looking p.ask) q.words q.ask (Some (Drained error))

    allowed : (flight : Option Pending) (a b : ℕ) → b ≡ a → Allows flight a → Allows flight b
    allowed flight a b e h = subst (Allows flight) (sym e) h

    budget_by : (flight : Option Pending) (polls : ℕ) → 0 < polls → Allows flight polls
    budget_by None polls lt = tt
    budget_by (Some c) polls lt = lt

    pub budget_stands : (p q : LinkState) (rs : List Record) (flight : Option Pending) (x : Bool) (polls : ℕ) → q ≡ record p { ask = ask_budgeted p.ask polls }
        → 0 < polls → Standing p rs flight x → Standing q rs flight x
    budget_stands p q rs flight x polls e lt k = subst (λ (z : LinkState). Standing z rs flight x) (sym e) (
        record {
          clears = k.clears;
          asked = k.asked;
          agree = budget_agrees exec first p.words (asks p rs flight x k) (answers p rs flight x) polls k.rests k.agree;
          rests = k.rests;
          quiet = k.quiet;
          long = k.long;
          start = k.start;
          room = k.room;
          wired = k.wired;
          carries = carries_same flight p.ask (ask_budgeted p.ask polls) refl refl refl k.carries;
          allows = budget_by flight polls lt;
          executes = k.executes;
        })

    -- the command in flight is given up: its note alone changes
    pub noted_stands : (p : LinkState) (rs : List Record) (looks : ℕ) (sent : Option Sent) (x : Bool) → Standing p rs (command_of sent) x
        → Standing p rs (command_of (given_up_after looks sent)) x
    noted_stands p rs looks sent x k = subst (λ (o : Option Pending). Standing p rs o x) (sym (given_up_same looks sent)) k

    -- ---- a turn of the answering end

    executed_more : (rs : List Record) (c : Pending) (x : Bool) → x ≡ true → length (exchanges_of rs ++ waits x (reply rs c)) ≡ length (exchanges_of rs) + 1
    executed_more rs c x q = ap (λ (x : Bool). length (exchanges_of rs ++ waits x (reply rs c))) q ∙ length-append (exchanges_of rs) (reply rs c ∷ [])

    executed_none : (rs : List Record) (c : Pending) (x : Bool) → x ≡ false → exchanges_of rs ++ waits x (reply rs c) ≡ exchanges_of rs
    executed_none rs c x q = ap (λ (x : Bool). exchanges_of rs ++ waits x (reply rs c)) q ∙ append-nil (exchanges_of rs)

    -- the line is up exactly when the command in flight isn't executed
    line_of : (p : LinkState) (rs : List Record) (flight : Option Pending) (x b : Bool) → rings_for flight x ≡ b → Standing p rs flight x
        → get_or p.words 2 0 ≡ line_at b
    line_of p rs None x b e k = subst (λ (b : Bool). get_or p.words 2 0 ≡ line_at b) e
        (free_line first p.words (asks p rs None x k) (answers p rs None x) k.rests k.quiet k.carries k.agree)
    line_of p rs (Some c) x b e k = by_executed x refl
      where
        by_executed : (z : Bool) → x ≡ z → get_or p.words 2 0 ≡ line_at b
        by_executed true q = subst (λ (b : Bool). get_or p.words 2 0 ≡ line_at b) (sym (ap not q) ∙ e)
            (done_line first p.words (asks p rs (Some c) x k) (answers p rs (Some c) x) k.rests k.quiet k.carries.0 (executed_more rs c x q) k.agree)
        by_executed false q = subst (λ (b : Bool). get_or p.words 2 0 ≡ line_at b) (sym (ap not q) ∙ e)
            (rung_line first p.words (asks p rs (Some c) x k) (answers p rs (Some c) x) k.rests k.quiet k.carries.0 (executed_none rs c x q) k.agree)

    pub idle_rings : (p : LinkState) (rs : List Record) (flight : Option Pending) (x : Bool) → Standing p rs flight x → LineWas Idle p.words
        → rings_for flight x ≡ false
    idle_rings p rs flight x k line = by (rings_for flight x) refl
      where
        by : (b : Bool) → rings_for flight x ≡ b → rings_for flight x ≡ false
        by false e = e
        by true e = let q : get_or p.words 2 0 ≡ 1 = line_of p rs flight x true e k in absurd (omega (arith, q, line))

    pub served_rings : (p : LinkState) (rs : List Record) (flight : Option Pending) (x : Bool) → Standing p rs flight x → LineWas Served p.words
        → rings_for flight x ≡ true
    served_rings p rs flight x k line = by (rings_for flight x) refl
      where
        by : (b : Bool) → rings_for flight x ≡ b → rings_for flight x ≡ true
        by true e = e
        by false e = absurd (line (line_of p rs flight x false e k))

    at_rest : (b : Answer) (hp ha : ℕ) → b.stage ≡ AnswerRest → HasExecuted b.stage hp ha
    at_rest b hp ha e = subst (λ (s : AnswerStage). HasExecuted s hp ha) (sym e) tt

    pub idle_stands : (p q : LinkState) (rs : List Record) (flight : Option Pending) (x : Bool) → IsServed p q → q.answer.stage ≡ AnswerRest
        → length q.words ≡ length p.words → AnswerKeeps exec is_state room_of p.words p.answer p.device q.words q.answer q.device (Some Idle)
        → Standing p rs flight x → Standing q rs flight x
    idle_stands p q rs flight x e rests long keeps k = let a : Asker = asks p rs flight x k in let done : List Exchange = (answers p rs flight x).done in
        let h = keeps first a done k.start k.room k.agree (at_rest p.answer (length done) (length a.done) k.quiet) in
        subst (λ (z : LinkState). Standing z rs flight x) (sym e) (
        record {
          clears = k.clears;
          asked = k.asked;
          agree = subst (λ (l : List Exchange). Agree exec first q.words a (record { m = q.answer; device = q.device; done = l })) h.2 h.1;
          rests = k.rests;
          quiet = rests;
          long = long ∙ k.long;
          start = k.start;
          room = k.room;
          wired = k.wired;
          carries = k.carries;
          allows = k.allows;
          executes = k.executes;
        })

    executes_one : (p q : LinkState) (rs : List Record) (c : Pending) (x : Bool) → x ≡ false → q.answer.stage ≡ AnswerRest → length q.words ≡ length p.words
        → AnswerKeeps exec is_state room_of p.words p.answer p.device q.words q.answer q.device (Some Served) → Standing p rs (Some c) x
        → Standing (record p { words = q.words; answer = q.answer; device = q.device }) rs (Some c) true
    executes_one p q rs c x e rests long keeps k = let a : Asker = asks p rs (Some c) x k in let done : List Exchange = (answers p rs (Some c) x).done in
        let ha : List Exchange = exchanges_of rs in
        let h = keeps first a done k.start k.room k.agree (at_rest p.answer (length done) (length a.done) k.quiet) in
        let y : Answerer = record { m = q.answer; device = q.device; done = h.0 } in
        let all : h.0 ≡ ha ++ reply rs c ∷ [] = done_reply first q.words a y k.rests rests k.carries.0 h.2 h.1
        ∙ ap (λ (z : Bool × (ℕ × List ℕ)). ha ++ exchange_of exec z.0 (state_after exec first ha) z.1.0 z.1.1 ∷ []) (λ i. (k.wired.reports i, (k.carries.1 i, k.carries.2 i))) in
        record {
          clears = k.clears;
          asked = k.asked;
          agree = subst (λ (l : List Exchange). Agree exec first q.words a (record { m = q.answer; device = q.device; done = l })) all h.1;
          rests = k.rests;
          quiet = rests;
          long = long ∙ k.long;
          start = k.start;
          room = k.room;
          wired = k.wired;
          carries = k.carries;
          allows = k.allows;
          executes = tt;
        }

    unexecuted : (b : Bool) → not b ≡ true → b ≡ false
    unexecuted true e = absurd (cc e)
    unexecuted false e = refl

    pub served_stands : (p q : LinkState) (rs : List Record) (flight : Option Pending) (x : Bool) → IsServed p q → q.answer.stage ≡ AnswerRest
        → length q.words ≡ length p.words → AnswerKeeps exec is_state room_of p.words p.answer p.device q.words q.answer q.device (Some Served)
        → rings_for flight x ≡ true → Standing p rs flight x → Standing q rs flight true
    served_stands p q rs flight x e rests long keeps ring k = subst (λ (z : LinkState). Standing z rs flight true) (sym e) (by flight ring k)
      where
        by : (flight : Option Pending) → rings_for flight x ≡ true → Standing p rs flight x
            → Standing (record p { words = q.words; answer = q.answer; device = q.device }) rs flight true
        by None r k = absurd (cc r)
        by (Some c) r k = executes_one p q rs c x (unexecuted x r) rests long keeps k

    -- the device keeps its states and its room
    abbrev pub DeviceKeeps : Type 0
    DeviceKeeps = (before : List ℕ) (code : ℕ) (space : List ℕ) → is_state before → IsSpace (room_of before) space
        → Leaves is_state room_of before (exec before code space)

    pub device_room : DeviceKeeps → (p : LinkState) (rs : List Record) (flight : Option Pending) (x : Bool) → Standing p rs flight x
        → room_of p.device ≡ p.answer.wiring.room
    device_room keeps p rs flight x k = (device_stays exec is_state room_of keeps first p.words (asks p rs flight x k) (answers p rs flight x) k.start k.room k.agree).1
        ∙ ap (λ (w : Wiring). w.room) (sym k.agree.1.2.same)

    -- both machines have one wiring
    pub answer_long : (p : LinkState) (rs : List Record) (flight : Option Pending) (x : Bool) → Standing p rs flight x
        → length p.words ≡ 8 + block_of p.answer.wiring
    answer_long p rs flight x k = k.long ∙ ap (λ (w : Wiring). 8 + block_of w) (sym k.agree.1.2.same)

    -- ---- a look of the asking end

    looking : (p : LinkState) (rs : List Record) (flight : Option Pending) (x : Bool) → p.ask.in_flight ≡ true → p.ask.looks < p.ask.budget
        → (k : Standing p rs flight x) → Agree exec first p.words (record (asks p rs flight x k) { m = ask_looking p.ask }) (answers p rs flight x)
    looking p rs flight x flies left k = look_begin_agrees exec first p.words (asks p rs flight x k) (answers p rs flight x) k.rests flies left k.agree

    clear_unexecuted : (p : LinkState) (rs : List Record) (c : Pending) (x : Bool) → Standing p rs (Some c) x
        → sees_done p.ask.wiring (get_or p.words 0 0) ≡ false → x ≡ false
    clear_unexecuted p rs c x k e = by x refl
      where
        by : (b : Bool) → x ≡ b → x ≡ false
        by false q = q
        by true q = absurd (not_both _ (done_word first p.words (asks p rs (Some c) x k) (answers p rs (Some c) x) k.rests k.quiet k.carries.0 (executed_more rs c x q) k.agree) e)

    pub clear_rings : (p : LinkState) (rs : List Record) (sent : Option Sent) (x : Bool) → Standing p rs (command_of sent) x → is_flying sent ≡ true
        → sees_done p.ask.wiring (get_or p.words 0 0) ≡ false → rings_for (command_of sent) x ≡ true
    clear_rings p rs None x k f e = absurd (cc f)
    clear_rings p rs (Some c) x k f e = ap not (clear_unexecuted p rs c.command x k e)

    pub clear_stands : (p q : LinkState) (rs : List Record) (flight : Option Pending) (x : Bool) → IsAsked p q → p.ask.in_flight ≡ true
        → p.ask.looks < p.ask.budget → AskSteps p.words (ask_looking p.ask) q.words q.ask (Some Clear) → Standing p rs flight x → Standing q rs flight x
    clear_stands p q rs flight x e flies left h k = let a : Asker = record (asks p rs flight x k) { m = ask_looking p.ask } in
        subst (λ (z : LinkState). Standing z rs flight x) (sym e) (
        record {
          clears = k.clears + 1;
          asked = k.asked;
          agree = h.keeps exec first a (answers p rs flight x) refl (looking p rs flight x flies left k);
          rests = h.stops;
          quiet = k.quiet;
          long = h.long ∙ k.long ∙ ap (λ (w : Wiring). 8 + block_of w) (sym h.wiring);
          start = k.start;
          room = k.room ∙ ap (λ (w : Wiring). w.room) (sym h.wiring);
          wired = subst (IsHeadOf head) (sym h.wiring) k.wired;
          carries = carries_same flight p.ask q.ask h.flies h.code h.input k.carries;
          allows = allowed flight p.ask.budget q.ask.budget h.budget k.allows;
          executes = k.executes;
        })

    -- the exchange that a look takes
    abbrev last_of : LinkState → Bool → Exchange
    last_of q error = record { code = q.ask.code; input = q.ask.input; error = error; output = q.ask.space }

    -- that of the command in flight, with the space that the look took
    abbrev taken_of : LinkState → Pending → Bool → Exchange
    taken_of q c error = record { code = c.code; input = c.input; error = error; output = q.ask.space }

    abbrev drained_asker : (p q : LinkState) (rs : List Record) (c : Pending) (x error : Bool) → Standing p rs (Some c) x → Asker
    drained_asker p q rs c x error k = record (asks p rs (Some c) x k) { m = q.ask; done = exchanges_of rs ++ last_of q error ∷ [] }

    drain_agrees : (p q : LinkState) (rs : List Record) (c : Pending) (x error : Bool) → p.ask.looks < p.ask.budget → Drains p q error
        → (k : Standing p rs (Some c) x) → Agree exec first q.words (drained_asker p q rs c x error k) (answers p rs (Some c) x)
    drain_agrees p q rs c x error left h k = h.keeps exec first (record (asks p rs (Some c) x k) { m = ask_looking p.ask }) (answers p rs (Some c) x) refl
        (looking p rs (Some c) x k.carries.0 left k)

    drain_same : (p q : LinkState) (rs : List Record) (c : Pending) (x error : Bool) → p.ask.looks < p.ask.budget → Drains p q error
        → Standing p rs (Some c) x → exchanges_of rs ++ waits x (reply rs c) ≡ exchanges_of rs ++ last_of q error ∷ []
    drain_same p q rs c x error left h k = let g = drain_agrees p q rs c x error left h k in
        (rests_fit first (drained_asker p q rs c x error k) (answers p rs (Some c) x) g.0 false h.stops k.quiet h.flies g.1.2).1.done

    -- the reply that a look takes is that of the executed command
    pub drain_reply : (p q : LinkState) (rs : List Record) (c : Pending) (x error : Bool) → p.ask.looks < p.ask.budget → Drains p q error
        → Standing p rs (Some c) x → (x ≡ true) × (reply rs c ≡ taken_of q c error)
    drain_reply p q rs c x error left h k = by x refl
      where
        ha : List Exchange
        ha = exchanges_of rs

        same : ha ++ waits x (reply rs c) ≡ ha ++ last_of q error ∷ []
        same = drain_same p q rs c x error left h k

        by : (b : Bool) → x ≡ b → (x ≡ true) × (reply rs c ≡ taken_of q c error)
        by false e = absurd (not_more ha (ha ++ waits x (reply rs c)) (last_of q error) (executed_none rs c x e) same)
        by true e = (
          e,
          last_same ha (reply rs c) (last_of q error) (sym (ap (λ (x : Bool). ha ++ waits x (reply rs c)) e) ∙ same)
              ∙ ap (λ (z : ℕ × List ℕ). record { code = z.0; input = z.1; error = error; output = q.ask.space }) (λ i. ((h.code ∙ k.carries.1) i, (h.input ∙ k.carries.2) i)),
        )

    pub drain_long : (p q : LinkState) (rs : List Record) (c : Pending) (x error : Bool) → p.ask.looks < p.ask.budget → Drains p q error
        → Standing p rs (Some c) x → length c.input ≡ length q.ask.space
    drain_long p q rs c x error left h k = let g = drain_agrees p q rs c x error left h k in
        ap (λ (l : List ℕ). length l) (sym k.carries.2) ∙ k.agree.1.2.ask_ok.sized.input ∙ ap (λ (w : Wiring). w.room) (sym h.wiring) ∙ sym g.1.2.ask_ok.sized.space

    pub flies_with : (p q : LinkState) (rs : List Record) (sent : Option Sent) (x error : Bool) → is_flying sent ≡ true → p.ask.looks < p.ask.budget
        → Drains p q error → Standing p rs (command_of sent) x → FliesWith sent (length q.ask.space)
    flies_with p q rs None x error f left h k = absurd (cc f)
    flies_with p q rs (Some c) x error f left h k = drain_long p q rs c.command x error left h k

    pub drained_stands : (p q : LinkState) (rs rs' : List Record) (c : Pending) (x error : Bool) (r : Record) → IsAsked p q → p.ask.looks < p.ask.budget
        → Drains p q error → rs' ≡ rs ++ r ∷ [] → exchange_of_record r ≡ taken_of q c error → Standing p rs (Some c) x → Standing q rs' None false
    drained_stands p q rs rs' c x error r e left h ej er k = let ha : List Exchange = exchanges_of rs in
        let y : Answerer = answers p rs (Some c) x in
        let last : Exchange = last_of q error in
        let all : ha ++ last ∷ [] ≡ exchanges_of rs' = ap (λ (z : ℕ × List ℕ). ha ++ record { code = z.0; input = z.1; error = error; output = q.ask.space } ∷ []) (λ i. ((h.code ∙ k.carries.1) i, (h.input ∙ k.carries.2) i))
        ∙ (ap (λ (x : Exchange). ha ++ x ∷ []) (sym er) ∙ (sym (exchanges_more rs r) ∙ ap exchanges_of (sym ej))) in
        let hist : y.done ≡ exchanges_of rs' ++ [] = drain_same p q rs c x error left h k ∙ all ∙ sym (append-nil (exchanges_of rs')) in
        subst (λ (z : LinkState). Standing z rs' None false) (sym e) (
        record {
          clears = k.clears;
          asked = k.asked;
          agree = subst (λ (z : List Exchange × List Exchange). Agree exec first q.words (record (drained_asker p q rs c x error k) { done = z.0 }) (record { m = p.answer; device = p.device; done = z.1 })) (λ i. (all i, hist i))
              (drain_agrees p q rs c x error left h k);
          rests = h.stops;
          quiet = k.quiet;
          long = h.long ∙ k.long ∙ ap (λ (w : Wiring). 8 + block_of w) (sym h.wiring);
          start = k.start;
          room = k.room ∙ ap (λ (w : Wiring). w.room) (sym h.wiring);
          wired = subst (IsHeadOf head) (sym h.wiring) k.wired;
          carries = h.flies;
          allows = tt;
          executes = refl;
        })

    -- ---- a post

    pub posts_left : (p : LinkState) (rs : List Record) (x : Bool) → Standing p rs None x → length rs < 4096 → p.ask.posts < 4096
    posts_left p rs x k few = let a = k.agree.1.2.posts in let b : flying p.ask.in_flight ≡ 0 = ap flying k.carries in let c : length (exchanges_of rs) ≡ length rs = length-map rs exchange_of_record in omega (arith, a, b, c, few)

    -- the command fits the channel
    pub record Fitting (p : LinkState) (code : ℕ) (bytes : List ℕ) : Type 0 where
      pub fits : length bytes ≤ p.ask.wiring.room
      pub posts : p.ask.posts < 4096
      pub byte : p.ask.wiring.kind ≤ 2 → code < 256
      pub wide : code < 2 ^ 32
      pub bytes_are : IsBytes bytes
      pub budget : 0 < p.ask.budget

    pub posted_stands : (p q : LinkState) (rs : List Record) (c : Pending) (x : Bool) (code : ℕ) (bytes : List ℕ) → IsAsked p q
        → AskSteps p.words (ask_begun p.ask code bytes) q.words q.ask (Some Posted) → Fitting p code bytes → c.code ≡ code
        → c.input ≡ over p.ask.space bytes → Standing p rs None x → Standing q rs (Some c) false
    posted_stands p q rs c x code bytes e h f ek ei k = let ha : List Exchange = exchanges_of rs in
        let g = h.keeps exec first (asker_begun (asks p rs None x k) code bytes) (answers p rs None x) refl (post_begin_agrees exec first p.words (asks p rs None x k) (answers p rs None x) code bytes k.rests k.carries f.fits f.posts f.byte f.wide f.bytes_are k.agree) in
        subst (λ (z : LinkState). Standing z rs (Some c) false) (sym e) (
        record {
          clears = k.clears;
          asked = k.asked ++ bytes ∷ [];
          agree = g;
          rests = h.stops;
          quiet = k.quiet;
          long = h.long ∙ k.long ∙ ap (λ (w : Wiring). 8 + block_of w) (sym h.wiring);
          start = k.start;
          room = k.room ∙ ap (λ (w : Wiring). w.room) (sym h.wiring);
          wired = subst (IsHeadOf head) (sym h.wiring) k.wired;
          carries = (h.flies, h.code ∙ sym ek, h.input ∙ sym ei);
          allows = let b = h.budget in let some = f.budget in omega (arith, some, b);
          executes = tt;
        })

    -- ---- the start

    pub new_stands : (w : Wiring) (p : LinkState) → IsNewAsk p.ask w opening → IsNewAnswer p.answer w → AskOk p.ask → AnswerOk p.answer
        → IsBytes opening → p.words ≡ opening_words w (words_of opening) → length opening ≡ w.room → p.device ≡ first → is_state first
        → room_of first ≡ w.room → IsHeadOf head w → Standing p [] None false
    new_stands w p new new' ok ok' bytes ew long ed is room hd = let wired : p.ask.wiring ≡ w = new.0 in
        let g : Agree exec first (opening_words w (words_of opening)) (new_asker p.ask opening) (record { m = p.answer; device = first; done = [] }) = starts_agreed exec first w opening p.ask p.answer new new' ok ok' bytes in
        record {
          clears = 0;
          asked = [];
          agree = subst (λ (z : List ℕ × List ℕ). Agree exec first z.0 (new_asker p.ask opening) (record { m = p.answer; device = z.1; done = [] })) (λ i. (sym ew i, sym ed i)) g;
          rests = new.1;
          quiet = new'.1;
          long = ap (λ (l : List ℕ). length l) ew ∙ (eight_more (opening_word (style_of w) w) 0 0 0 0 0 0 0 (opening_header (style_of w) w ++ words_of opening) ∙ ap (λ (n : ℕ). 8 + n) (ap (λ (x : List ℕ). length x) (sym new.3) ∙ ok.sized.shown));
          start = is;
          room = room ∙ ap (λ (w : Wiring). w.room) (sym wired);
          wired = subst (IsHeadOf head) (sym wired) hd;
          carries = new.2;
          allows = tt;
          executes = refl;
        }
