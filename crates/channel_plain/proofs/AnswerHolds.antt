-- What a pick of the answering side keeps.
use Rattle.std.proofs.Common.{◌≡◌, ◌⊎◌, inl, inr, ℕ, ◌+◌, ◌^◌, ◌<◌, ◌≤◌, Bool, true, false, List, [], ◌∷◌, ◌++◌, length, map, refl, sym, ap, ◌∙◌, subst, arith, length-append}
use Rattle.std.proofs.lemmas.List.{length-map, map-append}
use Rattle.pcc_history.specs.Devices.{Device}
use Rattle.pcc_history.specs.Channel.{Exchange}
use Rattle.pcc_journal.specs.declared.command.Command.{Command}
use Rattle.pcc_journal.specs.Records.{exchanges_of_commands, exchange_of_command, exchange_of_record}
use Rattle.pcc_steps.specs.declared.wiring.Action.{Action}
use Rattle.pcc_steps.specs.declared.ask.AskStage.{AskStage}
use Rattle.pcc_steps.specs.declared.ask.AskStage.TheVariants.{AskRest, PostBlock, PostHeader, PostUpdateLoad, PostUpdateStore, PostMarkLoad, PostMarkStore, PostBellLoad, PostBellStore, PostLine, LookWord, LookError, LookBlock, LookLine, LookLineStore, LookAckLoad, LookAckStore}
use Rattle.pcc_steps.specs.declared.answer.AnswerStage.{AnswerStage}
use Rattle.pcc_steps.specs.declared.answer.AnswerStage.TheVariants.{AnswerRest, TakeLine, TakeAckLoad, TakeAckStore, TakeHeader, TakeBlock, RunDevice, ReplyBlock, ReplyError, ReplyHeader, ReplyUpdateLoad, ReplyUpdateStore, ReplyMarkLoad, ReplyMarkStore, CloseBellLoad, CloseBellStore, CloseLine}
use Rattle.pcc_steps.specs.Asking.{Ask, Flies}
use Rattle.pcc_steps.specs.Answering.{Answer, answer_next, answer_fed, answer_fed_at}
use Rattle.pcc_steps.specs.Agree.{act, Finds, Core, Asker, Answerer, Agree, Turn, Fits, resting, pose_at, turn, settle, settle_at, answerer_fed, answerer_stepped, found}
use Rattle.pcc_steps.specs.Laws.{AnswerBeginAgrees, AnswerStepAgrees, DeviceStays, HistoriesAgree}
use Rattle.channel_core.specs.Executions.{Executions, command_by}
use Rattle.channel_plain.specs.Picks.{PlainState, started_at}
use Rattle.pcc_steps.specs.Carrying.{carried, carried_at}
use Rattle.channel_plain.specs.Standing.{Unkept, asker_of, answerer_of, Stands, Holds}
use Rattle.channel_plain.specs.Steps.{IsSettled, SettlesIf, ready_after}
use Rattle.pcc_steps.proofs.AnswerFeeds.{counted, framed, settled_wired}
use Rattle.pcc_steps.proofs.WordSteps.{long_act, finds_found}

-- ---- lists

again : (xs : List Exchange) → exchanges_of_commands (map command_by xs) ≡ xs
again [] = refl
again (x ∷ xs) = ap (λ (l : List Exchange). x ∷ l) (again xs)

pub grown : (cs : List Command) (xs : List Exchange) → exchanges_of_commands (cs ++ map command_by xs) ≡ exchanges_of_commands cs ++ xs
grown cs xs = map-append exchange_of_command cs (map command_by xs) ∙ ap (λ (l : List Exchange). exchanges_of_commands cs ++ l) (again xs)

-- ---- the command in flight

resting_flies : (b : Bool) (t : Turn) (x : Asker) (y : Answerer) (c : Core) → Fits (resting b) t x y c → (length y.done ≡ length x.done → ⊥) → b ≡ true
resting_flies true t x y c f n = refl
resting_flies false t x y c f n = absurd (n (ap (λ (l : List Exchange). length l) f.1.done))

carried_if : (st : AskStage) (a : Ask) (t : Turn) (x : Asker) (y : Answerer) (c : Core) → Flies st a.in_flight → Fits (pose_at st a) t x y c
    → (length y.done ≡ length x.done → ⊥) → carried_at st a.in_flight ≡ true
carried_if AskRest a t x y c l f n = resting_flies a.in_flight t x y c f n
carried_if (PostBlock j) a t x y c l f n = refl
carried_if PostHeader a t x y c l f n = refl
carried_if PostUpdateLoad a t x y c l f n = refl
carried_if PostUpdateStore a t x y c l f n = refl
carried_if PostMarkLoad a t x y c l f n = refl
carried_if PostMarkStore a t x y c l f n = refl
carried_if PostBellLoad a t x y c l f n = refl
carried_if PostBellStore a t x y c l f n = refl
carried_if PostLine a t x y c l f n = refl
carried_if LookWord a t x y c l f n = l
carried_if LookError a t x y c l f n = l
carried_if (LookBlock j) a t x y c l f n = l
carried_if LookLine a t x y c l f n = l
carried_if LookLineStore a t x y c l f n = l
carried_if LookAckLoad a t x y c l f n = l
carried_if LookAckStore a t x y c l f n = l

least : (xs ys : List Exchange) → (ys ≡ xs) ⊎ ((e : Exchange) × (ys ≡ xs ++ e ∷ [])) → length xs ≤ length ys
least xs ys (inl e) = let l = ap (λ (l : List Exchange). length l) e in omega (arith, l)
least xs ys (inr p) = let l = ap (λ (l : List Exchange). length l) p.1 in let k = length-append xs (p.0 ∷ []) in omega (arith, l, k)

most : (xs ys : List Exchange) → (ys ≡ xs) ⊎ ((e : Exchange) × (ys ≡ xs ++ e ∷ [])) → length ys ≤ length xs + 1
most xs ys (inl e) = let l = ap (λ (l : List Exchange). length l) e in omega (arith, l)
most xs ys (inr p) = let l = ap (λ (l : List Exchange). length l) p.1 in let k = length-append xs (p.0 ∷ []) in omega (arith, l, k)

module _ (exec : Device) where
  -- ---- the device's turn

  settled_more : (st : AnswerStage) (m : Answer) (d : List ℕ) → (st ≡ RunDevice) → length (settle_at exec st (record { m = m; device = d; done = [] })).done ≡ 1
  settled_more st m d e = subst (λ (t : AnswerStage). length (settle_at exec t (record { m = m; device = d; done = [] })).done ≡ 1) (sym e) refl

  -- the machine that takes the step, the value that it finds, and what the step leaves
  abbrev pub stepping : PlainState → Answer
  stepping s = started_at s.answer.stage s.answer

  abbrev pub after_step : ℕ → PlainState → Answerer
  after_step v s = answerer_fed exec (record { m = stepping s; device = s.device; done = [] }) v

  abbrev pub answered_with : ℕ → PlainState → PlainState
  answered_with v s = let y : Answerer = after_step v s in record s { words = act (answer_next (stepping s)) s.words; answer = y.m; device = y.device; executed = s.executed ++ map command_by y.done }

  same_answerer : (v : ℕ) (s : PlainState) → answerer_fed exec (record (answerer_of s) { m = stepping s }) v ≡ answerer_of (answered_with v s)
  same_answerer v s = let m : Answer = answer_fed_at (stepping s).stage (stepping s) v in
      ap answerer_stepped (framed exec m.stage m s.device (exchanges_of_commands s.executed)) ∙ ap (λ (l : List Exchange). record { m = (after_step v s).m; device = (after_step v s).device; done = l }) (sym (grown s.executed (after_step v s).done))

  begins_by : AnswerBeginAgrees → (st : AnswerStage) (s : PlainState) (u : Unkept) → s.answer.stage ≡ st → Agree exec s.start s.words (asker_of s u) (answerer_of s) → Agree exec s.start s.words (asker_of s u) (record (answerer_of s) { m = started_at st s.answer })
  begins_by law AnswerRest s u e g = law exec s.start s.words (asker_of s u) (answerer_of s) e g
  begins_by law TakeLine s u e g = g
  begins_by law TakeAckLoad s u e g = g
  begins_by law TakeAckStore s u e g = g
  begins_by law TakeHeader s u e g = g
  begins_by law (TakeBlock j) s u e g = g
  begins_by law RunDevice s u e g = g
  begins_by law (ReplyBlock j) s u e g = g
  begins_by law ReplyError s u e g = g
  begins_by law ReplyHeader s u e g = g
  begins_by law ReplyUpdateLoad s u e g = g
  begins_by law ReplyUpdateStore s u e g = g
  begins_by law ReplyMarkLoad s u e g = g
  begins_by law ReplyMarkStore s u e g = g
  begins_by law CloseBellLoad s u e g = g
  begins_by law CloseBellStore s u e g = g
  begins_by law CloseLine s u e g = g

  module _ (is_state : List ℕ → Type 0) (room_of : List ℕ → ℕ) where
    pub answered : AnswerBeginAgrees → AnswerStepAgrees exec is_state room_of → (s : PlainState) (v : ℕ) → v ≡ found (answer_next (stepping s)) s.words
        → v < 2 ^ 64 → (k : Stands exec is_state room_of s)
        → Agree exec s.start (act (answer_next (stepping s)) s.words) (asker_of s k.unkept) (answerer_of (answered_with v s))
    answered start step s v e small k = subst (λ (y : Answerer). Agree exec s.start (act (answer_next (stepping s)) s.words) (asker_of s k.unkept) y) (same_answerer v s)
        (step s.start s.words (asker_of s k.unkept) (record (answerer_of s) { m = stepping s }) v k.start k.room (begins_by start s.answer.stage s k.unkept refl k.agree) (subst (λ (n : ℕ). Finds (answer_next (stepping s)) s.words n) (sym e) (finds_found (answer_next (stepping s)) s.words)) small)

    pub fed_wiring : (s : PlainState) (v : ℕ) (u : Unkept) (ws : List ℕ) → Agree exec s.start ws (asker_of s u) (answerer_of (answered_with v s))
        → (answer_fed (stepping s) v).wiring ≡ s.ask.wiring
    fed_wiring s v u ws g = let m : Answer = answer_fed_at (stepping s).stage (stepping s) v in sym (settled_wired exec m.stage (record { m = m; device = s.device; done = [] })) ∙ g.1.2.same

    longer : (s : PlainState) (v : ℕ) → length (exchanges_of_commands (answered_with v s).executed) ≡ length s.executed + length (after_step v s).done
    longer s v = let l = length-map (answered_with v s).executed exchange_of_command in let k = length-append s.executed (map command_by (after_step v s).done) in let n = length-map (after_step v s).done command_by in omega (arith, l, k, n)

    -- where a command is executed, it is the one in flight, and the memory for it is there
    pub settles : HistoriesAgree → (s : PlainState) (v : ℕ) (u : Unkept) (ws : List ℕ) (st : AnswerStage) (ready : Bool)
        → Agree exec s.start s.words (asker_of s u) (answerer_of s) → Agree exec s.start ws (asker_of s u) (answerer_of (answered_with v s))
        → (carried s.ask ≡ true → length s.executed ≡ length s.calls.records → ready ≡ true) → (answer_fed (stepping s) v).stage ≡ st → SettlesIf st ready
    settles law s v u ws RunDevice ready g g' h e = let x : Asker = asker_of s u in let y : Answerer = answerer_of s in let z : Answerer = answerer_of (answered_with v s) in let m : Answer = answer_fed_at (stepping s).stage (stepping s) v in
        let one : length (after_step v s).done ≡ 1 = settled_more m.stage m s.device e in
        let a = least x.done y.done (law exec s.start s.words x y g).0 in let b = most x.done z.done (law exec s.start ws x z g').0 in let l = longer s v in
        let n = length-map s.executed exchange_of_command in
        let other : length z.done ≡ length x.done → ⊥ = λ q. omega (arith, one, a, b, l, n, q) in
        let equal : length s.executed ≡ length x.done = omega (arith, one, a, b, l, n) in
        h (carried_if s.ask.stage s.ask (turn z.m) x z g'.0 g'.1.2.ask_ok.flies g'.1.2.fits other) (equal ∙ length-map s.calls.records exchange_of_record)
    settles law s v u ws AnswerRest ready g g' h e = tt
    settles law s v u ws TakeLine ready g g' h e = tt
    settles law s v u ws TakeAckLoad ready g g' h e = tt
    settles law s v u ws TakeAckStore ready g g' h e = tt
    settles law s v u ws TakeHeader ready g g' h e = tt
    settles law s v u ws (TakeBlock j) ready g g' h e = tt
    settles law s v u ws (ReplyBlock j) ready g g' h e = tt
    settles law s v u ws ReplyError ready g g' h e = tt
    settles law s v u ws ReplyHeader ready g g' h e = tt
    settles law s v u ws ReplyUpdateLoad ready g g' h e = tt
    settles law s v u ws ReplyUpdateStore ready g g' h e = tt
    settles law s v u ws ReplyMarkLoad ready g g' h e = tt
    settles law s v u ws ReplyMarkStore ready g g' h e = tt
    settles law s v u ws CloseBellLoad ready g g' h e = tt
    settles law s v u ws CloseBellStore ready g g' h e = tt
    settles law s v u ws CloseLine ready g g' h e = tt

    ready_on : HistoriesAgree → (s : PlainState) (v : ℕ) (u : Unkept) (ws : List ℕ) (st : AnswerStage) (ready : Bool)
        → Agree exec s.start s.words (asker_of s u) (answerer_of s)
        → (carried s.ask ≡ true → length s.executed ≡ length s.calls.records → ready ≡ true) → (answer_fed (stepping s) v).stage ≡ st → carried s.ask ≡ true
        → length (answered_with v s).executed ≡ length s.calls.records → ready_after st ready ≡ true
    ready_on law s v u ws RunDevice ready g h e q n = let x : Asker = asker_of s u in let y : Answerer = answerer_of s in let m : Answer = answer_fed_at (stepping s).stage (stepping s) v in
        let one : length (after_step v s).done ≡ 1 = settled_more m.stage m s.device e in
        let a = least x.done y.done (law exec s.start s.words x y g).0 in let l = longer s v in let k = length-map s.executed exchange_of_command in let j = length-map (answered_with v s).executed exchange_of_command in let i = length-map s.calls.records exchange_of_record in
        absurd (omega (arith, one, a, l, k, j, i, n))
    ready_on law s v u ws st ready g h e q n = let x : Asker = asker_of s u in let y : Answerer = answerer_of s in
        let a = least x.done y.done (law exec s.start s.words x y g).0 in let l = longer s v in let k = length-map s.executed exchange_of_command in let j = length-map (answered_with v s).executed exchange_of_command in let i = length-map s.calls.records exchange_of_record in
        h q (omega (arith, a, l, k, j, i, n))

    -- the channel after the step
    pub answer_holds : AnswerBeginAgrees → AnswerStepAgrees exec is_state room_of → HistoriesAgree → (s : PlainState) (v : ℕ) (ready : Bool) (room : ℕ)
        → v ≡ found (answer_next (stepping s)) s.words → v < 2 ^ 64 → Holds exec is_state room_of s ready room
        → Holds exec is_state room_of (answered_with v s) (ready_after (answer_fed (stepping s) v).stage ready) room
    answer_holds start step law s v ready room e small h = let k = h.0 in (
      record {
        unkept = k.unkept;
        agree = answered start step s v e small k;
        long = long_act (answer_next (stepping s)) s.words ∙ k.long;
        start = k.start;
        room = k.room;
        carries = k.carries;
        runs = k.runs;
        looks = k.looks;
        own = k.own;
      },
      record { fits = h.1.fits; taken = λ q n. ready_on law s v k.unkept s.words (answer_fed (stepping s) v).stage ready k.agree h.1.taken refl q n },
    )

    -- ---- in the words of the code

    found_by : (s : PlainState) (b : Answer) (t : Action) (v : ℕ) → b ≡ stepping s → t ≡ answer_next b → v ≡ found t s.words
        → v ≡ found (answer_next (stepping s)) s.words
    found_by s b t v eb et ev = ev ∙ ap (λ (t : Action). found t s.words) (et ∙ ap answer_next eb)

    fed_by : (s : PlainState) (b f : Answer) (v : ℕ) → b ≡ stepping s → f ≡ answer_fed b v → f ≡ answer_fed (stepping s) v
    fed_by s b f v eb ef = ef ∙ ap (λ (b : Answer). answer_fed b v) eb

    pub settle_ready : AnswerBeginAgrees → AnswerStepAgrees exec is_state room_of → HistoriesAgree
        → (s : PlainState) (ready : Bool) (room : ℕ) (b f : Answer) (t : Action) (v : ℕ) → b ≡ stepping s → t ≡ answer_next b → v ≡ found t s.words
        → v < 2 ^ 64 → f ≡ answer_fed b v → Holds exec is_state room_of s ready room → SettlesIf f.stage ready
    settle_ready start step law s ready room b f t v eb et ev small ef h = let k = h.0 in
        settles law s v k.unkept (act (answer_next (stepping s)) s.words) f.stage ready k.agree (answered start step s v (found_by s b t v eb et ev) small k) h.1.taken (sym (ap (λ (a : Answer). a.stage) (fed_by s b f v eb ef)))

    pub settle_wiring : AnswerBeginAgrees → AnswerStepAgrees exec is_state room_of
        → (s : PlainState) (ready : Bool) (room : ℕ) (b f : Answer) (t : Action) (v : ℕ) → b ≡ stepping s → t ≡ answer_next b → v ≡ found t s.words
        → v < 2 ^ 64 → f ≡ answer_fed b v → Holds exec is_state room_of s ready room → f.wiring ≡ s.ask.wiring
    settle_wiring start step s ready room b f t v eb et ev small ef h = let k = h.0 in
        ap (λ (a : Answer). a.wiring) (fed_by s b f v eb ef) ∙ fed_wiring s v k.unkept (act (answer_next (stepping s)) s.words) (answered start step s v (found_by s b t v eb et ev) small k)

    pub device_room : DeviceStays exec is_state room_of → (s : PlainState) (ready : Bool) (room : ℕ) → Holds exec is_state room_of s ready room
        → room_of s.device ≡ s.ask.wiring.room
    device_room law s ready room h = let k = h.0 in (law s.start s.words (asker_of s k.unkept) (answerer_of s) k.start k.room k.agree).1

    pub same_settle : (s : PlainState) (f : Answer) (v : ℕ) → f ≡ answer_fed (stepping s) v → settle exec (record { m = f; device = s.device; done = [] }) ≡ after_step v s
    same_settle s f v e = let m : Answer = answer_fed_at (stepping s).stage (stepping s) v in ap (λ (a : Answer). settle exec (record { m = a; device = s.device; done = [] })) e ∙ counted exec m.stage (record { m = m; device = s.device; done = [] })

    pub settled_holds : AnswerBeginAgrees → AnswerStepAgrees exec is_state room_of → HistoriesAgree
        → (s : PlainState) (reg reg' : Executions) (b f f' : Answer) (d' ws : List ℕ) (t : Action) (v : ℕ) → b ≡ stepping s → t ≡ answer_next b
        → v ≡ found t s.words → v < 2 ^ 64 → f ≡ answer_fed b v → ws ≡ act t s.words → s.executed ≡ reg.commands
        → IsSettled (settle exec (record { m = f; device = s.device; done = [] })) f.stage reg f' d' reg' → Holds exec is_state room_of s reg.ready reg.room
        → Holds exec is_state room_of (record s { words = ws; answer = f'; device = d'; executed = reg'.commands }) reg'.ready reg'.room
    settled_holds start step law s reg reg' b f f' d' ws t v eb et ev small ef ew ex is h = let e = fed_by s b f v eb ef in let y : Answerer = after_step v s in let q = same_settle s f v e in
        let commands : reg'.commands ≡ s.executed ++ map command_by y.done = ap (λ (r : Executions). r.commands) is.executed ∙ ap (λ (z : List Command × List Exchange). z.0 ++ map command_by z.1) (λ i. (sym ex i, (q i).done)) in
        let ready : reg'.ready ≡ ready_after (answer_fed (stepping s) v).stage reg.ready = ap (λ (r : Executions). r.ready) is.executed ∙ ap (λ (a : Answer). ready_after a.stage reg.ready) e in
        let words : ws ≡ act (answer_next (stepping s)) s.words = ew ∙ ap (λ (t : Action). act t s.words) (et ∙ ap answer_next eb) in
        subst (λ (z : (List ℕ × Answer × List ℕ × List Command) × (Bool × ℕ)). Holds exec is_state room_of (record s { words = z.0.0; answer = z.0.1; device = z.0.2; executed = z.0.3 }) z.1.0 z.1.1)
        (λ i. ((sym words i, sym (is.answer ∙ ap (λ (y : Answerer). y.m) q) i, sym (is.device ∙ ap (λ (y : Answerer). y.device) q) i, sym commands i), (sym ready i, sym (ap (λ (r : Executions). r.room) is.executed) i)))
        (answer_holds start step law s v reg.ready reg.room (found_by s b t v eb et ev) small h)
