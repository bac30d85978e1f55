-- What a pick posts: a command is posted with the step that ends a post, and the words hold it then.
use Rattle.std.proofs.Common.{◌≡◌, ℕ, ◌+◌, ◌%◌, Bool, not, true, false, nat_eq, List, [], ◌∷◌, ◌++◌, length, drop, set, refl, sym, ap, ◌∙◌, subst}
use Rattle.std.specs.Prelude.{Option, Some, None, Result, Ok, Err, IfOk, OnErr}
use Rattle.pcc_io.specs.declared.items.NoMemory.{NoMemory}
use Rattle.std.specs.List.{slice_get}
use Rattle.std.proofs.lemmas.List.{append-nil, map-append}
use Rattle.pcc_history.specs.Devices.{Device}
use Rattle.shmem_header.specs.Spelling.{bytes_of}
use Rattle.pcc_journal.specs.Records.{exchange_of_record, exchanges_of, times_of}
use Rattle.pcc_journal.specs.declared.record.Record.{Record}
use Rattle.pcc_steps.specs.declared.wiring.Wiring.{Wiring}
use Rattle.pcc_steps.specs.declared.wiring.Style.{Style}
use Rattle.pcc_steps.specs.declared.wiring.Style.TheVariants.{Headed, Joined3, Separate3, Joined4, Separate4, Reduced5}
use Rattle.pcc_steps.specs.declared.ask.AskStage.{AskStage}
use Rattle.pcc_steps.specs.declared.ask.AskStage.TheVariants.{AskRest, PostLine, LookWord, LookBlock, LookLine, LookLineStore}
use Rattle.pcc_steps.specs.declared.ask.AskOutcome.{AskOutcome}
use Rattle.pcc_steps.specs.declared.ask.AskOutcome.TheVariants.{Posted, Clear, Drained}
use Rattle.pcc_steps.specs.declared.answer.AnswerStage.TheVariants.{TakeBlock}
use Rattle.pcc_steps.specs.declared.answer.AnswerOutcome.{AnswerOutcome}
use Rattle.pcc_steps.specs.declared.answer.AnswerOutcome.TheVariants.{Idle, Served}
use Rattle.pcc_steps.specs.Kinds.{is_responder}
use Rattle.pcc_steps.specs.Wires.{style_of, heads_of, code_by, sees_done, acknowledges}
use Rattle.pcc_steps.specs.Asking.{Ask, Flies, ask_budgeted, ask_fed, ask_fed_at, ask_looking, ask_next, ask_next_at, ask_told, ask_told_at, end_told, line_told, look_told, read_told, has_more}
use Rattle.pcc_steps.specs.Answering.{Answer, answer_next, answer_told}
use Rattle.pcc_steps.specs.Agree.{act, Agreed, Answerer, Asker, Core, Fits, HasAskedBy, HasHeader, Marked, Others, closed, found, flying, is_pending_at, listed, pose_at, trail, turn}
use Rattle.pcc_steps.specs.Carrying.{carried, carried_at, is_rest}
use Rattle.pcc_steps.proofs.AskFeeds.{Fed, fed, stepped, rest_is}
use Rattle.pcc_steps.proofs.Bits.{code_known}
use Rattle.pcc_steps.proofs.Spaces.{bytes_again}
use Rattle.pcc_steps.proofs.Trails.{sent_carries}
use Rattle.channel_core.specs.Sendings.{given_up_after, is_given_up}
use Rattle.channel_core.specs.Refusals.{refusal_of as call_refusal, soon_of}
use Rattle.channel_core.specs.declared.answers.CallRefusal.{CallRefusal}
use Rattle.channel_core.specs.declared.answers.CallRefusal.TheVariants as refusal
use Rattle.channel_core.specs.declared.sent.Sent.{Sent}
use Rattle.channel_plain.specs.declared.trace.Asked.{Asked}
use Rattle.channel_plain.specs.declared.trace.Side.{Side}
use Rattle.channel_plain.specs.declared.trace.Side.TheVariants.{System, Platform}
use Rattle.channel_plain.specs.declared.trace.TraceLine.{TraceLine}
use Rattle.channel_plain.specs.declared.trace.TraceEnd.{TraceEnd}
use Rattle.channel_plain.specs.declared.trace.TraceEnd.TheVariants as end
use Rattle.channel_plain.specs.Picks.{CallsState, PlainState, Picked, answer_end, ask_ended, ask_picked_at, ask_stepped, asks_by, begins, call_begun, clear_ended, drained, drained_calls, drained_end, from_rest, given_up_end, next_reading, pending_by, picked, picked_by, post_or_soon, posting, read_once, recorded, refusal_of, refused_end, served, soon_end, started_at}
use Rattle.channel_plain.specs.Standing.{IsCarried, Stands, answerer_of, asker_of}
use Rattle.channel_plain.specs.Weaving.{Clocked, PicksOnce}
use Rattle.channel_plain.proofs.AskPicks.{running}
use Rattle.channel_plain.proofs.PickKeeps.{picked_kept}
use Rattle.channel_plain.proofs.PostStages.{begun_flies, begun_runs, begun_told, posted_carries}
use Rattle.pcc_notify.specs.declared.notice.Notice.{Notice}
use Rattle.pcc_notify.specs.Notices.{command_at, flying_of, handled_of, notice_of, posted_of, posts_by}

-- ---- the words at the end of a post

header_has : (s : Style) (w : Wiring) (code word : ℕ) → Marked s w code closed word → HasHeader (TakeBlock 0) s w code word
header_has Headed w code word h = h
header_has Joined3 w code word h = tt
header_has Separate3 w code word h = tt
header_has Joined4 w code word h = tt
header_has Separate4 w code word h = tt
header_has Reduced5 w code word h = tt

-- the whole block is sent, and the line is about to be raised
raised : (exec : Device) (start : List ℕ) (x : Asker) (y : Answerer) (c : Core) (o : Others) → Agreed exec start x y c → x.m.stage ≡ PostLine
    → command_at x.m.wiring (set (listed c o) 2 1) ≡ record { code = x.m.code; input = x.m.input }
raised exec start x y c o g at = let w : Wiring = x.m.wiring in let s : Style = style_of w in
    let fits = subst (λ (st : AskStage). Fits (pose_at st x.m) (turn y.m) x y c) at g.fits in
    let row = fits.1 in
    let asked : HasAskedBy true (trail x) = subst (λ (st : AskStage). HasAskedBy (is_pending_at st x.m.in_flight) (trail x)) at g.asked in
    let code : code_by s c.completion c.block ≡ x.m.code = ap (code_by s c.completion) row.block
    ∙ code_known s w x.m.code c.completion x.m.sent g.ask_ok.id g.ask_ok.code (header_has s w x.m.code c.completion row.completion) (sent_carries x g.ask_ok asked) in
    let whole : length x.m.input % 8 ≡ 0 = ap (λ (n : ℕ). n % 8) g.ask_ok.sized.input ∙ g.ask_ok.wired.whole in
    let input : bytes_of (drop (heads_of s) c.block) ≡ x.m.input = ap (λ (b : List ℕ). bytes_of (drop (heads_of s) b)) row.block
    ∙ (ap bytes_of g.sent.words ∙ bytes_again x.m.input g.sent.fits whole) in
    ap (λ (z : ℕ × List ℕ). record { code = z.0; input = z.1 }) (λ i. (code i, input i))

looked : (b : Bool) → look_told b ≡ Some Posted → ⊥
looked true e = cc
looked false e = cc

told_posted : (st : AskStage) (a : Ask) (v : ℕ) → ask_told_at st a v ≡ Some Posted → st ≡ PostLine
told_posted PostLine a v e = refl
told_posted LookWord a v e = absurd (looked (sees_done a.wiring v) e)
told_posted (LookBlock j) a v e = absurd (read (has_more j a.wiring) a.wiring.notify e)
  where
    read : (b n : Bool) → read_told b n a.error ≡ Some Posted → ⊥
    read true n e = cc
    read false true e = cc
    read false false e = cc
told_posted LookLine a v e = absurd (lined (nat_eq v 0) e)
  where
    lined : (b : Bool) → line_told b a.error ≡ Some Posted → ⊥
    lined true e = cc
    lined false e = cc
told_posted LookLineStore a v e = absurd (ended (acknowledges a.wiring) e)
  where
    ended : (b : Bool) → end_told b a.error ≡ Some Posted → ⊥
    ended true e = cc
    ended false e = cc
told_posted _ a v e = absurd (cc e)

-- ---- what a step of a run posts

abbrev notices_by : List Record → Bool → Option Sent → List Notice
notices_by rs f sent = handled_of (exchanges_of rs) ++ flying_of (pending_by f sent)

late_flying : (f : Bool) (n : ℕ) (sent : Option Sent) → flying_of (pending_by f (given_up_after n sent)) ≡ flying_of (pending_by f sent)
late_flying true n None = refl
late_flying true n (Some c) = refl
late_flying false n sent = refl

-- a line that ends a run without a post
posts_none : (last : Bool) (n : ℕ) (c : CallsState) (w : Wiring) (ws : List ℕ) → posts_by (clear_ended last n c).end w ws ≡ []
posts_none true n c w ws = gave (is_given_up c.sent)
  where
    gave : (b : Bool) → posts_by (given_up_end b n) w ws ≡ []
    gave true = refl
    gave false = refl
posts_none false n c w ws = refl

drains_none : (late e : Bool) (w : Wiring) (ws : List ℕ) → posts_by (drained_end late e) w ws ≡ []
drains_none true e w ws = refl
drains_none false e w ws = refl

clear_same : (last : Bool) (n : ℕ) (f : Bool) (c : CallsState)
    → notices_by (clear_ended last n c).calls.records f (clear_ended last n c).calls.sent ≡ notices_by c.records f c.sent
clear_same true n f c = ap (λ (l : List Notice). handled_of (exchanges_of c.records) ++ l) (late_flying f n c.sent)
clear_same false n f c = refl

drained_same : (late : Bool) (c : CallsState) → (drained_calls late c).records ≡ c.records
drained_same true c = refl
drained_same false c = refl

recorded_notices : (rs : List Record) (sent : Option Sent) (e : Bool) (output : List ℕ) (r : ℕ) (code : ℕ) (input : List ℕ) → IsCarried true sent code input
    → handled_of (exchanges_of (rs ++ recorded sent e output r)) ≡ handled_of (exchanges_of rs) ++ flying_of (pending_by true sent)
recorded_notices rs None e output r code input h = absurd h
recorded_notices rs (Some c) e output r code input h =
    ap handled_of (map-append exchange_of_record rs (recorded (Some c) e output r)) ∙ map-append notice_of (exchanges_of rs) (exchanges_of (recorded (Some c) e output r))

drops_none : (l : List Notice) (m : List Notice) → m ≡ [] → l ≡ l ++ m
drops_none l m e = sym (ap (λ (z : List Notice). l ++ z) e ∙ append-nil l)

posts_sent : (rs : List Record) (sent : Option Sent) (code : ℕ) (input : List ℕ) (n : Notice) → IsCarried true sent code input
    → n ≡ record { code = code; input = input }
    → notices_by rs true sent ≡ notices_by rs false sent ++ n ∷ []
posts_sent rs None code input n h e = absurd h
posts_sent rs (Some c) code input n h e =
    let same : record { code = c.command.code; input = c.command.input } ≡ n = ap (λ (z : ℕ × List ℕ). record { code = z.0; input = z.1 }) (λ i. (h.0 i, h.1 i)) ∙ sym e in
    ap (λ (m : Notice). handled_of (exchanges_of rs) ++ m ∷ []) same ∙ ap (λ (l : List Notice). l ++ n ∷ []) (sym (append-nil (handled_of (exchanges_of rs))))

told_posts : (told : Option AskOutcome) (st : AskStage) (a b : Ask) (r : ℕ) (c : CallsState) (w : Wiring) (ws : List ℕ) → Fed st a b told
    → IsCarried (carried_at st a.in_flight) c.sent a.code a.input
    → (told ≡ Some Posted → command_at w ws ≡ record { code = a.code; input = a.input })
    → notices_by (ask_ended told r b c).calls.records b.in_flight (ask_ended told r b c).calls.sent
    ≡ notices_by c.records a.in_flight c.sent ++ posts_by (ask_ended told r b c).end w ws
told_posts None st a b r c w ws f h post = ap (λ (k : Bool). notices_by c.records k c.sent) f.flies ∙ drops_none (notices_by c.records a.in_flight c.sent) [] refl
told_posts (Some Posted) st a b r c w ws f h post =
    ap (λ (k : Bool). notices_by c.records k c.sent) f.flies
    ∙ (posts_sent c.records c.sent a.code a.input (command_at w ws) (subst (λ (k : Bool). IsCarried k c.sent a.code a.input) f.sure.0 h) (post refl)
    ∙ ap (λ (k : Bool). notices_by c.records k c.sent ++ command_at w ws ∷ []) (sym f.sure.1))
told_posts (Some Clear) st a b r c w ws f h post =
    clear_same (nat_eq b.looks b.budget) b.looks b.in_flight c
    ∙ (ap (λ (k : Bool). notices_by c.records k c.sent) f.flies
    ∙ drops_none (notices_by c.records a.in_flight c.sent) (posts_by (clear_ended (nat_eq b.looks b.budget) b.looks c).end w ws) (posts_none (nat_eq b.looks b.budget) b.looks c w ws))
told_posts (Some (Drained e)) st a b r c w ws f h post =
    let l : Bool = is_given_up c.sent in let d : CallsState = drained e b.space (next_reading r c) (read_once c) in
    let carries : IsCarried true c.sent a.code a.input = subst (λ (k : Bool). IsCarried k c.sent a.code a.input) f.sure.0 h in
    ap (λ (k : Bool). notices_by (drained_calls l d).records k (drained_calls l d).sent) f.flies
    ∙ (append-nil (handled_of (exchanges_of (drained_calls l d).records))
    ∙ (ap (λ (x : List Record). handled_of (exchanges_of x)) (drained_same l d)
    ∙ (recorded_notices c.records c.sent e b.space r a.code a.input carries
    ∙ (ap (λ (k : Bool). notices_by c.records k c.sent) (sym f.sure.1)
    ∙ drops_none (notices_by c.records a.in_flight c.sent) (posts_by (drained_end l e) w ws) (drains_none l e w ws)))))

-- ---- what a pick posts

abbrev Posts : PlainState → Picked → Type 0
Posts s p = posted_of p.state ≡ posted_of s ++ posts_by p.end s.ask.wiring p.state.words

step_posts : (s : PlainState) (r : ℕ) → is_rest s.ask.stage ≡ false → Flies s.ask.stage s.ask.in_flight
    → IsCarried (carried s.ask) s.calls.sent s.ask.code s.ask.input
    → (ask_told s.ask (found (ask_next s.ask) s.words) ≡ Some Posted → command_at s.ask.wiring (act (ask_next s.ask) s.words) ≡ record { code = s.ask.code; input = s.ask.input })
    → Posts s (ask_stepped r s)
step_posts s r runs flies carries post = let a : Ask = s.ask in let v : ℕ = found (ask_next a) s.words in let z : Ask = ask_fed_at a.stage a v in let b : Ask = ask_fed a v in
    told_posts (ask_told a v) a.stage a b r s.calls a.wiring (act (ask_next a) s.words) (stepped a.stage a z (ask_told a v) b.steps (fed a.stage a v runs flies)) carries post

-- an end that posts nothing, where there is one
abbrev PostsNone : Option TraceEnd → Type 0
PostsNone None = Unit {0}
PostsNone (Some e) = (w : Wiring) (ws : List ℕ) → posts_by e w ws ≡ []

refused_none : (o : Option CallRefusal) → PostsNone (refused_end o)
refused_none None = tt
refused_none (Some (refusal.BadCode code)) = λ w ws. refl
refused_none (Some (refusal.TooLong len room)) = λ w ws. refl
refused_none (Some refusal.JournalFull) = λ w ws. refl
refused_none (Some refusal.NoMemory) = tt
refused_none (Some (refusal.StillPending looks)) = λ w ws. refl
refused_none (Some (refusal.TooSoon now earliest)) = λ w ws. refl
refused_none (Some (refusal.TimedOut looks)) = λ w ws. refl

free_same : (f : Bool) (a b : Option Sent) → f ≡ false → flying_of (pending_by f a) ≡ flying_of (pending_by f b)
free_same true a b e = absurd (cc e)
free_same false a b e = refl

soon_posts : (o : Option TraceEnd) (t : PlainState) (r : ℕ) (c : Asked) → t.ask.in_flight ≡ false → PostsNone o → Posts t (post_or_soon o c r t)
soon_posts (Some e) t r c free none = drops_none (posted_of t) (posts_by e t.ask.wiring t.words) (none t.ask.wiring t.words)
soon_posts None t r c free none = let u : PlainState = posting c r t in let p : Picked = ask_stepped r u in
    step_posts u r (begun_runs t.ask c.code c.bytes) (begun_flies t.ask c.code c.bytes free) (posted_carries c r t)
    (λ e. let q : None ≡ Some Posted = sym (begun_told t.ask c.code c.bytes (found (ask_next u.ask) t.words)) ∙ e in absurd (cc q))
    ∙ ap (λ (l : List Notice). (handled_of (exchanges_of t.calls.records) ++ l) ++ posts_by p.end t.ask.wiring p.state.words) (free_same t.ask.in_flight u.calls.sent t.calls.sent free)

served_posts : (f : Bool) (t : PlainState) (r : ℕ) (c : Asked) → t.ask.in_flight ≡ f → IsCarried t.ask.in_flight t.calls.sent t.ask.code t.ask.input
    → Posts t (served f c r t)
served_posts true t r c flies h = let u : PlainState = record t { ask = ask_looking t.ask } in
    step_posts u r refl flies h (λ e. absurd (looked (sees_done t.ask.wiring (found (ask_next u.ask) t.words)) e))
served_posts false t r c free h = soon_posts (soon_end r t.calls) t r c free (refused_none (soon_of t.calls.limits (times_of t.calls.records) r))

begins_posts : (o : Option TraceEnd) (s : PlainState) (r : ℕ) (c : Asked) → PostsNone o → IsCarried s.ask.in_flight s.calls.sent s.ask.code s.ask.input
    → Posts s (begins o c r s)
begins_posts (Some e) s r c none h = drops_none (posted_of s) (posts_by e s.ask.wiring s.words) (none s.ask.wiring s.words)
begins_posts None s r c none h = served_posts s.ask.in_flight (record s { ask = ask_budgeted s.ask c.polls; calls = call_begun s.calls }) r c refl h

rest_posts : (b : Bool) (o : Option Asked) (s : PlainState) (r : ℕ) → IsCarried s.ask.in_flight s.calls.sent s.ask.code s.ask.input → Posts s (from_rest b o r s)
rest_posts true None s r h = drops_none (posted_of s) [] refl
rest_posts false None s r h = drops_none (posted_of s) [] refl
rest_posts true (Some c) s r h = served_posts s.ask.in_flight s r c refl h
rest_posts false (Some c) s r h = let w : Wiring = s.ask.wiring in
    begins_posts (refusal_of w c (length s.calls.records) (flying s.ask.in_flight)) s r c
    (refused_none (call_refusal w.kind w.room c.code (length c.bytes) (length s.calls.records + flying s.ask.in_flight))) h

answer_none : (o : Option AnswerOutcome) (w : Wiring) (ws : List ℕ) → posts_by (answer_end o) w ws ≡ []
answer_none None w ws = refl
answer_none (Some Served) w ws = refl
answer_none (Some Idle) w ws = refl

not_both : (b : Bool) → b ≡ true → b ≡ false → ⊥
not_both b t f = cc

module _ (exec : Device) (is_state : List ℕ → Type 0) (room_of : List ℕ → ℕ) where
  ask_posts : (b : Bool) (calls : List Asked) (s : PlainState) (r : ℕ) → is_rest s.ask.stage ≡ b → Stands exec is_state room_of s
      → Posts s (ask_picked_at s.ask.stage calls r s)
  ask_posts true calls s r e k =
      let at : s.ask.stage ≡ AskRest = rest_is s.ask.stage e in
      let carries : IsCarried s.ask.in_flight s.calls.sent s.ask.code s.ask.input = subst (λ (st : AskStage). IsCarried (carried_at st s.ask.in_flight) s.calls.sent s.ask.code s.ask.input) at k.carries in
      subst (λ (p : Picked). Posts s p) (sym (ap (λ (st : AskStage). ask_picked_at st calls r s) at)) (rest_posts s.calls.begun (slice_get calls s.calls.ended) s r carries)
  ask_posts false calls s r e k = let a : Ask = s.ask in let w : Wiring = a.wiring in
      subst (λ (p : Picked). Posts s p) (sym (running a.stage (λ q. not_both (is_rest a.stage) (ap is_rest q) e) calls r s))
      (step_posts s r e k.agree.1.2.ask_ok.flies k.carries (λ told. let at : a.stage ≡ PostLine = told_posted a.stage a (found (ask_next a) s.words) told in
      ap (λ (st : AskStage). command_at w (act (ask_next_at st a) s.words)) at
      ∙ (ap (λ (ws : List ℕ). command_at w (set ws 2 1)) k.agree.1.1
      ∙ raised exec s.start (asker_of s k.unkept) (answerer_of s) k.agree.0 k.agree.1.0 k.agree.1.2 at)))

  picked_posts : (b : Bool) (calls : List Asked) (s : PlainState) (r : ℕ) → Stands exec is_state room_of s → Posts s (picked_by exec b calls r s)
  picked_posts true calls s r k = ask_posts (is_rest s.ask.stage) calls s r refl k
  picked_posts false calls s r k = let b : Answer = started_at s.answer.stage s.answer in let v : ℕ = found (answer_next b) s.words in
      drops_none (posted_of s) (posts_by (answer_end (answer_told b v)) s.ask.wiring (act (answer_next b) s.words)) (answer_none (answer_told b v) s.ask.wiring (act (answer_next b) s.words))

  pub pick_posts : (calls : List Asked) (side : Side) (s : PlainState) (r : ℕ) → Stands exec is_state room_of s
      → posted_of (picked exec calls side r s).state ≡ posted_of s ++ posts_by (picked exec calls side r s).end s.ask.wiring (picked exec calls side r s).state.words
  pick_posts calls side s r k = picked_posts (asks_by s.ask.wiring.kind side) calls s r k

  pub pick_stays : (calls : List Asked) (side : Side) (s : PlainState) (r : ℕ) → Stands exec is_state room_of s
      → (picked exec calls side r s).state.ask.wiring ≡ s.ask.wiring
  pick_stays calls side s r k = (picked_kept exec is_state room_of (asks_by s.ask.wiring.kind side) calls s r k).wiring

  module _ {K : Type 0} (taken : K → ℕ) (tells : K → ℕ → Option ℕ) (calls : List Asked) (side : Side) where
    pub once_posts : (s s' : PlainState) (k k' : K) (line : TraceLine) → PicksOnce taken tells exec calls side s k s' k' line → Stands exec is_state room_of s
        → posted_of s' ≡ posted_of s ++ posts_by line.end s.ask.wiring s'.words
    once_posts s s' k k' line p h =
        subst (λ (z : PlainState × TraceLine). posted_of z.0 ≡ posted_of s ++ posts_by z.1.end s.ask.wiring z.0.words) (λ i. (sym p.2 i, sym p.3 i)) (pick_posts calls side s p.0 h)

    pub once_stays : (s s' : PlainState) (k k' : K) (line : TraceLine) → PicksOnce taken tells exec calls side s k s' k' line → Stands exec is_state room_of s
        → is_responder s.ask.wiring.kind ≡ true → is_responder s'.ask.wiring.kind ≡ true
    once_stays s s' k k' line p h e =
        ap (λ (z : PlainState). is_responder z.ask.wiring.kind) p.2 ∙ (ap (λ (w : Wiring). is_responder w.kind) (pick_stays calls side s p.0 h) ∙ e)

    -- on type 4 the platform alone posts
    pub once_platform : (s s' : PlainState) (k k' : K) (line : TraceLine) → PicksOnce taken tells exec calls side s k s' k' line
        → is_responder s.ask.wiring.kind ≡ true → line.end ≡ end.Posted → line.side ≡ Platform
    once_platform s s' k k' line p e posts = ap (λ (l : TraceLine). l.side) p.3 ∙ by_side side refl (sym (ap (λ (l : TraceLine). l.end) p.3) ∙ posts)
      where
        answers : (o : Option AnswerOutcome) → answer_end o ≡ end.Posted → ⊥
        answers None q = cc
        answers (Some Served) q = cc
        answers (Some Idle) q = cc

        by_side : (x : Side) → side ≡ x → (picked exec calls side p.0 s).end ≡ end.Posted → side ≡ Platform
        by_side Platform q h = q
        by_side System q h =
            let no_ask : asks_by s.ask.wiring.kind side ≡ false = ap (asks_by s.ask.wiring.kind) q ∙ ap not e in
            absurd (answers _ (subst (λ (b : Bool). (picked_by exec b calls p.0 s).end ≡ end.Posted) no_ask h))

    -- so for a pick that may want memory
    pub result_posts : (result : Result TraceLine NoMemory) (x x' : Clocked K)
        → IfOk result (λ line. PicksOnce taken tells exec calls side x.channel x.clock x'.channel x'.clock line) → Stands exec is_state room_of x.channel
        → IfOk result (λ line. posted_of x'.channel ≡ posted_of x.channel ++ posts_by line.end x.channel.ask.wiring x'.channel.words)
    result_posts (Ok line) x x' p h = once_posts x.channel x'.channel x.clock x'.clock line p h
    result_posts (Err e) x x' p h = tt

    pub result_stays : (result : Result TraceLine NoMemory) (x x' : Clocked K)
        → IfOk result (λ line. PicksOnce taken tells exec calls side x.channel x.clock x'.channel x'.clock line) → OnErr result (x' ≡ x)
        → Stands exec is_state room_of x.channel → is_responder x.channel.ask.wiring.kind ≡ true → is_responder x'.channel.ask.wiring.kind ≡ true
    result_stays (Ok line) x x' p same h e = once_stays x.channel x'.channel x.clock x'.clock line p h e
    result_stays (Err y) x x' p same h e = ap (λ (z : Clocked K). is_responder z.channel.ask.wiring.kind) same ∙ e

    pub result_platform : (result : Result TraceLine NoMemory) (x x' : Clocked K)
        → IfOk result (λ line. PicksOnce taken tells exec calls side x.channel x.clock x'.channel x'.clock line)
        → is_responder x.channel.ask.wiring.kind ≡ true → IfOk result (λ line. line.end ≡ end.Posted → line.side ≡ Platform)
    result_platform (Ok line) x x' p e = once_platform x.channel x'.channel x.clock x'.clock line p e
    result_platform (Err y) x x' p e = tt
