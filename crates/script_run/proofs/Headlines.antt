-- The journal of a run on one channel keeps the headline.
use Rattle.std.proofs.Common.{◌≡◌, ℕ, ◌+◌, Bool, true, false, cond, List, [], ◌∷◌, ◌++◌, refl, sym, ap, ◌∙◌, subst}
use Rattle.std.specs.Prelude.{Some, None, ◌==◌}
use Rattle.std.specs.List.{AllByRecursion}
use Rattle.channel_turns.specs.ChannelRuns.{Answered, Channel, ChannelStart, ChannelState, answer_call, fresh}
use Rattle.channel_turns.specs.Replies.{Reply, Done, BadCode, TooLong, JournalFull, StillPending, TooSoon, TimedOut}
use Rattle.channel_headline.specs.Asked.{Replied}
use Rattle.channel_headline.specs.ChannelLog.{ChannelLine, Called, Waited, Wished}
use Rattle.channel_headline.specs.Runs.{Calls, ChannelRun, ChannelStep, HeadlineOf, Sets, Waits, run_from}
use Rattle.channel_headline.specs.WishCalls.{answer_wish}
use Rattle.channel_headline.proofs.WholeRuns.{headline_of_runs}
use Rattle.cpc_package.specs.declared.binding.Binding.{Binding}
use Rattle.script_run.specs.StepRun.{Ask, Asks, LineAsk, Moves, Nothing, OfCall, OfRead, OfWish, Run, Shown, Turn, answer, call_of, shown_read, step_run}
use Rattle.script_run.specs.Headlines.{AreHeadlines, KeepsHeadline, answered, answered_on, lines_on, own_reply}

-- what an ask does with a channel
abbrev pub step_of : Ask → ChannelStep
step_of (OfCall call) = Calls call
step_of (OfRead r) = Calls (call_of r)
step_of (OfWish w) = Sets w

-- what a line does with the channel that has an ID
abbrev pub step_on : ℕ → LineAsk → List ChannelStep
step_on id (Asks subspace ask) = cond (id == subspace) (step_of ask ∷ []) []
step_on id (Moves n) = Waits n ∷ []
step_on id Nothing = []

abbrev pub steps_on : ℕ → List LineAsk → List ChannelStep
steps_on id [] = []
steps_on id (l ∷ ls) = step_on id l ++ steps_on id ls

-- a run of lines leaves one channel as these steps leave it, with these lines
pub record IsRun (start : ChannelStart) (channels : List Channel) (lines : List ChannelLine) (q : ChannelRun) : Type 0 where
  pub left : channels ≡ record { start = start; now = q.now } ∷ []
  pub same : lines ≡ q.lines

-- these lines, on this channel
abbrev pub Follows : ChannelStart → List LineAsk → ChannelState → Type 0
Follows start ls now = let r = step_run ls (record { start = start; now = now } ∷ []) in IsRun start r.channels (lines_on start.head.id ls r.replies) (run_from start now (steps_on start.head.id ls))

-- the numbers of a read stand for the reply of its command
shown_own : (b : Binding) (r : Reply) → own_reply (shown_read b r) ≡ Replied r
shown_own b (Done false output) = refl
shown_own b (Done true output) = refl
shown_own b (BadCode c) = refl
shown_own b (TooLong l m) = refl
shown_own b JournalFull = refl
shown_own b (StillPending n) = refl
shown_own b (TooSoon n e) = refl
shown_own b (TimedOut n) = refl

-- one ask of this channel
one : (start : ChannelStart) (ls : List LineAsk) (now : ChannelState) (ask : Ask) → Follows start ls (answer start ask now).now
    → let a : Shown = answer start ask now in
    let r = step_run ls (record { start = start; now = a.now } ∷ []) in
    IsRun start r.channels (answered ask (own_reply a.reply) ++ lines_on start.head.id ls r.replies) (run_from start now (step_of ask ∷ steps_on start.head.id ls))
one start ls now (OfCall call) h = let a : Answered = answer_call start call now in record { left = h.left; same = ap (λ (v : List ChannelLine). Called call a.reply ∷ v) h.same }
one start ls now (OfRead r) h = let a : Answered = answer_call start (call_of r) now in
    let q : Run = step_run ls (record { start = start; now = a.now } ∷ []) in record {
      left = h.left;
      same = ap (λ (v : _). answered (OfRead r) v ++ lines_on start.head.id ls q.replies) (shown_own r.binding a.reply) ∙ ap (λ (v : List ChannelLine). Called (call_of r) a.reply ∷ v) h.same;
    }
one start ls now (OfWish w) h = let a = answer_wish start w now in record { left = h.left; same = ap (λ (v : List ChannelLine). Wished w a.reply ∷ v) h.same }

-- an ask of this channel or of another
asked : (start : ChannelStart) (ls : List LineAsk) (now : ChannelState) (ask : Ask) (b : Bool) → Follows start ls (answer start ask now).now → Follows start ls now
    → let a = answer start ask now in
    let c : Channel = record { start = start; now = now } in
    let t : Turn = cond b (record { reply = Some a.reply; channels = record { start = start; now = a.now } ∷ [] }) (record { reply = None; channels = c ∷ [] }) in
    let r = step_run ls t.channels in
    IsRun start r.channels (answered_on b ask t.reply ++ lines_on start.head.id ls r.replies) (run_from start now (cond b (step_of ask ∷ []) [] ++ steps_on start.head.id ls))
asked start ls now ask true h k = one start ls now ask h
asked start ls now ask false h k = record { left = k.left; same = k.same }

pub alone : (start : ChannelStart) (ls : List LineAsk) (now : ChannelState) → Follows start ls now
alone start [] now = record { left = refl; same = refl }
alone start (Asks subspace ask ∷ ls) now = asked start ls now ask (start.head.id == subspace) (alone start ls (answer start ask now).now) (alone start ls now)
alone start (Moves n ∷ ls) now =
    let rest = alone start ls (record now { added = now.added + n }) in record { left = rest.left; same = ap (λ (v : List ChannelLine). Waited n ∷ v) rest.same }
alone start (Nothing ∷ ls) now = let rest = alone start ls now in record { left = rest.left; same = rest.same }

pub run_headlines : (start : ChannelStart) (ls : List LineAsk) → AreHeadlines ls (step_run ls (record { start = start; now = fresh start } ∷ []))
run_headlines start ls =
    let r : Run = step_run ls (record { start = start; now = fresh start } ∷ []) in
    let q : ChannelRun = run_from start (fresh start) (steps_on start.head.id ls) in
    let h = alone start ls (fresh start) in
    let P : List Channel → Type 0 = AllByRecursion (KeepsHeadline ls r.replies) in
    let L : List ChannelLine → Type 0 = λ v. HeadlineOf start v q.now in
    subst P (sym h.left) (subst L (sym h.same) (headline_of_runs start (steps_on start.head.id ls)), tt)
