-- What has become of the commands that were posted, between two picks.
use Rattle.std.proofs.Common.{◌≡◌, ◌⊎◌, inl, inr, ℕ, zero, suc, ◌<◌, Bool, true, false, List, [], ◌∷◌, ◌++◌, length, get_or, refl, sym, ap, ◌∙◌, subst, arith}
use Rattle.std.specs.Prelude.{Option, Some, None, slice_get}
use Rattle.std.proofs.lemmas.List.{append-nil, map-append}
use Rattle.pcc_history.specs.Channel.{Exchange}
use Rattle.pcc_history.specs.Devices.{Device}
use Rattle.pcc_journal.specs.declared.command.Command.{Command}
use Rattle.pcc_journal.specs.declared.record.Pending.{Pending}
use Rattle.pcc_journal.specs.Records.{exchanges_of, exchanges_of_commands}
use Rattle.pcc_steps.specs.declared.wiring.Style.{Style}
use Rattle.pcc_steps.specs.declared.wiring.Style.TheVariants.{Headed, Joined3, Separate3, Joined4, Separate4, Reduced5}
use Rattle.pcc_steps.specs.declared.ask.AskStage.{AskStage}
use Rattle.pcc_steps.specs.declared.ask.AskStage.TheVariants.{AskRest, PostBlock, PostHeader, PostUpdateLoad, PostUpdateStore, PostMarkLoad, PostMarkStore, PostBellLoad, PostBellStore, PostLine, LookWord, LookError, LookBlock, LookLine, LookLineStore, LookAckLoad, LookAckStore}
use Rattle.pcc_steps.specs.Wires.{style_of, block_of}
use Rattle.pcc_steps.specs.Asking.{Flies}
use Rattle.pcc_steps.specs.Agree.{Answerer, Asker, Core, Fits, Turn, Waits, answered, bell_pose, flight, pose_at, quiet, replying, resting, taken, turn}
use Rattle.pcc_steps.specs.Carrying.{carried, carried_at}
use Rattle.channel_core.specs.declared.sent.Sent.{Sent}
use Rattle.channel_plain.specs.Picks.{PlainState, pending_by}
use Rattle.channel_plain.specs.Standing.{IsCarried, Stands, answerer_of, asker_of}
use Rattle.pcc_notify.specs.declared.notice.Notice.{Notice}
use Rattle.pcc_notify.specs.Notices.{AreNotices, flying_of, handled_of, notice_of, posted_of}

-- ---- both histories, by whether a command is in flight

abbrev HaveRun : Bool → Asker → Answerer → Type 0
HaveRun false x y = y.done ≡ x.done
HaveRun true x y = (y.done ≡ x.done) ⊎ ((o : Bool × List ℕ) × (y.done ≡ x.done ++ answered (flight x) o.0 o.1 ∷ []))

waits_run : (t : Turn) (x : Asker) (y : Answerer) (c : Core) → Waits t (flight x) y c → HaveRun true x y
waits_run quiet x y c (inl row) = inl row.done
waits_run quiet x y c (inr done) = inr (done.0, done.1.row.done)
waits_run (taken j) x y c h = inl h.row.done
waits_run (replying j) x y c h = inr (_, h.row.done)

rests_run : (f : Bool) (t : Turn) (x : Asker) (y : Answerer) (c : Core) → Fits (resting f) t x y c → HaveRun f x y
rests_run true t x y c h = waits_run t x y c h
rests_run false t x y c h = h.1.done

rings_run : (s : Style) (n : ℕ) (t : Turn) (x : Asker) (y : Answerer) (c : Core) → Fits (bell_pose s n) t x y c → HaveRun false x y
rings_run Headed n t x y c h = h.1.done
rings_run Joined3 n t x y c h = h.1.done
rings_run Separate3 n t x y c h = h.1.done
rings_run Joined4 n t x y c h = h.1.done
rings_run Separate4 n t x y c h = h.1.done
rings_run Reduced5 n t x y c h = h.1.done

by_flight : (b f : Bool) (x : Asker) (y : Answerer) → f ≡ b → HaveRun b x y → HaveRun f x y
by_flight b f x y e h = subst (λ (z : Bool). HaveRun z x y) (sym e) h

have_run : (st : AskStage) (t : Turn) (x : Asker) (y : Answerer) (c : Core) → Flies st x.m.in_flight → Fits (pose_at st x.m) t x y c
    → HaveRun x.m.in_flight x y
have_run AskRest t x y c f h = rests_run x.m.in_flight t x y c h
have_run (PostBlock j) t x y c f h = by_flight false x.m.in_flight x y f h.1.done
have_run PostHeader t x y c f h = by_flight false x.m.in_flight x y f h.1.done
have_run PostUpdateLoad t x y c f h = by_flight false x.m.in_flight x y f h.1.done
have_run PostUpdateStore t x y c f h = by_flight false x.m.in_flight x y f h.1.done
have_run PostMarkLoad t x y c f h = by_flight false x.m.in_flight x y f h.1.done
have_run PostMarkStore t x y c f h = by_flight false x.m.in_flight x y f h.1.done
have_run PostBellLoad t x y c f h = by_flight false x.m.in_flight x y f (rings_run (style_of x.m.wiring) (block_of x.m.wiring) t x y c h)
have_run PostBellStore t x y c f h = by_flight false x.m.in_flight x y f (rings_run (style_of x.m.wiring) (block_of x.m.wiring) t x y c h)
have_run PostLine t x y c f h = by_flight false x.m.in_flight x y f h.1.done
have_run LookWord t x y c f h = by_flight true x.m.in_flight x y f (waits_run t x y c h)
have_run LookError t x y c f h = by_flight true x.m.in_flight x y f (inr (_, h.1.is.row.done))
have_run (LookBlock j) t x y c f h = by_flight true x.m.in_flight x y f (inr (_, h.1.is.row.done))
have_run LookLine t x y c f h = by_flight true x.m.in_flight x y f (inr (_, h.1.is.row.done))
have_run LookLineStore t x y c f h = by_flight true x.m.in_flight x y f (inr (_, h.1.is.row.done))
have_run LookAckLoad t x y c f h = by_flight true x.m.in_flight x y f (inr (_, h.1.is.row.done))
have_run LookAckStore t x y c f h = by_flight true x.m.in_flight x y f (inr (_, h.1.is.row.done))

flown_carried : (st : AskStage) (f : Bool) → f ≡ true → carried_at st f ≡ true
flown_carried AskRest f e = e
flown_carried (PostBlock j) f e = refl
flown_carried PostHeader f e = refl
flown_carried PostUpdateLoad f e = refl
flown_carried PostUpdateStore f e = refl
flown_carried PostMarkLoad f e = refl
flown_carried PostMarkStore f e = refl
flown_carried PostBellLoad f e = refl
flown_carried PostBellStore f e = refl
flown_carried PostLine f e = refl
flown_carried LookWord f e = e
flown_carried LookError f e = e
flown_carried (LookBlock j) f e = e
flown_carried LookLine f e = e
flown_carried LookLineStore f e = e
flown_carried LookAckLoad f e = e
flown_carried LookAckStore f e = e

-- ---- the notices

handled_more : (es : List Exchange) (e : Exchange) → handled_of (es ++ e ∷ []) ≡ handled_of es ++ notice_of e ∷ []
handled_more es e = map-append notice_of es (e ∷ [])

-- a command in flight
in_flight : (x : Asker) (y : Answerer) (sent : Option Sent) → HaveRun true x y → IsCarried true sent x.m.code x.m.input
    → AreNotices (handled_of x.done ++ flying_of (pending_by true sent)) y.done x.done (pending_by true sent)
in_flight x y None run h = absurd h
in_flight x y (Some c) (inl e) h = record {
  handled = inr (_, ap (λ (l : List Exchange). handled_of l ++ flying_of (pending_by true (Some c))) (sym e));
  recorded_all = inl e;
}
in_flight x y (Some c) (inr o) h =
    let last : Exchange = answered (flight x) o.0.0 o.0.1 in
    let same : record { code = c.command.code; input = c.command.input } ≡ notice_of last = ap (λ (z : ℕ × List ℕ). record { code = z.0; input = z.1 }) (λ i. (h.0 i, h.1 i)) in
    record {
      handled = inl (ap (λ (n : _). handled_of x.done ++ n ∷ []) same ∙ (sym (handled_more x.done last) ∙ ap handled_of (sym o.1)));
      recorded_all = inr (last, o.1, (h.0, h.1));
    }

-- none
none_in_flight : (x : Asker) (y : Answerer) (sent : Option Sent) → HaveRun false x y
    → AreNotices (handled_of x.done ++ flying_of (pending_by false sent)) y.done x.done (pending_by false sent)
none_in_flight x y sent e = record { handled = inl (append-nil (handled_of x.done) ∙ ap handled_of (sym e)); recorded_all = inl e }

by_sent : (f k : Bool) (x : Asker) (y : Answerer) (sent : Option Sent) → (f ≡ true → k ≡ true) → HaveRun f x y → IsCarried k sent x.m.code x.m.input
    → AreNotices (handled_of x.done ++ flying_of (pending_by f sent)) y.done x.done (pending_by f sent)
by_sent true k x y sent q run h = in_flight x y sent run (subst (λ (z : Bool). IsCarried z sent x.m.code x.m.input) (q refl) h)
by_sent false k x y sent q run h = none_in_flight x y sent run

module _ (exec : Device) (is_state : List ℕ → Type 0) (room_of : List ℕ → ℕ) where
  pub are_notices : (s : PlainState) → Stands exec is_state room_of s
      → AreNotices (posted_of s) (exchanges_of_commands s.executed) (exchanges_of s.calls.records) (pending_by s.ask.in_flight s.calls.sent)
  are_notices s k = let g = k.agree.1.2 in let x : Asker = asker_of s k.unkept in let y : Answerer = answerer_of s in
      by_sent s.ask.in_flight (carried s.ask) x y s.calls.sent (flown_carried s.ask.stage s.ask.in_flight)
      (have_run s.ask.stage (turn s.answer) x y k.agree.0 g.ask_ok.flies g.fits) k.carries

-- ---- one notice

-- an executed command, as a notice
pub notice_at : (cs : List Command) (place : ℕ) (x : Command) (input : List ℕ) → place < length cs → x ≡ get_or cs place x → input ≡ x.input
    → slice_get (handled_of (exchanges_of_commands cs)) place ≡ Some (record { code = x.code; input = input })
notice_at [] place x input lt e i = absurd (omega (arith, lt))
notice_at (d ∷ ds) zero x input lt e i = ap (λ (z : ℕ × List ℕ). Some (record { code = z.0; input = z.1 })) (λ j. (ap (λ (z : Command). z.code) (sym e) j, (ap (λ (z : Command). z.input) (sym e) ∙ sym i) j))
notice_at (d ∷ ds) (suc p) x input lt e i = notice_at ds p x input (omega (arith, lt)) e i

at_front : (xs ys : List Notice) (place : ℕ) (n : Notice) → slice_get xs place ≡ Some n → slice_get (xs ++ ys) place ≡ Some n
at_front [] ys place n e = absurd (cc e)
at_front (x ∷ xs) ys zero n e = e
at_front (x ∷ xs) ys (suc p) n e = at_front xs ys p n e

-- it is the posted command of its place
pub posted_at : (posted : List Notice) (executed recorded : List Exchange) (pending : Option Pending) (place : ℕ) (n : Notice)
    → AreNotices posted executed recorded pending → slice_get (handled_of executed) place ≡ Some n → slice_get posted place ≡ Some n
posted_at posted executed recorded pending place n h e = go h.handled
  where
    go : (posted ≡ handled_of executed) ⊎ ((last : Notice) × (posted ≡ handled_of executed ++ last ∷ [])) → slice_get posted place ≡ Some n
    go (inl same) = ap (λ (l : List Notice). slice_get l place) same ∙ e
    go (inr (last, same)) = ap (λ (l : List Notice). slice_get l place) same ∙ at_front (handled_of executed) (last ∷ []) place n e
