use Rattle.std.proofs.Common.{◌≡◌, ◌++◌, ℕ, List, OnErr, OnOk, subst, take}
use Rattle.channel_plain.specs.TraceText.{trace_text}
use Rattle.channel_plain.specs.declared.trace.TraceLine.{TraceLine}
use Rattle.pcc_notify.specs.Notices.{IsNotifying, Notified}
use Rattle.pcc_notify.proofs.Tracing.{cut_notifies, notified, run_notifies}
use Rattle.pcc_notify.proofs.weaving.weave_lines.Goals as goal

pub returns-clause-run : goal.returns-clause-run
returns-clause-run g c =
    let E = g.E.Executor in let K = g.K.Clock in let d = c.weave_lines-done in
    let new = notified K.taken K.tells E.exec_of c.args.calls.now E.is_state E.room_of d.new.plain in
    subst (λ (z : Notified _). OnOk d.result ((x : List TraceLine) × IsNotifying K.taken K.tells E.exec_of c.args.calls.now E.is_state E.room_of c.args.picks.now z x new
    × (d.new.out.items ≡ c.args.out.now.items ++ trace_text x))) c.notify.view_is
    (run_notifies K.taken K.tells E.exec_of c.args.calls.now E.is_state E.room_of d.result c.args.picks.now c.notify.inside.plain d.new.plain
    (λ x. d.new.out.items ≡ c.args.out.now.items ++ trace_text x) (rw (← c.notify.view_is) at c.requires.fresh) c.stand.ensures.stands d.ensures.run)

pub returns-clause-cut : goal.returns-clause-cut
returns-clause-cut g c =
    let E = g.E.Executor in let K = g.K.Clock in let d = c.weave_lines-done in
    let new = notified K.taken K.tells E.exec_of c.args.calls.now E.is_state E.room_of d.new.plain in
    subst (λ (z : Notified _). OnErr d.result ((n : ℕ) × (x : List TraceLine) × IsNotifying K.taken K.tells E.exec_of c.args.calls.now E.is_state E.room_of (take n c.args.picks.now) z x new)) c.notify.view_is
    (cut_notifies K.taken K.tells E.exec_of c.args.calls.now E.is_state E.room_of d.result c.args.picks.now c.notify.inside.plain d.new.plain
    (rw (← c.notify.view_is) at c.requires.fresh) c.stand.ensures.stands d.ensures.cut)
