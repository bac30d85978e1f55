use Rattle.std.proofs.Common.{◌≡◌, ◌∷◌, ℕ, List, ap, ◌∙◌}
use Rattle.std.specs.Prelude.{replicate}
use Rattle.pcc_journal.specs.declared.text.JournalHead.{JournalHead}
use Rattle.pcc_steps.specs.declared.wiring.Wiring.{Wiring}
use Rattle.pcc_setup.specs.Openings.{head_on, zeros_in}
use Rattle.pccrun_core.proofs.Woven.{have_polls, is_woven, noticed}
use Rattle.pccrun_core.proofs.weave.notify_text.Goals as goal

pub weave_lines-requires-clause-polls : goal.weave_lines-requires-clause-polls
weave_lines-requires-clause-polls c = have_polls c.args.scenario.now.actions c.args.calls.now c.requires.lines c.requires.within.actions c.requires.calls

pub returns : goal.returns
returns c = λ t alone.
    let state : replicate c.args.opened.now.wiring.room 0 ≡ zeros_in (head_on alone.open_line alone.subspace) = ap (λ (w : Wiring). replicate w.room 0) alone.wiring in
    let woven = c.in_ok-weave_lines.ensures.run in
    is_woven c.args.scenario.now t alone.open_line alone.subspace c.args.picks.now c.args.opened.now.wiring c.args.opened.now.head.limits c.in_ok-new.field-0
    c.in_ok-notify.notify.channel c.weave_lines.new.notify.channel c.in_ok-notify.notify.clock c.weave_lines.new.notify.clock c.args.calls.now c.args.sides.now woven.0 woven.1.weave.readings c.put_journal.new.out.items
    alone.opens alone.structure c.requires.picks (rw c.requires.picks at c.requires.within.picks).1 alone.wiring (ap (λ (h : JournalHead). h.limits) alone.head)
    (c.in_ok-new.ensures ∙ ap (λ (s : List ℕ). 0 ∷ s) state) c.in_ok-notify.ensures.new (c.in_ok-notify.ensures.clock ∙ c.new-2.ensures)
    c.requires.calls c.requires.sides woven.1.weave.read woven.1.weave.few woven.1.weave.run c.in_ok-weave_lines.ensures.good c.in_ok-weave_lines.ensures.whole c.in_ok-weave_lines.ensures.stays
    (noticed _ _ _ _ _ _ _ _ woven.0 _ woven.1)
    (rw (woven.2, c.new-out.ensures.items, alone.head, c.as_slice.ensures, c.journal.ensures, c.pending.ensures) at c.in_ok-put_journal.ensures)
