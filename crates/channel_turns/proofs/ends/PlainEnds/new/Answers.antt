use Rattle.std.proofs.Common.{◌≡◌, ℕ, List, [], length, refl, sym, ap, ◌∙◌, subst, false}
use Rattle.std.specs.Prelude.{None}
use Rattle.channel_core.specs.CommandHistory.{CommandHistory}
use Rattle.channel_core.specs.Sendings.{command_of}
use Rattle.channel_turns.specs.Standing.{LinkState, Stands}
use Rattle.pcc_bytes.specs.Bytes.{IsBytes}
use Rattle.shmem_header.specs.Spelling.{words_of}
use Rattle.pcc_steps.specs.Wires.{opening_words}
use Rattle.pcc_steps.specs.Asking.{IsNewAsk}
use Rattle.channel_turns.proofs.Standings.{new_stands}
use Rattle.channel_turns.proofs.ends.PlainEnds.new.Goals as goal

pub invariant_of-result : goal.invariant_of-result
invariant_of-result g c = let exec = g.E.Executor.exec_of in let is_state = g.E.Executor.is_state in let room_of = g.E.Executor.room_of in let l : LinkState = c.in_ok-link.link in let n = c.in_ok-link.ensures in let w = c.args.wiring in
    let space : l.ask.space ≡ c.args.opening.now = n.ask.4 in
    let base : Stands exec c.args.head l.device l.ask.space is_state room_of l [] None false = new_stands exec c.args.head l.device l.ask.space is_state room_of w l (subst (IsNewAsk l.ask w) (sym space) n.ask) n.answer n.ask_ok n.answer_ok (subst IsBytes (sym space) n.bytes)
    (n.words ∙ ap (λ (o : List ℕ). opening_words w (words_of o)) (sym space)) (ap (λ (o : List ℕ). length o) space ∙ c.requires.long) refl (subst is_state (sym n.device_is) n.state) (ap room_of n.device_is ∙ c.requires.room) c.requires.head in
    let start : c.of-start_link.result.value ≡ l = c.of-start_link.ensures in (
      subst (λ (h : CommandHistory). Stands exec c.args.head c.of-start_link.result.value.device c.of-start_link.result.value.ask.space is_state room_of l h.records (command_of h.sent) false) (sym c.new-4.ensures)
          (subst (λ (z : LinkState). Stands exec c.args.head z.device z.ask.space is_state room_of l [] None false) (sym start) base),
      record {
        limited = λ i. (c.new-3.ensures i).limits;
        counted = (λ i. (c.new-3.ensures i).readings) ∙ sym ((λ i. (c.new-3.ensures i).clock.taken) ∙ (λ i. (c.new-2.ensures i).taken));
      },
    )
