use Rattle.std.proofs.Common.{◌∙◌, ℕ, List, sym, ap, subst}
use Rattle.pcc_bytes.specs.Bytes.{IsBytes}
use Rattle.shmem_header.specs.Spelling.{words_of}
use Rattle.pcc_steps.specs.Wires.{opening_words}
use Rattle.channel_plain.proofs.Starts.{new_holds}
use Rattle.channel_plain.proofs.ends.Ends.new.Goals as goal

pub invariant_of-result : goal.invariant_of-result
invariant_of-result g c = let exec = g.E.Executor.exec_of in let is_state = g.E.Executor.is_state in let room_of = g.E.Executor.room_of in
    new_holds exec is_state room_of c.asking_laws.ensures.starts c.args.wiring c.args.limits (g.E.Executor.state c.args.device) (g.E.Executor.state c.of-first.result.value) c.deref-2.result.now c.in_ok-words.words.items c.in_ok-ask.ask c.in_ok-answer.answer c.new-3.result.calls c.new-4.result c.in_ok-ask.ensures.new c.in_ok-ask.ensures.right c.in_ok-answer.ensures.new c.in_ok-answer.ensures.right
    (subst IsBytes (c.deref.ensures.value ∙ sym c.deref-2.ensures.value) c.are_bytes.ensures) (c.deref-2.ensures.value ∙ c.in_ok-opening.ensures) (c.in_ok-words.ensures ∙ ap (λ (l : List ℕ). opening_words c.args.wiring (words_of l)) (c.deref-3.ensures.value ∙ sym c.deref-2.ensures.value)) c.room.ensures.state c.requires.room (ap g.E.Executor.state c.of-first.ensures) (λ i. (c.new-3.ensures i).calls) c.new-4.ensures
