use Rattle.std.proofs.Common.{ℕ, List, sym, subst}
use Rattle.std.specs.Prelude.{Option}
use Rattle.pcc_journal.specs.declared.record.Record.{Record}
use Rattle.channel_core.specs.Sendings.{command_of}
use Rattle.channel_core.specs.declared.sent.Sent.{Sent}
use Rattle.channel_turns.specs.Standing.{Stands}
use Rattle.channel_turns.proofs.Standings.{readied_keeps}
use Rattle.channel_turns.proofs.ends.PlainEnds.ready.Goals as goal

pub invariant_of-self : goal.invariant_of-self
invariant_of-self g c = let x = c.self.inside in let exec = g.E.Executor.exec_of in let is_state = g.E.Executor.is_state in let room_of = g.E.Executor.room_of in let first : List ℕ = x.start.value.device in let opening : List ℕ = x.start.value.ask.space in
    let k = readied_keeps x.history c.make_ready.new.history (record { kind = x.head.kind; room = x.head.room; code = c.args.code; bytes = c.args.bytes.now }) c.make_ready.result c.make_ready.ensures.readied in (
      subst (λ (z : List Record × Option Sent). Stands exec x.head first opening is_state room_of x.link z.0 (command_of z.1) x.executed) (λ i. (sym k.0 i, sym k.1 i)) c.self.invariant.0,
      c.self.invariant.1,
    )
