use Rattle.std.proofs.Common.{ℕ, List}
use Rattle.std.specs.Prelude.{Option}
use Rattle.pcc_journal.specs.declared.record.Record.{Record}
use Rattle.pcc_journal.specs.declared.record.Pending.{Pending}
use Rattle.channel_core.specs.Sendings.{command_of}
use Rattle.channel_turns.proofs.Standings.{budget_stands}
use Rattle.channel_turns.proofs.ends.PlainEnds.budget.Goals as goal

pub invariant_of-self : goal.invariant_of-self
invariant_of-self g c = let x = c.self.inside in let exec = g.E.Executor.exec_of in let is_state = g.E.Executor.is_state in let room_of = g.E.Executor.room_of in let first : List ℕ = x.start.value.device in let opening : List ℕ = x.start.value.ask.space in let rs : List Record = x.history.records in let flight : Option Pending = command_of x.history.sent in (
  budget_stands exec x.head first opening is_state room_of x.link c.budget.new.self rs flight x.executed c.args.polls c.budget.ensures c.requires.some c.self.invariant.0,
  c.self.invariant.1,
)
