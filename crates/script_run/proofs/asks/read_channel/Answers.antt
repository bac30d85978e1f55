use Rattle.std.proofs.Common.{rules, ◌≡◌, List, true, subst}
use Rattle.pcc_journal.specs.declared.record.Record.{Record}
use Rattle.channel_turns.specs.Outcomes.{StandsFor}
use Rattle.channel_turns.specs.Replies.{Reply}
use Rattle.script_run.specs.StepRun.{is_good}
use Rattle.script_run.proofs.Answered.{read_values}
use Rattle.script_run.proofs.asks.read_channel.Goals as goal

pub returns-then-is_good-clause-answered : goal.returns-then-is_good-clause-answered
returns-then-is_good-clause-answered g c = let on : c.is_good.result ≡ true = search rules in
    let good : (reply : Reply) → StandsFor c.call.new.self.now.records c.in_ok-outcome.outcome reply → c.is_good.result ≡ is_good reply =
    subst (λ (rs : List Record). (reply : Reply) → StandsFor rs c.in_ok-outcome.outcome reply → c.is_good.result ≡ is_good reply) c.records.ensures.items c.is_good.ensures in
    read_values g.E.Executor.exec_of c.args.channel.now c.call.new.self (record { caller = c.args.caller; binding = c.args.binding.now; polls = c.args.polls; hold = c.args.hold }) c.in_ok-outcome.outcome c.is_good.result c.space.result.now c.values_of.result
    c.in_ok-outcome.ensures.answered good on c.space.ensures.value c.values_of.ensures
