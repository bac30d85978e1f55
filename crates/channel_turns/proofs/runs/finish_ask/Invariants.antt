use Rattle.channel_turns.proofs.AskRuns.{AskWent}
use Rattle.channel_turns.proofs.runs.finish_ask.Given as goal

abbrev pub invariant-loop : goal.invariant-loop
invariant-loop l = AskWent l.initial.words l.initial.ask l.most l.counter l.words l.ask
