use Rattle.script_run.proofs.Values.{Puts}
use Rattle.script_run.proofs.reply.put_entries.Given as goal

-- the entries before were put
abbrev pub invariant-loop-entry : goal.invariant-loop-entry
invariant-loop-entry l = Puts l.entries l.initial.out.items l.entry l.out.items
