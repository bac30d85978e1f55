use Rattle.channel_plain.proofs.Written.{Written}
use Rattle.channel_plain.proofs.text.put_trace.Given as goal

abbrev pub invariant-loop-place : goal.invariant-loop-place
invariant-loop-place l = Written l.initial.out.items l.out.items l.lines l.place
