use Rattle.std.proofs.Common.{◌≡◌}
use Rattle.pcc_audit.proofs.Commands.{Walked}
use Rattle.pcc_audit.proofs.audit.audit_board.Given as goal

abbrev pub invariant-loop-place : goal.invariant-loop-place
invariant-loop-place g l =
    Walked (record { head = l.fn.head; exec = g.E.Executor.exec_of; start = g.E.Executor.state l.initial.device; opening = l.opening; cpus = l.cpus })
    l.records l.times.items (g.E.Executor.state l.device) l.place
    × (g.E.Executor.room_of (g.E.Executor.state l.device) ≡ l.fn.head.room)
