use Rattle.std.proofs.Common.{◌≡◌, ℕ, List, length, refl, rules, subst, arith}
use Rattle.pcc_journal.specs.declared.record.Record.{Record}
use Rattle.pcc_audit.proofs.Commands.{Walked, end_right, last_out, last_right, room_before, step_on, step_out}
use Rattle.pcc_audit.proofs.audit.audit_board.Goals as goal

pub record_flaw-requires-clause-before : goal.record_flaw-requires-clause-before
record_flaw-requires-clause-before g c =
    room_before (record { head = c.args.head.now; exec = g.E.Executor.exec_of; start = g.E.Executor.state c.args.device.now; opening = c.args.opening.now; cpus = c.args.cpus.now }) c.as_slice-records.result.now c.loop-place.times.items (g.E.Executor.state c.loop-place.device) c.loop-place.place
    c.space_before-before.result.now c.requires.opening (omega arith) c.space_before-before.ensures c.loop-place.invariant.0

pub returns-in-Some : goal.returns-in-Some
returns-in-Some g c =
    step_out (record { head = c.args.head.now; exec = g.E.Executor.exec_of; start = g.E.Executor.state c.args.device.now; opening = c.args.opening.now; cpus = c.args.cpus.now }) c.args.told.now c.as_slice-records.result.now c.loop-place.times.items c.deref.result.now (g.E.Executor.state c.loop-place.device) c.loop-place.place
    c.space_before-before.result.now c.index-records-place.result c.record_flaw.result c.in-Some.flaw c.as_slice-records.ensures
    (search rules) (omega arith) c.deref.ensures.value c.space_before-before.ensures c.index-records-place.is c.in-Some.is
    c.record_flaw.ensures.flaw c.loop-place.invariant.0

pub loop-place-preserved : goal.loop-place-preserved
loop-place-preserved g c = (
  step_on (record { head = c.args.head.now; exec = g.E.Executor.exec_of; start = g.E.Executor.state c.args.device.now; opening = c.args.opening.now; cpus = c.args.cpus.now }) c.as_slice-records.result.now c.loop-place.times.items c.deref.result.now c.push.new.self.items (g.E.Executor.state c.loop-place.device) (g.E.Executor.state c.record_flaw.new.device)
      c.loop-place.place c.space_before-before.result.now c.index-records-place.result c.record_flaw.result (omega arith) c.deref.ensures.value
      c.space_before-before.ensures c.index-records-place.is (search rules) c.record_flaw.ensures.flaw (search rules)
      (c.record_flaw.ensures.state (search rules)) c.loop-place.invariant.0,
  c.record_flaw.ensures.room,
)

pub returns-in_default-pending : goal.returns-in_default-pending
returns-in_default-pending g c =
    end_right (record { head = c.args.head.now; exec = g.E.Executor.exec_of; start = g.E.Executor.state c.args.device.now; opening = c.args.opening.now; cpus = c.args.cpus.now }) c.args.told.now c.as_slice-records.result.now c.loop-place.times.items (g.E.Executor.state c.loop-place.device) c.loop-place.place c.as_slice-records.ensures (search rules) (omega arith) (search rules) c.loop-place.invariant.0

pub pending_flaw-requires-clause-before : goal.pending_flaw-requires-clause-before
pending_flaw-requires-clause-before g c =
    let rs : List Record = c.as_slice-records.result.now in
    let all : c.loop-place.place ≡ length rs = omega arith in
    let W : ℕ → Type 0 = λ k. Walked (record { head = c.args.head.now; exec = g.E.Executor.exec_of; start = g.E.Executor.state c.args.device.now; opening = c.args.opening.now; cpus = c.args.cpus.now }) rs c.loop-place.times.items (g.E.Executor.state c.loop-place.device) k in
    let walked = subst W all c.loop-place.invariant.0 in
    room_before (record { head = c.args.head.now; exec = g.E.Executor.exec_of; start = g.E.Executor.state c.args.device.now; opening = c.args.opening.now; cpus = c.args.cpus.now }) rs c.loop-place.times.items (g.E.Executor.state c.loop-place.device) (length rs)
    c.space_before-before-2.result.now c.requires.opening (omega arith) c.space_before-before-2.ensures walked

pub returns-in-None : goal.returns-in-None
returns-in-None g c =
    let rs : List Record = c.as_slice-records.result.now in
    let all : c.loop-place.place ≡ length rs = omega arith in
    let W : ℕ → Type 0 = λ k. Walked (record { head = c.args.head.now; exec = g.E.Executor.exec_of; start = g.E.Executor.state c.args.device.now; opening = c.args.opening.now; cpus = c.args.cpus.now }) rs c.loop-place.times.items (g.E.Executor.state c.loop-place.device) k in
    let walked = subst W all c.loop-place.invariant.0 in
    last_right (record { head = c.args.head.now; exec = g.E.Executor.exec_of; start = g.E.Executor.state c.args.device.now; opening = c.args.opening.now; cpus = c.args.cpus.now }) c.args.told.now rs c.loop-place.times.items c.deref-2.result.now (g.E.Executor.state c.loop-place.device) (length rs)
    c.space_before-before-2.result.now c.in-Some-pending.pending c.pending_flaw.result c.as_slice-records.ensures (search rules) refl c.deref-2.ensures.value
    c.space_before-before-2.ensures c.in-Some-pending.is c.in-None.is c.pending_flaw.ensures walked

pub returns : goal.returns
returns g c =
    let rs : List Record = c.as_slice-records.result.now in
    let all : c.loop-place.place ≡ length rs = omega arith in
    let W : ℕ → Type 0 = λ k. Walked (record { head = c.args.head.now; exec = g.E.Executor.exec_of; start = g.E.Executor.state c.args.device.now; opening = c.args.opening.now; cpus = c.args.cpus.now }) rs c.loop-place.times.items (g.E.Executor.state c.loop-place.device) k in
    let walked = subst W all c.loop-place.invariant.0 in
    last_out (record { head = c.args.head.now; exec = g.E.Executor.exec_of; start = g.E.Executor.state c.args.device.now; opening = c.args.opening.now; cpus = c.args.cpus.now }) c.args.told.now rs c.loop-place.times.items c.deref-2.result.now (g.E.Executor.state c.loop-place.device) (length rs)
    c.space_before-before-2.result.now c.in-Some-pending.pending c.pending_flaw.result c.in-Some-pending_flaw.flaw c.as_slice-records.ensures (search rules) refl c.deref-2.ensures.value
    c.space_before-before-2.ensures c.in-Some-pending.is c.in-Some-pending_flaw.is c.pending_flaw.ensures walked
