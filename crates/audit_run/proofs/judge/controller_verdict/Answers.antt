use Rattle.std.proofs.Common.{rules, ◌≡◌, ◌∙◌, length, sym, ap}
use Rattle.std.specs.Prelude.{None}
use Rattle.cppc_device.specs.Devices.{Cppc}
use Rattle.cppc_device.specs.Keeps.{room_is}
use Rattle.cppc_device.specs.Openings.{device_fault}
use Rattle.audit_run.proofs.judge.controller_verdict.Goals as goal

pub audit_board-requires-clause-room : goal.audit_board-requires-clause-room
audit_board-requires-clause-room c =
    let right : device_fault c.args.opened.now.wiring.room c.as_slice-image.result.now c.as_slice.result.now ≡ None =
    (λ i. device_fault c.args.opened.now.wiring.room (c.as_slice-image.ensures i) (c.as_slice.ensures i)) ∙ c.requires.judge.begins.right in
    let full : length c.in_ok-space.space.items ≡ c.args.opened.now.wiring.room = search rules in
    room_is c.in-Ok.device ∙ ap (λ (d : Cppc). length d.registers) (c.in-Ok.ensures.opening right) ∙ ap length (sym c.in_ok-space.ensures.items) ∙ full
    ∙ sym c.requires.judge.room
