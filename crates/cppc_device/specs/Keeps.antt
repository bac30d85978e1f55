-- A command leaves such a device, of the same room.
use Rattle.std.proofs.Common.{◌≡◌, ℕ, Bool, true, false, List, length, cond, eqb, refl, sym, ap, ◌∙◌, subst}
use Rattle.pcc_gas.specs.declared.change.Change.{Change}
use Rattle.pcc_gas.proofs.Changes.{changes-bytes, changes-length}
use Rattle.pcc_exec.specs.Execution.{IsSpace, Leaves}
use Rattle.cpc_package.specs.Bindings.{AreProcessors}
use Rattle.cppc_device.specs.Devices.{Cppc, IsDevice, after_changes, sampled, written}
use Rattle.cppc_device.specs.States.{IsCppc, cppc_exec, cppc_room, cppc_state, executed, good_of}
use Rattle.cppc_device.specs.StateLaws.{state_back}

pub room_is : (device : Cppc) → cppc_room (cppc_state device) ≡ length device.registers
unfolding cppc_room
room_is device = ap (λ (d : Cppc). length d.registers) (state_back device)

-- what a command makes of a controller, by its state
pub exec_is : (device : Cppc) (code : ℕ) (space : List ℕ) → cppc_exec (cppc_state device) code space ≡ executed device (cppc_state device) code space
unfolding cppc_exec
exec_is device code space = ap (λ (d : Cppc). executed d (cppc_state device) code space) (state_back device)

pub right_after : (device : Cppc) (changes : List Change) → IsDevice device → IsDevice (after_changes device changes)
right_after device changes right = record {
  cpus = subst (λ (len : ℕ). AreProcessors len device.cpus) (sym (changes-length changes device.registers)) right.cpus;
  caps = right.caps;
  bytes = changes-bytes changes device.registers;
}

left_by : (device : Cppc) (changes : List Change) → IsDevice device → Leaves IsCppc cppc_room (cppc_state device) (good_of device changes)
left_by device changes right =
    let next : Cppc = after_changes device changes in
    let is : IsDevice next = right_after device changes right in
    record {
      space = record { long = changes-length changes device.registers ∙ sym (room_is device); fits = changes-bytes changes device.registers };
      state = record { device = next; spelled = refl; right = is };
      room = room_is next ∙ changes-length changes device.registers ∙ sym (room_is device);
    }

by_code : (b c : Bool) (device : Cppc) (space : List ℕ) → IsDevice device → IsSpace (cppc_room (cppc_state device)) space
    → Leaves IsCppc cppc_room (cppc_state device) (cond b (good_of device (sampled device)) (cond c (good_of device (written device space))
    (record { state = cppc_state device; bad = true; space = space })))
by_code true c device space right fits = left_by device (sampled device) right
by_code false true device space right fits = left_by device (written device space) right
by_code false false device space right fits =
    record { space = fits; state = record { device = device; spelled = refl; right = right }; room = refl }

by_device : (device : Cppc) (code : ℕ) (space : List ℕ) → IsDevice device → IsSpace (cppc_room (cppc_state device)) space
    → Leaves IsCppc cppc_room (cppc_state device) (cppc_exec (cppc_state device) code space)
by_device device code space right fits =
    subst (Leaves IsCppc cppc_room (cppc_state device)) (sym (exec_is device code space)) (by_code (eqb code 0) (eqb code 1) device space right fits)

-- the law of a device, for a controller
pub cppc_keeps : (before : List ℕ) (code : ℕ) (space : List ℕ) → IsCppc before → IsSpace (cppc_room before) space
    → Leaves IsCppc cppc_room before (cppc_exec before code space)
cppc_keeps before code space is fits =
    subst (λ (state : List ℕ). Leaves IsCppc cppc_room state (cppc_exec state code space)) (sym is.spelled)
    (by_device is.device code space is.right (subst (λ (state : List ℕ). IsSpace (cppc_room state) space) is.spelled fits))
