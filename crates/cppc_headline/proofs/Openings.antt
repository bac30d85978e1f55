-- A new controller of performance.
use Rattle.std.proofs.Common.{◌≡◌, ◌≤◌, ℕ, zero, suc, Bool, true, false, List, length, cond, leb, replicate, Option, Some, None, refl, sym, subst, arith}
use Rattle.std.specs.Prelude.{◌-◌}
use Rattle.std.proofs.lemmas.Bool.{leb-true}
use Rattle.pcc_bytes.specs.Bytes.{IsBytes}
use Rattle.pcc_bytes.proofs.Bytes.{IsBytes-append, IsBytes-cons, IsBytes-nil}
use Rattle.cpc_package.specs.Bindings.{AreProcessors}
use Rattle.cpc_package.specs.declared.binding.Binding.{Binding}
use Rattle.cppc_device.specs.Openings.{cap_order, device_fault, new_device, opening, order_fault}
use Rattle.cppc_device.specs.States.{cppc_exec, cppc_state}
use Rattle.cppc_device.specs.declared.cap.Cap.{Cap}
use Rattle.cppc_device.specs.declared.device.DeviceFault.{DeviceFault}
use Rattle.cppc_device.specs.declared.device.DeviceFault.TheVariants.{ImageTooLong}
use Rattle.cppc_device.proofs.Commands.{opens, room_long}
use Rattle.channel_turns.specs.ChannelRuns.{ChannelStart}
use Rattle.cppc_headline.specs.Journals.{AreInRange}
use Rattle.cppc_headline.specs.PerformanceHeadline.{IsPerformance}

zeros : (n : ℕ) → IsBytes (replicate n 0)
zeros zero = IsBytes-nil
zeros (suc n) = IsBytes-cons 0 (replicate n 0) (omega arith) (zeros n)

no_order : (o : Option ℕ) → order_fault o ≡ None → o ≡ None
no_order None h = refl
no_order (Some n) h = absurd cc

fits : (b : Bool) (o : Option DeviceFault) (fault : DeviceFault) → cond b o (Some fault) ≡ None → (b ≡ true) × (o ≡ None)
fits true o fault h = (refl, h)
fits false o fault h = absurd cc

pub new_is : (start : ChannelStart) (room : ℕ) (image : List ℕ) (cpus : List Binding) (caps : List Cap)
    → start.device ≡ cppc_exec → start.state ≡ cppc_state (new_device room image cpus caps) → start.opening ≡ opening room image
    → AreProcessors room cpus → device_fault room image caps ≡ None → IsBytes image → AreInRange cpus (opening room image)
    → IsPerformance start (new_device room image cpus caps)
new_is start room image cpus caps exec state opened processors none bytes ranges =
    let p = fits (leb (length image) room) (order_fault (cap_order caps)) (ImageTooLong (length image)) none in
    let le : length image ≤ room = leb-true (length image) room p.0 in
    let long : length (opening room image) ≡ room = room_long room image (opening room image) le refl in
    record {
      exec = exec;
      state = state;
      right = opens room cpus cpus caps caps (opening room image) processors (no_order (cap_order caps) p.1) refl refl long
          (IsBytes-append image (replicate (room - length image) 0) bytes (zeros (room - length image)));
      opening = opened;
      in_range = subst (AreInRange cpus) (sym opened) ranges;
    }
