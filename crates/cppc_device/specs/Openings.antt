-- What a controller begins with.
use Rattle.std.specs.Prelude.{◌+◌, ◌-◌, nat_le, nat_lt, if◌then◌else◌, ℕ, List, [], ◌∷◌, ◌++◌, length, replicate, Option, Some, None}
use Rattle.cpc_package.specs.declared.binding.Binding.{Binding}
use Rattle.cppc_device.specs.declared.cap.Cap.{Cap}
use Rattle.cppc_device.specs.declared.device.DeviceFault.{DeviceFault}
use Rattle.cppc_device.specs.declared.device.DeviceFault.TheVariants.{CapOrder, ImageTooLong}
use Rattle.cppc_device.specs.Devices.{Cppc}

-- the first cap after number n whose count isn't above that of the one before
abbrev pub order_after : ℕ → ℕ → List Cap → Option ℕ
order_after count n [] = None
order_after count n (cap ∷ caps) = if nat_lt count cap.count then order_after cap.count (n + 1) caps else Some n

abbrev pub cap_order : List Cap → Option ℕ
cap_order [] = None
cap_order (cap ∷ caps) = order_after cap.count 1 caps

abbrev pub order_fault : Option ℕ → Option DeviceFault
order_fault None = None
order_fault (Some index) = Some (CapOrder index)

-- the first fault of an image and of caps, in a space of room bytes
abbrev pub device_fault : ℕ → List ℕ → List Cap → Option DeviceFault
device_fault room image caps = if nat_le (length image) room then order_fault (cap_order caps) else Some (ImageTooLong (length image))

-- the registers are first the image, and zeros after it
abbrev pub opening : ℕ → List ℕ → List ℕ
opening room image = image ++ replicate (room - length image) 0

abbrev pub new_device : ℕ → List ℕ → List Binding → List Cap → Cppc
new_device room image cpus caps = record { cpus = cpus; caps = caps; count = 0; registers = opening room image }
