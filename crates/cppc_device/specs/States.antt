-- The state of a controller of performance as a list of numbers, and the controller as a device.
use Rattle.std.specs.Prelude.{◌≡◌, ◌*◌, ◌==◌, true, false, if◌then◌else◌, ℕ, zero, suc, List, [], ◌∷◌, ◌++◌, drop, flat_map, length, slice_index}
use Rattle.pcc_gas.specs.declared.change.Change.{Change}
use Rattle.pcc_history.specs.Devices.{Device, Executed}
use Rattle.cpc_package.specs.declared.binding.Binding.{Binding}
use Rattle.cpc_package.specs.declared.binding.Source1.{Source1}
use Rattle.cpc_package.specs.declared.binding.Source1.TheVariants.{Missing, Number, At}
use Rattle.cppc_device.specs.declared.cap.Cap.{Cap}
use Rattle.cppc_device.specs.Devices.{Cppc, IsDevice, after_changes, sampled, written}

-- ---- from a controller to numbers

-- a source in three numbers
abbrev pub source_code : Source1 → List ℕ
source_code Missing = 0 ∷ 0 ∷ 0 ∷ []
source_code (Number value) = 1 ∷ value ∷ 0 ∷ []
source_code (At field) = 2 ∷ field.at_bit ∷ field.width ∷ []

abbrev pub binding_code : Binding → List ℕ
binding_code cpu = cpu.subspace ∷ length cpu.sources ∷ flat_map source_code cpu.sources

abbrev pub cap_code : Cap → List ℕ
cap_code cap = cap.count ∷ cap.value ∷ []

-- the mark of such a device, the count of its commands, how many processors and caps it has, these, and the registers
unfoldable pub cppc_state : Cppc → List ℕ
cppc_state device =
    1 ∷ device.count ∷ length device.cpus ∷ length device.caps
    ∷ flat_map binding_code device.cpus ++ (flat_map cap_code device.caps ++ device.registers)

-- ---- and back

-- n items, each as long as its numbers say
abbrev pub items_in : {A : Type 0} → (List ℕ → A) → (List ℕ → ℕ) → ℕ → List ℕ → List A
items_in read len zero numbers = []
items_in read len (suc n) numbers = read numbers ∷ items_in read len n (drop (len numbers) numbers)

-- what follows n items
abbrev pub after_items : (List ℕ → ℕ) → ℕ → List ℕ → List ℕ
after_items len zero numbers = numbers
after_items len (suc n) numbers = after_items len n (drop (len numbers) numbers)

abbrev pub source_len : List ℕ → ℕ
source_len numbers = 3

abbrev pub source_in : List ℕ → Source1
source_in numbers =
    if slice_index numbers 0 == 0 then Missing else if slice_index numbers 0 == 1 then Number (slice_index numbers 1)
    else At (record { at_bit = slice_index numbers 1; width = slice_index numbers 2 })

abbrev pub binding_len : List ℕ → ℕ
binding_len numbers = suc (suc (3 * slice_index numbers 1))

abbrev pub binding_in : List ℕ → Binding
binding_in numbers = record { subspace = slice_index numbers 0; sources = items_in source_in source_len (slice_index numbers 1) (drop 2 numbers) }

abbrev pub cap_len : List ℕ → ℕ
cap_len numbers = 2

abbrev pub cap_in : List ℕ → Cap
cap_in numbers = record { count = slice_index numbers 0; value = slice_index numbers 1 }

-- a controller of so many processors and caps
abbrev pub parts_in : ℕ → ℕ → ℕ → List ℕ → Cppc
parts_in count cpus caps numbers = record {
  cpus = items_in binding_in binding_len cpus numbers;
  caps = items_in cap_in cap_len caps (after_items binding_len cpus numbers);
  count = count;
  registers = after_items cap_len caps (after_items binding_len cpus numbers);
}

unfoldable pub cppc_in : List ℕ → Cppc
cppc_in state = parts_in (slice_index state 1) (slice_index state 2) (slice_index state 3) (drop 4 state)

-- ---- the device

-- a list is the state of a controller that can be
pub record IsCppc (state : List ℕ) : Type 0 where
  pub device : Cppc
  pub spelled : state ≡ cppc_state device
  pub right : IsDevice device

-- how many registers there are, in bytes
unfoldable pub cppc_room : List ℕ → ℕ
cppc_room state = length (cppc_in state).registers

abbrev pub good_of : Cppc → List Change → Executed
good_of device changes = let next = after_changes device changes in record { state = cppc_state next; bad = false; space = next.registers }

-- Code 0 reads the registers and code 1 writes them; others are bad and change nothing.
abbrev pub executed : Cppc → List ℕ → ℕ → List ℕ → Executed
executed device state code space =
    if code == 0 then good_of device (sampled device) else if code == 1 then good_of device (written device space)
    else record { state = state; bad = true; space = space }

unfoldable pub cppc_exec : Device
cppc_exec state code space = executed (cppc_in state) state code space
