-- The structure that an `open` line names, or why it isn't opened.
use Rattle.std.specs.Prelude.{◌≡◌, ◌<◌, ℕ, ◌==◌, nat_le, Bool, true, false, if◌then◌else◌, List, []}
use Rattle.std.specs.Prelude.{◌∷◌, length, replicate, take, Option, Some, None, slice_get}
use Rattle.std.specs.List.{flat_map, list_any}
use Rattle.pcc_journal.specs.declared.text.JournalHead.{JournalHead}
use Rattle.pcc_script.specs.declared.scenario.Device.{Device}
use Rattle.pcc_script.specs.declared.scenario.Device.TheVariants.{Bank, Cppc}
use Rattle.pcc_script.specs.declared.scenario.OpenLine.{OpenLine}
use Rattle.pcc_steps.specs.declared.wiring.Wiring.{Wiring}
use Rattle.pcc_wiring.specs.declared.fault.Asks.{Asks}
use Rattle.pcc_wiring.specs.declared.fault.WiringFault.{WiringFault}
use Rattle.pcc_wiring.specs.Faults.{asks_of, fault_of}
use Rattle.pcc_wiring.specs.Wirings.{room_of, wiring_with}
use Rattle.pcct_table.specs.declared.subspace.Subspace.{Subspace}
use Rattle.pcct_table.specs.declared.table.Table.{Table}
use Rattle.pcct_table.specs.Subspaces.{base_of, kind_of, memory_len_of, rate_of, turnaround_of}
use Rattle.pcc_setup.specs.declared.opening.OpenFault.{OpenFault}
use Rattle.pcc_setup.specs.declared.opening.OpenFault.TheVariants.{ImageLong, NoSubspace, OpenedTwice, Unwired}
use Rattle.pcc_setup.specs.declared.opening.Opened.{Opened}

-- ---- devices

-- the device is a controller of processor performance
abbrev pub is_cppc : Device → Bool
is_cppc Bank = false
is_cppc (Cppc image) = true

-- the first bytes of its registers, none for a Bank
abbrev pub image_of : Device → List ℕ
image_of Bank = []
image_of (Cppc image) = image

-- ---- faults

-- some of these lines opens this ID
abbrev pub opens_id : ℕ → List OpenLine → Bool
opens_id id opens = list_any (λ o. o.id == id) opens

-- the side that asks on a structure of this type, opened as this device
abbrev pub asks_on : Device → ℕ → Asks
asks_on device kind = asks_of kind (is_cppc device)

-- the image is longer than the communication space of a structure that is wired
abbrev pub image_fault : Device → Subspace → Option OpenFault
image_fault device s = if nat_le (length (image_of device)) (room_of (kind_of s) (memory_len_of s)) then None else Some ImageLong

-- the fault of a structure's wiring, or else of the device's image
abbrev pub wired_fault : Device → Subspace → Option WiringFault → Option OpenFault
wired_fault device s (Some fault) = Some (Unwired fault)
wired_fault device s None = image_fault device s

abbrev pub structure_fault : Device → Bool → Option Subspace → Option OpenFault
structure_fault device twice None = Some NoSubspace
structure_fault device twice (Some s) = if twice then Some OpenedTwice else wired_fault device s (fault_of (asks_on device (kind_of s)) s)

-- why a line after these lines opens nothing, if it doesn't; an ID is a place in the table
abbrev pub line_fault : Table → List OpenLine → OpenLine → Option OpenFault
line_fault t before o = structure_fault o.device (opens_id o.id before) (slice_get t.subspaces o.id)

-- each of the first `count` lines opens its structure
abbrev pub AllOpen : Table → List OpenLine → ℕ → Type 0
AllOpen t opens count = (i : ℕ) (o : OpenLine) → i < count → slice_get opens i ≡ Some o → line_fault t (take i opens) o ≡ None

-- ---- what is opened

-- the head of the journal of a structure that is wired so, opened as this device
abbrev pub head_by : Device → Wiring → Subspace → JournalHead
head_by device w s = record {
  id = w.id;
  kind = w.kind;
  cppc = is_cppc device;
  room = w.room;
  limits = record { turnaround = turnaround_of s; per_minute = rate_of s };
  reports = w.reports;
}

-- the head of the journal of a structure with this ID; no flag of the table changes it
abbrev pub head_of : Device → ℕ → Subspace → JournalHead
head_of device id s = head_by device (wiring_with id 0 s) s

-- the head of the journal of a structure that a line opens
abbrev pub head_on : OpenLine → Subspace → JournalHead
head_on o s = head_of o.device o.id s

-- a communication space of zeros, of the room in a head
abbrev pub zeros_in : JournalHead → List ℕ
zeros_in head = replicate head.room 0

-- a structure with this ID, in a table with these flags, before it gets its processors and its caps
abbrev pub opened_with : Device → ℕ → ℕ → Option Subspace → List Opened
opened_with device id flags None = []
opened_with device id flags (Some s) =
    record { head = head_of device id s; wiring = wiring_with id flags s; image = image_of device; cpus = []; caps = [] } ∷ []

-- one for each line, in their order
abbrev pub opened_by : Table → List OpenLine → List Opened
opened_by t opens = flat_map (λ o. opened_with o.device o.id t.flags (slice_get t.subspaces o.id)) opens

-- the ID, the base and the length of a structure's memory
abbrev pub memory_with : ℕ → Option Subspace → List (ℕ × ℕ × ℕ)
memory_with id None = []
memory_with id (Some s) = (id, base_of s, memory_len_of s) ∷ []

abbrev pub memories_by : Table → List OpenLine → List (ℕ × ℕ × ℕ)
memories_by t opens = flat_map (λ o. memory_with o.id (slice_get t.subspaces o.id)) opens
