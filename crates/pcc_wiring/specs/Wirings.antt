-- How a structure is wired.
use Rattle.std.specs.Prelude.{ℕ, ◌-◌, ◌*◌, ◌/◌, ◌%◌, ◌==◌, ◌&&◌, not, min, Bool, true, false, if◌then◌else◌, Option, Some, None}
use Rattle.pcc_gas.specs.declared.mask.Masks.{Masks}
use Rattle.pcc_steps.specs.declared.wiring.Wiring.{Wiring}
use Rattle.pcc_steps.specs.Kinds.{is_extended, is_reduced}
use Rattle.pcct_table.specs.declared.subspace.Subspace.{Subspace}
use Rattle.pcct_table.specs.Subspaces.{kind_of, memory_len_of}
use Rattle.pcc_wiring.specs.declared.roles.Roles.{Roles}
use Rattle.pcc_wiring.specs.declared.roles.Watched.{Watched}
use Rattle.pcc_wiring.specs.declared.roles.Written.{Written}
use Rattle.pcc_wiring.specs.Registers.{cut, is_absent, no_masks}
use Rattle.pcc_wiring.specs.Roles.{roles_of}

-- ---- the communication space

-- a communication space has so many bytes at most
abbrev pub room_limit : ℕ
room_limit = 4096

-- the bytes of the header at the front of the shared memory (ACPI 6.5, 14.2 and 14.3)
abbrev pub header_len : ℕ → ℕ
header_len kind = if is_extended kind then 16 else 8

-- the words of 8 bytes after the header, in a shared memory of this length
abbrev pub room_of : ℕ → ℕ → ℕ
room_of kind len = min room_limit ((len - header_len kind) / 8 * 8)

-- ---- masks

abbrev pub masks_of : Written → Masks
masks_of r = record { preserve = cut r.gas.width r.preserve; set = cut r.gas.width r.set }

-- the masks of a register that the type may have
abbrev pub masks_or_none : Option Written → Masks
masks_or_none None = no_masks
masks_or_none (Some r) = masks_of r

abbrev pub mask_of : Option Watched → ℕ
mask_of None = 0
mask_of (Some r) = cut r.gas.width r.mask

abbrev pub has_register : Option Written → Bool
has_register None = false
has_register (Some r) = not (is_absent r.gas)

-- ---- completion and errors

-- the check register and the update register are one: their space and their address are the same
abbrev pub are_joined : Option Watched → Option Written → Bool
are_joined (Some check) (Some update) = check.gas.space == update.gas.space && check.gas.address == update.gas.address
are_joined _ _ = false

-- types 0 to 2 report errors in their header, the others where an error register is there and some bit of it reports them
abbrev pub reports_by : Option Watched → Bool
reports_by None = true
reports_by (Some r) = not (is_absent r.gas) && not (cut r.gas.width r.mask == 0)

-- ---- the wiring

-- the wiring by the registers
abbrev pub wiring_by : ℕ → ℕ → ℕ → ℕ → Roles → Wiring
wiring_by kind len id flags roles = record {
  kind = kind;
  id = id;
  notify = not (is_reduced kind) && flags % 2 == 1;
  joined = are_joined roles.check roles.update;
  has_bell = not (is_absent roles.doorbell.gas);
  has_ack = has_register roles.acknowledge;
  reports = reports_by roles.error;
  room = room_of kind len;
  bell = masks_of roles.doorbell;
  ack = masks_or_none roles.acknowledge;
  update = masks_or_none roles.update;
  check_mask = mask_of roles.check;
  error_mask = mask_of roles.error;
}

-- the wiring of a structure with this ID, in a table with these flags, whose bit 0 says that the platform can raise an interrupt;
-- the header of type 5 has no place to ask for one
abbrev pub wiring_with : ℕ → ℕ → Subspace → Wiring
wiring_with id flags s = wiring_by (kind_of s) (memory_len_of s) id flags (roles_of s)
