-- What the address of a register says (ACPI 6.5, 5.2.3.2).
use Rattle.std.specs.Prelude.{ℕ, ◌==◌, ◌&&◌, ◌||◌, ◌%◌, ◌^◌, Bool}
use Rattle.pcc_gas.specs.declared.address.Gas.{Gas}
use Rattle.pcc_gas.specs.declared.mask.Masks.{Masks}

-- all twelve bytes are 0: there is no register
abbrev pub is_absent : Gas → Bool
is_absent gas = gas.space == 0 && gas.width == 0 && gas.offset == 0 && gas.access == 0 && gas.address == 0

-- the register lies in System Memory or System I/O
abbrev pub is_reachable : Gas → Bool
is_reachable gas = gas.space == 0 || gas.space == 1

-- it begins at bit 0 and has 8, 16, 32 or 64 bits
abbrev pub is_plain : Gas → Bool
is_plain gas = gas.offset == 0 && (gas.width == 8 || gas.width == 16 || gas.width == 32 || gas.width == 64)

-- the bits of a mask that a register of this width has
abbrev pub cut : ℕ → ℕ → ℕ
cut width mask = mask % 2 ^ width

abbrev pub no_masks : Masks
no_masks = record { preserve = 0; set = 0 }
