-- The word that holds a byte of shared memory.
use Rattle.std.specs.Prelude.{ℕ, ◌+◌, ◌-◌, ◌/◌, ◌==◌, nat_le, nat_lt, Bool, true, false, if◌then◌else◌, Option, Some, None}
use Rattle.pcc_steps.specs.declared.wiring.Wiring.{Wiring}
use Rattle.pcc_steps.specs.Kinds.{is_headed}
use Rattle.pcc_steps.specs.Wires.{block_of}

-- The place of the word with this number, counted from the base, where the block has so many words. The words of the block stand from
-- place 8 on; on types 0 to 2 the header precedes them in memory, and has place 0.
abbrev pub place_in : Bool → ℕ → ℕ → Option ℕ
place_in true block number = if number == 0 then Some 0 else if nat_le number block then Some (7 + number) else None
place_in false block number = if nat_lt number block then Some (8 + number) else None

-- the place of the word that holds the byte at an address
abbrev pub place_at : Wiring → ℕ → ℕ → Option ℕ
place_at w base address = if nat_le base address then place_in (is_headed w.kind) (block_of w) ((address - base) / 8) else None
