-- The bytes of a generic address (ACPI 6.5, 5.2.3.2), and of the register descriptor that holds one in a `_CPC` package
-- (ACPI 6.5, 6.4.3.7, 6.4.2.9 and 8.4.6.1).
use Rattle.std.specs.Prelude.{◌≡◌, ◌⊎◌, ℕ, ◌%◌, List, [], ◌∷◌, length, take, drop, slice_index, sum}
use Rattle.byteorder.specs.Endian.{little_bytes}
use Rattle.pcc_bytes.specs.Bytes.{number_at}
use Rattle.pcc_gas.specs.declared.address.Gas.{Gas}
use Rattle.pcc_gas.specs.declared.address.Register.{Register}

-- the address that some bytes begin with: four numbers of one byte, and a little-endian one of eight
unfoldable pub address_in : List ℕ → Gas
address_in bytes = record {
  space = slice_index bytes 0;
  width = slice_index bytes 1;
  offset = slice_index bytes 2;
  access = slice_index bytes 3;
  address = number_at 8 4 bytes;
}

-- the bytes of an address
unfoldable pub address_bytes : Gas → List ℕ
address_bytes gas = gas.space ∷ gas.width ∷ gas.offset ∷ gas.access ∷ little_bytes 8 gas.address

-- twelve bytes spell an address
pub record AddressBytes (bytes : List ℕ) (gas : Gas) : Type 0 where
  pub len : length bytes ≡ 12
  pub parts : address_in bytes ≡ gas

-- Seventeen bytes are the descriptor of a register and the end tag after it, whose checksum is not given, as 0, or makes
-- the sum of all of them 0.
pub record RegisterBytes (bytes : List ℕ) (register : Register) : Type 0 where
  pub len : length bytes ≡ 17
  pub head : take 3 bytes ≡ 0x82 ∷ 0x0c ∷ 0x00 ∷ []
  pub address : AddressBytes (take 12 (drop 3 bytes)) register.gas
  pub end_tag : slice_index bytes 15 ≡ 0x79
  pub checksum : slice_index bytes 16 ≡ register.checksum
  pub agrees : (register.checksum ≡ 0) ⊎ (sum bytes % 256 ≡ 0)
