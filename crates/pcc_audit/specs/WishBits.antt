-- Which bits a command that writes may change, bit by bit.
use Rattle.std.specs.Prelude.{◌≡◌, ◌<◌, ◌≤◌, ℕ, List}
use Rattle.pcc_gas.specs.Fields.{InField, bit_of}
use Rattle.cpc_package.specs.declared.binding.Binding.{Binding}
use Rattle.cpc_package.specs.declared.binding.Source1.{Source1}
use Rattle.cpc_package.specs.declared.binding.Source1.TheVariants.{Missing, Number, At}
use Rattle.cppc_headline.specs.Journals.{IsWishBit}

-- a bit belongs to the field of a source
abbrev pub IsBitOf : Source1 → ℕ → Type 0
IsBitOf Missing bit = ⊥
IsBitOf (Number value) bit = ⊥
IsBitOf (At field) bit = InField field bit

-- of the bits from one on and below another, those that differ belong to a wish of the processor
pub record WishBitsDiffer (cpu : Binding) (before input : List ℕ) (first last : ℕ) : Type 0 where
  pub same : (bit : ℕ) → first ≤ bit → bit < last → (IsWishBit cpu bit → ⊥) → bit_of input bit ≡ bit_of before bit
