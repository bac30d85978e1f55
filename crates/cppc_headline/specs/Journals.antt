-- What the journal of a controller of performance is worth beside its headline: which inputs its commands had (ACPI 6.5, 8.4.6.1.2).
use Rattle.std.specs.Prelude.{◌≡◌, ◌<◌, ◌≤◌, ℕ, List, [], ◌∷◌, All, Contains, Option, IfSome, length}
use Rattle.std.specs.List.{AllByRecursion}
use Rattle.pcc_bytes.specs.Bytes.{IsBytes}
use Rattle.pcc_gas.specs.Fields.{InField, bit_of}
use Rattle.pcc_gas.specs.declared.field.Field.{Field}
use Rattle.pcc_journal.specs.declared.record.Record.{Record}
use Rattle.pcc_journal.specs.declared.record.Pending.{Pending}
use Rattle.cpc_package.specs.Bindings.{source_at}
use Rattle.cpc_package.specs.declared.binding.Binding.{Binding}
use Rattle.cpc_package.specs.declared.binding.Source1.TheVariants.{At}
use Rattle.cppc_device.specs.Ranges.{InRange}

-- ---- in range

-- every processor is in its range
abbrev pub AreInRange : List Binding → List ℕ → Type 0
AreInRange cpus space = All (λ cpu. InRange cpu space) cpus

-- the input of each command that writes, of the pending one too, has every processor in its range
abbrev pub InRangeAll : List Binding → List Record → Option Pending → Type 0
InRangeAll cpus records pending =
    AllByRecursion (λ r. r.code ≡ 1 → AreInRange cpus r.input) records × IfSome pending (λ p. p.code ≡ 1 → AreInRange cpus p.input)

-- ---- untouched

-- a bit of the field of the minimum, the desired or the maximum performance (entries 8, 7 and 9) of a processor
pub record IsWishBit (cpu : Binding) (bit : ℕ) : Type 0 where
  pub n : ℕ
  pub from : 7 ≤ n
  pub below : n < 10
  pub field : Field
  pub at : source_at cpu n ≡ At field
  pub inside : InField field bit

-- two spaces differ at most in these fields of one of the processors
pub record DifferInWish (cpus : List Binding) (before input : List ℕ) : Type 0 where
  pub cpu : Binding
  pub one : Contains cpus cpu
  pub len : length input ≡ length before
  pub bytes : IsBytes input
  pub others : (bit : ℕ) → (IsWishBit cpu bit → ⊥) → bit_of input bit ≡ bit_of before bit

-- The input of a command that reads is the space before it. That of one that writes differs from it at most in a wish.
pub record IsUntouched (cpus : List Binding) (before : List ℕ) (code : ℕ) (input : List ℕ) : Type 0 where
  pub reads : code ≡ 0 → input ≡ before
  pub writes : code ≡ 1 → DifferInWish cpus before input

-- it is so of each command, of the pending one too; the space before it is the last output, first the opening space
abbrev pub Untouched : List Binding → List ℕ → List Record → Option Pending → Type 0
Untouched cpus before [] pending = IfSome pending (λ p. IsUntouched cpus before p.code p.input)
Untouched cpus before (r ∷ rs) pending = IsUntouched cpus before r.code r.input × Untouched cpus r.output rs pending
