-- A worked controller.
use Rattle.std.specs.Prelude.{ℕ, ◌+◌, List, [], ◌∷◌}
use Rattle.cpc_package.specs.declared.binding.Binding.{Binding}
use Rattle.cpc_package.specs.declared.binding.Source1.{Source1}
use Rattle.cpc_package.specs.declared.binding.Source1.TheVariants.{Missing, Number, At}
use Rattle.cppc_device.specs.declared.cap.Cap.{Cap}
use Rattle.cppc_device.specs.Devices.{Cppc}

abbrev pub field : ℕ → ℕ → Source1
field at_bit width = At (record { at_bit = at_bit; width = width })

-- a processor by its minimum, its counters, its note of a limit and its reference performance; its range is 10 to 300
abbrev pub processor : Source1 → Source1 → Source1 → Source1 → Source1 → Binding
processor minimum reference_counter delivered_counter limited reference = record {
  subspace = 0;
  sources =
      Missing ∷ Missing ∷ Number 300 ∷ Number 200 ∷ Number 80 ∷ Number 10 ∷ Missing ∷ field 0 32 ∷ minimum ∷ field 64 32 ∷ Missing ∷ Missing
      ∷ Number 0 ∷ reference_counter ∷ delivered_counter ∷ limited ∷ Missing ∷ Number 0 ∷ Missing ∷ Missing ∷ reference ∷ Number 400 ∷ Number 2000 ∷ [];
}

-- the processor of the package of six fields
abbrev pub six_fields : Binding
six_fields = processor (field 32 32) (field 128 64) (field 192 64) (field 96 32) (Number 100)

-- registers of the desired, the minimum and the maximum performance, of the note of a limit, and of both counters, each in one byte and zeros
abbrev pub registers : ℕ → ℕ → ℕ → ℕ → ℕ → ℕ → List ℕ
registers desired minimum maximum limited reference delivered =
    desired ∷ 0 ∷ 0 ∷ 0 ∷ minimum ∷ 0 ∷ 0 ∷ 0 ∷ maximum ∷ 0 ∷ 0 ∷ 0 ∷ limited ∷ 0 ∷ 0 ∷ 0
    ∷ reference ∷ 0 ∷ 0 ∷ 0 ∷ 0 ∷ 0 ∷ 0 ∷ 0 ∷ delivered ∷ 0 ∷ 0 ∷ 0 ∷ 0 ∷ 0 ∷ 0 ∷ 0 ∷ []

abbrev pub cap : ℕ → ℕ → Cap
cap count value = record { count = count; value = value }

-- a controller of one processor
abbrev pub alone : Binding → List Cap → ℕ → List ℕ → Cppc
alone cpu caps count held = record { cpus = cpu ∷ []; caps = caps; count = count; registers = held }

-- a processor of one byte: its desired performance is the low half, its delivered counter the high half
abbrev pub half_bytes : ℕ → Binding
half_bytes start = record {
  subspace = 0;
  sources =
      Missing ∷ Missing ∷ Number 300 ∷ Missing ∷ Missing ∷ Number 0 ∷ Missing ∷ field start 4 ∷ Missing ∷ Missing ∷ Missing ∷ Missing
      ∷ Missing ∷ Missing ∷ field (start + 4) 4 ∷ Missing ∷ Missing ∷ Missing ∷ Missing ∷ Missing ∷ Missing ∷ Missing ∷ Missing ∷ [];
}

-- a processor of revision 2 whose registers are bytes, each at the byte of its entry's number
abbrev pub byte_fields : Binding
byte_fields = record {
  subspace = 0;
  sources =
      Missing ∷ Missing ∷ Number 300 ∷ Number 200 ∷ Number 80 ∷ Number 10 ∷ Missing ∷ field 56 8 ∷ field 64 8 ∷ field 72 8 ∷ field 80 8 ∷ field 88 8
      ∷ Number 0 ∷ field 104 8 ∷ field 112 8 ∷ field 120 8 ∷ field 128 8 ∷ field 136 8 ∷ field 144 8 ∷ field 152 8 ∷ Number 100 ∷ Missing ∷ Missing ∷ [];
}
