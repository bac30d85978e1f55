-- A controller of performance (ACPI 6.5, 8.4.6): what its two commands make of its registers. Each new value is made of the old
-- registers, for all processors at once.
use Rattle.std.specs.Prelude.{◌<◌, ◌+◌, ◌-◌, ◌%◌, ◌^◌, nat_le, nat_lt, min, bit_or, if◌then◌else◌, ℕ, List, [], ◌∷◌, ◌++◌, AllPairs, flat_map, fold, length, unwrap_or, Option, Some, None}
use Rattle.pcc_bytes.specs.Bytes.{IsBytes}
use Rattle.pcc_gas.specs.Changes.{change, with_changes}
use Rattle.pcc_gas.specs.Fields.{field_value}
use Rattle.pcc_gas.specs.declared.change.Change.{Change}
use Rattle.cpc_package.specs.Bindings.{AreProcessors, number_in, or_else, source_at}
use Rattle.cpc_package.specs.declared.binding.Binding.{Binding}
use Rattle.cpc_package.specs.declared.binding.Source1.{Source1}
use Rattle.cpc_package.specs.declared.binding.Source1.TheVariants.{Missing, Number, At}
use Rattle.cppc_device.specs.declared.cap.Cap.{Cap}

-- A controller: its processors, its caps in order, how many good commands it has executed, and its registers.
pub record Cppc : Type 0 where
  pub cpus : List Binding
  pub caps : List Cap
  pub count : ℕ
  pub registers : List ℕ

-- a controller that can be: its processors are those of its registers, and its caps begin one after the other
pub record IsDevice (device : Cppc) : Type 0 where
  pub cpus : AreProcessors (length device.registers) device.cpus
  pub caps : AllPairs (λ a b. a.count < b.count) device.caps
  pub bytes : IsBytes device.registers

-- the value of the last cap that has begun after so many good commands
abbrev pub in_force : List Cap → ℕ → Option ℕ
in_force caps count = fold (λ held cap. if nat_le cap.count count then Some cap.value else held) None caps

-- the number of an entry, and 0 where there is none
abbrev pub entry_number : Binding → ℕ → List ℕ → ℕ
entry_number cpu n space = unwrap_or (number_in (source_at cpu n) space) 0

-- a number put into a source that is a field, modulo 2 to its width
abbrev pub put_into : Source1 → ℕ → List Change
put_into Missing number = []
put_into (Number value) number = []
put_into (At field) number = change field (number % 2 ^ field.width) ∷ []

-- a source's field taken from another space
abbrev pub taken_from : List ℕ → Source1 → List Change
taken_from space Missing = []
taken_from space (Number value) = []
taken_from space (At field) = change field (field_value space field) ∷ []

-- the desired performance, or the cap where it is less
abbrev pub capped : Option ℕ → ℕ → ℕ
capped None desired = desired
capped (Some cap) desired = min desired cap

-- the reference performance: entry 20, or else entry 3
abbrev pub reference_of : Binding → List ℕ → ℕ
reference_of cpu space = unwrap_or (or_else (number_in (source_at cpu 20) space) (number_in (source_at cpu 3) space)) 0

-- the number in a source that is a field
abbrev pub field_in : Source1 → List ℕ → Option ℕ
field_in Missing space = None
field_in (Number value) space = None
field_in (At field) space = Some (field_value space field)

-- a bit, if the cap is below a performance
abbrev pub excursion : ℕ → ℕ → Option ℕ → ℕ
excursion bit cap None = 0
excursion bit cap (Some performance) = if nat_lt cap performance then bit else 0

-- the bits of entry 15 that a cap sets: bit 0 for the desired performance, bit 1 for the minimum (8.4.6.1.2.5)
abbrev pub excursions : Option ℕ → Option ℕ → Option ℕ → ℕ
excursions None desired minimum = 0
excursions (Some cap) desired minimum = excursion 1 cap desired + excursion 2 cap minimum

-- What code 0 changes of a processor: its counters of reference and of delivered performance grow, and a cap that limits it is noted.
abbrev pub sampled_of : Option ℕ → List ℕ → Binding → List Change
sampled_of cap registers cpu =
    put_into (source_at cpu 13) (entry_number cpu 13 registers + reference_of cpu registers)
    ++ (put_into (source_at cpu 14) (entry_number cpu 14 registers + capped cap (entry_number cpu 7 registers))
    ++ put_into (source_at cpu 15) (bit_or (entry_number cpu 15 registers)
    (excursions cap (number_in (source_at cpu 7) registers) (field_in (source_at cpu 8) registers))))

unfoldable pub sampled : Cppc → List Change
sampled device = flat_map (sampled_of (in_force device.caps device.count) device.registers) device.cpus

-- the entries that an operating system writes, and the note of a limit, which it clears
abbrev pub written_entries : List ℕ
written_entries = 7 ∷ 8 ∷ 9 ∷ 10 ∷ 11 ∷ 15 ∷ 16 ∷ 17 ∷ 18 ∷ 19 ∷ []

-- What code 1 changes of a processor: these fields are taken from the space.
abbrev pub written_of : List ℕ → Binding → List Change
written_of space cpu = flat_map (λ n. taken_from space (source_at cpu n)) written_entries

unfoldable pub written : Cppc → List ℕ → List Change
written device space = flat_map (written_of space) device.cpus

-- the controller after a good command with these changes
abbrev pub after_changes : Cppc → List Change → Cppc
after_changes device changes = record {
  cpus = device.cpus;
  caps = device.caps;
  count = min (device.count + 1) (2 ^ 64 - 1);
  registers = with_changes changes device.registers;
}
