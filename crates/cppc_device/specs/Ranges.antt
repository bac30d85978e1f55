-- Whether the performance that is asked of a processor lies in the range that it advertises (ACPI 6.5, 8.4.6.1.2).
use Rattle.std.specs.Prelude.{◌<◌, ◌≤◌, ℕ, List, [], ◌∷◌, length, map, slice_index_or, Option, Some, None}
use Rattle.std.specs.List.{range_with_len}
use Rattle.cpc_package.specs.Bindings.{CanRead, number_in, source_at}
use Rattle.cpc_package.specs.declared.binding.Binding.{Binding}
use Rattle.cpc_package.specs.declared.rows.TheConstants.{ENTRIES}
use Rattle.cppc_device.specs.Devices.{field_in}
use Rattle.cppc_device.specs.declared.range.StartOutside.{StartOutside}

-- the fields of a binding have 1 to 64 bits and lie in a space of len bytes
abbrev pub Fits : ℕ → Binding → Type 0
Fits len cpu = (n : ℕ) → CanRead len (source_at cpu n)

-- numbers that don't fall, from one on; those that aren't there are left out
abbrev pub Rises : ℕ → List (Option ℕ) → Type 0
Rises last [] = Unit {0}
Rises last (None ∷ rest) = Rises last rest
Rises last (Some number ∷ rest) = (last ≤ number) × Rises number rest

-- the lowest, the minimum, the desired, the maximum and the highest performance; a minimum or a maximum is there if it is a field
abbrev pub performances : Binding → List ℕ → List (Option ℕ)
performances cpu space =
    number_in (source_at cpu 5) space
    ∷ field_in (source_at cpu 8) space
    ∷ field_in (source_at cpu 7) space
    ∷ field_in (source_at cpu 9) space
    ∷ number_in (source_at cpu 2) space
    ∷ []

abbrev pub InRange : Binding → List ℕ → Type 0
InRange cpu space = Rises 0 (performances cpu space)

-- the first processor that isn't in its range
pub record IsStartOutside (cpus : List Binding) (space : List ℕ) (outside : StartOutside) : Type 0 where
  pub within : outside.cpu < length cpus
  pub out : (d : Binding) → InRange (slice_index_or cpus outside.cpu d) space → ⊥
  pub before : (k : ℕ) (d : Binding) → k < outside.cpu → InRange (slice_index_or cpus k d) space

-- the number of each entry, in order
abbrev pub values_in : Binding → List ℕ → List (Option ℕ)
values_in cpu space = map (λ n. number_in (source_at cpu n) space) (range_with_len 0 ENTRIES)
