-- The entries of a `_CPC` package, a row for each in their order: its name, and what it holds (ACPI 6.5, 8.4.6.1).
use Rattle.std.specs.Prelude.{ℕ, List, [], ◌∷◌, map, slice_index_or, codes}
use Rattle.cpc_package.specs.declared.rows.Role.{Role}
use Rattle.cpc_package.specs.declared.rows.Role.TheVariants.{Count, Revision, Either, Register}
use Rattle.cpc_package.specs.declared.rows.Row.{Row}

pub record EntryRow : Type 0 where
  pub name : List ℕ
  pub role : Role

abbrev pub row : List ℕ → Role → EntryRow
row name role = record { name = name; role = role }

-- the rows of the program
abbrev pub rows_of : List Row → List EntryRow
rows_of rows = map (λ r. row r.0.now r.1) rows

abbrev pub entry_rows : List EntryRow
entry_rows =
    row (codes "NumEntries") Count
    ∷ row (codes "Revision") Revision
    ∷ row (codes "HighestPerformance") Either
    ∷ row (codes "NominalPerformance") Either
    ∷ row (codes "LowestNonlinearPerformance") Either
    ∷ row (codes "LowestPerformance") Either
    ∷ row (codes "GuaranteedPerformance") Register
    ∷ row (codes "DesiredPerformance") Register
    ∷ row (codes "MinimumPerformance") Register
    ∷ row (codes "MaximumPerformance") Register
    ∷ row (codes "PerformanceReductionTolerance") Register
    ∷ row (codes "TimeWindow") Register
    ∷ row (codes "CounterWraparoundTime") Either
    ∷ row (codes "ReferencePerformanceCounter") Register
    ∷ row (codes "DeliveredPerformanceCounter") Register
    ∷ row (codes "PerformanceLimited") Register
    ∷ row (codes "Enable") Register
    ∷ row (codes "AutonomousSelectionEnable") Either
    ∷ row (codes "AutonomousActivityWindow") Register
    ∷ row (codes "EnergyPerformancePreference") Register
    ∷ row (codes "ReferencePerformance") Either
    ∷ row (codes "LowestFrequency") Either
    ∷ row (codes "NominalFrequency") Either
    ∷ []

abbrev pub row_at : ℕ → EntryRow
row_at n = slice_index_or entry_rows n (row [] Register)

-- the name of an entry, and what it holds, by its number
unfoldable pub name_of : ℕ → List ℕ
name_of n = (row_at n).name

unfoldable pub role_of : ℕ → Role
role_of n = (row_at n).role
