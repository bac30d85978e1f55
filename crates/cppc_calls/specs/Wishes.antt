-- Requests of performance (ACPI 6.5, 8.4.6.1.2): why one is refused, and what it changes.
use Rattle.std.specs.Prelude.{◌≡◌, ◌<◌, ◌^◌, nat_le, nat_lt, if◌then◌else◌, ℕ, List, [], ◌∷◌, ◌++◌, Option, Some, None}
use Rattle.std.specs.Option.{option_or}
use Rattle.pcc_gas.specs.Changes.{change, with_changes}
use Rattle.pcc_gas.specs.declared.change.Change.{Change}
use Rattle.cpc_package.specs.Bindings.{number_in, source_at}
use Rattle.cpc_package.specs.declared.binding.Binding.{Binding}
use Rattle.cpc_package.specs.declared.binding.Source1.{Source1}
use Rattle.cpc_package.specs.declared.binding.Source1.TheVariants.{Missing, Number, At}
use Rattle.cppc_device.specs.Devices.{field_in}
use Rattle.cppc_device.specs.Ranges.{InRange}
use Rattle.cppc_calls.specs.declared.wish.Wish.{Wish}
use Rattle.cppc_calls.specs.declared.wish.SetRefusal.{SetRefusal}
use Rattle.cppc_calls.specs.declared.wish.SetRefusal.TheVariants.{NoRegister, TooWide, BelowLowest, AboveHighest, MinAboveDesired, DesiredAboveMax}

-- what holds after a request: the number that is wished, or else the present one, if there is a field
abbrev pub asked : Option ℕ → Source1 → List ℕ → Option ℕ
asked None source space = field_in source space
asked (Some value) source space = Some value

-- ---- the tests, in their order

-- a number is wished and the entry is no field
abbrev pub register_fault : Option ℕ → Source1 → ℕ → Option SetRefusal
register_fault None source entry = None
register_fault (Some value) Missing entry = Some (NoRegister entry)
register_fault (Some value) (Number n) entry = Some (NoRegister entry)
register_fault (Some value) (At field) entry = None

-- a number that is wished doesn't fit into its field
abbrev pub width_fault : Option ℕ → Source1 → ℕ → Option SetRefusal
width_fault None source entry = None
width_fault (Some value) Missing entry = None
width_fault (Some value) (Number n) entry = None
width_fault (Some value) (At field) entry = if nat_lt value (2 ^ field.width) then None else Some (TooWide entry)

abbrev pub below_fault : Option ℕ → Option ℕ → Option SetRefusal
below_fault None value = None
below_fault (Some lowest) None = None
below_fault (Some lowest) (Some value) = if nat_le lowest value then None else Some (BelowLowest value lowest)

abbrev pub above_fault : Option ℕ → Option ℕ → Option SetRefusal
above_fault None value = None
above_fault (Some highest) None = None
above_fault (Some highest) (Some value) = if nat_le value highest then None else Some (AboveHighest value highest)

abbrev pub min_fault : Option ℕ → ℕ → Option SetRefusal
min_fault None desired = None
min_fault (Some min) desired = if nat_le min desired then None else Some (MinAboveDesired min desired)

abbrev pub max_fault : ℕ → Option ℕ → Option SetRefusal
max_fault desired None = None
max_fault desired (Some max) = if nat_le desired max then None else Some (DesiredAboveMax desired max)

-- the first test that fails of a minimum, a desired performance and a maximum, between the lowest and the highest performance
abbrev pub order_fault : Option ℕ → Option ℕ → Option ℕ → ℕ → Option ℕ → Option SetRefusal
order_fault lowest highest min desired max =
    option_or (below_fault lowest min) (option_or (below_fault lowest (Some desired)) (option_or (below_fault lowest max)
    (option_or (above_fault highest min) (option_or (above_fault highest (Some desired)) (option_or (above_fault highest max)
    (option_or (min_fault min desired) (max_fault desired max)))))))

-- the first test of a wish that fails
abbrev pub wish_fault : Binding → List ℕ → Wish → Option SetRefusal
wish_fault binding space wish =
    option_or (register_fault wish.min (source_at binding 8) 8) (option_or (register_fault wish.max (source_at binding 9) 9)
    (option_or (width_fault wish.min (source_at binding 8) 8) (option_or (width_fault (Some wish.desired) (source_at binding 7) 7)
    (option_or (width_fault wish.max (source_at binding 9) 9)
    (order_fault (number_in (source_at binding 5) space) (number_in (source_at binding 2) space)
    (asked wish.min (source_at binding 8) space) wish.desired (asked wish.max (source_at binding 9) space))))))

-- ---- what a wish changes

abbrev pub wished : Option ℕ → Source1 → List Change
wished None source = []
wished (Some value) Missing = []
wished (Some value) (Number n) = []
wished (Some value) (At field) = change field value ∷ []

abbrev pub wish_changes : Binding → Wish → List Change
wish_changes binding wish =
    wished (Some wish.desired) (source_at binding 7) ++ (wished wish.min (source_at binding 8) ++ wished wish.max (source_at binding 9))

-- the space with the wish put
unfoldable pub with_wish : Binding → Wish → List ℕ → List ℕ
with_wish binding wish space = with_changes (wish_changes binding wish) space

-- ---- which wishes can be put

-- the entry of a number that is wished is a field
abbrev pub IsThere : Option ℕ → Source1 → Type 0
IsThere None source = Unit {0}
IsThere (Some value) Missing = ⊥
IsThere (Some value) (Number n) = ⊥
IsThere (Some value) (At field) = Unit {0}

-- a number that is wished fits into its field
abbrev pub FitsInto : Option ℕ → Source1 → Type 0
FitsInto None source = Unit {0}
FitsInto (Some value) Missing = Unit {0}
FitsInto (Some value) (Number n) = Unit {0}
FitsInto (Some value) (At field) = value < 2 ^ field.width

-- The fields that are wished are there, the numbers fit, and the processor is in its range after it.
pub record CanPut (binding : Binding) (space : List ℕ) (wish : Wish) : Type 0 where
  pub min_there : IsThere wish.min (source_at binding 8)
  pub max_there : IsThere wish.max (source_at binding 9)
  pub min_fits : FitsInto wish.min (source_at binding 8)
  pub desired_fits : FitsInto (Some wish.desired) (source_at binding 7)
  pub max_fits : FitsInto wish.max (source_at binding 9)
  pub in_range : InRange binding (with_wish binding wish space)
