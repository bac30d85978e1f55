-- Fields of a space that are changed at once: each bit is that of the first change whose field has it.
use Rattle.std.specs.Prelude.{◌≡◌, ◌<◌, ◌≤◌, ◌+◌, ◌-◌, ◌*◌, ◌^◌, ◌&&◌, nat_le, nat_lt, if◌then◌else◌, Bool, ℕ, zero, suc, List, [], ◌∷◌, length}
use Rattle.std.specs.Int.{bit_at}
use Rattle.std.specs.List.{AllByRecursion}
use Rattle.pcc_gas.specs.declared.change.Change.{Change}
use Rattle.pcc_gas.specs.declared.field.Field.{Field}
use Rattle.pcc_gas.specs.Fields.{AreApart, InField, bit_of, field_value}

abbrev pub change : Field → ℕ → Change
change field value = record { field = field; value = value }

-- whether a bit belongs to a field
abbrev pub is_in : Field → ℕ → Bool
is_in field bit = nat_le field.at_bit bit && nat_lt bit (field.at_bit + field.width)

-- a bit after the changes: that of the first change whose field has it, else the one before
abbrev pub changed_bit : List Change → List ℕ → ℕ → ℕ
changed_bit [] space bit = bit_of space bit
changed_bit (c ∷ cs) space bit = if is_in c.field bit then bit_at c.value (bit - c.field.at_bit) else changed_bit cs space bit

-- the number of n bits, the lowest first
abbrev pub number_by : (ℕ → ℕ) → ℕ → ℕ
number_by bit zero = 0
number_by bit (suc k) = number_by bit k + bit k * 2 ^ k

-- n bytes by their bits, from one byte on
abbrev pub bytes_by : (ℕ → ℕ) → ℕ → ℕ → List ℕ
bytes_by bit first zero = []
bytes_by bit first (suc n) = number_by (λ k. bit (8 * first + k)) 8 ∷ bytes_by bit (first + 1) n

-- a space after the changes
unfoldable pub with_changes : List Change → List ℕ → List ℕ
with_changes changes space = bytes_by (changed_bit changes space) 0 (length space)

-- the field of a change lies in a space of len bytes, and the number fits into the field
pub record FitIn (len : ℕ) (c : Change) : Type 0 where
  pub inside : c.field.at_bit + c.field.width ≤ 8 * len
  pub fits : c.value < 2 ^ c.field.width

-- a field has no bit of the fields of changes
abbrev pub IsApartFrom : Field → List Change → Type 0
IsApartFrom field changes = AllByRecursion (λ c. AreApart field c.field) changes

-- no field of later changes has a bit of the fields of the first ones
abbrev pub AreApartFrom : List Change → List Change → Type 0
AreApartFrom first later = AllByRecursion (λ c. IsApartFrom c.field first) later

-- a bit is in none of the fields of changes
abbrev pub IsOutside : ℕ → List Change → Type 0
IsOutside bit changes = AllByRecursion (λ c. InField c.field bit → ⊥) changes

-- the number of each change is the one that its field has in a space
abbrev pub TakeFrom : List ℕ → List Change → Type 0
TakeFrom space changes = AllByRecursion (λ c. c.value ≡ field_value space c.field) changes
