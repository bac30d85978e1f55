-- Changes of the fields of processors are apart.
use Rattle.std.proofs.Common.{◌≡◌, ℕ, ◌+◌, ◌<◌, ◌≤◌, List, [], ◌∷◌, ◌++◌, arith}
use Rattle.std.specs.List.{AllByRecursion}
use Rattle.pcc_gas.specs.Changes.{AreApartFrom, IsApartFrom}
use Rattle.pcc_gas.specs.Fields.{AreApart}
use Rattle.pcc_gas.specs.declared.change.Change.{Change}
use Rattle.pcc_gas.specs.declared.field.Field.{Field}
use Rattle.cpc_package.specs.Bindings.{IsRight, ShareBit, source_at}
use Rattle.cpc_package.specs.declared.binding.Binding.{Binding}
use Rattle.cpc_package.specs.declared.binding.Source1.{Source1}
use Rattle.cpc_package.specs.declared.binding.Source1.TheVariants.{Missing, Number, At}
use Rattle.cppc_device.specs.Devices.{put_into, taken_from}

-- ---- changes of the entries of a processor, from one number up to another

pub record Of (cpu : Binding) (low high : ℕ) (c : Change) : Type 0 where
  pub n : ℕ
  pub from : low ≤ n
  pub below : n < high
  pub at : source_at cpu n ≡ At c.field

abbrev pub AllOf : Binding → ℕ → ℕ → List Change → Type 0
AllOf cpu low high changes = AllByRecursion (λ c. Of cpu low high c) changes

pub put_by : (cpu : Binding) (n number : ℕ) (s : Source1) → source_at cpu n ≡ s → AllOf cpu n (n + 1) (put_into s number)
put_by cpu n number Missing is = tt
put_by cpu n number (Number value) is = tt
put_by cpu n number (At field) is = (record { n = n; from = omega arith; below = omega arith; at = is }, tt)

pub taken_by : (cpu : Binding) (n : ℕ) (space : List ℕ) (s : Source1) → source_at cpu n ≡ s → AllOf cpu n (n + 1) (taken_from space s)
taken_by cpu n space Missing is = tt
taken_by cpu n space (Number value) is = tt
taken_by cpu n space (At field) is = (record { n = n; from = omega arith; below = omega arith; at = is }, tt)

pub all_of-append : (cpu : Binding) (low high : ℕ) (a b : List Change) → AllOf cpu low high a → AllOf cpu low high b → AllOf cpu low high (a ++ b)
all_of-append cpu low high [] b p q = q
all_of-append cpu low high (c ∷ cs) b p q = (p.0, all_of-append cpu low high cs b p.1 q)

pub all_of-wider : (cpu : Binding) (low high lower higher : ℕ) (changes : List Change) → lower ≤ low → high ≤ higher → AllOf cpu low high changes
    → AllOf cpu lower higher changes
all_of-wider cpu low high lower higher [] l h of = tt
all_of-wider cpu low high lower higher (c ∷ cs) l h of =
    let o : Of cpu low high c = of.0 in
    let from : low ≤ o.n = o.from in
    let below : o.n < high = o.below in
    (record { n = o.n; from = omega arith; below = omega arith; at = o.at }, all_of-wider cpu low high lower higher cs l h of.1)

-- ---- apart changes

other_way : (f g : Field) → AreApart f g → AreApart g f
other_way f g apart bit i j = apart bit j i

-- of a field that is apart from each field of the changes
from_each : {P : Change → Type 0} (field : Field) (changes : List Change) → AllByRecursion P changes → ((c : Change) → P c → AreApart field c.field) → IsApartFrom field changes
from_each {P = P} field [] all each = tt
from_each {P = P} field (c ∷ cs) all each = (each c all.0, from_each {P = P} field cs all.1 each)

-- of later changes
all_from : {P Q : Change → Type 0} (first later : List Change) → AllByRecursion P first → AllByRecursion Q later
    → ((a b : Change) → P a → Q b → AreApart a.field b.field) → AreApartFrom first later
all_from {P = P} {Q = Q} first [] all_first all_later each = tt
all_from {P = P} {Q = Q} first (c ∷ cs) all_first all_later each = (
  from_each {P = P} c.field first all_first (λ a is. other_way a.field c.field (each a c is all_later.0)),
  all_from {P = P} {Q = Q} first cs all_first all_later.1 each,
)

-- entries of one processor
pub apart_entries : (cpu : Binding) (low mid high : ℕ) (first later : List Change) → IsRight cpu → AllOf cpu low mid first → AllOf cpu mid high later
    → AreApartFrom first later
apart_entries cpu low mid high first later right of_first of_later =
    all_from {P = λ c. Of cpu low mid c} {Q = λ c. Of cpu mid high c} first later of_first of_later (λ a b p q.
    let below : p.n < mid = p.below in
    let from : mid ≤ q.n = q.from in
    right.apart p.n q.n a.field b.field (omega arith) p.at q.at)

-- entries of two processors
pub apart_cpus : (a b : Binding) (low high lower higher : ℕ) (first later : List Change) → a.subspace ≡ b.subspace → (ShareBit a b → ⊥)
    → AllOf a low high first → AllOf b lower higher later → AreApartFrom first later
apart_cpus a b low high lower higher first later same none of_first of_later =
    all_from {P = λ c. Of a low high c} {Q = λ c. Of b lower higher c} first later of_first of_later (λ x y p q bit i j.
    none (record {
      subspace = same;
      m = p.n;
      n = q.n;
      f = x.field;
      g = y.field;
      first = p.at;
      second = q.at;
      bit = bit;
      in_first = i;
      in_second = j;
    }))

apart_each : (field : Field) (a b : List Change) → IsApartFrom field a → IsApartFrom field b → IsApartFrom field (a ++ b)
apart_each field [] b p q = q
apart_each field (c ∷ cs) b p q = (p.0, apart_each field cs b p.1 q)

pub apart-append : (a b later : List Change) → AreApartFrom a later → AreApartFrom b later → AreApartFrom (a ++ b) later
apart-append a b [] p q = tt
apart-append a b (c ∷ cs) p q = (apart_each c.field a b p.0 q.0, apart-append a b cs p.1 q.1)
