-- What controllers begin with: their caps, the range of each processor at first, and which processors and caps each opened subspace gets.
use Rattle.std.specs.Prelude.{◌≡◌, ◌≤◌, ◌<◌, ◌^◌, ℕ, ◌==◌, ◌&&◌, ◌||◌, not, nat_lt, Bool, true, false}
use Rattle.std.specs.Prelude.{List, All, filter, length, map, slice_get, take, Some, None, IfSome}
use Rattle.std.specs.List.{AllZip, list_all, list_any}
use Rattle.cpc_package.specs.Bindings.{AreProcessors}
use Rattle.cpc_package.specs.declared.binding.Binding.{Binding}
use Rattle.cppc_device.specs.Openings.{device_fault, opening}
use Rattle.cppc_device.specs.Ranges.{Fits, InRange}
use Rattle.cppc_device.specs.declared.cap.Cap.{Cap}
use Rattle.pcc_script.specs.declared.scenario.CapLine.{CapLine}
use Rattle.pcc_setup.specs.declared.opening.Opened.{Opened}
use Rattle.pcc_setup.specs.declared.places.CpuPlace.{CpuPlace}
use Rattle.pcc_setup.specs.declared.refusal.Refusal.{Refusal}
use Rattle.pcc_setup.specs.declared.refusal.Refusal.TheVariants as refusal
use Rattle.pcc_setup.specs.Processors.{controller_on, controls}

-- ---- caps

-- a cap is on another subspace, or begins after this one
abbrev pub is_elsewhere : CapLine → CapLine → Bool
is_elsewhere c earlier = not (earlier.id == c.id) || nat_lt earlier.count c.count

-- a cap is on an opened controller, and begins after each earlier one on it
abbrev pub is_cap_right : List Opened → List CapLine → CapLine → Bool
is_cap_right os before c = list_any (controls c.id) os && list_all (is_elsewhere c) before

-- each of the first `count` caps is right
abbrev pub AreCapsRight : List Opened → List CapLine → ℕ → Type 0
AreCapsRight os caps count = (i : ℕ) (c : CapLine) → i < count → slice_get caps i ≡ Some c → is_cap_right os (take i caps) c ≡ true

-- the first cap that is wrong
pub data CapRefused (os : List Opened) (caps : List CapLine) : Refusal → Type 0 where
  FirstCap : (i : ℕ) (c : CapLine) → slice_get caps i ≡ Some c → AreCapsRight os caps i → is_cap_right os (take i caps) c ≡ false
      → CapRefused os caps (refusal.Cap i)

-- ---- ranges

-- the registers of a controller at first: its image, and zeros after it
abbrev pub registers_of : Opened → List ℕ
registers_of o = opening o.wiring.room o.image

-- a processor is in its range at first
abbrev pub StartsInside : List Opened → Binding → Type 0
StartsInside os b = IfSome (controller_on b.subspace os) (λ o. InRange b (registers_of o))

-- a processor's registers can be looked at: they lie in the communication space, and so does the image
pub record CanLook (b : Binding) (o : Opened) : Type 0 where
  pub fits : Fits o.wiring.room b
  pub short : length o.image ≤ o.wiring.room

abbrev pub IsStarting : List Opened → Binding → Type 0
IsStarting os b = IfSome (controller_on b.subspace os) (CanLook b)

-- each of the first `count` processors is
abbrev pub StartInside : List Opened → List Binding → ℕ → Type 0
StartInside os cpus count = (i : ℕ) (b : Binding) → i < count → slice_get cpus i ≡ Some b → StartsInside os b

-- the first processor that isn't
pub data StartRefused (os : List Opened) (cpus : List Binding) : Refusal → Type 0 where
  FirstOutside : (i : ℕ) (b : Binding) → slice_get cpus i ≡ Some b → StartInside os cpus i → (StartsInside os b → ⊥)
      → StartRefused os cpus (refusal.Start i)

-- ---- what each opened subspace gets

-- the processors of the subspace with this ID
abbrev pub cpus_on : ℕ → List Binding → List Binding
cpus_on id cpus = filter (λ b. b.subspace == id) cpus

abbrev pub cap_of : CapLine → Cap
cap_of c = record { count = c.count; value = c.value }

-- the caps on it
abbrev pub caps_on : ℕ → List CapLine → List Cap
caps_on id caps = map cap_of (filter (λ c. c.id == id) caps)

abbrev pub equipped : List Binding → List CapLine → Opened → Opened
equipped cpus caps o = record o { cpus = cpus_on o.head.id cpus; caps = caps_on o.head.id caps }

-- the place among the opened subspaces of the one that has a processor, and the processor's number there
pub record IsPlaceOf (opened : List Opened) (b : Binding) (place : CpuPlace) : Type 0 where
  pub subspace : Opened
  pub there : slice_get opened place.opened ≡ Some subspace
  pub cpu : slice_get subspace.cpus place.cpu ≡ Some b

-- a processor has a controller among the opened subspaces, and this one has all processors with its ID
pub record IsHoused (opened : List Opened) (cpus : List Binding) (b : Binding) : Type 0 where
  pub subspace : Opened
  pub is : controller_on b.subspace opened ≡ Some subspace
  pub all : subspace.cpus ≡ cpus_on b.subspace cpus
  pub few : length subspace.cpus < 2 ^ 32

-- each processor's place
abbrev pub ArePlaces : List Opened → List Binding → List CpuPlace → Type 0
ArePlaces opened cpus places = AllZip (IsPlaceOf opened) cpus places

-- A controller can begin on an opened subspace: its processors are those of the communication space and are in range in its first registers,
-- and neither its image nor its caps have a fault.
pub record CanBegin (o : Opened) : Type 0 where
  pub processors : AreProcessors o.wiring.room o.cpus
  pub inside : All (λ b. InRange b (registers_of o)) o.cpus
  pub right : device_fault o.wiring.room o.image o.caps ≡ None
