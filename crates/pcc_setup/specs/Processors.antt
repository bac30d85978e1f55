-- The processors of a script: the controller that each package names, and how its registers are bound there.
use Rattle.std.specs.Prelude.{◌≡◌, ◌≤◌, ◌<◌, ◌^◌, ℕ, ◌==◌, ◌&&◌, Bool, if◌then◌else◌}
use Rattle.std.specs.Prelude.{List, ◌++◌, AllPairs, length, slice_get, slice_index_or, take, find, Option, Some, None}
use Rattle.std.specs.List.{AllZip}
use Rattle.aml_pkg.specs.declared.item.Item.{Item}
use Rattle.pcc_gas.specs.declared.address.Gas.{Gas}
use Rattle.cpc_package.specs.Bindings.{ShareBit, bind_fault, binding_of, first_from, gas_of}
use Rattle.cpc_package.specs.Entries.{entries_of}
use Rattle.cpc_package.specs.Packages.{CpcBytes, CpcWrong}
use Rattle.cpc_package.specs.declared.binding.BindFault.{BindFault}
use Rattle.cpc_package.specs.declared.binding.Binding.{Binding}
use Rattle.cpc_package.specs.declared.entry.Entry.{Entry}
use Rattle.cpc_package.specs.declared.fault.CpcFault.{CpcFault}
use Rattle.pcc_setup.specs.declared.opening.Opened.{Opened}
use Rattle.pcc_setup.specs.declared.processor.CpuError.{CpuError}
use Rattle.pcc_setup.specs.declared.processor.CpuError.TheVariants as error
use Rattle.pcc_setup.specs.declared.refusal.CpuFault.{CpuFault}
use Rattle.pcc_setup.specs.declared.refusal.CpuFault.TheVariants as fault
use Rattle.pcc_setup.specs.declared.refusal.Refusal.{Refusal}
use Rattle.pcc_setup.specs.declared.refusal.Refusal.TheVariants as refusal

-- ---- controllers

-- a subspace with this ID, opened for a controller
abbrev pub controls : ℕ → Opened → Bool
controls id o = o.head.cppc && o.head.id == id

-- the controller with this ID among the opened subspaces
abbrev pub controller_on : ℕ → List Opened → Option Opened
controller_on id os = find (controls id) os

-- the communication space of each is small, so that its bits are numbers of 32 bits
abbrev pub HasSmallRoom : List Opened → Type 0
HasSmallRoom os = (i : ℕ) (o : Opened) → slice_get os i ≡ Some o → o.wiring.room < 2 ^ 29

-- ---- one package

-- the subspace of a register in the space of communication channels (ACPI 6.5, 5.2.3.2)
abbrev pub channel_of : Option Gas → Option ℕ
channel_of None = None
channel_of (Some gas) = if gas.space == 0x0a then Some gas.access else None

-- the subspace of a package's first register in that space
unfoldable pub named_subspace : List Entry → Option ℕ
named_subspace entries = first_from (λ n e. channel_of (gas_of e)) 0 entries

abbrev pub controller_named : List Opened → Option ℕ → Option Opened
controller_named os None = None
controller_named os (Some id) = controller_on id os

abbrev pub unfit : Option BindFault → Option CpuFault
unfit None = None
unfit (Some f) = Some (fault.Unfit f)

-- the first reason why entries can't be bound to a controller
abbrev pub fault_on : List Entry → Option Opened → Option CpuFault
fault_on entries None = Some fault.NotOpened
fault_on entries (Some o) = unfit (bind_fault entries o.wiring.room)

-- why the entries of a package aren't bound: they name no opened controller, or their registers don't fit its communication space
abbrev pub entries_fault : List Opened → List Entry → Option CpuFault
entries_fault os entries = fault_on entries (controller_named os (named_subspace entries))

-- bytes are a package and nothing else, which has this binding to the controller that it names
pub record Binds (os : List Opened) (bytes : List ℕ) (b : Binding) : Type 0 where
  pub cpc : Item
  pub spelled : CpcBytes bytes cpc
  pub fits : entries_fault os (entries_of cpc) ≡ None
  pub binding_is : b ≡ binding_of (entries_of cpc)

-- bytes are not a package, more bytes follow one, or its entries aren't bound
pub data Unbound (os : List Opened) (bytes : List ℕ) : CpuFault → Type 0 where
  NoPackage : (wrong : CpcFault) → CpcWrong bytes wrong → Unbound os bytes (fault.Package wrong)
  FollowedBy : (front rest : List ℕ) (cpc : Item) → CpcBytes front cpc → bytes ≡ front ++ rest → 1 ≤ length rest
      → Unbound os bytes (fault.Trailing (length front))
  Misfit : (cpc : Item) → CpcBytes bytes cpc → (wrong : CpuFault) → entries_fault os (entries_of cpc) ≡ Some wrong → Unbound os bytes wrong

-- ---- all packages

-- Each `cpu` line has its binding, and no two processors share a bit of a register.
pub record AreBound (os : List Opened) (lines : List (List ℕ)) (cpus : List Binding) : Type 0 where
  pub each : AllZip (Binds os) lines cpus
  pub apart : AllPairs (λ a b. ShareBit a b → ⊥) cpus

-- the first of these processors that shares a bit with another one
pub record IsFirstSharing (cpus : List Binding) (b : Binding) (cpu : ℕ) : Type 0 where
  pub within : cpu < length cpus
  pub shares : (d : Binding) → ShareBit (slice_index_or cpus cpu d) b
  pub before : (k : ℕ) (d : Binding) → k < cpu → ShareBit (slice_index_or cpus k d) b → ⊥

-- a processor shares a bit with one of these, and this is the first
abbrev pub IsShared : List Binding → Binding → CpuFault → Type 0
IsShared before b f = (cpu : ℕ) × (f ≡ fault.Shares cpu) × IsFirstSharing before b cpu

-- why a `cpu` line after bound ones isn't bound
pub data CpuWrong (os : List Opened) (before : List Binding) (bytes : List ℕ) : CpuFault → Type 0 where
  Alone : (wrong : CpuFault) → Unbound os bytes wrong → CpuWrong os before bytes wrong
  Sharing : (b : Binding) → Binds os bytes b → (cpu : ℕ) → IsFirstSharing before b cpu → CpuWrong os before bytes (fault.Shares cpu)

-- the first `cpu` line that isn't bound, and why
pub data CpuRefused (os : List Opened) (lines : List (List ℕ)) : Refusal → Type 0 where
  FirstUnbound : (i : ℕ) (bytes : List ℕ) (before : List Binding) (wrong : CpuFault) → slice_get lines i ≡ Some bytes
      → AreBound os (take i lines) before → CpuWrong os before bytes wrong → CpuRefused os lines (refusal.Cpu i wrong)

-- ---- what an error reports

-- what holds of the fault, if an error is one
abbrev pub IfFault : (CpuFault → Type 0) → CpuError → Type 0
IfFault holds (error.Fault wrong) = holds wrong
IfFault holds error.NoMemory = Unit {0}
