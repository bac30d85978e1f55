-- Why a structure can't be opened: the first of its faults, in their order.
use Rattle.std.specs.Prelude.{◌≡◌, ℕ, ◌==◌, ◌&&◌, ◌||◌, not, Bool, true, false, if◌then◌else◌, List, [], ◌∷◌, Option, Some, None, Result, Ok, Err, bit_and, bit_or}
use Rattle.pcc_gas.specs.declared.address.Gas.{Gas}
use Rattle.pcc_steps.specs.declared.wiring.Wiring.{Wiring}
use Rattle.pcc_steps.specs.Kinds.{is_headed, is_initiator, is_responder}
use Rattle.pcct_table.specs.declared.subspace.Subspace.{Subspace}
use Rattle.pcct_table.specs.declared.subspace.Subspace.TheVariants.{Other}
use Rattle.pcct_table.specs.Subspaces.{memory_len_of}
use Rattle.pcc_wiring.specs.declared.fault.Asks.{Asks}
use Rattle.pcc_wiring.specs.declared.fault.Asks.TheVariants.{System, Platform}
use Rattle.pcc_wiring.specs.declared.fault.Role.{Role}
use Rattle.pcc_wiring.specs.declared.fault.Role.TheVariants.{Doorbell, Acknowledge, Check, Update, Error}
use Rattle.pcc_wiring.specs.declared.fault.WiringFault.{WiringFault}
use Rattle.pcc_wiring.specs.declared.fault.WiringFault.TheVariants.{UnknownType, WrongRole, SpaceTooSmall, RegisterSpace, RegisterWidth, NoCheckMask, NeverClears, NeverSets}
use Rattle.pcc_wiring.specs.declared.roles.Roles.{Roles}
use Rattle.pcc_wiring.specs.declared.roles.Watched.{Watched}
use Rattle.pcc_wiring.specs.declared.roles.Written.{Written}
use Rattle.pcc_wiring.specs.Registers.{is_absent, is_plain, is_reachable}
use Rattle.pcc_wiring.specs.Roles.{roles_of}
use Rattle.pcc_wiring.specs.Wirings.{wiring_with}

-- a fault, where something doesn't hold
abbrev pub unless : Bool → WiringFault → Option WiringFault
unless holds fault = if holds then None else Some fault

-- the first that is one
abbrev pub first_of : List (Option WiringFault) → Option WiringFault
first_of [] = None
first_of (None ∷ more) = first_of more
first_of (Some fault ∷ more) = Some fault

-- the platform asks on type 4, the operating system on the others
abbrev pub is_asked_by : ℕ → Asks → Bool
is_asked_by kind System = not (is_responder kind)
is_asked_by kind Platform = is_responder kind

-- the side that asks: the platform on type 4, but never of a controller of processor performance
abbrev pub asks_of : ℕ → Bool → Asks
asks_of kind cppc = if is_responder kind && not cppc then Platform else System

-- ---- registers

-- the space of a register, then its width; where it may be absent, an absent one has no fault
abbrev pub register_fault : Role → Bool → Gas → Option WiringFault
register_fault role may_lack gas =
    if may_lack && is_absent gas then None
    else first_of (unless (is_reachable gas) (RegisterSpace role) ∷ unless (is_plain gas) (RegisterWidth role) ∷ [])

abbrev pub written_fault : Role → Bool → Option Written → Option WiringFault
written_fault role may_lack None = None
written_fault role may_lack (Some r) = register_fault role may_lack r.gas

abbrev pub watched_fault : Role → Bool → Option Watched → Option WiringFault
watched_fault role may_lack None = None
watched_fault role may_lack (Some r) = register_fault role may_lack r.gas

-- the registers in the order of their roles: a doorbell is there but on type 4, a check and an update register are there
abbrev pub registers_fault : ℕ → Roles → Option WiringFault
registers_fault kind roles = first_of (
    register_fault Doorbell (is_responder kind) roles.doorbell.gas
    ∷ written_fault Acknowledge true roles.acknowledge
    ∷ watched_fault Check false roles.check
    ∷ written_fault Update false roles.update
    ∷ watched_fault Error true roles.error
    ∷ [])

-- ---- completion

-- completion of types 3 to 5 can be seen; on type 3 the asking side's write of a joined register clears it whatever it holds,
-- on type 4 the answering side's write sets it
abbrev pub masks_fault : Wiring → Option WiringFault
masks_fault w = first_of (
    unless (is_headed w.kind || not (w.check_mask == 0)) NoCheckMask
    ∷ unless (not (is_initiator w.kind && w.joined) || bit_and (bit_or w.update.preserve w.update.set) w.check_mask == 0) NeverClears
    ∷ unless (not (is_responder w.kind && w.joined) || not (bit_and w.update.set w.check_mask == 0)) NeverSets
    ∷ [])

-- ---- all of them

-- the first fault of a structure that is wired so, where this side is to ask
abbrev pub fault_by : Asks → ℕ → Roles → Wiring → Option WiringFault
fault_by asks len roles w = first_of (
    unless (is_asked_by w.kind asks) WrongRole
    ∷ unless (not (w.room == 0)) (SpaceTooSmall len)
    ∷ registers_fault w.kind roles
    ∷ masks_fault w
    ∷ [])

-- the first fault of a structure, where this side is to ask: that its type is unknown, or one of a known type
abbrev pub fault_of : Asks → Subspace → Option WiringFault
fault_of asks (Other o) = Some (UnknownType o.kind)
fault_of asks s = fault_by asks (memory_len_of s) (roles_of s) (wiring_with 0 0 s)

-- its wiring where it has no fault, else the first
abbrev pub opened_as : Wiring → Option WiringFault → Result Wiring WiringFault
opened_as w None = Ok w
opened_as w (Some fault) = Err fault

-- a test found this fault, or that there is none
abbrev pub Tells : Result (Unit {0}) WiringFault → Option WiringFault → Type 0
Tells (Ok u) fault = fault ≡ None
Tells (Err e) fault = fault ≡ Some e
