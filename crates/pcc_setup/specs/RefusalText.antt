-- The one line that reports why an input is refused.
use Rattle.std.specs.Prelude.{ℕ, List, [], ◌∷◌, ◌++◌, codes}
use Rattle.pcc_text.specs.Pieces.{Spelled, Words, Decimal, spelled}
use Rattle.pcc_script.specs.declared.fault.ScriptKind.{ScriptKind}
use Rattle.pcc_script.specs.declared.fault.ScriptKind.TheVariants as script
use Rattle.journal_reading.specs.declared.told.AuditKind.{AuditKind}
use Rattle.journal_reading.specs.declared.told.AuditKind.TheVariants as audit
use Rattle.pcct_table.specs.declared.build.BuildKind.{BuildKind}
use Rattle.pcct_table.specs.declared.build.BuildKind.TheVariants as kind
use Rattle.pcct_codec.specs.declared.fault.TableFault.{TableFault}
use Rattle.pcct_codec.specs.declared.fault.TableFault.TheVariants.{Short, Signature, LengthOutside, Revision, TooMany, Overrun}
use Rattle.pcct_codec.specs.declared.fault.TableFault.TheVariants.{SubspaceLength, Checksum, ReadFault, NoMemory}
use Rattle.cpc_package.specs.PackageText.{kind_text}
use Rattle.cpc_package.specs.declared.binding.BindFault.{BindFault}
use Rattle.cpc_package.specs.declared.binding.BindFault.TheVariants as bind
use Rattle.cpc_package.specs.declared.fault.CpcFault.{CpcFault}
use Rattle.pcc_wiring.specs.declared.fault.Role.{Role}
use Rattle.pcc_wiring.specs.declared.fault.Role.TheVariants as role
use Rattle.pcc_wiring.specs.declared.fault.WiringFault.{WiringFault}
use Rattle.pcc_wiring.specs.declared.fault.WiringFault.TheVariants as wiring
use Rattle.pcc_setup.specs.declared.action.ActionFault.{ActionFault}
use Rattle.pcc_setup.specs.declared.action.ActionFault.TheVariants.{NoCpu, NotBank}
use Rattle.pcc_setup.specs.declared.opening.OpenFault.{OpenFault}
use Rattle.pcc_setup.specs.declared.opening.OpenFault.TheVariants.{ImageLong, NoSubspace, OpenedTwice, Unwired}
use Rattle.pcc_setup.specs.declared.refusal.CpuFault.{CpuFault}
use Rattle.pcc_setup.specs.declared.refusal.CpuFault.TheVariants as cpu
use Rattle.pcc_setup.specs.declared.refusal.InputError.{InputError}
use Rattle.pcc_setup.specs.declared.refusal.InputError.TheVariants as error
use Rattle.pcc_setup.specs.declared.refusal.Refusal.{Refusal}
use Rattle.pcc_setup.specs.declared.refusal.Refusal.TheVariants as refusal
use Rattle.pcc_setup.specs.declared.refusal.UseFault.{UseFault}
use Rattle.pcc_setup.specs.declared.refusal.UseFault.TheVariants as use_fault

-- what is wrong with the bytes of a table; the last two are no faults of bytes
abbrev pub fault_pieces : TableFault → List Spelled
fault_pieces (Short at) = Words (codes "short ") ∷ Decimal at ∷ []
fault_pieces Signature = Words (codes "signature") ∷ []
fault_pieces (LengthOutside len) = Words (codes "length ") ∷ Decimal len ∷ []
fault_pieces (Revision found) = Words (codes "revision ") ∷ Decimal found ∷ []
fault_pieces (TooMany at) = Words (codes "many ") ∷ Decimal at ∷ []
fault_pieces (Overrun at) = Words (codes "overrun ") ∷ Decimal at ∷ []
fault_pieces (SubspaceLength at kind found) = Words (codes "size ") ∷ Decimal at ∷ Words (codes " ") ∷ Decimal kind ∷ Words (codes " ") ∷ Decimal found ∷ []
fault_pieces (Checksum sum) = Words (codes "checksum ") ∷ Decimal sum ∷ []
fault_pieces ReadFault = []
fault_pieces NoMemory = []

-- what is wrong with a line of a table's text
abbrev pub kind_word : BuildKind → List ℕ
kind_word kind.Text = codes " text"
kind_word kind.Many = codes " many"

-- what is wrong with a line of journals
abbrev pub journal_word : AuditKind → List ℕ
journal_word audit.Text = codes " text"
journal_word audit.Many = codes " many"

-- what is wrong with a line of a script
abbrev pub script_word : ScriptKind → List ℕ
script_word script.Newline = codes " newline"
script_word script.Unknown = codes " unknown"
script_word script.Misplaced = codes " misplaced"
script_word script.Many = codes " many"
script_word script.Fields = codes " fields"
script_word script.Number = codes " number"
script_word script.Hex = codes " hex"
script_word script.Name = codes " name"
script_word script.Missing = codes " missing"

-- what is wrong with an action
abbrev pub action_word : ActionFault → List ℕ
action_word NotBank = codes " not bank"
action_word NoCpu = codes " no cpu"

-- what a command can't be used with
abbrev pub use_word : UseFault → List ℕ
use_word use_fault.Pick = codes "pick"
use_word use_fault.Many = codes "many"
use_word use_fault.Bank = codes "bank"
use_word use_fault.Wait = codes "wait"
use_word use_fault.Audit = codes "audit"

abbrev pub role_word : Role → List ℕ
role_word role.Doorbell = codes "doorbell"
role_word role.Acknowledge = codes "acknowledge"
role_word role.Check = codes "check"
role_word role.Update = codes "update"
role_word role.Error = codes "error"

-- words and a number
abbrev pub numbered : List ℕ → ℕ → List Spelled
numbered word number = Words word ∷ Decimal number ∷ []

abbrev pub wiring_pieces : WiringFault → List Spelled
wiring_pieces (wiring.UnknownType kind) = numbered (codes "unknown type ") kind
wiring_pieces wiring.WrongRole = Words (codes "wrong role") ∷ []
wiring_pieces (wiring.SpaceTooSmall len) = Words (codes "space ") ∷ Decimal len ∷ []
wiring_pieces (wiring.RegisterSpace r) = Words (codes "register space ") ∷ Words (role_word r) ∷ []
wiring_pieces (wiring.RegisterWidth r) = Words (codes "register width ") ∷ Words (role_word r) ∷ []
wiring_pieces wiring.NoCheckMask = Words (codes "no check mask") ∷ []
wiring_pieces wiring.NeverClears = Words (codes "never clears") ∷ []
wiring_pieces wiring.NeverSets = Words (codes "never sets") ∷ []

abbrev pub open_pieces : OpenFault → List Spelled
open_pieces NoSubspace = Words (codes "no subspace") ∷ []
open_pieces OpenedTwice = Words (codes "opened twice") ∷ []
open_pieces (Unwired fault) = wiring_pieces fault
open_pieces ImageLong = Words (codes "image long") ∷ []

-- what is wrong with a package, the number of the entry, and the place
abbrev pub package_pieces : CpcFault → List Spelled
package_pieces fault = Words (kind_text fault.kind) ∷ Words (codes " ") ∷ Decimal fault.entry ∷ Words (codes " ") ∷ Decimal fault.at ∷ []

-- why a package can't be bound
abbrev pub bind_pieces : BindFault → List Spelled
bind_pieces (bind.NotPcc entry) = numbered (codes "not pcc ") entry
bind_pieces (bind.TwoSubspaces entry) = numbered (codes "two subspaces ") entry
bind_pieces (bind.BadWidth entry) = numbered (codes "bad width ") entry
bind_pieces (bind.FieldOutside entry) = numbered (codes "outside ") entry
bind_pieces (bind.FieldsOverlap a b) = Words (codes "overlap ") ∷ Decimal a ∷ Words (codes " ") ∷ Decimal b ∷ []
bind_pieces bind.NoDesired = Words (codes "no desired") ∷ []
bind_pieces (bind.NoBound entry) = numbered (codes "no bound ") entry
bind_pieces (bind.BadScale lowest nominal highest) =
    Words (codes "bad scale ") ∷ Decimal lowest ∷ Words (codes " ") ∷ Decimal nominal ∷ Words (codes " ") ∷ Decimal highest ∷ []

-- why a processor isn't bound
abbrev pub cpu_pieces : CpuFault → List Spelled
cpu_pieces (cpu.Package fault) = package_pieces fault
cpu_pieces (cpu.Trailing at) = numbered (codes "trailing ") at
cpu_pieces cpu.NotOpened = Words (codes "not opened") ∷ []
cpu_pieces (cpu.Unfit fault) = bind_pieces fault
cpu_pieces (cpu.Shares other) = numbered (codes "shares ") other

abbrev pub line_pieces : ℕ → List ℕ → List Spelled
line_pieces line word = Words (codes "line ") ∷ Decimal line ∷ Words word ∷ []

abbrev pub refusal_pieces : Refusal → List Spelled
refusal_pieces refusal.Long = Words (codes "long") ∷ []
refusal_pieces (refusal.Script line wrong) = line_pieces line (script_word wrong)
refusal_pieces (refusal.TableText line wrong) = line_pieces line (kind_word wrong)
refusal_pieces (refusal.JournalText line wrong) = line_pieces line (journal_word wrong)
refusal_pieces (refusal.Action line fault) = line_pieces line (action_word fault)
refusal_pieces (refusal.Table fault) = Words (codes "table ") ∷ fault_pieces fault
refusal_pieces (refusal.Trailing at) = Words (codes "table trailing ") ∷ Decimal at ∷ []
refusal_pieces (refusal.Package fault) = Words (codes "package ") ∷ package_pieces fault
refusal_pieces (refusal.PackageTrailing at) = Words (codes "package trailing ") ∷ Decimal at ∷ []
refusal_pieces (refusal.Open id fault) = Words (codes "open ") ∷ Decimal id ∷ Words (codes " ") ∷ open_pieces fault
refusal_pieces (refusal.Meet found) = Words (codes "overlap ") ∷ Decimal found.a ∷ Words (codes " ") ∷ Decimal found.b ∷ []
refusal_pieces (refusal.Cpu number fault) = Words (codes "cpu ") ∷ Decimal number ∷ Words (codes " ") ∷ cpu_pieces fault
refusal_pieces (refusal.Cap index) = numbered (codes "cap ") index
refusal_pieces (refusal.Start number) = numbered (codes "start ") number
refusal_pieces (refusal.Use fault) = Words (codes "use ") ∷ Words (use_word fault) ∷ []

-- the line of a refused input
abbrev pub refused_line : Refusal → List ℕ
refused_line r = codes "refused " ++ (spelled (refusal_pieces r) ++ codes "\n")

-- a fault of bytes
abbrev pub IsOfBytes : TableFault → Type 0
IsOfBytes ReadFault = ⊥
IsOfBytes NoMemory = ⊥
IsOfBytes fault = Unit {0}

-- a table's fault is one of bytes
abbrev pub HasLine : Refusal → Type 0
HasLine (refusal.Table fault) = IsOfBytes fault
HasLine r = Unit {0}

-- what holds of the refusal, if an error is one
abbrev pub IfRefused : (Refusal → Type 0) → InputError → Type 0
IfRefused holds (error.Refused r) = holds r
IfRefused holds error.NoMemory = Unit {0}

-- the refusal of an error is one of these and has a line
abbrev pub IsRefusedFor : (Refusal → Type 0) → InputError → Type 0
IsRefusedFor cause e = IfRefused (λ r. cause r × HasLine r) e
