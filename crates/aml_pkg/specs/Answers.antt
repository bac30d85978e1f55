-- What an error reports.
use Rattle.std.specs.Prelude.{◌≡◌, List, ℕ}
use Rattle.aml_pkg.specs.declared.fault.AmlFault.{AmlFault}
use Rattle.aml_pkg.specs.declared.fault.AmlError.{AmlError}
use Rattle.aml_pkg.specs.declared.fault.AmlError.TheVariants as answers
use Rattle.aml_pkg.specs.declared.fault.ReadError.{ReadError}
use Rattle.aml_pkg.specs.declared.fault.ReadError.TheVariants as errors
use Rattle.aml_pkg.specs.Faults.{ItemWrong}

-- a property of the fault that an error reports; want of memory reports none
abbrev pub OnFault : ReadError → (AmlFault → Type 0) → Type 0
OnFault errors.NoMemory P = Unit {0}
OnFault (errors.Fault fault) P = P fault

-- the fault is reported, unless memory ran out
abbrev pub Tells : AmlError → AmlFault → Type 0
Tells answers.NoMemory fault = Unit {0}
Tells (answers.Fault at kind) fault = (at ≡ fault.at) × (kind ≡ fault.kind)

-- what is reported is wrong in the bytes
abbrev pub IsTold : List ℕ → AmlError → Type 0
IsTold bytes answers.NoMemory = Unit {0}
IsTold bytes (answers.Fault at kind) = (whole : ℕ) × ItemWrong bytes (record { at = at; kind = kind; whole = whole })
