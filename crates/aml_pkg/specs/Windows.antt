-- Reading up to an end. A byte that is wanted past the end and a length that points past it are one fault, at the end, whose kind goes
-- with the end: the bytes are short, or something passes the end of the buffer or package around it.
use Rattle.std.specs.Prelude.{ℕ, ◌+◌, ◌-◌, List, length}
use Rattle.aml_pkg.specs.declared.fault.AmlKind.{AmlKind}
use Rattle.aml_pkg.specs.declared.fault.AmlKind.TheVariants.{BadLength, Short}
use Rattle.aml_pkg.specs.declared.fault.AmlFault.{AmlFault}
use Rattle.aml_pkg.specs.declared.window.Window.{Window}

-- the end of all bytes
abbrev pub input : List ℕ → Window
input bytes = record { end = length bytes; past = Short; whole = 0 }

-- a fault at the end
abbrev pub ended : Window → AmlFault
ended w = record { at = w.end; kind = w.past; whole = w.whole }

-- a fault at the first of the bytes that are left
abbrev pub fault_at : Window → List ℕ → AmlKind → AmlFault
fault_at w left kind = record { at = w.end - length left; kind = kind; whole = w.whole }

-- the end of a buffer or a package that has n of the bytes that are left
abbrev pub inner : Window → List ℕ → ℕ → Window
inner w left len = record { end = w.end - length left + len; past = BadLength; whole = w.whole }

-- the same end after n whole elements more
abbrev pub behind : Window → ℕ → Window
behind w more = record { end = w.end; past = w.past; whole = w.whole + more }
