-- Worked journals of a controller of performance.
use Rattle.std.specs.Prelude.{ℕ, false, List, [], ◌∷◌}
use Rattle.pcc_journal.specs.declared.record.Record.{Record}
use Rattle.pcc_journal.specs.declared.record.Pending.{Pending}
use Rattle.cpc_package.specs.declared.binding.Binding.{Binding}
use Rattle.cppc_device.specs.Worked.{half_bytes, registers}

-- a record by its code, its input and its output
abbrev pub command : ℕ → List ℕ → List ℕ → Record
command code input output =
    record { caller = 0; code = code; input = input; error = false; output = output; post = 0; done = 10; late = false }

abbrev pub waiting : ℕ → List ℕ → Pending
waiting code input = record { caller = 0; code = code; input = input; post = 0 }

-- registers at first, after a sample, and with a desired performance of 120
abbrev pub first : List ℕ
first = registers 100 10 250 0 0 0

abbrev pub sampled : List ℕ
sampled = registers 100 10 250 0 200 100

abbrev pub wished : List ℕ
wished = registers 120 10 250 0 200 100

-- a desired performance above the maximum
abbrev pub excessive : List ℕ
excessive = registers 255 10 250 0 0 0

-- two processors of one byte each
abbrev pub two : List Binding
two = half_bytes 0 ∷ half_bytes 8 ∷ []
