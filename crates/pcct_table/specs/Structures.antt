-- The structures' values in the order of their fields, and their bytes.
use Rattle.std.specs.Prelude.{ℕ, List, [], ◌∷◌}
use Rattle.pcct_table.specs.declared.generic.Type0.{Type0}
use Rattle.pcct_table.specs.declared.hw_reduced.Type1.{Type1}
use Rattle.pcct_table.specs.declared.hw_reduced.Type2.{Type2}
use Rattle.pcct_table.specs.declared.extended.Type34.{Type34}
use Rattle.pcct_table.specs.declared.hw_register.Type5.{Type5}
use Rattle.pcct_table.specs.Rows.{Field}
use Rattle.pcct_table.specs.Values.{Value, Number, Addressed, Bytes, fields_bytes}

abbrev pub values0 : Type0 → List Value
values0 t =
    Bytes t.reserved
    ∷ Number t.base
    ∷ Number t.length
    ∷ Addressed t.doorbell
    ∷ Number t.preserve
    ∷ Number t.write
    ∷ Number t.latency
    ∷ Number t.rate
    ∷ Number t.turnaround
    ∷ []

abbrev pub values1 : Type1 → List Value
values1 t =
    Number t.interrupt
    ∷ Number t.interrupt_flags
    ∷ Bytes t.reserved
    ∷ Number t.base
    ∷ Number t.length
    ∷ Addressed t.doorbell
    ∷ Number t.preserve
    ∷ Number t.write
    ∷ Number t.latency
    ∷ Number t.rate
    ∷ Number t.turnaround
    ∷ []

abbrev pub values2 : Type2 → List Value
values2 t =
    Number t.interrupt
    ∷ Number t.interrupt_flags
    ∷ Bytes t.reserved
    ∷ Number t.base
    ∷ Number t.length
    ∷ Addressed t.doorbell
    ∷ Number t.preserve
    ∷ Number t.write
    ∷ Number t.latency
    ∷ Number t.rate
    ∷ Number t.turnaround
    ∷ Addressed t.ack
    ∷ Number t.ack_preserve
    ∷ Number t.ack_write
    ∷ []

abbrev pub values34 : Type34 → List Value
values34 t =
    Number t.interrupt
    ∷ Number t.interrupt_flags
    ∷ Bytes t.reserved
    ∷ Number t.base
    ∷ Number t.length
    ∷ Addressed t.doorbell
    ∷ Number t.preserve
    ∷ Number t.write
    ∷ Number t.latency
    ∷ Number t.rate
    ∷ Number t.turnaround
    ∷ Addressed t.ack
    ∷ Number t.ack_preserve
    ∷ Number t.ack_set
    ∷ Bytes t.reserved2
    ∷ Addressed t.check
    ∷ Number t.check_mask
    ∷ Addressed t.update
    ∷ Number t.update_preserve
    ∷ Number t.update_set
    ∷ Addressed t.error
    ∷ Number t.error_mask
    ∷ []

abbrev pub values5 : Type5 → List Value
values5 t =
    Number t.version
    ∷ Number t.base
    ∷ Number t.length
    ∷ Addressed t.doorbell
    ∷ Number t.preserve
    ∷ Number t.write
    ∷ Addressed t.check
    ∷ Number t.check_mask
    ∷ Addressed t.error
    ∷ Number t.error_mask
    ∷ Number t.latency
    ∷ Number t.turnaround
    ∷ []

-- the bytes of a structure of this type and size
abbrev pub spelled : ℕ → ℕ → List Field → List Value → List ℕ
spelled kind size fields values = kind ∷ size ∷ fields_bytes fields values
