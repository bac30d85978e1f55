use Rattle.std.proofs.Common.{◌∙◌, ℕ, ap}
use Rattle.std.specs.Int.{bit_at}
use Rattle.pcc_gas.proofs.Fields.{bit_at-field_value, field_value-lt}
use Rattle.pcc_gas.proofs.Windows.{field_value-around}
use Rattle.pcc_gas.proofs.field.field_get.Goals as goal

pub returns-clause-value : goal.returns-clause-value
returns-clause-value c =
    let w = c.window_of-window.result in
    c.low_bits.ensures
    ∙ field_value-around c.args.space.now c.args.field w.first w.count w.shift c.bytes_in.result
    (record { start = c.window_of-window.ensures.start; covers = c.window_of-window.ensures.covers })
    c.bytes_in.ensures.bits

pub returns-clause-bits : goal.returns-clause-bits
returns-clause-bits c = λ k h.
    ap (λ (n : ℕ). bit_at n k) (returns-clause-value c) ∙ bit_at-field_value c.args.space.now c.args.field k h

pub returns-clause-fits : goal.returns-clause-fits
returns-clause-fits c = rw (returns-clause-value c) (field_value-lt c.args.space.now c.args.field)
