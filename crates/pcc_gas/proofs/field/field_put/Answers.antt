use Rattle.std.proofs.Common.{[], ◌∷◌, length}
use Rattle.pcc_gas.specs.Changes.{FitIn, change, with_changes}
use Rattle.pcc_gas.proofs.Changes.{changes-bytes, changes-one}
use Rattle.pcc_gas.proofs.Fields.{field_value-apart, one_space}
use Rattle.pcc_gas.proofs.Windows.{field_put-around}
use Rattle.pcc_gas.proofs.field.field_put.Goals as goal

pub returns-clause-put : goal.returns-clause-put
returns-clause-put c =
    let w = c.window_of-window.result in
    field_put-around c.args.space.now _ c.args.field w.first w.count w.shift c.bytes_in.result c.with_bits-bytes.result c.args.value
    (record { start = c.window_of-window.ensures.start; covers = c.window_of-window.ensures.covers })
    c.bytes_in.ensures.bits
    c.put_bytes.ensures
    (record { put = c.with_bits-bytes.ensures.put; below = c.with_bits-bytes.ensures.below; above = c.with_bits-bytes.ensures.above })
    c.requires.fits

pub returns-clause-changed : goal.returns-clause-changed
returns-clause-changed c =
    let space = c.args.space.now in
    let field = c.args.field in
    let value = c.args.value in
    let fit : FitIn (length space) (change field value) = record { inside = c.requires.inside; fits = c.requires.fits } in
    one_space space field value c.put_bytes.new.space (with_changes (change field value ∷ []) space) (record { fits = λ k. (c.type_inv.space k).fits })
    (changes-bytes (change field value ∷ []) space) (returns-clause-put c) (changes-one space field value fit)

pub returns-clause-apart : goal.returns-clause-apart
returns-clause-apart c = λ other apart.
    field_value-apart c.args.space.now c.args.field other c.args.value c.put_bytes.new.space (returns-clause-put c) apart

pub returns-clause-only : goal.returns-clause-only
returns-clause-only c = λ bytes all put.
    one_space c.args.space.now c.args.field c.args.value bytes c.put_bytes.new.space all (record { fits = λ k. (c.type_inv.space k).fits }) put (returns-clause-put c)
