use Rattle.pcc_gas.proofs.Windows.{overwritten, pow-bytes}
use Rattle.pcc_gas.proofs.field.put_bytes.Goals as goal

pub write_uint128-requires-clause-fits : goal.write_uint128-requires-clause-fits
write_uint128-requires-clause-fits c = rw (pow-bytes c.args.window.count) c.requires.fits

pub returns : goal.returns
returns c =
    let parts = c.split_at_mut-part.result in
    let w = c.args.window in
    overwritten c.args.space.now parts.0.now parts.1.now c.write_uint128.new.buf w.first w.count c.args.bits
    c.requires.within c.split_at_mut-part.ensures.front c.split_at_mut-part.ensures.back c.write_uint128.ensures
    (rw (pow-bytes w.count) c.requires.fits) (record { fits = λ k. (c.type_inv.space k).fits })
