use Rattle.std.proofs.Common.{rules}
use Rattle.pcc_gas.proofs.Bits.{replaced-above, replaced-below, replaced-inside, replaced-lt}
use Rattle.pcc_gas.proofs.field.with_bits.Goals as goal

pub returns-clause-put : goal.returns-clause-put
returns-clause-put c = λ i h. rw (c.ones.ensures, c.from.ensures)
    (replaced-inside c.args.bits c.args.width c.args.shift c.args.value i (record { low = c.requires.low; most = c.requires.most; fits = c.requires.fits }) h)

pub returns-clause-below : goal.returns-clause-below
returns-clause-below c = λ i h. rw (c.ones.ensures, c.from.ensures)
    (replaced-below c.args.bits c.args.width c.args.shift c.args.value i (record { low = c.requires.low; most = c.requires.most; fits = c.requires.fits }) h)

pub returns-clause-above : goal.returns-clause-above
returns-clause-above c = λ i h. rw (c.ones.ensures, c.from.ensures)
    (replaced-above c.args.bits c.args.width c.args.shift c.args.value i (record { low = c.requires.low; most = c.requires.most; fits = c.requires.fits }) (search rules) h)

pub returns-clause-bound : goal.returns-clause-bound
returns-clause-bound c = λ k h within. rw (c.ones.ensures, c.from.ensures)
    (replaced-lt c.args.bits c.args.width c.args.shift c.args.value k (record { low = c.requires.low; most = c.requires.most; fits = c.requires.fits }) h within)
