use Rattle.std.proofs.Common.{refl}
use Rattle.cpc_package.proofs.Meeting.{apart_end, apart_more}
use Rattle.cpc_package.proofs.apart.is_apart.Goals as goal

pub loop-source-preserved : goal.loop-source-preserved
loop-source-preserved c =
    apart_more c.args.field c.in-At.other c.args.sources.now c.loop-source.source-index c.in-At.is (c.if-not-fields_apart.ensures.0 refl) c.loop-source.invariant

pub returns-clause-apart : goal.returns-clause-apart
returns-clause-apart c = λ _. apart_end c.args.field c.args.sources.now c.loop-source.source-index c.loop-source-test.false c.loop-source.invariant
