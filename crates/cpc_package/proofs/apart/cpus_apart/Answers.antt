use Rattle.std.proofs.Common.{refl}
use Rattle.cpc_package.proofs.Meeting.{none_more, share_at}
use Rattle.cpc_package.proofs.apart.cpus_apart.Goals as goal

pub returns-then-not-is_apart : goal.returns-then-not-is_apart
returns-then-not-is_apart c = (
  λ _. share_at c.args.a.now c.args.b.now c.loop-source.source-index c.in-At.field c.if-a-b.false c.in-At.is (c.if-not-is_apart.ensures.meets refl),
  λ _. refl,
)

pub loop-source-preserved : goal.loop-source-preserved
loop-source-preserved c =
    none_more c.args.a.now.sources c.args.b.now.sources c.loop-source.source-index c.in-At.field c.in-At.is (c.if-not-is_apart.ensures.apart refl) c.loop-source.invariant
