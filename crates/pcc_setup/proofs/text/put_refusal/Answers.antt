use Rattle.std.specs.Prelude.{codes}
use Rattle.pcc_text.specs.Pieces.{spelled}
use Rattle.pcc_setup.specs.RefusalText.{fault_pieces, package_pieces}
use Rattle.pcc_setup.proofs.Refused.{put_after}
use Rattle.pcc_setup.proofs.text.put_refusal.Goals as goal

pub returns-in_ok-put-in-Table : goal.returns-in_ok-put-in-Table
unfolding spelled
returns-in_ok-put-in-Table c =
    rw c.in-Table.is (put_after c.put_fault.result c.args.out.now.items c.put.new.out.items c.put_fault.new.out.items (codes "table ") (spelled (fault_pieces c.in-Table.fault)) c.in_ok-put-in-Table.ensures c.put_fault.ensures)

pub returns-in-PackageTrailing : goal.returns-in-PackageTrailing
returns-in-PackageTrailing c = rw c.in-PackageTrailing.is c.put_pieces-in-PackageTrailing.ensures

pub returns-in_ok-put-in-Package : goal.returns-in_ok-put-in-Package
unfolding spelled
returns-in_ok-put-in-Package c =
    rw c.in-Package.is (put_after c.put_package.result c.args.out.now.items c.put-in-Package.new.out.items c.put_package.new.out.items (codes "package ")
    (spelled (package_pieces c.in-Package.fault)) c.in_ok-put-in-Package.ensures c.put_package.ensures)
