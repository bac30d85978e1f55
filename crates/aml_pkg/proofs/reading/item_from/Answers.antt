use Rattle.std.proofs.Common.{◌≡◌, ap}
use Rattle.aml_pkg.specs.declared.fault.AmlFault.{AmlFault}
use Rattle.aml_pkg.proofs.reading.item_from.Goals as goal

pub returns-in-Err-Fault-clause-exact : goal.returns-in-Err-Fault-clause-exact
returns-in-Err-Fault-clause-exact c = λ fault h.
    let same : c.in-Err-Fault.fault ≡ fault = rw c.in-Err-Fault.field-0-is at (c.in-Err-Fault.ensures.exact fault h) in
    (ap (λ (f : AmlFault). f.at) same, ap (λ (f : AmlFault). f.kind) same)
