-- The registers of a structure by what they are for (ACPI 6.5, 14.1.3 to 14.1.7).
use Rattle.std.specs.Prelude.{ℕ, Some, None}
use Rattle.pcct_table.specs.declared.subspace.Subspace.{Subspace}
use Rattle.pcct_table.specs.declared.subspace.Subspace.TheVariants.{Generic, HwReduced1, HwReduced2, Initiator, Responder, HwRegister, Other}
use Rattle.pcct_table.specs.declared.extended.Type34.{Type34}
use Rattle.pcct_table.specs.Subspaces.{doorbell_of}
use Rattle.pcc_wiring.specs.declared.roles.Roles.{Roles}
use Rattle.pcc_wiring.specs.declared.roles.Watched.{Watched}
use Rattle.pcc_wiring.specs.declared.roles.Written.{Written}
use Rattle.pcc_gas.specs.declared.address.Gas.{Gas}

abbrev pub write_by : Gas → ℕ → ℕ → Written
write_by gas preserve set = record { gas = gas; preserve = preserve; set = set }

abbrev pub watch_by : Gas → ℕ → Watched
watch_by gas mask = record { gas = gas; mask = mask }

-- a structure with a doorbell alone
abbrev pub doorbell_alone : Written → Roles
doorbell_alone doorbell = record { doorbell = doorbell; acknowledge = None; check = None; update = None; error = None }

-- types 3 and 4 have all five
abbrev pub extended_roles : Type34 → Roles
extended_roles t = record {
  doorbell = write_by t.doorbell t.preserve t.write;
  acknowledge = Some (write_by t.ack t.ack_preserve t.ack_set);
  check = Some (watch_by t.check t.check_mask);
  update = Some (write_by t.update t.update_preserve t.update_set);
  error = Some (watch_by t.error t.error_mask);
}

-- types 0 and 1 have a doorbell; type 2 an acknowledge register besides; type 5 a check and an error register; of an unknown type no register
-- is known
abbrev pub roles_of : Subspace → Roles
roles_of (Generic t) = doorbell_alone (write_by t.doorbell t.preserve t.write)
roles_of (HwReduced1 t) = doorbell_alone (write_by t.doorbell t.preserve t.write)
roles_of (HwReduced2 t) = record (doorbell_alone (write_by t.doorbell t.preserve t.write)) { acknowledge = Some (write_by t.ack t.ack_preserve t.ack_write) }
roles_of (Initiator t) = extended_roles t
roles_of (Responder t) = extended_roles t
roles_of (HwRegister t) = record (doorbell_alone (write_by t.doorbell t.preserve t.write)) {
  check = Some (watch_by t.check t.check_mask);
  error = Some (watch_by t.error t.error_mask);
}
roles_of (Other o) = doorbell_alone (write_by (doorbell_of (Other o)) 0 0)
