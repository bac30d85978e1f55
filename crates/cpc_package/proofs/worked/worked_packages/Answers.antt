use Rattle.std.proofs.Common.{◌≡◌, ℕ, List, length, refl, arith, lit<}
use Rattle.aml_pkg.specs.Spelling.{IsElement}
use Rattle.aml_pkg.specs.declared.item.Form.TheVariants.{Byte}
use Rattle.cpc_package.specs.Packages.{CountBuffer, NoRegister, OtherCount, OtherRevision, RevisionBuffer}
use Rattle.cpc_package.specs.Rows.{role_of}
use Rattle.cpc_package.specs.Worked.{buffer, of_22_entries, of_revision_2, six_fields, six_fields_of_revision_2}
use Rattle.cpc_package.proofs.Laws.{is_right, is_wrong}
use Rattle.cpc_package.proofs.worked.worked_packages.Goals as goal

-- a buffer of a register's seventeen bytes
fits : (bytes : List ℕ) → length bytes ≡ 17 → IsElement (buffer bytes)
fits bytes all = record {
  size = lit< tt;
  counts = record { is = record { few = omega arith; fits = omega arith }; whole = omega (arith, all) };
}

pub returns-clause-package : goal.returns-clause-package
unfolding role_of
returns-clause-package c = record {
  item = record {
    is = record {
      few = lit< tt;
      counts = record { is = record { few = omega arith; fits = omega arith }; whole = refl };
      each = (lit< tt, (lit< tt, (lit< tt, (lit< tt, (lit< tt, (lit< tt, (fits _ refl, (fits _ refl, (fits _ refl, (fits _ refl, (fits _ refl, (fits _ refl, (refl, (fits _ refl, (fits _ refl, (fits _ refl, (fits _ refl, (refl, (fits _ refl, (fits _ refl, (lit< tt, (lit< tt, (lit< tt, tt)))))))))))))))))))))));
    };
    spelled = refl;
  };
  right = is_right six_fields refl;
}

pub returns-clause-revision_2 : goal.returns-clause-revision_2
unfolding role_of
returns-clause-revision_2 c = record {
  item = record {
    is = record {
      few = lit< tt;
      counts = record { is = record { few = omega arith; fits = omega arith }; whole = refl };
      each = (lit< tt, (lit< tt, (lit< tt, (lit< tt, (lit< tt, (lit< tt, (fits _ refl, (fits _ refl, (fits _ refl, (fits _ refl, (fits _ refl, (fits _ refl, (refl, (fits _ refl, (fits _ refl, (fits _ refl, (fits _ refl, (refl, (fits _ refl, (fits _ refl, (lit< tt, tt)))))))))))))))))))));
    };
    spelled = refl;
  };
  right = is_right six_fields_of_revision_2 refl;
}

pub returns-clause-other_entries : goal.returns-clause-other_entries
returns-clause-other_entries c = is_wrong of_22_entries _ refl

pub returns-clause-wrong_revision : goal.returns-clause-wrong_revision
unfolding role_of
returns-clause-wrong_revision c = is_wrong (of_revision_2 3 1) _ refl

pub returns-clause-count_buffer : goal.returns-clause-count_buffer
unfolding role_of
returns-clause-count_buffer c = (CountBuffer _, (CountBuffer _, tt))

pub returns-clause-revision_buffer : goal.returns-clause-revision_buffer
unfolding role_of
returns-clause-revision_buffer c = (RevisionBuffer _, (RevisionBuffer _, tt))

pub returns-clause-count_other : goal.returns-clause-count_other
unfolding role_of
returns-clause-count_other c = OtherCount (record { value = 22; form = Byte }) (λ e. omega arith)

pub returns-clause-count_of_3 : goal.returns-clause-count_of_3
unfolding role_of
returns-clause-count_of_3 c = OtherCount (record { value = 23; form = Byte }) (λ e. omega arith)

pub returns-clause-revision_of_3 : goal.returns-clause-revision_of_3
unfolding role_of
returns-clause-revision_of_3 c = OtherRevision (record { value = 3; form = Byte }) (λ e. omega arith)

pub returns-clause-revision_other : goal.returns-clause-revision_other
unfolding role_of
returns-clause-revision_other c = OtherRevision (record { value = 2; form = Byte }) (λ e. omega arith)

pub returns-clause-registers : goal.returns-clause-registers
unfolding role_of
returns-clause-registers c = (NoRegister _, (NoRegister _, (NoRegister _, (NoRegister _, (NoRegister _, (NoRegister _, (NoRegister _, (NoRegister _, (NoRegister _, (NoRegister _, (NoRegister _, (NoRegister _, tt))))))))))))

pub returns-clause-integers : goal.returns-clause-integers
unfolding role_of
returns-clause-integers c = (tt, (tt, (tt, (tt, (tt, (tt, (tt, (tt, (tt, tt)))))))))

pub returns-clause-registers_of_2 : goal.returns-clause-registers_of_2
unfolding role_of
returns-clause-registers_of_2 c = (NoRegister _, (NoRegister _, (NoRegister _, (NoRegister _, (NoRegister _, (NoRegister _, (NoRegister _, (NoRegister _, (NoRegister _, (NoRegister _, (NoRegister _, (NoRegister _, tt))))))))))))

pub returns-clause-integers_of_2 : goal.returns-clause-integers_of_2
unfolding role_of
returns-clause-integers_of_2 c = (tt, (tt, (tt, (tt, (tt, (tt, (tt, tt)))))))

pub returns-clause-raised : goal.returns-clause-raised
returns-clause-raised c = refl

pub returns-clause-raised_long : goal.returns-clause-raised_long
returns-clause-raised_long c = refl

pub returns-clause-raised_same : goal.returns-clause-raised_same
returns-clause-raised_same c = refl
