use Rattle.std.proofs.Common.{subst}
use Rattle.pcc_setup.specs.Packages.{IsNoPackage}
use Rattle.pccrun_core.proofs.Packaged.{package_followed, wrong_package}
use Rattle.pccrun_core.proofs.package.refused_package.Goals as goal

pub returns-in-Wrong : goal.returns-in-Wrong
returns-in-Wrong c = λ bytes h. (wrong_package c.package_laws.ensures.not_both bytes c.in-Wrong.fault (subst (IsNoPackage bytes) c.in-Wrong.is h), tt)

pub returns-in-Trailing : goal.returns-in-Trailing
returns-in-Trailing c = λ bytes h. let k = subst (IsNoPackage bytes) c.in-Trailing.is h in
    (package_followed c.package_laws.ensures.one_package c.package_laws.ensures.one_spelling bytes c.in-Trailing.at k.0 k.1 k.2, tt)
