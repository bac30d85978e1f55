use Rattle.std.proofs.Common.{refl}
use Rattle.aml_pkg.specs.Reading.{used_at, item_at, package_at, body_at, elements_at, element_at, buffer_at, len_at, spelled_len_at, int_at}
use Rattle.aml_pkg.proofs.Laws.{wrong_by}
use Rattle.aml_pkg.proofs.worked.worked_faults.Goals as goal

pub returns-clause-byte_missing : goal.returns-clause-byte_missing
unfolding used_at item_at package_at body_at elements_at element_at buffer_at len_at spelled_len_at int_at
returns-clause-byte_missing c = wrong_by _ _ refl refl

pub returns-clause-lead : goal.returns-clause-lead
unfolding used_at item_at package_at body_at elements_at element_at buffer_at len_at spelled_len_at int_at
returns-clause-lead c = wrong_by _ _ refl refl

pub returns-clause-unknown : goal.returns-clause-unknown
unfolding used_at item_at package_at body_at elements_at element_at buffer_at len_at spelled_len_at int_at
returns-clause-unknown c = wrong_by _ _ refl refl

pub returns-clause-own_bytes : goal.returns-clause-own_bytes
unfolding used_at item_at package_at body_at elements_at element_at buffer_at len_at spelled_len_at int_at
returns-clause-own_bytes c = wrong_by _ _ refl refl

pub returns-clause-past_the_input : goal.returns-clause-past_the_input
unfolding used_at item_at package_at body_at elements_at element_at buffer_at len_at spelled_len_at int_at
returns-clause-past_the_input c = wrong_by _ _ refl refl

pub returns-clause-size_missing : goal.returns-clause-size_missing
unfolding used_at item_at package_at body_at elements_at element_at buffer_at len_at spelled_len_at int_at
returns-clause-size_missing c = wrong_by _ _ refl refl

pub returns-clause-element_missing : goal.returns-clause-element_missing
unfolding used_at item_at package_at body_at elements_at element_at buffer_at len_at spelled_len_at int_at
returns-clause-element_missing c = wrong_by _ _ refl refl

pub returns-clause-bytes_left : goal.returns-clause-bytes_left
unfolding used_at item_at package_at body_at elements_at element_at buffer_at len_at spelled_len_at int_at
returns-clause-bytes_left c = wrong_by _ _ refl refl

pub returns-clause-package_inside : goal.returns-clause-package_inside
unfolding used_at item_at package_at body_at elements_at element_at buffer_at len_at spelled_len_at int_at
returns-clause-package_inside c = wrong_by _ _ refl refl
