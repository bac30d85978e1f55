use Rattle.std.proofs.Common.{refl}
use Rattle.aml_pkg.specs.Reading.{used_at, item_at, package_at, body_at, elements_at, element_at, buffer_at, len_at, spelled_len_at, int_at}
use Rattle.aml_pkg.proofs.Laws.{spelled_by}
use Rattle.aml_pkg.proofs.worked.worked_items.Goals as goal

pub returns-clause-word : goal.returns-clause-word
unfolding used_at item_at element_at int_at
returns-clause-word c = spelled_by _ _ refl refl

pub returns-clause-buffer : goal.returns-clause-buffer
unfolding used_at item_at element_at buffer_at len_at spelled_len_at int_at
returns-clause-buffer c = spelled_by _ _ refl refl

pub returns-clause-package : goal.returns-clause-package
unfolding used_at item_at package_at body_at elements_at element_at len_at spelled_len_at int_at
returns-clause-package c = spelled_by _ _ refl refl

pub returns-clause-two_follow : goal.returns-clause-two_follow
unfolding used_at item_at element_at buffer_at len_at spelled_len_at int_at
returns-clause-two_follow c = spelled_by _ _ refl refl

pub returns-clause-three_follow : goal.returns-clause-three_follow
unfolding used_at item_at element_at buffer_at len_at spelled_len_at int_at
returns-clause-three_follow c = spelled_by _ _ refl refl

pub returns-clause-one_byte : goal.returns-clause-one_byte
returns-clause-one_byte c = refl

pub returns-clause-two_bytes : goal.returns-clause-two_bytes
returns-clause-two_bytes c = refl

pub returns-clause-three_bytes : goal.returns-clause-three_bytes
returns-clause-three_bytes c = refl

pub returns-clause-four_bytes : goal.returns-clause-four_bytes
returns-clause-four_bytes c = refl
