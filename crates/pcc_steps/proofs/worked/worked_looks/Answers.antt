use Rattle.std.proofs.Common.{refl}
use Rattle.shmem_header.specs.HeaderBits.{header_word}
use Rattle.shmem_header.specs.Spelling.{word_of, word_bytes}
use Rattle.pcc_steps.proofs.worked.worked_looks.Goals as goal

pub returns-clause-look_clear : goal.returns-clause-look_clear
unfolding header_word word_of word_bytes
returns-clause-look_clear c = refl

pub returns-clause-look_headed : goal.returns-clause-look_headed
unfolding header_word word_of word_bytes
returns-clause-look_headed c = refl

pub returns-clause-look_headed_quietly : goal.returns-clause-look_headed_quietly
unfolding header_word word_of word_bytes
returns-clause-look_headed_quietly c = refl

pub returns-clause-look_joined3 : goal.returns-clause-look_joined3
unfolding header_word word_of word_bytes
returns-clause-look_joined3 c = refl

pub returns-clause-look_separate3 : goal.returns-clause-look_separate3
unfolding header_word word_of word_bytes
returns-clause-look_separate3 c = refl

pub returns-clause-look_joined4 : goal.returns-clause-look_joined4
unfolding header_word word_of word_bytes
returns-clause-look_joined4 c = refl

pub returns-clause-look_separate4 : goal.returns-clause-look_separate4
unfolding header_word word_of word_bytes
returns-clause-look_separate4 c = refl

pub returns-clause-look_reduced5 : goal.returns-clause-look_reduced5
unfolding header_word word_of word_bytes
returns-clause-look_reduced5 c = refl
