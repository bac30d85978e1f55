use Rattle.std.proofs.Common.{refl}
use Rattle.shmem_header.specs.HeaderBits.{header_word}
use Rattle.shmem_header.specs.Spelling.{word_of, word_bytes}
use Rattle.pcc_steps.proofs.worked.worked_answers.Goals as goal

pub returns-clause-answer_none : goal.returns-clause-answer_none
unfolding header_word word_of word_bytes
returns-clause-answer_none c = refl

pub returns-clause-answer_headed : goal.returns-clause-answer_headed
unfolding header_word word_of word_bytes
returns-clause-answer_headed c = refl

pub returns-clause-answer_joined3 : goal.returns-clause-answer_joined3
unfolding header_word word_of word_bytes
returns-clause-answer_joined3 c = refl

pub returns-clause-answer_separate3 : goal.returns-clause-answer_separate3
unfolding header_word word_of word_bytes
returns-clause-answer_separate3 c = refl

pub returns-clause-answer_joined4 : goal.returns-clause-answer_joined4
unfolding header_word word_of word_bytes
returns-clause-answer_joined4 c = refl

pub returns-clause-answer_separate4 : goal.returns-clause-answer_separate4
unfolding header_word word_of word_bytes
returns-clause-answer_separate4 c = refl

pub returns-clause-answer_reduced5 : goal.returns-clause-answer_reduced5
unfolding header_word word_of word_bytes
returns-clause-answer_reduced5 c = refl
