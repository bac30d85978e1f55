use Rattle.std.proofs.Common.{refl}
use Rattle.shmem_header.specs.HeaderBits.{header_word}
use Rattle.shmem_header.specs.Spelling.{word_of, word_bytes}
use Rattle.pcc_steps.proofs.worked.worked_posts.Goals as goal

pub returns-clause-post_headed : goal.returns-clause-post_headed
unfolding header_word word_of word_bytes
returns-clause-post_headed c = refl

pub returns-clause-post_headed_again : goal.returns-clause-post_headed_again
unfolding header_word word_of word_bytes
returns-clause-post_headed_again c = refl

pub returns-clause-post_joined3 : goal.returns-clause-post_joined3
unfolding header_word word_of word_bytes
returns-clause-post_joined3 c = refl

pub returns-clause-post_separate3 : goal.returns-clause-post_separate3
unfolding header_word word_of word_bytes
returns-clause-post_separate3 c = refl

pub returns-clause-post_joined4 : goal.returns-clause-post_joined4
unfolding header_word word_of word_bytes
returns-clause-post_joined4 c = refl

pub returns-clause-post_separate4 : goal.returns-clause-post_separate4
unfolding header_word word_of word_bytes
returns-clause-post_separate4 c = refl

pub returns-clause-post_reduced5 : goal.returns-clause-post_reduced5
unfolding header_word word_of word_bytes
returns-clause-post_reduced5 c = refl
