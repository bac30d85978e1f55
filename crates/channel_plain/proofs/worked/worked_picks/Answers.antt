use Rattle.std.proofs.Common.{refl}
use Rattle.shmem_header.specs.HeaderBits.{header_word}
use Rattle.shmem_header.specs.Spelling.{word_of, word_bytes}
use Rattle.channel_plain.proofs.worked.worked_picks.Goals as goal

pub returns-clause-one_exchange : goal.returns-clause-one_exchange
unfolding header_word word_of word_bytes
returns-clause-one_exchange c = refl

pub returns-clause-with_notification : goal.returns-clause-with_notification
unfolding header_word word_of word_bytes
returns-clause-with_notification c = refl

pub returns-clause-with_acknowledge : goal.returns-clause-with_acknowledge
unfolding header_word word_of word_bytes
returns-clause-with_acknowledge c = refl

pub returns-clause-drained_late : goal.returns-clause-drained_late
unfolding header_word word_of word_bytes
returns-clause-drained_late c = refl

pub returns-clause-type_three_joined : goal.returns-clause-type_three_joined
unfolding word_of word_bytes
returns-clause-type_three_joined c = refl

pub returns-clause-type_three_separate : goal.returns-clause-type_three_separate
unfolding word_of word_bytes
returns-clause-type_three_separate c = refl

pub returns-clause-type_four_joined : goal.returns-clause-type_four_joined
unfolding word_of word_bytes
returns-clause-type_four_joined c = refl

pub returns-clause-type_four_separate : goal.returns-clause-type_four_separate
unfolding word_of word_bytes
returns-clause-type_four_separate c = refl

pub returns-clause-type_five : goal.returns-clause-type_five
unfolding word_of word_bytes
returns-clause-type_five c = refl
