use Rattle.std.proofs.Common.{inl, inr, refl}
use Rattle.shmem_header.specs.Spelling.{word_of, word_bytes}
use Rattle.pcc_notify.specs.Worked.{second_exchange, second_notice}
use Rattle.pcc_notify.proofs.worked.worked_notices.Goals as goal

pub returns-clause-separate : goal.returns-clause-separate
unfolding word_of word_bytes
returns-clause-separate c = refl

pub returns-clause-joined : goal.returns-clause-joined
unfolding word_of word_bytes
returns-clause-joined c = refl

pub returns-clause-one_post : goal.returns-clause-one_post
unfolding word_bytes
returns-clause-one_post c = refl

pub returns-clause-cut_post : goal.returns-clause-cut_post
unfolding word_bytes
returns-clause-cut_post c = refl

pub returns-clause-both_posts : goal.returns-clause-both_posts
unfolding word_bytes
returns-clause-both_posts c = refl

pub returns-clause-bad_post : goal.returns-clause-bad_post
unfolding word_bytes
returns-clause-bad_post c = refl

pub returns-clause-not_handled : goal.returns-clause-not_handled
unfolding word_bytes
returns-clause-not_handled c = record { handled = inr (second_notice, refl); recorded_all = inl refl }

pub returns-clause-in_flight : goal.returns-clause-in_flight
unfolding word_bytes
returns-clause-in_flight c = record { handled = inl refl; recorded_all = inr (second_exchange, refl, (refl, refl)) }

pub returns-clause-both_recorded : goal.returns-clause-both_recorded
unfolding word_bytes
returns-clause-both_recorded c = record { handled = inl refl; recorded_all = inl refl }
