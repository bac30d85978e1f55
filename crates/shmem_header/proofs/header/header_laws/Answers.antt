use Rattle.shmem_header.proofs.Fields.{IsExtended-extended_in, IsGeneric-generic_in, IsReduced-reduced_in, extended_in-extended_words, extended_words-extended_in, generic_in-generic_word, generic_word-generic_in, generic_word-lt, reduced_in-reduced_word, reduced_word-lt, reduced_word-reduced_in}
use Rattle.shmem_header.proofs.header.header_laws.Goals as goal

pub returns-clause-generic : goal.returns-clause-generic
returns-clause-generic c = λ h fits. (generic_word-lt h fits, generic_in-generic_word h fits)

pub returns-clause-generic_back : goal.returns-clause-generic_back
returns-clause-generic_back c = λ word fits. (IsGeneric-generic_in word fits, generic_word-generic_in word fits)

pub returns-clause-extended : goal.returns-clause-extended
returns-clause-extended c = extended_in-extended_words

pub returns-clause-extended_back : goal.returns-clause-extended_back
returns-clause-extended_back c = λ a b fits_a fits_b. (IsExtended-extended_in a b fits_a fits_b, extended_words-extended_in a b fits_a fits_b)

pub returns-clause-reduced : goal.returns-clause-reduced
returns-clause-reduced c = λ h fits. (reduced_word-lt h fits, reduced_in-reduced_word h fits)

pub returns-clause-reduced_back : goal.returns-clause-reduced_back
returns-clause-reduced_back c = λ word fits. (IsReduced-reduced_in word fits, reduced_word-reduced_in word fits)
