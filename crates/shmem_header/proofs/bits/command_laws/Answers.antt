use Rattle.shmem_header.proofs.Commands.{code_in-header_word, header_word-lt, is_set-header_word_complete, is_set-header_word_error, is_set-header_word_notify, is_set-with_status_high, is_set-with_status_low, with_status-header_word}
use Rattle.shmem_header.proofs.bits.command_laws.Goals as goal

pub returns-clause-fits : goal.returns-clause-fits
returns-clause-fits c = header_word-lt

pub returns-clause-code : goal.returns-clause-code
returns-clause-code c = code_in-header_word

pub returns-clause-notify : goal.returns-clause-notify
returns-clause-notify c = is_set-header_word_notify

pub returns-clause-complete : goal.returns-clause-complete
returns-clause-complete c = is_set-header_word_complete

pub returns-clause-error : goal.returns-clause-error
returns-clause-error c = is_set-header_word_error

pub returns-clause-status : goal.returns-clause-status
returns-clause-status c = with_status-header_word

pub returns-clause-low_bits : goal.returns-clause-low_bits
returns-clause-low_bits c = is_set-with_status_low

pub returns-clause-high_bits : goal.returns-clause-high_bits
returns-clause-high_bits c = is_set-with_status_high
