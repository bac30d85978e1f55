use Rattle.cppc_headline.proofs.Commands.{in_range_put, in_range_read, wish_differs, written_is}
use Rattle.cppc_headline.proofs.law.request_laws.Goals as goal

pub returns-clause-read : goal.returns-clause-read
returns-clause-read c = in_range_read

pub returns-clause-put : goal.returns-clause-put
returns-clause-put c = in_range_put

pub returns-clause-differs : goal.returns-clause-differs
returns-clause-differs c = wish_differs

pub returns-clause-written : goal.returns-clause-written
returns-clause-written c = written_is
