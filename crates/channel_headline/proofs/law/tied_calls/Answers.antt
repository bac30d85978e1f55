use Rattle.channel_headline.proofs.Owned.{call_at, line_at, owned, strangers}
use Rattle.channel_headline.proofs.law.tied_calls.Goals as goal

pub returns-clause-owned : goal.returns-clause-owned
returns-clause-owned c = owned

pub returns-clause-calls : goal.returns-clause-calls
returns-clause-calls c = call_at

pub returns-clause-lines : goal.returns-clause-lines
returns-clause-lines c = line_at

pub returns-clause-strangers : goal.returns-clause-strangers
returns-clause-strangers c = strangers
