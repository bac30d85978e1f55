use Rattle.pcc_journal.proofs.EventsGrow.{drained, last, posted, posts}
use Rattle.pcc_journal.proofs.events.events_grow.Goals as goal

pub returns-clause-posts : goal.returns-clause-posts
returns-clause-posts c = posts

pub returns-clause-last : goal.returns-clause-last
returns-clause-last c = last

pub returns-clause-posted : goal.returns-clause-posted
returns-clause-posted c = posted

pub returns-clause-drained : goal.returns-clause-drained
returns-clause-drained c = drained
