use Rattle.channel_plain.proofs.LostEnds.{answer_not_cut, asks_say, clear, done, idle, not_cut, posted, served}
use Rattle.channel_plain.proofs.worked.lost_ends.Goals as goal

pub returns-clause-asks : goal.returns-clause-asks
returns-clause-asks c = asks_say

pub returns-clause-whole : goal.returns-clause-whole
returns-clause-whole c = not_cut

pub returns-clause-answer : goal.returns-clause-answer
returns-clause-answer c = answer_not_cut

pub returns-clause-lost_posted : goal.returns-clause-lost_posted
returns-clause-lost_posted c = posted

pub returns-clause-lost_clear : goal.returns-clause-lost_clear
returns-clause-lost_clear c = clear

pub returns-clause-lost_done : goal.returns-clause-lost_done
returns-clause-lost_done c = done

pub returns-clause-lost_idle : goal.returns-clause-lost_idle
returns-clause-lost_idle c = idle

pub returns-clause-lost_served : goal.returns-clause-lost_served
returns-clause-lost_served c = served
