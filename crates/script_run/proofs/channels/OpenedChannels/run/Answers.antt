use Rattle.std.proofs.Common.{subst, sym}
use Rattle.script_run.specs.Channels.{AreDistinct}
use Rattle.script_run.specs.DeviceChannels.{channels_by}
use Rattle.script_run.proofs.Several.{same_ids}
use Rattle.script_run.proofs.channels.OpenedChannels.run.Goals as goal

pub invariant_of-self : goal.invariant_of-self
invariant_of-self c = subst AreDistinct (sym (same_ids (channels_by c.run_line.new.channels.items) (channels_by c.self.inside.channels.items) c.run_line.ensures.starts)) c.self.invariant

pub returns-clause-readings : goal.returns-clause-readings
returns-clause-readings c = rw (← c.self.view_is) c.run_line.ensures.readings
