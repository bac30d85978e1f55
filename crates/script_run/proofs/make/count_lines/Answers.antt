use Rattle.std.proofs.Common.{◌<◌, [], length, arith}
use Rattle.script_run.specs.DeviceChannels.{channels_by}
use Rattle.script_run.specs.StepRun.{ask_of, asks_by, turn_of}
use Rattle.script_run.proofs.ChannelLists.{starts_left}
use Rattle.script_run.proofs.Counting.{counting_more, wider}
use Rattle.script_run.proofs.Steps.{asked_at, within_lines}
use Rattle.script_run.proofs.make.count_lines.Goals as goal

pub loop-i-preserved : goal.loop-i-preserved
loop-i-preserved c =
    let before = c.loop-i.invariant in
    let lt : c.loop-i.i < length c.args.actions.now = omega arith in (
      counting_more (asks_by [] c.args.actions.now) (channels_by c.args.channels.now) (channels_by c.loop-i.channels) (channels_by c.run.new.self)
          c.loop-i.i (ask_of [] c.at.result.now) c.loop-i.counts c.count.new.self (within_lines [] c.args.actions.now c.loop-i.i lt) (asked_at [] c.args.actions.now c.loop-i.i c.at.result.now c.at.ensures) (c.count.ensures _ (rw c.as_slice.ensures c.in_ok-outcome.ensures.outcome)) c.in_ok-outcome.ensures.channels before.0,
      starts_left (ask_of [] c.at.result.now) (channels_by c.args.channels.now) (channels_by c.loop-i.channels) (channels_by c.run.new.self) c.in_ok-outcome.ensures.channels before.1,
      c.in_ok-outcome.ensures.readings c.loop-i.i before.2,
    )

pub count-requires-clause-reply : goal.count-requires-clause-reply
count-requires-clause-reply c = ((turn_of (ask_of [] c.at.result.now) (channels_by c.loop-i.channels)).reply, rw c.as_slice.ensures c.in_ok-outcome.ensures.outcome)

pub count-requires-clause-under : goal.count-requires-clause-under
count-requires-clause-under c = wider c.loop-i.i 65536 c.loop-i.counts (omega arith) c.loop-i.invariant.0.under
