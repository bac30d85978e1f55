use Rattle.std.proofs.Common.{◌+◌, ◌<◌, length, refl, arith}
use Rattle.script_run.specs.DeviceChannels.{channels_by}
use Rattle.script_run.specs.StepRun.{ask_of, asks_by, turn_of}
use Rattle.script_run.proofs.ChannelLists.{starts_left}
use Rattle.script_run.proofs.Steps.{asked_at, putting_more, within_lines}
use Rattle.script_run.proofs.step.run_lines.Goals as goal

pub loop-i-preserved : goal.loop-i-preserved
loop-i-preserved c =
    let before = c.loop-i.invariant in
    let lt : c.loop-i.i < length c.args.actions.now = omega arith in (
      putting_more c.args.first (c.args.first + c.loop-i.i) (asks_by c.args.cpus.now c.args.actions.now) (channels_by c.args.channels.now) (channels_by c.loop-i.channels) (channels_by c.run.new.self)
          c.args.out.now.items c.loop-i.out.items c.put_outcome.new.out.items c.loop-i.i (ask_of c.args.cpus.now c.at.result.now) (within_lines c.args.cpus.now c.args.actions.now c.loop-i.i lt) (asked_at c.args.cpus.now c.args.actions.now c.loop-i.i c.at.result.now c.at.ensures) refl
          (c.in_ok-put_outcome.ensures _ (rw c.as_slice.ensures c.in_ok-outcome.ensures.outcome)) c.in_ok-outcome.ensures.channels before.0,
      starts_left (ask_of c.args.cpus.now c.at.result.now) (channels_by c.args.channels.now) (channels_by c.loop-i.channels) (channels_by c.run.new.self) c.in_ok-outcome.ensures.channels before.1,
      c.in_ok-outcome.ensures.readings c.loop-i.i before.2,
    )

pub put_outcome-requires : goal.put_outcome-requires
put_outcome-requires c = ((turn_of (ask_of c.args.cpus.now c.at.result.now) (channels_by c.loop-i.channels)).reply, rw c.as_slice.ensures c.in_ok-outcome.ensures.outcome)
