use Rattle.std.proofs.Common.{List, sym, subst}
use Rattle.std.specs.List.{AllByRecursion}
use Rattle.script_run.specs.Channels.{AreDistinct, CanRun, ids_of, starts_of}
use Rattle.channel_turns.specs.ChannelRuns.{Channel}
use Rattle.script_run.proofs.OpenedScripts.{CanStart, few_caps, lines_run, wired}
use Rattle.script_run.proofs.Starting.{set_up_apart}
use Rattle.script_run.proofs.channels.OpenedChannels.open.Goals as goal

pub open_each-requires-clause-wired : goal.open_each-requires-clause-wired
open_each-requires-clause-wired c = wired c.right_wirings.ensures c.args.scenario.now c.args.set_up.now.opened c.requires.set_up.opens

pub open_each-requires-clause-begin : goal.open_each-requires-clause-begin
open_each-requires-clause-begin c = c.set_up_laws.ensures.controllers c.args.scenario.now c.args.set_up.now.opened c.requires.set_up.opens

pub open_each-requires-clause-few : goal.open_each-requires-clause-few
open_each-requires-clause-few c = few_caps c.args.scenario.now c.args.set_up.now.opened c.requires.within (c.set_up_laws.ensures.few_caps c.args.scenario.now c.args.set_up.now.opened c.requires.set_up.opens)

pub invariant_of-result : goal.invariant_of-result
invariant_of-result c = subst (λ (cs : List Channel). AreDistinct (ids_of cs)) (sym c.in_ok-channels.ensures) (set_up_apart c.args.scenario.now c.args.set_up.now.opened c.requires.set_up.opens)

pub returns-clause-lines : goal.returns-clause-lines
returns-clause-lines c = λ h.
    let k : CanStart c.args.scenario.now c.args.set_up.now = record {
      set_up = c.requires.set_up;
      begins = c.set_up_laws.ensures.controllers c.args.scenario.now c.args.set_up.now.opened c.requires.set_up.opens;
      wired = wired c.right_wirings.ensures c.args.scenario.now c.args.set_up.now.opened c.requires.set_up.opens;
    } in
    subst (λ (cs : List Channel). AllByRecursion (CanRun h.checked.cpus (starts_of cs)) c.args.scenario.now.actions) (sym c.in_ok-channels.ensures) (lines_run c.args.scenario.now c.args.set_up.now k h c.requires.within)
