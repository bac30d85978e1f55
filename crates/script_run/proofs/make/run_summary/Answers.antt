use Rattle.std.proofs.Common.{List, arith, sym, subst}
use Rattle.std.specs.List.{AllByRecursion}
use Rattle.cpc_package.specs.declared.binding.Binding.{Binding}
use Rattle.script_run.specs.Channels.{CanRun, IsEarly, starts_of}
use Rattle.script_run.specs.DeviceChannels.{channels_by}
use Rattle.script_run.specs.ScriptRuns.{clock_of}
use Rattle.script_run.proofs.MadeUp.{if_ok_more, made_alone, made_cpus, made_text, some_device, summary_is}
use Rattle.script_run.proofs.Starting.{begun_early}
use Rattle.script_run.proofs.make.run_summary.Goals as goal

pub count_lines-requires-clause-lines : goal.count_lines-requires-clause-lines
count_lines-requires-clause-lines c =
    subst (λ (bs : List Binding). AllByRecursion (CanRun bs (starts_of (channels_by c.in_ok-channels.channels))) c.args.scenario.now.actions)
    (made_cpus c.args.calls c.args.scenario.now c.args.set_up.now.opened c.requires.made c.requires.set_up.opens) (c.in_ok-channels.ensures.lines c.requires.set_up.opens)

pub count_lines-requires-clause-early : goal.count_lines-requires-clause-early
count_lines-requires-clause-early c = subst (AllByRecursion (IsEarly 0)) (sym c.in_ok-channels.ensures.channels) (begun_early (clock_of c.args.scenario.now) c.args.set_up.now.opened)

pub bounds-as_slice-0 : goal.bounds-as_slice-0
bounds-as_slice-0 c =
    let one = some_device c.args.scenario.now c.args.set_up.now.opened (channels_by c.in_ok-channels.channels) c.count_lines.new.channels (made_alone c.args.calls c.args.scenario.now c.args.set_up.now.opened c.requires.made c.requires.set_up.opens) c.in_ok-channels.ensures.channels c.in_ok-counts.ensures.channels in
    let same = c.as_slice.ensures in
    rw same (omega (arith, one))

pub returns : goal.returns
returns c = if_ok_more c.summary.result _ _ (λ v e.
    made_text c.args.calls c.args.scenario.now c.args.set_up.now.opened v.items c.requires.made c.requires.set_up.opens
    (summary_is c.args.scenario.now c.args.set_up.now.opened (channels_by c.in_ok-channels.channels) c.count_lines.new.channels c.index-as_slice-0.result c.in_ok-counts.counts c.len.result v.items
    (made_alone c.args.calls c.args.scenario.now c.args.set_up.now.opened c.requires.made c.requires.set_up.opens) c.in_ok-channels.ensures.channels c.len.ensures
    c.in_ok-counts.ensures.counts c.in_ok-counts.ensures.channels (rw c.as_slice.ensures at c.index-as_slice-0.is) e)) c.summary.ensures
