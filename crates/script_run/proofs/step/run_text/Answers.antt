use Rattle.std.proofs.Common.{◌≡◌, ◌∙◌, List, sym, subst}
use Rattle.std.specs.List.{AllByRecursion}
use Rattle.cpc_package.specs.declared.binding.Binding.{Binding}
use Rattle.script_run.specs.Channels.{CanRun, IsEarly, starts_of}
use Rattle.script_run.specs.DeviceChannels.{channels_by}
use Rattle.script_run.specs.ScriptRuns.{clock_of}
use Rattle.script_run.proofs.OpenedScripts.{text_of}
use Rattle.script_run.proofs.Starting.{begun_early}
use Rattle.script_run.proofs.step.run_text.Goals as goal

pub bindings_of-requires : goal.bindings_of-requires
bindings_of-requires c = (c.requires.set_up.opens.checked.cpus, c.requires.set_up.places c.requires.set_up.opens)

pub run_lines-requires-clause-lines : goal.run_lines-requires-clause-lines
run_lines-requires-clause-lines c = let h = c.requires.set_up.opens in
    let cpus : c.deref.result.now ≡ h.checked.cpus = c.deref.ensures.value ∙ c.in_ok-cpus.ensures h.checked.cpus (c.requires.set_up.places h) in
    subst (λ (bs : List Binding). AllByRecursion (CanRun bs (starts_of (channels_by c.in_ok-channels.channels))) c.args.scenario.now.actions) (sym cpus) (c.in_ok-channels.ensures.lines h)

pub run_lines-requires-clause-early : goal.run_lines-requires-clause-early
run_lines-requires-clause-early c = subst (AllByRecursion (IsEarly 0)) (sym c.in_ok-channels.ensures.channels) (begun_early (clock_of c.args.scenario.now) c.args.set_up.now.opened)

pub returns : goal.returns
returns c = λ h.
    let cpus : c.deref.result.now ≡ h.checked.cpus = c.deref.ensures.value ∙ c.in_ok-cpus.ensures h.checked.cpus (c.requires.set_up.places h) in
    text_of c.args.scenario.now c.args.set_up.now.opened c.deref.result.now h.checked.cpus (channels_by c.in_ok-channels.channels) (channels_by c.run_lines.new.channels) c.new-out.result.items c.run_lines.new.out.items c.put_journals.new.out.items c.first_action-first.result
    h cpus c.in_ok-channels.ensures.channels c.first_action-first.ensures.number c.new-out.ensures.items c.in_ok-run_lines.ensures.replies c.in_ok-run_lines.ensures.channels (rw c.as_slice.ensures at c.in_ok-put_journals.ensures)
