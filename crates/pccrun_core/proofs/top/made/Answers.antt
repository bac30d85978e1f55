use Rattle.pccrun_core.specs.declared.command.Command.TheVariants as command
use Rattle.pccrun_core.proofs.top.made.Goals as goal

pub returns-in-Step : goal.returns-in-Step
returns-in-Step c = rw c.in-Step.is (c.done.ensures command.Step c.args.input.now c.step.ensures)

pub returns-in-Weave : goal.returns-in-Weave
returns-in-Weave c = rw c.in-Weave.is (c.done-in-Weave.ensures command.Weave c.args.input.now c.weave.ensures)

pub returns-in-Show : goal.returns-in-Show
returns-in-Show c = rw c.in-Show.is (c.done-in-Show.ensures command.Show c.args.input.now c.show.ensures)

pub returns-in-Build : goal.returns-in-Build
returns-in-Build c = rw c.in-Build.is (c.done-in-Build.ensures command.Build c.args.input.now c.build.ensures)

pub returns-in-Cpc : goal.returns-in-Cpc
returns-in-Cpc c = rw c.in-Cpc.is (c.done-in-Cpc.ensures command.Cpc c.args.input.now c.cpc.ensures)

pub returns-in-Raise : goal.returns-in-Raise
returns-in-Raise c = rw c.in-Raise.is (c.done-in-Raise.ensures command.Raise c.args.input.now c.raise.ensures)
