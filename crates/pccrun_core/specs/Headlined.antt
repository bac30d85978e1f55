-- The headline of `step`, of `weave` and of `make`, as the top call says it.
use Rattle.std.specs.Prelude.{ℕ, List, [], Option}
use Rattle.std.specs.Io.KnownBytes.{Appends}
use Rattle.pcc_script.specs.Made.{made_scenario_of}
use Rattle.pcc_script.specs.declared.scenario.Scenario.{Scenario}
use Rattle.pcc_setup.specs.SetUps.{Opens}
use Rattle.pcc_setup.specs.declared.opening.Opened.{Opened}
use Rattle.script_run.specs.Headlines.{AreHeadlines}
use Rattle.script_run.specs.Requests.{AreRanged}
use Rattle.script_run.specs.ScriptRuns.{asks_of, run_of, step_text}
use Rattle.script_run.specs.Summaries.{summary_text}
use Rattle.pccrun_core.specs.Answers.{AsksFor, AsksToMake, ReadWhole}
use Rattle.pccrun_core.specs.Serving.{Serves}
use Rattle.pccrun_core.specs.Weaving.{IsWoven}
use Rattle.pccrun_core.specs.declared.command.Command.TheVariants as command

-- `step` has read a script and written the text of its run. Each journal of that run keeps its headline, and that of a controller the ranges of its
-- processors (`AreRanged`).
pub record StepHeadline (left left' held held' : Option (List ℕ)) : Type 0 where
  pub input : List ℕ
  pub scenario : Scenario
  pub opened : List Opened
  pub read : ReadWhole left left' input
  pub served : Serves command.Step input scenario opened
  pub text : Appends held held' (step_text scenario opened served.opens.checked.cpus)
  pub journals : AreHeadlines (asks_of scenario served.opens.checked.cpus) (run_of scenario opened served.opens.checked.cpus)
  pub ranges : AreRanged opened (run_of scenario opened served.opens.checked.cpus).channels

-- `weave` has read a script, and written a trace with its journal, which are woven (`IsWoven`, whose `headline` the journal keeps)
pub record WeaveHeadline (left left' held held' : Option (List ℕ)) : Type 0 where
  pub input : List ℕ
  pub scenario : Scenario
  pub opened : List Opened
  pub text : List ℕ
  pub read : ReadWhole left left' input
  pub served : Serves command.Weave input scenario opened
  pub written : Appends held held' text
  pub woven : IsWoven scenario served.opens.table text

-- `make` has written the summary of the run of a made-up script with so many calls, and each journal of that run keeps its headline
pub record MakeHeadline (calls : ℕ) (held held' : Option (List ℕ)) : Type 0 where
  pub opened : List Opened
  pub opens : Opens (made_scenario_of calls) opened
  pub text : Appends held held' (summary_text calls (run_of (made_scenario_of calls) opened []))
  pub journals : AreHeadlines (asks_of (made_scenario_of calls) []) (run_of (made_scenario_of calls) opened [])

-- one of these, by the words
pub record Headlined (words : List (List ℕ)) (left left' held held' : Option (List ℕ)) : Type 0 where
  pub step : AsksFor words command.Step → StepHeadline left left' held held'
  pub weave : AsksFor words command.Weave → WeaveHeadline left left' held held'
  pub make : (calls : ℕ) → AsksToMake words calls → MakeHeadline calls held held'
