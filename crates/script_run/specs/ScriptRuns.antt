-- What a script opens, and what `step` prints for it.
use Rattle.std.specs.Prelude.{◌≡◌, ℕ, if◌then◌else◌, List, ◌++◌, map}
use Rattle.std.specs.List.{flat_map}
use Rattle.pcc_journal.specs.JournalText.{journal_text}
use Rattle.pcc_script.specs.declared.scenario.Scenario.{Scenario}
use Rattle.pcc_setup.specs.declared.opening.Opened.{Opened}
use Rattle.pcc_setup.specs.Equipment.{ArePlaces}
use Rattle.pcc_setup.specs.SetUps.{first_action}
use Rattle.pcc_setup.specs.declared.setup.SetUp.{SetUp}
use Rattle.cpc_package.specs.declared.binding.Binding.{Binding}
use Rattle.cppc_device.specs.Openings.{new_device, opening}
use Rattle.cppc_device.specs.States.{cppc_exec, cppc_state}
use Rattle.channel_turns.specs.ChannelRuns.{Channel, ChannelStart, ScriptClock, pending_of}
use Rattle.script_run.specs.Channels.{bank_start, fresh_channel}
use Rattle.script_run.specs.Headlines.{AreHeadlines}
use Rattle.script_run.specs.ReplyText.{replies_text}
use Rattle.script_run.specs.StepRun.{LineAsk, Run, asks_by, step_run}

-- ---- the opened subspaces

abbrev pub clock_of : Scenario → ScriptClock
clock_of s = record { start = s.start; step = s.step }

-- a new controller of performance, whose registers are in its communication space at first
abbrev pub controller_start : Opened → ScriptClock → ChannelStart
controller_start o clock = record {
  head = o.head;
  clock = clock;
  device = cppc_exec;
  state = cppc_state (new_device o.wiring.room o.image o.cpus o.caps);
  opening = opening o.wiring.room o.image;
}

abbrev pub start_of : ScriptClock → Opened → ChannelStart
start_of clock o = if o.head.cppc then controller_start o clock else bank_start o.head clock

-- one channel for each opened subspace, which nothing was asked yet. Each has a clock of its own.
abbrev pub set_up_of : Scenario → List Opened → List Channel
set_up_of s opened = map (λ o. fresh_channel (start_of (clock_of s) o)) opened

-- a set-up has the place of each of some processors
abbrev pub HasPlaces : SetUp → Type 0
HasPlaces u = (cpus : List Binding) × ArePlaces u.opened cpus u.places

-- ---- the text of `step`

-- what the lines of a script ask, by the bindings of its processors
abbrev pub asks_of : Scenario → List Binding → List LineAsk
asks_of s cpus = asks_by cpus s.actions

abbrev pub run_of : Scenario → List Opened → List Binding → Run
run_of s opened cpus = step_run (asks_of s cpus) (set_up_of s opened)

abbrev pub channel_journal : Channel → List ℕ
channel_journal c = journal_text c.start.head c.now.records (pending_of c.now.in_flight)

-- what a run prints: the replies in the order of the lines, then the journals in the order of the `open` lines
abbrev pub run_text : ℕ → Run → List ℕ
run_text first r = replies_text first r.replies ++ flat_map channel_journal r.channels

unfoldable pub step_text : Scenario → List Opened → List Binding → List ℕ
step_text s opened cpus = run_text (first_action s) (run_of s opened cpus)

-- the text is what `step` prints for a script with these opened subspaces and processors, and the journals of its run keep the headline
pub record IsStepText (s : Scenario) (opened : List Opened) (cpus : List Binding) (text : List ℕ) : Type 0 where
  pub text_is : text ≡ step_text s opened cpus
  pub headline : AreHeadlines (asks_of s cpus) (run_of s opened cpus)
