-- A channel of a controller of performance that is called in one thread, and the headline of its journal.
use Rattle.std.specs.Prelude.{◌≡◌, ℕ, false, List, [], Contains}
use Rattle.std.specs.List.{AllByRecursion}
use Rattle.cpc_package.specs.declared.binding.Binding.{Binding}
use Rattle.cppc_device.specs.Devices.{Cppc, IsDevice}
use Rattle.cppc_device.specs.States.{cppc_exec, cppc_state}
use Rattle.channel_turns.specs.ChannelRuns.{ChannelStart, ChannelState, pending_of}
use Rattle.channel_headline.specs.ChannelLog.{ChannelLine}
use Rattle.channel_headline.specs.Runs.{Calls, ChannelStep, HeadlineOf, Sets, Waits}
use Rattle.cppc_headline.specs.Journals.{AreInRange, InRangeAll, Untouched}

-- the channel is that of this controller, whose registers are the opening space and have every processor in its range
pub record IsPerformance (start : ChannelStart) (device : Cppc) : Type 0 where
  pub exec : start.device ≡ cppc_exec
  pub state : start.state ≡ cppc_state device
  pub right : IsDevice device
  pub opening : start.opening ≡ device.registers
  pub in_range : AreInRange device.cpus start.opening

-- the registers are read, a wish of one of the processors is set, or the clock is moved up
abbrev pub IsRequest : List Binding → ChannelStep → Type 0
IsRequest cpus (Calls c) = (c.code ≡ 0) × (c.bytes ≡ [])
IsRequest cpus (Sets w) = Contains cpus w.binding
IsRequest cpus (Waits n) = Unit {0}

-- The journal and the pending command of a channel in such a state: no command that writes leaves a range, none changes another field than those
-- of one wish, and none is reported as an error.
pub record KeepsRanges (cpus : List Binding) (opening : List ℕ) (now : ChannelState) : Type 0 where
  pub in_range : InRangeAll cpus now.records (pending_of now.in_flight)
  pub untouched : Untouched cpus opening now.records (pending_of now.in_flight)
  pub good : AllByRecursion (λ r. r.error ≡ false) now.records

-- journal and replies keep the headline, and the ranges are kept
pub record PerformanceHeadline (start : ChannelStart) (cpus : List Binding) (lines : List ChannelLine) (now : ChannelState) : Type 0 where
  pub kept : HeadlineOf start lines now
  pub ranges : KeepsRanges cpus start.opening now
