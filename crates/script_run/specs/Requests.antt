-- What the lines of a run ask of controllers of performance, and what the journals of these keep.
use Rattle.std.specs.Prelude.{◌≡◌, ℕ, Bool, true, false, List, Contains}
use Rattle.std.specs.List.{AllZip}
use Rattle.pcc_setup.specs.declared.opening.Opened.{Opened}
use Rattle.cpc_package.specs.declared.binding.Binding.{Binding}
use Rattle.channel_turns.specs.ChannelRuns.{Channel}
use Rattle.cppc_headline.specs.PerformanceHeadline.{KeepsRanges}
use Rattle.script_run.specs.StepRun.{Ask, Asks, LineAsk, Moves, Nothing, OfCall, OfRead, OfWish}

-- ---- what is asked

-- to read one of these processors, or to set a wish of it
abbrev pub IsRequestOf : List Binding → Ask → Type 0
IsRequestOf cpus (OfCall call) = ⊥
IsRequestOf cpus (OfRead r) = Contains cpus r.binding
IsRequestOf cpus (OfWish w) = Contains cpus w.binding

-- a line asks nothing else of the channel with this ID
abbrev pub IsRequestOn : List Binding → ℕ → LineAsk → Type 0
IsRequestOn cpus id (Asks subspace ask) = id ≡ subspace → IsRequestOf cpus ask
IsRequestOn cpus id (Moves n) = Unit {0}
IsRequestOn cpus id Nothing = Unit {0}

-- ---- what is kept

abbrev pub RangesIf : Bool → List Binding → Channel → Type 0
RangesIf true cpus c = KeepsRanges cpus c.start.opening c.now
RangesIf false cpus c = Unit {0}

-- The journal of a controller keeps the ranges of its processors, that of its pending command included. Nothing is said of a Bank.
abbrev pub HasRanges : Opened → Channel → Type 0
HasRanges o c = RangesIf o.head.cppc o.cpus c

-- each channel of the opened subspaces
abbrev pub AreRanged : List Opened → List Channel → Type 0
AreRanged opened channels = AllZip HasRanges opened channels
