-- Whether a run of the asking machine is under way, and whether it has a command; what the outcome of a step makes of that.
use Rattle.std.specs.Prelude.{ℕ, ◌+◌, Bool, true, false, Option, Some, None}
use Rattle.pcc_steps.specs.declared.ask.AskStage.{AskStage}
use Rattle.pcc_steps.specs.declared.ask.AskStage.TheVariants.{AskRest, PostBlock, PostHeader, PostUpdateLoad, PostUpdateStore, PostMarkLoad, PostMarkStore, PostBellLoad, PostBellStore, PostLine, LookWord, LookError, LookBlock, LookLine, LookLineStore, LookAckLoad, LookAckStore}
use Rattle.pcc_steps.specs.declared.ask.AskOutcome.{AskOutcome}
use Rattle.pcc_steps.specs.declared.ask.AskOutcome.TheVariants.{Posted, Clear, Drained}
use Rattle.pcc_steps.specs.Asking.{Ask}

-- no run is under way
abbrev pub is_rest : AskStage → Bool
is_rest AskRest = true
is_rest (PostBlock j) = false
is_rest PostHeader = false
is_rest PostUpdateLoad = false
is_rest PostUpdateStore = false
is_rest PostMarkLoad = false
is_rest PostMarkStore = false
is_rest PostBellLoad = false
is_rest PostBellStore = false
is_rest PostLine = false
is_rest LookWord = false
is_rest LookError = false
is_rest (LookBlock j) = false
is_rest LookLine = false
is_rest LookLineStore = false
is_rest LookAckLoad = false
is_rest LookAckStore = false

-- a command is in flight, or is being posted
abbrev pub carried_at : AskStage → Bool → Bool
carried_at AskRest flies = flies
carried_at (PostBlock j) flies = true
carried_at PostHeader flies = true
carried_at PostUpdateLoad flies = true
carried_at PostUpdateStore flies = true
carried_at PostMarkLoad flies = true
carried_at PostMarkStore flies = true
carried_at PostBellLoad flies = true
carried_at PostBellStore flies = true
carried_at PostLine flies = true
carried_at LookWord flies = flies
carried_at LookError flies = flies
carried_at (LookBlock j) flies = flies
carried_at LookLine flies = flies
carried_at LookLineStore flies = flies
carried_at LookAckLoad flies = flies
carried_at LookAckStore flies = flies

abbrev pub carried : Ask → Bool
carried a = carried_at a.stage a.in_flight

-- ---- by the outcome of a step, if it ended the run

-- it ended the run
abbrev pub ends_run : Option AskOutcome → Bool
ends_run None = false
ends_run (Some o) = true

-- the looks that saw completion clear
abbrev pub looks_after : Option AskOutcome → ℕ → ℕ
looks_after None n = n
looks_after (Some Posted) n = 0
looks_after (Some Clear) n = n + 1
looks_after (Some (Drained e)) n = n

-- a command is in flight
abbrev pub flies_after : Option AskOutcome → Bool → Bool
flies_after None f = f
flies_after (Some Posted) f = true
flies_after (Some Clear) f = f
flies_after (Some (Drained e)) f = false
