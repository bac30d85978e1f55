-- The journal of a controller of performance keeps the ranges of its processors, of which reads and wishes are asked alone.
use Rattle.std.proofs.Common.{◌≡◌, ℕ, Bool, true, false, cond, List, [], ◌∷◌, ◌++◌, map, refl, sym, ap, ◌∙◌}
use Rattle.std.specs.Prelude.{Some, ◌==◌, slice_get}
use Rattle.std.specs.List.{AllByRecursion}
use Rattle.std.proofs.lemmas.Bool.{eqb-true}
use Rattle.std.proofs.lemmas.Option.{same_Some}
use Rattle.cpc_package.specs.declared.binding.Binding.{Binding}
use Rattle.cppc_device.specs.Devices.{Cppc}
use Rattle.channel_turns.specs.ChannelRuns.{Channel, ChannelStart, fresh}
use Rattle.channel_headline.specs.Runs.{ChannelRun, ChannelStep, run_from}
use Rattle.cppc_headline.specs.PerformanceHeadline.{IsPerformance, IsRequest, KeepsRanges}
use Rattle.cppc_headline.proofs.Requests.{ranges_of_runs}
use Rattle.script_run.specs.Channels.{AreDistinct, fresh_channel, id_of}
use Rattle.script_run.specs.Requests.{IsRequestOf, IsRequestOn}
use Rattle.script_run.specs.StepRun.{Ask, Asks, LineAsk, Moves, Nothing, OfCall, OfRead, OfWish, step_run}
use Rattle.script_run.proofs.Headlines.{alone, step_of, steps_on}
use Rattle.script_run.proofs.Several.{runs_apart}

one_request : (cpus : List Binding) (ask : Ask) → IsRequestOf cpus ask → IsRequest cpus (step_of ask)
one_request cpus (OfCall call) h = absurd h
one_request cpus (OfRead r) h = (refl, refl)
one_request cpus (OfWish w) h = h

asked_steps : (cpus : List Binding) (id subspace : ℕ) (ask : Ask) (rest : List ChannelStep) (b : Bool) → (id == subspace) ≡ b → (id ≡ subspace → IsRequestOf cpus ask)
    → AllByRecursion (IsRequest cpus) rest → AllByRecursion (IsRequest cpus) (cond b (step_of ask ∷ []) [] ++ rest)
asked_steps cpus id subspace ask rest true e own all = (one_request cpus ask (own (eqb-true id subspace e)), all)
asked_steps cpus id subspace ask rest false e own all = all

request_steps : (cpus : List Binding) (id : ℕ) (ls : List LineAsk) → AllByRecursion (IsRequestOn cpus id) ls → AllByRecursion (IsRequest cpus) (steps_on id ls)
request_steps cpus id [] h = tt
request_steps cpus id (Asks subspace ask ∷ ls) h = asked_steps cpus id subspace ask (steps_on id ls) (id == subspace) refl h.0 (request_steps cpus id ls h.1)
request_steps cpus id (Moves n ∷ ls) h = (tt, request_steps cpus id ls h.1)
request_steps cpus id (Nothing ∷ ls) h = request_steps cpus id ls h.1

-- the channel that a run leaves at a place
pub run_ranges : (ls : List LineAsk) (cs : List Channel) (i : ℕ) (start : ChannelStart) (device : Cppc) → AreDistinct (map id_of cs) → slice_get cs i ≡ Some (fresh_channel start)
    → IsPerformance start device → AllByRecursion (IsRequestOn device.cpus start.head.id) ls
    → (c : Channel) × (slice_get (step_run ls cs).channels i ≡ Some c) × (c.start ≡ start) × KeepsRanges device.cpus c.start.opening c.now
run_ranges ls cs i start device apart at is own =
    let a = runs_apart ls cs i (fresh_channel start) apart at in
    let q : ChannelRun = run_from start (fresh start) (steps_on start.head.id ls) in
    let d : Channel = record { start = start; now = q.now } in
    let f = alone start ls (fresh start) in
    let same : a.0 ≡ d = same_Some a.0 d (ap (λ (v : List Channel). slice_get v 0) (sym a.2 ∙ f.left)) in
    let kept : KeepsRanges device.cpus start.opening q.now = ranges_of_runs start device (steps_on start.head.id ls) is (request_steps device.cpus start.head.id ls own) in
    (d, a.1 ∙ ap (λ (c : Channel). Some c) same, refl, kept)
