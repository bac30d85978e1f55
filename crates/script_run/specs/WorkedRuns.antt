-- Worked runs of `step`, by replies and records.
use Rattle.std.specs.Prelude.{◌≡◌, ◌==◌, if◌then◌else◌, ℕ, Bool, true, false, List, [], ◌∷◌, Option, Some, None, map}
use Rattle.pcc_history.specs.Devices.{Executed, bank_exec}
use Rattle.cppc_device.specs.Worked.{registers, six_fields}
use Rattle.cppc_calls.specs.declared.wish.SetRefusal.TheVariants.{BelowLowest, DesiredAboveMax}
use Rattle.pcc_journal.specs.declared.record.Record.{Record}
use Rattle.pcc_journal.specs.declared.record.Pending.{Pending}
use Rattle.pcc_script.specs.declared.scenario.Line.{Line}
use Rattle.pcc_script.specs.declared.scenario.Line.TheVariants as line
use Rattle.channel_turns.specs.Replies.{Reply, Done, BadCode, TooLong, StillPending, TooSoon, TimedOut}
use Rattle.channel_turns.specs.ChannelRuns.{Channel, ChannelStart, ScriptClock, fresh, pending_of}
use Rattle.script_run.specs.StepRun.{ByChannel, Run, ShownReply, Values, asks_by, step_run}
use Rattle.channel_headline.specs.Asked.{Refused, Replied}

-- a Bank of two bytes on a subspace of type 0 without a rate
abbrev bank : ℕ → ℕ → ScriptClock → Channel
bank id turnaround ticks =
    let start : ChannelStart = record {
      head = record { id = id; kind = 0; cppc = false; room = 2; limits = record { turnaround = turnaround; per_minute = 0 }; reports = true };
      clock = ticks;
      device = bank_exec;
      state = 0 ∷ 0 ∷ 0 ∷ [];
      opening = 0 ∷ 0 ∷ [];
    } in record { start = start; now = fresh start }

abbrev every : ℕ → ℕ → ScriptClock
every step start = record { start = start; step = step }

-- a swap with the bytes of the Bank, and a look at them
abbrev swap : ℕ → List ℕ → ℕ → ℕ → Line
swap worker bytes polls hold = line.Call worker 0 16 bytes polls hold

abbrev look : ℕ → ℕ → Line
look polls hold = line.Call 0 0 17 [] polls hold

-- lines that name no processor
abbrev run_lines : List Line → List Channel → Run
run_lines lines cs = step_run (asks_by [] lines) cs

-- a reply of a channel
abbrev shown : Reply → Option ShownReply
shown reply = Some (ByChannel (Replied reply))

abbrev records_of : Channel → List Record
records_of c = c.now.records

abbrev waiting_of : Channel → Option Pending
waiting_of c = pending_of c.now.in_flight

-- the replies, and of each journal the records and the command in flight
pub record Seen : Type 0 where
  pub replies : List (Option ShownReply)
  pub records : List (List Record)
  pub pending : List (Option Pending)

abbrev seen : Run → Seen
seen r = record { replies = r.replies; records = map records_of r.channels; pending = map waiting_of r.channels }

abbrev kept : ℕ → ℕ → List ℕ → List ℕ → ℕ → ℕ → Bool → Record
kept caller code input output post done late =
    record { caller = caller; code = code; input = input; error = false; output = output; post = post; done = done; late = late }

-- two swaps, a bad code, too many bytes, and a code that the Bank doesn't know
abbrev pub replies_in_one_thread : Type 0
replies_in_one_thread =
    seen (run_lines (swap 0 (1 ∷ 2 ∷ []) 3 0 ∷ swap 0 (3 ∷ []) 3 0 ∷ line.Call 0 0 256 [] 1 0
    ∷ line.Call 0 0 17 (1 ∷ 2 ∷ 3 ∷ []) 1 0 ∷ line.Call 0 0 18 (9 ∷ []) 1 0 ∷ []) (bank 0 0 (every 10 0) ∷ []))
    ≡ record {
      replies = shown (Done false (0 ∷ 0 ∷ [])) ∷ shown (Done false (1 ∷ 2 ∷ [])) ∷ shown (BadCode 256) ∷ shown (TooLong 3 2)
          ∷ shown (Done true (9 ∷ 2 ∷ [])) ∷ [];
      records = (
          kept 0 16 (1 ∷ 2 ∷ []) (0 ∷ 0 ∷ []) 0 10 false
          ∷ kept 0 16 (3 ∷ 0 ∷ []) (1 ∷ 2 ∷ []) 20 30 false
          ∷ record { caller = 0; code = 18; input = 9 ∷ 2 ∷ []; error = true; output = 9 ∷ 2 ∷ []; post = 40; done = 50; late = false }
          ∷ []
          ) ∷ [];
      pending = None ∷ [];
    }

-- a command that was held for all of its polls is drained by the next call
abbrev pub late_record : Type 0
late_record =
    seen (run_lines (swap 0 (1 ∷ []) 3 3 ∷ swap 1 (2 ∷ []) 4 3 ∷ []) (bank 0 0 (every 10 0) ∷ []))
    ≡ record {
      replies = shown (TimedOut 3) ∷ shown (Done false (1 ∷ 0 ∷ [])) ∷ [];
      records = (kept 0 16 (1 ∷ 0 ∷ []) (0 ∷ 0 ∷ []) 0 10 true ∷ kept 1 16 (2 ∷ 0 ∷ []) (1 ∷ 0 ∷ []) 20 30 false ∷ []) ∷ [];
      pending = None ∷ [];
    }

-- a command that is held for longer than all polls stays in flight
abbrev pub still_pending : Type 0
still_pending =
    seen (run_lines (swap 0 (1 ∷ []) 3 100 ∷ swap 0 (2 ∷ []) 3 0 ∷ swap 0 (2 ∷ []) 3 0 ∷ []) (bank 0 0 (every 10 0) ∷ []))
    ≡ record {
      replies = shown (TimedOut 3) ∷ shown (StillPending 3) ∷ shown (StillPending 3) ∷ [];
      records = [] ∷ [];
      pending = Some (record { caller = 0; code = 16; input = 1 ∷ 0 ∷ []; post = 0 }) ∷ [];
    }

-- of a hold of 5, two polls leave 3, two more leave 1, and the third call completes the command
abbrev pub rest_of_a_hold : Type 0
rest_of_a_hold =
    seen (run_lines (swap 0 (1 ∷ []) 2 5 ∷ look 2 0 ∷ look 2 0 ∷ []) (bank 0 0 (every 10 0) ∷ []))
    ≡ record {
      replies = shown (TimedOut 2) ∷ shown (StillPending 2) ∷ shown (Done false (1 ∷ 0 ∷ [])) ∷ [];
      records = (kept 0 16 (1 ∷ 0 ∷ []) (0 ∷ 0 ∷ []) 0 10 true ∷ kept 0 17 (0 ∷ 0 ∷ []) (1 ∷ 0 ∷ []) 20 30 false ∷ []) ∷ [];
      pending = None ∷ [];
    }

-- a turnaround of 500: one reading too early, and one at the earliest
abbrev pub too_soon : Type 0
too_soon =
    seen (run_lines (look 1 0 ∷ line.Wait 489 ∷ look 1 0 ∷ look 1 0 ∷ []) (bank 0 500 (every 10 1000) ∷ []))
    ≡ record {
      replies = shown (Done false (0 ∷ 0 ∷ [])) ∷ None ∷ shown (TooSoon 1509 1510) ∷ shown (Done false (0 ∷ 0 ∷ [])) ∷ [];
      records = (kept 0 17 (0 ∷ 0 ∷ []) (0 ∷ 0 ∷ []) 1000 1010 false ∷ kept 0 17 (0 ∷ 0 ∷ []) (0 ∷ 0 ∷ []) 1519 1529 false ∷ []) ∷ [];
      pending = None ∷ [];
    }

-- two subspaces have a clock each, and their journals stand in the order in which they were opened
abbrev pub two_subspaces : Type 0
two_subspaces =
    seen (run_lines (line.Call 0 0 17 [] 1 0 ∷ line.Call 0 1 17 [] 1 0 ∷ []) (bank 1 0 (every 10 0) ∷ bank 0 0 (every 10 0) ∷ []))
    ≡ record {
      replies = shown (Done false (0 ∷ 0 ∷ [])) ∷ shown (Done false (0 ∷ 0 ∷ [])) ∷ [];
      records = (kept 0 17 (0 ∷ 0 ∷ []) (0 ∷ 0 ∷ []) 0 10 false ∷ []) ∷ (kept 0 17 (0 ∷ 0 ∷ []) (0 ∷ 0 ∷ []) 0 10 false ∷ []) ∷ [];
      pending = None ∷ None ∷ [];
    }

-- ---- processors

-- a device that keeps registers: code 0 gives them out, and code 1 takes the space
abbrev register_exec : List ℕ → ℕ → List ℕ → Executed
register_exec state code space =
    if code == 0 then record { state = state; bad = false; space = state }
    else if code == 1 then record { state = space; bad = false; space = space }
    else record { state = state; bad = true; space = space }

-- the subspace of a processor with a desired performance of 100, a minimum of 10 and a maximum of 250
abbrev processor_channel : Channel
processor_channel =
    let start : ChannelStart = record {
      head = record { id = 0; kind = 0; cppc = true; room = 32; limits = record { turnaround = 0; per_minute = 0 }; reports = true };
      clock = every 10 0;
      device = register_exec;
      state = registers 100 10 250 0 0 0;
      opening = registers 100 10 250 0 0 0;
    } in record { start = start; now = fresh start }

abbrev read : ℕ → ℕ → Line
read polls hold = line.Read 0 0 polls hold

abbrev set_to : Option ℕ → ℕ → Option ℕ → ℕ → ℕ → Line
set_to min desired max polls hold = line.Set 0 (record { cpu = 0; min = min; desired = desired; max = max }) polls hold

abbrev seen_on_processor : List Line → Seen
seen_on_processor lines = seen (step_run (asks_by (six_fields ∷ []) lines) (processor_channel ∷ []))

-- a set posts the whole space with the wish put, and a read shows the numbers of the space that comes back; a wish that is refused takes no reading
abbrev pub set_and_read : Type 0
set_and_read =
    seen_on_processor (set_to (Some 20) 150 None 1 0 ∷ read 1 0 ∷ set_to None 9 None 1 0 ∷ read 1 0 ∷ [])
    ≡ record {
      replies =
          shown (Done false (registers 150 20 250 0 0 0)) ∷ Some (Values six_fields (registers 150 20 250 0 0 0))
          ∷ Some (ByChannel (Refused (BelowLowest 9 10))) ∷ Some (Values six_fields (registers 150 20 250 0 0 0)) ∷ [];
      records = (
          kept 0 1 (registers 150 20 250 0 0 0) (registers 150 20 250 0 0 0) 0 10 false
          ∷ kept 0 0 (registers 150 20 250 0 0 0) (registers 150 20 250 0 0 0) 20 30 false
          ∷ kept 0 0 (registers 150 20 250 0 0 0) (registers 150 20 250 0 0 0) 40 50 false
          ∷ []
          ) ∷ [];
      pending = None ∷ [];
    }

-- a wish is judged by the space that an earlier command left, and that command is recorded though the wish is refused
abbrev pub refused_after_late : Type 0
refused_after_late =
    seen_on_processor (set_to None 100 (Some 120) 1 3 ∷ set_to None 110 None 1 0 ∷ set_to None 130 None 2 0 ∷ [])
    ≡ record {
      replies = shown (TimedOut 1) ∷ shown (StillPending 1) ∷ Some (ByChannel (Refused (DesiredAboveMax 130 120))) ∷ [];
      records = (kept 0 1 (registers 100 10 120 0 0 0) (registers 100 10 120 0 0 0) 0 10 true ∷ []) ∷ [];
      pending = None ∷ [];
    }
