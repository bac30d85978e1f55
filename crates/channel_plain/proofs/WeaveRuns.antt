-- Picks that were made one after the other on a new channel are a run of words.
use Rattle.std.proofs.Common.{ℕ, List}
use Rattle.std.specs.Prelude.{Option, OnErr, Result}
use Rattle.std.specs.Prelude.{Ok, Err}
use Rattle.pcc_history.specs.Devices.{Device}
use Rattle.pcc_steps.specs.Laws.{PostsByTable, LooksByTable, AsksByTable, AnswersByTable, AnswerStepsByTable, ExecutesByTable}
use Rattle.channel_plain.specs.declared.trace.Side.{Side}
use Rattle.channel_plain.specs.declared.trace.Asked.{Asked}
use Rattle.channel_plain.specs.declared.trace.TraceLine.{TraceLine}
use Rattle.channel_plain.specs.News.{opening_of}
use Rattle.channel_plain.specs.Standing.{HavePolls, Stands}
use Rattle.channel_plain.specs.Weaving.{Clocked, Follows, IsFresh, IsWeave}
use Rattle.channel_plain.specs.Wholes.{IsWhole}
use Rattle.channel_plain.specs.Good.{Stays}
use Rattle.channel_plain.proofs.WeaveStays.{few_readings, stays}
use Rattle.channel_plain.proofs.WholeOf.{whole_of}
use Rattle.channel_plain.proofs.WordRunOf.{word_run}

pub on_err : {T E P : Type 0} (r : Result T E) → P → OnErr r P
on_err (Ok x) p = tt
on_err (Err e) p = p

module _ {K : Type 0} (taken : K → ℕ) (tells : K → ℕ → Option ℕ) (exec : Device) (calls : List Asked) where
  module _ (is_state : List ℕ → Type 0) (room_of : List ℕ → ℕ) where
    pub is_weave : PostsByTable → LooksByTable → AsksByTable → AnswersByTable → AnswerStepsByTable → ExecutesByTable → HavePolls calls
        → (sides : List Side) (s : Clocked K) (trace : List TraceLine) (t : Clocked K) → IsFresh s.channel → Stands exec is_state room_of t.channel
        → Follows taken tells exec calls is_state room_of sides s trace t → IsWeave taken tells exec calls is_state room_of sides s trace t
    is_weave posts looks asks table law turn polls sides s trace t new stands f =
        let w = word_run taken tells exec calls is_state room_of posts looks asks table law turn polls s.channel s.clock sides trace f.readings t.channel t.clock new f.wove stands in
        record { readings = f.readings; read = w.0; few = few_readings taken tells exec calls is_state room_of s.channel s.clock sides trace f.readings t.channel t.clock f.wove; run = w.1; wove = f.wove }

    pub stays_of : (sides : List Side) (s : Clocked K) (trace : List TraceLine) (t : Clocked K)
        → Follows taken tells exec calls is_state room_of sides s trace t → Stays s.channel t.channel
    stays_of sides s trace t f = stays taken tells exec calls is_state room_of s.channel s.clock sides trace f.readings t.channel t.clock f.wove

    pub whole_of_weave : (sides : List Side) (s : Clocked K) (trace : List TraceLine) (t : Clocked K)
        → IsWeave taken tells exec calls is_state room_of sides s trace t → IsWhole (opening_of s.channel.ask.wiring) calls t.channel.calls.records
    whole_of_weave sides s trace t h = whole_of s.channel.ask.wiring s.channel.calls.limits calls (opening_of s.channel.ask.wiring) _ h.readings t.channel.calls.records _ h.run.asking
