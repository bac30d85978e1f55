-- The records of a run of words, by its calls.
use Rattle.std.specs.Prelude.{◌≡◌, ◌≤◌, ℕ, ◌+◌, List, [], ◌∷◌, ◌++◌, map, Some}
use Rattle.std.specs.List.{slice_get}
use Rattle.pcc_history.specs.Histories.{WholeHistory}
use Rattle.pcc_journal.specs.declared.record.Record.{Record}
use Rattle.pcc_journal.specs.Records.{exchanges_of}
use Rattle.channel_plain.specs.declared.trace.Asked.{Asked}

-- some of the calls in their order, all in front of a place
pub data Chosen (calls : List Asked) : ℕ → List Asked → Type 0 where
  no_call : (n : ℕ) → Chosen calls n []
  one_more : (n place : ℕ) (cs : List Asked) (c : Asked) → Chosen calls n cs → n ≤ place → slice_get calls place ≡ Some c
      → Chosen calls (place + 1) (cs ++ c ∷ [])

abbrev pub bytes_asked : Asked → List ℕ
bytes_asked c = c.bytes

-- who asked, and for which code
pub record Caller : Type 0 where
  pub caller : ℕ
  pub code : ℕ

abbrev pub caller_of_call : Asked → Caller
caller_of_call c = record { caller = c.caller; code = c.code }

abbrev pub caller_of_record : Record → Caller
caller_of_record r = record { caller = r.caller; code = r.code }

-- Each record is of a call, one call each, in their order: it has the call's caller and code, and its input is the output before it, at
-- first the opening space, with the call's bytes laid over.
pub record IsWhole (opening : List ℕ) (calls : List Asked) (records : List Record) : Type 0 where
  pub place : ℕ
  pub served : List Asked
  pub chosen : Chosen calls place served
  pub callers : map caller_of_record records ≡ map caller_of_call served
  pub whole : WholeHistory opening (exchanges_of records) (map bytes_asked served)
