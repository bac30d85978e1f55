-- Three commands by which the definitions of events are evaluated: one that was answered, one that was answered late, and one in flight. The
-- clock had given 100 readings before their end was started.
use Rattle.std.specs.Prelude.{true, false, List, [], ◌∷◌, Option, Some}
use Rattle.pcc_journal.specs.declared.record.Record.{Record}
use Rattle.pcc_journal.specs.declared.note.Note.{Note}
use Rattle.pcc_journal.specs.Events.{Event, Answered, Lost, Drained, Noted, NotedPending, events_of, noted}

abbrev pub timely_record : Record
timely_record = record { caller = 3; code = 16; input = 1 ∷ []; error = true; output = 2 ∷ []; post = 10; done = 20; late = false }

abbrev pub late_record : Record
late_record = record { caller = 4; code = 17; input = 5 ∷ []; error = false; output = 6 ∷ []; post = 30; done = 40; late = true }

abbrev pub both_records : List Record
both_records = timely_record ∷ late_record ∷ []

abbrev pub both_notes : List Note
both_notes = record { post_at = 0; done_at = 1; looks = 0 } ∷ record { post_at = 2; done_at = 3; looks = 7 } ∷ []

abbrev pub both_noted : List Noted
both_noted = noted both_records both_notes

abbrev pub in_flight : Option NotedPending
in_flight =
    Some (record {
      command = record { caller = 3; code = 18; input = 8 ∷ []; post = 50 };
      note = record { post_at = 4; done_at = 0; looks = 9 };
    })

abbrev pub answered_first : Event
answered_first =
    Answered (record { caller = 3; code = 16; input = 1 ∷ []; post = 10; post_number = 100 })
    (record { error = true; output = 2 ∷ []; done = 20; done_number = 101 })

abbrev pub lost_second : Event
lost_second = Lost (record { caller = 4; code = 17; input = 5 ∷ []; post = 30; post_number = 102 }) 7

abbrev pub drained_second : Event
drained_second = Drained (record { error = false; output = 6 ∷ []; done = 40; done_number = 103 })

abbrev pub lost_third : Event
lost_third = Lost (record { caller = 3; code = 18; input = 8 ∷ []; post = 50; post_number = 104 }) 9

abbrev pub all_events : List Event
all_events = events_of 100 both_noted in_flight
