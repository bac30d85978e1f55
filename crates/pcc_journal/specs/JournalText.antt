-- The text of a journal. Each line is a list of pieces, with its line feed. Numbers are decimal and bytes hexadecimal.
use Rattle.std.specs.Prelude.{ℕ, ◌+◌, if◌then◌else◌, List, [], ◌∷◌, ◌++◌, Option, Some, None, codes}
use Rattle.pcc_text.specs.Pieces.{Spelled, Words, Decimal, HexOf, spelled}
use Rattle.pcc_journal.specs.declared.record.Record.{Record}
use Rattle.pcc_journal.specs.declared.record.Pending.{Pending}
use Rattle.pcc_journal.specs.declared.text.JournalHead.{JournalHead}

-- journal ID type KIND bank|cppc room ROOM turnaround TURNAROUND rate PER_MINUTE errors yes|no
abbrev pub head_line : JournalHead → List Spelled
head_line head =
    Words (codes "journal ") ∷ Decimal head.id ∷ Words (codes " type ") ∷ Decimal head.kind
    ∷ Words (if head.cppc then codes " cppc room " else codes " bank room ") ∷ Decimal head.room
    ∷ Words (codes " turnaround ") ∷ Decimal head.limits.turnaround ∷ Words (codes " rate ") ∷ Decimal head.limits.per_minute
    ∷ Words (if head.reports then codes " errors yes\n" else codes " errors no\n") ∷ []

-- record PLACE caller CALLER code CODE ok|error post POST done DONE late|timely in INPUT out OUTPUT
abbrev pub record_line : ℕ → Record → List Spelled
record_line place r =
    Words (codes "record ") ∷ Decimal place ∷ Words (codes " caller ") ∷ Decimal r.caller ∷ Words (codes " code ") ∷ Decimal r.code
    ∷ Words (if r.error then codes " error post " else codes " ok post ") ∷ Decimal r.post ∷ Words (codes " done ") ∷ Decimal r.done
    ∷ Words (if r.late then codes " late in " else codes " timely in ") ∷ HexOf r.input ∷ Words (codes " out ") ∷ HexOf r.output
    ∷ Words (codes "\n") ∷ []

-- pending caller CALLER code CODE post POST in INPUT
abbrev pub pending_line : Pending → List Spelled
pending_line p =
    Words (codes "pending caller ") ∷ Decimal p.caller ∷ Words (codes " code ") ∷ Decimal p.code
    ∷ Words (codes " post ") ∷ Decimal p.post ∷ Words (codes " in ") ∷ HexOf p.input ∷ Words (codes "\n") ∷ []

-- end ID
abbrev pub end_line : JournalHead → List Spelled
end_line head = Words (codes "end ") ∷ Decimal head.id ∷ Words (codes "\n") ∷ []

-- the lines of records, numbered from a place on
abbrev pub records_text : ℕ → List Record → List ℕ
records_text place [] = []
records_text place (r ∷ rs) = spelled (record_line place r) ++ records_text (place + 1) rs

-- the line of a pending command, if there is one
abbrev pub pending_text : Option Pending → List ℕ
pending_text None = []
pending_text (Some p) = spelled (pending_line p)

-- a journal: its head, its records from 0, what is pending, and its end
unfoldable pub journal_text : JournalHead → List Record → Option Pending → List ℕ
journal_text head records pending =
    spelled (head_line head) ++ (records_text 0 records ++ (pending_text pending ++ spelled (end_line head)))
