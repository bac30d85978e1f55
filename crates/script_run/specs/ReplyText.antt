-- The texts of replies: the number of the line in the script, from 1, and what the line is answered.
use Rattle.std.specs.Prelude.{ℕ, ◌+◌, if◌then◌else◌, List, [], ◌∷◌, ◌++◌, drop, Option, Some, None, codes}
use Rattle.pcc_text.specs.Pieces.{Spelled, Words, Decimal, HexOf, spelled}
use Rattle.cppc_device.specs.Ranges.{values_in}
use Rattle.cppc_calls.specs.declared.wish.SetRefusal.{SetRefusal}
use Rattle.cppc_calls.specs.declared.wish.SetRefusal.TheVariants.{NoRegister, TooWide, BelowLowest, AboveHighest, MinAboveDesired, DesiredAboveMax}
use Rattle.channel_turns.specs.Replies.{Reply, Done, BadCode, TooLong, JournalFull, StillPending, TooSoon, TimedOut}
use Rattle.channel_headline.specs.Asked.{Refused, Replied}
use Rattle.script_run.specs.StepRun.{ByChannel, ShownReply, Values}

-- ---- what a channel answers

abbrev pub reply_pieces : ℕ → Reply → List Spelled
reply_pieces line (Done error output) = Decimal line ∷ Words (if error then codes " error " else codes " ok ") ∷ HexOf output ∷ Words (codes "\n") ∷ []
reply_pieces line (BadCode code) = Decimal line ∷ Words (codes " bad code ") ∷ Decimal code ∷ Words (codes "\n") ∷ []
reply_pieces line (TooLong len room) = Decimal line ∷ Words (codes " too long ") ∷ Decimal len ∷ Words (codes " ") ∷ Decimal room ∷ Words (codes "\n") ∷ []
reply_pieces line JournalFull = Decimal line ∷ Words (codes " journal full\n") ∷ []
reply_pieces line (StillPending looks) = Decimal line ∷ Words (codes " still pending ") ∷ Decimal looks ∷ Words (codes "\n") ∷ []
reply_pieces line (TooSoon reading earliest) =
    Decimal line ∷ Words (codes " too soon ") ∷ Decimal reading ∷ Words (codes " ") ∷ Decimal earliest ∷ Words (codes "\n") ∷ []
reply_pieces line (TimedOut looks) = Decimal line ∷ Words (codes " timed out ") ∷ Decimal looks ∷ Words (codes "\n") ∷ []

unfoldable pub reply_text : ℕ → Reply → List ℕ
reply_text line reply = spelled (reply_pieces line reply)

-- ---- refusals of a wish

-- words and one number, or two
abbrev pub number_after : ℕ → List ℕ → ℕ → List Spelled
number_after line words n = Decimal line ∷ Words words ∷ Decimal n ∷ Words (codes "\n") ∷ []

abbrev pub numbers_after : ℕ → List ℕ → ℕ → ℕ → List Spelled
numbers_after line words m n = Decimal line ∷ Words words ∷ Decimal m ∷ Words (codes " ") ∷ Decimal n ∷ Words (codes "\n") ∷ []

abbrev pub refusal_pieces : ℕ → SetRefusal → List Spelled
refusal_pieces line (NoRegister entry) = number_after line (codes " no register ") entry
refusal_pieces line (TooWide entry) = number_after line (codes " too wide ") entry
refusal_pieces line (BelowLowest value lowest) = numbers_after line (codes " below lowest ") value lowest
refusal_pieces line (AboveHighest value highest) = numbers_after line (codes " above highest ") value highest
refusal_pieces line (MinAboveDesired min desired) = numbers_after line (codes " min above desired ") min desired
refusal_pieces line (DesiredAboveMax desired max) = numbers_after line (codes " desired above max ") desired max

unfoldable pub refusal_text : ℕ → SetRefusal → List ℕ
refusal_text line why = spelled (refusal_pieces line why)

-- ---- the numbers of a processor

-- each entry that has a number, from an entry on
abbrev pub entry_pieces : ℕ → List (Option ℕ) → List Spelled
entry_pieces entry [] = []
entry_pieces entry (None ∷ values) = entry_pieces (entry + 1) values
entry_pieces entry (Some value ∷ values) = Words (codes " ") ∷ Decimal entry ∷ Words (codes "=") ∷ Decimal value ∷ entry_pieces (entry + 1) values

-- the first two entries of a package are no numbers of the processor
abbrev pub first_entry : ℕ
first_entry = 2

unfoldable pub values_text : ℕ → List (Option ℕ) → List ℕ
values_text line values =
    spelled (Decimal line ∷ Words (codes " values") ∷ []) ++ (spelled (entry_pieces first_entry (drop first_entry values)) ++ codes "\n")

-- ---- the replies of a run

abbrev pub shown_text : ℕ → ShownReply → List ℕ
shown_text line (ByChannel (Replied reply)) = reply_text line reply
shown_text line (ByChannel (Refused why)) = refusal_text line why
shown_text line (Values binding output) = values_text line (values_in binding output)

-- the replies of the lines from a number on; a line without a reply prints nothing
abbrev pub replies_text : ℕ → List (Option ShownReply) → List ℕ
replies_text line [] = []
replies_text line (None ∷ rs) = replies_text (line + 1) rs
replies_text line (Some r ∷ rs) = shown_text line r ++ replies_text (line + 1) rs
