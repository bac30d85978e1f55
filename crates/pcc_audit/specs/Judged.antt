-- The first flaw of a command, by the times and the space before it.
use Rattle.std.specs.Prelude.{◌≡◌, ◌≤◌, ℕ, true, List, [], ◌∷◌, length, Option}
use Rattle.pcc_history.specs.Devices.{Device}
use Rattle.pcc_history.specs.Histories.{Legal}
use Rattle.rate_limit.specs.RateLimits.{earliest_of}
use Rattle.rate_limit.specs.declared.Times.{Times}
use Rattle.pcc_journal.specs.Records.{exchange_of_record}
use Rattle.pcc_journal.specs.declared.record.Record.{Record}
use Rattle.pcc_journal.specs.declared.record.Pending.{Pending}
use Rattle.pcc_journal.specs.declared.text.JournalHead.{JournalHead}
use Rattle.cpc_package.specs.declared.binding.Binding.{Binding}
use Rattle.cppc_headline.specs.Journals.{AreInRange, IsUntouched}
use Rattle.pcc_audit.specs.declared.verdict.Flaw.{Flaw}
use Rattle.pcc_audit.specs.Verdicts.{FirstFlaw}

-- of a command, whose size and reply are right if these hold
abbrev pub SentJudged : JournalHead → List Binding → List Times → List ℕ → ℕ → List ℕ → ℕ → Type 0 → Type 0 → Option Flaw → Type 0
SentJudged head cpus times before code input post size legal flaw =
    FirstFlaw size (earliest_of head.limits times ≤ post) (head.cppc ≡ true → IsUntouched cpus before code input)
    (head.cppc ≡ true → code ≡ 1 → AreInRange cpus input) legal flaw

-- of a record, with the device's state
abbrev pub Judged : JournalHead → List Binding → List Times → List ℕ → Device → List ℕ → Record → Option Flaw → Type 0
Judged head cpus times before exec state r flaw =
    SentJudged head cpus times before r.code r.input r.post ((length r.input ≡ head.room) × (length r.output ≡ head.room))
    (Legal exec head.reports state (exchange_of_record r ∷ [])) flaw

-- of a pending command
abbrev pub PendingJudged : JournalHead → List Binding → List Times → List ℕ → Pending → Option Flaw → Type 0
PendingJudged head cpus times before p flaw =
    SentJudged head cpus times before p.code p.input p.post (length p.input ≡ head.room) (Unit {0}) flaw
