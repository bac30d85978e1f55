-- A told journal that is good: one legal history of its device, within the limits of its subspace.
use Rattle.std.specs.Prelude.{◌≡◌, ℕ, true, Option, Some, None, IfSome}
use Rattle.std.specs.List.{AllByRecursion}
use Rattle.pcc_history.specs.Histories.{Legal}
use Rattle.rate_limit.specs.RateLimits.{WithinLimits}
use Rattle.pcc_journal.specs.Records.{exchanges_of, times_of}
use Rattle.pcc_journal.specs.declared.record.Pending.{Pending}
use Rattle.cppc_headline.specs.Journals.{InRangeAll, Untouched}
use Rattle.journal_reading.specs.declared.told.Told.{Told}
use Rattle.pcc_audit.specs.Verdicts.{Board, HasRoom}

-- when a pending command was posted
abbrev pub post_of_pending : Option Pending → Option ℕ
post_of_pending None = None
post_of_pending (Some p) = Some p.post

-- Its head is that of the board, each input and output is as long as the space, the records are a legal history of the device, and the posts
-- keep the limits. The inputs of a controller change what they may change, and those that write have every processor in its range.
pub record IsGoodTold (b : Board) (t : Told) : Type 0 where
  pub head : t.head ≡ b.head
  pub sizes : AllByRecursion (λ r. HasRoom b r.input × HasRoom b r.output) t.records
  pub pending_size : IfSome t.pending (λ p. HasRoom b p.input)
  pub legal : Legal b.exec b.head.reports b.start (exchanges_of t.records)
  pub limits : WithinLimits b.head.limits (times_of t.records) (post_of_pending t.pending)
  pub untouched : b.head.cppc ≡ true → Untouched b.cpus b.opening t.records t.pending
  pub ranges : b.head.cppc ≡ true → InRangeAll b.cpus t.records t.pending
