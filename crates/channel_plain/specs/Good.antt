-- What a journal of a channel is worth.
use Rattle.std.specs.Prelude.{◌≡◌, ◌⊎◌, [], ◌∷◌, ◌++◌}
use Rattle.pcc_history.specs.Devices.{Device}
use Rattle.pcc_history.specs.Channel.{Exchange}
use Rattle.pcc_history.specs.Histories.{Legal}
use Rattle.rate_limit.specs.RateLimits.{WithinLimits}
use Rattle.pcc_journal.specs.Records.{exchanges_of, exchanges_of_commands, times_of}
use Rattle.channel_plain.specs.Picks.{PlainState}
use Rattle.channel_core.specs.Sendings.{post_of}

-- The records are a legal history of the device from its start, and so are the executed commands, which are those of the records or one more;
-- the posts keep the limits, that of a command that is posted or in flight included.
pub record IsGood (exec : Device) (s : PlainState) : Type 0 where
  pub legal : Legal exec s.ask.wiring.reports s.start (exchanges_of s.calls.records)
  pub executed : Legal exec s.ask.wiring.reports s.start (exchanges_of_commands s.executed)
  pub ahead : (exchanges_of_commands s.executed ≡ exchanges_of s.calls.records)
      ⊎ ((e : Exchange) × (exchanges_of_commands s.executed ≡ exchanges_of s.calls.records ++ e ∷ []))
  pub limits : WithinLimits s.calls.limits (times_of s.calls.records) (post_of s.calls.sent)

-- what picks leave as it was
pub record Stays (s t : PlainState) : Type 0 where
  pub wiring : t.ask.wiring ≡ s.ask.wiring
  pub limits : t.calls.limits ≡ s.calls.limits
  pub start : t.start ≡ s.start
