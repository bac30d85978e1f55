use Rattle.std.proofs.Common.{◌≡◌, ◌<◌, ◌^◌, ◌-◌, drop}
use Rattle.pcc_text.specs.Reading.{number_after}
use Rattle.pcc_text.proofs.reading.digits_number.Given as goal

abbrev pub invariant-loop-digit : goal.invariant-loop-digit
invariant-loop-digit l = (l.n < 2 ^ 64) × (number_after (2 ^ 64 - 1) l.n (drop l.digit-index l.digits) ≡ number_after (2 ^ 64 - 1) 0 l.digits)
