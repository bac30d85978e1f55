-- What refuses a call before it touches a word.
use Rattle.std.specs.Prelude.{◌&&◌, ℕ, nat_lt, nat_le, Bool, if◌then◌else◌, List, Option, Some, None}
use Rattle.pcc_journal.specs.declared.reserved.TheConstants.{MAX_ITEMS}
use Rattle.rate_limit.specs.declared.Limits.{Limits}
use Rattle.rate_limit.specs.declared.Times.{Times}
use Rattle.rate_limit.specs.RateLimits.{earliest_of}
use Rattle.channel_core.specs.declared.refusals.TheConstants.{GREATEST_CODE}
use Rattle.channel_core.specs.declared.answers.CallRefusal.{CallRefusal}
use Rattle.channel_core.specs.declared.answers.CallRefusal.TheVariants as refusal

-- the generic header of types 0 to 2 has a code of one byte
abbrev pub has_byte_codes : ℕ → Bool
has_byte_codes kind = nat_le kind 2

-- a command of this code with N bytes, on a subspace of this type and room, after M posts
abbrev pub refusal_of : ℕ → ℕ → ℕ → ℕ → ℕ → Option CallRefusal
refusal_of kind room code len posts =
    if has_byte_codes kind && nat_lt GREATEST_CODE code then Some (refusal.BadCode code)
    else if nat_lt room len then Some (refusal.TooLong len room)
    else if nat_le MAX_ITEMS posts then Some refusal.JournalFull
    else None

-- a post at this reading, after commands with these times
abbrev pub soon_of : Limits → List Times → ℕ → Option CallRefusal
soon_of limits times now = if nat_lt now (earliest_of limits times) then Some (refusal.TooSoon now (earliest_of limits times)) else None
