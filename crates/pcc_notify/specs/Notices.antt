-- The commands that are posted, read off the words of shared memory, and what has become of them.
use Rattle.std.specs.Prelude.{◌≡◌, ◌⊎◌, ℕ, List, [], ◌∷◌, ◌++◌, map, drop, get_or, Option, Some, None}
use Rattle.pcc_history.specs.Channel.{Exchange}
use Rattle.pcc_history.specs.Devices.{Device}
use Rattle.shmem_header.specs.Spelling.{words_of, bytes_of}
use Rattle.pcc_journal.specs.declared.record.Pending.{Pending}
use Rattle.pcc_journal.specs.Records.{exchanges_of, exchanges_of_commands}
use Rattle.pcc_steps.specs.declared.wiring.Wiring.{Wiring}
use Rattle.pcc_steps.specs.Agree.{act}
use Rattle.pcc_steps.specs.Wires.{style_of, heads_of, code_by, opening_words}
use Rattle.channel_plain.specs.declared.trace.Asked.{Asked}
use Rattle.channel_plain.specs.declared.trace.Side.{Side}
use Rattle.channel_plain.specs.declared.trace.TraceEnd.{TraceEnd}
use Rattle.channel_plain.specs.declared.trace.TraceEnd.TheVariants.{Posted}
use Rattle.channel_plain.specs.declared.trace.TraceLine.{TraceLine}
use Rattle.channel_plain.specs.News.{opening_of}
use Rattle.channel_plain.specs.Picks.{PlainState, pending_by}
use Rattle.channel_plain.specs.Weaving.{Clocked, IsWeave}
use Rattle.pcc_notify.specs.declared.notice.Notice.{Notice}

-- ---- what is posted

-- the command that the words hold: the code in its header, and the space behind the header words of the block
abbrev pub command_at : Wiring → List ℕ → Notice
command_at w words = let block : List ℕ = drop 8 words in record {
  code = code_by (style_of w) (get_or words 0 0) block;
  input = bytes_of (drop (heads_of (style_of w)) block);
}

-- a line that ends a post posts the command that the words hold after its step; no other line posts one
abbrev pub posts_by : TraceEnd → Wiring → List ℕ → List Notice
posts_by Posted w words = command_at w words ∷ []
posts_by _ w words = []

abbrev pub posts_from : Wiring → List ℕ → List TraceLine → List Notice
posts_from w words [] = []
posts_from w words (l ∷ ls) = posts_by l.end w (act l.action words) ++ posts_from w (act l.action words) ls

-- the commands that the lines of a trace post, in order
abbrev pub posts_of : Wiring → List TraceLine → List Notice
posts_of w trace = posts_from w (opening_words w (words_of (opening_of w))) trace

-- ---- what has become of it

abbrev pub notice_of : Exchange → Notice
notice_of e = record { code = e.code; input = e.input }

abbrev pub handled_of : List Exchange → List Notice
handled_of executed = map notice_of executed

-- the command in flight is that of an exchange
abbrev pub IsInFlight : Exchange → Option Pending → Type 0
IsInFlight e None = ⊥
IsInFlight e (Some p) = (p.code ≡ e.code) × (p.input ≡ e.input)

pub record AreNotices (posted : List Notice) (executed recorded : List Exchange) (pending : Option Pending) : Type 0 where
  -- the executed commands are the posted ones, in order, each once, but that the last may be not yet executed
  pub handled : (posted ≡ handled_of executed) ⊎ ((last : Notice) × (posted ≡ handled_of executed ++ last ∷ []))
  -- they are recorded, but that the last may be still in flight
  pub recorded_all : (executed ≡ recorded) ⊎ ((last : Exchange) × (executed ≡ recorded ++ last ∷ []) × IsInFlight last pending)

-- ---- a channel with the commands that were posted on it

-- those that were recorded, and the one in flight
abbrev pub flying_of : Option Pending → List Notice
flying_of None = []
flying_of (Some p) = record { code = p.code; input = p.input } ∷ []

abbrev pub posted_of : PlainState → List Notice
posted_of s = handled_of (exchanges_of s.calls.records) ++ flying_of (pending_by s.ask.in_flight s.calls.sent)

pub record Notified (K : Type 0) : Type 0 where
  pub channel : PlainState
  pub clock : K
  -- the commands that were posted, in order
  pub posted : List Notice

abbrev pub clocked_of : {K : Type 0} → Notified K → Clocked K
clocked_of n = record { channel = n.channel; clock = n.clock }

module _ {K : Type 0} (taken : K → ℕ) (tells : K → ℕ → Option ℕ) (exec : Device) (calls : List Asked) (is_state : List ℕ → Type 0) (room_of : List ℕ → ℕ) where
  -- these picks of a new channel made these lines, which post what was posted; what has become of it
  pub record IsNotifying (sides : List Side) (old : Notified K) (trace : List TraceLine) (new : Notified K) : Type 0 where
    pub weave : IsWeave taken tells exec calls is_state room_of sides (clocked_of old) trace (clocked_of new)
    pub posted : new.posted ≡ posts_of old.channel.ask.wiring trace
    pub notices : AreNotices new.posted (exchanges_of_commands new.channel.executed) (exchanges_of new.channel.calls.records)
        (pending_by new.channel.ask.in_flight new.channel.calls.sent)
