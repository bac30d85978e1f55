-- Picks one after the other, with the clock that the asking side reads.
use Rattle.std.specs.Prelude.{◌≡◌, ◌≤◌, ℕ, Bool, true, false, List, [], ◌∷◌, ◌++◌, length, Option}
use Rattle.pcc_history.specs.Devices.{Device}
use Rattle.channel_plain.specs.declared.trace.Side.{Side}
use Rattle.channel_plain.specs.declared.trace.Asked.{Asked}
use Rattle.channel_plain.specs.declared.trace.TraceLine.{TraceLine}
use Rattle.channel_plain.specs.Picks.{PlainState, picked, line_of}
use Rattle.channel_plain.specs.Holding.{Takes}
use Rattle.channel_plain.specs.Standing.{IsServing, Stands}
use Rattle.channel_plain.specs.News.{IsNew, opening_of}
use Rattle.channel_plain.specs.WordRuns.{WordRun, flown}
use Rattle.pcc_journal.specs.Records.{exchanges_of_commands}

-- a channel, with the clock that its asking side reads
pub record Clocked (K : Type 0) : Type 0 where
  pub channel : PlainState
  pub clock : K

-- nothing was asked of the channel
abbrev pub IsFresh : PlainState → Type 0
IsFresh s = IsNew s.ask.wiring s.calls.limits s.start s

-- the reading, where one was taken
abbrev pub reading_of : Bool → ℕ → List ℕ
reading_of true r = r ∷ []
reading_of false r = []

module _ {K : Type 0} (taken : K → ℕ) (tells : K → ℕ → Option ℕ) where
  -- these are the clock's next readings, in order
  pub data Readings (from : K) : List ℕ → K → Type 0 where
    unread : Readings from [] from
    reads : (rs : List ℕ) (k k' : K) (r : ℕ) → Readings from rs k → Takes taken tells k k' true r → Readings from (rs ++ r ∷ []) k'

  module _ (exec : Device) (calls : List Asked) where
    -- one pick of a side, at a reading that the clock gave where one was taken
    abbrev pub PicksOnce : Side → PlainState → K → PlainState → K → TraceLine → Type 0
    PicksOnce side s k s' k' line = (r : ℕ) × Takes taken tells k k' (picked exec calls side r s).reads r
        × (s' ≡ (picked exec calls side r s).state) × (line ≡ line_of side (picked exec calls side r s))

    module _ (is_state : List ℕ → Type 0) (room_of : List ℕ → ℕ) where
      -- the lines of some picks, from a channel and its clock to what they leave
      pub data Wove (s : PlainState) (k : K) : List Side → List TraceLine → List ℕ → PlainState → K → Type 0 where
        unpicked : Wove s k [] [] [] s k
        picks : (sides : List Side) (ls : List TraceLine) (rs : List ℕ) (t : PlainState) (m m' : K) (side : Side) (r : ℕ) → Wove s k sides ls rs t m
            → Stands exec is_state room_of t → Stands exec is_state room_of (picked exec calls side r t).state → IsServing calls t
            → Takes taken tells m m' (picked exec calls side r t).reads r
            → Wove s k (sides ++ side ∷ []) (ls ++ line_of side (picked exec calls side r t) ∷ [])
            (rs ++ reading_of (picked exec calls side r t).reads r) (picked exec calls side r t).state m'

      -- these picks of a new channel made these lines: a run of words, at the clock's next readings, which leaves this channel
      pub record IsWeave (sides : List Side) (old : Clocked K) (trace : List TraceLine) (new : Clocked K) : Type 0 where
        pub readings : List ℕ
        pub read : Readings old.clock readings new.clock
        pub few : length readings ≤ length sides
        pub run : WordRun exec old.channel.ask.wiring old.channel.calls.limits old.channel.start (opening_of old.channel.ask.wiring) calls sides trace readings
            new.channel.calls.records (flown new.channel.ask.in_flight new.channel.calls.sent) (exchanges_of_commands new.channel.executed)
        -- the picks, one after the other
        pub wove : Wove old.channel old.clock sides trace readings new.channel new.clock

      -- these picks were made one after the other, and more picks can follow
      pub record Follows (sides : List Side) (old : Clocked K) (trace : List TraceLine) (new : Clocked K) : Type 0 where
        pub readings : List ℕ
        pub wove : Wove old.channel old.clock sides trace readings new.channel new.clock
        pub serving : IsServing calls new.channel
