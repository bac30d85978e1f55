-- A run of single words leaves a journal that is told, of commands as long as the space.
use Rattle.std.proofs.Common.{◌≡◌, ℕ, zero, suc, ◌+◌, ◌≤◌, ◌&&◌, Bool, true, false, cond, List, [], ◌∷◌, ◌++◌, length, refl, sym, ap, ◌∙◌, subst}
use Rattle.std.specs.Prelude.{Option, Some, None, IfSome, nat_le, nat_lt}
use Rattle.std.specs.List.{AllByRecursion, slice_get}
use Rattle.std.proofs.lemmas.Bool.{ltb-false}
use Rattle.std.proofs.lemmas.List.{map-append}
use Rattle.std.proofs.lemmas.Option.{same_Some}
use Rattle.pcc_bytes.specs.Bytes.{IsBytes}
use Rattle.pcc_history.specs.Devices.{Executed, bank_exec}
use Rattle.pcc_history.specs.Channel.{over}
use Rattle.pcc_history.specs.Histories.{Legal, space_after}
use Rattle.pcc_exec.specs.Banks.{bank_keeps}
use Rattle.pcc_exec.specs.Execution.{IsBank, IsSpace, Leaves, bank_room}
use Rattle.rate_limit.specs.declared.Limits.{Limits}
use Rattle.pcc_journal.specs.declared.record.Record.{Record}
use Rattle.pcc_journal.specs.declared.record.Pending.{Pending}
use Rattle.pcc_journal.specs.declared.reserved.TheConstants.{MAX_ITEMS}
use Rattle.pcc_journal.specs.Records.{exchange_of_record, exchanges_of}
use Rattle.journal_reading.specs.Told.{most_32, most_64}
use Rattle.pcc_steps.specs.declared.wiring.Wiring.{Wiring}
use Rattle.channel_core.specs.Refusals as refusals
use Rattle.channel_core.specs.Sendings.{command_of, count_flying, given_up_after, is_late, record_of}
use Rattle.channel_core.specs.declared.answers.CallRefusal.TheVariants as refusal
use Rattle.channel_core.specs.declared.sent.Sent.{Sent}
use Rattle.channel_plain.specs.declared.trace.Asked.{Asked}
use Rattle.channel_plain.specs.declared.trace.TraceLine.{TraceLine}
use Rattle.channel_plain.specs.Picks.{refused_end, sent_by}
use Rattle.channel_plain.specs.WordRuns.{Calls, IsAsking, Serves, Turn, Turns, begins, block_after, delays, end_call, from_opening, gives_up, goes_on, goes_on_if, idles, looks_on, more, none, reading_at, refusal_at, refuses, replied, sends, take_reading, takes}
use Rattle.channel_headline.proofs.Histories.{space_after-more}
use Rattle.audited_runs.proofs.Sound.{IsKept, IsSent, over_space, records_more}

-- ---- what a call leaves in a journal

-- a call's caller, code and bytes
pub record IsAsked (c : Asked) : Type 0 where
  pub caller : c.caller ≤ most_32
  pub code : c.code ≤ most_32
  pub bytes : IsBytes c.bytes

-- the input is the space before it, with bytes laid over that are no more than the room
record IsLaid (room : ℕ) (space input : List ℕ) : Type 0 where
  bytes : List ℕ
  fit : IsBytes bytes
  short : length bytes ≤ room
  is : input ≡ over space bytes

-- so is the input of each record; the space before it is the last output
abbrev AreLaid : ℕ → List ℕ → List Record → Type 0
AreLaid room space [] = Unit {0}
AreLaid room space (r ∷ rs) = IsLaid room space r.input × AreLaid room r.output rs

record HasNumbers (r : Record) : Type 0 where
  caller : r.caller ≤ most_32
  code : r.code ≤ most_32
  post : r.post ≤ most_64
  done : r.done ≤ most_64

record IsPosted (room : ℕ) (space : List ℕ) (p : Pending) : Type 0 where
  caller : p.caller ≤ most_32
  code : p.code ≤ most_32
  post : p.post ≤ most_64
  input : IsLaid room space p.input

laid_more : (room : ℕ) (space : List ℕ) (rs : List Record) (r : Record) → AreLaid room space rs → IsLaid room (space_after space (exchanges_of rs)) r.input → AreLaid room space (rs ++ r ∷ [])
laid_more room space [] r h k = (k, tt)
laid_more room space (x ∷ rs) r h k = (h.0, laid_more room x.output rs r h.1 k)

-- ---- readings

abbrev pub AreSmall : List ℕ → Type 0
AreSmall readings = AllByRecursion (λ r. r ≤ most_64) readings

small_front : (xs ys : List ℕ) → AreSmall (xs ++ ys) → AreSmall xs
small_front [] ys h = tt
small_front (x ∷ xs) ys h = (h.0, small_front xs ys h.1)

small_last : (xs : List ℕ) (r : ℕ) → AreSmall (xs ++ r ∷ []) → r ≤ most_64
small_last [] r h = h.0
small_last (x ∷ xs) r h = small_last xs r h.1

-- ---- the runs of the asking side

not_true : {P : Type 0} → false ≡ true → P
not_true e = absurd cc

none_long : (bad long full : Bool) (code len room : ℕ)
    → refused_end (cond bad (Some (refusal.BadCode code)) (cond long (Some (refusal.TooLong len room)) (cond full (Some refusal.JournalFull) None))) ≡ None → long ≡ false
none_long true long full code len room h = absurd cc
none_long false true full code len room h = absurd cc
none_long false false full code len room h = refl

module _ (w : Wiring) (limits : Limits) (calls : List Asked) (opening : List ℕ) where
  -- the records and the command in flight are of calls that are no longer than the room, and so is the call that is begun
  record Good (s : Calls) : Type 0 where
    numbers : AllByRecursion HasNumbers s.records
    laid : AreLaid w.room opening s.records
    space : s.space ≡ space_after opening (exchanges_of s.records)
    flight : IfSome (command_of s.sent) (IsPosted w.room s.space)
    begun : s.begun ≡ true → (c : Asked) → slice_get calls s.ended ≡ Some c → length c.bytes ≤ w.room

  -- where all readings are of 64 bits
  abbrev Holds : Calls → Type 0
  Holds s = AreSmall s.readings → Good s

  -- a call that is served
  record Served (s : Calls) (c : Asked) : Type 0 where
    good : Good s
    right : IsAsked c
    short : length c.bytes ≤ w.room

  all_right : (cs : List Asked) (i : ℕ) (c : Asked) → AllByRecursion IsAsked cs → slice_get cs i ≡ Some c → IsAsked c
  all_right [] i c h e = absurd cc
  all_right (x ∷ xs) zero c h e = subst IsAsked (same_Some x c e) h.0
  all_right (x ∷ xs) (suc i) c h e = all_right xs i c h.1 e

  short_call : (c : Asked) (s : Calls) → refusal_at w c s ≡ None → length c.bytes ≤ w.room
  short_call c s free =
      ltb-false w.room (length c.bytes)
      (none_long (refusals.has_byte_codes w.kind && nat_lt 255 c.code) (nat_lt w.room (length c.bytes)) (nat_le MAX_ITEMS (length s.records + count_flying s.sent)) c.code (length c.bytes) w.room free)

  ended : (s : Calls) → Good s → Good (end_call s)
  ended s h = record { numbers = h.numbers; laid = h.laid; space = h.space; flight = h.flight; begun = λ e. not_true e }

  -- with the same records on the same space
  still : (s : Calls) (looks : ℕ) (readings : List ℕ) → Good s → Good (record s { looks = looks; readings = readings })
  still s looks readings h = record { numbers = h.numbers; laid = h.laid; space = h.space; flight = h.flight; begun = h.begun }

  same_readings : (s s' : Calls) (c : Asked) → Serves w limits calls s c s' → s'.readings ≡ s.readings
  same_readings s s' c (goes_on _ _ b at) = refl
  same_readings s s' c (begins _ _ b at free) = refl

  -- the reply of a command is taken
  on_holds : (b : Bool) (s : Calls) → Holds s → Holds (goes_on_if b s)
  on_holds true s h = h
  on_holds false s h = λ small. ended s (h small)

  in_flight : (s : Calls) (p : Sent) → s.sent ≡ Some p → Good s → IsPosted w.room s.space p.command
  in_flight s p e g = subst (λ (o : Option Sent). IfSome (command_of o) (IsPosted w.room s.space)) e g.flight

  taken : (s : Calls) (p : Sent) (r : ℕ) (error : Bool) (block output : List ℕ) → s.sent ≡ Some p → AreSmall (s.readings ++ r ∷ []) → Good s
      → Good (record (take_reading s r) { sent = None; block = block; space = output; records = s.records ++ record_of p error output r ∷ [] })
  taken s p r error block output e small g =
      let sent : IsPosted w.room s.space p.command = in_flight s p e g in
      let one : Record = record_of p error output r in
      record {
        numbers = records_more HasNumbers s.records one g.numbers (record { caller = sent.caller; code = sent.code; post = sent.post; done = small_last s.readings r small });
        laid = laid_more w.room opening s.records one g.laid (subst (λ (space : List ℕ). IsLaid w.room space p.command.input) g.space sent.input);
        space = sym (ap (space_after opening) (map-append exchange_of_record s.records (one ∷ [])) ∙ space_after-more opening (exchanges_of s.records) (exchange_of_record one));
        flight = tt;
        begun = g.begun;
      }

  -- the command that a call posts
  posted : (s : Calls) (c : Asked) (r : ℕ) (block : List ℕ) → Served s c → AreSmall (s.readings ++ r ∷ [])
      → Good (record (take_reading s r) { sent = Some (sent_by c s.space (reading_at s.readings r)); block = block; looks = 0 })
  posted s c r block v small = record {
    numbers = v.good.numbers;
    laid = v.good.laid;
    space = v.good.space;
    flight = record {
      caller = v.right.caller;
      code = v.right.code;
      post = small_last s.readings r small;
      input = record { bytes = c.bytes; fit = v.right.bytes; short = v.short; is = refl };
    };
    begun = v.good.begun;
  }

  lost : (s : Calls) (p : Sent) (looks polls : ℕ) → s.sent ≡ Some p → Good s → Good (record s { looks = looks; sent = given_up_after polls (Some p) })
  lost s p looks polls e g = record { numbers = g.numbers; laid = g.laid; space = g.space; flight = in_flight s p e g; begun = g.begun }

  module _ (asked : AllByRecursion IsAsked calls) where
    served : (s s' : Calls) (c : Asked) → Serves w limits calls s c s' → Good s → Served s' c
    served s s' c (goes_on _ _ b at) g = record { good = g; right = all_right calls s.ended c asked at; short = g.begun b c at }
    served s s' c (begins _ _ b at free) g =
        let short : length c.bytes ≤ w.room = short_call c s free in
        record {
          good = record {
            numbers = g.numbers;
            laid = g.laid;
            space = g.space;
            flight = g.flight;
            begun = λ e d there. subst (λ (x : Asked). length x.bytes ≤ w.room) (same_Some c d (sym at ∙ there)) short;
          };
          right = all_right calls s.ended c asked at;
          short = short;
        }

    -- with some readings more
    serving : (s s' : Calls) (c : Asked) (later : List ℕ) → Serves w limits calls s c s' → Holds s → AreSmall (s'.readings ++ later) → Served s' c
    serving s s' c later sv h small = served s s' c sv (h (subst AreSmall (same_readings s s' c sv) (small_front s'.readings later small)))

    serving_still : (s s' : Calls) (c : Asked) → Serves w limits calls s c s' → Holds s → AreSmall s'.readings → Served s' c
    serving_still s s' c sv h small = served s s' c sv (h (subst AreSmall (same_readings s s' c sv) small))

    turn_holds : (s t : Calls) (ls : List TraceLine) → Turn w limits calls s ls t → Holds s → Holds t
    turn_holds s t ls (idles _ l at rests) h = h
    turn_holds s t ls (refuses _ c e l b at is rests) h = λ small. ended s (h small)
    turn_holds s t ls (delays _ s' c r l sv free lt rests) h =
        λ small. ended (take_reading s' r) (still s' s'.looks (s'.readings ++ r ∷ []) (serving s s' c (r ∷ []) sv h small).good)
    turn_holds s t ls' (sends _ s' c r ls l sv free le run is) h = λ small. posted s' c r (block_after w c s'.block) (serving s s' c (r ∷ []) sv h small) small
    turn_holds s t ls' (looks_on _ s' c p ls l sv es lt run is) h = λ small. still s' (s'.looks + 1) s'.readings (serving_still s s' c sv h small).good
    turn_holds s t ls' (gives_up _ s' c p ls l sv es le run is) h =
        λ small. ended (record s' { looks = s'.looks + 1; sent = given_up_after c.polls (Some p) }) (lost s' p (s'.looks + 1) c.polls es (serving_still s s' c sv h small).good)
    turn_holds s t ls' (takes _ s' c p r error block ls l sv es run is) h =
        on_holds (is_late p) (record (take_reading s' r) { sent = None; block = block; space = replied w block; records = s'.records ++ record_of p error (replied w block) r ∷ [] })
        (λ small. taken s' p r error block (replied w block) es small (serving s s' c (r ∷ []) sv h small).good)

    turns_hold : (s t : Calls) (ls : List TraceLine) → Turns w limits calls s ls t → Holds s → Holds t
    turns_hold s t ls none h = h
    turns_hold s t ls' (more ls ms u v before turn) h = turn_holds u t ms turn (turns_hold s u ls before h)

    asking_good : (lines : List TraceLine) (readings : List ℕ) (records : List Record) (sent : Option Sent) → IsAsking w limits calls opening lines readings records sent → AreSmall readings
        → (after : Calls) × Good after × (records ≡ after.records) × (sent ≡ after.sent)
    asking_good lines readings records sent a small =
        let first : Holds (from_opening w limits calls opening) = λ _. record { numbers = tt; laid = tt; space = refl; flight = tt; begun = λ e. not_true e } in
        let all : AreSmall a.after.readings = small_front a.after.readings a.taken (subst AreSmall a.read small) in
        (a.after, turns_hold (from_opening w limits calls opening) a.after a.past a.runs first all, a.kept, a.flies)

-- ---- the device

-- an input and an output fill the space
record Fills (room : ℕ) (r : Record) : Type 0 where
  input : IsSpace room r.input
  output : IsSpace room r.output

-- the records of a Bank fill its space, and leave one
filled : (room : ℕ) (reports : Bool) (state space : List ℕ) (rs : List Record) → IsBank state → bank_room state ≡ room → IsSpace room space → AreLaid room space rs
    → Legal bank_exec reports state (exchanges_of rs) → AllByRecursion (Fills room) rs × IsSpace room (space_after space (exchanges_of rs))
filled room reports state space [] bank same is laid legal = (tt, is)
filled room reports state space (r ∷ rs) bank same is laid legal =
    let x : Executed = bank_exec state r.code r.input in
    let one : IsLaid room space r.input = laid.0 in
    let input : IsSpace room r.input = subst (IsSpace room) (sym one.is) (over_space room space one.bytes is one.fit one.short) in
    let left : Leaves IsBank bank_room state x = bank_keeps state r.code r.input bank (subst (λ (n : ℕ). IsSpace n r.input) (sym same) input) in
    let output : IsSpace room r.output = subst (IsSpace room) (sym legal.1) (subst (λ (n : ℕ). IsSpace n x.space) same left.space) in
    let rest = filled room reports x.state r.output rs left.state (left.room ∙ same) output laid.1 legal.2 in
    ((record { input = input; output = output }, rest.0), rest.1)

kept_of : (room : ℕ) (rs : List Record) → AllByRecursion HasNumbers rs → AllByRecursion (Fills room) rs → AllByRecursion (IsKept room) rs
kept_of room [] n f = tt
kept_of room (r ∷ rs) n f = (
  record {
    told = record { caller = n.0.caller; code = n.0.code; post = n.0.post; done = n.0.done; input = f.0.input.fits; output = f.0.output.fits };
    input = f.0.input.long;
    output = f.0.output.long;
  },
  kept_of room rs n.1 f.1,
)

sent_of : (room : ℕ) (space : List ℕ) (o : Option Pending) → IsSpace room space → IfSome o (IsPosted room space) → IfSome o (IsSent room)
sent_of room space None is h = tt
sent_of room space (Some p) is h =
    let input : IsSpace room p.input = subst (IsSpace room) (sym h.input.is) (over_space room space h.input.bytes is h.input.fit h.input.short) in
    record { told = record { caller = h.caller; code = h.code; post = h.post; input = input.fits }; input = input.long }

-- ---- a run

-- the records and the command in flight that a run leaves
pub record IsLeft (room : ℕ) (records : List Record) (sent : Option Sent) : Type 0 where
  pub kept : AllByRecursion (IsKept room) records
  pub flies : IfSome (command_of sent) (IsSent room)

pub walked : (w : Wiring) (limits : Limits) (calls : List Asked) (state opening : List ℕ) (lines : List TraceLine) (readings : List ℕ) (records : List Record) (sent : Option Sent)
    → AllByRecursion IsAsked calls → IsAsking w limits calls opening lines readings records sent → AreSmall readings → IsBank state → bank_room state ≡ w.room → IsSpace w.room opening
    → Legal bank_exec w.reports state (exchanges_of records) → IsLeft w.room records sent
walked w limits calls state opening lines readings records sent asked run small bank same is legal =
    let g = asking_good w limits calls opening asked lines readings records sent run small in
    let s : Calls = g.0 in
    let good : Good w limits calls opening s = g.1 in
    let L : List Record → Type 0 = λ v. Legal bank_exec w.reports state (exchanges_of v) in
    let f = filled w.room w.reports state opening s.records bank same is good.laid (subst L g.2 legal) in
    let space : IsSpace w.room s.space = subst (IsSpace w.room) (sym good.space) f.1 in
    record {
      kept = subst (AllByRecursion (IsKept w.room)) (sym g.2) (kept_of w.room s.records good.numbers f.0);
      flies = subst (λ (o : Option Sent). IfSome (command_of o) (IsSent w.room)) (sym g.3) (sent_of w.room s.space (command_of s.sent) space good.flight);
    }
