-- What a command that is made ready says, and what is known of a post that nothing refuses.
use Rattle.std.proofs.Common.{◌≡◌, ◌≤◌, ◌<◌, ℕ, Bool, true, false, if◌then◌else◌, List, [], ◌∷◌, drop, length, refl, sym, ap, subst, arith}
use Rattle.std.specs.Prelude.{nat_lt, Option, Some, None, Ok, Err}
use Rattle.std.proofs.lemmas.Bool.Decides.{nat_tests}
use Rattle.std.proofs.lemmas.List.{append-nil, length-append, length-drop}
use Rattle.rate_limit.specs.declared.Limits.{Limits}
use Rattle.rate_limit.specs.declared.Times.{Times}
use Rattle.rate_limit.specs.RateLimits.{WithinLimits, earliest_of}
use Rattle.rate_limit.proofs.Law.{completed, exact}
use Rattle.pcc_history.specs.Channel.{over}
use Rattle.pcc_journal.specs.declared.record.Record.{Record}
use Rattle.pcc_journal.specs.declared.note.Note.{Note}
use Rattle.pcc_journal.specs.Records.{times_of, times_of_record}
use Rattle.std.proofs.lemmas.List.{map-append}
use Rattle.channel_core.specs.declared.answers.CallRefusal.{CallRefusal}
use Rattle.channel_core.specs.declared.answers.CallRefusal.TheVariants as refusal
use Rattle.channel_core.specs.declared.sent.Sent.{Sent}
use Rattle.channel_core.specs.CommandHistory.{CommandHistory, marked_done, reserved}
use Rattle.channel_core.specs.Readying.{ReadyCommand, ReadiedBy}
use Rattle.channel_core.specs.Refusals.{soon_of}
use Rattle.channel_core.specs.Sendings.{post_of, record_of}
use Rattle.channel_core.specs.declared.caller.Reading.{Reading}
use Rattle.channel_plain.specs.declared.trace.TraceEnd.{TraceEnd}
use Rattle.channel_plain.specs.declared.trace.TraceEnd.TheVariants as end
use Rattle.channel_plain.specs.Picks.{drained, refused_end}
use Rattle.channel_plain.specs.Holding.{calls_of}

-- ---- a command that is made ready

pub ready_made : (o : Option CallRefusal) (old new : CommandHistory) (r x : ReadyCommand) → ReadiedBy o old r new (Ok x) → (x ≡ r) × (new ≡ reserved old)
ready_made None old new r x h = h
ready_made (Some e) old new r x h = let n : Ok x ≡ Err e = h.0 in absurd (cc n)

pub none_made : (o : Option CallRefusal) (old new : CommandHistory) (r : ReadyCommand) (e : CallRefusal) → ReadiedBy o old r new (Err e) → new ≡ old
none_made None old new r e h = h.1
none_made (Some f) old new r e h = h.1

-- ---- a post that is too soon, and one that isn't

soon_by : (b : Bool) (l : Limits) (ts : List Times) (at : ℕ) (e : TraceEnd) → nat_lt at (earliest_of l ts) ≡ b
    → refused_end (if b then Some (refusal.TooSoon at (earliest_of l ts)) else None) ≡ Some e
    → (at < earliest_of l ts) × (end.TooSoon at (earliest_of l ts) ≡ e)
soon_by true l ts at e q h = (grind (arith, nat_tests), cc)
soon_by false l ts at e q h = absurd (cc h)

pub soon_is : (l : Limits) (ts : List Times) (at : ℕ) (e : TraceEnd) → refused_end (soon_of l ts at) ≡ Some e
    → (at < earliest_of l ts) × (end.TooSoon at (earliest_of l ts) ≡ e)
soon_is l ts at e h = soon_by (nat_lt at (earliest_of l ts)) l ts at e refl h

late_by : (b : Bool) (l : Limits) (ts : List Times) (at : ℕ) → nat_lt at (earliest_of l ts) ≡ b
    → refused_end (if b then Some (refusal.TooSoon at (earliest_of l ts)) else None) ≡ None → earliest_of l ts ≤ at
late_by true l ts at q h = absurd (cc h)
late_by false l ts at q h = grind (arith, nat_tests)

pub late_enough : (l : Limits) (ts : List Times) (at : ℕ) → refused_end (soon_of l ts at) ≡ None → earliest_of l ts ≤ at
late_enough l ts at h = late_by (nat_lt at (earliest_of l ts)) l ts at refl h

-- a post that isn't too soon keeps the limits
pub within_post : (l : Limits) (ts : List Times) (at : ℕ) → WithinLimits l ts None → refused_end (soon_of l ts at) ≡ None → WithinLimits l ts (Some at)
within_post l ts at h q = (exact l ts at h).1 (late_enough l ts at q)

-- ---- the bytes of a call, laid over a space

pub over_length : (space bytes : List ℕ) → length bytes ≤ length space → length (over space bytes) ≡ length space
over_length space bytes le = let a = length-append bytes (drop (length bytes) space) in let d = length-drop (length bytes) space in omega (arith, a, d, le)

-- ---- a reply is recorded

done_by : (l : Limits) (rs : List Record) (ns : List Note) (o : Option Sent) (spare readings ended : ℕ) (begun error : Bool) (output : List ℕ) (done : Reading) → let h : CommandHistory = record { records = rs; notes = ns; sent = o; spare = spare } in
    calls_of l (marked_done error output done.at done.number h) readings ended begun ≡ drained error output done (calls_of l h readings ended begun)
done_by l rs ns None spare readings ended begun error output done =
    ap (λ (z : List Record × List Note). record { limits = l; records = z.0; notes = z.1; sent = None; readings = readings; ended = ended; begun = begun }) (λ i. (sym (append-nil rs) i, sym (append-nil ns) i))
done_by l rs ns (Some c) spare readings ended begun error output done = refl

pub done_is : (l : Limits) (h : CommandHistory) (readings ended : ℕ) (begun error : Bool) (output : List ℕ) (done : Reading)
    → calls_of l (marked_done error output done.at done.number h) readings ended begun ≡ drained error output done (calls_of l h readings ended begun)
done_is l h readings ended begun error output done = done_by l h.records h.notes h.sent h.spare readings ended begun error output done

within_by : (l : Limits) (rs : List Record) (ns : List Note) (o : Option Sent) (spare : ℕ) (error : Bool) (output : List ℕ) (at number : ℕ)
    → WithinLimits l (times_of rs) (post_of o)
    → let h : CommandHistory = marked_done error output at number (record { records = rs; notes = ns; sent = o; spare = spare }) in WithinLimits l (times_of h.records) (post_of h.sent)
within_by l rs ns None spare error output at number w = w
within_by l rs ns (Some c) spare error output at number w =
    let P : List Times → Type 0 = λ v. WithinLimits l v None in
    subst P (sym (map-append times_of_record rs (record_of c error output at ∷ []))) (completed l (times_of rs) (times_of_record (record_of c error output at)) w)

-- the limits are kept with the completion
pub within_done : (l : Limits) (h : CommandHistory) (error : Bool) (output : List ℕ) (at number : ℕ) → WithinLimits l (times_of h.records) (post_of h.sent)
    → let k : CommandHistory = marked_done error output at number h in WithinLimits l (times_of k.records) (post_of k.sent)
within_done l h error output at number w = within_by l h.records h.notes h.sent h.spare error output at number w
