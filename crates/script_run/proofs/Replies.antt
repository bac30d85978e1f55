-- The reply of an executed call is that of its record.
use Rattle.std.proofs.Common.{◌≡◌, ℕ, ◌<◌, List, [], ◌∷◌, ◌++◌, length, get_or, sym, ap, ◌∙◌, subst}
use Rattle.std.specs.Prelude.{Option, Some, Result, Ok, Err, OnOk, slice_get}
use Rattle.std.proofs.lemmas.List.{append-nil}
use Rattle.std.proofs.lemmas.Option.{same_Some, slice_get-get_or, slice_get_within}
use Rattle.pcc_journal.specs.declared.record.Record.{Record}
use Rattle.channel_turns.specs.Outcomes.{StandsFor}
use Rattle.channel_turns.specs.Replies.{Reply, Done}
use Rattle.cppc_calls.specs.declared.wish.SetRefusal.{SetRefusal}
use Rattle.cppc_device.specs.declared.values.Values.{Values}
use Rattle.channel_turns.specs.declared.outcome.Outcome.{Outcome}
use Rattle.pcc_text.specs.Pieces.{Spelled, spelled}
use Rattle.script_run.specs.ReplyText.{refusal_pieces, refusal_text, replies_text, reply_text, shown_text, values_text}
use Rattle.script_run.specs.DeviceChannels.{channel_of}
use Rattle.script_run.specs.declared.channel.DeviceChannel.{DeviceChannel}
use Rattle.script_run.specs.LineOutcomes.{IsOutcomeOf, IsShownAs}
use Rattle.script_run.specs.StepRun.{ShownReply}
use Rattle.script_run.specs.declared.outcome.LineAnswer.TheVariants as line_answer
use Rattle.script_run.specs.declared.outcome.LineOutcome.{LineOutcome}

-- the record that is read at a place is the one that stands there
pub done_reply : (records : List Record) (place : ℕ) (r : Record) (reply : Reply) → place < length records → r ≡ get_or records place r
    → (x : Record) × (slice_get records place ≡ Some x) × (reply ≡ Done x.error x.output) → reply ≡ Done r.error r.output
done_reply records place r reply lt e (x, found, is) =
    let same : r ≡ x = same_Some r x (ap Some e ∙ sym (slice_get-get_or records place r lt) ∙ found) in
    is ∙ ap (λ (v : Record). Done v.error v.output) (sym same)

-- the reply that the outcome of a line stands for
pub outcome_reply : {X E : Type 0} (result : Result X E) (channels : List DeviceChannel) (outcome : LineOutcome) (channel : DeviceChannel) (records : List Record) (line : ℕ) (old next : List ℕ) → channel ≡ get_or channels outcome.place channel → records ≡ (channel_of channel).now.records
    → OnOk result ((reply : ShownReply) → IsShownAs records outcome.answer reply → next ≡ old ++ shown_text line reply)
    → OnOk result ((reply : Option ShownReply) → IsOutcomeOf reply channels (Some outcome) → next ≡ old ++ replies_text line (reply ∷ []))
outcome_reply (Err e) channels outcome channel records line old next at are put = tt
outcome_reply (Ok x) channels outcome channel records line old next at are put = λ reply is.
    let found : DeviceChannel = is.0 in
    let r : ShownReply = is.3.0 in
    let lt : outcome.place < length channels = slice_get_within channels outcome.place found is.1 in
    let same : found ≡ channel = same_Some found channel (sym is.1 ∙ slice_get-get_or channels outcome.place channel lt ∙ ap Some (sym at)) in
    let P : List Record → Type 0 = λ rs. IsShownAs rs outcome.answer r in
    put r (subst P (ap (λ (b : DeviceChannel). (channel_of b).now.records) same ∙ sym are) is.3.2)
    ∙ ap (λ (v : List ℕ). old ++ v) (sym (append-nil (shown_text line r))) ∙ ap (λ (o : Option ShownReply). old ++ replies_text line (o ∷ [])) (sym is.3.1)

-- what stands for one reply alone
pub one_reply : {X E : Type 0} (result : Result X E) (Stands : Reply → Type 0) (line : ℕ) (outcome : Reply) (old next : List ℕ) → OnOk result (next ≡ old ++ reply_text line outcome) → ((reply : Reply) → Stands reply → reply ≡ outcome)
    → OnOk result ((reply : Reply) → Stands reply → next ≡ old ++ reply_text line reply)
one_reply (Ok x) Stands line outcome old next put only = λ reply h. put ∙ ap (λ (r : Reply). old ++ reply_text line r) (sym (only reply h))
one_reply (Err e) Stands line outcome old next put only = tt

-- ---- the answer to an ask

module _ {X E : Type 0} (result : Result X E) (records : List Record) (line : ℕ) (old next : List ℕ) where
  pub called_reply : (outcome : Outcome) → OnOk result ((r : Reply) → StandsFor records outcome r → next ≡ old ++ reply_text line r)
      → OnOk result ((reply : ShownReply) → IsShownAs records (line_answer.Called outcome) reply → next ≡ old ++ shown_text line reply)
  called_reply outcome put = by result put
    where
      by : (x : Result X E) → OnOk x ((r : Reply) → StandsFor records outcome r → next ≡ old ++ reply_text line r)
          → OnOk x ((reply : ShownReply) → IsShownAs records (line_answer.Called outcome) reply → next ≡ old ++ shown_text line reply)
      by (Ok x) put = λ reply h. put h.0 h.2 ∙ ap (λ (s : ShownReply). old ++ shown_text line s) (sym h.1)
      by (Err e) put = tt

  pub read_reply : (values : Values) → OnOk result (next ≡ old ++ values_text line values.entries)
      → OnOk result ((reply : ShownReply) → IsShownAs records (line_answer.Read values) reply → next ≡ old ++ shown_text line reply)
  read_reply values put = by result put
    where
      by : (x : Result X E) → OnOk x (next ≡ old ++ values_text line values.entries)
          → OnOk x ((reply : ShownReply) → IsShownAs records (line_answer.Read values) reply → next ≡ old ++ shown_text line reply)
      by (Ok x) put = λ reply h. put ∙ ap (λ (v : List (Option ℕ)). old ++ values_text line v) h.3 ∙ ap (λ (s : ShownReply). old ++ shown_text line s) (sym h.2)
      by (Err e) put = tt

  pub refused_reply : (why : SetRefusal) → OnOk result (next ≡ old ++ refusal_text line why)
      → OnOk result ((reply : ShownReply) → IsShownAs records (line_answer.Refused why) reply → next ≡ old ++ shown_text line reply)
  refused_reply why put = by result put
    where
      by : (x : Result X E) → OnOk x (next ≡ old ++ refusal_text line why)
          → OnOk x ((reply : ShownReply) → IsShownAs records (line_answer.Refused why) reply → next ≡ old ++ shown_text line reply)
      by (Ok x) put = λ reply h. put ∙ ap (λ (s : ShownReply). old ++ shown_text line s) (sym h)
      by (Err e) put = tt

-- why a wish is refused
pub refusal_put : {X E : Type 0} (result : Result X E) (line : ℕ) (why given : SetRefusal) (pieces : List Spelled) (old next : List ℕ) → why ≡ given → pieces ≡ refusal_pieces line given
    → OnOk result (next ≡ old ++ spelled pieces) → OnOk result (next ≡ old ++ refusal_text line why)
unfolding refusal_text
refusal_put (Ok x) line why given pieces old next e p put = put ∙ ap (λ (ps : List Spelled). old ++ spelled ps) (p ∙ ap (refusal_pieces line) (sym e))
refusal_put (Err x) line why given pieces old next e p put = tt
