-- The words and the input lead to one status and one text.
use Rattle.std.proofs.Common.{◌≡◌, ◌≢◌, ◌⊎◌, inl, inr, ℕ, ◌+◌, ◌<◌, ◌≤◌, List, [], length, refl, sym, ap, ◌∙◌, subst, arith}
use Rattle.std.specs.Prelude.{Option, Some}
use Rattle.std.proofs.lemmas.List.{length-append}
use Rattle.pcc_script.specs.Made.{made_scenario_of}
use Rattle.pcc_setup.specs.declared.opening.Opened.{Opened}
use Rattle.pcc_setup.specs.declared.refusal.Refusal.{Refusal}
use Rattle.pcc_setup.specs.declared.refusal.Refusal.TheVariants as refusal
use Rattle.pcc_setup.specs.RefusalText.{refused_line}
use Rattle.pcc_setup.proofs.OneFault.{one_set_up}
use Rattle.script_run.specs.ScriptRuns.{run_of}
use Rattle.script_run.specs.Summaries.{IsSummary, summary_text}
use Rattle.pccrun_core.specs.declared.command.Command.{Command}
use Rattle.pccrun_core.specs.declared.command.Command.TheVariants as command
use Rattle.pccrun_core.specs.declared.command.Request.{Request}
use Rattle.pccrun_core.specs.declared.command.Request.TheVariants as request
use Rattle.pccrun_core.specs.Answers.{Answers, Asks, AsksFor, AsksToMake, Made, ReadMore, Refused, Summed, TooLong, Usage, Yields, input_limit, usage_line}
use Rattle.pccrun_core.specs.Inputs.{Exceeds, IsRefusedInput, Rejects, Within}
use Rattle.pccrun_core.specs.Refusals.{Refuses}
use Rattle.pccrun_core.proofs.Headlined.{same_number}
use Rattle.pccrun_core.proofs.OneLine.{accepted_kept, is_made, one_rejection, one_text, same_status, weave_status}
use Rattle.pccrun_core.proofs.Packaged.{OneFault, OnePackage, OneSpelling}
use Rattle.pccrun_core.proofs.Tops.{all_consumed, all_read, makes_alone, same_command}

-- ---- what words lead to

-- the command writes the text of the input, with the status
record IsMadeText (c : Command) (input : List ℕ) (status : ℕ) (text : List ℕ) : Type 0 where
  short : length input ≤ input_limit
  yields : Yields c input status text

-- the text is the line of a refusal of the input
record IsLine (c : Command) (input : List ℕ) (status : ℕ) (text : List ℕ) : Type 0 where
  done : status ≡ 3
  cause : Refusal
  rejects : Rejects c input cause
  line : text ≡ refused_line cause

abbrev ByCommand : Command → List ℕ → ℕ → List ℕ → Type 0
ByCommand c input status text = IsMadeText c input status text ⊎ IsLine c input status text

-- more than the limit was read of it
exceeds : (input : List ℕ) (left : Option (List ℕ)) → ReadMore (Some input) left → input_limit < length input
exceeds input left more =
    let found = all_consumed input more.text left more.read in
    let len : length input ≡ length more.text + length found.0 = ap length found.2 ∙ length-append more.text found.0 in
    let over : length more.text ≡ input_limit + 1 = more.more in
    omega (arith, len, over)

by_command : (words : List (List ℕ)) (input : List ℕ) (left : Option (List ℕ)) (status : ℕ) (text : List ℕ) (c : Command) → AsksFor words c → Answers words (Some input) left status text
    → ByCommand c input status text
by_command words input left status text c asked (Made d also whole read _ _ yields) =
    let one : d ≡ c = same_command words d c also asked in
    let same : whole ≡ input = all_read (Some input) left input whole refl read.read read.end in
    let short : length whole ≤ input_limit = read.short in
    inl (record {
      short = subst (λ (v : List ℕ). length v ≤ input_limit) same short;
      yields = subst (λ (v : List ℕ). Yields c v status text) same (subst (λ (e : Command). Yields e whole status text) one yields);
    })
by_command words input left status text c asked (Summed n made _ is) = absurd (makes_alone words c n asked made)
by_command words input left status text c asked (Usage unasked) = absurd (unasked (request.Run c) asked)
by_command words input left status text c asked (TooLong d also more) =
    inr (record { done = refl; cause = refusal.Long; rejects = Exceeds (exceeds input left more); line = refl })
by_command words input left status text c asked (Refused d also whole read r refuses) =
    let one : d ≡ c = same_command words d c also asked in
    let same : whole ≡ input = all_read (Some input) left input whole refl read.read read.end in
    let short : length whole ≤ input_limit = read.short in
    inr (record {
      done = refl;
      cause = r;
      rejects = Within (subst (λ (v : List ℕ). length v ≤ input_limit) same short) r (subst (λ (v : List ℕ). Refuses c v r) same (subst (λ (e : Command). Refuses e whole r) one refuses));
      line = refl;
    })

-- ---- a refused input

line_of : (c : Command) (input : List ℕ) (cause : Refusal) (status : ℕ) (text : List ℕ) → Rejects c input cause → ByCommand c input status text → IsLine c input status text
line_of c input cause status text h (inl made) = absurd (accepted_kept c input cause (record { short = made.short; made = is_made c input text status made.yields }) h)
line_of c input cause status text h (inr line) = line

refused_with : (words : List (List ℕ)) (left left' : Option (List ℕ)) (status : ℕ) (text : List ℕ) (cause : Refusal) → Answers words left left' status text → (k : IsRefusedInput words left cause)
    → IsLine k.command k.input status text
refused_with words left left' status text cause a k =
    let whole : Answers words (Some k.input) left' status text = subst (λ (o : Option (List ℕ)). Answers words o left' status text) k.whole a in
    line_of k.command k.input cause status text k.rejects (by_command words k.input left' status text k.command k.asked whole)

-- a refused input leads to its line
pub refused_input_is : (words : List (List ℕ)) (left left' : Option (List ℕ)) (status : ℕ) (text : List ℕ) (cause : Refusal) → Answers words left left' status text → IsRefusedInput words left cause
    → status ≡ 3
refused_input_is words left left' status text cause a k = (refused_with words left left' status text cause a k).done

pub refused_line_is : OnePackage → OneSpelling → OneFault → (words : List (List ℕ)) (left left' : Option (List ℕ)) (status : ℕ) (text : List ℕ) (cause : Refusal)
    → Answers words left left' status text → IsRefusedInput words left cause → text ≡ refused_line cause
refused_line_is one spelling single words left left' status text cause a k =
    let h = refused_with words left left' status text cause a k in
    h.line ∙ ap refused_line (one_rejection one spelling single k.command k.input h.cause cause h.rejects k.rejects)

-- ---- one answer

-- two answers have one status, and one text where `weave` hasn't made it
record SameAnswer (words : List (List ℕ)) (status another : ℕ) (text line : List ℕ) : Type 0 where
  statuses : status ≡ another
  texts : (AsksFor words command.Weave → status ≢ 0) → text ≡ line

made_kept : (c : Command) (input : List ℕ) (status another : ℕ) (text line : List ℕ) → IsMadeText c input status text → IsLine c input another line → ⊥
made_kept c input status another text line h k = accepted_kept c input k.cause (record { short = h.short; made = is_made c input text status h.yields }) k.rejects

one_by_command : OnePackage → OneSpelling → OneFault → (words : List (List ℕ)) (input : List ℕ) (status another : ℕ) (text line : List ℕ) (c : Command) → AsksFor words c
    → ByCommand c input status text → ByCommand c input another line → SameAnswer words status another text line
one_by_command one spelling single words input status another text line c asked (inl h) (inl k) = record {
  statuses = same_status c input text line status another h.yields k.yields;
  texts = λ other. (one_text one c input text line status another (λ e. other (subst (AsksFor words) e asked) (weave_status c input text status e h.yields)) h.yields k.yields).1;
}
one_by_command one spelling single words input status another text line c asked (inl h) (inr k) = absurd (made_kept c input status another text line h k)
one_by_command one spelling single words input status another text line c asked (inr h) (inl k) = absurd (made_kept c input another status line text k h)
one_by_command one spelling single words input status another text line c asked (inr h) (inr k) = record {
  statuses = h.done ∙ sym k.done;
  texts = λ other. h.line ∙ ap refused_line (one_rejection one spelling single c input h.cause k.cause h.rejects k.rejects) ∙ sym k.line;
}

one_summary : (n : ℕ) (text line : List ℕ) → IsSummary n text → IsSummary n line → text ≡ line
one_summary n text line h k =
    h.text_is ∙ ap (λ (os : List Opened). summary_text n (run_of (made_scenario_of n) os [])) (one_set_up (made_scenario_of n) h.opened k.opened h.opens k.opens) ∙ sym k.text_is

by_count : (words : List (List ℕ)) (input : List ℕ) (left : Option (List ℕ)) (status : ℕ) (text : List ℕ) (n : ℕ) → AsksToMake words n → Answers words (Some input) left status text
    → (status ≡ 0) × IsSummary n text
by_count words input left status text n made (Made c asked whole read _ _ yields) = absurd (makes_alone words c n asked made)
by_count words input left status text n made (Summed m also _ is) = (refl, subst (λ (k : ℕ). IsSummary k text) (same_number words m n also made) is)
by_count words input left status text n made (Usage unasked) = absurd (unasked (request.Make n) made)
by_count words input left status text n made (TooLong c asked more) = absurd (makes_alone words c n asked made)
by_count words input left status text n made (Refused c asked whole read r refuses) = absurd (makes_alone words c n asked made)

by_usage : (words : List (List ℕ)) (input : List ℕ) (left : Option (List ℕ)) (status : ℕ) (text : List ℕ) → ((r : Request) → Asks words r → ⊥) → Answers words (Some input) left status text
    → (status ≡ 2) × (text ≡ usage_line)
by_usage words input left status text none (Made c asked whole read _ _ yields) = absurd (none (request.Run c) asked)
by_usage words input left status text none (Summed n made _ is) = absurd (none (request.Make n) made)
by_usage words input left status text none (Usage unasked) = (refl, refl)
by_usage words input left status text none (TooLong c asked more) = absurd (none (request.Run c) asked)
by_usage words input left status text none (Refused c asked whole read r refuses) = absurd (none (request.Run c) asked)

same_answer : OnePackage → OneSpelling → OneFault → (words : List (List ℕ)) (input : List ℕ) (left other : Option (List ℕ)) (status another : ℕ) (text line : List ℕ)
    → Answers words (Some input) left status text → Answers words (Some input) other another line → SameAnswer words status another text line
same_answer one spelling single words input left other status another text line (Made c asked whole read _ _ yields) b =
    one_by_command one spelling single words input status another text line c asked
    (by_command words input left status text c asked (Made c asked whole read status text yields)) (by_command words input other another line c asked b)
same_answer one spelling single words input left other status another text line (Summed n made _ is) b =
    let found = by_count words input other another line n made b in
    record { statuses = sym found.0; texts = λ differs. one_summary n text line is found.1 }
same_answer one spelling single words input left other status another text line (Usage unasked) b =
    let found = by_usage words input other another line unasked b in
    record { statuses = sym found.0; texts = λ differs. sym found.1 }
same_answer one spelling single words input left other status another text line (TooLong c asked more) b =
    one_by_command one spelling single words input 3 another text line c asked
    (by_command words input left 3 (refused_line refusal.Long) c asked (TooLong c asked more)) (by_command words input other another line c asked b)
same_answer one spelling single words input left other status another text line (Refused c asked whole read r refuses) b =
    one_by_command one spelling single words input 3 another text line c asked
    (by_command words input left 3 (refused_line r) c asked (Refused c asked whole read r refuses)) (by_command words input other another line c asked b)

pub one_status : OnePackage → OneSpelling → OneFault → (words : List (List ℕ)) (input : List ℕ) (left other : Option (List ℕ)) (status another : ℕ) (text line : List ℕ)
    → Answers words (Some input) left status text → Answers words (Some input) other another line → status ≡ another
one_status one spelling single words input left other status another text line a b =
    (same_answer one spelling single words input left other status another text line a b).statuses

pub one_answer : OnePackage → OneSpelling → OneFault → (words : List (List ℕ)) (input : List ℕ) (left other : Option (List ℕ)) (status another : ℕ) (text line : List ℕ)
    → Answers words (Some input) left status text → Answers words (Some input) other another line → (AsksFor words command.Weave → status ≢ 0) → text ≡ line
one_answer one spelling single words input left other status another text line a b differs =
    (same_answer one spelling single words input left other status another text line a b).texts differs
