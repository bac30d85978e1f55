-- The headline of what was written.
use Rattle.std.proofs.Common.{◌≡◌, ◌≤◌, ℕ, List, [], ◌∷◌, get_or, sym, ap, ◌∙◌, subst, arith}
use Rattle.std.specs.Prelude.{Option, codes, decimal}
use Rattle.std.specs.Io.KnownBytes.{Appends}
use Rattle.std.proofs.lemmas.Fmt.{decimal_injective}
use Rattle.pcc_script.specs.declared.limits.TheConstants.{MAX_MADE_CALLS}
use Rattle.pccrun_core.specs.declared.command.Command.{Command}
use Rattle.pccrun_core.specs.declared.command.Command.TheVariants as command
use Rattle.pccrun_core.specs.Answers.{Answers, AsksToMake, Made, Makes, MakesText, Refused, Summed, TellsFlaw, TooLong, Usage, Yields}
use Rattle.pccrun_core.specs.Headlined.{Headlined}
use Rattle.pccrun_core.proofs.Ranges.{CanBeginAll, served_ranges}
use Rattle.pccrun_core.proofs.Tops.{makes_alone, same_command}
use Rattle.script_run.specs.Summaries.{IsSummary}

-- words ask for one number of calls
pub same_number : (words : List (List ℕ)) (m n : ℕ) → AsksToMake words m → AsksToMake words n → m ≡ n
same_number words m n a b =
    let both : codes "make" ∷ decimal m ∷ [] ≡ codes "make" ∷ decimal n ∷ [] = sym a.words_are ∙ b.words_are in
    let few : m ≤ MAX_MADE_CALLS = a.few in
    let few_too : n ≤ MAX_MADE_CALLS = b.few in
    decimal_injective m n (omega (arith, few)) (omega (arith, few_too)) (ap (λ (v : List (List ℕ)). get_or v 1 []) both)

-- what is written with status 0 is made of the input
made_text : (c : Command) (input : List ℕ) (status : ℕ) (text : List ℕ) → status ≡ 0 → Yields c input status text → Makes c input text
made_text c input status text e (MakesText _ h) = h
made_text c input status text e (TellsFlaw is _ h) = absurd (omega (arith, e))

pub headlined : CanBeginAll → (words : List (List ℕ)) (left left' held held' : Option (List ℕ)) (status : ℕ) (text : List ℕ) → Answers words left left' status text → Appends held held' text → status ≡ 0
    → Headlined words left left' held held'
headlined can words left left' held held' status text (Made c asked input read _ _ yields) written e =
    let is : Makes c input text = made_text c input status text e yields in
    let P : Command → Type 0 = λ d. Makes d input text in
    let A : List ℕ → Type 0 = λ v. Appends held held' v in
    record {
      step = λ a. let m : Makes command.Step input text = subst P (same_command words c command.Step asked a) is in
          record { input = input; scenario = m.0; opened = m.1; read = read; served = m.2; text = subst A m.3.text_is written; journals = m.3.headline; ranges = served_ranges can command.Step input m.0 m.1 m.2 };
      weave = λ a. let m : Makes command.Weave input text = subst P (same_command words c command.Weave asked a) is in
          record { input = input; scenario = m.0; opened = m.1; text = text; read = read; served = m.2; written = written; woven = m.3 };
      make = λ n h. absurd (makes_alone words c n asked h);
    }
headlined can words left left' held held' status text (Summed m asked made is) written e =
    let P : ℕ → Type 0 = λ n. IsSummary n text in
    let A : List ℕ → Type 0 = λ v. Appends held held' v in
    record {
      step = λ a. absurd (makes_alone words command.Step m a asked);
      weave = λ a. absurd (makes_alone words command.Weave m a asked);
      make = λ n h. let s : IsSummary n text = subst P (same_number words m n asked h) is in
          record { opened = s.opened; opens = s.opens; text = subst A s.text_is written; journals = s.headline };
    }
headlined can words left left' held held' status text (Usage unasked) written e = absurd (omega (arith, e))
headlined can words left left' held held' status text (TooLong c asked more) written e = absurd (omega (arith, e))
headlined can words left left' held held' status text (Refused c asked input read r cause) written e = absurd (omega (arith, e))
