-- What the words and the bytes read lead to.
use Rattle.std.proofs.Common.{◌≡◌, inl, inr, ℕ, ◌+◌, ◌<◌, ◌≤◌, Bool, true, false, List, [], ◌∷◌, ◌++◌, length, get_or, map, refl, sym, ap, ◌∙◌, subst, arith}
use Rattle.std.specs.Prelude.{◌==◌, if◌then◌else◌, Option, Some, None, bytes_eq, codes, decimal}
use Rattle.std.specs.Io.KnownBytes.{Consumes, IsAtEnd}
use Rattle.std.proofs.lemmas.List.{append-nil, length-append}
use Rattle.std.proofs.lemmas.Slice.Eq.{bytes_eq-Decides}
use Rattle.pcc_script.specs.declared.limits.TheConstants.{MAX_MADE_CALLS}
use Rattle.pcc_script.specs.declared.scenario.Scenario.{Scenario}
use Rattle.pcct_codec.proofs.Texts.{has_text}
use Rattle.pccrun_core.specs.declared.command.Command.{Command}
use Rattle.pccrun_core.specs.declared.command.Command.TheVariants as command
use Rattle.pccrun_core.specs.declared.command.Request.{Request}
use Rattle.pccrun_core.specs.declared.command.Request.TheVariants as request
use Rattle.pcc_setup.specs.declared.refusal.Refusal.{Refusal}
use Rattle.pcc_setup.specs.declared.refusal.Refusal.TheVariants as refusal
use Rattle.pccrun_core.specs.Answers.{Answers, Asks, AsksFor, AsksToMake, AuditGives, IsDone, IsMade, IsServedInput, Made, Makes, MakesText, Refused, Summed, TellsFlaw, TooLong, Usage, Yields, input_limit, usage_line, word_of}
use Rattle.pccrun_core.specs.Serving.{Serves}
use Rattle.pccrun_core.proofs.Audits.{audit_kept}
use Rattle.pcc_setup.specs.RefusalText.{HasLine, refused_line}
use Rattle.pcc_setup.proofs.Refused.{table_kept}
use Rattle.pccrun_core.specs.Refusals.{Refuses, WrongLine}
use Rattle.pcc_setup.specs.declared.opening.Opened.{Opened}
use Rattle.pcc_setup.specs.SetUps.{Opens}
use Rattle.script_run.specs.ScriptRuns.{IsStepText}
use Rattle.script_run.specs.Summaries.{IsSummary}
use Rattle.pccrun_core.proofs.Packaged.{package_kept}
use Rattle.pccrun_core.proofs.Refused.{script_kept}

same_head : (x y : List ℕ) → x ∷ [] ≡ y ∷ [] → x ≡ y
same_head x y h = cc

-- two words ask for a made-up script
pub asks_to_make : {X : Type 0} (f : X → List ℕ) (xs : List X) (word count : X) (w k : List ℕ) (n : ℕ) → 2 ≤ length xs → length xs < 3 → word ≡ get_or xs 0 word → count ≡ get_or xs 1 count → w ≡ f word → k ≡ f count
    → true ≡ bytes_eq w (codes "make") → 1 ≤ n → n ≤ MAX_MADE_CALLS → k ≡ decimal n → AsksToMake (map f xs) n
asks_to_make {X = X} f xs word count w k n at_least below first second is_w is_k named some few told =
    let make : w ≡ codes "make" = (bytes_eq-Decides w (codes "make")).0 (sym named) in
    record { some = some; few = few; words_are = two xs at_least below first second ∙ (λ i. (sym is_w ∙ make) i ∷ (sym is_k ∙ told) i ∷ []) }
  where
    two : (xs : List X) → 2 ≤ length xs → length xs < 3 → word ≡ get_or xs 0 word → count ≡ get_or xs 1 count → map f xs ≡ f word ∷ f count ∷ []
    two [] a b e g = absurd (omega (arith, a))
    two (x ∷ []) a b e g = absurd (omega (arith, a))
    two (x ∷ y ∷ []) a b e g = λ i. f (sym e i) ∷ f (sym g i) ∷ []
    two (x ∷ y ∷ z ∷ zs) a b e g = absurd (omega (arith, b))

-- ---- what an input leads to

-- what is made of a served script
pub stepped : (input : List ℕ) (s : Scenario) (os : List Opened) (text : List ℕ) → Serves command.Step input s os → ((h : Opens s os) → IsStepText s os h.checked.cpus text)
    → Makes command.Step input text
stepped input s os text h e = (s, os, h, e h.opens)

-- what an audit writes, by its status
pub judged : (input : List ℕ) (flawed : Bool) (text : List ℕ) (status : ℕ) → AuditGives input flawed text → status ≡ (if flawed then 1 else 0)
    → Yields command.Audit input status text
judged input true text status h e = subst (λ (n : ℕ). Yields command.Audit input n text) (sym e) (TellsFlaw refl text h)
judged input false text status h e = subst (λ (n : ℕ). Yields command.Audit input n text) (sym e) (MakesText text h)

pub made_of : (words : List (List ℕ)) (left left' : Option (List ℕ)) (status : ℕ) (input text : List ℕ) (c : Command) → AsksFor words c → Consumes left left' input → IsAtEnd left' → length input ≤ input_limit → Yields c input status text → Answers words left left' status text
made_of words left left' status input text c asked read end short yields = Made c asked input (record { read = read; end = end; short = short }) status text yields

pub refused_for : (words : List (List ℕ)) (left left' : Option (List ℕ)) (input text : List ℕ) (c : Command) (r : Refusal) → AsksFor words c → Consumes left left' input → IsAtEnd left' → length input ≤ input_limit → Refuses c input r → text ≡ refused_line r → Answers words left left' 3 text
refused_for words left left' input text c r asked read end short cause e =
    let P : List ℕ → Type 0 = Answers words left left' 3 in
    subst P (sym e) (Refused c asked input (record { read = read; end = end; short = short }) r cause)

pub not_set_up : (words : List (List ℕ)) (left left' : Option (List ℕ)) (input text : List ℕ) (c : Command) → AsksFor words c → Consumes left left' input → IsAtEnd left' → length input ≤ input_limit
    → (r : Refusal) × Refuses c input r × HasLine r × (text ≡ refused_line r) → Answers words left left' 3 text
not_set_up words left left' input text c asked read end short h = refused_for words left left' input text c h.0 asked read end short h.1 h.3

pub summed : (words : List (List ℕ)) (left left' : Option (List ℕ)) (n : ℕ) (text : List ℕ) → AsksToMake words n → IsSummary n text → Answers words left left' 0 text
summed words left left' n text asked is = Summed n asked text is

pub usage : (words : List (List ℕ)) (left left' : Option (List ℕ)) (text : List ℕ) → ((r : Request) → Asks words r → ⊥) → text ≡ usage_line → Answers words left left' 2 text
usage words left left' text unasked e = let P : List ℕ → Type 0 = Answers words left left' 2 in subst P (sym e) (Usage unasked)

pub too_long : (words : List (List ℕ)) (left left' : Option (List ℕ)) (text : List ℕ) (c : Command) → AsksFor words c → (bytes : List ℕ) × Consumes left left' bytes × (length bytes ≡ input_limit + 1)
    → text ≡ refused_line refusal.Long → Answers words left left' 3 text
too_long words left left' text c asked found e =
    let P : List ℕ → Type 0 = Answers words left left' 3 in
    subst P (sym e) (TooLong c asked (record { text = found.0; read = found.1; more = found.2 }))

-- ---- completeness

pub all_consumed : (xs bytes : List ℕ) (left' : Option (List ℕ)) → Consumes (Some xs) left' bytes → (ys : List ℕ) × (left' ≡ Some ys) × (xs ≡ bytes ++ ys)
all_consumed xs bytes None h = absurd h
all_consumed xs bytes (Some ys) h = (ys, refl, h)

pub all_read : (left left' : Option (List ℕ)) (xs bytes : List ℕ) → left ≡ Some xs → Consumes left left' bytes → IsAtEnd left' → bytes ≡ xs
all_read left left' xs bytes told read end =
    let P : Option (List ℕ) → Type 0 = λ o. Consumes o left' bytes in
    let found = all_consumed xs bytes left' (subst P told read) in
    let empty : found.0 ≡ [] = subst IsAtEnd found.1 end in
    sym (found.2 ∙ ap (λ (v : List ℕ). bytes ++ v) empty ∙ append-nil bytes)

-- the fourth letter tells the command
abbrev fourth : List ℕ → ℕ
fourth word = get_or word 3 0

abbrev told_by : ℕ → Command
told_by letter =
    if letter == 112 then command.Step
    else (if letter == 118 then command.Weave
    else (if letter == 119 then command.Show
    else (if letter == 108 then command.Build
    else (if letter == 115 then command.Raise
    else (if letter == 105 then command.Audit
    else command.Cpc)))))

told_back : (c : Command) → told_by (fourth (word_of c)) ≡ c
told_back command.Step = refl
told_back command.Weave = refl
told_back command.Show = refl
told_back command.Build = refl
told_back command.Cpc = refl
told_back command.Raise = refl
told_back command.Audit = refl

-- words ask for one command
one_command : (c d : Command) → word_of c ≡ word_of d → c ≡ d
one_command c d e = sym (told_back c) ∙ ap (λ (w : List ℕ). told_by (fourth w)) e ∙ told_back d

pub same_command : (words : List (List ℕ)) (c d : Command) → AsksFor words c → AsksFor words d → c ≡ d
same_command words c d a b = one_command c d (same_head (word_of c) (word_of d) (sym a ∙ b))

-- what is made is not refused
pub kept : (c : Command) (input : List ℕ) (r : Refusal) → IsMade c input → Refuses c input r → ⊥
kept command.Step input r h k = script_kept command.Step input h.0 h.1 r h.2 k
kept command.Weave input r h k = script_kept command.Weave input h.0 h.1 r h.2 k
kept command.Show input r h k = table_kept input h.0 r h.1 k
kept command.Build input r h (WrongLine none line wrong fault) = none h.0 (has_text h.0 h.1.value) h.1.text_is
kept command.Cpc input r h k = package_kept input h.0 r h.1 k
kept command.Raise input r h k = package_kept input h.0 r h.1 k
kept command.Audit input r h k = audit_kept input r h k

zero_done : (c : Command) → IsDone c 0
zero_done command.Step = refl
zero_done command.Weave = refl
zero_done command.Show = refl
zero_done command.Build = refl
zero_done command.Cpc = refl
zero_done command.Raise = refl
zero_done command.Audit = inl refl

done_by : (c : Command) (input : List ℕ) (status : ℕ) (text : List ℕ) → Yields c input status text → IsDone c status
done_by c input status text (MakesText _ h) = zero_done c
done_by c input status text (TellsFlaw is _ h) = subst (λ (d : Command). IsDone d 1) (sym is) (inr refl)

-- a served input leads to what is made of it alone
pub served_input_runs : (words : List (List ℕ)) (left left' : Option (List ℕ)) (status : ℕ) (text : List ℕ) → Answers words left left' status text → (h : IsServedInput words left) → IsDone h.command status
served_input_runs words left left' status text (Made c asked input read _ _ yields) h =
    subst (λ (d : Command). IsDone d status) (same_command words c h.command asked h.asked) (done_by c input status text yields)
served_input_runs words left left' status text (Summed n asked made is) h = zero_done h.command
served_input_runs words left left' status text (Usage unasked) h = absurd (unasked (request.Run h.command) h.asked)
served_input_runs words left left' status text (TooLong c asked more) h =
    let P : Option (List ℕ) → Type 0 = λ o. Consumes o left' more.text in
    let found = all_consumed h.input more.text left' (subst P h.told more.read) in
    let len : length h.input ≡ length more.text + length found.0 = ap length found.2 ∙ length-append more.text found.0 in
    let exceeds : length more.text ≡ input_limit + 1 = more.more in
    let short : length h.input ≤ input_limit = h.short in
    absurd (omega arith)
served_input_runs words left left' status text (Refused c asked input read r cause) h =
    let same : input ≡ h.input = all_read left left' h.input input h.told read.read read.end in
    let one : c ≡ h.command = same_command words c h.command asked h.asked in
    let P : Command → Type 0 = λ d. Refuses d input r in
    let Q : List ℕ → Type 0 = λ v. Refuses h.command v r in
    absurd (kept h.command h.input r h.made (subst Q same (subst P one cause)))

-- words that ask for a made-up script ask for no command on the input
pub makes_alone : (words : List (List ℕ)) (c : Command) (n : ℕ) → AsksFor words c → AsksToMake words n → ⊥
makes_alone words c n asked h = let both : word_of c ∷ [] ≡ codes "make" ∷ decimal n ∷ [] = sym asked ∙ h.words_are in let len : 1 ≡ 2 = ap length both in absurd (omega (arith, len))

-- and a made-up script is run
pub made_runs : (words : List (List ℕ)) (left left' : Option (List ℕ)) (status n : ℕ) (text : List ℕ) → Answers words left left' status text → AsksToMake words n → status ≡ 0
made_runs words left left' status n text (Made c asked input read _ _ yields) h = absurd (makes_alone words c n asked h)
made_runs words left left' status n text (Summed m asked made is) h = refl
made_runs words left left' status n text (Usage unasked) h = absurd (unasked (request.Make n) h)
made_runs words left left' status n text (TooLong c asked more) h = absurd (makes_alone words c n asked h)
made_runs words left left' status n text (Refused c asked input read r cause) h = absurd (makes_alone words c n asked h)

-- what is written has one of the lower statuses
yields_low : (c : Command) (input : List ℕ) (status : ℕ) (text : List ℕ) → Yields c input status text → status < 4
yields_low c input status text (MakesText _ h) = omega arith
yields_low c input status text (TellsFlaw is _ h) = omega arith

pub answers_low : (words : List (List ℕ)) (left left' : Option (List ℕ)) (status : ℕ) (text : List ℕ) → Answers words left left' status text → status < 4
answers_low words left left' status text (Made c asked input read _ _ yields) = yields_low c input status text yields
answers_low words left left' status text (Summed n asked made is) = omega arith
answers_low words left left' status text (Usage unasked) = omega arith
answers_low words left left' status text (TooLong c asked more) = omega arith
answers_low words left left' status text (Refused c asked input read r cause) = omega arith

pub never : (low status high : ℕ) → low < 4 → status ≡ low → 4 ≤ high → status ≡ high → ⊥
never low status high below is above e = omega (arith, below, is, above, e)

-- ---- rules

-- each answer to words and their input
pub ruleset answers = (usage, summed, made_of, refused_for, not_set_up, too_long)

-- a script that is run, or made up and run
pub ruleset runs = (served_input_runs, made_runs, makes_alone)
