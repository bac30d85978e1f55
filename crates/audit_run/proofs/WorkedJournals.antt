-- The verdicts on the worked journals, and what is written of them.
use Rattle.std.proofs.Common.{◌≡◌, ℕ, zero, suc, ◌+◌, ◌<◌, true, false, List, [], ◌∷◌, ◌++◌, slice_index, refl, ap, subst, arith}
use Rattle.std.specs.Prelude.{codes}
use Rattle.std.proofs.lemmas.Fmt.{decimal_digit}
use Rattle.pcc_audit.specs.declared.verdict.Flaw.TheVariants as flaw
use Rattle.pcc_audit.specs.declared.verdict.Verdict.TheVariants.{No}
use Rattle.pcc_audit.specs.Verdicts.{AreFlawless, Flawless, IsVerdict, WrongHead, WrongRecord}
use Rattle.pcc_journal.specs.declared.text.JournalHead.{JournalHead}
use Rattle.pcc_text.specs.Pieces.{Decimal, Words, spelled}
use Rattle.audit_run.specs.Audits.{IsJudged, IsRight, no_line, yes_line, yes_text}
use Rattle.audit_run.specs.Boards.{board_of}
use Rattle.audit_run.specs.Worked.{bank, told}

-- the first command is right, whatever the second one gives out
first_right : (id byte : ℕ) → AreFlawless (board_of (bank id)) (told id byte).records 1
first_right id byte zero lt d = ((refl, refl), omega arith, λ e. cc, λ e w. cc, (refl, refl, tt))
first_right id byte (suc k) lt d = absurd (omega arith)

both_right : (id : ℕ) → AreFlawless (board_of (bank id)) (told id 5).records 2
both_right id zero lt d = ((refl, refl), omega arith, λ e. cc, λ e w. cc, (refl, refl, tt))
both_right id (suc zero) lt d = ((refl, refl), omega arith, λ e. cc, λ e w. cc, (refl, refl, tt))
both_right id (suc (suc k)) lt d = absurd (omega arith)

right : (id : ℕ) → IsRight (bank id) (told id 5)
right id = Flawless refl (both_right id) tt

zero_five : ◌≡◌ {A = ℕ} 0 5 → ⊥
zero_five e = absurd (omega arith)

zero_given : (id : ℕ) → IsVerdict (board_of (bank id)) (told id 0) (No 1 flaw.Legal)
zero_given id =
    WrongRecord refl 1 flaw.Legal (omega arith) (first_right id 0)
    (λ d. ((refl, refl), omega arith, λ e. cc, λ e w. cc, λ h. zero_five (ap (λ (l : List ℕ). slice_index l 0) h.1)))

ids_differ : ◌≡◌ {A = ℕ} 4 3 → ⊥
ids_differ e = absurd (omega arith)

of_another : IsVerdict (board_of (bank 3)) (told 4 5) (No 0 flaw.Head)
of_another = WrongHead (λ e. ids_differ (ap (λ (h : JournalHead). h.id) e))

-- ---- texts

-- a line with two digits
line_is : (word rest : List ℕ) (m n : ℕ) → m < 10 → n < 10
    → spelled (Words word ∷ Decimal m ∷ Words (codes " ") ∷ Decimal n ∷ Words rest ∷ []) ≡ word ++ ((48 + m) ∷ 32 ∷ (48 + n) ∷ (rest ++ []))
unfolding spelled
line_is word rest m n first second = λ k. word ++ (decimal_digit m first k ++ (32 ∷ (decimal_digit n second k ++ (rest ++ []))))

yes_of : (id : ℕ) → id < 10 → spelled (yes_line (bank id) (told id 5)) ≡ codes "yes " ++ ((48 + id) ∷ codes " 2\n")
yes_of id lt = line_is (codes "yes ") (codes "\n") id 2 lt (omega arith)

one_text : yes_text (bank 3 ∷ []) (told 3 5 ∷ []) ≡ codes "yes 3 2\n"
one_text = ap (λ (l : List ℕ). l ++ []) (yes_of 3 (omega arith))

two_text : yes_text (bank 3 ∷ bank 4 ∷ []) (told 3 5 ∷ told 4 5 ∷ []) ≡ codes "yes 3 2\nyes 4 2\n"
two_text = λ k. yes_of 3 (omega arith) k ++ (yes_of 4 (omega arith) k ++ [])

legal_text : spelled (no_line (bank 4) 1 flaw.Legal) ≡ codes "no 4 1 legal\n"
legal_text = line_is (codes "no ") (codes " legal\n") 4 1 (omega arith) (omega arith)

head_text : spelled (no_line (bank 3) 0 flaw.Head) ≡ codes "no 3 0 head\n"
head_text = line_is (codes "no ") (codes " head\n") 3 0 (omega arith) (omega arith)

pub one_right : IsJudged (bank 3 ∷ []) (told 3 5 ∷ []) false (codes "yes 3 2\n")
one_right = subst (IsJudged (bank 3 ∷ []) (told 3 5 ∷ []) false) one_text (IsJudged.AllRight (right 3, tt))

pub two_right : IsJudged (bank 3 ∷ bank 4 ∷ []) (told 3 5 ∷ told 4 5 ∷ []) false (codes "yes 3 2\nyes 4 2\n")
two_right = subst (IsJudged (bank 3 ∷ bank 4 ∷ []) (told 3 5 ∷ told 4 5 ∷ []) false) two_text (IsJudged.AllRight (right 3, (right 4, tt)))

pub second_wrong : IsJudged (bank 3 ∷ bank 4 ∷ []) (told 3 5 ∷ told 4 0 ∷ []) true (codes "no 4 1 legal\n")
second_wrong = subst (IsJudged (bank 3 ∷ bank 4 ∷ []) (told 3 5 ∷ told 4 0 ∷ []) true) legal_text
    (IsJudged.FirstWrong 1 (bank 4) (told 4 0) refl refl (right 3, tt) 1 flaw.Legal (zero_given 4))

pub exchanged : IsJudged (bank 3 ∷ bank 4 ∷ []) (told 4 5 ∷ told 3 0 ∷ []) true (codes "no 3 0 head\n")
exchanged = subst (IsJudged (bank 3 ∷ bank 4 ∷ []) (told 4 5 ∷ told 3 0 ∷ []) true) head_text
    (IsJudged.FirstWrong 0 (bank 3) (told 4 5) refl refl tt 0 flaw.Head of_another)
