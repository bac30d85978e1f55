-- A text is that of so many journals or has one first fault.
use Rattle.std.proofs.Common.{◌≡◌, ◌⊎◌, inl, inr, ℕ, zero, suc, ◌+◌, ◌<◌, ◌≤◌, List, [], ◌∷◌, ◌++◌, length, refl, sym, ap, ◌∙◌, subst, arith}
use Rattle.std.specs.List.{AllByRecursion}
use Rattle.std.proofs.lemmas.Bool.{cases_lt}
use Rattle.std.proofs.lemmas.List.{append-nil, append_assoc, append_cancel_left, length-append}
use Rattle.pcc_bytes.specs.Fields.{lines_of}
use Rattle.journal_reading.specs.declared.told.AuditKind.{AuditKind}
use Rattle.journal_reading.specs.declared.told.AuditKind.TheVariants as kind
use Rattle.journal_reading.specs.declared.told.Told.{Told}
use Rattle.journal_reading.specs.Faults.{HasFault, HasJournal, JournalWrong, Tells}
use Rattle.journal_reading.specs.Told.{IsTold, told_text}
use Rattle.journal_reading.proofs.Deciding.{journal_or_fault}
use Rattle.journal_reading.proofs.OneFault as journal
use Rattle.audit_run.specs.Journals.{AreJournals, BeginsWith, HasJournals, HasWrong, JournalsWrong, LineAfter, WrongJournal, journals_text}
use Rattle.audit_run.proofs.JournalLines.{lines_of-append}

-- ---- a text is one or the other

no_lines : (first : ℕ) → first + length (lines_of (journals_text [])) ≡ first
no_lines first = omega arith

none_wanted : (first : ℕ) (text : List ℕ) → HasJournals 0 text ⊎ HasWrong first 0 text
none_wanted first [] = inl (record { journals = []; are = record { right = tt; count_is = refl; is = refl } })
none_wanted first (b ∷ text) =
    inr (record {
      line = first + length (lines_of (journals_text []));
      kind = kind.Text;
      wrong = LineAfter [] (b ∷ text) (record { right = tt; is = refl }) refl (omega arith);
    })

-- a journal in front of others
one_more : (n : ℕ) (text rest : List ℕ) (t : Told) → IsTold t → text ≡ told_text t ++ rest → HasJournals n rest → HasJournals (suc n) text
one_more n text rest t right is h = record {
  journals = t ∷ h.journals;
  are = record {
    right = (right, h.are.right);
    count_is = ap suc h.are.count_is;
    is = is ∙ ap (λ (v : List ℕ). told_text t ++ v) h.are.is;
  };
}

-- the front of a text, with one journal more
front_more : (text rest left : List ℕ) (t : Told) (ts : List Told) → IsTold t → text ≡ told_text t ++ rest → BeginsWith rest ts left
    → BeginsWith text (t ∷ ts) left
front_more text rest left t ts right is b = record {
  right = (right, b.right);
  is = is ∙ ap (λ (v : List ℕ). told_text t ++ v) b.is ∙ sym (append_assoc (told_text t) (journals_text ts) left);
}

lines_more : (first : ℕ) (t : Told) (ts : List Told)
    → first + length (lines_of (told_text t)) + length (lines_of (journals_text ts)) ≡ first + length (lines_of (journals_text (t ∷ ts)))
lines_more first t ts =
    let both : length (lines_of (told_text t ++ journals_text ts)) ≡ length (lines_of (told_text t)) + length (lines_of (journals_text ts)) =
    lines_of-append (told_text t) (journals_text ts) in
    omega arith

wrong_more : (first n : ℕ) (text rest : List ℕ) (t : Told) (line : ℕ) (k : AuditKind) → IsTold t → text ≡ told_text t ++ rest
    → JournalsWrong (first + length (lines_of (told_text t))) n rest line k → JournalsWrong first (suc n) text line k
wrong_more first n text rest t line k right is (WrongJournal ts left b lt l j w) =
    let W : ℕ → Type 0 = λ m. JournalWrong m left line k in
    WrongJournal (t ∷ ts) left (front_more text rest left t ts right is b) (omega arith) line k (subst W (lines_more first t ts) w)
wrong_more first n text rest t line k right is (LineAfter ts left b e some) =
    let W : ℕ → Type 0 = λ m. JournalsWrong first (suc n) text m kind.Text in
    subst W (sym (lines_more first t ts)) (LineAfter (t ∷ ts) left (front_more text rest left t ts right is b) (ap suc e) some)

next_case : (first n : ℕ) (text : List ℕ) (t : Told) (long : ℕ) (h : Tells text t long)
    → HasJournals n h.rest ⊎ HasWrong (first + length (lines_of (told_text t))) n h.rest → HasJournals (suc n) text ⊎ HasWrong first (suc n) text
next_case first n text t long h (inl more) = inl (one_more n text h.rest t h.right h.is more)
next_case first n text t long h (inr w) =
    inr (record { line = w.line; kind = w.kind; wrong = wrong_more first n text h.rest t w.line w.kind h.right h.is w.wrong })

first_wrong : (first n : ℕ) (text : List ℕ) → HasFault first text → HasWrong first (suc n) text
first_wrong first n text f =
    let W : ℕ → Type 0 = λ m. JournalWrong m text f.line f.kind in
    record {
      line = f.line;
      kind = f.kind;
      wrong = WrongJournal [] text (record { right = tt; is = refl }) (omega arith) f.line f.kind (subst W (sym (no_lines first)) f.wrong);
    }

front_case : (first n : ℕ) (text : List ℕ) → HasJournal text ⊎ HasFault first text
    → ((next : ℕ) (rest : List ℕ) → HasJournals n rest ⊎ HasWrong next n rest) → HasJournals (suc n) text ⊎ HasWrong first (suc n) text
front_case first n text (inl h) more =
    next_case first n text h.journal h.long h.tells (more (first + length (lines_of (told_text h.journal))) h.tells.rest)
front_case first n text (inr f) more = inr (first_wrong first n text f)

pub journals_or_wrong : (first count : ℕ) (text : List ℕ) → HasJournals count text ⊎ HasWrong first count text
journals_or_wrong first zero text = none_wanted first text
journals_or_wrong first (suc n) text = front_case first n text (journal_or_fault first text) (λ next rest. journals_or_wrong next n rest)

-- ---- one list of journals

-- further journals of a list, at the front of what is left
record Further (ts us : List Told) (rest left : List ℕ) : Type 0 where
  further : List Told
  right : AllByRecursion IsTold further
  are : us ≡ ts ++ further
  is : rest ≡ journals_text further ++ left

-- a journal at the front of a text
tells : (text : List ℕ) (t : Told) (ts : List Told) (rest : List ℕ) → IsTold t → text ≡ journals_text (t ∷ ts) ++ rest → Tells text t (length (told_text t))
tells text t ts rest right is = record {
  right = right;
  rest = journals_text ts ++ rest;
  is = is ∙ append_assoc (told_text t) (journals_text ts) rest;
  length_is = refl;
}

same_front : (ts us : List Told) (rest left : List ℕ) → AllByRecursion IsTold ts → AllByRecursion IsTold us → length ts ≤ length us
    → journals_text ts ++ rest ≡ journals_text us ++ left → Further ts us rest left
same_front [] us rest left h k le e = record { further = us; right = k; are = refl; is = e }
same_front (t ∷ ts) [] rest left h k le e = absurd (omega arith)
same_front (t ∷ ts) (u ∷ us) rest left h k le e =
    let text : List ℕ = journals_text (u ∷ us) ++ left in
    let one = journal.one_journal text t u (length (told_text t)) (length (told_text u)) (tells text t ts rest h.0 (sym e)) (tells text u us left k.0 refl) in
    let tail : journals_text ts ++ rest ≡ journals_text us ++ left =
    append_cancel_left (told_text t) (journals_text ts ++ rest) (journals_text us ++ left)
    (sym (append_assoc (told_text t) (journals_text ts) rest) ∙ e ∙ append_assoc (told_text u) (journals_text us) left ∙ ap (λ (x : Told). told_text x ++ (journals_text us ++ left)) (sym one.0)) in
    let more = same_front ts us rest left h.1 k.1 (omega arith) tail in
    record {
      further = more.further;
      right = more.right;
      are = ap (λ (x : Told). x ∷ us) (sym one.0) ∙ ap (λ (v : List Told). t ∷ v) more.are;
      is = more.is;
    }

-- so many journals at the front of a text are one list
record Same (ts us : List Told) (rest left : List ℕ) : Type 0 where
  are : ts ≡ us
  rest_is : rest ≡ left

none_further : (ts us : List Told) (rest left : List ℕ) (vs : List Told) → us ≡ ts ++ vs → rest ≡ journals_text vs ++ left → length ts ≡ length us
    → Same ts us rest left
none_further ts us rest left [] are is e = record { are = sym (are ∙ append-nil ts); rest_is = is }
none_further ts us rest left (v ∷ vs) are is e =
    let all : length us ≡ length ts + length (v ∷ vs) = ap length are ∙ length-append ts (v ∷ vs) in
    absurd (omega arith)

same_journals : (ts us : List Told) (rest left : List ℕ) → AllByRecursion IsTold ts → AllByRecursion IsTold us → length ts ≡ length us
    → journals_text ts ++ rest ≡ journals_text us ++ left → Same ts us rest left
same_journals ts us rest left h k e same =
    let f = same_front ts us rest left h k (omega arith) same in
    none_further ts us rest left f.further f.are f.is e

-- another journal follows where there are more
next_told : (ts us : List Told) (rest left : List ℕ) (vs : List Told) → AllByRecursion IsTold vs → us ≡ ts ++ vs → rest ≡ journals_text vs ++ left
    → length ts < length us → HasJournal rest
next_told ts us rest left [] right are is lt =
    let all : length us ≡ length ts + 0 = ap length are ∙ length-append ts [] in
    absurd (omega arith)
next_told ts us rest left (v ∷ vs) right are is lt = record { journal = v; long = length (told_text v); tells = tells rest v vs left right.0 is }

-- so that nothing is wrong there
not_wrong : (text : List ℕ) (ts us : List Told) (rest left : List ℕ) (first line : ℕ) (k : AuditKind) → BeginsWith text ts rest → BeginsWith text us left
    → length ts < length us → JournalWrong first rest line k → ⊥
not_wrong text ts us rest left first line k b c lt w =
    let f = same_front ts us rest left b.right c.right (omega arith) (sym b.is ∙ c.is) in
    let t = next_told ts us rest left f.further f.right f.are f.is lt in
    journal.not_both first rest t.journal t.long line k t.tells w

whole : (count : ℕ) (text : List ℕ) (ts : List Told) → AreJournals count text ts → BeginsWith text ts []
whole count text ts a = record { right = a.right; is = a.is ∙ sym (append-nil (journals_text ts)) }

pub one_list : (count : ℕ) (text : List ℕ) (ts us : List Told) → AreJournals count text ts → AreJournals count text us → ts ≡ us
one_list count text ts us a b =
    let c = whole count text ts a in
    let d = whole count text us b in
    (same_journals ts us [] [] a.right b.right (a.count_is ∙ sym b.count_is) (sym c.is ∙ d.is)).are

-- ---- one fault

not_both_lists : (first count : ℕ) (text : List ℕ) (ts : List Told) (line : ℕ) (k : AuditKind) → AreJournals count text ts
    → JournalsWrong first count text line k → ⊥
not_both_lists first count text ts line k a (WrongJournal us rest b lt l j w) =
    let n : length ts ≡ count = a.count_is in
    not_wrong text us ts rest [] (first + length (lines_of (journals_text us))) line k b (whole count text ts a) (omega arith) w
not_both_lists first count text ts line k a (LineAfter us rest b e some) =
    let n : length ts ≡ count = a.count_is in
    let c = whole count text ts a in
    let s = same_journals ts us [] rest a.right b.right (omega arith) (sym c.is ∙ b.is) in
    let none : 0 ≡ length rest = ap length s.rest_is in
    absurd (omega arith)

pub not_both : (first count : ℕ) (text : List ℕ) → HasJournals count text → HasWrong first count text → ⊥
not_both first count text h w = not_both_lists first count text h.journals w.line w.kind h.are w.wrong

-- the same place is wrong in both ways
same_wrong : (text : List ℕ) (ts us : List Told) (rest left : List ℕ) (first line other : ℕ) (k j : AuditKind) → BeginsWith text ts rest
    → BeginsWith text us left → length ts ≡ length us → JournalWrong (first + length (lines_of (journals_text ts))) rest line k
    → JournalWrong (first + length (lines_of (journals_text us))) left other j → (line ≡ other) × (k ≡ j)
same_wrong text ts us rest left first line other k j b c e w v =
    let s = same_journals ts us rest left b.right c.right e (sym b.is ∙ c.is) in
    let T : List Told → Type 0 = λ xs. JournalWrong (first + length (lines_of (journals_text xs))) rest line k in
    let R : List ℕ → Type 0 = λ xs. JournalWrong (first + length (lines_of (journals_text us))) xs line k in
    journal.one_fault (first + length (lines_of (journals_text us))) left line other k j (subst R s.rest_is (subst T s.are w)) v

not_more : (a b : ℕ) → (a < b → ⊥) → b ≤ a
not_more a b never = elim (cases_lt a b) [ inl lt ↦ absurd (never lt) | inr le ↦ le ]

both_wrong : (text : List ℕ) (ts us : List Told) (rest left : List ℕ) (first line other : ℕ) (k j : AuditKind) → BeginsWith text ts rest
    → BeginsWith text us left → JournalWrong (first + length (lines_of (journals_text ts))) rest line k
    → JournalWrong (first + length (lines_of (journals_text us))) left other j → (line ≡ other) × (k ≡ j)
both_wrong text ts us rest left first line other k j b c w v =
    let up : length us ≤ length ts = not_more (length ts) (length us) (λ lt. not_wrong text ts us rest left (first + length (lines_of (journals_text ts))) line k b c lt w) in
    let down : length ts ≤ length us = not_more (length us) (length ts) (λ lt. not_wrong text us ts left rest (first + length (lines_of (journals_text us))) other j c b lt v) in
    same_wrong text ts us rest left first line other k j b c (omega arith) w v

pub one_fault : (first count : ℕ) (text : List ℕ) (line other : ℕ) (k j : AuditKind) → JournalsWrong first count text line k
    → JournalsWrong first count text other j → (line ≡ other) × (k ≡ j)
one_fault first count text line other k j (WrongJournal ts rest b lt l m w) (WrongJournal us left c less n o v) =
    both_wrong text ts us rest left first line other k j b c w v
one_fault first count text line other k j (WrongJournal ts rest b lt l m w) (LineAfter us left c e some) =
    absurd (not_wrong text ts us rest left (first + length (lines_of (journals_text ts))) line k b c (omega arith) w)
one_fault first count text line other k j (LineAfter us left c e some) (WrongJournal ts rest b lt l m w) =
    absurd (not_wrong text ts us rest left (first + length (lines_of (journals_text ts))) other j b c (omega arith) w)
one_fault first count text line other k j (LineAfter ts rest b e some) (LineAfter us left c f more) =
    let s = same_journals ts us rest left b.right c.right (omega arith) (sym b.is ∙ c.is) in
    (ap (λ (xs : List Told). first + length (lines_of (journals_text xs))) s.are, refl)
