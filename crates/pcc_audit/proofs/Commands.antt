-- The commands of a journal, one after another.
use Rattle.std.proofs.Common.{◌≡◌, ◌≢◌, inl, inr, ℕ, zero, suc, ◌+◌, ◌-◌, ◌<◌, ◌≤◌, List, [], ◌∷◌, ◌++◌, length, slice_index_or, take, refl, sym, ap, ◌∙◌, subst, arith}
use Rattle.std.specs.Prelude.{Option, Some, None, IfSome}
use Rattle.std.proofs.lemmas.Bool.{cases_lt}
use Rattle.std.proofs.lemmas.List.{get_or_default}
use Rattle.pcc_history.specs.Devices.{Device}
use Rattle.pcc_history.specs.Histories.{Legal, space_after, state_after}
use Rattle.rate_limit.specs.declared.Times.{Times}
use Rattle.pcc_journal.specs.Records.{exchange_of_record, exchanges_of, times_of, times_of_record}
use Rattle.pcc_journal.specs.declared.record.Record.{Record}
use Rattle.pcc_journal.specs.declared.record.Pending.{Pending}
use Rattle.pcc_journal.specs.declared.text.JournalHead.{JournalHead}
use Rattle.cpc_package.specs.declared.binding.Binding.{Binding}
use Rattle.journal_reading.specs.declared.told.Told.{Told}
use Rattle.pcc_audit.specs.declared.verdict.Flaw.{Flaw}
use Rattle.pcc_audit.specs.declared.verdict.Flaw.TheVariants.{Head, Size, Limits, Touched, Range, Legal as Reply}
use Rattle.pcc_audit.specs.declared.verdict.Verdict.TheVariants.{Yes, No}
use Rattle.pcc_audit.specs.Verdicts.{AreFlawless, Board, FirstFlaw, Flawless, IsVerdict, WrongHead, WrongPending, WrongRecord}
use Rattle.pcc_audit.specs.Judged.{Judged, PendingJudged, SentJudged}

-- ---- one more record

take_next : (rs : List Record) (n : ℕ) (d : Record) → n < length rs → take (suc n) rs ≡ take n rs ++ slice_index_or rs n d ∷ []
take_next [] n d lt = absurd (omega arith)
take_next (r ∷ rs) zero d lt = refl
take_next (r ∷ rs) (suc n) d lt = ap (λ (x : List Record). r ∷ x) (take_next rs n d (omega arith))

pub take_more : (rs : List Record) (n : ℕ) (d : Record) → n < length rs → take (n + 1) rs ≡ take n rs ++ slice_index_or rs n d ∷ []
take_more rs n d lt = let e : n + 1 ≡ suc n = omega arith in ap (λ (m : ℕ). take m rs) e ∙ take_next rs n d lt

space_last : (rs : List Record) (r : Record) (opening : List ℕ) → space_after opening (exchanges_of (rs ++ r ∷ [])) ≡ r.output
space_last [] r opening = refl
space_last (x ∷ rs) r opening = space_last rs r x.output

state_last : (rs : List Record) (r : Record) (exec : Device) (state : List ℕ)
    → state_after exec state (exchanges_of (rs ++ r ∷ [])) ≡ (exec (state_after exec state (exchanges_of rs)) r.code r.input).state
state_last [] r exec state = refl
state_last (x ∷ rs) r exec state = state_last rs r exec (exec state x.code x.input).state

times_last : (rs : List Record) (r : Record) → times_of (rs ++ r ∷ []) ≡ times_of rs ++ times_of_record r ∷ []
times_last [] r = refl
times_last (x ∷ rs) r = ap (λ (t : List Times). times_of_record x ∷ t) (times_last rs r)

pub opening_is : (opening : List ℕ) (rs : List Record) (place : ℕ) → place ≡ 0 → opening ≡ space_after opening (exchanges_of (take place rs))
opening_is opening rs place e = subst (λ (n : ℕ). opening ≡ space_after opening (exchanges_of (take n rs))) (sym e) refl

pub output_is : (opening : List ℕ) (rs : List Record) (place : ℕ) (d : Record) → place ≢ 0 → place ≤ length rs
    → (slice_index_or rs (place - 1) d).output ≡ space_after opening (exchanges_of (take place rs))
output_is opening rs place d some le =
    let lt : place - 1 < length rs = omega arith in
    let e : place - 1 + 1 ≡ place = omega arith in
    let cut : take place rs ≡ take (place - 1) rs ++ slice_index_or rs (place - 1) d ∷ [] =
    ap (λ (n : ℕ). take n rs) (sym e) ∙ take_more rs (place - 1) d lt in
    sym (ap (λ (x : List Record). space_after opening (exchanges_of x)) cut ∙ space_last (take (place - 1) rs) (slice_index_or rs (place - 1) d) opening)

-- ---- the flaw of a command

pub size_flaw : (head : JournalHead) (cpus : List Binding) (times : List Times) (before : List ℕ) (exec : Device) (state : List ℕ) (r : Record)
    → (length r.input ≡ head.room → length r.output ≡ head.room → ⊥) → Judged head cpus times before exec state r (Some Size)
size_flaw head cpus times before exec state r h = λ x. h x.0 x.1

first_of : (size limits touched range legal : Type 0) (flaw : Option Flaw) → size → (flaw ≡ None → ⊥)
    → FirstFlaw (Unit {0}) limits touched range (Unit {0}) flaw → FirstFlaw size limits touched range legal flaw
first_of size limits touched range legal None s some h = absurd (some refl)
first_of size limits touched range legal (Some Head) s some h = h
first_of size limits touched range legal (Some Size) s some h = absurd (h tt)
first_of size limits touched range legal (Some Limits) s some h = (s, h.1)
first_of size limits touched range legal (Some Touched) s some h = (s, h.1, h.2)
first_of size limits touched range legal (Some Range) s some h = (s, h.1, h.2, h.3)
first_of size limits touched range legal (Some Reply) s some h = absurd (h.4 tt)

no_flaw : (size limits touched range legal : Type 0) → size → legal
    → FirstFlaw (Unit {0}) limits touched range (Unit {0}) None → FirstFlaw size limits touched range legal None
no_flaw size limits touched range legal s l h = (s, h.1, h.2, h.3, l)

pub reply_has : (head : JournalHead) (cpus : List Binding) (times : List Times) (before : List ℕ) (exec : Device) (state : List ℕ) (r : Record)
    → length r.input ≡ head.room → length r.output ≡ head.room
    → (Legal exec head.reports state (exchange_of_record r ∷ []) → ⊥)
    → SentJudged head cpus times before r.code r.input r.post (Unit {0}) (Unit {0}) None
    → Judged head cpus times before exec state r (Some Reply)
reply_has head cpus times before exec state r i o l h = ((i, o), h.1, h.2, h.3, l)

pub none_has : (head : JournalHead) (cpus : List Binding) (times : List Times) (before : List ℕ) (exec : Device) (state : List ℕ) (r : Record)
    → length r.input ≡ head.room → length r.output ≡ head.room
    → Legal exec head.reports state (exchange_of_record r ∷ [])
    → SentJudged head cpus times before r.code r.input r.post (Unit {0}) (Unit {0}) None
    → Judged head cpus times before exec state r None
none_has head cpus times before exec state r i o l h = ((i, o), h.1, h.2, h.3, l)

pub sent_has : (head : JournalHead) (cpus : List Binding) (times : List Times) (before : List ℕ) (exec : Device) (state : List ℕ) (r : Record)
    (flaw : Flaw) → length r.input ≡ head.room → length r.output ≡ head.room
    → SentJudged head cpus times before r.code r.input r.post (Unit {0}) (Unit {0}) (Some flaw)
    → Judged head cpus times before exec state r (Some flaw)
sent_has head cpus times before exec state r flaw i o h = first_of _ _ _ _ _ (Some flaw) (i, o) (λ e. cc) h

pub ruleset of_record = (size_flaw, sent_has, reply_has, none_has)

pub pending_size : (head : JournalHead) (cpus : List Binding) (times : List Times) (before : List ℕ) (p : Pending) → length p.input ≢ head.room
    → PendingJudged head cpus times before p (Some Size)
pending_size head cpus times before p h = h

all_of : (size limits touched range : Type 0) (flaw : Option Flaw) → size → FirstFlaw (Unit {0}) limits touched range (Unit {0}) flaw
    → FirstFlaw size limits touched range (Unit {0}) flaw
all_of size limits touched range None s h = (s, h.1, h.2, h.3, tt)
all_of size limits touched range (Some Head) s h = h
all_of size limits touched range (Some Size) s h = absurd (h tt)
all_of size limits touched range (Some Limits) s h = (s, h.1)
all_of size limits touched range (Some Touched) s h = (s, h.1, h.2)
all_of size limits touched range (Some Range) s h = (s, h.1, h.2, h.3)
all_of size limits touched range (Some Reply) s h = absurd (h.4 tt)

pub pending_has : (head : JournalHead) (cpus : List Binding) (times : List Times) (before : List ℕ) (p : Pending) (flaw : Option Flaw)
    → length p.input ≡ head.room → SentJudged head cpus times before p.code p.input p.post (Unit {0}) (Unit {0}) flaw
    → PendingJudged head cpus times before p flaw
pending_has head cpus times before p flaw i h = all_of _ _ _ _ flaw i h

-- ---- the walk over the records

-- the first k records have no flaw; this is what they leave
pub record Walked (b : Board) (rs : List Record) (times : List Times) (state : List ℕ) (k : ℕ) : Type 0 where
  pub times_are : times ≡ times_of (take k rs)
  pub state_is : state ≡ state_after b.exec b.start (exchanges_of (take k rs))
  pub none : AreFlawless b rs k

pub walked_start : (b : Board) (rs : List Record) (times : List Times) → times ≡ [] → Walked b rs times b.start 0
walked_start b rs times e = record { times_are = e; state_is = refl; none = λ k lt. absurd (omega arith) }

pub walked_room : (b : Board) (rs : List Record) (times : List Times) (state : List ℕ) (k : ℕ) → length b.opening ≡ b.head.room → k ≤ length rs
    → Walked b rs times state k → length (space_after b.opening (exchanges_of (take k rs))) ≡ b.head.room
walked_room b rs times state zero long le w = long
walked_room b [] times state (suc k) long le w = absurd (omega arith)
walked_room b (r ∷ rs) times state (suc k) long le w =
    let lt : k < suc (length rs) = omega arith in
    let f = w.none k (omega arith) r in
    let cut : take (suc k) (r ∷ rs) ≡ take k (r ∷ rs) ++ slice_index_or (r ∷ rs) k r ∷ [] = take_next (r ∷ rs) k r lt in
    ap (λ (x : List Record). length (space_after b.opening (exchanges_of x))) cut
    ∙ ap (λ (x : List ℕ). length x) (space_last (take k (r ∷ rs)) (slice_index_or (r ∷ rs) k r) b.opening) ∙ f.0.1

-- what is judged of the record with number k is its flaw
judged_at : (b : Board) (rs : List Record) (times : List Times) (state : List ℕ) (k : ℕ) (d : Record) (flaw : Option Flaw) → k < length rs
    → Judged b.head b.cpus times (space_after b.opening (exchanges_of (take k rs))) b.exec state (slice_index_or rs k d) flaw
    → Walked b rs times state k → (e : Record)
    → Judged b.head b.cpus (times_of (take k rs)) (space_after b.opening (exchanges_of (take k rs))) b.exec
    (state_after b.exec b.start (exchanges_of (take k rs))) (slice_index_or rs k e) flaw
judged_at b rs times state k d flaw lt h w e =
    let before : List ℕ = space_after b.opening (exchanges_of (take k rs)) in
    let h1 : Judged b.head b.cpus (times_of (take k rs)) before b.exec state (slice_index_or rs k d) flaw =
    subst (λ (t : List Times). Judged b.head b.cpus t before b.exec state (slice_index_or rs k d) flaw) w.times_are h in
    let h2 : Judged b.head b.cpus (times_of (take k rs)) before b.exec (state_after b.exec b.start (exchanges_of (take k rs)))
    (slice_index_or rs k d) flaw =
    subst (λ (s : List ℕ). Judged b.head b.cpus (times_of (take k rs)) before b.exec s (slice_index_or rs k d) flaw) w.state_is h1 in
    subst (λ (r : Record). Judged b.head b.cpus (times_of (take k rs)) before b.exec (state_after b.exec b.start (exchanges_of (take k rs))) r flaw)
    (get_or_default rs k d e lt) h2

pub walked_more : (b : Board) (rs : List Record) (times next : List Times) (state left : List ℕ) (k : ℕ) (d : Record) → k < length rs
    → Judged b.head b.cpus times (space_after b.opening (exchanges_of (take k rs))) b.exec state (slice_index_or rs k d) None
    → next ≡ times ++ times_of_record (slice_index_or rs k d) ∷ []
    → left ≡ (b.exec state (slice_index_or rs k d).code (slice_index_or rs k d).input).state
    → Walked b rs times state k → Walked b rs next left (k + 1)
walked_more b rs times next state left k d lt h e f w =
    let r : Record = slice_index_or rs k d in
    let cut : take (k + 1) rs ≡ take k rs ++ r ∷ [] = take_more rs k d lt in
    record {
      times_are =
          e ∙ ap (λ (t : List Times). t ++ times_of_record r ∷ []) w.times_are ∙ sym (times_last (take k rs) r)
          ∙ ap times_of (sym cut);
      state_is =
          f ∙ ap (λ (s : List ℕ). (b.exec s r.code r.input).state) w.state_is ∙ sym (state_last (take k rs) r b.exec b.start)
          ∙ ap (λ (x : List Record). state_after b.exec b.start (exchanges_of x)) (sym cut);
      none = λ j below c. elim (cases_lt j k) [
        | inl x ↦ w.none j x c
        | inr x ↦
            let same : k ≡ j = omega arith in
            subst (λ (n : ℕ). Judged b.head b.cpus (times_of (take n rs)) (space_after b.opening (exchanges_of (take n rs))) b.exec
            (state_after b.exec b.start (exchanges_of (take n rs))) (slice_index_or rs n c) None) same
            (judged_at b rs times state k d None lt h w c)
      ];
    }

-- ---- the verdict

pub wrong_head : (b : Board) (t : Told) → t.head ≢ b.head → IsVerdict b t (No 0 Head)
wrong_head b t h = WrongHead h

pub walked_out : (b : Board) (t : Told) (times : List Times) (state : List ℕ) (k : ℕ) (d : Record) (flaw : Flaw) → t.head ≡ b.head → k < length t.records
    → Judged b.head b.cpus times (space_after b.opening (exchanges_of (take k t.records))) b.exec state (slice_index_or t.records k d) (Some flaw)
    → Walked b t.records times state k → IsVerdict b t (No k flaw)
walked_out b t times state k d flaw e lt h w = WrongRecord e k flaw lt w.none (judged_at b t.records times state k d (Some flaw) lt h w)

take_whole : (rs : List Record) → take (length rs) rs ≡ rs
take_whole [] = refl
take_whole (r ∷ rs) = ap (λ (x : List Record). r ∷ x) (take_whole rs)

-- what is judged of the pending command is its flaw
pending_at : (b : Board) (rs : List Record) (times : List Times) (state : List ℕ) (p : Pending) (flaw : Option Flaw) (k : ℕ) → k ≡ length rs
    → PendingJudged b.head b.cpus times (space_after b.opening (exchanges_of (take k rs))) p flaw
    → Walked b rs times state k → PendingJudged b.head b.cpus (times_of rs) (space_after b.opening (exchanges_of rs)) p flaw
pending_at b rs times state p flaw k e h w =
    let whole : take k rs ≡ rs = ap (λ (n : ℕ). take n rs) e ∙ take_whole rs in
    let h1 : PendingJudged b.head b.cpus (times_of (take k rs)) (space_after b.opening (exchanges_of (take k rs))) p flaw =
    subst (λ (t : List Times). PendingJudged b.head b.cpus t (space_after b.opening (exchanges_of (take k rs))) p flaw) w.times_are h in
    subst (λ (x : List Record). PendingJudged b.head b.cpus (times_of x) (space_after b.opening (exchanges_of x)) p flaw) whole h1

all_none : (b : Board) (rs : List Record) (k : ℕ) → k ≡ length rs → AreFlawless b rs k → AreFlawless b rs (length rs)
all_none b rs k e h = subst (λ (n : ℕ). AreFlawless b rs n) e h

pub walked_pending : (b : Board) (t : Told) (times : List Times) (state : List ℕ) (p : Pending) (flaw : Flaw) (k : ℕ) → t.head ≡ b.head
    → k ≡ length t.records → t.pending ≡ Some p
    → PendingJudged b.head b.cpus times (space_after b.opening (exchanges_of (take k t.records))) p (Some flaw)
    → Walked b t.records times state k → IsVerdict b t (No k flaw)
walked_pending b t times state p flaw k e f is h w =
    subst (λ (n : ℕ). IsVerdict b t (No n flaw)) (sym f)
    (WrongPending e (all_none b t.records k f w.none) p flaw is (pending_at b t.records times state p (Some flaw) k f h w))

some_right : (b : Board) (rs : List Record) (o : Option Pending) (p : Pending) → o ≡ Some p
    → PendingJudged b.head b.cpus (times_of rs) (space_after b.opening (exchanges_of rs)) p None
    → IfSome o (λ q. PendingJudged b.head b.cpus (times_of rs) (space_after b.opening (exchanges_of rs)) q None)
some_right b rs o p is h =
    subst (λ (x : Option Pending). IfSome x (λ q. PendingJudged b.head b.cpus (times_of rs) (space_after b.opening (exchanges_of rs)) q None)) (sym is) h

pub walked_right : (b : Board) (t : Told) (times : List Times) (state : List ℕ) (p : Pending) (k : ℕ) → t.head ≡ b.head
    → k ≡ length t.records → t.pending ≡ Some p
    → PendingJudged b.head b.cpus times (space_after b.opening (exchanges_of (take k t.records))) p None
    → Walked b t.records times state k → IsVerdict b t Yes
walked_right b t times state p k e f is h w =
    Flawless e (all_none b t.records k f w.none)
    (some_right b t.records t.pending p is (pending_at b t.records times state p None k f h w))

pub walked_end : (b : Board) (t : Told) (times : List Times) (state : List ℕ) (k : ℕ) → t.head ≡ b.head
    → k ≡ length t.records → t.pending ≡ None → Walked b t.records times state k → IsVerdict b t Yes
walked_end b t times state k e f is w =
    Flawless e (all_none b t.records k f w.none)
    (subst (λ (x : Option Pending). IfSome x (λ q. PendingJudged b.head b.cpus (times_of t.records) (space_after b.opening (exchanges_of t.records)) q None))
    (sym is) tt)

-- ---- the steps of the walk, by what its calls give

pub room_before : (b : Board) (rs : List Record) (times : List Times) (state : List ℕ) (k : ℕ) (x : List ℕ) → length b.opening ≡ b.head.room
    → k ≤ length rs → x ≡ space_after b.opening (exchanges_of (take k rs)) → Walked b rs times state k → length x ≡ b.head.room
room_before b rs times state k x long le e w = ap (λ (y : List ℕ). length y) e ∙ walked_room b rs times state k long le w

judged_as : (b : Board) (rs : List Record) (times ts : List Times) (state : List ℕ) (k : ℕ) (x : List ℕ) (r : Record) (found flaw : Option Flaw)
    → ts ≡ times → x ≡ space_after b.opening (exchanges_of (take k rs)) → r ≡ slice_index_or rs k r → found ≡ flaw
    → Judged b.head b.cpus ts x b.exec state r found
    → Judged b.head b.cpus times (space_after b.opening (exchanges_of (take k rs))) b.exec state (slice_index_or rs k r) flaw
judged_as b rs times ts state k x r found flaw a c d e h =
    let h1 : Judged b.head b.cpus times x b.exec state r found = subst (λ (t : List Times). Judged b.head b.cpus t x b.exec state r found) a h in
    let before : List ℕ = space_after b.opening (exchanges_of (take k rs)) in
    let h2 : Judged b.head b.cpus times before b.exec state r found =
    subst (λ (y : List ℕ). Judged b.head b.cpus times y b.exec state r found) c h1 in
    let h3 : Judged b.head b.cpus times before b.exec state (slice_index_or rs k r) found =
    subst (λ (q : Record). Judged b.head b.cpus times before b.exec state q found) d h2 in
    subst (λ (o : Option Flaw). Judged b.head b.cpus times before b.exec state (slice_index_or rs k r) o) e h3

pub step_out : (b : Board) (t : Told) (rs : List Record) (times ts : List Times) (state : List ℕ) (k : ℕ) (x : List ℕ) (r : Record)
    (found : Option Flaw) (flaw : Flaw) → rs ≡ t.records → t.head ≡ b.head → k < length rs → ts ≡ times
    → x ≡ space_after b.opening (exchanges_of (take k rs)) → r ≡ slice_index_or rs k r → found ≡ Some flaw
    → Judged b.head b.cpus ts x b.exec state r found → Walked b rs times state k → IsVerdict b t (No k flaw)
step_out b t rs times ts state k x r found flaw same e lt a c d f h w =
    let j = judged_as b rs times ts state k x r found (Some flaw) a c d f h in
    let W : List Record → Type 0 = λ q. k < length q
    → Judged b.head b.cpus times (space_after b.opening (exchanges_of (take k q))) b.exec state (slice_index_or q k r) (Some flaw)
    → Walked b q times state k → IsVerdict b t (No k flaw) in
    subst W (sym same) (λ lt2 j2 w2. walked_out b t times state k r flaw e lt2 j2 w2) lt j w

pub step_on : (b : Board) (rs : List Record) (times ts next : List Times) (state left : List ℕ) (k : ℕ) (x : List ℕ) (r : Record)
    (found : Option Flaw) → k < length rs → ts ≡ times → x ≡ space_after b.opening (exchanges_of (take k rs)) → r ≡ slice_index_or rs k r
    → found ≡ None → Judged b.head b.cpus ts x b.exec state r found → next ≡ times ++ times_of_record r ∷ []
    → left ≡ (b.exec state r.code r.input).state → Walked b rs times state k → Walked b rs next left (k + 1)
step_on b rs times ts next state left k x r found lt a c d f h e g w =
    walked_more b rs times next state left k r lt (judged_as b rs times ts state k x r found None a c d f h)
    (e ∙ ap (λ (q : Record). times ++ times_of_record q ∷ []) d) (g ∙ ap (λ (q : Record). (b.exec state q.code q.input).state) d) w

pub last_out : (b : Board) (t : Told) (rs : List Record) (times ts : List Times) (state : List ℕ) (k : ℕ) (x : List ℕ) (p : Pending)
    (found : Option Flaw) (flaw : Flaw) → rs ≡ t.records → t.head ≡ b.head → k ≡ length rs → ts ≡ times
    → x ≡ space_after b.opening (exchanges_of (take k rs)) → t.pending ≡ Some p → found ≡ Some flaw
    → PendingJudged b.head b.cpus ts x p found → Walked b rs times state k → IsVerdict b t (No k flaw)
last_out b t rs times ts state k x p found flaw same e l a c is f h w =
    let h1 : PendingJudged b.head b.cpus times x p found = subst (λ (q : List Times). PendingJudged b.head b.cpus q x p found) a h in
    let h2 = subst (λ (y : List ℕ). PendingJudged b.head b.cpus times y p found) c h1 in
    let h3 = subst (λ (o : Option Flaw). PendingJudged b.head b.cpus times (space_after b.opening (exchanges_of (take k rs))) p o) f h2 in
    let W : List Record → Type 0 = λ q. k ≡ length q
    → PendingJudged b.head b.cpus times (space_after b.opening (exchanges_of (take k q))) p (Some flaw)
    → Walked b q times state k → IsVerdict b t (No k flaw) in
    subst W (sym same) (λ l2 j2 w2. walked_pending b t times state p flaw k e l2 is j2 w2) l h3 w

pub last_right : (b : Board) (t : Told) (rs : List Record) (times ts : List Times) (state : List ℕ) (k : ℕ) (x : List ℕ) (p : Pending)
    (found : Option Flaw) → rs ≡ t.records → t.head ≡ b.head → k ≡ length rs → ts ≡ times
    → x ≡ space_after b.opening (exchanges_of (take k rs)) → t.pending ≡ Some p → found ≡ None
    → PendingJudged b.head b.cpus ts x p found → Walked b rs times state k → IsVerdict b t Yes
last_right b t rs times ts state k x p found same e l a c is f h w =
    let h1 : PendingJudged b.head b.cpus times x p found = subst (λ (q : List Times). PendingJudged b.head b.cpus q x p found) a h in
    let h2 = subst (λ (y : List ℕ). PendingJudged b.head b.cpus times y p found) c h1 in
    let h3 = subst (λ (o : Option Flaw). PendingJudged b.head b.cpus times (space_after b.opening (exchanges_of (take k rs))) p o) f h2 in
    let W : List Record → Type 0 = λ q. k ≡ length q
    → PendingJudged b.head b.cpus times (space_after b.opening (exchanges_of (take k q))) p None
    → Walked b q times state k → IsVerdict b t Yes in
    subst W (sym same) (λ l2 j2 w2. walked_right b t times state p k e l2 is j2 w2) l h3 w

pub end_right : (b : Board) (t : Told) (rs : List Record) (times : List Times) (state : List ℕ) (k : ℕ) → rs ≡ t.records → t.head ≡ b.head
    → k ≡ length rs → t.pending ≡ None → Walked b rs times state k → IsVerdict b t Yes
end_right b t rs times state k same e l is w =
    let W : List Record → Type 0 = λ q. k ≡ length q → Walked b q times state k → IsVerdict b t Yes in
    subst W (sym same) (λ l2 w2. walked_end b t times state k e l2 is w2) l w
