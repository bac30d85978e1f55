-- What it says of a caller that its calls are tied to its lines.
use Rattle.std.proofs.Common.{◌≡◌, ℕ, zero, suc, Bool, true, false, cond, List, [], ◌∷◌, length, map, refl, sym, ap, ◌∙◌, subst}
use Rattle.std.specs.Prelude.{Some}
use Rattle.std.specs.List.{slice_get}
use Rattle.std.proofs.lemmas.Option.{same_Some}
use Rattle.pcc_journal.specs.Events.{Event, Own, calls_of, is_call_of}
use Rattle.channel_headline.specs.After.{After, after_event, before_all}
use Rattle.channel_headline.specs.Lines.{CallLine, mine_of}
use Rattle.channel_headline.specs.Matches.{AllMatch, Matches, Placed, Tied, own_calls, placed}

abbrev events_in : List Placed → List Event
events_in ps = map (λ p. p.event) ps

one_more : (b : Bool) (p : Placed) (ps : List Placed) (es : List Event) → events_in ps ≡ es → events_in (cond b (p ∷ ps) ps) ≡ cond b (p.event ∷ es) es
one_more true p ps es h = ap (λ (v : List Event). p.event ∷ v) h
one_more false p ps es h = h

own_events : (caller : ℕ) (a : After) (es : List Event) → events_in (own_calls caller (placed a es)) ≡ calls_of es caller
own_events caller a [] = refl
own_events caller a (e ∷ es) =
    let next : After = after_event a e in
    one_more (is_call_of caller e) (record { event = e; before = a.space }) (own_calls caller (placed next es)) (calls_of es caller) (own_events caller next es)

matched_length : (ls : List CallLine) (ps : List Placed) → AllMatch ls ps → length (events_in ps) ≡ length ls
matched_length [] [] h = refl
matched_length [] (p ∷ ps) h = absurd h
matched_length (l ∷ ls) [] h = absurd h
matched_length (l ∷ ls) (p ∷ ps) h = ap suc (matched_length ls ps h.1)

none_match : (ps : List Placed) → AllMatch [] ps → ps ≡ []
none_match [] h = refl
none_match (p ∷ ps) h = absurd h

-- as many calls as lines
pub own_length : (caller : ℕ) (a : After) (es : List Event) (ls : List CallLine) → AllMatch ls (own_calls caller (placed a es)) → length (calls_of es caller) ≡ length ls
own_length caller a es ls h = ap (λ (v : List Event). length v) (sym (own_events caller a es)) ∙ matched_length ls (own_calls caller (placed a es)) h

pub owned : (opening : List ℕ) (lines : List CallLine) (events : List Event) → Tied opening lines events → (caller : ℕ)
    → (mine : List Event) × Own events caller mine × (length mine ≡ length (mine_of caller lines))
owned opening lines events h caller =
    let ps : List Placed = own_calls caller (placed (before_all opening) events) in
    (events_in ps, own_events caller (before_all opening) events, matched_length (mine_of caller lines) ps (h.own caller))

-- ---- by places

call_matches : (ls : List CallLine) (ps : List Placed) (i : ℕ) (p : Placed) → AllMatch ls ps → slice_get ps i ≡ Some p → (l : CallLine) × (slice_get ls i ≡ Some l) × Matches l p.before l.reply p.event
call_matches [] [] i p h e = absurd cc
call_matches [] (q ∷ ps) i p h e = absurd h
call_matches (l ∷ ls) [] i p h e = absurd cc
call_matches (l ∷ ls) (q ∷ ps) zero p h e = let P : Placed → Type 0 = λ x. Matches l x.before l.reply x.event in (l, refl, subst P (same_Some q p e) h.0)
call_matches (l ∷ ls) (q ∷ ps) (suc i) p h e = call_matches ls ps i p h.1 e

line_matches : (ls : List CallLine) (ps : List Placed) (i : ℕ) (l : CallLine) → AllMatch ls ps → slice_get ls i ≡ Some l → (p : Placed) × (slice_get ps i ≡ Some p) × Matches l p.before l.reply p.event
line_matches [] [] i l h e = absurd cc
line_matches [] (p ∷ ps) i l h e = absurd h
line_matches (k ∷ ls) [] i l h e = absurd h
line_matches (k ∷ ls) (p ∷ ps) zero l h e = let P : CallLine → Type 0 = λ x. Matches x p.before x.reply p.event in (p, refl, subst P (same_Some k l e) h.0)
line_matches (k ∷ ls) (p ∷ ps) (suc i) l h e = line_matches ls ps i l h.1 e

pub call_at : (opening : List ℕ) (lines : List CallLine) (events : List Event) → Tied opening lines events → (caller place : ℕ) (p : Placed)
    → slice_get (own_calls caller (placed (before_all opening) events)) place ≡ Some p → (l : CallLine) × (slice_get (mine_of caller lines) place ≡ Some l) × Matches l p.before l.reply p.event
call_at opening lines events h caller place p e = call_matches (mine_of caller lines) (own_calls caller (placed (before_all opening) events)) place p (h.own caller) e

pub line_at : (opening : List ℕ) (lines : List CallLine) (events : List Event) → Tied opening lines events → (caller place : ℕ) (l : CallLine)
    → slice_get (mine_of caller lines) place ≡ Some l → (p : Placed) × (slice_get (own_calls caller (placed (before_all opening) events)) place ≡ Some p) × Matches l p.before l.reply p.event
line_at opening lines events h caller place l e = line_matches (mine_of caller lines) (own_calls caller (placed (before_all opening) events)) place l (h.own caller) e

pub strangers : (opening : List ℕ) (lines : List CallLine) (events : List Event) → Tied opening lines events → (caller : ℕ) → mine_of caller lines ≡ [] → Own events caller []
strangers opening lines events h caller none =
    let ps : List Placed = own_calls caller (placed (before_all opening) events) in
    let P : List CallLine → Type 0 = λ v. AllMatch v ps in
    sym (ap events_in (none_match ps (subst P none (h.own caller)))) ∙ own_events caller (before_all opening) events
