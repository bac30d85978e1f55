-- Facts of events, readings and lines that stay when more are put last.
use Rattle.std.proofs.Common.{◌≡◌, ◌≤◌, ℕ, ◌+◌, Bool, true, false, cond, List, [], ◌∷◌, ◌++◌, length, map, zero, suc, refl, sym, ap, ◌∙◌, subst, arith}
use Rattle.std.specs.Prelude.{◌==◌, ◌&&◌, Option, Some, None}
use Rattle.std.specs.List.{AllByRecursion, filter}
use Rattle.std.proofs.lemmas.List.{append_assoc, append-nil, length-append, map-append}
use Rattle.std.proofs.lemmas.List.Elements.{filter-append}
use Rattle.std.proofs.lemmas.List.Concat.{flat_map-append}
use Rattle.pcc_journal.specs.Events.{Event, Answered, Lost, Drained, Completed, is_call_of}
use Rattle.channel_turns.specs.Replies.{Done, BadCode, TooLong, JournalFull, StillPending, TooSoon, TimedOut}
use Rattle.channel_headline.specs.After.{After, IsRead, IsReading, Rise, after_event, after_from, numbers_in, numbers_of}
use Rattle.channel_headline.specs.Asked.{LineReply, Refused, Replied}
use Rattle.channel_headline.specs.Causes.{EachAfter, HasCause, IsBlocked, IsFull, IsTooSoon, IsUnfit, Past, Terms}
use Rattle.channel_headline.specs.Lines.{CallLine, was_posted, was_too_soon, mine_of, soon_lines, soon_numbers}
use Rattle.channel_headline.specs.Matches.{AllMatch, Matches, Placed, own_calls, placed}

-- ---- what events leave

pub after-append : (a : After) (xs ys : List Event) → after_from a (xs ++ ys) ≡ after_from (after_from a xs) ys
after-append a [] ys = refl
after-append a (e ∷ es) ys = after-append (after_event a e) es ys

placed-append : (a : After) (xs ys : List Event) → placed a (xs ++ ys) ≡ placed a xs ++ placed (after_from a xs) ys
placed-append a [] ys = refl
placed-append a (e ∷ es) ys = let p : Placed = record { event = e; before = a.space } in ap (λ (v : List Placed). p ∷ v) (placed-append (after_event a e) es ys)

abbrev pub calls : ℕ → After → List Event → List Placed
calls caller a es = own_calls caller (placed a es)

calls-append : (caller : ℕ) (a : After) (xs ys : List Event) → calls caller a (xs ++ ys) ≡ calls caller a xs ++ calls caller (after_from a xs) ys
calls-append caller a xs ys =
    ap (own_calls caller) (placed-append a xs ys) ∙ filter-append (λ (p : Placed). is_call_of caller p.event) (placed a xs) (placed (after_from a xs) ys)

-- ---- matches

abbrev posted_by : ℕ → CallLine → Bool
posted_by caller l = was_posted l.reply && (l.caller == caller)

mine-append : (caller : ℕ) (xs ys : List CallLine) → mine_of caller (xs ++ ys) ≡ mine_of caller xs ++ mine_of caller ys
mine-append caller xs ys = filter-append (posted_by caller) xs ys

AllMatch-append : (gs : List CallLine) (bs : List Placed) (cs : List CallLine) (ds : List Placed) → AllMatch gs bs → AllMatch cs ds → AllMatch (gs ++ cs) (bs ++ ds)
AllMatch-append [] [] cs ds h k = k
AllMatch-append [] (b ∷ bs) cs ds h k = absurd h
AllMatch-append (a ∷ gs) [] cs ds h k = absurd h
AllMatch-append (a ∷ gs) (b ∷ bs) cs ds h k = (h.0, AllMatch-append gs bs cs ds h.1 k)

pub one_match : (b : Bool) (l : CallLine) (p : Placed) → Matches l p.before l.reply p.event → AllMatch (cond b (l ∷ []) []) (cond b (p ∷ []) [])
one_match true l p h = (h, tt)
one_match false l p h = tt

-- a line and its call
pub match_more : (caller : ℕ) (a : After) (lines : List CallLine) (es : List Event) (l : CallLine) (e : Event) → AllMatch (mine_of caller lines) (calls caller a es)
    → AllMatch (mine_of caller (l ∷ [])) (calls caller (after_from a es) (e ∷ [])) → AllMatch (mine_of caller (lines ++ l ∷ [])) (calls caller a (es ++ e ∷ []))
match_more caller a lines es l e h k =
    let P : List CallLine → Type 0 = λ v. AllMatch v (calls caller a (es ++ e ∷ [])) in
    let Q : List Placed → Type 0 = λ v. AllMatch (mine_of caller lines ++ mine_of caller (l ∷ [])) v in
    let both : AllMatch (mine_of caller lines ++ mine_of caller (l ∷ [])) (calls caller a es ++ calls caller (after_from a es) (e ∷ [])) =
    AllMatch-append (mine_of caller lines) (calls caller a es) (mine_of caller (l ∷ [])) (calls caller (after_from a es) (e ∷ [])) h k in
    subst P (sym (mine-append caller lines (l ∷ []))) (subst Q (sym (calls-append caller a es (e ∷ []))) both)

-- a line that posted nothing
pub match_quiet : (caller : ℕ) (lines : List CallLine) (l : CallLine) (ps : List Placed) → was_posted l.reply ≡ false → AllMatch (mine_of caller lines) ps → AllMatch (mine_of caller (lines ++ l ∷ [])) ps
match_quiet caller lines l ps e h =
    let P : List CallLine → Type 0 = λ v. AllMatch v ps in
    let none : mine_of caller (l ∷ []) ≡ [] = ap (λ (b : Bool). cond (b && (l.caller == caller)) (l ∷ []) []) e in
    let same : mine_of caller (lines ++ l ∷ []) ≡ mine_of caller lines = mine-append caller lines (l ∷ []) ∙ ap (λ (v : List CallLine). mine_of caller lines ++ v) none ∙ append-nil (mine_of caller lines) in
    subst P (sym same) h

-- a completion that comes late
pub match_drained : (caller : ℕ) (a : After) (ls : List CallLine) (es : List Event) (c : Completed) → AllMatch ls (calls caller a es) → AllMatch ls (calls caller a (es ++ Drained c ∷ []))
match_drained caller a ls es c h =
    let P : List Placed → Type 0 = AllMatch ls in
    let same : calls caller a (es ++ Drained c ∷ []) ≡ calls caller a es = calls-append caller a es (Drained c ∷ []) ∙ append-nil (calls caller a es) in
    subst P (sym same) h

-- ---- numbers that rise

pub rise_higher : (low : ℕ) (ns : List ℕ) (high more : ℕ) → Rise low ns high → high ≤ more → Rise low ns more
rise_higher low [] high more h le = omega arith
rise_higher low (n ∷ ns) high more h le = (h.0, rise_higher (n + 1) ns high more h.1 le)

rise_lower : (less low : ℕ) (ns : List ℕ) (high : ℕ) → less ≤ low → Rise low ns high → Rise less ns high
rise_lower less low [] high le h = omega arith
rise_lower less low (n ∷ ns) high le h = let first : low ≤ n = h.0 in (omega arith, h.1)

pub rise_more : (low : ℕ) (ns : List ℕ) (mid : ℕ) (ms : List ℕ) (high : ℕ) → Rise low ns mid → Rise mid ms high → Rise low (ns ++ ms) high
rise_more low [] mid ms high h k = rise_lower low mid ms high h k
rise_more low (n ∷ ns) mid ms high h k = (h.0, rise_more (n + 1) ns mid ms high h.1 k)

pub rise_events : (low : ℕ) (es : List Event) (e : Event) (mid high : ℕ) → Rise low (numbers_in es) mid → Rise mid (numbers_of e) high → Rise low (numbers_in (es ++ e ∷ [])) high
rise_events low es e mid high h k =
    let P : List ℕ → Type 0 = λ v. Rise low v high in
    let same : numbers_in (es ++ e ∷ []) ≡ numbers_in es ++ numbers_of e = flat_map-append numbers_of es (e ∷ []) ∙ ap (λ (v : List ℕ). numbers_in es ++ v) (append-nil (numbers_of e)) in
    subst P (sym same) (rise_more low (numbers_in es) mid (numbers_of e) high h k)

-- ---- readings

pub reading-append : (rs qs : List ℕ) (k x : ℕ) → IsReading rs k x → IsReading (rs ++ qs) k x
reading-append [] qs k x e = absurd cc
reading-append (r ∷ rs) qs zero x e = e
reading-append (r ∷ rs) qs (suc k) x e = reading-append rs qs k x e

pub reading_first : (rs : List ℕ) (x : ℕ) (qs : List ℕ) → IsReading (rs ++ x ∷ qs) (length rs) x
reading_first [] x qs = refl
reading_first (r ∷ rs) x qs = reading_first rs x qs

pub reading_second : (rs : List ℕ) (x y : ℕ) (qs : List ℕ) → IsReading (rs ++ x ∷ y ∷ qs) (length rs + 1) y
reading_second [] x y qs = refl
reading_second (r ∷ rs) x y qs =
    let P : ℕ → Type 0 = λ k. IsReading (r ∷ rs ++ x ∷ y ∷ qs) k y in
    let e : suc (length rs + 1) ≡ suc (length rs) + 1 = omega arith in
    subst P e (reading_second rs x y qs)

read-append : (rs qs : List ℕ) (e : Event) → IsRead rs e → IsRead (rs ++ qs) e
read-append rs qs (Answered p c) h = (reading-append rs qs p.post_number p.post h.0, reading-append rs qs c.done_number c.done h.1)
read-append rs qs (Lost p looks) h = reading-append rs qs p.post_number p.post h
read-append rs qs (Drained c) h = reading-append rs qs c.done_number c.done h

pub all_read : (rs qs : List ℕ) (es : List Event) → AllByRecursion (IsRead rs) es → AllByRecursion (IsRead (rs ++ qs)) es
all_read rs qs [] h = tt
all_read rs qs (e ∷ es) h = (read-append rs qs e h.0, all_read rs qs es h.1)

pub all_last : (rs : List ℕ) (es : List Event) (e : Event) → AllByRecursion (IsRead rs) es → IsRead rs e → AllByRecursion (IsRead rs) (es ++ e ∷ [])
all_last rs [] e h k = (k, tt)
all_last rs (x ∷ es) e h k = (h.0, all_last rs es e h.1 k)

-- ---- lines that were answered too soon

numbers-append : (caller : ℕ) (xs ys : List CallLine) → soon_numbers caller (xs ++ ys) ≡ soon_numbers caller xs ++ soon_numbers caller ys
numbers-append caller xs ys =
    let by : CallLine → Bool = λ l. was_too_soon l.reply && (l.caller == caller) in
    ap (λ (v : List CallLine). map (λ (l : CallLine). l.number) v) (filter-append by xs ys) ∙ map-append (λ (l : CallLine). l.number) (filter by xs) (filter by ys)

-- a line with another reply
pub soon_other : (caller : ℕ) (lines : List CallLine) (l : CallLine) (high more : ℕ) → was_too_soon l.reply ≡ false → high ≤ more → Rise 0 (soon_numbers caller lines) high → Rise 0 (soon_numbers caller (lines ++ l ∷ [])) more
soon_other caller lines l high more e le h =
    let P : List ℕ → Type 0 = λ v. Rise 0 v more in
    let none : soon_numbers caller (l ∷ []) ≡ [] = ap (λ (b : Bool). map (λ (x : CallLine). x.number) (cond (b && (l.caller == caller)) (l ∷ []) [])) e in
    let same : soon_numbers caller (lines ++ l ∷ []) ≡ soon_numbers caller lines = numbers-append caller lines (l ∷ []) ∙ ap (λ (v : List ℕ). soon_numbers caller lines ++ v) none ∙ append-nil (soon_numbers caller lines) in
    subst P (sym same) (rise_higher 0 (soon_numbers caller lines) high more h le)

one_number : (b : Bool) (l : CallLine) (high : ℕ) → l.number ≡ high → Rise high (map (λ (x : CallLine). x.number) (cond b (l ∷ []) [])) (high + 1)
one_number true l high e = (omega arith, omega arith)
one_number false l high e = omega arith

-- a line with such a reply has the next number
pub soon_more : (caller : ℕ) (lines : List CallLine) (l : CallLine) (high : ℕ) → was_too_soon l.reply ≡ true → l.number ≡ high → Rise 0 (soon_numbers caller lines) high → Rise 0 (soon_numbers caller (lines ++ l ∷ [])) (high + 1)
soon_more caller lines l high e at h =
    let P : List ℕ → Type 0 = λ v. Rise 0 v (high + 1) in
    let Q : Bool → Type 0 = λ b. Rise high (map (λ (x : CallLine). x.number) (cond (b && (l.caller == caller)) (l ∷ []) [])) (high + 1) in
    let one : Rise high (soon_numbers caller (l ∷ [])) (high + 1) = subst Q (sym e) (one_number (l.caller == caller) l high at) in
    subst P (sym (numbers-append caller lines (l ∷ []))) (rise_more 0 (soon_numbers caller lines) high (soon_numbers caller (l ∷ [])) (high + 1) h one)

pub soon_count : (lines : List CallLine) (l : CallLine) → length (soon_lines (lines ++ l ∷ [])) ≡ length (soon_lines lines) + length (soon_lines (l ∷ []))
soon_count lines l =
    let by : CallLine → Bool = λ x. was_too_soon x.reply in
    ap (λ (v : List CallLine). length v) (filter-append by lines (l ∷ [])) ∙ length-append (soon_lines lines) (soon_lines (l ∷ []))

-- ---- causes

abbrev past-append : (es fs : List Event) (earlier : List CallLine) (l : CallLine) → Past es earlier l → Past (es ++ fs) earlier l
past-append es fs earlier l m =
    record { past = m.past; later = m.later ++ fs; parts = ap (λ (v : List Event). v ++ fs) m.parts ∙ append_assoc m.past m.later fs; own = m.own }

pub cause-append : (t : Terms) (rs qs : List ℕ) (es fs : List Event) (earlier : List CallLine) (l : CallLine) (r : Option LineReply)
    → HasCause t rs es earlier l r → HasCause t (rs ++ qs) (es ++ fs) earlier l r
cause-append t rs qs es fs earlier l None h = h
cause-append t rs qs es fs earlier l (Some (Replied (Done error output))) h = h
cause-append t rs qs es fs earlier l (Some (Replied (BadCode code))) h = h
cause-append t rs qs es fs earlier l (Some (Replied (TooLong len room))) h = h
cause-append t rs qs es fs earlier l (Some (Replied JournalFull)) h =
    let old : IsFull es earlier l = h.1 in
    let new : IsFull (es ++ fs) earlier l = record { moment = past-append es fs earlier l old.moment; full = old.full } in
    (h.0, new)
cause-append t rs qs es fs earlier l (Some (Replied (StillPending looks))) h =
    let old : IsBlocked t.opening es earlier l = h.2 in
    let new : IsBlocked t.opening (es ++ fs) earlier l = record { moment = past-append es fs earlier l old.moment; post = old.post; flies = old.flies } in
    (h.0, h.1, new)
cause-append t rs qs es fs earlier l (Some (Replied (TooSoon now earliest))) h =
    let old : IsTooSoon t rs es earlier l now earliest = h.1 in
    let new : IsTooSoon t (rs ++ qs) (es ++ fs) earlier l now earliest = record {
      moment = past-append es fs earlier l old.moment;
      quiet = old.quiet;
      fits = old.fits;
      earliest_is = old.earliest_is;
      soon = old.soon;
      read = reading-append rs qs l.number now old.read;
      above = old.above;
    } in
    (h.0, new)
cause-append t rs qs es fs earlier l (Some (Replied (TimedOut looks))) h = h
cause-append t rs qs es fs earlier l (Some (Refused why)) h =
    let old : IsUnfit t.opening es earlier l why = h.1 in
    let new : IsUnfit t.opening (es ++ fs) earlier l why = record { moment = past-append es fs earlier l old.moment; quiet = old.quiet; fault = old.fault } in
    (h.0, new)

pub each_as : (P Q : List CallLine → CallLine → Type 0) → ((b : List CallLine) (l : CallLine) → P b l → Q b l) → (b ls : List CallLine) → EachAfter P b ls → EachAfter Q b ls
each_as P Q f b [] h = tt
each_as P Q f b (l ∷ ls) h = (f b l h.0, each_as P Q f (b ++ l ∷ []) ls h.1)

pub each_last : (P : List CallLine → CallLine → Type 0) (b ls : List CallLine) (l : CallLine) → EachAfter P b ls → P (b ++ ls) l → EachAfter P b (ls ++ l ∷ [])
each_last P b [] l h k = let R : List CallLine → Type 0 = λ v. P v l in (subst R (append-nil b) k, tt)
each_last P b (x ∷ ls) l h k =
    let R : List CallLine → Type 0 = λ v. P v l in
    (h.0, each_last P (b ++ x ∷ []) ls l h.1 (subst R (sym (append_assoc b (x ∷ []) ls)) k))
