use Rattle.std.proofs.Common.{◌≡◌, ◌≤◌, ◌<◌, ℕ, ◌+◌, List, [], ◌∷◌, ◌++◌, length, slice_index_or, suc, refl, sym, ap, ◌∙◌, subst, ◌⊎◌, inl, inr, arith}
use Rattle.std.specs.Prelude.{Option, Some, None, false}
use Rattle.rate_limit.specs.RateLimits.{earliest_of}
use Rattle.channel_headline.specs.After.{after_events}
use Rattle.std.proofs.lemmas.Option.{same_Some}
use Rattle.pcc_gas.specs.Changes.{with_changes}
use Rattle.pcc_gas.specs.Fields.{field_value}
use Rattle.pcc_history.specs.Channel.{over}
use Rattle.pcc_journal.specs.Events.{Event, Answered, Lost, calls_of, post_count}
use Rattle.cppc_device.specs.Worked.{half_bytes}
use Rattle.cppc_calls.specs.Wishes.{wish_fault, with_wish}
use Rattle.cppc_calls.specs.declared.wish.SetRefusal.TheVariants.{BelowLowest, TooWide}
use Rattle.channel_headline.specs.Worked.{desires}
use Rattle.pcc_journal.proofs.EventsGrow.{post_count-append}
use Rattle.channel_core.specs.declared.answers.CallRefusal.TheVariants as refusal
use Rattle.channel_headline.proofs.worked.worked_lies.Goals as goal

apart : (m n : ℕ) → m < n → m ≡ n → ⊥
apart m n lt e = omega arith

apart_below : (m n : ℕ) → n < m → m ≡ n → ⊥
apart_below m n lt e = omega arith

heads : (xs ys : List ℕ) → slice_index_or xs 0 0 < slice_index_or ys 0 0 → xs ≡ ys → ⊥
heads xs ys lt e = apart (slice_index_or xs 0 0) (slice_index_or ys 0 0) lt (ap (λ (v : List ℕ). slice_index_or v 0 0) e)

abbrev IsNothing : {X : Type 0} → Option X → Type 0
IsNothing None = Unit {0}
IsNothing (Some r) = ⊥

something : {X : Type 0} (x : X) → None ≡ Some x → ⊥
something x e = subst IsNothing e tt

pub returns-clause-nothing_recorded : goal.returns-clause-nothing_recorded
returns-clause-nothing_recorded c = λ h. h.tied.own 0

pub returns-clause-other_caller : goal.returns-clause-other_caller
returns-clause-other_caller c = λ h. h.tied.own 7

pub returns-clause-twice : goal.returns-clause-twice
returns-clause-twice c = λ h. (h.tied.own 0).1

pub returns-clause-vanished : goal.returns-clause-vanished
returns-clause-vanished c = λ h. h.tied.own 0

pub returns-clause-marked_timely : goal.returns-clause-marked_timely
returns-clause-marked_timely c = λ h. (h.tied.own 0).0

pub returns-clause-marked_late : goal.returns-clause-marked_late
returns-clause-marked_late c = λ h. (h.tied.own 0).0

pub returns-clause-swapped_replies : goal.returns-clause-swapped_replies
returns-clause-swapped_replies c = λ h. heads (0 ∷ 0 ∷ []) (1 ∷ 2 ∷ []) (omega arith) (h.tied.own 0).0.2

pub returns-clause-impatient : goal.returns-clause-impatient
returns-clause-impatient c = λ h. apart 2 3 (omega arith) (h.tied.own 0).0.1

pub returns-clause-refused_all : goal.returns-clause-refused_all
returns-clause-refused_all c = λ h. something (refusal.BadCode 16) h.causes.0

pub returns-clause-short_enough : goal.returns-clause-short_enough
returns-clause-short_enough c = λ h. something (refusal.TooLong 2 2) h.causes.0

pub returns-clause-other_bytes : goal.returns-clause-other_bytes
returns-clause-other_bytes c = λ h. heads (1 ∷ 2 ∷ []) (9 ∷ 2 ∷ []) (omega arith) (h.tied.own 0).0.0.2

pub returns-clause-one_look : goal.returns-clause-one_look
returns-clause-one_look c = λ h. apart 1 3 (omega arith) (h.tied.own 0).0.2

few_posts : (events past later : List Event) → events ≡ past ++ later → post_count past ≤ post_count events
few_posts events past later e = let all : post_count events ≡ post_count past + post_count later = ap post_count e ∙ post_count-append past later in omega (arith, all)

pub returns-clause-not_full : goal.returns-clause-not_full
returns-clause-not_full c = λ h. let m = h.causes.0.1.moment in let le : post_count m.past ≤ 0 = few_posts [] m.past m.later m.parts in let full : post_count m.past ≡ 4096 = h.causes.0.1.full in omega (arith, le, full)

no_past : (past later : List Event) → [] ≡ past ++ later → past ≡ []
no_past [] later is = refl
no_past (x ∷ past) later is = absurd cc

-- what begins a list of one event is nothing or all of it
one_past : (e : Event) (past later : List Event) → e ∷ [] ≡ past ++ later → (past ≡ []) ⊎ (past ≡ e ∷ [])
one_past e [] later is = inl refl
one_past e (x ∷ []) later is = let same : e ≡ x = cc in inr (ap (λ (v : Event). v ∷ []) (sym same))
one_past e (x ∷ y ∷ ys) later is =
    let long : 1 ≡ suc (suc (length (ys ++ later))) = ap (λ (v : List Event). length v) is in absurd (omega (arith, long))

abbrev first_event : Event
first_event =
    Answered (record { caller = 0; code = 16; input = 1 ∷ 2 ∷ []; post = 0; post_number = 0 })
    (record { error = false; output = 0 ∷ 0 ∷ []; done = 10; done_number = 1 })

abbrev lost_event : Event
lost_event = Lost (record { caller = 0; code = 16; input = 1 ∷ 0 ∷ []; post = 0; post_number = 0 }) 3

pub returns-clause-not_blocked : goal.returns-clause-not_blocked
returns-clause-not_blocked c = λ h.
    let b = h.causes.1.0.2 in
    let m = b.moment in
    let Blocked : List Event → Type 0 = λ v. (after_events (0 ∷ 0 ∷ []) v).flight ≡ Some b.post in
    elim (one_past first_event m.past m.later m.parts) [
      | inl none ↦ something b.post (subst Blocked none b.flies)
      | inr one ↦ something b.post (subst Blocked one b.flies)
    ]

pub returns-clause-impatient_again : goal.returns-clause-impatient_again
returns-clause-impatient_again c = λ h. apart 1 3 (omega arith) h.causes.1.0.1

pub returns-clause-wrong_earliest : goal.returns-clause-wrong_earliest
returns-clause-wrong_earliest c = λ h.
    let t = h.causes.1.0.1 in
    let m = t.moment in
    let Own : List Event → Type 0 = λ v. length (calls_of v 0) ≡ 1 in
    let Earliest : List Event → Type 0 = λ v. 600 ≡ earliest_of (record { turnaround = 500; per_minute = 0 }) (after_events (0 ∷ 0 ∷ []) v).times in
    elim (one_past first_event m.past m.later m.parts) [
      | inl none ↦ apart 0 1 (omega arith) (subst Own none m.own)
      | inr one ↦ apart_below 600 510 (omega arith) (subst Earliest one t.earliest_is)
    ]

pub returns-clause-not_too_soon : goal.returns-clause-not_too_soon
returns-clause-not_too_soon c = λ h. let lt : 510 < 510 = h.causes.1.0.1.soon in omega (arith, lt)

pub returns-clause-invented_now : goal.returns-clause-invented_now
returns-clause-invented_now c = λ h. apart 20 25 (omega arith) (same_Some 20 25 h.causes.1.0.1.read)

pub returns-clause-falling_numbers : goal.returns-clause-falling_numbers
returns-clause-falling_numbers c = λ h. let le : 2 ≤ 0 = h.rise.1.0 in omega (arith, le)

pub returns-clause-unread_number : goal.returns-clause-unread_number
returns-clause-unread_number c = λ h. let le : 3 ≤ 2 = h.rise.1.1 in omega (arith, le)

pub returns-clause-open_vanished : goal.returns-clause-open_vanished
returns-clause-open_vanished c = λ h. h.tied.own 0

pub returns-clause-open_looks : goal.returns-clause-open_looks
returns-clause-open_looks c = λ h. apart_below 3 0 (omega arith) (h.tied.own 0).0.1

pub returns-clause-two_open : goal.returns-clause-two_open
returns-clause-two_open c = λ h. h.ended.0

pub returns-clause-invented_post : goal.returns-clause-invented_post
returns-clause-invented_post c = λ h. apart 0 5 (omega arith) (same_Some 0 5 h.read.0.0)

-- ---- wishes

abbrev put_five : List ℕ
put_five = with_wish (half_bytes 0) (desires 5).wish (0 ∷ 0 ∷ [])

five : put_five ≡ 5 ∷ 0 ∷ []
unfolding with_wish with_changes field_value
five = refl

can_put : wish_fault (half_bytes 0) (0 ∷ 0 ∷ []) (desires 5).wish ≡ None
unfolding field_value
can_put = refl

too_wide : wish_fault (half_bytes 0) (0 ∷ 0 ∷ []) (desires 16).wish ≡ Some (TooWide 7)
unfolding field_value
too_wide = refl

pub returns-clause-other_wish : goal.returns-clause-other_wish
returns-clause-other_wish c = λ h.
    let input : 6 ∷ 0 ∷ [] ≡ over (0 ∷ 0 ∷ []) put_five = (h.tied.own 0).0.0.2 in
    apart_below 6 5 (omega arith) (ap (λ (v : List ℕ). slice_index_or v 0 0) (input ∙ ap (over (0 ∷ 0 ∷ [])) five))

pub returns-clause-refused_wish : goal.returns-clause-refused_wish
returns-clause-refused_wish c = λ h.
    let u = h.causes.0.1 in
    let m = u.moment in
    let Fault : List Event → Type 0 = λ v. wish_fault (half_bytes 0) (after_events (0 ∷ 0 ∷ []) v).space (desires 5).wish ≡ Some (BelowLowest 5 10) in
    something (BelowLowest 5 10) (sym can_put ∙ subst Fault (no_past m.past m.later m.parts) u.fault)

pub returns-clause-wide_wish : goal.returns-clause-wide_wish
returns-clause-wide_wish c = λ h. something (TooWide 7) (sym (h.tied.own 0).0.0.3 ∙ too_wide)

pub returns-clause-refused_blocked : goal.returns-clause-refused_blocked
returns-clause-refused_blocked c = λ h.
    let u = h.causes.1.0.1 in
    let m = u.moment in
    let Own : List Event → Type 0 = λ v. length (calls_of v 0) ≡ 1 in
    let Quiet : List Event → Type 0 = λ v. (after_events (0 ∷ 0 ∷ []) v).flight ≡ None in
    elim (one_past lost_event m.past m.later m.parts) [
      | inl none ↦ apart 0 1 (omega arith) (subst Own none m.own)
      | inr one ↦ something 0 (sym (subst Quiet one u.quiet))
    ]
