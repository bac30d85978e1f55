-- What word 0 says, and what the stores of word 0 make of it.
use Rattle.std.proofs.Common.{List, ◌≡◌, ◌≢◌, ℕ, ◌-◌, ◌^◌, ◌<◌, ◌≤◌, ◌==◌, Bool, true, false, not, ltb, if◌then◌else◌, refl, sym, ap, ◌∙◌, arith, ne_eqb, w64}
use Rattle.std.specs.Int.RustNames.{bit_or}
use borrow.Author.Tests.{eqb-true, ltb-true, ltb-false}
use lib.Bits.{bit_and}
use mathlib.Core.Logic.{dite}
use native.Mathlib.Decide.{dec_le}
use Rattle.std.proofs.lemmas.Nat.Bits.{bit_at_and, bit_at_or, bit_at_not, bit_at_above, bit_at-zero, bit_at-lt, same_from_bits}
use Rattle.std.specs.Int.{bit_at}
use Rattle.std.proofs.lemmas.Nat.{and_or_self}
use Rattle.pcc_steps.specs.declared.wiring.Wiring.{Wiring}
use Rattle.pcc_steps.specs.declared.wiring.Style.{Style}
use Rattle.pcc_steps.specs.declared.wiring.Style.TheVariants.{Headed, Joined3, Separate3, Joined4, Separate4, Reduced5}
use Rattle.shmem_header.specs.HeaderBits.{IsCommand, code_in, is_set, with_status}
use Rattle.shmem_header.proofs.Commands.{code_in-header_word, is_set-header_word_complete, is_set-header_word_error, with_status-header_word}
use Rattle.pcc_steps.specs.Wires.{sent_header, status_of, meets, is_complete, tells_by, header_error, without, masked_by, style_by, style_of, IsRight, code_by}
use Rattle.pcc_steps.specs.Runs.{error_word}
use Rattle.pcc_history.specs.Channel.{both}
use Rattle.std.specs.Int.Bits.{and_self}
use Rattle.pcc_steps.specs.declared.answer.AnswerStage.TheVariants.{TakeBlock}
use Rattle.pcc_steps.specs.Asking.{CodeFits}
use Rattle.pcc_steps.specs.Agree.{opened, closed, finished, Marked, ShowsBy, HasHeader}
use Rattle.pcc_steps.proofs.Headers.{Carries}

-- ---- the header of types 0 to 2

command : (code status id : ℕ) → id < 2 ^ 8 → code < 256 → status < 2 ^ 16 → IsCommand code status id
command code status id a b c = record { code_fits = b; status_fits = c; id_fits = a }

unset : (w : Wiring) (code : ℕ) → w.id < 2 ^ 8 → code < 256 → is_set (sent_header w code 0) 48 ≡ false
unset w code id h = is_set-header_word_complete code w.notify 0 w.id (command code 0 w.id id h (omega arith))

set_done : (w : Wiring) (code : ℕ) (e : Bool) → w.id < 2 ^ 8 → code < 256 → is_set (sent_header w code (status_of e)) 48 ≡ true
set_done w code true id h = is_set-header_word_complete code w.notify 5 w.id (command code 5 w.id id h (omega arith))
set_done w code false id h = is_set-header_word_complete code w.notify 1 w.id (command code 1 w.id id h (omega arith))

told_error : (w : Wiring) (code : ℕ) (e : Bool) → w.id < 2 ^ 8 → code < 256 → is_set (sent_header w code (status_of e)) 50 ≡ e
told_error w code true id h = is_set-header_word_error code w.notify 5 w.id (command code 5 w.id id h (omega arith))
told_error w code false id h = is_set-header_word_error code w.notify 1 w.id (command code 1 w.id id h (omega arith))

-- the code that the header carries
pub code_seen : (w : Wiring) (code word : ℕ) → w.id < 2 ^ 8 → code < 256 → word ≡ sent_header w code 0 → code_in word ≡ code
code_seen w code word id h is = ap code_in is ∙ code_in-header_word code w.notify 0 w.id (command code 0 w.id id h (omega arith))

-- the header with its status
pub status_seen : (w : Wiring) (code word : ℕ) (e : Bool) → w.id < 2 ^ 8 → code < 256 → word ≡ sent_header w code 0
    → with_status word (status_of e) ≡ sent_header w code (status_of e)
status_seen w code word e id h is = ap (λ (n : ℕ). with_status n (status_of e)) is ∙ with_status-header_word code w.notify 0 (status_of e) w.id (command code 0 w.id id h (omega arith))

-- ---- word 0 of each style

pub closed_unset : (s : Style) (w : Wiring) (code word : ℕ) → w.id < 2 ^ 8 → CodeFits s code → Marked s w code closed word
    → is_complete s w.check_mask word ≡ false
closed_unset Headed w code word id h m = ap (λ (n : ℕ). is_set n 48) m ∙ unset w code id h
closed_unset _ w code word id h m = m

pub finished_set : (s : Style) (w : Wiring) (code word : ℕ) (e : Bool) → w.id < 2 ^ 8 → CodeFits s code → Marked s w code (finished e) word
    → is_complete s w.check_mask word ≡ true
finished_set Headed w code word e id h m = ap (λ (n : ℕ). is_set n 48) m ∙ set_done w code e id h
finished_set _ w code word e id h m = m

pub set_opened : (s : Style) (w : Wiring) (code word : ℕ) → is_complete s w.check_mask word ≡ true → Marked s w code opened word
set_opened Headed w code word m = m
set_opened _ w code word m = m

pub opened_set : (s : Style) (w : Wiring) (code word : ℕ) → Marked s w code opened word → is_complete s w.check_mask word ≡ true
opened_set Headed w code word m = m
opened_set _ w code word m = m

pub reopened : (s : Style) (w : Wiring) (code code' word : ℕ) → Marked s w code opened word → Marked s w code' opened word
reopened s w code code' word m = set_opened s w code' word (opened_set s w code word m)

pub finished_opened : (s : Style) (w : Wiring) (code word : ℕ) (e : Bool) → w.id < 2 ^ 8 → CodeFits s code → Marked s w code (finished e) word
    → Marked s w code opened word
finished_opened s w code word e id h m = set_opened s w code word (finished_set s w code word e id h m)

-- the error that word 0 tells, where no register tells it
pub error_seen : (s : Style) (reports : Bool) (w : Wiring) (code word found register : ℕ) (e : Bool) → w.id < 2 ^ 8 → CodeFits s code
    → tells_by s reports ≡ false → found ≡ word → Marked s w code (finished e) word → ShowsBy s reports w.error_mask register e → header_error s found ≡ e
error_seen Headed reports w code word found register e id h silent same m t = ap (λ (n : ℕ). is_set n 50) (same ∙ m) ∙ told_error w code e id h
error_seen _ true w code word found register e id h silent same m t = cc
error_seen _ false w code word found register e id h silent same m t = sym t

-- the error that the register tells
pub error_shown : (s : Style) (reports : Bool) (mask word : ℕ) (e : Bool) → tells_by s reports ≡ true → ShowsBy s reports mask word e → meets word mask ≡ e
error_shown Headed reports mask word e is t = cc
error_shown _ true mask word e is t = t
error_shown _ false mask word e is t = cc

-- ---- the check register of types 3 to 5

no_bits : (word mask : ℕ) → mask < 2 ^ 64 → bit_and (bit_and word (2 ^ 64 - 1 - mask)) mask ≡ 0
no_bits word mask small = let r : ℕ = 2 ^ 64 - 1 - mask in same_from_bits (bit_and (bit_and word r) mask) 0 (λ i. let e = bit_at_and (bit_and word r) mask i in let f = bit_at_and word r i in let z = bit_at-zero i in let h = bit_at-lt mask i in dite (dec_le 64 i)
    (λ far. let k = bit_at_above mask 64 i small far in omega (arith, e, k, z))
    (λ near. let k = bit_at_not w64 mask i small (omega arith) in omega (arith, e, f, k, z, h)))

zero_unmet : (word mask : ℕ) → bit_and word mask ≡ 0 → meets word mask ≡ false
zero_unmet word mask e = ap (λ (n : ℕ). not (n == 0)) e

-- a word without the bits of the mask
pub clears_mark : (s : Style) (w : Wiring) (code kept : ℕ) → s ≢ Headed → w.check_mask < 2 ^ 64 → Marked s w code closed (without w.check_mask kept)
clears_mark Headed w code kept other small = absurd (other refl)
clears_mark _ w code kept other small = zero_unmet (without w.check_mask kept) w.check_mask (no_bits kept w.check_mask small)

-- a masked write whose masks leave no bit of the check mask
masked_off : (kept p t mask : ℕ) → bit_and (bit_or p t) mask ≡ 0 → bit_and (bit_or (bit_and kept p) t) mask ≡ 0
masked_off kept p t mask e = same_from_bits (bit_and (bit_or (bit_and kept p) t) mask) 0 (λ i. let a = bit_at_and (bit_or (bit_and kept p) t) mask i in let b = bit_at_or (bit_and kept p) t i in let c = bit_at_and kept p i in
    let f = bit_at_and (bit_or p t) mask i in let g = bit_at_or p t i in let z = bit_at-zero i in let q = ap (λ (n : ℕ). bit_at n i) e in grind (arith, a, b, c, f, g, z, q, bit_at-lt))

joined_by : (low three four j : Bool)
    → (if low then Headed else if three then (if j then Joined3 else Separate3) else if four then (if j then Joined4 else Separate4) else Reduced5) ≡ Joined3
    → (three ≡ true) × (j ≡ true)
joined_by true three four j e = (cc, cc)
joined_by false true four true e = (refl, refl)
joined_by false true four false e = (refl, cc)
joined_by false false true true e = (cc, refl)
joined_by false false true false e = (cc, cc)
joined_by false false false j e = (cc, cc)

style_joined : (kind : ℕ) (joined : Bool) → style_by kind joined ≡ Joined3 → (kind ≡ 3) × (joined ≡ true)
style_joined kind joined e = let p = joined_by (ltb kind 3) (kind == 3) (kind == 4) joined e in (eqb-true kind 3 p.0, p.1)

pub clears_update : (w : Wiring) (code kept : ℕ) → style_of w ≡ Joined3 → IsRight w → Marked Joined3 w code closed (masked_by w.update kept)
clears_update w code kept e right = let k = style_joined w.kind w.joined e in zero_unmet (masked_by w.update kept) w.check_mask (masked_off kept w.update.preserve w.update.set w.check_mask (right.clears k.0 k.1))

-- ---- what the answering side stores

headed_by : (low three four j : Bool)
    → (if low then Headed else if three then (if j then Joined3 else Separate3) else if four then (if j then Joined4 else Separate4) else Reduced5) ≡ Headed
    → low ≡ true
headed_by true three four j e = refl
headed_by false true four true e = cc
headed_by false true four false e = cc
headed_by false false true true e = cc
headed_by false false true false e = cc
headed_by false false false j e = cc

unheaded_by : (low three four j : Bool)
    → (if low then Headed else if three then (if j then Joined3 else Separate3) else if four then (if j then Joined4 else Separate4) else Reduced5) ≢ Headed
    → low ≡ false
unheaded_by true three four j other = absurd (other refl)
unheaded_by false three four j other = refl

joined4_by : (low three four j : Bool)
    → (if low then Headed else if three then (if j then Joined3 else Separate3) else if four then (if j then Joined4 else Separate4) else Reduced5) ≡ Joined4
    → (four ≡ true) × (j ≡ true)
joined4_by true three four j e = (cc, cc)
joined4_by false true four true e = (cc, refl)
joined4_by false true four false e = (cc, cc)
joined4_by false false true true e = (refl, refl)
joined4_by false false true false e = (refl, cc)
joined4_by false false false j e = (cc, cc)

low_kind : (w : Wiring) → style_of w ≡ Headed → w.kind ≤ 2
low_kind w e = let h = ltb-true w.kind 3 (headed_by (ltb w.kind 3) (w.kind == 3) (w.kind == 4) w.joined e) in omega arith

high_kind : (w : Wiring) → style_of w ≢ Headed → 3 ≤ w.kind
high_kind w other = ltb-false w.kind 3 (unheaded_by (ltb w.kind 3) (w.kind == 3) (w.kind == 4) w.joined other)

pub reports_headed : (w : Wiring) → style_of w ≡ Headed → IsRight w → w.reports ≡ true
reports_headed w e right = right.reports (low_kind w e)

-- the bits of the mask are in the word
all_bits : (word mask : ℕ) → mask ≢ 0 → bit_and (bit_or word mask) mask ≢ 0
all_bits word mask some z = let e = and_or_self mask word in some (omega arith)

pub sets_mark : (s : Style) (w : Wiring) (code kept : ℕ) (e : Bool) → s ≢ Headed → style_of w ≡ s → IsRight w
    → Marked s w code (finished e) (bit_or kept w.check_mask)
sets_mark Headed w code kept e other is right = absurd (other refl)
sets_mark s w code kept e other is right = ap not (ne_eqb (bit_and (bit_or kept w.check_mask) w.check_mask) 0 (all_bits kept w.check_mask (right.check (high_kind w (λ headed. other (sym is ∙ headed))))))

-- a bit that is set by the masks is in the word
masked_on : (kept p t mask : ℕ) → bit_and (bit_or (bit_and kept p) t) mask ≡ 0 → bit_and t mask ≡ 0
masked_on kept p t mask e = same_from_bits (bit_and t mask) 0 (λ i. let a = bit_at_and (bit_or (bit_and kept p) t) mask i in let b = bit_at_or (bit_and kept p) t i in
    let f = bit_at_and t mask i in let z = bit_at-zero i in let q = ap (λ (n : ℕ). bit_at n i) e in grind (arith, a, b, f, z, q, bit_at-lt))

pub sets_update : (w : Wiring) (code kept : ℕ) (e : Bool) → style_of w ≡ Joined4 → IsRight w → Marked Joined4 w code (finished e) (masked_by w.update kept)
sets_update w code kept e is right = let p = joined4_by (ltb w.kind 3) (w.kind == 3) (w.kind == 4) w.joined is in let some = right.sets (eqb-true w.kind 4 p.0) p.1 in
    ap not (ne_eqb (bit_and (masked_by w.update kept) w.check_mask) 0 (λ z. some (masked_on kept w.update.preserve w.update.set w.check_mask z)))

-- the error register, once it is stored
none_and : (mask : ℕ) → bit_and 0 mask ≡ 0
none_and mask = same_from_bits (bit_and 0 mask) 0 (λ i. let a = bit_at_and 0 mask i in let z = bit_at-zero i in grind (arith, a, z))

error_stored : (w : Wiring) (bad : Bool) → w.error_mask ≢ 0 → meets (error_word w bad) w.error_mask ≡ bad
error_stored w true some = ap not (ne_eqb (bit_and w.error_mask w.error_mask) 0 (λ z. some (sym (and_self w.error_mask) ∙ z)))
error_stored w false some = ap (λ (n : ℕ). not (n == 0)) (none_and w.error_mask)

shows_by : (s : Style) (r : Bool) (w : Wiring) (bad : Bool) → tells_by s r ≡ true → (s ≢ Headed → r ≡ true → w.error_mask ≢ 0)
    → ShowsBy s r w.error_mask (error_word w bad) (both r bad)
shows_by Headed r w bad is some = tt
shows_by Joined3 true w bad is some = error_stored w bad (some (λ e. cc) refl)
shows_by Separate3 true w bad is some = error_stored w bad (some (λ e. cc) refl)
shows_by Joined4 true w bad is some = error_stored w bad (some (λ e. cc) refl)
shows_by Separate4 true w bad is some = error_stored w bad (some (λ e. cc) refl)
shows_by Reduced5 true w bad is some = error_stored w bad (some (λ e. cc) refl)
shows_by s false w bad is some = cc

pub shows_stored : (w : Wiring) (bad : Bool) → tells_by (style_of w) w.reports ≡ true → IsRight w
    → ShowsBy (style_of w) w.reports w.error_mask (error_word w bad) (both w.reports bad)
shows_stored w bad is right = shows_by (style_of w) w.reports w bad is (λ other told. right.error (high_kind w other) told)

-- where no register tells errors, none has to show one
pub shows_none : (s : Style) (r : Bool) (mask word : ℕ) (bad : Bool) → tells_by s r ≡ false → ShowsBy s r mask word (both r bad)
shows_none Headed r mask word bad is = tt
shows_none _ true mask word bad is = cc
shows_none _ false mask word bad is = refl

-- the code that the answering side finds
pub code_known : (s : Style) (w : Wiring) (code header : ℕ) (sent : List ℕ) → w.id < 2 ^ 8 → CodeFits s code → HasHeader (TakeBlock 0) s w code header
    → Carries s code sent → code_by s header sent ≡ code
code_known Headed w code header sent id fits has carries = code_seen w code header id fits has
code_known Joined3 w code header sent id fits has carries = carries
code_known Separate3 w code header sent id fits has carries = carries
code_known Joined4 w code header sent id fits has carries = carries
code_known Separate4 w code header sent id fits has carries = carries
code_known Reduced5 w code header sent id fits has carries = carries

pub unheaded : (w : Wiring) → style_of w ≢ Headed → 3 ≤ w.kind
unheaded w other = high_kind w other

fits_by : (s : Style) (code : ℕ) → (s ≡ Headed → code < 256) → code < 2 ^ 32 → CodeFits s code
fits_by Headed code byte word = byte refl
fits_by _ code byte word = word

-- a code that the header can carry
pub code_fits : (w : Wiring) (code : ℕ) → (w.kind ≤ 2 → code < 256) → code < 2 ^ 32 → CodeFits (style_of w) code
code_fits w code byte word = fits_by (style_of w) code (λ e. byte (low_kind w e)) word
