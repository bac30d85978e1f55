-- What the relation refuses.
use Rattle.std.proofs.Common.{◌≡◌, ◌≢◌, ℕ, ◌+◌, ◌*◌, ◌^◌, ◌<◌, ◌≤◌, Bool, true, false, not, List, [], ◌∷◌, ◌++◌, length, get_or, refl, sym, ap, ◌∙◌, subst, arith}
use Rattle.std.proofs.lemmas.List.{length-append}
use Rattle.pcc_history.specs.Channel.{Exchange, over}
use Rattle.pcc_history.specs.Histories.{space_after}
use Rattle.shmem_header.specs.Layout.{signature_of}
use Rattle.shmem_header.proofs.Commands.{signature_of-add}
use Rattle.shmem_header.specs.Spelling.{words_of}
use Rattle.pcc_steps.specs.declared.wiring.Wiring.{Wiring}
use Rattle.pcc_steps.specs.declared.wiring.Style.{Style}
use Rattle.pcc_steps.specs.declared.wiring.Style.TheVariants.{Headed, Reduced5}
use Rattle.pcc_steps.specs.Wires.{style_of, heads_of, block_header, notify_flag}
use Rattle.pcc_steps.specs.Agree.{Asker, Trail, trail, HasAskedBy, is_pending}
use Rattle.pcc_steps.specs.Laws.{RefusesIdentity, RefusesFlag, RefusesLength, RefusesInput, RefusesSpace, RefusesOpening}
use Rattle.pcc_steps.proofs.Headers.{asked_short, space_last}

-- ---- header words

first_words : (id id' flag flag' : ℕ) → id < 256 → id' < 256 → flag < 2 → flag' < 2 → signature_of id + flag * 2 ^ 32 ≡ signature_of id' + flag' * 2 ^ 32
    → (id ≡ id') × (flag ≡ flag')
first_words id id' flag flag' h h' f f' e = let a = signature_of-add id h in let b = signature_of-add id' h' in (omega (arith, a, b, e), omega (arith, a, b, e))

only_words : (id id' code code' : ℕ) → id < 256 → id' < 256 → signature_of id + code * 2 ^ 32 ≡ signature_of id' + code' * 2 ^ 32 → id ≡ id'
only_words id id' code code' h h' e = let a = signature_of-add id h in let b = signature_of-add id' h' in omega (arith, a, b, e)

second_words : (n n' code code' : ℕ) → n ≤ 4096 → n' ≤ 4096 → 4 + n + code * 2 ^ 32 ≡ 4 + n' + code' * 2 ^ 32 → n ≡ n'
second_words n n' code code' h h' e = omega (arith, e)

flagged : (b : Bool) → notify_flag b < 2
flagged true = omega arith
flagged false = omega arith

flag_not : (b : Bool) → notify_flag b ≢ notify_flag (not b)
flag_not true e = cc
flag_not false e = cc

-- ---- two blocks that are the same

same_identity : (s : Style) (w : Wiring) (id code code' n n' : ℕ) (r r' : List ℕ) → s ≢ Headed → w.id < 256 → id < 256
    → block_header s w code n ++ r ≡ block_header s (record w { id = id }) code' n' ++ r' → id ≡ w.id
same_identity Headed w id code code' n n' r r' some h h' e = absurd (some refl)
same_identity Reduced5 w id code code' n n' r r' some h h' e = sym (only_words w.id id code code' h h' (ap (λ (l : List ℕ). get_or l 0 0) e))
same_identity s w id code code' n n' r r' some h h' e = sym (first_words w.id id (notify_flag w.notify) (notify_flag w.notify) h h' (flagged w.notify) (flagged w.notify) (ap (λ (l : List ℕ). get_or l 0 0) e)).0

not_two : (n : ℕ) → n < 2 → n ≡ 2 → ⊥
not_two n h e = omega (arith, h, e)

same_flag : (s : Style) (w : Wiring) (code code' n n' : ℕ) (r r' : List ℕ) → heads_of s ≡ 2 → w.id < 256
    → block_header s w code n ++ r ≡ block_header s (record w { notify = not w.notify }) code' n' ++ r' → ⊥
same_flag Headed w code code' n n' r r' two h e = not_two 0 (omega arith) two
same_flag Reduced5 w code code' n n' r r' two h e = not_two 1 (omega arith) two
same_flag s w code code' n n' r r' two h e = flag_not w.notify (first_words w.id w.id (notify_flag w.notify) (notify_flag (not w.notify)) h h (flagged w.notify) (flagged (not w.notify)) (ap (λ (l : List ℕ). get_or l 0 0) e)).1

same_length : (s : Style) (w : Wiring) (code code' n n' : ℕ) (r r' : List ℕ) → heads_of s ≡ 2 → n ≤ 4096 → n' ≤ 4096
    → block_header s w code n ++ r ≡ block_header s w code' n' ++ r' → n ≡ n'
same_length Headed w code code' n n' r r' two h h' e = absurd (not_two 0 (omega arith) two)
same_length Reduced5 w code code' n n' r r' two h h' e = absurd (not_two 1 (omega arith) two)
same_length s w code code' n n' r r' two h h' e = second_words n n' code code' h h' (ap (λ (l : List ℕ). get_or l 1 0) e)

-- ---- the last element of a list

ends_here : (a b : List ℕ) (l : List (List ℕ)) → a ∷ [] ≡ l ++ b ∷ [] → a ≡ b
ends_here a b [] e = cc
ends_here a b (c ∷ l) e = let m = ap (λ (l : List (List ℕ)). length l) e in let n = length-append (c ∷ l) (b ∷ []) in let k : 0 < length (c ∷ l) = omega arith in absurd (omega (arith, m, n, k))

tail_of : List (List ℕ) → List (List ℕ)
tail_of [] = []
tail_of (a ∷ l) = l

same_last : (l m : List (List ℕ)) (a b : List ℕ) → l ++ a ∷ [] ≡ m ++ b ∷ [] → a ≡ b
unfolding tail_of
same_last [] m a b e = ends_here a b m e
same_last (c ∷ l) [] a b e = sym (ends_here b a (c ∷ l) (sym e))
same_last (c ∷ l) (d ∷ m) a b e = same_last l m a b (ap tail_of e)

-- ---- the relation

pending : (x : Asker) → is_pending x.m ≡ true → HasAskedBy (is_pending x.m) (trail x) → HasAskedBy true (trail x)
pending x e h = subst (λ (b : Bool). HasAskedBy b (trail x)) e h

pub refuses_identity : RefusesIdentity
refuses_identity exec start ws x y id code asked rest g e some small other same = let ok = g.1.2.ask_ok in let h = pending x e g.1.2.asked in let w : Wiring = x.m.wiring in
    other (same_identity (style_of w) w id x.m.code code (length h.1.0) asked (words_of x.m.input) rest some ok.id small (sym h.1.3.block ∙ same))

pub refuses_flag : RefusesFlag
refuses_flag exec start ws x y code asked rest g e two same = let ok = g.1.2.ask_ok in let h = pending x e g.1.2.asked in let w : Wiring = x.m.wiring in
    same_flag (style_of w) w x.m.code code (length h.1.0) asked (words_of x.m.input) rest two ok.id (sym h.1.3.block ∙ same)

pub refuses_length : RefusesLength
refuses_length exec start ws x y before bytes code asked rest g e two is small other same = let ok = g.1.2.ask_ok in let h = pending x e g.1.2.asked in let w : Wiring = x.m.wiring in
    let last : h.1.0 ≡ bytes = same_last h.0 before h.1.0 bytes (sym h.1.1 ∙ is) in
    let long : length h.1.0 ≤ w.room = asked_short x.m.space h.1.0 w.room ok.sized.space (ap (λ (l : List ℕ). length l) (sym h.1.3.input) ∙ ok.sized.input) in
    other (sym (same_length (style_of w) w x.m.code code (length h.1.0) asked (words_of x.m.input) rest two (let most = ok.wired.most in omega arith) small (sym h.1.3.block ∙ same)) ∙ ap (λ (l : List ℕ). length l) last)

pub refuses_input : RefusesInput
refuses_input exec start ws x y before bytes g e is other = let h = pending x e g.1.2.asked in
    let last : h.1.0 ≡ bytes = same_last h.0 before h.1.0 bytes (sym h.1.1 ∙ is) in other (h.1.3.input ∙ ap (λ (l : List ℕ). over x.m.space l) last)

output_of : (b : Bool) (t : Trail) → HasAskedBy b t → t.space ≡ space_after t.opening t.done
output_of true t h = h.1.2.output
output_of false t h = h.output

pub refuses_space : RefusesSpace
refuses_space exec start ws x y history last g e other = other (output_of (is_pending x.m) (trail x) g.1.2.asked ∙ (ap (λ (h : List Exchange). space_after x.opening h) e ∙ space_last x.opening history last))

pub refuses_opening : RefusesOpening
refuses_opening exec start ws x y g e other = other (output_of (is_pending x.m) (trail x) g.1.2.asked ∙ ap (λ (h : List Exchange). space_after x.opening h) e)
