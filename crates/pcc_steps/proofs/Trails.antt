-- What was asked, from stage to stage.
use Rattle.std.proofs.Common.{◌≡◌, ℕ, ◌≤◌, Bool, true, false, List, [], ◌∷◌, ◌++◌, length, take, refl, sym, ap, ◌∙◌, subst, arith}
use Rattle.pcc_history.specs.Channel.{Exchange, over}
use Rattle.pcc_history.specs.Histories.{WholeHistory}
use Rattle.shmem_header.specs.Spelling.{words_of}
use Rattle.pcc_steps.specs.declared.wiring.Style.{Style}
use Rattle.pcc_steps.specs.declared.wiring.Style.TheVariants.{Headed, Joined3, Separate3, Joined4, Separate4, Reduced5}
use Rattle.pcc_steps.specs.declared.ask.AskStage.{AskStage}
use Rattle.pcc_steps.specs.declared.ask.AskStage.TheVariants.{AskRest}
use Rattle.pcc_steps.specs.Wires.{style_of, heads_of, block_header, opening_header}
use Rattle.pcc_steps.specs.Asking.{Ask, AskOk, after_block, after_mark, after_bell, after_look}
use Rattle.pcc_steps.specs.Agree.{Asker, Trail, trail, HasAskedBy, is_pending_at, waiting, resting, pose_at, header_after}
use Rattle.pcc_steps.proofs.Headers.{Carries, carried, asked_short, front_header, header_last, whole_more, space_last}

-- ---- a command is pending at each stage of a run

pub block_pends : (s : Style) (f : Bool) → is_pending_at (after_block s) f ≡ true
block_pends Headed f = refl
block_pends Joined3 f = refl
block_pends Separate3 f = refl
block_pends Joined4 f = refl
block_pends Separate4 f = refl
block_pends Reduced5 f = refl

pub mark_pends : (s : Style) (f : Bool) → is_pending_at (after_mark s) f ≡ true
mark_pends Separate3 f = refl
mark_pends _ f = refl

pub bell_pends : (s : Style) (f : Bool) → is_pending_at (after_bell s) f ≡ true
bell_pends Reduced5 f = refl
bell_pends _ f = refl

pub look_pends : (b : Bool) (f : Bool) → is_pending_at (after_look b) f ≡ true
look_pends true f = refl
look_pends false f = refl

pub flown_pends : (st : AskStage) (f : Bool) → f ≡ true → is_pending_at st f ≡ true
flown_pends AskRest f e = e
flown_pends _ f e = refl

waits_rest : (f : Bool) → resting f ≡ waiting → f ≡ true
waits_rest true e = refl
waits_rest false e = cc

-- where a command waits for its reply
pub waits_pends : (st : AskStage) (a : Ask) → pose_at st a ≡ waiting → is_pending_at st a.in_flight ≡ true
waits_pends AskRest a e = waits_rest a.in_flight e
waits_pends _ a e = refl

pub same_pends : (x : Asker) (t : Trail) (b c : Bool) → b ≡ c → HasAskedBy c t → HasAskedBy b t
same_pends x t b c e h = subst (λ (b : Bool). HasAskedBy b t) (sym e) h

-- ---- what a pending command carries

pub sent_carries : (x : Asker) → AskOk x.m → HasAskedBy true (trail x) → Carries (style_of x.m.wiring) x.m.code x.m.sent
sent_carries x ok h = let w = x.m.wiring in let s : Style = style_of w in let bytes : List ℕ = h.1.0 in let q = h.1.3 in
    let long : length bytes ≤ w.room = asked_short x.m.space bytes w.room ok.sized.space (ap (λ (l : List ℕ). length l) (sym q.input) ∙ ok.sized.input) in
    subst (Carries s x.m.code) (sym q.block) (carried s w x.m.code (length bytes) (words_of x.m.input) ok.id (let most = ok.wired.most in omega arith))

-- ---- what changes it

-- a post begins
pub post_asks : (t : Trail) (code : ℕ) (bytes : List ℕ) → HasAskedBy false t → let input : List ℕ = over t.space bytes in
    HasAskedBy true (record t { asked = t.asked ++ bytes ∷ []; code = code; input = input; sent = block_header (style_of t.wiring) t.wiring code (length bytes) ++ words_of input })
post_asks t code bytes h = (t.asked, (bytes, refl, record { inputs = h.inputs; output = h.output; block = h.block }, record { input = refl; block = refl }))

-- the pending command is drained
pub drain_asks : (t : Trail) (error : Bool) (output loaded : List ℕ) → loaded ≡ take (heads_of (style_of t.wiring)) t.sent ++ words_of output
    → HasAskedBy true t
    → HasAskedBy false (record t { done = t.done ++ record { code = t.code; input = t.input; error = error; output = output } ∷ []; space = output; shown = loaded })
drain_asks t error output loaded e h = let w = t.wiring in let s : Style = style_of w in let before : List (List ℕ) = h.0 in let bytes : List ℕ = h.1.0 in let d = h.1.2 in let q = h.1.3 in
    let x : Exchange = record { code = t.code; input = t.input; error = error; output = output } in
    let top : List ℕ = opening_header s w in
    let front : take (heads_of s) t.sent ≡ block_header s w t.code (length bytes) = ap (take (heads_of s)) q.block ∙ front_header s w t.code (length bytes) (words_of t.input) in
    let last : header_after w top (t.done ++ x ∷ []) (before ++ bytes ∷ []) ≡ block_header s w t.code (length bytes) = header_last w top t.opening t.done before x bytes d.inputs in
    record {
      inputs = subst (WholeHistory t.opening (t.done ++ x ∷ [])) (sym h.1.1) (whole_more t.opening t.done before x bytes d.inputs (q.input ∙ ap (λ (l : List ℕ). over l bytes) d.output));
      output = sym (space_last t.opening t.done x);
      block = e ∙ ap (λ (l : List ℕ). l ++ words_of output) (front ∙ sym last ∙ ap (header_after w top (t.done ++ x ∷ [])) (sym h.1.1));
    }
