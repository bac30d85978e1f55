-- A post that is begun, and a call that is too soon.
use Rattle.std.proofs.Common.{◌≡◌, ℕ, Bool, true, false, List, refl, sym, ap, ◌∙◌, subst}
use Rattle.std.specs.Prelude.{Option, Some, None}
use Rattle.pcc_steps.specs.declared.ask.AskOutcome.{AskOutcome}
use Rattle.pcc_steps.specs.Asking.{Ask, ask_begun, ask_fed, ask_next, ask_told}
use Rattle.pcc_steps.specs.Agree.{act, found}
use Rattle.pcc_steps.specs.declared.wiring.Action.TheVariants.{Rest}
use Rattle.channel_plain.specs.declared.trace.Asked.{Asked}
use Rattle.channel_plain.specs.declared.trace.TraceEnd.{TraceEnd}
use Rattle.channel_plain.specs.declared.pick.Pick.{Pick}
use Rattle.channel_plain.specs.Picks.{CallsState, PlainState, Picked, ask_ended, ask_stepped, call_begun, call_ended, call_posted, post_or_soon, posting, read_once, served, soon_end, takes_reading}
use Rattle.channel_plain.specs.Holding.{Tried, tried_by}
use Rattle.channel_plain.specs.Steps.{IsPick, begun_by, begun_with, budget_by}
use Rattle.channel_plain.proofs.PostStages.{begun_told}

-- ---- what the calls report of a post

pub record Soon (o : Option TraceEnd) (k : CallsState) (d : CallsState) (e : TraceEnd) : Type 0 where
  pub test : o ≡ Some e
  pub calls : d ≡ call_ended (read_once k)

some_end : (x y : TraceEnd) → Some x ≡ Some y → x ≡ y
some_end x y e = cc

pub tried_some : (b : Option TraceEnd) (c : Asked) (space : List ℕ) (r : ℕ) (k d : CallsState) (o : Option TraceEnd) (e : TraceEnd) → record { calls = d; end = o } ≡ tried_by b c space r k → o ≡ Some e → Soon b k d e
tried_some (Some x) c space r k d o e q s = record { test = sym (ap (λ (t : Tried). t.end) q) ∙ s; calls = ap (λ (t : Tried). t.calls) q }
tried_some None c space r k d o e q s = let n : Some e ≡ None = sym s ∙ ap (λ (t : Tried). t.end) q in absurd (cc n)

pub tried_none : (b : Option TraceEnd) (c : Asked) (space : List ℕ) (r : ℕ) (k d : CallsState) (o : Option TraceEnd) → record { calls = d; end = o } ≡ tried_by b c space r k → o ≡ None → (b ≡ None) × (d ≡ call_posted c space r (call_begun k))
tried_none (Some x) c space r k d o q s = let n : Some x ≡ None = sym (ap (λ (t : Tried). t.end) q) ∙ s in absurd (cc n)
tried_none None c space r k d o q s = (refl, ap (λ (t : Tried). t.calls) q)

-- ---- the same of the definition

soon_same : (b : Bool) (r : ℕ) (k : CallsState) → soon_end r (begun_by b k) ≡ soon_end r k
soon_same true r k = refl
soon_same false r k = refl

ended_same : (b : Bool) (k : CallsState) → call_ended (read_once (begun_by b k)) ≡ call_ended (read_once k)
ended_same true k = refl
ended_same false k = refl

space_same : (b : Bool) (p : ℕ) (a : Ask) → (budget_by b p a).space ≡ a.space
space_same true p a = refl
space_same false p a = refl

pub begun_same : (b : Bool) (k : CallsState) → (b ≡ false → k.begun ≡ true) → begun_by b k ≡ call_begun k
begun_same true k h = refl
begun_same false k h = ap (λ (x : Bool). record k { begun = x }) (h refl)

by_test : (o : Option TraceEnd) (begins : Bool) (polls : ℕ) (c : Asked) (r : ℕ) (s : PlainState) → soon_end r s.calls ≡ o
    → served false c r (begun_with begins polls s) ≡ post_or_soon o c r (begun_with begins polls s)
by_test o begins polls c r s e = ap (λ (x : Option TraceEnd). post_or_soon x c r (begun_with begins polls s)) (soon_same begins r s.calls ∙ e)

pub soon_reads : (begins : Bool) (polls : ℕ) (c : Asked) (r : ℕ) (s : PlainState) (e : TraceEnd) → soon_end r s.calls ≡ Some e
    → (served false c r (begun_with begins polls s)).reads ≡ true
soon_reads begins polls c r s x e = ap (λ (p : Picked). p.reads) (by_test (Some x) begins polls c r s e)

pub soon_pick : (begins : Bool) (polls : ℕ) (c : Asked) (r : ℕ) (s s' : PlainState) (k : CallsState) (e : TraceEnd) (pick : Pick) → Soon (soon_end r s.calls) s.calls k e → s' ≡ record s { ask = budget_by begins polls s.ask; calls = k } → pick ≡ record { action = Rest; value = 0; end = e }
    → IsPick (served false c r (begun_with begins polls s)) s' pick
soon_pick begins polls c r s s' k e pick soon is q =
    subst (λ (p : Picked). IsPick p s' pick) (sym (by_test (Some e) begins polls c r s soon.test)) (
      is ∙ ap (λ (x : CallsState). record s { ask = budget_by begins polls s.ask; calls = x }) (soon.calls ∙ sym (ended_same begins s.calls)),
      q,
    )

pub post_reads : (begins : Bool) (polls : ℕ) (c : Asked) (r : ℕ) (s : PlainState) → soon_end r s.calls ≡ None
    → (served false c r (begun_with begins polls s)).reads ≡ true
post_reads begins polls c r s e = ap (λ (p : Picked). p.reads) (by_test None begins polls c r s e)

-- the first step of a post takes no reading
pub no_reading : (s : PlainState) (r : ℕ) (a : Ask) (code : ℕ) (bytes : List ℕ) → s.ask ≡ ask_begun a code bytes → (ask_stepped r s).reads ≡ false
no_reading s r a code bytes e = let b : Ask = ask_begun a code bytes in
    subst (λ (x : Ask). (ask_stepped r (record s { ask = x })).reads ≡ false) (sym e) (ap takes_reading (begun_told a code bytes (found (ask_next b) s.words)))

-- a step with this outcome
abbrev step_told : Option AskOutcome → ℕ → PlainState → Picked
step_told told r s = let action = ask_next s.ask in let v : ℕ = found action s.words in let a : Ask = ask_fed s.ask v in let e = ask_ended told r a s.calls in
    record { state = record s { words = act action s.words; ask = a; calls = e.calls }; action = action; value = v; end = e.end; reads = takes_reading told }

-- a step that ends no run is the same at every reading
any_reading : (s : PlainState) (r q : ℕ) → ask_told s.ask (found (ask_next s.ask) s.words) ≡ None → ask_stepped r s ≡ ask_stepped q s
any_reading s r q e = ap (λ (o : Option AskOutcome). step_told o r s) e ∙ sym (ap (λ (o : Option AskOutcome). step_told o q s) e)

other_reading : (s : PlainState) (r q : ℕ) (a : Ask) (code : ℕ) (bytes : List ℕ) → s.ask ≡ ask_begun a code bytes → ask_stepped r s ≡ ask_stepped q s
other_reading s r q a code bytes e = let b : Ask = ask_begun a code bytes in
    subst (λ (x : Ask). ask_stepped r (record s { ask = x }) ≡ ask_stepped q (record s { ask = x })) (sym e) (any_reading (record s { ask = b }) r q (begun_told a code bytes (found (ask_next b) s.words)))

pub post_pick : (begins : Bool) (polls : ℕ) (c : Asked) (r q : ℕ) (s t s' : PlainState) (k : CallsState) (a : Ask) (pick : Pick) → soon_end r s.calls ≡ None
    → k ≡ call_posted c s.ask.space r (call_begun s.calls) → a ≡ ask_begun (budget_by begins polls s.ask) c.code c.bytes
    → t ≡ record s { ask = a; calls = k } → (begins ≡ false → s.calls.begun ≡ true) → IsPick (ask_stepped q t) s' pick
    → IsPick (served false c r (begun_with begins polls s)) s' pick
post_pick begins polls c r q s t s' k a pick test ek ea et h p =
    let u : PlainState = posting c r (begun_with begins polls s) in
    let same : t ≡ u = et ∙ ap (λ (z : Ask × CallsState). record s { ask = z.0; calls = z.1 }) (λ i. (ea i, (ek ∙ ap (λ (z : List ℕ × CallsState). call_posted c z.0 r z.1) (λ j. (sym (space_same begins polls s.ask) j, sym (begun_same begins s.calls h) j))) i)) in
    subst (λ (z : Picked). IsPick z s' pick) (sym (by_test None begins polls c r s test))
    (subst (λ (z : Picked). IsPick z s' pick) (other_reading u q r (budget_by begins polls s.ask) c.code c.bytes refl) (subst (λ (z : PlainState). IsPick (ask_stepped q z) s' pick) same p))
