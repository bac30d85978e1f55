-- A scenario that is made up is the one that its definition says, and within the limits.
use Rattle.std.proofs.Common.{◌≡◌, ℕ, zero, suc, ◌+◌, ◌%◌, ◌≤◌, Bool, true, false, cond, eqb, List, [], ◌∷◌, ◌++◌, length, map, refl, ap, arith}
use Rattle.std.specs.List.{AllByRecursion, range_with_len}
use Rattle.std.proofs.lemmas.List.FromFn.{length-map-range_with_len, map-range_with_len_more}
use Rattle.pcc_bytes.specs.Bytes.{IsBytes}
use Rattle.pcc_bytes.proofs.Bytes.{IsBytes-tested}
use Rattle.pcc_bytes.proofs.Numbers.{IsBytes-low_first}
use Rattle.pcc_script.specs.declared.limits.TheConstants.{MAX_MADE_CALLS}
use Rattle.pcc_script.specs.declared.scenario.Line.{Line}
use Rattle.pcc_script.specs.declared.scenario.Scenario.{Scenario}
use Rattle.pcc_script.specs.Limits.{IsAction, IsWithin}
use Rattle.pcc_script.specs.Made.{call_with, generated, made_call, made_calls, made_code, made_scenario_of, next_generated, one_generic_subspace}
use Rattle.pcc_script.specs.Text.{IsScenario}
use Rattle.pcc_script.proofs.Within.{within_is}

-- ---- the calls one by one

pub none_made : made_calls 0 ≡ []
unfolding made_calls
none_made = refl

pub one_more : (place : ℕ) (actions : List Line) (x : ℕ) → actions ≡ made_calls place → x ≡ generated place
    → actions ++ call_with place x ∷ [] ≡ made_calls (place + 1)
unfolding made_calls
one_more place actions x a e =
    let last : made_calls (place + 1) ≡ made_calls place ++ made_call place ∷ [] = map-range_with_len_more made_call 0 place place (omega arith) in
    let call : call_with place x ≡ made_call place = ap (call_with place) e in
    cc

pub next_number : (place : ℕ) → next_generated (generated place) ≡ generated (place + 1)
next_number place = let one : suc place ≡ place + 1 = omega arith in ap generated one

-- ---- bytes

table_bytes : IsBytes one_generic_subspace
unfolding one_generic_subspace
table_bytes = IsBytes-tested one_generic_subspace refl

-- ---- limits

either_fits : (t : Bool) → cond {A = ℕ} t 17 16 ≤ 17
either_fits true = omega arith
either_fits false = omega arith

code_fits : (place : ℕ) → made_code place ≤ 17
code_fits place = either_fits (eqb (place % 5) 4)

call_fits : (place x : ℕ) → IsAction (call_with place x)
call_fits place x =
    let code : made_code place ≤ 17 = code_fits place in
    (omega arith, omega arith, omega arith, IsBytes-low_first 0 8 x, record { some = omega arith; few = omega arith; held = omega arith })

calls_fit : (first n : ℕ) → AllByRecursion IsAction (map made_call (range_with_len first n))
calls_fit first zero = tt
calls_fit first (suc n) = (call_fits first (generated first), calls_fit (first + 1) n)

is_within : (n : ℕ) → n ≤ MAX_MADE_CALLS → IsWithin (made_scenario_of n)
unfolding made_scenario_of made_calls
is_within n few =
    let len : length (map made_call (range_with_len 0 n)) ≡ n = length-map-range_with_len made_call 0 n in
    record {
      table = table_bytes;
      start = omega arith;
      step = omega arith;
      opens = (record { id = omega arith; device = tt }, tt);
      some_opens = omega arith;
      few_opens = omega arith;
      cpus = tt;
      few_cpus = omega arith;
      caps = tt;
      few_caps = omega arith;
      actions = calls_fit 0 n;
      few_actions = omega arith;
      picks = tt;
    }

pub is_spelled : (n : ℕ) (s : Scenario) → n ≤ MAX_MADE_CALLS → s ≡ made_scenario_of n → IsScenario s
is_spelled n s few e = rw e (within_is (made_scenario_of n) (is_within n few))
