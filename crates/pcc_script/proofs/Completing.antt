-- Whether what was read is whole, and the scenario that it then is.
use Rattle.std.proofs.Common.{◌≡◌, ℕ, ◌+◌, ◌<◌, List, [], ◌∷◌, ◌++◌, length, map, refl, arith, leb, Bool, true, false}
use Rattle.std.specs.Prelude.{Option, Some, None, Ok, ◌&&◌}
use Rattle.std.proofs.lemmas.Bool.Decides.{nat_tests}
use Rattle.pcc_script.specs.declared.partial.ClockLine.{ClockLine}
use Rattle.pcc_script.specs.declared.partial.Partial.{Partial}
use Rattle.pcc_script.specs.Reading.{clocks, Completes, is_whole, so_far, tables}
use Rattle.pcc_script.specs.Text.{count_at, open_statement}
use Rattle.pcc_script.proofs.Counting.{all_opens, behind_opens, count_append, none_behind, none_opens}

counts : (n : ℕ) (p : Partial)
    → count_at n (so_far p) ≡ count_at n (tables p.table) + (count_at n (clocks p.clock) + (count_at n (map open_statement p.opens) + count_at n (behind_opens p.cpus p.caps p.actions p.picks)))
counts n p =
    rw (count_append n (tables p.table) (clocks p.clock ++ (map open_statement p.opens ++ behind_opens p.cpus p.caps p.actions p.picks)), count_append n (clocks p.clock) (map open_statement p.opens ++ behind_opens p.cpus p.caps p.actions p.picks), count_append n (map open_statement p.opens) (behind_opens p.cpus p.caps p.actions p.picks)) refl

tables_0 : (o : Option (List ℕ)) → count_at 1 (tables o) + count_at 2 (tables o) ≡ 0
tables_0 None = refl
tables_0 (Some x) = refl

clocks_0 : (o : Option ClockLine) → count_at 0 (clocks o) + count_at 2 (clocks o) ≡ 0
clocks_0 None = refl
clocks_0 (Some x) = refl

count_0 : (p : Partial) → count_at 0 (so_far p) ≡ count_at 0 (tables p.table)
count_0 p =
    let c = counts 0 p in let o = none_opens 0 p.opens (omega arith) in let b = none_behind 0 p.cpus p.caps p.actions p.picks (omega arith) in let k = clocks_0 p.clock in
    omega arith

count_1 : (p : Partial) → count_at 1 (so_far p) ≡ count_at 1 (clocks p.clock)
count_1 p =
    let c = counts 1 p in let o = none_opens 1 p.opens (omega arith) in let b = none_behind 1 p.cpus p.caps p.actions p.picks (omega arith) in let k = tables_0 p.table in
    omega arith

count_2 : (p : Partial) → count_at 2 (so_far p) ≡ length p.opens
count_2 p =
    let c = counts 2 p in let o = all_opens p.opens in let b = none_behind 2 p.cpus p.caps p.actions p.picks (omega arith) in let k = tables_0 p.table in let l = clocks_0 p.clock in
    omega arith

pub no_table : (p : Partial) → p.table ≡ None → is_whole (so_far p) ≡ false
no_table p e = rw (count_0 p, e) refl

and_false : (b : Bool) → (b && false) ≡ false
and_false true = refl
and_false false = refl

two_false : (a b : Bool) → (a && (b && false)) ≡ false
two_false true b = and_false b
two_false false b = refl

pub no_clock : (p : Partial) → p.clock ≡ None → is_whole (so_far p) ≡ false
no_clock p e = rw (count_1 p, e) (and_false _)

pub no_opens : (p : Partial) → length p.opens ≡ 0 → is_whole (so_far p) ≡ false
no_opens p e = rw (count_2 p, e) (two_false _ _)

one_leb : (n : ℕ) → 0 < n → leb 1 n ≡ true
one_leb n h = grind (arith, nat_tests)

pub all_there : (p : Partial) (t : List ℕ) (c : ClockLine) → p.table ≡ Some t → p.clock ≡ Some c → 0 < length p.opens → is_whole (so_far p) ≡ true
all_there p t c e k h = rw (count_0 p, count_1 p, count_2 p, e, k, one_leb (length p.opens) h) refl

pub completed : (p : Partial) (last : List ℕ) (t : List ℕ) (c : ClockLine) → length last ≡ 0 → p.table ≡ Some t → p.clock ≡ Some c → 0 < length p.opens
    → Completes (Ok (record { table = t; start = c.start; step = c.step; opens = p.opens; cpus = p.cpus; caps = p.caps; actions = p.actions; picks = p.picks })) (so_far p) last
completed p [] t c z e k h = (rw (all_there p t c e k h) refl, rw (e, k) refl)
completed p (b ∷ bs) t c z e k h = absurd (omega arith)
