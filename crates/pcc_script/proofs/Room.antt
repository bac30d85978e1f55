-- How many right lines there may be, one behind the other.
use Rattle.std.proofs.Common.{◌≡◌, ℕ, zero, suc, ◌+◌, ◌-◌, ◌<◌, ◌≤◌, eqb, Bool, true, false, cond, refl, ap, arith}
use Rattle.pcc_script.specs.declared.limits.TheConstants.{MAX_ACTIONS, MAX_CAPS, MAX_CPUS, MAX_OPENS}
use Rattle.pcc_script.specs.declared.order.Seen.{Seen}
use Rattle.pcc_script.specs.declared.word.Word.{Word}
use Rattle.pcc_script.specs.declared.word.Word.TheVariants as word
use Rattle.pcc_script.specs.Rows.{most, place}
use Rattle.pcc_script.specs.Reading.{count_for, seen_after, start}
use Rattle.pcc_script.proofs.Counting.{place_behind}
use Rattle.std.proofs.lemmas.Bool.{eqb-false, eqb-true}

-- how many lines there may be at a place
abbrev pub most_at : ℕ → ℕ
most_at zero = 1
most_at (suc zero) = 1
most_at (suc (suc zero)) = MAX_OPENS
most_at (suc (suc (suc zero))) = MAX_CPUS
most_at (suc (suc (suc (suc zero)))) = MAX_CAPS
most_at (suc (suc (suc (suc (suc zero))))) = MAX_ACTIONS
most_at (suc (suc (suc (suc (suc (suc p)))))) = 1

-- and at the places below one
abbrev pub below_place : ℕ → ℕ
below_place zero = 0
below_place (suc p) = below_place p + most_at p

most_is : (w : Word) → most w ≡ most_at (place w)
most_is word.Table = refl
most_is word.Clock = refl
most_is word.Open = refl
most_is word.Cpu = refl
most_is word.Cap = refl
most_is word.Call = refl
most_is word.Read = refl
most_is word.Set = refl
most_is word.Wait = refl
most_is word.Pick = refl

-- up to the place of a word there may be so many lines in all
all_lines : (w : Word) → below_place (place w) + most_at (place w) ≤ 65627
all_lines word.Table = omega arith
all_lines word.Clock = omega arith
all_lines word.Open = omega arith
all_lines word.Cpu = omega arith
all_lines word.Cap = omega arith
all_lines word.Call = omega arith
all_lines word.Read = omega arith
all_lines word.Set = omega arith
all_lines word.Wait = omega arith
all_lines word.Pick = omega arith

below_more : (p d : ℕ) → below_place p ≤ below_place (p + d)
below_more p zero = let e : p + 0 ≡ p = omega arith in let b : below_place (p + 0) ≡ below_place p = ap below_place e in omega arith
below_more p (suc d) =
    let before : below_place p ≤ below_place (p + d) = below_more p d in
    let e : p + suc d ≡ suc (p + d) = omega arith in
    let b : below_place (p + suc d) ≡ below_place (p + d) + most_at (p + d) = ap below_place e in
    omega arith

below_le : (p q : ℕ) → p ≤ q → below_place p ≤ below_place q
below_le p q h =
    let e : p + (q - p) ≡ q = omega arith in
    let same_place : below_place (p + (q - p)) ≡ below_place q = ap below_place e in
    let more : below_place p ≤ below_place (p + (q - p)) = below_more p (q - p) in
    omega arith

-- the line behind those that are seen has this number
pub record Counted (line : ℕ) (seen : Seen) : Type 0 where
  pub from : seen.place ≤ seen.next
  pub full : seen.count ≤ most_at seen.place
  pub few : line ≤ below_place seen.place + seen.count + 1
  pub short : line ≤ 65628

pub counted_start : Counted 1 start
counted_start = record { from = omega arith; full = omega arith; few = omega arith; short = omega arith }

few_case : (t : Bool) (line : ℕ) (seen : Seen) (w : Word) → Counted line seen → seen.next ≤ place w → eqb (place w) seen.place ≡ t
    → line ≤ below_place (place w) + cond t seen.count 0 + 1
few_case true line seen w c le e =
    let b : below_place (place w) ≡ below_place seen.place = ap below_place (eqb-true (place w) seen.place e) in
    let few : line ≤ below_place seen.place + seen.count + 1 = c.few in
    omega arith
few_case false line seen w c le e =
    let from : seen.place ≤ seen.next = c.from in
    let full : seen.count ≤ most_at seen.place = c.full in
    let few : line ≤ below_place seen.place + seen.count + 1 = c.few in
    let other : place w ≡ seen.place → ⊥ = eqb-false (place w) seen.place e in
    let above : suc seen.place ≤ place w = grind arith in
    let b : below_place seen.place + most_at seen.place ≤ below_place (place w) = below_le (suc seen.place) (place w) above in
    omega arith

pub counted_more : (line : ℕ) (seen : Seen) (w : Word) → seen.next ≤ place w → count_for seen w < most w → Counted line seen
    → Counted (line + 1) (seen_after seen w)
counted_more line seen w le room c =
    let few : line ≤ below_place (place w) + count_for seen w + 1 = few_case (eqb (place w) seen.place) line seen w c le refl in
    let e : most w ≡ most_at (place w) = most_is w in
    let b : below_place (place w) + most_at (place w) ≤ 65627 = all_lines w in
    record { from = place_behind w; full = omega arith; few = omega arith; short = omega arith }
