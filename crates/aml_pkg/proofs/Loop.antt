-- Reading elements one after the other, as a loop does.
use Rattle.std.proofs.Common.{◌≡◌, ℕ, suc, ◌-◌, ◌+◌, ◌≤◌, ◌<◌, List, [], ◌∷◌, ◌++◌, length, eqb, true, false, Result, Ok, Err, refl, sym, ap, ◌∙◌, append_assoc, arith}
use Rattle.std.proofs.lemmas.List.{append-nil}
use Rattle.aml_pkg.specs.declared.item.Element.{Element}
use Rattle.aml_pkg.specs.declared.fault.AmlKind.TheVariants.{BadLength}
use Rattle.aml_pkg.specs.declared.fault.AmlFault.{AmlFault}
use Rattle.aml_pkg.specs.declared.window.Window.{Window}
use Rattle.aml_pkg.specs.declared.fault.ReadError.{ReadError}
use Rattle.aml_pkg.specs.declared.fault.ReadError.TheVariants as errors
use Rattle.aml_pkg.specs.Windows.{behind, fault_at}
use Rattle.aml_pkg.specs.Reading.{◌>>=◌, Fails, element_at, elements_at}

-- what was read before, and what is still read
abbrev pub with_front : List Element → Result (List Element) AmlFault → Result (List Element) AmlFault
with_front front read = read >>= λ es. Ok (front ++ es)

regroup : (front : List Element) (e : Element) (read : Result (List Element) AmlFault)
    → with_front front (read >>= λ es. Ok (e ∷ es)) ≡ with_front (front ++ e ∷ []) read
regroup front e (Ok es) = ap Ok (simp append_assoc)
regroup front e (Err f) = refl

pub loop_start : (n : ℕ) (read total : Result (List Element) AmlFault) → read ≡ total → with_front [] read ≡ total
loop_start n (Ok es) total h = h
loop_start n (Err f) total h = h

pub loop_more : (front : List Element) (n i : ℕ) (w : Window) (b : List ℕ) (e : Element) (after : List ℕ) (total : Result (List Element) AmlFault)
    → i < n → element_at w b ≡ Ok (e, after)
    → with_front front (elements_at (n - i) w b) ≡ total → with_front (front ++ e ∷ []) (elements_at (n - (i + 1)) (behind w 1) after) ≡ total
unfolding elements_at
loop_more front n i w b e after total lt h so_far =
    let k : n - i ≡ suc (n - (i + 1)) = omega arith in
    let one : with_front front (elements_at (n - i) w b) ≡ with_front (front ++ e ∷ []) (elements_at (n - (i + 1)) (behind w 1) after) = rw (k, h) (regroup front e (elements_at (n - (i + 1)) (behind w 1) after)) in
    sym one ∙ so_far

pub loop_fails : (e : ReadError) (front : List Element) (n i : ℕ) (w : Window) (b : List ℕ) (total : Result (List Element) AmlFault) → i < n
    → Fails e (element_at w b)
    → with_front front (elements_at (n - i) w b) ≡ total → Fails e total
unfolding elements_at
loop_fails errors.NoMemory front n i w b total lt h so_far = tt
loop_fails (errors.Fault f) front n i w b total lt h so_far =
    let k : n - i ≡ suc (n - (i + 1)) = omega arith in
    let one : with_front front (elements_at (n - i) w b) ≡ Err f = rw (k, h) refl in
    sym so_far ∙ one

pub loop_end : (front : List Element) (n i : ℕ) (w : Window) (b : List ℕ) (total : Result (List Element) AmlFault) → n ≤ i → eqb (length b) 0 ≡ true
    → with_front front (elements_at (n - i) w b) ≡ total → total ≡ Ok front
unfolding elements_at
loop_end front n i w b total le none so_far =
    let k : n - i ≡ 0 = omega arith in
    let one : with_front front (elements_at (n - i) w b) ≡ Ok front = rw (k, none) (ap Ok (append-nil front)) in
    sym so_far ∙ one

pub loop_over : (front : List Element) (n i : ℕ) (w : Window) (b : List ℕ) (total : Result (List Element) AmlFault) → n ≤ i → eqb (length b) 0 ≡ false
    → with_front front (elements_at (n - i) w b) ≡ total → total ≡ Err (fault_at w b BadLength)
unfolding elements_at
loop_over front n i w b total le some so_far =
    let k : n - i ≡ 0 = omega arith in
    let one : with_front front (elements_at (n - i) w b) ≡ Err (fault_at w b BadLength) = rw (k, some) refl in
    sym so_far ∙ one
