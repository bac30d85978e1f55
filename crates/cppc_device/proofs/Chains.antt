-- Numbers that don't fall.
use Rattle.std.proofs.Common.{◌≡◌, ℕ, ◌+◌, ◌<◌, ◌≤◌, List, ◌∷◌, length, get_or, drop, Option, Some, None, inl, inr, sym, ap, ◌∙◌, subst, arith}
use Rattle.std.proofs.lemmas.Bool.{cases_lt}
use Rattle.std.proofs.lemmas.List.{drop_all, drop_more, get_or_default}
use Rattle.cpc_package.specs.declared.binding.Binding.{Binding}
use Rattle.cppc_device.specs.Ranges.{InRange, IsStartOutside, Rises}

-- the numbers from place i on, with the last one before them
pub record Rest (numbers : List (Option ℕ)) (last i : ℕ) : Type 0 where
  pub to : Rises last (drop i numbers) → Rises 0 numbers
  pub from : Rises 0 numbers → Rises last (drop i numbers)

pub rises_start : (numbers : List (Option ℕ)) → Rest numbers 0 0
rises_start numbers = record { to = λ h. h; from = λ h. h }

opened : (numbers : List (Option ℕ)) (i : ℕ) (o : Option ℕ) → i < length numbers → get_or numbers i None ≡ o → drop i numbers ≡ o ∷ drop (i + 1) numbers
opened numbers i o lt is = drop_more numbers i None lt ∙ ap (λ (x : Option ℕ). x ∷ drop (i + 1) numbers) is

pub rises_more : (numbers : List (Option ℕ)) (last number i : ℕ) → i < length numbers → get_or numbers i None ≡ Some number → last ≤ number
    → Rest numbers last i → Rest numbers number (i + 1)
rises_more numbers last number i lt is le rest =
    let e : drop i numbers ≡ Some number ∷ drop (i + 1) numbers = opened numbers i (Some number) lt is in
    record {
      to = λ h. rest.to (subst (Rises last) (sym e) (le, h));
      from = λ h. (subst (Rises last) e (rest.from h)).1;
    }

pub rises_other : (numbers : List (Option ℕ)) (last i : ℕ) → i < length numbers → get_or numbers i None ≡ None → Rest numbers last i
    → Rest numbers last (i + 1)
rises_other numbers last i lt is rest =
    let e : drop i numbers ≡ None ∷ drop (i + 1) numbers = opened numbers i None lt is in
    record {
      to = λ h. rest.to (subst (Rises last) (sym e) h);
      from = λ h. subst (Rises last) e (rest.from h);
    }

pub rises_hit : (numbers : List (Option ℕ)) (last number i : ℕ) → i < length numbers → get_or numbers i None ≡ Some number → number < last
    → Rest numbers last i → Rises 0 numbers → ⊥
rises_hit numbers last number i lt is falls rest h =
    let e : drop i numbers ≡ Some number ∷ drop (i + 1) numbers = opened numbers i (Some number) lt is in
    let le : last ≤ number = (subst (Rises last) e (rest.from h)).0 in
    omega arith

pub rises_end : (numbers : List (Option ℕ)) (last i : ℕ) → length numbers ≤ i → Rest numbers last i → Rises 0 numbers
rises_end numbers last i past rest = rest.to (subst (Rises last) (sym (drop_all i numbers past)) tt)

-- ---- processors in their ranges

-- the first n processors are
pub record Inside (cpus : List Binding) (space : List ℕ) (n : ℕ) : Type 0 where
  pub front : (k : ℕ) (d : Binding) → k < n → InRange (get_or cpus k d) space

pub inside_start : (cpus : List Binding) (space : List ℕ) → Inside cpus space 0
inside_start cpus space = record { front = λ k d lt. absurd (omega arith) }

any_default : (cpus : List Binding) (n : ℕ) (d e : Binding) → n < length cpus → get_or cpus n d ≡ get_or cpus n e
any_default cpus n d e lt = get_or_default cpus n d e lt

pub inside_more : (cpus : List Binding) (space : List ℕ) (n : ℕ) (d : Binding) → n < length cpus → InRange (get_or cpus n d) space → Inside cpus space n
    → Inside cpus space (n + 1)
inside_more cpus space n d lt here before = record {
  front = λ k e below. elim (cases_lt k n) [
    | inl h ↦ before.front k e h
    | inr h ↦
        let same : n ≡ k = omega arith in
        subst (λ (j : ℕ). InRange (get_or cpus j e) space) same (subst (λ (cpu : Binding). InRange cpu space) (any_default cpus n d e lt) here)
  ];
}

pub inside_out : (cpus : List Binding) (space : List ℕ) (n : ℕ) (d : Binding) → n < length cpus → (InRange (get_or cpus n d) space → ⊥)
    → Inside cpus space n → IsStartOutside cpus space (record { cpu = n })
inside_out cpus space n d lt out before = record {
  within = lt;
  out = λ e h. out (subst (λ (cpu : Binding). InRange cpu space) (any_default cpus n e d lt) h);
  before = λ k e below. before.front k e below;
}
