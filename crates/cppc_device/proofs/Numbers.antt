-- Loops over entries.
use Rattle.std.proofs.Common.{◌≡◌, ℕ, ◌+◌, ◌<◌, ◌≤◌, List, length, get_or, map, set, replicate, Option, None, inl, inr, refl, sym, ap, ◌∙◌, subst, zero-add, arith}
use Rattle.std.proofs.lemmas.Bool.{cases_lt}
use Rattle.std.proofs.lemmas.List.{ext_get_or, get_or-map, get_or-set_other, get_or-set_same, length-map, length-replicate, length-set}
use Rattle.std.specs.List.{range_with_len}
use Rattle.std.proofs.lemmas.List.FromFn.{length-range_with_len, get_or-range_with_len}
use Rattle.cpc_package.specs.Bindings.{CanRead, IsRight, LiesIn, number_in, source_at}
use Rattle.cpc_package.specs.declared.binding.Binding.{Binding}
use Rattle.cpc_package.specs.declared.binding.Source1.{Source1}
use Rattle.cpc_package.specs.declared.binding.Source1.TheVariants.{Missing, Number, At}
use Rattle.cppc_device.specs.Ranges.{values_in}

-- the numbers of the first n sources
pub record Numbered (sources : List Source1) (space : List ℕ) (n : ℕ) (entries : List (Option ℕ)) : Type 0 where
  pub len : length entries ≡ 23
  pub each : (k : ℕ) → k < n → get_or entries k None ≡ number_in (get_or sources k Missing) space

no_number : Option ℕ
no_number = None

pub values_start : (sources : List Source1) (space : List ℕ) → Numbered sources space 0 (replicate 23 None)
values_start sources space = record { len = length-replicate 23 no_number; each = λ k lt. absurd (omega arith) }

pub values_more : (sources : List Source1) (space : List ℕ) (n : ℕ) (entries : List (Option ℕ)) (number : Option ℕ) → n < 23
    → number ≡ number_in (get_or sources n Missing) space → Numbered sources space n entries → Numbered sources space (n + 1) (set entries n number)
values_more sources space n entries number lt is before =
    let all : length entries ≡ 23 = before.len in
    record {
      len = length-set entries n number ∙ all;
      each = λ k below. elim (cases_lt k n) [
        | inl h ↦ get_or-set_other entries n k number None (λ e. omega arith) ∙ before.each k h
        | inr h ↦
            let same : n ≡ k = omega arith in
            subst (λ (j : ℕ). get_or (set entries n number) j None ≡ number_in (get_or sources j Missing) space) same
            (get_or-set_same entries n number None (omega arith) ∙ is)
      ];
    }

pub values_end : (cpu : Binding) (space : List ℕ) (n : ℕ) (entries : List (Option ℕ)) → 23 ≤ n → Numbered cpu.sources space n entries
    → entries ≡ values_in cpu space
values_end cpu space n entries past all =
    let number : ℕ → Option ℕ = λ k. number_in (source_at cpu k) space in
    let long : length (range_with_len 0 23) ≡ 23 = length-range_with_len 0 23 in
    ext_get_or None entries (map number (range_with_len 0 23)) (all.len ∙ sym (length-map (range_with_len 0 23) number ∙ long)) (λ k lt.
    let small : k < 23 = omega (arith, all.len) in
    all.each k (omega arith)
    ∙ sym (get_or-map number (range_with_len 0 23) k 0 None (omega (arith, long)) ∙ ap number (get_or-range_with_len 0 23 k 0 small ∙ zero-add k)))

-- ---- the fields of a right processor can be read

read_by : (cpu : Binding) (len n : ℕ) (s : Source1) → IsRight cpu → LiesIn len cpu → source_at cpu n ≡ s → CanRead len s
read_by cpu len n Missing right inside is = tt
read_by cpu len n (Number value) right inside is = tt
read_by cpu len n (At field) right inside is = (right.widths n field is, inside n field is)

pub can_read : (cpu : Binding) (len n : ℕ) → IsRight cpu → LiesIn len cpu → CanRead len (source_at cpu n)
can_read cpu len n right inside = read_by cpu len n (source_at cpu n) right inside refl
