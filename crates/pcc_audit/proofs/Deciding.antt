-- Each demand on a command is kept or it isn't.
use Rattle.std.proofs.Common.{◌≡◌, ◌⊎◌, inl, inr, ℕ, zero, suc, ◌+◌, ◌*◌, ◌<◌, ◌≤◌, Bool, true, false, List, [], ◌∷◌, length, get_or, slice_index, refl, sym, ap, ◌∙◌, subst, arith}
use Rattle.std.specs.Prelude.{Option, Some, None}
use Rattle.std.proofs.lemmas.Bool.{cases_eq, cases_lt}
use Rattle.pcc_bytes.specs.Bytes.{IsBytes}
use Rattle.pcc_gas.specs.Fields.{InField, bit_of}
use Rattle.pcc_gas.specs.declared.field.Field.{Field}
use Rattle.pcc_history.specs.Channel.{Exchange, both}
use Rattle.pcc_history.specs.Devices.{Device}
use Rattle.pcc_history.specs.Histories.{Legal}
use Rattle.rate_limit.specs.declared.Limits.{Limits}
use Rattle.pcc_journal.specs.declared.text.JournalHead.{JournalHead}
use Rattle.cpc_package.specs.Bindings.{source_at}
use Rattle.cpc_package.specs.declared.binding.Binding.{Binding}
use Rattle.cpc_package.specs.declared.binding.Source1.{Source1}
use Rattle.cpc_package.specs.declared.binding.Source1.TheVariants.{Missing, Number, At}
use Rattle.cppc_device.specs.Ranges.{Rises, performances}
use Rattle.cppc_headline.specs.Journals.{AreInRange, DifferInWish, IsUntouched, IsWishBit}
use Rattle.pcc_audit.specs.WishBits.{IsBitOf, WishBitsDiffer}
use Rattle.pcc_audit.proofs.Bits.{Inside, NoneDiffers, bits_end, bits_out, bits_same, bits_start, bits_wish, desired_bit, inside_end, inside_more, inside_out, inside_start, maximum_bit, minimum_bit, no_wish_bit, none_end, none_more, none_start, one_differs}

abbrev pub Decided : Type 0 → Type 0
Decided P = P ⊎ (P → ⊥)

pub also : {P Q : Type 0} → Decided P → Decided Q → Decided (P × Q)
also (inr p) q = inr (λ x. p x.0)
also (inl p) (inr q) = inr (λ x. q x.1)
also (inl p) (inl q) = inl (p, q)

pub if_so : {P Q : Type 0} → Decided P → Decided Q → Decided (P → Q)
if_so (inr p) q = inl (λ x. absurd (p x))
if_so (inl p) (inr q) = inr (λ f. q (f p))
if_so (inl p) (inl q) = inl (λ x. q)

pub as_well : {P Q : Type 0} → (P → Q) → (Q → P) → Decided P → Decided Q
as_well to from (inl p) = inl (to p)
as_well to from (inr p) = inr (λ q. p (from q))

pub at_most : (m n : ℕ) → Decided (m ≤ n)
at_most m n = elim (cases_lt n m) [
  | inl lt ↦ inr (λ le. absurd (omega (arith, lt, le)))
  | inr le ↦ inl le
]

pub same_truth : (a b : Bool) → Decided (a ≡ b)
same_truth true true = inl refl
same_truth true false = inr (λ e. absurd cc)
same_truth false true = inr (λ e. absurd cc)
same_truth false false = inl refl

head_of : ℕ → List ℕ → ℕ
head_of d [] = d
head_of d (x ∷ xs) = x

rest_of : List ℕ → List ℕ
rest_of [] = []
rest_of (x ∷ xs) = xs

cons_same : (x y : ℕ) (xs ys : List ℕ) → (x ≡ y) × (xs ≡ ys) → ◌≡◌ {A = List ℕ} (x ∷ xs) (y ∷ ys)
cons_same x y xs ys h = ap (λ (n : ℕ). n ∷ xs) h.0 ∙ ap (λ (v : List ℕ). y ∷ v) h.1

cons_parts : (x y : ℕ) (xs ys : List ℕ) → ◌≡◌ {A = List ℕ} (x ∷ xs) (y ∷ ys) → (x ≡ y) × (xs ≡ ys)
unfolding head_of rest_of
cons_parts x y xs ys e = (ap (head_of x) e, ap rest_of e)

pub same_bytes : (xs ys : List ℕ) → Decided (xs ≡ ys)
same_bytes [] [] = inl refl
same_bytes [] (y ∷ ys) = inr (λ e. absurd cc)
same_bytes (x ∷ xs) [] = inr (λ e. absurd cc)
same_bytes (x ∷ xs) (y ∷ ys) = as_well (cons_same x y xs ys) (cons_parts x y xs ys) (also (cases_eq x y) (same_bytes xs ys))

-- ---- the head

abbrev LimitsParts : Limits → Limits → Type 0
LimitsParts a b = (a.turnaround ≡ b.turnaround) × (a.per_minute ≡ b.per_minute)

limits_same : (a b : Limits) → LimitsParts a b → a ≡ b
limits_same a b h = λ k. record { turnaround = h.0 k; per_minute = h.1 k }

limits_parts : (a b : Limits) → a ≡ b → LimitsParts a b
limits_parts a b e = (ap (λ (l : Limits). l.turnaround) e, ap (λ (l : Limits). l.per_minute) e)

same_limits : (a b : Limits) → Decided (a ≡ b)
same_limits a b = as_well (limits_same a b) (limits_parts a b) (also (cases_eq a.turnaround b.turnaround) (cases_eq a.per_minute b.per_minute))

abbrev HeadParts : JournalHead → JournalHead → Type 0
HeadParts a b =
    (((a.id ≡ b.id) × (a.kind ≡ b.kind)) × ((a.cppc ≡ b.cppc) × (a.reports ≡ b.reports))) × ((a.room ≡ b.room) × (a.limits ≡ b.limits))

head_same : (a b : JournalHead) → HeadParts a b → a ≡ b
head_same a b h = λ k. record {
  id = h.0.0.0 k;
  kind = h.0.0.1 k;
  cppc = h.0.1.0 k;
  room = h.1.0 k;
  limits = h.1.1 k;
  reports = h.0.1.1 k;
}

head_parts : (a b : JournalHead) → a ≡ b → HeadParts a b
head_parts a b e = (
  (
    (ap (λ (h : JournalHead). h.id) e, ap (λ (h : JournalHead). h.kind) e),
    (ap (λ (h : JournalHead). h.cppc) e, ap (λ (h : JournalHead). h.reports) e),
  ),
  (ap (λ (h : JournalHead). h.room) e, ap (λ (h : JournalHead). h.limits) e),
)

pub same_head : (a b : JournalHead) → Decided (a ≡ b)
same_head a b = as_well (head_same a b) (head_parts a b)
    (also (also (also (cases_eq a.id b.id) (cases_eq a.kind b.kind)) (also (same_truth a.cppc b.cppc) (same_truth a.reports b.reports)))
    (also (cases_eq a.room b.room) (same_limits a.limits b.limits)))

-- ---- the reply

pub legal_decided : (exec : Device) (reports : Bool) (state : List ℕ) (c : Exchange) → Decided (Legal exec reports state (c ∷ []))
legal_decided exec reports state c =
    as_well (λ h. (h.0, h.1, tt)) (λ h. (h.0, h.1))
    (also (same_truth c.error (both reports (exec state c.code c.input).bad)) (same_bytes c.output (exec state c.code c.input).space))

-- ---- wishes

in_field : (f : Field) (bit : ℕ) → Decided (InField f bit)
in_field f bit = as_well (λ h. record { from = h.0; below = h.1 }) (λ h. (h.from, h.below)) (also (at_most f.at_bit bit) (at_most (suc bit) (f.at_bit + f.width)))

bit_of_source : (s : Source1) (bit : ℕ) → Decided (IsBitOf s bit)
bit_of_source Missing bit = inr (λ h. h)
bit_of_source (Number v) bit = inr (λ h. h)
bit_of_source (At f) bit = in_field f bit

wish_bit : (cpu : Binding) (bit : ℕ) → Decided (IsWishBit cpu bit)
wish_bit cpu bit = elim (bit_of_source (source_at cpu 7) bit) [
  | inl desired ↦ inl (desired_bit cpu bit desired)
  | inr no_desired ↦ elim (bit_of_source (source_at cpu 8) bit) [
    | inl minimum ↦ inl (minimum_bit cpu bit minimum)
    | inr no_minimum ↦ elim (bit_of_source (source_at cpu 9) bit) [
      | inl maximum ↦ inl (maximum_bit cpu bit maximum)
      | inr no_maximum ↦ inr (no_wish_bit cpu bit no_desired no_minimum no_maximum)
    ]
  ]
]

next : (n : ℕ) → n + 1 ≡ suc n
next n = omega arith

wish_bits : (cpu : Binding) (before input : List ℕ) (n : ℕ) → Decided (WishBitsDiffer cpu before input 0 n)
wish_bits cpu before input zero = inl (bits_start cpu before input 0)
wish_bits cpu before input (suc n) = elim (wish_bits cpu before input n) [
  | inr out ↦ inr (λ w. out (bits_end cpu before input 0 (suc n) n (omega arith) w))
  | inl w ↦ elim (cases_eq (bit_of input n) (bit_of before n)) [
    | inl same ↦ inl (subst (WishBitsDiffer cpu before input 0) (next n) (bits_same cpu before input 0 n same w))
    | inr other ↦ elim (wish_bit cpu n) [
      | inl is ↦ inl (subst (WishBitsDiffer cpu before input 0) (next n) (bits_wish cpu before input 0 n is w))
      | inr out ↦ inr (bits_out cpu before input 0 n (suc n) (omega arith) (omega arith) other out)
    ]
  ]
]

bytes_cons : (x : ℕ) (xs : List ℕ) → (x < 256) × IsBytes xs → IsBytes (x ∷ xs)
bytes_cons x xs h = record { fits = fits }
  where
    fits : (place : ℕ) → slice_index (x ∷ xs) place < 256
    fits zero = h.0
    fits (suc place) = h.1.fits place

bytes_parts : (x : ℕ) (xs : List ℕ) → IsBytes (x ∷ xs) → (x < 256) × IsBytes xs
bytes_parts x xs h = (h.fits 0, record { fits = λ place. h.fits (suc place) })

bytes_decided : (xs : List ℕ) → Decided (IsBytes xs)
bytes_decided [] = inl (record { fits = λ place. omega arith })
bytes_decided (x ∷ xs) = as_well (bytes_cons x xs) (bytes_parts x xs) (also (at_most (suc x) 256) (bytes_decided xs))

one_or_none : (cpus : List Binding) (before input : List ℕ) (n : ℕ) → n ≤ length cpus → length before ≡ length input → IsBytes input
    → DifferInWish cpus before input ⊎ NoneDiffers cpus before input n
one_or_none cpus before input zero le len bytes = inr (none_start cpus before input)
one_or_none [] before input (suc n) le len bytes = absurd (omega (arith, le))
one_or_none (c ∷ cs) before input (suc n) le len bytes =
    let lt : n < length (c ∷ cs) = le in
    elim (one_or_none (c ∷ cs) before input n (omega (arith, le)) len bytes) [
      | inl found ↦ inl found
      | inr none ↦ elim (wish_bits (get_or (c ∷ cs) n c) before input (8 * length input)) [
        | inl here ↦ inl (one_differs (c ∷ cs) before input n c lt len bytes here)
        | inr out ↦ inr (subst (NoneDiffers (c ∷ cs) before input) (next n) (none_more (c ∷ cs) before input n c lt out none))
      ]
    ]

wish_decided : (cpus : List Binding) (before input : List ℕ) → Decided (DifferInWish cpus before input)
wish_decided cpus before input = elim (cases_eq (length before) (length input)) [
  | inr other ↦ inr (λ x. other (sym x.len))
  | inl len ↦ elim (bytes_decided input) [
    | inr out ↦ inr (λ x. out x.bytes)
    | inl bytes ↦ elim (one_or_none cpus before input (length cpus) (omega arith) len bytes) [
      | inl found ↦ inl found
      | inr none ↦ inr (none_end cpus before input (length cpus) (omega arith) none)
    ]
  ]
]

pub untouched_decided : (cpus : List Binding) (before : List ℕ) (code : ℕ) (input : List ℕ) → Decided (IsUntouched cpus before code input)
untouched_decided cpus before code input =
    as_well (λ h. record { reads = h.0; writes = h.1 }) (λ h. (h.reads, h.writes))
    (also (if_so (cases_eq code 0) (same_bytes input before)) (if_so (cases_eq code 1) (wish_decided cpus before input)))

-- ---- ranges

rises_decided : (last : ℕ) (numbers : List (Option ℕ)) → Decided (Rises last numbers)
rises_decided last [] = inl tt
rises_decided last (None ∷ rest) = rises_decided last rest
rises_decided last (Some number ∷ rest) = also (at_most last number) (rises_decided number rest)

inside_to : (cpus : List Binding) (space : List ℕ) (n : ℕ) → n ≤ length cpus → Inside cpus space n ⊎ (AreInRange cpus space → ⊥)
inside_to cpus space zero le = inl (inside_start cpus space)
inside_to [] space (suc n) le = absurd (omega (arith, le))
inside_to (c ∷ cs) space (suc n) le =
    let lt : n < length (c ∷ cs) = le in
    elim (inside_to (c ∷ cs) space n (omega (arith, le))) [
      | inr out ↦ inr out
      | inl front ↦ elim (rises_decided 0 (performances (get_or (c ∷ cs) n c) space)) [
        | inl here ↦ inl (subst (Inside (c ∷ cs) space) (next n) (inside_more (c ∷ cs) space n c lt here front))
        | inr out ↦ inr (inside_out (c ∷ cs) space n c lt out)
      ]
    ]

pub range_decided : (cpus : List Binding) (space : List ℕ) → Decided (AreInRange cpus space)
range_decided cpus space = elim (inside_to cpus space (length cpus) (omega arith)) [
  | inl all ↦ inl (inside_end cpus space (length cpus) (omega arith) all)
  | inr out ↦ inr out
]
