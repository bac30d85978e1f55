-- Loops over caps.
use Rattle.std.proofs.Common.{◌≡◌, ℕ, ◌+◌, ◌-◌, ◌<◌, ◌≤◌, cond, leb, ltb, List, [], ◌∷◌, length, get_or, drop, Option, Some, None, refl, ap, ◌∙◌, arith}
use Rattle.std.specs.Prelude.{fold}
use Rattle.std.proofs.lemmas.Bool.{le-leb, le-ltb, lt-leb, lt-ltb}
use Rattle.std.proofs.lemmas.List.{drop_all, drop_more}
use Rattle.cppc_device.specs.declared.cap.Cap.{Cap}
use Rattle.cppc_device.specs.Openings.{cap_order, order_after}

-- ---- the cap in force

abbrev pub force_from : ℕ → Option ℕ → List Cap → Option ℕ
force_from count held caps = fold (λ held cap. cond (leb cap.count count) (Some cap.value) held) held caps

force_step : (caps : List Cap) (count : ℕ) (held : Option ℕ) (i : ℕ) (cap : Cap) → i < length caps → get_or caps i cap ≡ cap
    → force_from count held (drop i caps) ≡ force_from count (cond (leb cap.count count) (Some cap.value) held) (drop (i + 1) caps)
force_step caps count held i cap lt is =
    ap (force_from count held) (drop_more caps i cap lt)
    ∙ ap (λ (c : Cap). force_from count (cond (leb c.count count) (Some c.value) held) (drop (i + 1) caps)) is

pub force_more : (caps : List Cap) (count : ℕ) (held : Option ℕ) (i : ℕ) (cap : Cap) → i < length caps → get_or caps i cap ≡ cap → cap.count ≤ count
    → force_from count held (drop i caps) ≡ force_from count (Some cap.value) (drop (i + 1) caps)
force_more caps count held i cap lt is le =
    force_step caps count held i cap lt is
    ∙ ap (λ b. force_from count (cond b (Some cap.value) held) (drop (i + 1) caps)) (le-leb cap.count count le)

pub force_other : (caps : List Cap) (count : ℕ) (held : Option ℕ) (i : ℕ) (cap : Cap) → i < length caps → get_or caps i cap ≡ cap → count < cap.count
    → force_from count held (drop i caps) ≡ force_from count held (drop (i + 1) caps)
force_other caps count held i cap lt is later =
    force_step caps count held i cap lt is
    ∙ ap (λ b. force_from count (cond b (Some cap.value) held) (drop (i + 1) caps)) (lt-leb cap.count count later)

pub force_end : (caps : List Cap) (count : ℕ) (held : Option ℕ) (i : ℕ) → length caps ≤ i → force_from count held (drop i caps) ≡ held
force_end caps count held i past = ap (force_from count held) (drop_all i caps past)

-- ---- the order of caps

abbrev pub no_cap : Cap
no_cap = record { count = 0; value = 0 }

abbrev pub order_at : List Cap → ℕ → Option ℕ
order_at caps i = order_after (get_or caps (i - 1) no_cap).count i (drop i caps)

pub order_start : (caps : List Cap) → order_at caps 1 ≡ cap_order caps
order_start [] = refl
order_start (cap ∷ caps) = refl

order_step : (caps : List Cap) (i : ℕ) → i < length caps
    → order_at caps i ≡ cond (ltb (get_or caps (i - 1) no_cap).count (get_or caps i no_cap).count) (order_at caps (i + 1)) (Some i)
order_step caps i lt =
    let same : i ≡ i + 1 - 1 = omega arith in
    ap (order_after (get_or caps (i - 1) no_cap).count i) (drop_more caps i no_cap lt)
    ∙ ap (λ (k : ℕ). cond (ltb (get_or caps (i - 1) no_cap).count (get_or caps i no_cap).count)
    (order_after (get_or caps k no_cap).count (i + 1) (drop (i + 1) caps)) (Some i)) same

pub order_more : (caps : List Cap) (i : ℕ) → i < length caps → (get_or caps (i - 1) no_cap).count < (get_or caps i no_cap).count
    → order_at caps i ≡ order_at caps (i + 1)
order_more caps i lt rises =
    order_step caps i lt ∙ ap (λ b. cond b (order_at caps (i + 1)) (Some i)) (lt-ltb (get_or caps (i - 1) no_cap).count (get_or caps i no_cap).count rises)

pub order_hit : (caps : List Cap) (i : ℕ) → i < length caps → (get_or caps i no_cap).count ≤ (get_or caps (i - 1) no_cap).count
    → order_at caps i ≡ Some i
order_hit caps i lt falls =
    order_step caps i lt ∙ ap (λ b. cond b (order_at caps (i + 1)) (Some i)) (le-ltb (get_or caps (i - 1) no_cap).count (get_or caps i no_cap).count falls)

pub order_end : (caps : List Cap) (i : ℕ) → length caps ≤ i → order_at caps i ≡ None
order_end caps i past = ap (order_after (get_or caps (i - 1) no_cap).count i) (drop_all i caps past)
