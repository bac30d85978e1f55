-- A post may be added exactly from the earliest reading on.
use Rattle.std.proofs.Common.{◌≡◌, ◌≢◌, inl, inr, ℕ, zero, suc, ◌+◌, ◌-◌, ◌<◌, ◌≤◌, eqb, ltb, true, false, List, [], ◌∷◌, ◌++◌, length, slice_index, refl, ap, ◌∙◌, arith}
use Rattle.std.specs.Prelude.{Some, None}
use Rattle.std.proofs.lemmas.Bool.{cases_lt}
use Rattle.std.proofs.lemmas.Bool.Decides.{nat_tests}
use Rattle.std.proofs.lemmas.List.{get_or_append_left, get_or_at, length_push}
use Rattle.rate_limit.specs.declared.Limits.{Limits}
use Rattle.rate_limit.specs.declared.Times.{Times}
use Rattle.rate_limit.specs.RateLimits.{after_turnaround, after_minute, times_at, earliest_of, posts_of, minute, WithinLimits}

length_posts : (ts : List Times) → length (posts_of ts None) ≡ length ts
length_posts [] = refl
length_posts (t ∷ ts) = ap suc (length_posts ts)

length_pending : (ts : List Times) (p : ℕ) → length (posts_of ts (Some p)) ≡ length ts + 1
length_pending ts p = length_push (posts_of ts None) p ∙ ap (λ (n : ℕ). n + 1) (length_posts ts)

post_or : (ts : List Times) (i : ℕ) → slice_index (posts_of ts None) i ≡ (times_at ts i).post
post_or [] i = refl
post_or (t ∷ ts) zero = refl
post_or (t ∷ ts) (suc i) = post_or ts i

post_at : (ts : List Times) (i : ℕ) → i < length ts → slice_index (posts_of ts None) i ≡ (times_at ts i).post
post_at ts i lt = post_or ts i

front : (ts : List Times) (p i : ℕ) → i < length ts → slice_index (posts_of ts (Some p)) i ≡ slice_index (posts_of ts None) i
front ts p i lt = let n = length_posts ts in get_or_append_left (posts_of ts None) (p ∷ []) 0 i (omega arith)

last : (ts : List Times) (p i : ℕ) → i ≡ length ts → slice_index (posts_of ts (Some p)) i ≡ p
last ts p i e = let n = length_posts ts in get_or_at (posts_of ts None) p [] 0 i (omega arith)

done_is : (l : Limits) (ts : List Times) (i : ℕ) → i + 1 ≡ length ts → after_turnaround l ts ≡ (times_at ts i).done + l.turnaround
done_is l ts i e =
    let z : eqb (length ts) 0 ≡ false = grind (arith, nat_tests) in
    let k : length ts - 1 ≡ i = omega arith in
    rw (z, k) refl

done_none : (l : Limits) (ts : List Times) → length ts ≡ 0 → after_turnaround l ts ≡ 0
done_none l ts e = let z : eqb (length ts) 0 ≡ true = grind (arith, nat_tests) in rw z refl

rate_is : (l : Limits) (ts : List Times) (i : ℕ) → l.per_minute ≢ 0 → i + l.per_minute ≡ length ts → after_minute l ts ≡ (times_at ts i).post + minute
rate_is l ts i m e =
    let z : eqb l.per_minute 0 ≡ false = grind (arith, nat_tests) in
    let s : ltb (length ts) l.per_minute ≡ false = grind (arith, nat_tests) in
    let k : length ts - l.per_minute ≡ i = omega arith in
    rw (z, s, k) refl

rate_none : (l : Limits) (ts : List Times) → l.per_minute ≡ 0 → after_minute l ts ≡ 0
rate_none l ts e = let z : eqb l.per_minute 0 ≡ true = grind (arith, nat_tests) in rw z refl

rate_few : (l : Limits) (ts : List Times) → length ts < l.per_minute → after_minute l ts ≡ 0
rate_few l ts e =
    let z : eqb l.per_minute 0 ≡ false = grind (arith, nat_tests) in
    let s : ltb (length ts) l.per_minute ≡ true = grind (arith, nat_tests) in
    rw (z, s) refl

-- ---- from the limits to the earliest

done_kept : (l : Limits) (ts : List Times) (p : ℕ) → WithinLimits l ts (Some p) → after_turnaround l ts ≤ p
done_kept l ts p w =
    let n : length (posts_of ts (Some p)) ≡ length ts + 1 = length_pending ts p in
    elim (cases_lt 0 (length ts)) [
      | inl some ↦
          let i : ℕ = length ts - 1 in
          let e : i + 1 ≡ length ts = omega arith in
          let h = w.turnaround i (omega arith) in
          rw (done_is l ts i e) (rw (last ts p (i + 1) e) at h)
      | inr none ↦ rw (done_none l ts (omega arith)) (omega arith)
    ]

rate_kept : (l : Limits) (ts : List Times) (p : ℕ) → WithinLimits l ts (Some p) → after_minute l ts ≤ p
rate_kept l ts p w =
    let n : length (posts_of ts (Some p)) ≡ length ts + 1 = length_pending ts p in
    elim (cases_lt 0 l.per_minute) [
      | inr zero_rate ↦ rw (rate_none l ts (omega arith)) (omega arith)
      | inl some ↦ elim (cases_lt (length ts) l.per_minute) [
        | inl few ↦ rw (rate_few l ts few) (omega arith)
        | inr many ↦
            let i : ℕ = length ts - l.per_minute in
            let e : i + l.per_minute ≡ length ts = omega arith in
            let m : l.per_minute ≢ 0 = omega arith in
            let h = w.rate i m (omega arith) in
            rw (rate_is l ts i m e, ← post_at ts i (omega arith)) (rw (front ts p i (omega arith), last ts p (i + l.per_minute) e) at h)
      ]
    ]

-- ---- and back

turnaround_holds : (l : Limits) (ts : List Times) (p : ℕ) → WithinLimits l ts None → after_turnaround l ts ≤ p → (i : ℕ)
    → i + 1 < length (posts_of ts (Some p)) → (times_at ts i).done + l.turnaround ≤ slice_index (posts_of ts (Some p)) (i + 1)
turnaround_holds l ts p w d i lt =
    let n : length (posts_of ts (Some p)) ≡ length ts + 1 = length_pending ts p in
    let k = length_posts ts in
    elim (cases_lt (i + 1) (length ts)) [
      | inl inside ↦ rw (front ts p (i + 1) inside) (w.turnaround i (omega arith))
      | inr edge ↦
          let e : i + 1 ≡ length ts = omega arith in
          rw (last ts p (i + 1) e) (rw (done_is l ts i e) at d)
    ]

rate_holds : (l : Limits) (ts : List Times) (p : ℕ) → WithinLimits l ts None → after_minute l ts ≤ p → (i : ℕ) → l.per_minute ≢ 0
    → i + l.per_minute < length (posts_of ts (Some p))
    → slice_index (posts_of ts (Some p)) i + minute ≤ slice_index (posts_of ts (Some p)) (i + l.per_minute)
rate_holds l ts p w d i m lt =
    let n : length (posts_of ts (Some p)) ≡ length ts + 1 = length_pending ts p in
    let k = length_posts ts in
    let some : 0 < l.per_minute = omega arith in
    elim (cases_lt (i + l.per_minute) (length ts)) [
      | inl inside ↦ rw (front ts p i (omega arith), front ts p (i + l.per_minute) inside) (w.rate i m (omega arith))
      | inr edge ↦
          let e : i + l.per_minute ≡ length ts = omega arith in
          rw (front ts p i (omega arith), last ts p (i + l.per_minute) e, post_at ts i (omega arith)) (rw (rate_is l ts i m e) at d)
    ]

pub exact : (l : Limits) (ts : List Times) (p : ℕ) → WithinLimits l ts None
    → (WithinLimits l ts (Some p) → earliest_of l ts ≤ p) × (earliest_of l ts ≤ p → WithinLimits l ts (Some p))
exact l ts p w = (
  λ k. let d = done_kept l ts p k in let r = rate_kept l ts p k in omega arith,
  λ e. record {
    turnaround = turnaround_holds l ts p w (omega arith);
    rate = rate_holds l ts p w (omega arith);
  },
)

-- ---- a post that is completed

posts_more : (ts : List Times) (t : Times) → posts_of (ts ++ t ∷ []) None ≡ posts_of ts (Some t.post)
posts_more [] t = refl
posts_more (x ∷ ts) t = ap (λ (v : List ℕ). x.post ∷ v) (posts_more ts t)

-- the limits of a pending post are those of its command once it is complete
pub completed : (l : Limits) (ts : List Times) (t : Times) → WithinLimits l ts (Some t.post) → WithinLimits l (ts ++ t ∷ []) None
completed l ts t w =
    let same : posts_of (ts ++ t ∷ []) None ≡ posts_of ts (Some t.post) = posts_more ts t in
    let n : length (posts_of ts (Some t.post)) ≡ length ts + 1 = length_pending ts t.post in
    record {
      turnaround = λ i. rw same (λ lt.
          let inside : i < length ts = omega arith in
          let here : times_at (ts ++ t ∷ []) i ≡ times_at ts i = get_or_append_left ts (t ∷ []) (record { post = 0; done = 0 }) i inside in
          rw here (w.turnaround i lt));
      rate = λ i some. rw same (w.rate i some);
    }
