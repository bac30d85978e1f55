-- Posts are within the limits exactly where each is at least the earliest after the times before it.
use Rattle.std.proofs.Common.{◌≡◌, ◌≢◌, ℕ, suc, ◌+◌, ◌<◌, ◌≤◌, List, [], ◌∷◌, ◌++◌, length, slice_index, refl, sym, ap, ◌∙◌, subst, arith}
use Rattle.std.specs.Prelude.{Option, Some, None}
use Rattle.std.proofs.lemmas.List.{append-nil, append_assoc, get_or_append_left, length-append}
use Rattle.rate_limit.specs.declared.Limits.{Limits}
use Rattle.rate_limit.specs.declared.Times.{Times}
use Rattle.rate_limit.specs.RateLimits.{WithinLimits, earliest_of, minute, posts_of, times_at}
use Rattle.rate_limit.proofs.Law.{completed, exact}

-- each post, that of a pending command last, is at least the earliest after the times before it
abbrev pub Posted : Limits → List Times → List Times → Option ℕ → Type 0
Posted limits before [] None = Unit {0}
Posted limits before [] (Some post) = earliest_of limits before ≤ post
Posted limits before (t ∷ ts) pending = (earliest_of limits before ≤ t.post) × Posted limits (before ++ t ∷ []) ts pending

posts_split : (before ts : List Times) (p : Option ℕ) → posts_of (before ++ ts) p ≡ posts_of before None ++ posts_of ts p
posts_split [] ts p = refl
posts_split (t ∷ before) ts None = ap (λ (v : List ℕ). t.post ∷ v) (posts_split before ts None)
posts_split (t ∷ before) ts (Some post) = ap (λ (v : List ℕ). t.post ∷ v) (posts_split before ts (Some post))

length_posts : (ts : List Times) → length (posts_of ts None) ≡ length ts
length_posts [] = refl
length_posts (t ∷ ts) = ap suc (length_posts ts)

post_same : (before ts : List Times) (p : Option ℕ) (i : ℕ) → i < length before
    → slice_index (posts_of (before ++ ts) p) i ≡ slice_index (posts_of before None) i
post_same before ts p i lt =
    let n = length_posts before in
    ap (λ (v : List ℕ). slice_index v i) (posts_split before ts p) ∙ get_or_append_left (posts_of before None) (posts_of ts p) 0 i (omega arith)

times_same : (before ts : List Times) (i : ℕ) → i < length before → times_at (before ++ ts) i ≡ times_at before i
times_same before ts i lt = get_or_append_left before ts (record { post = 0; done = 0 }) i lt

posts_longer : (before ts : List Times) (p : Option ℕ) → length before ≤ length (posts_of (before ++ ts) p)
posts_longer before ts p =
    let n = length_posts before in
    let both = ap length (posts_split before ts p) ∙ length-append (posts_of before None) (posts_of ts p) in
    omega arith

-- the front of times that are within the limits
front_within : (l : Limits) (before ts : List Times) (p : Option ℕ) → WithinLimits l (before ++ ts) p → WithinLimits l before None
front_within l before ts p w =
    let n = length_posts before in
    let long = posts_longer before ts p in
    record {
      turnaround = λ i lt.
          let h = w.turnaround i (omega arith) in
          rw (times_same before ts i (omega arith), post_same before ts p (i + 1) (omega arith)) at h;
      rate = λ i some lt.
          let h = w.rate i some (omega arith) in
          rw (post_same before ts p i (omega arith), post_same before ts p (i + l.per_minute) (omega arith)) at h;
    }

-- a command that is complete was within the limits as it was posted
posted_within : (l : Limits) (before : List Times) (t : Times) → WithinLimits l (before ++ t ∷ []) None → WithinLimits l before (Some t.post)
posted_within l before t w =
    let same : posts_of (before ++ t ∷ []) None ≡ posts_of before (Some t.post) = posts_split before (t ∷ []) None in
    let n = length_posts before in
    let long : length (posts_of before (Some t.post)) ≡ length (posts_of before None) + 1 = length-append (posts_of before None) (t.post ∷ []) in
    let T : List ℕ → Type 0 = λ posts. (i : ℕ) → i + 1 < length posts → (times_at (before ++ t ∷ []) i).done + l.turnaround ≤ slice_index posts (i + 1) in
    let R : List ℕ → Type 0 = λ posts. (i : ℕ) → l.per_minute ≢ 0 → i + l.per_minute < length posts → slice_index posts i + minute ≤ slice_index posts (i + l.per_minute) in
    record {
      turnaround = λ i lt.
          let h = subst T same w.turnaround i lt in
          rw (times_same before (t ∷ []) i (omega arith)) at h;
      rate = subst R same w.rate;
    }

none_within : (l : Limits) → WithinLimits l [] None
none_within l = record { turnaround = λ i lt. absurd (omega arith); rate = λ i some lt. absurd (omega arith) }

to_limits : (l : Limits) (before ts : List Times) (p : Option ℕ) → WithinLimits l before None → Posted l before ts p → WithinLimits l (before ++ ts) p
to_limits l before [] None w h = let W : List Times → Type 0 = λ v. WithinLimits l v None in subst W (sym (append-nil before)) w
to_limits l before [] (Some post) w h =
    let W : List Times → Type 0 = λ v. WithinLimits l v (Some post) in
    subst W (sym (append-nil before)) ((exact l before post w).1 h)
to_limits l before (t ∷ ts) p w h =
    let W : List Times → Type 0 = λ v. WithinLimits l v p in
    let next = completed l before t ((exact l before t.post w).1 h.0) in
    subst W (append_assoc before (t ∷ []) ts) (to_limits l (before ++ t ∷ []) ts p next h.1)

from_limits : (l : Limits) (before ts : List Times) (p : Option ℕ) → WithinLimits l (before ++ ts) p → Posted l before ts p
from_limits l before [] None w = tt
from_limits l before [] (Some post) w =
    let W : List Times → Type 0 = λ v. WithinLimits l v (Some post) in
    (exact l before post (front_within l before [] (Some post) w)).0 (subst W (append-nil before) w)
from_limits l before (t ∷ ts) p w =
    let W : List Times → Type 0 = λ v. WithinLimits l v p in
    let again = subst W (sym (append_assoc before (t ∷ []) ts)) w in
    let here = posted_within l before t (front_within l (before ++ t ∷ []) ts p again) in
    ((exact l before t.post (front_within l before (t ∷ ts) p w)).0 here, from_limits l (before ++ t ∷ []) ts p again)

pub limits_exactly : (l : Limits) (ts : List Times) (p : Option ℕ) → (Posted l [] ts p → WithinLimits l ts p) × (WithinLimits l ts p → Posted l [] ts p)
limits_exactly l ts p = (to_limits l [] ts p (none_within l), from_limits l [] ts p)
