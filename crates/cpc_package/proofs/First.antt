-- The first thing that a test finds, as a loop looks for it.
use Rattle.std.proofs.Common.{◌≡◌, ℕ, zero, suc, ◌+◌, ◌<◌, ◌≤◌, List, [], ◌∷◌, length, take, drop, Option, Some, None, refl, sym, ap, ◌∙◌, arith}
use Rattle.std.proofs.lemmas.List.{drop_all, drop_more, get_or-take, length-take}
use Rattle.cpc_package.specs.declared.entry.Entry.{Entry}
use Rattle.cpc_package.specs.declared.entry.Entry.TheVariants.{Absent}
use Rattle.cpc_package.specs.Entries.{entry_at}
use Rattle.cpc_package.specs.Bindings.{first_from, or_else}

step : {F : Type 0} (test : ℕ → Entry → Option F) (entries : List Entry) (i : ℕ) (o : Option F) → i < length entries → test i (entry_at entries i) ≡ o
    → first_from test i (drop i entries) ≡ or_else o (first_from test (i + 1) (drop (i + 1) entries))
step {F = F} test entries i o lt h =
    ap (first_from test i) (drop_more entries i (Absent 0) lt) ∙ ap (λ (p : Option F). or_else p (first_from test (i + 1) (drop (i + 1) entries))) h

pub first_more : {F : Type 0} (test : ℕ → Entry → Option F) (entries : List Entry) (count i : ℕ) (x : Entry) → count ≡ length entries → i < count
    → x ≡ entry_at entries i
    → test i x ≡ None → first_from test i (drop i entries) ≡ first_from test (i + 1) (drop (i + 1) entries)
first_more test entries count i x all lt is h = step test entries i None (omega arith) (ap (test i) (sym is) ∙ h)

pub first_hit : {F : Type 0} (test : ℕ → Entry → Option F) (entries : List Entry) (count i : ℕ) (x : Entry) (f : F) → count ≡ length entries
    → i < count → x ≡ entry_at entries i
    → test i x ≡ Some f → first_from test i (drop i entries) ≡ Some f
first_hit test entries count i x f all lt is h = step test entries i (Some f) (omega arith) (ap (test i) (sym is) ∙ h)

pub first_end : {F : Type 0} (test : ℕ → Entry → Option F) (entries : List Entry) (count i : ℕ) → count ≡ length entries → count ≤ i
    → first_from test i (drop i entries) ≡ None
first_end test entries count i all le = ap (first_from test i) (drop_all i entries (omega arith))

-- the same among the first n entries
front_all : (entries : List Entry) (n : ℕ) → n < length entries → n ≡ length (take n entries)
front_all entries n within = omega (arith, length-take n entries)

pub front_more : {F : Type 0} (test : ℕ → Entry → Option F) (entries : List Entry) (n i : ℕ) (x : Entry) → n < length entries → i < n → x ≡ entry_at entries i
    → test i x ≡ None → first_from test i (drop i (take n entries)) ≡ first_from test (i + 1) (drop (i + 1) (take n entries))
front_more test entries n i x within lt is h = first_more test (take n entries) n i x (front_all entries n within) lt (is ∙ sym (get_or-take n entries i (Absent 0) lt)) h

pub front_hit : {F : Type 0} (test : ℕ → Entry → Option F) (entries : List Entry) (n i : ℕ) (x : Entry) (f : F) → n < length entries → i < n
    → x ≡ entry_at entries i
    → test i x ≡ Some f → first_from test i (drop i (take n entries)) ≡ Some f
front_hit test entries n i x f within lt is h = first_hit test (take n entries) n i x f (front_all entries n within) lt (is ∙ sym (get_or-take n entries i (Absent 0) lt)) h

pub front_end : {F : Type 0} (test : ℕ → Entry → Option F) (entries : List Entry) (n i : ℕ) → n < length entries → n ≤ i
    → first_from test i (drop i (take n entries)) ≡ None
front_end test entries n i within le = first_end test (take n entries) n i (front_all entries n within) le

-- ---- where nothing is found no test finds anything

pub or_none : {F : Type 0} (o later : Option F) → or_else o later ≡ None → (o ≡ None) × (later ≡ None)
or_none None later h = (refl, h)
or_none (Some f) later h = absurd cc

none_from : {F : Type 0} (test : ℕ → Entry → Option F) (n : ℕ) (entries : List Entry) (k m : ℕ) → first_from test n entries ≡ None
    → k < length entries → m ≡ n + k
    → test m (entry_at entries k) ≡ None
none_from test n [] k m h lt e = absurd (omega arith)
none_from test n (x ∷ xs) zero m h lt e =
    let same : m ≡ n = omega arith in
    ap (λ (j : ℕ). test j x) same ∙ (or_none (test n x) _ h).0
none_from test n (x ∷ xs) (suc k) m h lt e = none_from test (n + 1) xs k m (or_none (test n x) _ h).1 (omega arith) (omega arith)

pub first_none : {F : Type 0} (test : ℕ → Entry → Option F) (entries : List Entry) (k : ℕ) → first_from test 0 entries ≡ None → k < length entries
    → test k (entry_at entries k) ≡ None
first_none test entries k h lt = none_from test 0 entries k k h lt (omega arith)

pub front_none : {F : Type 0} (test : ℕ → Entry → Option F) (entries : List Entry) (n k : ℕ) → first_from test 0 (take n entries) ≡ None
    → n ≤ length entries → k < n
    → test k (entry_at entries k) ≡ None
front_none test entries n k h within lt =
    ap (test k) (sym (get_or-take n entries k (Absent 0) lt)) ∙ first_none test (take n entries) k h (omega (arith, length-take n entries))
