-- A text is cut at the places of a byte, from left to right.
use Rattle.std.proofs.Common.{◌≡◌, ℕ, zero, suc, ◌+◌, ◌-◌, ◌<◌, ◌≤◌, eqb, true, false, Bool, cond, List, [], ◌∷◌, ◌++◌, length, take, drop, get_or, refl, sym, ap, ◌∙◌, subst, arith, inl, inr}
use Rattle.std.specs.List.{All}
use Rattle.std.proofs.lemmas.Bool.{cases_lt}
use Rattle.std.proofs.lemmas.List.{append_assoc, take-append-drop, drop-drop, take_all, length-drop, get_or-drop, get_or-take, drop_more, length-take-le, get_or_default}
use Rattle.std.proofs.lemmas.List.Splits.{slice_split_none, slice_split_at}
use Rattle.memchr.specs.Find.{is_byte, places, places_from}
use Rattle.pcc_bytes.specs.Fields.{split_at}

-- k is the first place of a byte from place i on, and `later` are the places after it
record FirstCut (c : ℕ) (text : List ℕ) (i k : ℕ) (later : List ℕ) : Type 0 where
  pub low : i ≤ k
  pub high : k < length text
  pub hit : eqb (get_or text k 0) c ≡ true
  pub before : (m : ℕ) → i ≤ m → m < k → eqb (get_or text m 0) c ≡ false
  pub rest : later ≡ places_from (is_byte c) text (k + 1) (length text - (k + 1))

-- no byte of a stretch is c, with one byte more in front
one_more : (c : ℕ) (text : List ℕ) (i k : ℕ) → eqb (get_or text i 0) c ≡ false → ((m : ℕ) → i + 1 ≤ m → m < k → eqb (get_or text m 0) c ≡ false)
    → (m : ℕ) → i ≤ m → m < k → eqb (get_or text m 0) c ≡ false
one_more c text i k e next m low high =
    elim (cases_lt i m) [
      | inl later ↦ next m (omega arith) high
      | inr here ↦ let same : m ≡ i = omega arith in rw same e
    ]

-- the test at a place was passed, or not
first_here : (c : ℕ) (text : List ℕ) (i n k : ℕ) (later : List ℕ) (test : Bool) → eqb (get_or text i 0) c ≡ test → i + suc n ≡ length text
    → (places_from (is_byte c) text (i + 1) n ≡ k ∷ later → FirstCut c text (i + 1) k later)
    → cond test (i ∷ places_from (is_byte c) text (i + 1) n) (places_from (is_byte c) text (i + 1) n) ≡ k ∷ later → FirstCut c text i k later
first_here c text i n k later true e len next h =
    let here : k ≡ i = cc h in
    let rest : later ≡ places_from (is_byte c) text (i + 1) n = cc h in
    let left : n ≡ length text - (i + 1) = omega arith in
    record {
      low = omega arith;
      high = omega arith;
      hit = rw here e;
      before = λ m low high. absurd (omega arith);
      rest = rw here (rest ∙ ap (λ (j : ℕ). places_from (is_byte c) text (i + 1) j) left);
    }
first_here c text i n k later false e len next h =
    let f : FirstCut c text (i + 1) k later = next h in
    let low : i + 1 ≤ k = f.low in
    record { low = omega arith; high = f.high; hit = f.hit; before = one_more c text i k e f.before; rest = f.rest }

first_cut : (c : ℕ) (text : List ℕ) (i n k : ℕ) (later : List ℕ) → i + n ≡ length text → places_from (is_byte c) text i n ≡ k ∷ later
    → FirstCut c text i k later
unfolding places_from
first_cut c text i zero k later len h = cc h
first_cut c text i (suc n) k later len h = first_here c text i n k later (eqb (get_or text i 0) c) refl len (first_cut c text (i + 1) n k later (omega arith)) h

none_here : (c : ℕ) (text : List ℕ) (i n : ℕ) (test : Bool) → eqb (get_or text i 0) c ≡ test
    → (places_from (is_byte c) text (i + 1) n ≡ [] → (m : ℕ) → i + 1 ≤ m → m < i + 1 + n → eqb (get_or text m 0) c ≡ false)
    → cond test (i ∷ places_from (is_byte c) text (i + 1) n) (places_from (is_byte c) text (i + 1) n) ≡ [] → (m : ℕ) → i ≤ m → m < i + suc n → eqb (get_or text m 0) c ≡ false
none_here c text i n true e next h = cc h
none_here c text i n false e next h = λ m low high. one_more c text i (i + suc n) e (λ j from to. next h j from (omega arith)) m low high

no_cut : (c : ℕ) (text : List ℕ) (i n : ℕ) → places_from (is_byte c) text i n ≡ [] → (m : ℕ) → i ≤ m → m < i + n → eqb (get_or text m 0) c ≡ false
unfolding places_from
no_cut c text i zero h = λ m low high. absurd (omega arith)
no_cut c text i (suc n) h = none_here c text i n (eqb (get_or text i 0) c) refl (no_cut c text (i + 1) n) h

-- no byte of a stretch of a text is c
stretch : (c : ℕ) (text : List ℕ) (i k : ℕ) → i ≤ k → k ≤ length text → ((m : ℕ) → i ≤ m → m < k → eqb (get_or text m 0) c ≡ false)
    → All (λ b. eqb b c ≡ false) (take (k - i) (drop i text))
stretch c text i k low high before j d lt =
    let len : length (drop i text) ≡ length text - i = length-drop i text in
    let count : length (take (k - i) (drop i text)) ≡ k - i = length-take-le (k - i) (drop i text) (omega arith) in
    let inside : j < k - i = subst (λ (n : ℕ). j < n) count lt in
    let same : get_or (take (k - i) (drop i text)) j d ≡ get_or text (i + j) 0 =
    get_or-take (k - i) (drop i text) j d inside ∙ get_or-drop i text j d ∙ get_or_default text (i + j) d 0 (omega arith) in
    rw same (before (i + j) (omega arith) (omega arith))

-- the parts before `start` are cut off, and `cuts` are the places to cut at after it
pub record Splitting (c : ℕ) (text : List ℕ) (parts : List (List ℕ)) (start : ℕ) (cuts : List ℕ) : Type 0 where
  pub within : start ≤ length text
  pub left : cuts ≡ places_from (is_byte c) text start (length text - start)
  pub whole : parts ++ split_at c (drop start text) ≡ split_at c text

pub split_start : (c : ℕ) (text cuts : List ℕ) → cuts ≡ places (is_byte c) text → Splitting c text [] 0 cuts
split_start c text cuts e = record { within = omega arith; left = e; whole = refl }

first : (c : ℕ) (text : List ℕ) (parts : List (List ℕ)) (start cut : ℕ) (cuts : List ℕ) → Splitting c text parts start (cut ∷ cuts)
    → FirstCut c text start cut cuts
first c text parts start cut cuts s = let le : start ≤ length text = s.within in first_cut c text start (length text - start) cut cuts (omega arith) (sym s.left)

-- a cut lies after the start of its part and before the end
pub cut_from : (c : ℕ) (text : List ℕ) (parts : List (List ℕ)) (start cut : ℕ) (cuts : List ℕ) → Splitting c text parts start (cut ∷ cuts) → start ≤ cut
cut_from c text parts start cut cuts s = (first c text parts start cut cuts s).low

pub cut_within : (c : ℕ) (text : List ℕ) (parts : List (List ℕ)) (start cut : ℕ) (cuts : List ℕ) → Splitting c text parts start (cut ∷ cuts) → cut < length text
cut_within c text parts start cut cuts s = (first c text parts start cut cuts s).high

pub split_cut : (c : ℕ) (text : List ℕ) (parts : List (List ℕ)) (start cut : ℕ) (cuts left : List ℕ) → left ≡ cut ∷ cuts
    → Splitting c text parts start left → Splitting c text (parts ++ take (cut - start) (drop start text) ∷ []) (cut + 1) cuts
split_cut c text parts start cut cuts left e s =
    let P : List ℕ → Type 0 = Splitting c text parts start in
    let f : FirstCut c text start cut cuts = first c text parts start cut cuts (subst P e s) in
    let low : start ≤ cut = f.low in
    let high : cut < length text = f.high in
    let here : start + (cut - start) ≡ cut = omega arith in
    let part : List ℕ = take (cut - start) (drop start text) in
    let tail : drop (cut - start) (drop start text) ≡ get_or text cut 0 ∷ drop (cut + 1) text =
    drop-drop (cut - start) start text ∙ ap (λ (k : ℕ). drop k text) here ∙ drop_more text cut 0 high in
    let apart : drop start text ≡ part ++ get_or text cut 0 ∷ drop (cut + 1) text =
    sym (take-append-drop (cut - start) (drop start text)) ∙ ap (λ (v : List ℕ). part ++ v) tail in
    let front : split_at c (drop start text) ≡ part ∷ split_at c (drop (cut + 1) text) =
    ap (split_at c) apart ∙ slice_split_at (λ x. eqb x c) part (get_or text cut 0) (drop (cut + 1) text) (stretch c text start cut low (omega arith) f.before) f.hit in
    record {
      within = omega arith;
      left = f.rest;
      whole = append_assoc parts (part ∷ []) (split_at c (drop (cut + 1) text)) ∙ ap (λ (v : List (List ℕ)). parts ++ v) (sym front) ∙ s.whole;
    }

pub split_end : (c : ℕ) (text : List ℕ) (parts : List (List ℕ)) (start : ℕ) → Splitting c text parts start []
    → parts ++ take (length text - start) (drop start text) ∷ [] ≡ split_at c text
split_end c text parts start s =
    let within : start ≤ length text = s.within in
    let len : length (drop start text) ≡ length text - start = length-drop start text in
    let same : take (length text - start) (drop start text) ≡ drop start text = take_all (length text - start) (drop start text) (omega arith) in
    let P : List ℕ → Type 0 = All (λ b. eqb b c ≡ false) in
    let clean : All (λ b. eqb b c ≡ false) (take (length text - start) (drop start text)) =
    stretch c text start (length text) within (omega arith) (λ m low high. no_cut c text start (length text - start) (sym s.left) m low (omega arith)) in
    let none : split_at c (drop start text) ≡ drop start text ∷ [] = slice_split_none (λ x. eqb x c) (drop start text) (subst P same clean) in
    rw same (ap (λ (v : List (List ℕ)). parts ++ v) (sym none) ∙ s.whole)
