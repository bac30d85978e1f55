-- A line that is read is spelled so, and what is spelled so is read; what isn't read is wrong, and the first fault is the one that is met.
use Rattle.std.proofs.Common.{◌≡◌, ℕ, suc, ◌+◌, ◌<◌, ◌≤◌, eqb, ltb, Bool, true, false, cond, List, [], ◌∷◌, length, map, drop, refl, sym, ap, ◌∙◌, subst, arith, ◌⊎◌, inl, inr}
use Rattle.std.specs.Prelude.{Result, Ok, Err, codes, bytes_eq}
use Rattle.std.proofs.lemmas.Bool.{eq-eqb, eqb-false, eqb-true, le-ltb, lt-ltb, ltb-false, ltb-true, ne_eqb}
use Rattle.std.proofs.lemmas.Bool.Decides.{nat_tests}
use Rattle.std.proofs.lemmas.List.{drop_more, drop_all}
use Rattle.pcc_text.proofs.Laws.{same_text}
use Rattle.pcc_script.specs.declared.word.Word.{Word}
use Rattle.pcc_script.specs.declared.word.Word.TheVariants as word
use Rattle.pcc_script.specs.declared.fault.ScriptKind.{ScriptKind}
use Rattle.pcc_script.specs.declared.fault.ScriptKind.TheVariants as kind
use Rattle.pcc_script.specs.Rows.{Value, Kind, Step, AtLeast, Exactly, AtMost, Takes, HexBytes, IsOf, spell, field_fault, field_at, text_of, words, steps_of}
use Rattle.pcc_script.specs.Text.{AllRight}
use Rattle.pcc_script.specs.Faults.{FirstWrong}
use Rattle.pcc_script.specs.Reading.{◌>>=◌, read_field, read_at, find, word_named}
use Rattle.pcc_script.proofs.Fields.{field_reads, field_again, field_wrong}

pub bind_ok : {A B : Type 0} (r : Result A ScriptKind) (f : A → Result B ScriptKind) (y : B) → (r >>= f) ≡ Ok y → (x : A) × (r ≡ Ok x) × (f x ≡ Ok y)
bind_ok (Ok x) f y e = (x, refl, e)
bind_ok (Err d) f y e = cc

-- the first step fails, or the second does
pub data BindErr {A B : Type 0} (r : Result A ScriptKind) (f : A → Result B ScriptKind) (k : ScriptKind) : Type 0 where
  First : r ≡ Err k → BindErr r f k
  Second : (x : A) → r ≡ Ok x → f x ≡ Err k → BindErr r f k

pub bind_err : {A B : Type 0} (r : Result A ScriptKind) (f : A → Result B ScriptKind) (k : ScriptKind) → (r >>= f) ≡ Err k → BindErr r f k
bind_err (Ok x) f k e = Second x refl e
bind_err (Err d) f k e = First cc

abbrev pub done : {A : Type 0} → A → Result A ScriptKind
done x = Ok x

pub ok_same : {A : Type 0} (x y : A) → done x ≡ Ok y → x ≡ y
ok_same x y h = cc

-- a test passes, or it doesn't
pub test_ok : {A : Type 0} (b : Bool) (k : ScriptKind) (r : Result A ScriptKind) (y : A) → cond b (Err k) r ≡ Ok y → (b ≡ false) × (r ≡ Ok y)
test_ok true k r y h = cc
test_ok false k r y h = (refl, h)

pub want_ok : {A : Type 0} (b : Bool) (k : ScriptKind) (r : Result A ScriptKind) (y : A) → cond b r (Err k) ≡ Ok y → (b ≡ true) × (r ≡ Ok y)
want_ok false k r y h = cc
want_ok true k r y h = (refl, h)

pub test_err : {A : Type 0} (b : Bool) (k d : ScriptKind) (r : Result A ScriptKind) → cond b (Err k) r ≡ Err d
    → ((b ≡ true) × (d ≡ k)) ⊎ ((b ≡ false) × (r ≡ Err d))
test_err true k d r h = inl (refl, cc)
test_err false k d r h = inr (refl, h)

pub want_err : {A : Type 0} (b : Bool) (k d : ScriptKind) (r : Result A ScriptKind) → cond b r (Err k) ≡ Err d
    → ((b ≡ false) × (d ≡ k)) ⊎ ((b ≡ true) × (r ≡ Err d))
want_err false k d r h = inl (refl, cc)
want_err true k d r h = inr (refl, h)

not_le : (a b : ℕ) → (b ≤ a → ⊥) → a < b
not_le a b h = grind (arith, nat_tests)

-- ---- the tests of a line

pub at_reads : (i : ℕ) (ss : List Step) (f : List (List ℕ)) (vs : List Value) → read_at i ss f ≡ Ok vs → AllRight i ss f vs
unfolding read_at
at_reads i [] f vs h = sym (ok_same [] vs h)
at_reads i (AtLeast n ∷ ss) f vs h =
    let p = test_ok (ltb (length f) n) kind.Fields (read_at i ss f) vs h in
    (ltb-false (length f) n p.0, at_reads i ss f vs p.1)
at_reads i (Exactly n ∷ ss) f vs h =
    let p = want_ok (eqb (length f) n) kind.Fields (read_at i ss f) vs h in
    (eqb-true (length f) n p.0, at_reads i ss f vs p.1)
at_reads i (AtMost j n ∷ ss) f vs h =
    let p = test_ok (ltb n (length (field_at f j))) kind.Many (read_at i ss f) vs h in
    (ltb-false n (length (field_at f j)) p.0, at_reads i ss f vs p.1)
at_reads i (Takes k ∷ ss) f vs h =
    let v = bind_ok (read_field k (field_at f i)) _ vs h in
    let more = bind_ok (read_at (suc i) ss f) (λ (ws : List Value). Ok (v.0 ∷ ws)) vs v.2 in
    let s = field_reads k (field_at f i) v.0 v.1 in
    subst (AllRight i (Takes k ∷ ss) f) (ok_same (v.0 ∷ more.0) vs more.2) (s.is, s.text, at_reads (suc i) ss f more.0 more.1)

spelled_at : (k : Kind) (f : List ℕ) (v : Value) → IsOf k v → f ≡ spell v → read_field k f ≡ Ok v
spelled_at k f v h e = ap (read_field k) e ∙ field_again k v h

pub at_again : (i : ℕ) (ss : List Step) (f : List (List ℕ)) (vs : List Value) → AllRight i ss f vs → read_at i ss f ≡ Ok vs
unfolding read_at
at_again i [] f vs h = ap Ok (sym h)
at_again i (AtLeast n ∷ ss) f vs h = rw (le-ltb (length f) n h.0) (at_again i ss f vs h.1)
at_again i (Exactly n ∷ ss) f vs h = rw (eq-eqb (length f) n h.0) (at_again i ss f vs h.1)
at_again i (AtMost j n ∷ ss) f vs h = rw (le-ltb n (length (field_at f j)) h.0) (at_again i ss f vs h.1)
at_again i (Takes k ∷ ss) f [] h = absurd h
at_again i (Takes k ∷ ss) f (v ∷ vs) h = rw (spelled_at k (field_at f i) v h.0 h.1, at_again (suc i) ss f vs h.2) refl

not_taken : (k : Kind) (f : List ℕ) (d : ScriptKind) → read_field k f ≡ Err d → (v : Value) × IsOf k v × (f ≡ spell v) → ⊥
not_taken k f d h v = let e : read_field k f ≡ Ok v.0 = spelled_at k f v.0 v.1 v.2 in cc

pub at_wrong : (i : ℕ) (ss : List Step) (f : List (List ℕ)) (d : ScriptKind) → read_at i ss f ≡ Err d → FirstWrong i ss f d
unfolding read_at
at_wrong i [] f d h = cc
at_wrong i (AtLeast n ∷ ss) f d h =
    elim (test_err (ltb (length f) n) kind.Fields d (read_at i ss f) h) [
      | inl p ↦ let lt : length f < n = ltb-true (length f) n p.0 in inl (λ (le : n ≤ length f). absurd (omega arith), p.1)
      | inr p ↦ inr (ltb-false (length f) n p.0, at_wrong i ss f d p.1)
    ]
at_wrong i (Exactly n ∷ ss) f d h =
    elim (want_err (eqb (length f) n) kind.Fields d (read_at i ss f) h) [
      | inl p ↦ inl (eqb-false (length f) n p.0, p.1)
      | inr p ↦ inr (eqb-true (length f) n p.0, at_wrong i ss f d p.1)
    ]
at_wrong i (AtMost j n ∷ ss) f d h =
    elim (test_err (ltb n (length (field_at f j))) kind.Many d (read_at i ss f) h) [
      | inl p ↦ let lt : n < length (field_at f j) = ltb-true n (length (field_at f j)) p.0 in inl (λ (le : length (field_at f j) ≤ n). absurd (omega arith), p.1)
      | inr p ↦ inr (ltb-false n (length (field_at f j)) p.0, at_wrong i ss f d p.1)
    ]
at_wrong i (Takes k ∷ ss) f d h =
    elim (bind_err (read_field k (field_at f i)) _ d h) [
      | First e ↦ inl (not_taken k (field_at f i) d e, field_wrong k (field_at f i) d e)
      | Second v e g ↦
          let s = field_reads k (field_at f i) v e in
          elim (bind_err (read_at (suc i) ss f) (λ (ws : List Value). Ok (v ∷ ws)) d g) [
            | First m ↦ inr ((v, s.is, s.text), at_wrong (suc i) ss f d m)
            | Second ws m n ↦ cc
          ]
    ]

field_fails : (k : Kind) (f : List ℕ) (r : Result Value ScriptKind) → read_field k f ≡ r → ((v : Value) × IsOf k v × (f ≡ spell v) → ⊥)
    → r ≡ Err (field_fault k)
field_fails k f (Ok v) e never = let s = field_reads k f v e in absurd (never (v, s.is, s.text))
field_fails k f (Err d) e never = ap Err (field_wrong k f d e)

pub at_fails : (i : ℕ) (ss : List Step) (f : List (List ℕ)) (d : ScriptKind) → FirstWrong i ss f d → read_at i ss f ≡ Err d
unfolding read_at
at_fails i [] f d h = absurd h
at_fails i (AtLeast n ∷ ss) f d (inl p) = let lt : length f < n = not_le (length f) n p.0 in rw (lt-ltb (length f) n lt, p.1) refl
at_fails i (AtLeast n ∷ ss) f d (inr p) = rw (le-ltb (length f) n p.0) (at_fails i ss f d p.1)
at_fails i (Exactly n ∷ ss) f d (inl p) = rw (ne_eqb (length f) n p.0, p.1) refl
at_fails i (Exactly n ∷ ss) f d (inr p) = rw (eq-eqb (length f) n p.0) (at_fails i ss f d p.1)
at_fails i (AtMost j n ∷ ss) f d (inl p) = let lt : n < length (field_at f j) = not_le n (length (field_at f j)) p.0 in rw (lt-ltb n (length (field_at f j)) lt, p.1) refl
at_fails i (AtMost j n ∷ ss) f d (inr p) = rw (le-ltb n (length (field_at f j)) p.0) (at_fails i ss f d p.1)
at_fails i (Takes k ∷ ss) f d (inl p) = rw (field_fails k (field_at f i) (read_field k (field_at f i)) refl p.0, p.1) refl
at_fails i (Takes k ∷ ss) f d (inr p) = rw (spelled_at k (field_at f i) p.0.0 p.0.1 p.0.2, at_fails (suc i) ss f d p.1) refl

-- ---- the fields of a line

-- how many values are taken
abbrev taken : List Step → ℕ
taken [] = 0
taken (Takes k ∷ ss) = suc (taken ss)
taken (AtLeast n ∷ ss) = taken ss
taken (Exactly n ∷ ss) = taken ss
taken (AtMost j n ∷ ss) = taken ss

-- the number of fields is each that is wanted
abbrev Exacts : List Step → ℕ → Type 0
Exacts [] n = Unit {0}
Exacts (Takes k ∷ ss) n = Exacts ss n
Exacts (AtLeast m ∷ ss) n = Exacts ss n
Exacts (Exactly m ∷ ss) n = (n ≡ m) × Exacts ss n
Exacts (AtMost j m ∷ ss) n = Exacts ss n

are_taken : (i : ℕ) (ss : List Step) (f : List (List ℕ)) (vs : List Value) → AllRight i ss f vs → length vs ≡ taken ss
are_taken i [] f vs h = rw h refl
are_taken i (AtLeast n ∷ ss) f vs h = are_taken i ss f vs h.1
are_taken i (Exactly n ∷ ss) f vs h = are_taken i ss f vs h.1
are_taken i (AtMost j n ∷ ss) f vs h = are_taken i ss f vs h.1
are_taken i (Takes k ∷ ss) f [] h = absurd h
are_taken i (Takes k ∷ ss) f (v ∷ vs) h = ap suc (are_taken (suc i) ss f vs h.2)

are_exact : (i : ℕ) (ss : List Step) (f : List (List ℕ)) (vs : List Value) → AllRight i ss f vs → Exacts ss (length f)
are_exact i [] f vs h = tt
are_exact i (AtLeast n ∷ ss) f vs h = are_exact i ss f vs h.1
are_exact i (Exactly n ∷ ss) f vs h = (h.0, are_exact i ss f vs h.1)
are_exact i (AtMost j n ∷ ss) f vs h = are_exact i ss f vs h.1
are_exact i (Takes k ∷ ss) f [] h = absurd h
are_exact i (Takes k ∷ ss) f (v ∷ vs) h = are_exact (suc i) ss f vs h.2

open_width : (t : Bool) (n : ℕ) → Exacts (cond t (Exactly 4 ∷ Takes HexBytes ∷ []) (Exactly 3 ∷ [])) n
    → n ≡ 1 + suc (suc (taken (cond t (Exactly 4 ∷ Takes HexBytes ∷ []) (Exactly 3 ∷ []))))
open_width true n h = h.0
open_width false n h = h.0

-- each row wants as many fields as it takes values, and its word
row_width : (w : Word) (f : List (List ℕ)) → Exacts (steps_of w f) (length f) → length f ≡ 1 + taken (steps_of w f)
row_width word.Table f h = h.0
row_width word.Clock f h = h.0
row_width word.Open f h = open_width (bytes_eq (field_at f 2) (codes "cppc")) (length f) h
row_width word.Cpu f h = h.0
row_width word.Cap f h = h.0
row_width word.Call f h = h.0
row_width word.Read f h = h.0
row_width word.Set f h = h.0
row_width word.Wait f h = h.0
row_width word.Pick f h = h.0

covered : (i : ℕ) (ss : List Step) (f : List (List ℕ)) (vs : List Value) → AllRight i ss f vs → length f ≡ i + length vs → drop i f ≡ map spell vs
covered i [] f vs h e = rw h (drop_all i f (let n : length vs ≡ 0 = ap length h in omega arith))
covered i (AtLeast n ∷ ss) f vs h e = covered i ss f vs h.1 e
covered i (Exactly n ∷ ss) f vs h e = covered i ss f vs h.1 e
covered i (AtMost j n ∷ ss) f vs h e = covered i ss f vs h.1 e
covered i (Takes k ∷ ss) f [] h e = absurd h
covered i (Takes k ∷ ss) f (v ∷ vs) h e =
    let lt : i < length f = omega arith in
    let more : drop (suc i) f ≡ map spell vs = covered (suc i) ss f vs h.2 (omega arith) in
    let step : drop i f ≡ field_at f i ∷ drop (i + 1) f = drop_more f i [] lt in
    let front : field_at f i ≡ spell v = h.1 in
    let next : drop (i + 1) f ≡ drop (suc i) f = ap (λ (n : ℕ). drop n f) (let n : i + 1 ≡ suc i = omega arith in n) in
    step ∙ cc

-- the fields of a right line are its word and the texts of its values
pub fields_are : (w : Word) (f : List (List ℕ)) (vs : List Value) → field_at f 0 ≡ text_of w → AllRight 1 (steps_of w f) f vs → f ≡ text_of w ∷ map spell vs
fields_are w f vs e h =
    let len : length f ≡ 1 + taken (steps_of w f) = row_width w f (are_exact 1 (steps_of w f) f vs h) in
    let many : length vs ≡ taken (steps_of w f) = are_taken 1 (steps_of w f) f vs h in
    let cut : drop 1 f ≡ map spell vs = covered 1 (steps_of w f) f vs h (omega arith) in
    let front : drop 0 f ≡ field_at f 0 ∷ drop (0 + 1) f = drop_more f 0 [] (omega arith) in
    let z : drop 0 f ≡ f = refl in
    cc

-- ---- words

first_or : (t : Bool) (v w : Word) (r : Result Word ScriptKind) → cond t (Ok v) r ≡ Ok w → ((t ≡ true) × (v ≡ w)) ⊎ (r ≡ Ok w)
first_or true v w r h = inl (refl, ok_same v w h)
first_or false v w r h = inr h

find_is : (ws : List Word) (f : List ℕ) (w : Word) → find ws f ≡ Ok w → f ≡ text_of w
find_is [] f w h = cc
find_is (v ∷ ws) f w h =
    elim (first_or (bytes_eq f (text_of v)) v w (find ws f) h) [
      | inl p ↦ same_text f (text_of v) p.0 ∙ ap text_of p.1
      | inr r ↦ find_is ws f w r
    ]

later : (t : Bool) (v : Word) (k : ScriptKind) (r : Result Word ScriptKind) → cond t (Ok v) r ≡ Err k → r ≡ Err k
later true v k r h = cc
later false v k r h = h

find_unknown : (ws : List Word) (f : List ℕ) (k : ScriptKind) → find ws f ≡ Err k → k ≡ kind.Unknown
find_unknown [] f k h = cc
find_unknown (v ∷ ws) f k h = find_unknown ws f k (later (bytes_eq f (text_of v)) v k (find ws f) h)

pub word_reads : (f : List ℕ) (w : Word) → word_named f ≡ Ok w → f ≡ text_of w
unfolding word_named
word_reads f w h = find_is words f w h

pub word_again : (w : Word) → word_named (text_of w) ≡ Ok w
unfolding word_named
word_again word.Table = refl
word_again word.Clock = refl
word_again word.Open = refl
word_again word.Cpu = refl
word_again word.Cap = refl
word_again word.Call = refl
word_again word.Read = refl
word_again word.Set = refl
word_again word.Wait = refl
word_again word.Pick = refl

pub word_at : (f : List ℕ) (w : Word) → f ≡ text_of w → word_named f ≡ Ok w
word_at f w e = ap word_named e ∙ word_again w

pub no_word : (f : List ℕ) (k : ScriptKind) → word_named f ≡ Err k → (k ≡ kind.Unknown) × ((w : Word) → f ≡ text_of w → ⊥)
unfolding word_named
no_word f k h = (find_unknown words f k h, λ w e. let r : word_named f ≡ Ok w = word_at f w e in let g : word_named f ≡ Err k = h in cc)

pub word_fails : (f : List ℕ) (r : Result Word ScriptKind) → word_named f ≡ r → ((w : Word) → f ≡ text_of w → ⊥) → r ≡ Err kind.Unknown
word_fails f (Ok w) e never = absurd (never w (word_reads f w e))
word_fails f (Err k) e never = ap Err (no_word f k e).0
