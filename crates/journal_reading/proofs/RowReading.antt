-- Words that are read are spelled so, and words that are spelled so are read.
use Rattle.std.proofs.Common.{◌≡◌, ℕ, zero, suc, ◌+◌, ◌^◌, ◌<◌, ◌≤◌, eqb, Bool, true, false, cond, List, [], ◌∷◌, length, drop, refl, sym, ap, ◌∙◌, subst, arith, lit<}
use Rattle.std.specs.Prelude.{Option, Some, None, bytes_eq}
use Rattle.std.proofs.lemmas.Bool.{eq-eqb, eqb-true}
use Rattle.std.proofs.lemmas.List.{drop_all}
use Rattle.hex.specs.Hex.{lower_digits}
use Rattle.pcc_text.specs.Reading.{hex_of, number_of}
use Rattle.pcc_text.proofs.Laws.{EachLacks, bind_some, guard, hex_again, hex_fits, hex_reads, lacks, lacks-decimal, lacks-hex_text, number_again, number_reads, same_some, same_text, text_same}
use Rattle.journal_reading.specs.Rows.{Either, Fit, HexBytes, IsOf, Kind, OfBytes, OfFlag, OfNumber, Step, Takes, Upto, Value, Word, bytes_value, flag_of, flag_value, number_value, part, read_at, read_row, read_word, word_of, words}

-- a byte at which texts are cut
pub record IsCut (c : ℕ) : Type 0 where
  pub low : c < 48
  pub digits : lacks c lower_digits ≡ true
  pub zero_is_none : eqb 0 c ≡ false
  pub dash_is_none : eqb 45 c ≡ false

pub space : IsCut 32
space = record { low = lit< tt; digits = refl; zero_is_none = refl; dash_is_none = refl }

pub feed : IsCut 10
feed = record { low = lit< tt; digits = refl; zero_is_none = refl; dash_is_none = refl }

-- what is spelled of a kind has no such byte, and says its value
abbrev pub CleanKind : ℕ → Kind → Type 0
CleanKind c (Upto limit) = limit < 2 ^ 64
CleanKind c HexBytes = Unit {0}
CleanKind c (Either first second) = (lacks c first ≡ true) × (lacks c second ≡ true) × (bytes_eq second first ≡ false)

abbrev pub Clean : ℕ → List Step → Type 0
Clean c [] = Unit {0}
Clean c (Word w ∷ ss) = (lacks c w ≡ true) × Clean c ss
Clean c (Takes k ∷ ss) = CleanKind c k × Clean c ss

-- ---- one word

flag_lacks : (c : ℕ) (first second : List ℕ) (flag : Bool) → lacks c first ≡ true → lacks c second ≡ true → lacks c (cond flag first second) ≡ true
flag_lacks c first second true h k = h
flag_lacks c first second false h k = k

number_lacks : (c limit n : ℕ) → IsCut c → limit < 2 ^ 64 → n ≤ limit → lacks c (word_of (Upto limit) (OfNumber n)) ≡ true
number_lacks c limit n cut small le = lacks-decimal c n cut.low (omega arith)

word_lacks : (c : ℕ) (k : Kind) (v : Value) → IsCut c → CleanKind c k → IsOf k v → lacks c (word_of k v) ≡ true
word_lacks c (Upto limit) v cut small h = rw h.1 (number_lacks c limit h.0 cut small h.2)
word_lacks c HexBytes v cut u h = rw h.1 (lacks-hex_text c h.0 cut.digits cut.zero_is_none cut.dash_is_none)
word_lacks c (Either first second) v cut l h = rw h.1 (flag_lacks c first second h.0 l.0 l.1)

-- a value of a kind with this text
pub record IsSpelled (k : Kind) (w : List ℕ) (v : Value) : Type 0 where
  pub is : IsOf k v
  pub text : w ≡ word_of k v

number_is : (o : Option ℕ) (v : Value) → number_value o ≡ Some v → (n : ℕ) × (o ≡ Some n) × (v ≡ OfNumber n)
number_is (Some n) v h = (n, refl, cc)
number_is None v h = cc

bytes_is : (o : Option (List ℕ)) (v : Value) → bytes_value o ≡ Some v → (b : List ℕ) × (o ≡ Some b) × (v ≡ OfBytes b)
bytes_is (Some b) v h = (b, refl, cc)
bytes_is None v h = cc

flag_reads : (t u : Bool) (first second w : List ℕ) (v : Value) → bytes_eq w first ≡ t → bytes_eq w second ≡ u
    → flag_value (cond t (Some true) (cond u (Some false) None)) ≡ Some v → IsSpelled (Either first second) w v
flag_reads true u first second w v e d h =
    let same : OfFlag true ≡ v = cc in
    subst (IsSpelled (Either first second) w) same (record { is = (true, refl); text = same_text w first e })
flag_reads false true first second w v e d h =
    let same : OfFlag false ≡ v = cc in
    subst (IsSpelled (Either first second) w) same (record { is = (false, refl); text = same_text w second d })
flag_reads false false first second w v e d h = cc

word_reads : (c : ℕ) (k : Kind) (w : List ℕ) (v : Value) → CleanKind c k → read_word k w ≡ Some v → IsSpelled k w v
unfolding flag_of
word_reads c (Upto limit) w v small h =
    let p = number_is (number_of limit w) v h in
    let q = number_reads limit w p.0 small p.1 in
    subst (IsSpelled (Upto limit) w) (sym p.2) (record { is = (p.0, refl, q.1); text = q.0 })
word_reads c HexBytes w v u h =
    let p = bytes_is (hex_of w) v h in
    subst (IsSpelled HexBytes w) (sym p.2) (record { is = (p.0, refl, hex_fits w p.0 p.1); text = hex_reads w p.0 p.1 })
word_reads c (Either first second) w v l h = flag_reads (bytes_eq w first) (bytes_eq w second) first second w v refl refl h

flag_again : (first second : List ℕ) (flag : Bool) → bytes_eq second first ≡ false → flag_value (flag_of first second (cond flag first second)) ≡ Some (OfFlag flag)
unfolding flag_of
flag_again first second true other = rw (text_same first first refl) refl
flag_again first second false other = rw (other, text_same second second refl) refl

word_again : (c : ℕ) (k : Kind) (v : Value) → CleanKind c k → IsOf k v → read_word k (word_of k v) ≡ Some v
word_again c (Upto limit) v small h = rw (h.1, number_again limit h.0 small h.2) refl
word_again c HexBytes v u h = rw (h.1, hex_again h.0 h.2) refl
word_again c (Either first second) v l h = rw h.1 (flag_again first second h.0 l.2)

spelled_at : (c : ℕ) (k : Kind) (w : List ℕ) (v : Value) → CleanKind c k → IsOf k v → w ≡ word_of k v → read_word k w ≡ Some v
spelled_at c k w v l h e = ap (read_word k) e ∙ word_again c k v l h

-- ---- the words of a line

pub each_lacks : (c : ℕ) (ss : List Step) (vs : List Value) → IsCut c → Clean c ss → Fit ss vs → EachLacks c (words ss vs)
each_lacks c [] vs cut l f = tt
each_lacks c (Word w ∷ ss) vs cut l f = (l.0, each_lacks c ss vs cut l.1 f)
each_lacks c (Takes k ∷ ss) [] cut l f = absurd f
each_lacks c (Takes k ∷ ss) (v ∷ vs) cut l f = (word_lacks c k v cut l.0 f.0, each_lacks c ss vs cut l.1 f.1)

count : (ss : List Step) (vs : List Value) → Fit ss vs → length (words ss vs) ≡ length ss
count [] vs f = refl
count (Word w ∷ ss) vs f = ap suc (count ss vs f)
count (Takes k ∷ ss) [] f = absurd f
count (Takes k ∷ ss) (v ∷ vs) f = ap suc (count ss vs f.1)

drop_here : (i : ℕ) (ws : List (List ℕ)) → i < length ws → drop i ws ≡ part ws i ∷ drop (suc i) ws
drop_here i [] h = absurd (omega arith)
drop_here zero (w ∷ ws) h = refl
drop_here (suc i) (w ∷ ws) h = drop_here i ws (omega arith)

cons_same : (w v : List ℕ) (ws vs : List (List ℕ)) → w ≡ v → ws ≡ vs → w ∷ ws ≡ v ∷ vs
cons_same w v ws vs e f = cc

record ReadsAs (i : ℕ) (ss : List Step) (ws : List (List ℕ)) (vs : List Value) : Type 0 where
  fit : Fit ss vs
  are : drop i ws ≡ words ss vs

at_reads : (c i : ℕ) (ss : List Step) (ws : List (List ℕ)) (vs : List Value) → Clean c ss → read_at i ss ws ≡ Some vs → length ws ≡ i + length ss
    → ReadsAs i ss ws vs
unfolding read_at
at_reads c i [] ws vs l h len = record { fit = sym (same_some [] vs h); are = drop_all i ws (omega arith) }
at_reads c i (Word w ∷ ss) ws vs l h len =
    let g = guard (bytes_eq (part ws i) w) (read_at (suc i) ss ws) vs h in
    let m = at_reads c (suc i) ss ws vs l.1 g.1 (omega arith) in
    record { fit = m.fit; are = drop_here i ws (omega arith) ∙ cons_same (part ws i) w (drop (suc i) ws) (words ss vs) (same_text (part ws i) w g.0) m.are }
at_reads c i (Takes k ∷ ss) ws vs l h len =
    let v = bind_some (read_word k (part ws i)) _ vs h in
    let more = bind_some (read_at (suc i) ss ws) (λ (us : List Value). Some (v.0 ∷ us)) vs v.2 in
    let w = word_reads c k (part ws i) v.0 l.0 v.1 in
    let m = at_reads c (suc i) ss ws more.0 l.1 more.1 (omega arith) in
    subst (ReadsAs i (Takes k ∷ ss) ws) (same_some (v.0 ∷ more.0) vs more.2) (record {
      fit = (w.is, m.fit);
      are = drop_here i ws (omega arith) ∙ cons_same (part ws i) (word_of k v.0) (drop (suc i) ws) (words ss more.0) w.text m.are;
    })

-- the word at a place and those after it
record Popped (i : ℕ) (ws : List (List ℕ)) (x : List ℕ) (xs : List (List ℕ)) : Type 0 where
  here : part ws i ≡ x
  later : drop (suc i) ws ≡ xs

pop : (i : ℕ) (ws : List (List ℕ)) (x : List ℕ) (xs : List (List ℕ)) → drop i ws ≡ x ∷ xs → Popped i ws x xs
pop zero [] x xs e = cc
pop zero (w ∷ ws) x xs e = record { here = cc; later = cc }
pop (suc i) [] x xs e = cc
pop (suc i) (w ∷ ws) x xs e = let p = pop i ws x xs e in record { here = p.here; later = p.later }

at_again : (c i : ℕ) (ss : List Step) (ws : List (List ℕ)) (vs : List Value) → Clean c ss → Fit ss vs → drop i ws ≡ words ss vs → read_at i ss ws ≡ Some vs
unfolding read_at
at_again c i [] ws vs l f e = ap Some (sym f)
at_again c i (Word w ∷ ss) ws vs l f e =
    let p = pop i ws w (words ss vs) e in
    rw (text_same (part ws i) w p.here) (at_again c (suc i) ss ws vs l.1 f p.later)
at_again c i (Takes k ∷ ss) ws [] l f e = absurd f
at_again c i (Takes k ∷ ss) ws (v ∷ vs) l f e =
    let p = pop i ws (word_of k v) (words ss vs) e in
    rw (spelled_at c k (part ws i) v l.0 f.0 p.here, at_again c (suc i) ss ws vs l.1 f.1 p.later) refl

-- ---- a row

pub record RowRead (ss : List Step) (ws : List (List ℕ)) (vs : List Value) : Type 0 where
  pub fit : Fit ss vs
  pub are : ws ≡ words ss vs

pub row_reads : (c n : ℕ) (ss : List Step) (ws : List (List ℕ)) (vs : List Value) → n ≡ length ss → Clean c ss → read_row n ss ws ≡ Some vs → RowRead ss ws vs
unfolding read_row
row_reads c n ss ws vs size l h =
    let g = guard (eqb (length ws) n) (read_at 0 ss ws) vs h in
    let len : length ws ≡ n = eqb-true (length ws) n g.0 in
    let m = at_reads c 0 ss ws vs l g.1 (omega arith) in
    record { fit = m.fit; are = m.are }

pub row_again : (c n : ℕ) (ss : List Step) (vs : List Value) → n ≡ length ss → Clean c ss → Fit ss vs → read_row n ss (words ss vs) ≡ Some vs
unfolding read_row
row_again c n ss vs size l f = rw (eq-eqb (length (words ss vs)) n (count ss vs f ∙ sym size)) (at_again c 0 ss (words ss vs) vs l f refl)
