-- The words of fields are read to the bytes of their values, and what is read are such words.
use Rattle.std.proofs.Common.{◌≡◌, ℕ, ◌+◌, ◌≤◌, eqb, Bool, true, List, [], ◌∷◌, ◌++◌, length, take, drop, refl, sym, ap, ◌∙◌, append_assoc, arith}
use Rattle.std.specs.Prelude.{Some, bytes_eq}
use Rattle.std.specs.List.{list_all}
use Rattle.std.proofs.lemmas.Bool.{and_parts, eqb-true}
use Rattle.std.proofs.lemmas.List.{take_at, drop_at, length-append, take-append-drop}
use Rattle.pcc_bytes.proofs.Bytes.{IsBytes-append, IsBytes-nil}
use Rattle.pcc_bytes.specs.Bytes.{IsBytes, number_at}
use Rattle.pcc_text.proofs.Laws.{EachLacks, bind_some, guard, lacks, same_some, same_text, text_same}
use Rattle.pcct_table.specs.declared.rows.Kind.{Kind}
use Rattle.pcct_table.specs.declared.rows.Kind.TheVariants.{Byte, Word, Dword, Qword, Address, Array}
use Rattle.pcct_table.specs.Rows.{Field, width}
use Rattle.pcct_table.specs.Values.{Value, address_at, bytes_at, fields_bytes, value_at, value_bytes, values_in}
use Rattle.pcct_table.specs.ShowText.{value_text, word, words}
use Rattle.pcct_table.specs.ShowReading.{behind_equals, behind_name, read_value, read_word, read_words}
use Rattle.pcct_table.proofs.Laws.{is_contiguous, begins}
use Rattle.pcct_table.proofs.ShowValues.{Fits, IsCut, both_found, value_again, value_back, value_bytes_fit, value_fits, value_found, value_len, word_lacks}

-- each value fits in its field
abbrev pub AllFit : List Field → List Value → Type 0
AllFit [] [] = Unit {0}
AllFit [] (v ∷ vs) = ⊥
AllFit (f ∷ fs) [] = ⊥
AllFit (f ∷ fs) (v ∷ vs) = Fits f.kind v × AllFit fs vs

-- what bytes say fits
pub all_fit : (fs : List Field) (at end : ℕ) (b : List ℕ) → is_contiguous at fs end ≡ true → end ≤ length b → IsBytes b → AllFit fs (values_in b fs)
all_fit [] at end b c long h = tt
all_fit (f ∷ fs) at end b c long h =
    let first = begins at f fs end c in
    let here : f.at ≡ at = first.here in
    let within : at + width f.kind ≤ end = first.within in
    (value_fits f.kind f.at b h (omega arith), all_fit fs (at + width f.kind) end b first.rest long h)

value_moved : (k : Kind) (at : ℕ) (b : List ℕ) → value_at k at b ≡ value_at k 0 (drop at b)
unfolding number_at address_at bytes_at
value_moved Byte at b = refl
value_moved Word at b = refl
value_moved Dword at b = refl
value_moved Qword at b = refl
value_moved Address at b = refl
value_moved (Array n) at b = refl

-- values are what their bytes say
pub values_back : (fs : List Field) (vs : List Value) (at end : ℕ) (before rest : List ℕ) → is_contiguous at fs end ≡ true → length before ≡ at
    → AllFit fs vs → values_in (before ++ (fields_bytes fs vs ++ rest)) fs ≡ vs
values_back [] [] at end before rest c len h = refl
values_back [] (v ∷ vs) at end before rest c len h = absurd h
values_back (f ∷ fs) [] at end before rest c len h = absurd h
values_back (f ∷ fs) (v ∷ vs) at end before rest c len h =
    let first = begins at f fs end c in
    let x = value_bytes f.kind v in
    let y = fields_bytes fs vs in
    let n : length (before ++ x) ≡ at + width f.kind = length-append before x ∙ ap (λ (m : ℕ). m + length x) len ∙ ap (λ (m : ℕ). at + m) (value_len f.kind v h.0) in
    let inner : (x ++ y) ++ rest ≡ x ++ (y ++ rest) = append_assoc x y rest in
    let whole : before ++ ((x ++ y) ++ rest) ≡ (before ++ x) ++ (y ++ rest) = ap (λ (z : List ℕ). before ++ z) inner ∙ sym (append_assoc before x (y ++ rest)) in
    let here : drop f.at (before ++ ((x ++ y) ++ rest)) ≡ x ++ (y ++ rest) = drop_at before ((x ++ y) ++ rest) f.at (len ∙ sym first.here) ∙ inner in
    let one : value_at f.kind f.at (before ++ ((x ++ y) ++ rest)) ≡ v =
    value_moved f.kind f.at (before ++ ((x ++ y) ++ rest)) ∙ ap (value_at f.kind 0) here ∙ value_back f.kind v (y ++ rest) h.0 in
    let others : values_in (before ++ ((x ++ y) ++ rest)) fs ≡ vs =
    ap (λ (z : List ℕ). values_in z fs) whole ∙ values_back fs vs (at + width f.kind) end (before ++ x) rest first.rest n h.1 in
    ap (λ (z : Value). z ∷ values_in (before ++ ((x ++ y) ++ rest)) fs) one ∙ ap (λ (z : List Value). v ∷ z) others

pub fields_len : (fs : List Field) (vs : List Value) (at end : ℕ) → is_contiguous at fs end ≡ true → AllFit fs vs → at + length (fields_bytes fs vs) ≡ end
fields_len [] [] at end c h = let e : at ≡ end = eqb-true _ _ c in omega arith
fields_len [] (v ∷ vs) at end c h = absurd h
fields_len (f ∷ fs) [] at end c h = absurd h
fields_len (f ∷ fs) (v ∷ vs) at end c h =
    let first = begins at f fs end c in
    let more = fields_len fs vs (at + width f.kind) end first.rest h.1 in
    let one = value_len f.kind v h.0 in
    let both = length-append (value_bytes f.kind v) (fields_bytes fs vs) in
    omega arith

pub fields_fit : (fs : List Field) (vs : List Value) → AllFit fs vs → IsBytes (fields_bytes fs vs)
fields_fit [] [] h = IsBytes-nil
fields_fit [] (v ∷ vs) h = absurd h
fields_fit (f ∷ fs) [] h = absurd h
fields_fit (f ∷ fs) (v ∷ vs) h = IsBytes-append (value_bytes f.kind v) (fields_bytes fs vs) (value_bytes_fit f.kind v h.0) (fields_fit fs vs h.1)

-- ---- words

equals_found : (w text : List ℕ) → behind_equals w ≡ Some text → w ≡ 61 ∷ text
equals_found [] text h = cc
equals_found (b ∷ bs) text h =
    let p = guard (eqb b 61) (Some bs) text h in
    ap (λ (x : ℕ). x ∷ bs) (eqb-true b 61 p.0) ∙ ap (λ (v : List ℕ). 61 ∷ v) (same_some _ _ p.1)

name_found : (name w text : List ℕ) → behind_name name w ≡ Some text → w ≡ name ++ 61 ∷ text
unfolding behind_name
name_found name w text h =
    let p = guard (bytes_eq (take (length name) w) name) (behind_equals (drop (length name) w)) text h in
    sym (take-append-drop (length name) w) ∙ ap (λ (v : List ℕ). v ++ drop (length name) w) (same_text (take (length name) w) name p.0) ∙ ap (λ (v : List ℕ). name ++ v) (equals_found (drop (length name) w) text p.1)

pub name_again : (name text : List ℕ) → behind_name name (name ++ 61 ∷ text) ≡ Some text
unfolding behind_name
name_again name text =
    rw (take_at name (61 ∷ text) (length name) refl, drop_at name (61 ∷ text) (length name) refl, text_same name name refl) refl

word_again : (f : Field) (v : Value) → Fits f.kind v → read_word f (word f v) ≡ Some (value_bytes f.kind v)
unfolding read_word
word_again f v h = rw (name_again f.name (value_text v)) (value_again f.kind v h)

-- words are read to the bytes of their values
pub words_again : (fs : List Field) (vs : List Value) → AllFit fs vs → read_words fs (words fs vs) ≡ Some (fields_bytes fs vs)
unfolding read_words
words_again [] [] h = refl
words_again [] (v ∷ vs) h = absurd h
words_again (f ∷ fs) [] h = absurd h
words_again (f ∷ fs) (v ∷ vs) h = rw (word_again f v h.0, words_again fs vs h.1) refl

-- the values of words that were read to bytes
pub record ReadsAll (fs : List Field) (ws : List (List ℕ)) (bytes : List ℕ) : Type 0 where
  pub values : List Value
  pub fit : AllFit fs values
  pub words_are : ws ≡ words fs values
  pub bytes_are : bytes ≡ fields_bytes fs values

pub words_found : (fs : List Field) (ws : List (List ℕ)) (bytes : List ℕ) → read_words fs ws ≡ Some bytes → ReadsAll fs ws bytes
unfolding read_words read_word
words_found [] [] bytes h = record { values = []; fit = tt; words_are = refl; bytes_are = sym (same_some _ _ h) }
words_found [] (w ∷ ws) bytes h = cc
words_found (f ∷ fs) [] bytes h = cc
words_found (f ∷ fs) (w ∷ ws) bytes h =
    let p = both_found (read_word f w) (read_words fs ws) bytes h in
    let q = bind_some (behind_name f.name w) (λ text. read_value f.kind text) p.0 p.2 in
    let v = value_found f.kind q.0 p.0 q.2 in
    let more = words_found fs ws p.1 p.3 in
    let one : w ≡ word f v.value = name_found f.name w q.0 q.1 ∙ ap (λ (text : List ℕ). f.name ++ 61 ∷ text) v.text_is in
    record {
      values = v.value ∷ more.values;
      fit = (v.fits, more.fit);
      words_are = ap (λ (x : List ℕ). x ∷ ws) one ∙ ap (λ (x : List (List ℕ)). word f v.value ∷ x) more.words_are;
      bytes_are = sym p.4 ∙ ap (λ (x : List ℕ). x ++ p.1) v.bytes_are ∙ ap (λ (x : List ℕ). value_bytes f.kind v.value ++ x) more.bytes_are;
    }

-- no name has the byte
abbrev pub names_lack : ℕ → List Field → Bool
names_lack c fs = list_all (λ f. lacks c f.name) fs

pub words_lack : (c : ℕ) (fs : List Field) (vs : List Value) → IsCut c → names_lack c fs ≡ true → AllFit fs vs → EachLacks c (words fs vs)
words_lack c [] vs cut n h = tt
words_lack c (f ∷ fs) [] cut n h = tt
words_lack c (f ∷ fs) (v ∷ vs) cut n h =
    let p = and_parts (lacks c f.name) (names_lack c fs) n in
    (word_lacks c f v cut p.0 h.0, words_lack c fs vs cut p.1 h.1)
