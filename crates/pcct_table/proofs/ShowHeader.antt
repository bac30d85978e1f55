-- The line of a header is read to its bytes, and what is read is such a line.
use Rattle.std.proofs.Common.{◌≡◌, ◌⊎◌, inl, inr, ℕ, ◌+◌, ◌<◌, ◌≤◌, ltb, cond, Bool, true, false, List, [], ◌∷◌, ◌++◌, length, drop, refl, sym, ap, ◌∙◌, subst, arith, lit<}
use Rattle.std.specs.Prelude.{Some, None, option_and_then, decimal, codes, bytes_eq}
use Rattle.std.proofs.lemmas.Bool.{ltb-false}
use Rattle.std.proofs.lemmas.Fmt.{decimal_digit}
use Rattle.std.proofs.lemmas.List.{append-nil}
use Rattle.pcc_bytes.proofs.Bytes.{IsBytes-append, IsBytes-cons, IsBytes-nil}
use Rattle.pcc_bytes.specs.Bytes.{IsBytes, number_at}
use Rattle.pcc_bytes.specs.Fields.{split_at}
use Rattle.pcc_text.proofs.Lines.{lacks_joined}
use Rattle.pcc_text.proofs.Laws.{EachLacks, bind_some, guard, lacks, same_some, same_text, split_join, text_of_parts}
use Rattle.pcct_table.specs.declared.table.Table.{Table}
use Rattle.pcct_table.specs.Values.{Number, Value, fields_bytes, values_in}
use Rattle.pcct_table.specs.ShowText.{HasText, header_line, header_words, later_fields, later_values, shown_fields, shown_values, words}
use Rattle.pcct_table.specs.ShowReading.{head_bytes, part, read_header, read_revision, read_words, shown_bytes}
use Rattle.pcct_table.proofs.ShowValues.{IsCut, lacks-append, number_lacks}
use Rattle.pcct_table.proofs.ShowWords.{AllFit, all_fit, fields_fit, fields_len, values_back, words_again, words_found, words_lack}
use Rattle.pcct_table.proofs.ShowLine.{feed, none_or, space}

abbrev revision_word : ℕ → List ℕ
revision_word r = codes "revision" ++ 61 ∷ decimal r

one_is : codes "revision=1" ≡ revision_word 1
one_is = ap (λ (v : List ℕ). codes "revision" ++ 61 ∷ v) (sym (decimal_digit 1 (lit< tt)))

two_is : codes "revision=2" ≡ revision_word 2
two_is = ap (λ (v : List ℕ). codes "revision" ++ 61 ∷ v) (sym (decimal_digit 2 (lit< tt)))

pub record IsRevision (w : List ℕ) (r : ℕ) : Type 0 where
  pub known : (r ≡ 1) ⊎ (r ≡ 2)
  pub word_is : w ≡ revision_word r

revision_cases : (a b : Bool) (w : List ℕ) (r : ℕ) → bytes_eq w (codes "revision=1") ≡ a → bytes_eq w (codes "revision=2") ≡ b
    → cond a (Some 1) (cond b (Some 2) None) ≡ Some r → IsRevision w r
revision_cases true b w r e f h =
    let R : ℕ → Type 0 = IsRevision w in
    subst R (same_some _ _ h) (record { known = inl refl; word_is = same_text w (codes "revision=1") e ∙ one_is })
revision_cases false true w r e f h =
    let R : ℕ → Type 0 = IsRevision w in
    subst R (same_some _ _ h) (record { known = inr refl; word_is = same_text w (codes "revision=2") f ∙ two_is })
revision_cases false false w r e f h = cc

revision_found : (w : List ℕ) (r : ℕ) → read_revision w ≡ Some r → IsRevision w r
revision_found w r h = revision_cases (bytes_eq w (codes "revision=1")) (bytes_eq w (codes "revision=2")) w r refl refl h

revision_again : (r : ℕ) → (r ≡ 1) ⊎ (r ≡ 2) → read_revision (revision_word r) ≡ Some r
revision_again r (inl e) = let P : ℕ → Type 0 = λ n. read_revision (revision_word n) ≡ Some n in subst P (sym e) (ap read_revision (sym one_is))
revision_again r (inr e) = let P : ℕ → Type 0 = λ n. read_revision (revision_word n) ≡ Some n in subst P (sym e) (ap read_revision (sym two_is))

pub revision_small : (r : ℕ) → (r ≡ 1) ⊎ (r ≡ 2) → r < 256
revision_small r (inl e) = omega arith
revision_small r (inr e) = omega arith

-- what a header's bytes say of the revision
revision_at : (r : ℕ) (rest : List ℕ) → number_at 1 8 (head_bytes r ++ rest) ≡ r
unfolding number_at
revision_at r rest = let e : r + 0 ≡ r = omega arith in e

values_shown : (r : ℕ) (vs : List Value) → AllFit later_fields vs → values_in (head_bytes r ++ fields_bytes later_fields vs) shown_fields ≡ Number r ∷ vs
values_shown r vs h =
    let b = head_bytes r ++ fields_bytes later_fields vs in
    let e : b ≡ head_bytes r ++ (fields_bytes later_fields vs ++ []) = ap (λ (v : List ℕ). head_bytes r ++ v) (sym (append-nil (fields_bytes later_fields vs))) in
    let later : values_in b later_fields ≡ vs = ap (λ (v : List ℕ). values_in v later_fields) e ∙ values_back later_fields vs 10 48 (head_bytes r) [] refl refl h in
    let one : Number (number_at 1 8 b) ≡ Number r = ap Number (revision_at r (fields_bytes later_fields vs)) in
    ap (λ (v : Value). v ∷ values_in b later_fields) one ∙ ap (λ (v : List Value). Number r ∷ v) later

head_fit : (r : ℕ) → r < 256 → IsBytes (head_bytes r)
head_fit r h =
    IsBytes-cons 0 _ (lit< tt) (IsBytes-cons 0 _ (lit< tt) (IsBytes-cons 0 _ (lit< tt) (IsBytes-cons 0 _ (lit< tt) (IsBytes-cons 0 _ (lit< tt) (IsBytes-cons 0 _ (lit< tt) (IsBytes-cons 0 _ (lit< tt) (IsBytes-cons 0 _ (lit< tt) (IsBytes-cons r _ h (IsBytes-cons 0 [] (lit< tt) IsBytes-nil)))))))))

-- the values of a header fit in their fields
pub later_fit : (t : Table) → HasText t → AllFit later_fields (later_values t)
later_fit t h =
    let e : values_in h.bytes later_fields ≡ later_values t = ap (drop 1) h.values in
    subst (AllFit later_fields) e (all_fit later_fields 10 48 h.bytes refl h.least h.fit)

-- what the bytes that are shown say
pub shown_is : (t : Table) → HasText t → values_in (shown_bytes t) shown_fields ≡ shown_values t
shown_is t h = values_shown t.revision (later_values t) (later_fit t h)

pub shown_len : (t : Table) → HasText t → length (shown_bytes t) ≡ 48
shown_len t h = let n : 10 + length (fields_bytes later_fields (later_values t)) ≡ 48 = fields_len later_fields (later_values t) 10 48 refl (later_fit t h) in omega arith

-- ---- what is read

-- bytes of a header, whose line has these words
pub record IsHeader (ws : List (List ℕ)) (b : List ℕ) : Type 0 where
  pub len : length b ≡ 48
  pub fit : IsBytes b
  pub known : (t : Table) → values_in b shown_fields ≡ shown_values t → (t.revision ≡ 1) ⊎ (t.revision ≡ 2)
  pub words_are : (t : Table) → values_in b shown_fields ≡ shown_values t → ws ≡ header_words t

two : (ws : List (List ℕ)) → 2 ≤ length ws → ws ≡ part ws 0 ∷ part ws 1 ∷ drop 2 ws
two [] h = absurd (omega arith)
two (a ∷ []) h = absurd (omega arith)
two (a ∷ b ∷ ws) h = refl

words_same : (a b a' b' : List ℕ) (ws vs : List (List ℕ)) → a ≡ a' → b ≡ b' → ws ≡ vs → a ∷ b ∷ ws ≡ a' ∷ b' ∷ vs
words_same a b a' b' ws vs p q r = cc

same_number : (x y : ℕ) (xs ys : List Value) → Number x ∷ xs ≡ Number y ∷ ys → x ≡ y
same_number x y xs ys h = cc

header_found : (ws : List (List ℕ)) (b : List ℕ) → read_header ws ≡ Some b → IsHeader ws b
unfolding read_header
header_found ws b h =
    let g0 = none_or (ltb (length ws) 2) _ b h in
    let g1 = guard (bytes_eq (part ws 0) (codes "pcct")) _ b g0.1 in
    let r = bind_some (read_revision (part ws 1)) (λ r. option_and_then (λ bs. Some (head_bytes r ++ bs)) (read_words later_fields (drop 2 ws))) b g1.1 in
    let z = bind_some (read_words later_fields (drop 2 ws)) (λ bs. Some (head_bytes r.0 ++ bs)) b r.2 in
    let bytes : head_bytes r.0 ++ z.0 ≡ b = same_some _ _ z.2 in
    let found = words_found later_fields (drop 2 ws) z.0 z.1 in
    let revision = revision_found (part ws 1) r.0 r.1 in
    let len : 10 + length (fields_bytes later_fields found.values) ≡ 48 = fields_len later_fields found.values 10 48 refl found.fit in
    let same : length z.0 ≡ length (fields_bytes later_fields found.values) = ap length found.bytes_are in
    let all : b ≡ head_bytes r.0 ++ fields_bytes later_fields found.values = sym bytes ∙ ap (λ (v : List ℕ). head_bytes r.0 ++ v) found.bytes_are in
    let values : values_in b shown_fields ≡ Number r.0 ∷ found.values = ap (λ (v : List ℕ). values_in v shown_fields) all ∙ values_shown r.0 found.values found.fit in
    record {
      len = ap length (sym bytes) ∙ omega arith;
      fit = subst IsBytes (sym all) (IsBytes-append (head_bytes r.0) (fields_bytes later_fields found.values) (head_fit r.0 (revision_small r.0 revision.known)) (fields_fit later_fields found.values found.fit));
      known = λ t e.
          let same_revision : r.0 ≡ t.revision = same_number r.0 t.revision found.values (later_values t) (sym values ∙ e) in
          let P : ℕ → Type 0 = λ n. (n ≡ 1) ⊎ (n ≡ 2) in
          subst P same_revision revision.known;
      words_are = λ t e.
          let both : Number r.0 ∷ found.values ≡ shown_values t = sym values ∙ e in
          let same_revision : r.0 ≡ t.revision = same_number r.0 t.revision found.values (later_values t) both in
          two ws (ltb-false _ _ g0.0) ∙ words_same (part ws 0) (part ws 1) (codes "pcct") (revision_word t.revision) (drop 2 ws) (words later_fields (later_values t)) (same_text (part ws 0) (codes "pcct") g1.0) (revision.word_is ∙ ap revision_word same_revision) (found.words_are ∙ ap (λ (vs : List Value). words later_fields (drop 1 vs)) both);
    }

header_again : (t : Table) → HasText t → read_header (header_words t) ≡ Some (shown_bytes t)
unfolding read_header
header_again t h =
    rw (revision_again t.revision h.known, words_again later_fields (later_values t) (later_fit t h)) refl

words_without : (c : ℕ) (t : Table) → IsCut c → lacks c (codes "pcct") ≡ true → lacks c (codes "revision=") ≡ true
    → EachLacks c (words later_fields (later_values t)) → HasText t → EachLacks c (header_words t)
words_without c t cut front name later h =
    let small : t.revision < 256 = revision_small t.revision h.known in
    (front, (lacks-append c (codes "revision=") (decimal t.revision) name (number_lacks c t.revision cut (omega arith)), later))

header_splits : (t : Table) → HasText t → split_at 32 (header_line t) ≡ header_words t
unfolding header_line
header_splits t h =
    split_join 32 (codes "pcct") (words shown_fields (shown_values t)) (words_without 32 t space refl refl (words_lack 32 later_fields (later_values t) space refl (later_fit t h)) h)

-- ---- what callers use

pub header_one : (t : Table) → HasText t → lacks 10 (header_line t) ≡ true
unfolding header_line
header_one t h = lacks_joined 10 (header_words t) refl (words_without 10 t feed refl refl (words_lack 10 later_fields (later_values t) feed refl (later_fit t h)) h)

pub header_len : (line b : List ℕ) → read_header (split_at 32 line) ≡ Some b → length b ≡ 48
header_len line b h = (header_found (split_at 32 line) b h).len

pub header_is : (line b : List ℕ) (t : Table) → read_header (split_at 32 line) ≡ Some b → values_in b shown_fields ≡ shown_values t → line ≡ header_line t
unfolding header_line
header_is line b t h e = text_of_parts 32 line (header_words t) ((header_found (split_at 32 line) b h).words_are t e)

pub header_fit : (line b : List ℕ) → read_header (split_at 32 line) ≡ Some b → IsBytes b
header_fit line b h = (header_found (split_at 32 line) b h).fit

pub header_known : (line b : List ℕ) (t : Table) → read_header (split_at 32 line) ≡ Some b → values_in b shown_fields ≡ shown_values t
    → (t.revision ≡ 1) ⊎ (t.revision ≡ 2)
header_known line b t h e = (header_found (split_at 32 line) b h).known t e

pub header_read : (line : List ℕ) (t : Table) → HasText t → line ≡ header_line t → read_header (split_at 32 line) ≡ Some (shown_bytes t)
header_read line t h e = ap (λ (v : List ℕ). read_header (split_at 32 v)) e ∙ ap read_header (header_splits t h) ∙ header_again t h

pub same_header : (t u : Table) → HasText t → HasText u → header_line t ≡ header_line u → shown_values t ≡ shown_values u
same_header t u h k e =
    let a = header_read (header_line t) t h refl in
    let b = header_read (header_line t) u k e in
    let same : shown_bytes t ≡ shown_bytes u = same_some _ _ (sym a ∙ b) in
    sym (shown_is t h) ∙ ap (λ (v : List ℕ). values_in v shown_fields) same ∙ shown_is u k
