-- The line of a structure is read to its bytes, and what is read is such a line.
use Rattle.std.proofs.Common.{◌≡◌, ℕ, ◌+◌, ◌-◌, ◌^◌, ◌<◌, ◌≤◌, eqb, ltb, cond, Bool, true, false, List, [], ◌∷◌, ◌++◌, length, drop, slice_index, refl, sym, ap, ◌∙◌, subst, arith, lit<}
use Rattle.std.specs.Prelude.{Option, Some, None, option_and_then, decimal, codes, bytes_eq}
use Rattle.std.proofs.lemmas.Bool.{eq-eqb, le-leb, le-ltb, lt-ltb, ltb-false}
use Rattle.std.proofs.lemmas.Bool.Decides.{nat_tests}
use Rattle.std.proofs.lemmas.List.{append-nil}
use Rattle.pcc_bytes.proofs.Bytes.{IsBytes-cons, IsBytes-drop}
use Rattle.pcc_bytes.specs.Bytes.{IsBytes}
use Rattle.pcc_bytes.specs.Fields.{hex_text, split_at}
use Rattle.pcc_text.specs.Reading.{hex_of, number_of}
use Rattle.pcc_text.proofs.Lines.{lacks_joined}
use Rattle.pcc_text.proofs.Laws.{EachLacks, bind_some, guard, hex_again, lacks, number_again, number_reads, same_some, same_text, split_join, text_of_parts, text_same}
use Rattle.pcct_table.specs.declared.subspace.Subspace.{Subspace}
use Rattle.pcct_table.specs.declared.other.Other.{Other}
use Rattle.pcct_table.specs.declared.subspace.Subspace.TheVariants as Sub
use Rattle.pcct_table.specs.declared.subspace.Subspace.TheVariants.{Generic, HwReduced1, HwReduced2, Initiator, Responder, HwRegister}
use Rattle.pcct_table.specs.Rows.{Field, bytes_fields, extended_fields, fields_of_kind, generic_fields, hw_reduced1_fields, hw_reduced2_fields, hw_register_fields, known_fields, known_size, size_of_kind, unknown_size}
use Rattle.pcct_table.specs.Values.{Bytes, Value, fields_bytes, values_in}
use Rattle.pcct_table.specs.Structures.{values0, values1, values2, values34, values5}
use Rattle.pcct_table.specs.Subspaces.{IsSubspace, SubspaceBytes, kind_of, subspace_bytes, values_of}
use Rattle.pcct_table.specs.ShowText.{fields_shown, show_line, show_words, words}
use Rattle.pcct_table.specs.ShowReading.{behind_name, part, read_array, read_bytes, read_kind, read_known, read_line, read_unknown, read_word, read_words, with_head}
use Rattle.pcct_table.proofs.Laws.{IsLong, is_contiguous, kept, kept_few, one_structure, own_bytes, shown_by, unknown_kind, unknown_long}
use Rattle.pcct_table.proofs.ShowValues.{IsCut, number_lacks}
use Rattle.pcct_table.proofs.ShowWords.{AllFit, all_fit, fields_fit, fields_len, name_again, names_lack, values_back, words_again, words_found, words_lack}

pub space : IsCut 32
space = record { some = lit< tt; low = lit< tt; digits = refl }

pub feed : IsCut 10
feed = record { some = lit< tt; low = lit< tt; digits = refl }

-- ---- the types

contiguous_cases : (b0 b1 b2 b3 b4 b5 : Bool) (size : ℕ)
    → cond b0 (Some 62) (cond b1 (Some 62) (cond b2 (Some 90) (cond b3 (Some 164) (cond b4 (Some 164) (cond b5 (Some 96) None))))) ≡ Some size
    → is_contiguous 2 (cond b0 generic_fields (cond b1 hw_reduced1_fields (cond b2 hw_reduced2_fields (cond b3 extended_fields (cond b4 extended_fields (cond b5 hw_register_fields [])))))) size ≡ true
contiguous_cases true b1 b2 b3 b4 b5 size h = rw (← same_some _ _ h) refl
contiguous_cases false true b2 b3 b4 b5 size h = rw (← same_some _ _ h) refl
contiguous_cases false false true b3 b4 b5 size h = rw (← same_some _ _ h) refl
contiguous_cases false false false true b4 b5 size h = rw (← same_some _ _ h) refl
contiguous_cases false false false false true b5 size h = rw (← same_some _ _ h) refl
contiguous_cases false false false false false true size h = rw (← same_some _ _ h) refl
contiguous_cases false false false false false false size h = cc

known_contiguous : (kind size : ℕ) → known_size kind ≡ Some size → is_contiguous 2 (known_fields kind) size ≡ true
known_contiguous kind size h = contiguous_cases (eqb kind 0) (eqb kind 1) (eqb kind 2) (eqb kind 3) (eqb kind 4) (eqb kind 5) size h

bytes_contiguous : (size : ℕ) → 2 ≤ size → is_contiguous 2 (bytes_fields (size - 2)) size ≡ true
bytes_contiguous size le =
    let all : 2 + (size - 2) ≡ size = omega (arith, le) in
    rw (all, le-leb size size (omega arith), eq-eqb size size refl) refl

contiguous_by : (known : Bool) (kind size : ℕ) → cond known (known_size kind) (unknown_size size) ≡ Some size
    → is_contiguous 2 (cond known (known_fields kind) (bytes_fields (size - 2))) size ≡ true
contiguous_by true kind size h = known_contiguous kind size h
contiguous_by false kind size h = bytes_contiguous size (unknown_long size size h).0.least

pub contiguous_size : (kind size : ℕ) → size_of_kind kind size ≡ Some size → is_contiguous 2 (fields_of_kind kind size) size ≡ true
contiguous_size kind size h = contiguous_by (ltb kind 6) kind size h

known_long : (kind size : ℕ) → known_size kind ≡ Some size → IsLong size
known_long kind size h = record { least = grind (arith, nat_tests); most = grind (arith, nat_tests) }

long_from : (known : Bool) (kind size : ℕ) → cond known (known_size kind) (unknown_size size) ≡ Some size → IsLong size
long_from true kind size h = known_long kind size h
long_from false kind size h = (unknown_long size size h).0

pub size_long : (kind size : ℕ) → size_of_kind kind size ≡ Some size → IsLong size
size_long kind size h = long_from (ltb kind 6) kind size h

kind_small : (s : Subspace) → IsSubspace s → kind_of s ≤ 255
kind_small s h =
    let byte : slice_index h.bytes 0 < 256 = h.fit.fits 0 in
    let kind : slice_index h.bytes 0 ≡ kind_of s = h.spell.kind in
    omega arith

names_lack_space : (s : Subspace) → names_lack 32 (fields_shown s) ≡ true
names_lack_space (Generic t) = refl
names_lack_space (HwReduced1 t) = refl
names_lack_space (HwReduced2 t) = refl
names_lack_space (Initiator t) = refl
names_lack_space (Responder t) = refl
names_lack_space (HwRegister t) = refl
names_lack_space (Sub.Other o) = refl

names_lack_feed : (s : Subspace) → names_lack 10 (fields_shown s) ≡ true
names_lack_feed (Generic t) = refl
names_lack_feed (HwReduced1 t) = refl
names_lack_feed (HwReduced2 t) = refl
names_lack_feed (Initiator t) = refl
names_lack_feed (Responder t) = refl
names_lack_feed (HwRegister t) = refl
names_lack_feed (Sub.Other o) = refl

-- the values of a structure fit in their fields
pub structure_fits : (s : Subspace) → IsSubspace s → AllFit (fields_shown s) (values_of s)
structure_fits s h =
    let b = h.bytes in
    let fs = fields_of_kind (kind_of s) (length b) in
    let fit : AllFit fs (values_of s) = subst (AllFit fs) h.spell.values (all_fit fs 2 (length b) b (contiguous_size (kind_of s) (length b) h.spell.size) (omega arith) h.fit) in
    subst (λ (gs : List Field). AllFit gs (values_of s)) (shown_by b s h.spell) fit

-- ---- what is read

-- bytes that are shaped as a structure, whose line has these words
pub record IsLine (place : ℕ) (ws : List (List ℕ)) (b : List ℕ) : Type 0 where
  pub size : size_of_kind (slice_index b 0) (length b) ≡ Some (length b)
  pub told : slice_index b 1 ≡ length b
  pub fit : IsBytes b
  pub words_are : (s : Subspace) → SubspaceBytes b s → ws ≡ show_words place s

four : (ws : List (List ℕ)) → 4 ≤ length ws → ws ≡ part ws 0 ∷ part ws 1 ∷ part ws 2 ∷ part ws 3 ∷ drop 4 ws
four [] h = absurd (omega arith)
four (a ∷ []) h = absurd (omega arith)
four (a ∷ b ∷ []) h = absurd (omega arith)
four (a ∷ b ∷ c ∷ []) h = absurd (omega arith)
four (a ∷ b ∷ c ∷ d ∷ ws) h = refl

words_same : (a b c d a' b' c' d' : List ℕ) (ws vs : List (List ℕ)) → a ≡ a' → b ≡ b' → c ≡ c' → d ≡ d' → ws ≡ vs → a ∷ b ∷ c ∷ d ∷ ws ≡ a' ∷ b' ∷ c' ∷ d' ∷ vs
words_same a b c d a' b' c' d' ws vs p q r s t = cc

pub none_or : {A : Type 0} (b : Bool) (o : Option A) (y : A) → cond b None o ≡ Some y → (b ≡ false) × (o ≡ Some y)
none_or true o y h = cc
none_or false o y h = (refl, h)

-- what was read of the words of the fields
record KindFound (kind : ℕ) (ws : List (List ℕ)) (b : List ℕ) : Type 0 where
  pub size : ℕ
  pub bytes : List ℕ
  pub long : size_of_kind kind size ≡ Some size
  pub reads : read_words (fields_of_kind kind size) ws ≡ Some bytes
  pub all : kind ∷ size ∷ bytes ≡ b

known_kind : (kind size : ℕ) → ltb kind 6 ≡ true → known_size kind ≡ Some size → size_of_kind kind size ≡ Some size
known_kind kind size below h = rw below h

known_named : (kind size : ℕ) → ltb kind 6 ≡ true → fields_of_kind kind size ≡ known_fields kind
known_named kind size below = rw below refl

known_found : (kind : ℕ) (ws : List (List ℕ)) (b : List ℕ) → ltb kind 6 ≡ true → read_known kind ws ≡ Some b → KindFound kind ws b
known_found kind ws b below h =
    let z = bind_some (known_size kind) (λ size. option_and_then (λ bs. Some (kind ∷ size ∷ bs)) (read_words (known_fields kind) ws)) b h in
    let r = bind_some (read_words (known_fields kind) ws) (λ bs. Some (kind ∷ z.0 ∷ bs)) b z.2 in
    record {
      size = z.0;
      bytes = r.0;
      long = known_kind kind z.0 below z.1;
      reads = ap (λ (fs : List Field). read_words fs ws) (known_named kind z.0 below) ∙ r.1;
      all = same_some _ _ r.2;
    }

-- the one word of a structure of an unknown type
one_word : (n : ℕ) (w text bytes : List ℕ) → behind_name (codes "bytes") w ≡ Some text → hex_of text ≡ Some bytes → length bytes ≡ n
    → read_words (bytes_fields n) (w ∷ []) ≡ Some bytes
unfolding read_words read_word read_array
one_word n w text bytes named hex len = rw (named, hex, len, eq-eqb n n refl) (ap Some (append-nil bytes))

unknown_few : (n : ℕ) → n ≤ 253 → unknown_size (2 + n) ≡ Some (2 + n)
unknown_few n le = rw (le-ltb (2 + n) 2 (omega arith), lt-ltb (2 + n) 256 (omega arith)) refl

head_found : (kind : ℕ) (bytes b : List ℕ) → with_head kind bytes ≡ Some b → (length bytes ≤ 253) × (kind ∷ (2 + length bytes) ∷ bytes ≡ b)
head_found kind bytes b h =
    let g = none_or (ltb 253 (length bytes)) (Some (kind ∷ (2 + length bytes) ∷ bytes)) b h in
    (ltb-false 253 (length bytes) g.0, same_some _ _ g.1)

bytes_found : (kind : ℕ) (w b : List ℕ) → ltb kind 6 ≡ false → read_bytes kind w ≡ Some b → KindFound kind (w ∷ []) b
unfolding read_bytes
bytes_found kind w b above h =
    let t = bind_some (behind_name (codes "bytes") w) (λ text. option_and_then (with_head kind) (hex_of text)) b h in
    let x = bind_some (hex_of t.0) (with_head kind) b t.2 in
    let found = head_found kind x.0 b x.2 in
    let n = length x.0 in
    let monus : (2 + n) - 2 ≡ n = omega arith in
    let fields : fields_of_kind kind (2 + n) ≡ bytes_fields n = rw (above, monus) refl in
    record {
      size = 2 + n;
      bytes = x.0;
      long = rw above (unknown_few n found.0);
      reads = ap (λ (fs : List Field). read_words fs (w ∷ [])) fields ∙ one_word n w t.0 x.0 t.1 x.1 refl;
      all = found.1;
    }

unknown_found : (kind : ℕ) (ws : List (List ℕ)) (b : List ℕ) → ltb kind 6 ≡ false → read_unknown kind ws ≡ Some b → KindFound kind ws b
unknown_found kind [] b above h = cc
unknown_found kind (w ∷ []) b above h = bytes_found kind w b above h
unknown_found kind (w ∷ v ∷ ws) b above h = cc

found_by : (known : Bool) (kind : ℕ) (ws : List (List ℕ)) (b : List ℕ) → ltb kind 6 ≡ known → cond known (read_known kind ws) (read_unknown kind ws) ≡ Some b
    → KindFound kind ws b
found_by true kind ws b e h = known_found kind ws b e h
found_by false kind ws b e h = unknown_found kind ws b e h

kind_found : (kind : ℕ) (ws : List (List ℕ)) (b : List ℕ) → read_kind (Some kind) ws ≡ Some b → KindFound kind ws b
kind_found kind ws b h = found_by (ltb kind 6) kind ws b refl h

pub line_found : (place : ℕ) (ws : List (List ℕ)) (b : List ℕ) → read_line place ws ≡ Some b → IsLine place ws b
unfolding read_line
line_found place ws b h =
    let g0 = none_or (ltb (length ws) 4) _ b h in
    let g1 = guard (bytes_eq (part ws 0) (codes "subspace")) _ b g0.1 in
    let g2 = guard (bytes_eq (part ws 1) (decimal place)) _ b g1.1 in
    let g3 = guard (bytes_eq (part ws 2) (codes "type")) _ b g2.1 in
    let k = bind_some (number_of 255 (part ws 3)) (λ kind. read_kind (Some kind) (drop 4 ws)) b g3.1 in
    let r = kind_found k.0 (drop 4 ws) b k.2 in
    let fs = fields_of_kind k.0 r.size in
    let found = words_found fs (drop 4 ws) r.bytes r.reads in
    let contiguous : is_contiguous 2 fs r.size ≡ true = contiguous_size k.0 r.size r.long in
    let len : 2 + length (fields_bytes fs found.values) ≡ r.size = fields_len fs found.values 2 r.size contiguous found.fit in
    let same : length r.bytes ≡ length (fields_bytes fs found.values) = ap length found.bytes_are in
    let e0 : slice_index b 0 ≡ k.0 = ap (λ (v : List ℕ). slice_index v 0) (sym r.all) in
    let e1 : slice_index b 1 ≡ r.size = ap (λ (v : List ℕ). slice_index v 1) (sym r.all) in
    let n : length b ≡ r.size = ap length (sym r.all) ∙ omega arith in
    let number = number_reads 255 (part ws 3) k.0 (lit< tt) k.1 in
    let whole : b ≡ (k.0 ∷ r.size ∷ []) ++ (fields_bytes fs found.values ++ []) = sym r.all ∙ ap (λ (v : List ℕ). k.0 ∷ r.size ∷ v) (found.bytes_are ∙ sym (append-nil (fields_bytes fs found.values))) in
    let values : values_in b fs ≡ found.values = ap (λ (v : List ℕ). values_in v fs) whole ∙ values_back fs found.values 2 r.size (k.0 ∷ r.size ∷ []) [] contiguous refl found.fit in
    let most : r.size < 256 = (size_long k.0 r.size r.long).most in
    let few : k.0 ≤ 255 = number.1 in
    record {
      size = ap (λ (m : ℕ). size_of_kind m (length b)) e0 ∙ ap (size_of_kind k.0) n ∙ r.long ∙ ap Some (sym n);
      told = e1 ∙ sym n;
      fit = subst IsBytes r.all (IsBytes-cons k.0 (r.size ∷ r.bytes) (omega arith) (IsBytes-cons r.size r.bytes most (subst IsBytes (sym found.bytes_are) (fields_fit fs found.values found.fit))));
      words_are = λ s spelled.
          let kind : k.0 ≡ kind_of s = sym e0 ∙ spelled.kind in
          let fields : fs ≡ fields_of_kind (kind_of s) (length b) = ap (λ (m : ℕ). fields_of_kind m r.size) kind ∙ ap (fields_of_kind (kind_of s)) (sym n) in
          let said : found.values ≡ values_of s = sym values ∙ ap (values_in b) fields ∙ spelled.values in
          let tail : drop 4 ws ≡ words (fields_shown s) (values_of s) =
          found.words_are ∙ ap (words fs) said ∙ ap (λ (gs : List Field). words gs (values_of s)) (fields ∙ shown_by b s spelled) in
          four ws (ltb-false _ _ g0.0) ∙ words_same (part ws 0) (part ws 1) (part ws 2) (part ws 3) (codes "subspace") (decimal place) (codes "type") (decimal (kind_of s)) (drop 4 ws) (words (fields_shown s) (values_of s)) (same_text (part ws 0) (codes "subspace") g1.0) (same_text (part ws 1) (decimal place) g2.0) (same_text (part ws 2) (codes "type") g3.0) (number.0 ∙ ap decimal kind) tail;
    }

-- ---- what is read again

-- a known type's structure, from its words
known_again : (kind size : ℕ) (fs : List Field) (vs : List Value) → known_size kind ≡ Some size → known_fields kind ≡ fs → AllFit fs vs → ltb kind 6 ≡ true
    → read_kind (Some kind) (words fs vs) ≡ Some (kind ∷ size ∷ fields_bytes fs vs)
known_again kind size fs vs long named fit below = rw (below, long, named, words_again fs vs fit) refl

unknown_again : (o : Other) → IsSubspace (Sub.Other o) → read_kind (Some o.kind) (words (bytes_fields (length o.bytes)) (Bytes o.bytes ∷ [])) ≡ Some (subspace_bytes (Sub.Other o))
unfolding read_bytes
unknown_again o h =
    let fit : IsBytes o.bytes = subst IsBytes (kept h.bytes o h.spell).rest (IsBytes-drop 2 h.bytes h.fit) in
    let few : ltb 253 (length o.bytes) ≡ false = le-ltb 253 (length o.bytes) (kept_few o h) in
    rw (unknown_kind o.kind h.spell.unknown, name_again (codes "bytes") (hex_text o.bytes), hex_again o.bytes fit, few) refl

kind_again : (s : Subspace) → IsSubspace s → read_kind (Some (kind_of s)) (words (fields_shown s) (values_of s)) ≡ Some (subspace_bytes s)
kind_again (Generic t) h = known_again 0 62 generic_fields (values0 t) refl refl (structure_fits (Generic t) h) refl
kind_again (HwReduced1 t) h = known_again 1 62 hw_reduced1_fields (values1 t) refl refl (structure_fits (HwReduced1 t) h) refl
kind_again (HwReduced2 t) h = known_again 2 90 hw_reduced2_fields (values2 t) refl refl (structure_fits (HwReduced2 t) h) refl
kind_again (Initiator t) h = known_again 3 164 extended_fields (values34 t) refl refl (structure_fits (Initiator t) h) refl
kind_again (Responder t) h = known_again 4 164 extended_fields (values34 t) refl refl (structure_fits (Responder t) h) refl
kind_again (HwRegister t) h = known_again 5 96 hw_register_fields (values5 t) refl refl (structure_fits (HwRegister t) h) refl
kind_again (Sub.Other o) h = unknown_again o h

line_again : (place : ℕ) (s : Subspace) → IsSubspace s → read_line place (show_words place s) ≡ Some (subspace_bytes s)
unfolding read_line
line_again place s h =
    let k : number_of 255 (decimal (kind_of s)) ≡ Some (kind_of s) = number_again 255 (kind_of s) (lit< tt) (kind_small s h) in
    let enough : ltb (length (show_words place s)) 4 ≡ false = le-ltb _ _ (omega arith) in
    rw (enough, text_same (decimal place) (decimal place) refl, k) (kind_again s h)

words_without : (c place : ℕ) (s : Subspace) → IsCut c → names_lack c (fields_shown s) ≡ true → lacks c (codes "subspace") ≡ true
    → lacks c (codes "type") ≡ true → place < 2 ^ 64 → IsSubspace s → EachLacks c (show_words place s)
words_without c place s cut n front middle small h =
    let kind : kind_of s ≤ 255 = kind_small s h in
    (front, (number_lacks c place cut small, (middle, (number_lacks c (kind_of s) cut (omega arith), words_lack c (fields_shown s) (values_of s) cut n (structure_fits s h)))))

line_splits : (place : ℕ) (s : Subspace) → place < 2 ^ 64 → IsSubspace s → split_at 32 (show_line place s) ≡ show_words place s
unfolding show_line
line_splits place s small h =
    split_join 32 (codes "subspace") (decimal place ∷ codes "type" ∷ decimal (kind_of s) ∷ words (fields_shown s) (values_of s)) (words_without 32 place s space (names_lack_space s) refl refl small h)

-- ---- what callers use

pub line_one : (place : ℕ) (s : Subspace) → place < 2 ^ 64 → IsSubspace s → lacks 10 (show_line place s) ≡ true
unfolding show_line
line_one place s small h = lacks_joined 10 (show_words place s) refl (words_without 10 place s feed (names_lack_feed s) refl refl small h)

pub line_is : (place : ℕ) (line b : List ℕ) (s : Subspace) → read_line place (split_at 32 line) ≡ Some b → SubspaceBytes b s → line ≡ show_line place s
unfolding show_line
line_is place line b s h k = text_of_parts 32 line (show_words place s) ((line_found place (split_at 32 line) b h).words_are s k)

pub line_spelled : (place : ℕ) (line b : List ℕ) (s : Subspace) → read_line place (split_at 32 line) ≡ Some b → SubspaceBytes b s → IsSubspace s
line_spelled place line b s h k = record { bytes = b; fit = (line_found place (split_at 32 line) b h).fit; spell = k }

pub line_size : (place : ℕ) (line b : List ℕ) → read_line place (split_at 32 line) ≡ Some b → size_of_kind (slice_index b 0) (length b) ≡ Some (length b)
line_size place line b h = (line_found place (split_at 32 line) b h).size

pub line_told : (place : ℕ) (line b : List ℕ) → read_line place (split_at 32 line) ≡ Some b → slice_index b 1 ≡ length b
line_told place line b h = (line_found place (split_at 32 line) b h).told

pub line_read : (place : ℕ) (line : List ℕ) (s : Subspace) → place < 2 ^ 64 → IsSubspace s → line ≡ show_line place s
    → read_line place (split_at 32 line) ≡ Some (subspace_bytes s)
line_read place line s small h e = ap (λ (v : List ℕ). read_line place (split_at 32 v)) e ∙ ap (read_line place) (line_splits place s small h) ∙ line_again place s h

pub same_structure : (place : ℕ) (s u : Subspace) → place < 2 ^ 64 → IsSubspace s → IsSubspace u → show_line place s ≡ show_line place u → s ≡ u
same_structure place s u small h k e =
    let a = line_read place (show_line place s) s small h refl in
    let b = line_read place (show_line place s) u small k e in
    let same : subspace_bytes s ≡ subspace_bytes u = same_some _ _ (sym a ∙ b) in
    let P : List ℕ → Type 0 = λ b. SubspaceBytes b u in
    one_structure (subspace_bytes s) s u (own_bytes s h) (subst P (sym same) (own_bytes u k))
