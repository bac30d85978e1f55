-- The parts and the lines of a text.
use Rattle.std.proofs.Common.{◌≡◌, ℕ, ◌≤◌, eqb, cond, not, Bool, true, false, List, [], ◌∷◌, ◌++◌, length, refl, sym, ap, ◌∙◌, subst, arith}
use Rattle.std.specs.List.{flat_map, join_with_byte, onto_first}
use Rattle.std.proofs.lemmas.List.{append_assoc, append-nil}
use Rattle.std.proofs.lemmas.List.Folds.{list_all-append}
use Rattle.std.proofs.lemmas.List.Splits.{length-slice_split, slice_split_at}
use Rattle.pcc_bytes.specs.Fields.{front_of, joined, last_in, last_of, line_text, lines_of, split_at}
use Rattle.pcc_text.proofs.Laws.{All-from_lacks, EachLacks, lacks, text_of_parts}

-- ---- parts

-- a text has one part at least
pub split_some : (c : ℕ) (text : List ℕ) → 1 ≤ length (split_at c text)
split_some c text = omega (arith, length-slice_split (λ b. eqb b c) text)

-- so that the parts are those before the last one, and the last one
pub parts_are : (parts : List (List ℕ)) → 1 ≤ length parts → parts ≡ front_of parts ++ last_of parts ∷ []
parts_are [] h = absurd (omega arith)
parts_are (x ∷ []) h = refl
parts_are (x ∷ y ∷ ys) h = ap (λ (v : List (List ℕ)). x ∷ v) (parts_are (y ∷ ys) (omega arith))

pub front_push : (parts : List (List ℕ)) (x : List ℕ) → front_of (parts ++ x ∷ []) ≡ parts
front_push [] x = refl
front_push (l ∷ []) x = refl
front_push (l ∷ m ∷ ms) x = ap (λ (v : List (List ℕ)). l ∷ v) (front_push (m ∷ ms) x)

pub last_push : (parts : List (List ℕ)) (x : List ℕ) → last_of (parts ++ x ∷ []) ≡ x
last_push [] x = refl
last_push (l ∷ []) x = refl
last_push (l ∷ m ∷ ms) x = last_push (m ∷ ms) x

lacks_onto : (c x : ℕ) (parts : List (List ℕ)) → eqb x c ≡ false → EachLacks c parts → EachLacks c (onto_first x parts)
lacks_onto c x [] e h = (rw e refl, tt)
lacks_onto c x (p ∷ parts) e h = (rw e h.0, h.1)

split_case : (c x : ℕ) (t : Bool) (parts : List (List ℕ)) → eqb x c ≡ t → EachLacks c parts → EachLacks c (cond t ([] ∷ parts) (onto_first x parts))
split_case c x true parts e h = (refl, h)
split_case c x false parts e h = lacks_onto c x parts e h

-- no part has the byte between the parts
pub split_lacks : (c : ℕ) (text : List ℕ) → EachLacks c (split_at c text)
split_lacks c [] = (refl, tt)
split_lacks c (x ∷ xs) = split_case c x (eqb x c) (split_at c xs) refl (split_lacks c xs)

pub each_front : (c : ℕ) (parts : List (List ℕ)) (x : List ℕ) (more : List (List ℕ)) → EachLacks c (parts ++ x ∷ more) → lacks c x ≡ true
each_front c [] x more h = h.0
each_front c (p ∷ parts) x more h = each_front c parts x more h.1

-- fields that are joined by spaces have another byte only if one of them has it
pub lacks_joined : (c : ℕ) (fields : List (List ℕ)) → eqb 32 c ≡ false → EachLacks c fields → lacks c (joined fields) ≡ true
lacks_joined c [] sp h = refl
lacks_joined c (x ∷ []) sp h = h.0
lacks_joined c (x ∷ y ∷ ys) sp h =
    rw (list_all-append (λ (b : ℕ). not (eqb b c)) x (32 ∷ joined (y ∷ ys)), h.0, sp) (lacks_joined c (y ∷ ys) sp h.1)

-- ---- lines

-- lines joined, with bytes after the last line feed
pub join_is : (lines : List (List ℕ)) (last : List ℕ) → join_with_byte 10 (lines ++ last ∷ []) ≡ flat_map line_text lines ++ last
join_is [] last = refl
join_is (l ∷ []) last = sym (append_assoc l (10 ∷ []) last) ∙ ap (λ (v : List ℕ). v ++ last) (sym (append-nil (l ++ 10 ∷ [])))
join_is (l ∷ m ∷ ms) last =
    ap (λ (v : List ℕ). l ++ 10 ∷ v) (join_is (m ∷ ms) last)
    ∙ sym (append_assoc l (10 ∷ []) (flat_map line_text (m ∷ ms) ++ last))
    ∙ sym (append_assoc (l ++ 10 ∷ []) (flat_map line_text (m ∷ ms)) last)

-- a text is its lines and the bytes after the last line feed
pub text_is : (text : List ℕ) → text ≡ flat_map line_text (lines_of text) ++ last_in text
text_is text =
    text_of_parts 10 text (lines_of text ++ last_in text ∷ []) (parts_are (split_at 10 text) (split_some 10 text)) ∙ join_is (lines_of text) (last_in text)

pub front_lacks : (text : List ℕ) → EachLacks 10 (lines_of text ++ last_in text ∷ [])
front_lacks text = subst (EachLacks 10) (parts_are (split_at 10 text) (split_some 10 text)) (split_lacks 10 text)

-- lines before a text come apart from it
pub split_more : (lines : List (List ℕ)) (text : List ℕ) → EachLacks 10 lines → split_at 10 (flat_map line_text lines ++ text) ≡ lines ++ split_at 10 text
split_more [] text h = refl
split_more (x ∷ xs) text h =
    let re : flat_map line_text (x ∷ xs) ++ text ≡ x ++ 10 ∷ (flat_map line_text xs ++ text) = simp append_assoc in
    ap (split_at 10) re
    ∙ slice_split_at (λ b. eqb b 10) x 10 (flat_map line_text xs ++ text) (All-from_lacks 10 x h.0) refl
    ∙ ap (λ (v : List (List ℕ)). x ∷ v) (split_more xs text h.1)

-- a text that begins with a line
pub record Begins (text line rest : List ℕ) : Type 0 where
  pub lines : lines_of text ≡ line ∷ lines_of rest
  pub last : last_in text ≡ last_in rest

pub begins : (text line rest : List ℕ) → split_at 10 text ≡ line ∷ split_at 10 rest → Begins text line rest
begins text line rest e =
    let parts = split_at 10 rest in
    let whole : split_at 10 text ≡ (line ∷ lines_of rest) ++ last_in rest ∷ [] =
    e ∙ ap (λ (v : List (List ℕ)). line ∷ v) (parts_are parts (split_some 10 rest)) in
    record {
      lines = ap front_of whole ∙ front_push (line ∷ lines_of rest) (last_in rest);
      last = ap last_of whole ∙ last_push (line ∷ lines_of rest) (last_in rest);
    }
