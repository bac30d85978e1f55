-- A text is cut at the first of some bytes.
use Rattle.std.proofs.Common.{◌≡◌, ℕ, ◌+◌, ◌<◌, ◌≤◌, eqb, false, List, [], ◌∷◌, ◌++◌, length, take, drop, get_or, sym, ap, ◌∙◌, subst, arith}
use Rattle.std.specs.Prelude.{slice_index}
use Rattle.std.specs.List.{All}
use Rattle.std.proofs.lemmas.Bool.{false_from_ne_true}
use Rattle.std.proofs.lemmas.List.{drop_more, length-take, get_or-take, take-append-drop, take_all}
use Rattle.std.proofs.lemmas.List.Elements.{All-from_get_or}
use Rattle.std.proofs.lemmas.List.Splits.{slice_split_none, slice_split_at}
use Rattle.memchr.specs.Find.{NoneBefore, Nowhere, Passes, is_byte}
use Rattle.pcc_bytes.specs.Fields.{split_at}

-- no byte before a place is the cut
clean : (c : ℕ) (text : List ℕ) (k : ℕ) → k ≤ length text → Nowhere (Passes (is_byte c) text) 0 k → All (λ b. eqb b c ≡ false) (take k text)
clean c text k le none = All-from_get_or (λ b. eqb b c ≡ false) (take k text) 0 (λ i lt. other i lt)
  where
    other : (i : ℕ) → i < length (take k text) → eqb (get_or (take k text) i 0) c ≡ false
    other i lt =
        let n = length-take k text in
        let within : i < k = omega arith in
        let same : get_or (take k text) i 0 ≡ get_or text i 0 = get_or-take k text i 0 within in
        rw same (false_from_ne_true (eqb (get_or text i 0) c) (none i (omega arith) within))

-- there is no cut
pub uncut : (c : ℕ) (text : List ℕ) → Nowhere (Passes (is_byte c) text) 0 (length text) → split_at c text ≡ text ∷ []
uncut c text none =
    let all : take (length text) text ≡ text = take_all (length text) text (omega arith) in
    slice_split_none (λ b. eqb b c) text (subst (All (λ b. eqb b c ≡ false)) all (clean c text (length text) (omega arith) none))

-- the first cut
pub cut_once : (c : ℕ) (text : List ℕ) (place : ℕ) → NoneBefore (Passes (is_byte c) text) 0 (length text) place → Passes (is_byte c) text place
    → split_at c text ≡ take place text ∷ split_at c (drop (place + 1) text)
cut_once c text place first here =
    let high : place < length text = first.high in
    let tail : drop place text ≡ slice_index text place ∷ drop (place + 1) text = drop_more text place 0 high in
    let whole : text ≡ take place text ++ slice_index text place ∷ drop (place + 1) text =
    sym (take-append-drop place text) ∙ ap (λ (v : List ℕ). take place text ++ v) tail in
    ap (split_at c) whole ∙ slice_split_at (λ b. eqb b c) (take place text) (slice_index text place) (drop (place + 1) text) (clean c text place (omega arith) first.before) here
