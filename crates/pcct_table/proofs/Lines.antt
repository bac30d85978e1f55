-- The lines of a text, cut one after another.
use Rattle.std.proofs.Common.{◌≡◌, ℕ, ◌+◌, ◌-◌, ◌<◌, ◌≤◌, List, [], ◌∷◌, length, drop, get_or, sym, ap, ◌∙◌, arith}
use Rattle.std.proofs.lemmas.List.{drop-drop, drop_at, get_or-drop, get_or_append_left, length-append, length-drop}
use Rattle.pcc_bytes.specs.Fields.{last_in, lines_of, split_at}
use Rattle.pcc_text.proofs.Lines.{parts_are, split_some}

-- this many lines were cut off, and the rest is left
abbrev pub IsRest : List ℕ → ℕ → List ℕ → Type 0
IsRest text place rest = drop place (split_at 10 text) ≡ split_at 10 rest

parts_len : (text : List ℕ) → length (split_at 10 text) ≡ length (lines_of text) + 1
parts_len text = ap length (parts_are (split_at 10 text) (split_some 10 text)) ∙ length-append (lines_of text) (last_in text ∷ [])

-- the rest begins with a line, which has this place
pub record Next (text line : List ℕ) (place : ℕ) (later : List ℕ) : Type 0 where
  pub within : place < length (lines_of text)
  pub is : get_or (lines_of text) place [] ≡ line
  pub more : IsRest text (place + 1) later

pub next_line : (text rest line later : List ℕ) (place : ℕ) → IsRest text place rest → split_at 10 rest ≡ line ∷ split_at 10 later → Next text line place later
next_line text rest line later place here cut =
    let parts = split_at 10 text in
    let whole : drop place parts ≡ line ∷ split_at 10 later = here ∙ cut in
    let some : 1 ≤ length (split_at 10 later) = split_some 10 later in
    let len : length parts - place ≡ length (line ∷ split_at 10 later) = sym (length-drop place parts) ∙ ap length whole in
    let all = parts_len text in
    let within : place < length (lines_of text) = omega arith in
    let at : get_or (drop place parts) 0 [] ≡ get_or parts (place + 0) [] = get_or-drop place parts 0 [] in
    let same : place + 0 ≡ place = omega arith in
    let front : get_or parts place [] ≡ get_or (lines_of text) place [] =
    ap (λ (ps : List (List ℕ)). get_or ps place []) (parts_are parts (split_some 10 text)) ∙ get_or_append_left (lines_of text) (last_in text ∷ []) [] place within in
    record {
      within = within;
      is = sym front ∙ ap (λ (k : ℕ). get_or parts k []) (sym same) ∙ sym at ∙ ap (λ (ps : List (List ℕ)). get_or ps 0 []) whole;
      more = sym (drop-drop 1 place parts) ∙ ap (drop 1) whole;
    }

-- the rest has no line
pub record Last (text : List ℕ) (place : ℕ) (rest : List ℕ) : Type 0 where
  pub all : length (lines_of text) ≡ place
  pub is : last_in text ≡ rest

pub no_line : (text rest : List ℕ) (place : ℕ) → IsRest text place rest → split_at 10 rest ≡ rest ∷ [] → Last text place rest
no_line text rest place here uncut =
    let parts = split_at 10 text in
    let whole : drop place parts ≡ rest ∷ [] = here ∙ uncut in
    let len : length parts - place ≡ 1 = sym (length-drop place parts) ∙ ap length whole in
    let count = parts_len text in
    let all : length (lines_of text) ≡ place = omega arith in
    let last : drop place parts ≡ last_in text ∷ [] = ap (drop place) (parts_are parts (split_some 10 text)) ∙ drop_at (lines_of text) (last_in text ∷ []) place all in
    let both : last_in text ∷ [] ≡ rest ∷ [] = sym last ∙ whole in
    record { all = all; is = cc }
