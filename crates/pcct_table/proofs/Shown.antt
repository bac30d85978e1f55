-- What is written is the text of a table.
use Rattle.std.proofs.Common.{◌≡◌, ℕ, suc, ◌+◌, ◌<◌, ◌≤◌, true, List, [], ◌∷◌, ◌++◌, length, drop, get_or, take, All, refl, sym, ap, ◌∙◌, append_assoc, subst, arith}
use Rattle.std.specs.Prelude.{Result, Ok, Err, OnOk, codes, decimal}
use Rattle.std.specs.List.{AllByRecursion, flat_map, join_with_byte}
use Rattle.std.proofs.lemmas.List.{append-nil, drop_more, drop_all, take_all}
use Rattle.std.proofs.lemmas.List.Elements.{All-from_recursion}
use Rattle.pcc_bytes.specs.Fields.{joined, line_text}
use Rattle.pcc_gas.specs.declared.address.Gas.{Gas}
use Rattle.pcc_text.specs.Pieces.{Decimal, Words, spelled}
use Rattle.pcct_table.specs.declared.rows.Row.{Row}
use Rattle.pcct_table.specs.declared.other.Other.{Other}
use Rattle.pcct_table.specs.declared.subspace.Subspace.{Subspace}
use Rattle.pcct_table.specs.declared.subspace.Subspace.TheVariants as Sub
use Rattle.pcct_table.specs.declared.table.Table.{Table}
use Rattle.pcct_table.specs.Rows.{Field, field, fields_of, fields_of_kind, known_fields, width}
use Rattle.pcct_table.specs.Values.{value_at, values_in}
use Rattle.pcct_table.specs.Subspaces.{IsSubspace, kind_of, subspace_bytes, values_of}
use Rattle.pcct_table.specs.ShowText.{HasText, address_text, fields_shown, header_line, later_fields, later_values, show_line, show_text, structure_lines, word, words}
use Rattle.pcct_table.specs.ShowReading.{shown_bytes}
use Rattle.pcct_table.proofs.Laws.{begins, is_contiguous, shown_by, spelling}
use Rattle.pcct_table.proofs.ShowLine.{contiguous_size}
use Rattle.pcct_table.proofs.ShowHeader.{shown_is, shown_len}

pub address_pieces : (gas : Gas)
    → spelled (Decimal gas.space ∷ Words (58 ∷ []) ∷ Decimal gas.width ∷ Words (58 ∷ []) ∷ Decimal gas.offset ∷ Words (58 ∷ []) ∷ Decimal gas.access ∷ Words (58 ∷ []) ∷ Decimal gas.address ∷ []) ≡ address_text gas
unfolding spelled address_text
address_pieces gas = ap (λ (v : List ℕ). decimal gas.space ++ 58 ∷ (decimal gas.width ++ 58 ∷ (decimal gas.offset ++ 58 ∷ (decimal gas.access ++ 58 ∷ v)))) (append-nil (decimal gas.address))

-- ---- words

-- words with a space before each
abbrev pub spaced : List (List ℕ) → List ℕ
spaced ws = flat_map (λ (w : List ℕ). 32 ∷ w) ws

-- the word of a row, from the bytes of its structure
abbrev pub row_word : List ℕ → Row → List ℕ
row_word b r = word (field r.0.now r.1 r.2) (value_at r.2 r.1 b)

row_words : (b : List ℕ) (rows : List Row) → flat_map (λ r. 32 ∷ row_word b r) rows ≡ spaced (words (fields_of rows) (values_in b (fields_of rows)))
row_words b [] = refl
row_words b (r ∷ rs) = ap (λ (v : List ℕ). 32 ∷ row_word b r ++ v) (row_words b rs)

pub rows_put : (b old out : List ℕ) (rows : List Row) (i : ℕ) → length rows ≤ i → out ≡ old ++ flat_map (λ r. 32 ∷ row_word b r) (take i rows)
    → out ≡ old ++ spaced (words (fields_of rows) (values_in b (fields_of rows)))
rows_put b old out rows i le e =
    e ∙ ap (λ (rs : List Row). old ++ flat_map (λ r. 32 ∷ row_word b r) rs) (take_all i rows le) ∙ ap (λ (v : List ℕ). old ++ v) (row_words b rows)

within : (rows : List Row) (at end n : ℕ) → is_contiguous at (fields_of rows) end ≡ true → end ≤ n → AllByRecursion (λ r. r.1 + width r.2 ≤ n) rows
within [] at end n h le = tt
within (r ∷ rs) at end n h le =
    let first = begins at (field r.0.now r.1 r.2) (fields_of rs) end h in
    let here : r.1 ≡ at = first.here in
    let lt : at + width r.2 ≤ end = first.within in
    (omega arith, within rs (at + width r.2) end n first.rest le)

rows_within : (rows : List Row) (at end : ℕ) (bytes : List ℕ) → is_contiguous at (fields_of rows) end ≡ true → end ≤ length bytes
    → All (λ r. r.1 + width r.2 ≤ length bytes) rows
rows_within rows at end bytes h le = All-from_recursion _ rows (within rows at end (length bytes) h le)

join_first : (x : List ℕ) (ws : List (List ℕ)) → join_with_byte 32 (x ∷ ws) ≡ x ++ spaced ws
join_first x [] = sym (append-nil x)
join_first x (w ∷ ws) = ap (λ (v : List ℕ). x ++ 32 ∷ v) (join_first w ws)

-- a text, words, and a line feed
line_put : {E : Type 0} {T : Type 0} (r : Result T E) (old a b c start more line : List ℕ) → a ≡ old ++ start → b ≡ a ++ more → start ++ more ≡ line
    → OnOk r (c ≡ b ++ 10 ∷ []) → OnOk r (c ≡ old ++ line_text line)
line_put (Ok x) old a b c start more line e f g h =
    h ∙ ap (λ (v : List ℕ). v ++ 10 ∷ []) (f ∙ ap (λ (v : List ℕ). v ++ more) e ∙ append_assoc old start more ∙ ap (λ (v : List ℕ). old ++ v) g) ∙ append_assoc old line (10 ∷ [])
line_put (Err x) old a b c start more line e f g h = tt

-- ---- a structure

rows_fields : (s : Subspace) (rows : List Row) (bytes : List ℕ) → (h : IsSubspace s) → fields_of rows ≡ fields_shown s → bytes ≡ subspace_bytes s
    → (fields_of rows ≡ fields_of_kind (kind_of s) (length h.bytes)) × (bytes ≡ h.bytes)
rows_fields s rows bytes h e b = (e ∙ sym (shown_by h.bytes s h.spell), b ∙ sym (spelling h.bytes s h.fit h.spell))

pub structure_rows : (s : Subspace) (rows : List Row) (bytes : List ℕ) → IsSubspace s → fields_of rows ≡ fields_shown s → bytes ≡ subspace_bytes s
    → All (λ r. r.1 + width r.2 ≤ length bytes) rows
structure_rows s rows bytes h e b =
    let own = h.bytes in
    let same = rows_fields s rows bytes h e b in
    let len : length own ≡ length bytes = ap length (sym same.1) in
    let P : List Field → Type 0 = λ fs. is_contiguous 2 fs (length own) ≡ true in
    rows_within rows 2 (length own) bytes (subst P (sym same.0) (contiguous_size (kind_of s) (length own) h.spell.size)) (omega arith)

structure_words : (s : Subspace) (rows : List Row) (bytes : List ℕ) → IsSubspace s → fields_of rows ≡ fields_shown s → bytes ≡ subspace_bytes s
    → words (fields_of rows) (values_in bytes (fields_of rows)) ≡ words (fields_shown s) (values_of s)
structure_words s rows bytes h e b =
    let same = rows_fields s rows bytes h e b in
    let values : values_in bytes (fields_of rows) ≡ values_of s =
    ap (values_in bytes) same.0 ∙ ap (λ (v : List ℕ). values_in v (fields_of_kind (kind_of s) (length h.bytes))) same.1 ∙ h.spell.values in
    ap (λ (fs : List Field). words fs (values_in bytes (fields_of rows))) e ∙ ap (words (fields_shown s)) values

pub fields_put : {E : Type 0} {T : Type 0} (r : Result T E) (s : Subspace) (rows : List Row) (bytes old out : List ℕ) → IsSubspace s → fields_of rows ≡ fields_shown s
    → bytes ≡ subspace_bytes s → OnOk r (out ≡ old ++ spaced (words (fields_of rows) (values_in bytes (fields_of rows))))
    → OnOk r (out ≡ old ++ spaced (words (fields_shown s) (values_of s)))
fields_put (Ok x) s rows bytes old out h e b p = p ∙ ap (λ (ws : List (List ℕ)). old ++ spaced ws) (structure_words s rows bytes h e b)
fields_put (Err x) s rows bytes old out h e b p = tt

-- the rows of a known type
pub known_shown : (s : Subspace) (rows : List Row) (kind : ℕ) → ((o : Other) → s ≡ Sub.Other o → ⊥) → kind ≡ kind_of s → fields_of rows ≡ known_fields kind
    → fields_of rows ≡ fields_shown s
known_shown (Sub.Generic t) rows kind other k e = e ∙ ap known_fields k
known_shown (Sub.HwReduced1 t) rows kind other k e = e ∙ ap known_fields k
known_shown (Sub.HwReduced2 t) rows kind other k e = e ∙ ap known_fields k
known_shown (Sub.Initiator t) rows kind other k e = e ∙ ap known_fields k
known_shown (Sub.Responder t) rows kind other k e = e ∙ ap known_fields k
known_shown (Sub.HwRegister t) rows kind other k e = e ∙ ap known_fields k
known_shown (Sub.Other o) rows kind other k e = absurd (other o refl)

structure_joins : (place kind : ℕ) (ws : List (List ℕ))
    → spelled (Words (codes "subspace ") ∷ Decimal place ∷ Words (codes " type ") ∷ Decimal kind ∷ []) ++ spaced ws
    ≡ joined (codes "subspace" ∷ decimal place ∷ codes "type" ∷ decimal kind ∷ ws)
unfolding spelled
structure_joins place kind ws =
    let start : List ℕ → List ℕ = λ v. codes "subspace " ++ v in
    let middle : List ℕ → List ℕ = λ v. codes " type " ++ v in
    ap start (append_assoc (decimal place) (middle (decimal kind ++ [])) (spaced ws) ∙ ap (λ (v : List ℕ). decimal place ++ middle v) (ap (λ (v : List ℕ). v ++ spaced ws) (append-nil (decimal kind)) ∙ sym (join_first (decimal kind) ws)))

pub structure_put : {E : Type 0} {T : Type 0} (r : Result T E) (place : ℕ) (s : Subspace) (kind : ℕ) (old a b c : List ℕ) → kind ≡ kind_of s
    → a ≡ old ++ spelled (Words (codes "subspace ") ∷ Decimal place ∷ Words (codes " type ") ∷ Decimal kind ∷ [])
    → b ≡ a ++ spaced (words (fields_shown s) (values_of s)) → OnOk r (c ≡ b ++ 10 ∷ []) → OnOk r (c ≡ old ++ line_text (show_line place s))
unfolding show_line
structure_put r place s kind old a b c k f g p =
    let start = spelled (Words (codes "subspace ") ∷ Decimal place ∷ Words (codes " type ") ∷ Decimal kind ∷ []) in
    let ws = words (fields_shown s) (values_of s) in
    let line : start ++ spaced ws ≡ joined (codes "subspace" ∷ decimal place ∷ codes "type" ∷ decimal (kind_of s) ∷ ws) =
    structure_joins place kind ws ∙ ap (λ (n : ℕ). joined (codes "subspace" ∷ decimal place ∷ codes "type" ∷ decimal n ∷ ws)) k in
    line_put r old a b c start (spaced ws) (joined (codes "subspace" ∷ decimal place ∷ codes "type" ∷ decimal (kind_of s) ∷ ws)) f g line p

-- ---- a header

pub header_rows : (t : Table) (rows : List Row) (bytes : List ℕ) → HasText t → fields_of rows ≡ later_fields → bytes ≡ shown_bytes t
    → All (λ r. r.1 + width r.2 ≤ length bytes) rows
header_rows t rows bytes h e b =
    let len : length bytes ≡ 48 = ap length b ∙ shown_len t h in
    let P : List Field → Type 0 = λ fs. is_contiguous 10 fs 48 ≡ true in
    rows_within rows 10 48 bytes (subst P (sym e) refl) (omega arith)

header_joins : (revision : ℕ) (ws : List (List ℕ))
    → spelled (Words (codes "pcct revision=") ∷ Decimal revision ∷ []) ++ spaced ws ≡ joined (codes "pcct" ∷ (codes "revision" ++ 61 ∷ decimal revision) ∷ ws)
unfolding spelled
header_joins revision ws =
    let start : List ℕ → List ℕ = λ v. codes "pcct revision=" ++ v in
    ap (λ (v : List ℕ). start (v ++ spaced ws)) (append-nil (decimal revision)) ∙ ap (λ (v : List ℕ). codes "pcct " ++ v) (sym (join_first (codes "revision" ++ 61 ∷ decimal revision) ws))

pub header_put : {E : Type 0} {T : Type 0} (r : Result T E) (t : Table) (rows : List Row) (bytes old a b c : List ℕ) → HasText t
    → fields_of rows ≡ later_fields → bytes ≡ shown_bytes t
    → a ≡ old ++ spelled (Words (codes "pcct revision=") ∷ Decimal t.revision ∷ [])
    → b ≡ a ++ spaced (words (fields_of rows) (values_in bytes (fields_of rows)))
    → OnOk r (c ≡ b ++ 10 ∷ []) → OnOk r (c ≡ old ++ line_text (header_line t))
unfolding header_line
header_put r t rows bytes old a b c h e is f g p =
    let start = spelled (Words (codes "pcct revision=") ∷ Decimal t.revision ∷ []) in
    let ws = words (fields_of rows) (values_in bytes (fields_of rows)) in
    let values : values_in (shown_bytes t) later_fields ≡ later_values t = ap (drop 1) (shown_is t h) in
    let same : ws ≡ words later_fields (later_values t) =
    ap (λ (fs : List Field). words fs (values_in bytes fs)) e ∙ ap (λ (v : List ℕ). words later_fields (values_in v later_fields)) is ∙ ap (words later_fields) values in
    let line : start ++ spaced ws ≡ joined (codes "pcct" ∷ (codes "revision" ++ 61 ∷ decimal t.revision) ∷ words later_fields (later_values t)) =
    header_joins t.revision ws ∙ ap (λ (v : List (List ℕ)). joined (codes "pcct" ∷ (codes "revision" ++ 61 ∷ decimal t.revision) ∷ v)) same in
    line_put r old a b c start (spaced ws) (joined (codes "pcct" ∷ (codes "revision" ++ 61 ∷ decimal t.revision) ∷ words later_fields (later_values t))) f g line p

-- ---- a table

-- the lines before a structure's are written
pub record Showing (t : Table) (place : ℕ) (out : List ℕ) : Type 0 where
  pub whole : out ++ flat_map line_text (structure_lines place (drop place t.subspaces)) ≡ show_text t

pub shown_start : (t : Table) (out : List ℕ) → out ≡ line_text (header_line t) → Showing t 0 out
unfolding show_text
shown_start t out e = record { whole = ap (λ (v : List ℕ). v ++ flat_map line_text (structure_lines 0 t.subspaces)) e }

pub shown_more : (t : Table) (place : ℕ) (d : Subspace) (out next : List ℕ) → place < length t.subspaces
    → next ≡ out ++ line_text (show_line place (get_or t.subspaces place d)) → Showing t place out → Showing t (place + 1) next
shown_more t place d out next lt e h =
    let s = get_or t.subspaces place d in
    let rest = flat_map line_text (structure_lines (place + 1) (drop (place + 1) t.subspaces)) in
    let one : suc place ≡ place + 1 = omega arith in
    let step : flat_map line_text (structure_lines place (drop place t.subspaces)) ≡ line_text (show_line place s) ++ rest =
    ap (λ (v : List Subspace). flat_map line_text (structure_lines place v)) (drop_more t.subspaces place d lt) ∙ ap (λ (n : ℕ). line_text (show_line place s) ++ flat_map line_text (structure_lines n (drop (place + 1) t.subspaces))) one in
    record { whole = ap (λ (v : List ℕ). v ++ rest) e ∙ append_assoc out (line_text (show_line place s)) rest ∙ ap (λ (v : List ℕ). out ++ v) (sym step) ∙ h.whole }

pub shown_end : (t : Table) (place : ℕ) (out : List ℕ) → length t.subspaces ≤ place → Showing t place out → out ≡ show_text t
shown_end t place out le h =
    let none : flat_map line_text (structure_lines place (drop place t.subspaces)) ≡ [] = ap (λ (v : List Subspace). flat_map line_text (structure_lines place v)) (drop_all place t.subspaces le) in
    sym (append-nil out) ∙ ap (λ (v : List ℕ). out ++ v) (sym none) ∙ h.whole
