-- The text of the numbers of a processor, entry by entry.
use Rattle.std.proofs.Common.{◌≡◌, ℕ, ◌+◌, ◌<◌, ◌≤◌, List, [], ◌∷◌, ◌++◌, length, drop, get_or, refl, sym, ap, ◌∙◌}
use Rattle.std.specs.Prelude.{Option, Some, None}
use Rattle.std.proofs.lemmas.List.{append_assoc, append-nil, drop_all, drop_more}
use Rattle.std.proofs.lemmas.List.Concat.{flat_map-append}
use Rattle.pcc_text.specs.Pieces.{Spelled, spell, spelled}
use Rattle.script_run.specs.ReplyText.{entry_pieces}

-- the entries from one on are still to be put
abbrev pub Puts : List (Option ℕ) → List ℕ → ℕ → List ℕ → Type 0
Puts values before entry put = put ++ spelled (entry_pieces entry (drop entry values)) ≡ before ++ spelled (entry_pieces 2 (drop 2 values))

pub entries_start : (values : List (Option ℕ)) (before : List ℕ) → Puts values before 2 before
entries_start values before = refl

spelled-append : (ps qs : List Spelled) → spelled (ps ++ qs) ≡ spelled ps ++ spelled qs
unfolding spelled
spelled-append ps qs = flat_map-append spell ps qs

one_entry : (n : ℕ) (v : Option ℕ) (values : List (Option ℕ)) → entry_pieces n (v ∷ values) ≡ entry_pieces n (v ∷ []) ++ entry_pieces (n + 1) values
one_entry n None values = refl
one_entry n (Some v) values = refl

pub entries_more : (values : List (Option ℕ)) (before put next : List ℕ) (entry : ℕ) (d : Option ℕ) → entry < length values
    → next ≡ put ++ spelled (entry_pieces entry (get_or values entry d ∷ [])) → Puts values before entry put → Puts values before (entry + 1) next
entries_more values before put next entry d lt e h =
    let v : Option ℕ = get_or values entry d in
    let rest : List (Option ℕ) = drop (entry + 1) values in
    let here : spelled (entry_pieces entry (drop entry values)) ≡ spelled (entry_pieces entry (v ∷ [])) ++ spelled (entry_pieces (entry + 1) rest) =
    ap (λ (vs : List (Option ℕ)). spelled (entry_pieces entry vs)) (drop_more values entry d lt) ∙ ap spelled (one_entry entry v rest) ∙ spelled-append (entry_pieces entry (v ∷ [])) (entry_pieces (entry + 1) rest) in
    ap (λ (t : List ℕ). t ++ spelled (entry_pieces (entry + 1) rest)) e
    ∙ append_assoc put (spelled (entry_pieces entry (v ∷ []))) (spelled (entry_pieces (entry + 1) rest))
    ∙ ap (λ (t : List ℕ). put ++ t) (sym here) ∙ h

none_left : (entry : ℕ) → spelled (entry_pieces entry []) ≡ []
unfolding spelled
none_left entry = refl

pub entries_end : (values : List (Option ℕ)) (before put : List ℕ) (entry : ℕ) → length values ≤ entry → Puts values before entry put
    → put ≡ before ++ spelled (entry_pieces 2 (drop 2 values))
entries_end values before put entry le h =
    sym (append-nil put) ∙ ap (λ (t : List ℕ). put ++ t) (sym (ap (λ (vs : List (Option ℕ)). spelled (entry_pieces entry vs)) (drop_all entry values le) ∙ none_left entry)) ∙ h

-- an entry without a number
pub none_put : (text : List ℕ) (entry : ℕ) (v : Option ℕ) → v ≡ None → text ≡ text ++ spelled (entry_pieces entry (v ∷ []))
none_put text entry v e = sym (ap (λ (x : Option ℕ). text ++ spelled (entry_pieces entry (x ∷ []))) e ∙ ap (λ (t : List ℕ). text ++ t) (none_left (entry + 1)) ∙ append-nil text)
