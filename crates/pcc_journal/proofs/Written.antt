-- Records are written one by one.
use Rattle.std.proofs.Common.{◌≡◌, ℕ, ◌+◌, ◌<◌, ◌≤◌, List, [], ◌∷◌, ◌++◌, length, drop, get_or, refl, sym, ap, ◌∙◌}
use Rattle.std.proofs.lemmas.List.{append_assoc, append-nil, drop_more, drop_all}
use Rattle.pcc_text.specs.Pieces.{spelled}
use Rattle.pcc_journal.specs.declared.record.Record.{Record}
use Rattle.pcc_journal.specs.JournalText.{record_line, records_text}

-- the first i records are written behind what was there first
pub record Written (first out : List ℕ) (rs : List Record) (i : ℕ) : Type 0 where
  pub whole : out ++ records_text i (drop i rs) ≡ first ++ records_text 0 rs

pub written_start : (out : List ℕ) (rs : List Record) → Written out out rs 0
written_start out rs = record { whole = refl }

pub written_more : (first out out' : List ℕ) (rs : List Record) (i : ℕ) (r : Record) → i < length rs → r ≡ get_or rs i r
    → out' ≡ out ++ spelled (record_line i r) → Written first out rs i → Written first out' rs (i + 1)
written_more first out out' rs i r lt is e w =
    let cut : drop i rs ≡ r ∷ drop (i + 1) rs = drop_more rs i r lt ∙ ap (λ (x : Record). x ∷ drop (i + 1) rs) (sym is) in
    let step : records_text i (drop i rs) ≡ spelled (record_line i r) ++ records_text (i + 1) (drop (i + 1) rs) = ap (records_text i) cut in
    record {
      whole =
          ap (λ (o : List ℕ). o ++ records_text (i + 1) (drop (i + 1) rs)) e
          ∙ append_assoc out (spelled (record_line i r)) (records_text (i + 1) (drop (i + 1) rs))
          ∙ ap (λ (t : List ℕ). out ++ t) (sym step) ∙ w.whole;
    }

pub written_end : (first out : List ℕ) (rs : List Record) (i : ℕ) → length rs ≤ i → Written first out rs i → out ≡ first ++ records_text 0 rs
written_end first out rs i le w =
    let none : records_text i (drop i rs) ≡ [] = ap (records_text i) (drop_all i rs le) in
    sym (append-nil out) ∙ ap (λ (t : List ℕ). out ++ t) (sym none) ∙ w.whole
