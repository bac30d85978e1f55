-- Lines are written one by one.
use Rattle.std.proofs.Common.{◌≡◌, ℕ, ◌+◌, ◌<◌, ◌≤◌, List, [], ◌∷◌, ◌++◌, length, drop, get_or, refl, sym, ap, ◌∙◌}
use Rattle.std.proofs.lemmas.List.{append_assoc, append-nil, drop_more, drop_all}
use Rattle.pcc_text.specs.Pieces.{spelled}
use Rattle.aml_pkg.specs.declared.item.Element.{Element}
use Rattle.cpc_package.specs.PackageText.{entry_line, lines_from}

-- the lines of the first n elements are written
pub record Written (out : List ℕ) (es : List Element) (n : ℕ) : Type 0 where
  pub whole : out ++ lines_from n (drop n es) ≡ lines_from 0 es

pub lines_start : (es : List Element) → Written [] es 0
lines_start es = record { whole = refl }

pub lines_more : (out next : List ℕ) (es : List Element) (n : ℕ) (e : Element) → n < length es → e ≡ get_or es n e
    → next ≡ out ++ spelled (entry_line n e) → Written out es n → Written next es (n + 1)
lines_more out next es n e lt is h w =
    let cut : drop n es ≡ e ∷ drop (n + 1) es = drop_more es n e lt ∙ ap (λ (x : Element). x ∷ drop (n + 1) es) (sym is) in
    let step : lines_from n (drop n es) ≡ spelled (entry_line n e) ++ lines_from (n + 1) (drop (n + 1) es) = ap (lines_from n) cut in
    record {
      whole =
          ap (λ (o : List ℕ). o ++ lines_from (n + 1) (drop (n + 1) es)) h
          ∙ append_assoc out (spelled (entry_line n e)) (lines_from (n + 1) (drop (n + 1) es))
          ∙ ap (λ (t : List ℕ). out ++ t) (sym step) ∙ w.whole;
    }

pub lines_end : (out : List ℕ) (es : List Element) (n : ℕ) → length es ≤ n → Written out es n → out ≡ lines_from 0 es
lines_end out es n le w =
    let none : lines_from n (drop n es) ≡ [] = ap (lines_from n) (drop_all n es le) in
    sym (append-nil out) ∙ ap (λ (t : List ℕ). out ++ t) (sym none) ∙ w.whole
