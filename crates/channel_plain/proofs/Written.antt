-- The lines of a trace are written one by one.
use Rattle.std.proofs.Common.{◌≡◌, ℕ, ◌+◌, ◌<◌, ◌≤◌, List, ◌∷◌, ◌++◌, length, drop, get_or, refl, sym, ap, ◌∙◌}
use Rattle.std.proofs.lemmas.List.{append_assoc, append-nil, drop_more, drop_all}
use Rattle.channel_plain.specs.declared.trace.TraceLine.{TraceLine}
use Rattle.channel_plain.specs.TraceText.{trace_line_text, trace_text}

-- the first i lines are written after what was there first
pub record Written (first out : List ℕ) (ls : List TraceLine) (i : ℕ) : Type 0 where
  pub whole : out ++ trace_text (drop i ls) ≡ first ++ trace_text ls

pub written_start : (out : List ℕ) (ls : List TraceLine) → Written out out ls 0
written_start out ls = record { whole = refl }

pub written_more : (first out out' : List ℕ) (ls : List TraceLine) (i : ℕ) (l : TraceLine) → i < length ls → l ≡ get_or ls i l
    → out' ≡ out ++ trace_line_text l → Written first out ls i → Written first out' ls (i + 1)
written_more first out out' ls i l lt is e w =
    let cut : drop i ls ≡ l ∷ drop (i + 1) ls = drop_more ls i l lt ∙ ap (λ (x : TraceLine). x ∷ drop (i + 1) ls) (sym is) in
    record {
      whole =
          ap (λ (o : List ℕ). o ++ trace_text (drop (i + 1) ls)) e
          ∙ append_assoc out (trace_line_text l) (trace_text (drop (i + 1) ls))
          ∙ ap (λ (t : List ℕ). out ++ t) (sym (ap trace_text cut)) ∙ w.whole;
    }

pub written_end : (first out : List ℕ) (ls : List TraceLine) (i : ℕ) → length ls ≤ i → Written first out ls i → out ≡ first ++ trace_text ls
written_end first out ls i le w =
    sym (append-nil out) ∙ ap (λ (t : List ℕ). out ++ t) (sym (ap trace_text (drop_all i ls le))) ∙ w.whole
