-- A line more goes out, into a list or a text.
use Rattle.std.proofs.Common.{◌≡◌, ℕ, List, [], ◌∷◌, ◌++◌, sym, ap, ◌∙◌}
use Rattle.std.proofs.lemmas.List.{append_assoc, append-nil}
use Rattle.channel_plain.specs.declared.trace.TraceLine.{TraceLine}
use Rattle.channel_plain.specs.TraceText.{trace_line_text, trace_text}

pub none_listed : (first : List TraceLine) → first ≡ first ++ []
none_listed first = sym (append-nil first)

pub one_listed : (first lines now new : List TraceLine) (l : TraceLine) → now ≡ first ++ lines → new ≡ now ++ l ∷ [] → new ≡ first ++ (lines ++ l ∷ [])
one_listed first lines now new l e q = q ∙ ap (λ (x : List TraceLine). x ++ l ∷ []) e ∙ append_assoc first lines (l ∷ [])

text_more : (ls : List TraceLine) (l : TraceLine) → trace_text (ls ++ l ∷ []) ≡ trace_text ls ++ trace_line_text l
text_more [] l = append-nil (trace_line_text l)
text_more (m ∷ ls) l = ap (λ (t : List ℕ). trace_line_text m ++ t) (text_more ls l) ∙ sym (append_assoc (trace_line_text m) (trace_text ls) (trace_line_text l))

pub none_written : (first now : List ℕ) → now ≡ first → now ≡ first ++ trace_text []
none_written first now e = e ∙ sym (append-nil first)

pub one_written : (first now new : List ℕ) (lines : List TraceLine) (l : TraceLine) → now ≡ first ++ trace_text lines → new ≡ now ++ trace_line_text l
    → new ≡ first ++ trace_text (lines ++ l ∷ [])
one_written first now new lines l e q = q ∙ ap (λ (x : List ℕ). x ++ trace_line_text l) e ∙ append_assoc first (trace_text lines) (trace_line_text l) ∙ ap (λ (x : List ℕ). first ++ x) (sym (text_more lines l))
