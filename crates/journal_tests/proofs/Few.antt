-- A text has no more lines than bytes.
use Rattle.std.proofs.Common.{◌≡◌, ℕ, ◌+◌, ◌≤◌, eqb, List, [], ◌∷◌, length, arith}
use Rattle.std.proofs.lemmas.List.Splits.{length-slice_split}
use Rattle.std.proofs.lemmas.List.Sums.{count_by-le-length}
use Rattle.pcc_bytes.specs.Fields.{front_of, lines_of, split_at}

front_length : (parts : List (List ℕ)) → 1 ≤ length parts → length (front_of parts) + 1 ≡ length parts
front_length [] h = absurd (omega arith)
front_length (x ∷ []) h = omega arith
front_length (x ∷ y ∷ ys) h =
    let more : length (front_of (y ∷ ys)) + 1 ≡ length (y ∷ ys) = front_length (y ∷ ys) (omega arith) in
    omega arith

pub few_lines : (text : List ℕ) → length (lines_of text) ≤ length text
few_lines text =
    let parts = length-slice_split (λ b. eqb b 10) text in
    let cuts = count_by-le-length (λ b. eqb b 10) text in
    let front = front_length (split_at 10 text) (omega (arith, parts)) in
    omega (arith, parts, cuts, front)
