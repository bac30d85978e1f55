use Rattle.std.proofs.Common.{◌≡◌, ◌∷◌, ◌++◌, take}
use Rattle.std.specs.List.{flat_map}
use Rattle.pcct_table.proofs.Shown.{row_word}
use Rattle.pcct_table.proofs.show.put_words.Given as goal

abbrev pub invariant-loop-row : goal.invariant-loop-row
invariant-loop-row l = l.out.items ≡ l.initial.out.items ++ flat_map (λ r. 32 ∷ row_word l.bytes r) (take l.row-index l.rows)
