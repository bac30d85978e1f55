use Rattle.std.proofs.Common.{◌≡◌, drop}
use Rattle.pcc_script.specs.Reading.{each, letter_of, letters_of}
use Rattle.pcc_script.proofs.Each.{after}
use Rattle.pcc_script.proofs.field.letters.Given as goal

abbrev pub invariant-loop-i : goal.invariant-loop-i
invariant-loop-i l = after l.letters (each letter_of (drop l.i l.field)) ≡ letters_of l.field
