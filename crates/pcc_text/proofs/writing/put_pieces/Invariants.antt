use Rattle.pcc_text.proofs.Appending.{Appending}
use Rattle.pcc_text.proofs.writing.put_pieces.Given as goal
use Rattle.pcc_text.proofs.Appending.{piece_text}

abbrev pub invariant-loop-piece : goal.invariant-loop-piece
invariant-loop-piece l = Appending piece_text l.initial.out.items l.out.items l.pieces l.piece-index
