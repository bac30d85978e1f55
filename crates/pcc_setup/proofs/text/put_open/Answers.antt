use Rattle.std.proofs.Common.{◌≡◌, ℕ, List, [], ◌∷◌, ◌++◌, subst}
use Rattle.std.specs.Prelude.{codes, OnOk}
use Rattle.pcc_text.specs.Pieces.{Decimal, Words, spell, spelled}
use Rattle.pcc_setup.specs.RefusalText.{open_pieces}
use Rattle.pcc_setup.proofs.Refused.{put_after, three_before}
use Rattle.pcc_setup.proofs.text.put_open.Goals as goal

pub returns : goal.returns
unfolding spelled
returns c =
    let P : List ℕ → Type 0 = λ v. OnOk c.put_open_fault.result (c.put_open_fault.new.out.items ≡ c.args.out.now.items ++ v) in
    subst P (three_before (codes "open ") (spell (Decimal c.args.id)) (codes " ") (spelled (open_pieces c.args.fault)))
    (put_after c.put_open_fault.result c.args.out.now.items c.put_pieces.new.out.items c.put_open_fault.new.out.items
    (spelled (Words (codes "open ") ∷ Decimal c.args.id ∷ Words (codes " ") ∷ [])) (spelled (open_pieces c.args.fault)) c.in_ok-put_pieces.ensures c.put_open_fault.ensures)
