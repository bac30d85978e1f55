use Rattle.cpc_package.proofs.text.put_integer.Goals as goal

pub returns : goal.returns
returns c = rw c.form_text.ensures at c.put_pieces.ensures
