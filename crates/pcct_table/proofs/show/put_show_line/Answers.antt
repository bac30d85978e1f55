use Rattle.pcct_table.proofs.Shown.{structure_put}
use Rattle.pcct_table.proofs.show.put_show_line.Goals as goal

pub returns : goal.returns
returns c = structure_put c.put.result c.args.place c.args.subspace.now c.kind.result c.args.out.now.items c.put_pieces.new.out.items c.put_fields.new.out.items c.put.new.out.items c.kind.ensures c.in_ok-put_pieces.ensures c.in_ok-put_fields.ensures c.put.ensures
