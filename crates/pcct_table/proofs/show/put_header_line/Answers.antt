use Rattle.std.proofs.Common.{arith}
use Rattle.std.proofs.lemmas.Grind.{common_steps}
use Rattle.pcct_table.proofs.Shown.{header_rows, header_put}
use Rattle.pcct_table.proofs.show.put_header_line.Goals as goal

pub put_words-requires : goal.put_words-requires
put_words-requires c = header_rows c.args.table.now c.later_rows.result.now c.deref.result.now c.requires c.later_rows.ensures (grind (arith, common_steps))

pub returns : goal.returns
returns c = header_put c.put.result c.args.table.now c.later_rows.result.now c.deref.result.now c.args.out.now.items c.put_pieces.new.out.items c.put_words.new.out.items c.put.new.out.items c.requires c.later_rows.ensures (grind (arith, common_steps)) c.in_ok-put_pieces.ensures c.in_ok-put_words.ensures c.put.ensures
