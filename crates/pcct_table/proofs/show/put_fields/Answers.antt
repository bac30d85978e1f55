use Rattle.std.proofs.Common.{◌≡◌, ◌∙◌, sym, ap}
use Rattle.pcct_table.specs.Rows.{bytes_fields, fields_of}
use Rattle.pcct_table.specs.ShowText.{fields_shown}
use Rattle.pcct_table.proofs.Shown.{fields_put, known_shown, structure_rows}
use Rattle.pcct_table.proofs.show.put_fields.Goals as goal

pub put_words-requires-in_default : goal.put_words-requires-in_default
put_words-requires-in_default c =
    let fields : fields_of c.rows_of_kind.result.now ≡ fields_shown c.args.subspace.now = known_shown c.args.subspace.now c.rows_of_kind.result.now c.kind.result c.in_default.not-Other c.kind.ensures c.rows_of_kind.ensures in
    structure_rows c.args.subspace.now c.rows_of_kind.result.now c.args.bytes.now c.requires.right fields c.requires.spelled

pub returns-in-Other : goal.returns-in-Other
returns-in-Other c =
    let fields : fields_of c.bytes_row.result ≡ fields_shown c.args.subspace.now = c.bytes_row.ensures ∙ ap bytes_fields c.len.ensures ∙ ap fields_shown (sym c.in-Other.is) in
    fields_put c.put_words.result c.args.subspace.now c.bytes_row.result c.args.bytes.now c.args.out.now.items c.put_words.new.out.items c.requires.right fields c.requires.spelled c.put_words.ensures

pub returns-in_default : goal.returns-in_default
returns-in_default c =
    let fields : fields_of c.rows_of_kind.result.now ≡ fields_shown c.args.subspace.now = known_shown c.args.subspace.now c.rows_of_kind.result.now c.kind.result c.in_default.not-Other c.kind.ensures c.rows_of_kind.ensures in
    fields_put c.put_words-in_default.result c.args.subspace.now c.rows_of_kind.result.now c.args.bytes.now c.args.out.now.items c.put_words-in_default.new.out.items c.requires.right fields c.requires.spelled c.put_words-in_default.ensures
