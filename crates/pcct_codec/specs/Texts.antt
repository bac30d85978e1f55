-- Bytes of tables and their texts.
use Rattle.std.specs.Prelude.{◌≡◌, List, ℕ}
use Rattle.pcc_bytes.specs.Bytes.{IsBytes}
use Rattle.pcct_table.specs.declared.table.Table.{Table}
use Rattle.pcct_table.specs.ShowText.{show_text}
use Rattle.pcct_codec.specs.Tables.{TableBytes}

-- bytes spell a table of which this is the text: showing the bytes gives the text, and building from the text gives the bytes
pub record Shows (bytes text : List ℕ) : Type 0 where
  pub table : Table
  pub fit : IsBytes bytes
  pub spelled : TableBytes bytes table
  pub shown : text ≡ show_text table
