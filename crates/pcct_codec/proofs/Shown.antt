-- Bytes of tables and their texts correspond, one to one.
use Rattle.std.proofs.Common.{◌≡◌, ℕ, List, refl, sym, ap, ◌∙◌, subst}
use Rattle.pcc_bytes.specs.Bytes.{IsBytes}
use Rattle.pcct_table.specs.declared.table.Table.{Table}
use Rattle.pcct_table.specs.ShowText.{HasText, show_text}
use Rattle.pcct_table.specs.ShowFaults.{HasTable}
use Rattle.pcct_table.proofs.Telling.{text_one_table}
use Rattle.pcct_codec.specs.Tables.{TableBytes}
use Rattle.pcct_codec.specs.Texts.{Shows}
use Rattle.pcct_codec.proofs.Headers.{one_table}
use Rattle.pcct_codec.proofs.Texts.{has_spelling, has_text}
use Rattle.pcct_codec.proofs.Writing.{one_table_spelling}

pub show_of_build : (bytes text other : List ℕ) → Shows bytes text → Shows bytes other → text ≡ other
show_of_build bytes text other h k = h.shown ∙ ap show_text (one_table bytes h.table k.table h.spelled k.spelled) ∙ sym k.shown

-- the table of bytes has a text
table_text : (bytes text : List ℕ) (h : Shows bytes text) → HasText h.table
table_text bytes text h = has_text h.table (record { bytes = bytes; fit = h.fit; spell = h.spelled })

pub build_of_show : (bytes other text : List ℕ) → Shows bytes text → Shows other text → bytes ≡ other
build_of_show bytes other text h k =
    let same : h.table ≡ k.table = text_one_table h.table k.table (table_text bytes text h) (table_text other text k) (sym h.shown ∙ k.shown) in
    let T : Table → Type 0 = λ t. TableBytes bytes t in
    one_table_spelling bytes other k.table h.fit k.fit (subst T same h.spelled) k.spelled

pub every_table : (bytes : List ℕ) (t : Table) → IsBytes bytes → TableBytes bytes t → Shows bytes (show_text t)
every_table bytes t fit h = record { table = t; fit = fit; spelled = h; shown = refl }

pub every_text : (text : List ℕ) → HasTable text → (bytes : List ℕ) × Shows bytes text
every_text text h =
    let v = has_spelling h.table h.right in
    (v.bytes, record { table = h.table; fit = v.fit; spelled = v.spell; shown = h.spelled })
