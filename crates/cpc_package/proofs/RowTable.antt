-- The rows of the program are those of the table.
use Rattle.std.proofs.Common.{◌≡◌, ℕ, ◌<◌, List, [], length, get_or, sym, ap, ◌∙◌}
use Rattle.std.proofs.lemmas.List.{get_or-map}
use Rattle.cpc_package.specs.declared.rows.Role.TheVariants.{Register}
use Rattle.cpc_package.specs.declared.rows.Row.{Row}
use Rattle.cpc_package.specs.Rows.{EntryRow, entry_rows, name_of, role_of, row, row_at, rows_of}

row_is : (rows : List Row) (n : ℕ) (d : Row) → rows_of rows ≡ entry_rows → n < length rows → row_at n ≡ row (get_or rows n d).0.now (get_or rows n d).1
row_is rows n d all lt =
    ap (λ (x : List EntryRow). get_or x n (row [] Register)) (sym all) ∙ get_or-map (λ r. row r.0.now r.1) rows n d (row [] Register) lt

pub row_name : (rows : List Row) (n : ℕ) (d : Row) → rows_of rows ≡ entry_rows → n < length rows → (get_or rows n d).0.now ≡ name_of n
unfolding name_of
row_name rows n d all lt = ap (λ (x : EntryRow). x.name) (sym (row_is rows n d all lt))

pub row_role : (rows : List Row) (n : ℕ) (d : Row) → rows_of rows ≡ entry_rows → n < length rows → (get_or rows n d).1 ≡ role_of n
unfolding role_of
row_role rows n d all lt = ap (λ (x : EntryRow). x.role) (sym (row_is rows n d all lt))
