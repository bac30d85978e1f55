use Rattle.std.proofs.Common.{◌≡◌, sym, ap, ◌∙◌, arith, Ok, Err}
use Rattle.std.proofs.lemmas.Grind.{common_steps}
use Rattle.std.proofs.lemmas.List.{take_rest}
use Rattle.pcct_codec.specs.Faults.{told_length}
use Rattle.pcct_codec.proofs.Cutting.{reached, reached_all, try_fault, try_from, try_header, try_memory, try_short, try_table, try_whole}
use Rattle.pcct_codec.proofs.reader.put_piece.Goals as goal

pub returns-then-len-lt-HEADER_BYTES : goal.returns-then-len-lt-HEADER_BYTES
returns-then-len-lt-HEADER_BYTES c = try_short _ _ _ _ c.in_ok-used.ensures.ok (grind (arith, common_steps))

pub returns-in_err-len : goal.returns-in_err-len
returns-in_err-len c =
    let told : told_length c.put_front.new.bytes.items ≡ Err c.in_err-len.field-0.0 = ap told_length (sym c.deref.ensures.value) ∙ sym c.told_length.ensures ∙ c.in_err-len.was in
    try_from _ _ _ _ _ c.from_residual-in_err-len.ensures.1 (try_header _ _ _ _ _ c.in_ok-used.ensures.ok (grind (arith, common_steps)) told)

pub returns-in_err-used-2 : goal.returns-in_err-used-2
returns-in_err-used-2 c =
    try_from _ _ _ _ _ c.from_residual-in_err-used-2.ensures.1 (try_memory _ _ _ _ (c.in_err-used-2.ensures.err ∙ c.in_ok-used.ensures.ok.grown))

pub returns-then-len : goal.returns-then-len
returns-then-len c =
    let told : told_length c.put_front.new.bytes.items ≡ Ok c.in_ok-len.len = ap told_length (sym c.deref.ensures.value) ∙ sym c.told_length.ensures ∙ c.in_ok-len.was in
    let r = reached _ _ _ _ _ _ _ _ c.requires c.in_ok-used.ensures.ok (grind (arith, common_steps)) told (take_rest c.args.piece.now c.in_ok-used.used) c.in_ok-used-2.ensures.ok in
    try_table _ _ _ _ _ r (grind (arith, common_steps))

pub table_in-requires : goal.table_in-requires
table_in-requires c =
    let told : told_length c.put_front.new.bytes.items ≡ Ok c.in_ok-len.len = ap told_length (sym c.deref.ensures.value) ∙ sym c.told_length.ensures ∙ c.in_ok-len.was in
    let r = reached _ _ _ _ _ _ _ _ c.requires c.in_ok-used.ensures.ok (grind (arith, common_steps)) told (take_rest c.args.piece.now c.in_ok-used.used) c.in_ok-used-2.ensures.ok in
    rw c.deref-2.ensures.value (reached_all _ _ _ _ _ r (grind (arith, common_steps)))

pub returns-in_err-table : goal.returns-in_err-table
returns-in_err-table c =
    let told : told_length c.put_front.new.bytes.items ≡ Ok c.in_ok-len.len = ap told_length (sym c.deref.ensures.value) ∙ sym c.told_length.ensures ∙ c.in_ok-len.was in
    let r = reached _ _ _ _ _ _ _ _ c.requires c.in_ok-used.ensures.ok (grind (arith, common_steps)) told (take_rest c.args.piece.now c.in_ok-used.used) c.in_ok-used-2.ensures.ok in
    try_from _ _ _ _ _ c.from_residual-in_err-table.ensures.1 (try_fault _ _ _ _ _ _ r (grind (arith, common_steps)) (rw c.deref-2.ensures.value at c.in_err-table.ensures.table))

pub returns : goal.returns
returns c =
    let told : told_length c.put_front.new.bytes.items ≡ Ok c.in_ok-len.len = ap told_length (sym c.deref.ensures.value) ∙ sym c.told_length.ensures ∙ c.in_ok-len.was in
    let r = reached _ _ _ _ _ _ _ _ c.requires c.in_ok-used.ensures.ok (grind (arith, common_steps)) told (take_rest c.args.piece.now c.in_ok-used.used) c.in_ok-used-2.ensures.ok in
    let made = rw c.deref-2.ensures.value at c.in_ok-table.ensures.table in
    try_whole _ _ _ _ _ _ r (grind (arith, common_steps)) (rw c.deref-2.ensures.value at c.in_ok-table.ensures.fit) made.0 made.1
