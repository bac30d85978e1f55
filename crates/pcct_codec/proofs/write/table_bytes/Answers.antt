use Rattle.std.proofs.Common.{◌≡◌, ℕ, ◌+◌, List, ◌++◌, length, ap, refl, subst, sym, arith}
use Rattle.std.proofs.lemmas.Grind.{common_steps}
use Rattle.std.specs.List.{flat_map}
use Rattle.pcc_bytes.specs.Bytes.{IsBytes}
use Rattle.pcct_table.specs.Subspaces.{subspace_bytes}
use Rattle.pcct_codec.specs.Tables.{TableBytes}
use Rattle.pcct_codec.proofs.Writing.{body_few, header_bytes, summed, unsummed, unsummed_length}
use Rattle.pcct_codec.proofs.write.table_bytes.Goals as goal

pub overflow_cast-len : goal.overflow_cast-len
overflow_cast-len c =
    let spelled : c.put_structures.new.out.items ≡ flat_map subspace_bytes c.args.table.now.subspaces = rw (c.in_ok-put_structures.ensures, c.new-body.ensures.items, c.as_slice.ensures.items) refl in
    let few = body_few c.requires.bytes c.args.table.now c.put_structures.new.out.items c.requires.fit c.requires.spell spelled in
    grind (arith, common_steps)

pub byte_sum-requires : goal.byte_sum-requires
byte_sum-requires c =
    let spelled : c.put_structures.new.out.items ≡ flat_map subspace_bytes c.args.table.now.subspaces = rw (c.in_ok-put_structures.ensures, c.new-body.ensures.items, c.as_slice.ensures.items) refl in
    let written : c.extend_from_slice.new.self.items ≡ header_bytes (48 + c.len-len.result) 0 c.args.table.now ++ c.put_structures.new.out.items = rw (c.in_ok-extend_from_slice.ensures.items, c.in_ok-put_header.ensures, c.new-bytes.ensures.items, c.deref.ensures.value) refl in
    let u = unsummed c.requires.bytes c.args.table.now (48 + c.len-len.result) c.put_structures.new.out.items c.extend_from_slice.new.self.items c.requires.fit c.requires.spell spelled (grind (arith, common_steps)) written in
    let n = unsummed_length c.requires.bytes c.args.table.now c.extend_from_slice.new.self.items u in
    let most = c.requires.spell.most in
    let e = ap length c.deref-2.ensures.value in
    omega arith

pub index_mut-requires : goal.index_mut-requires
index_mut-requires c =
    let spelled : c.put_structures.new.out.items ≡ flat_map subspace_bytes c.args.table.now.subspaces = rw (c.in_ok-put_structures.ensures, c.new-body.ensures.items, c.as_slice.ensures.items) refl in
    let written : c.extend_from_slice.new.self.items ≡ header_bytes (48 + c.len-len.result) 0 c.args.table.now ++ c.put_structures.new.out.items = rw (c.in_ok-extend_from_slice.ensures.items, c.in_ok-put_header.ensures, c.new-bytes.ensures.items, c.deref.ensures.value) refl in
    let u = unsummed c.requires.bytes c.args.table.now (48 + c.len-len.result) c.put_structures.new.out.items c.extend_from_slice.new.self.items c.requires.fit c.requires.spell spelled (grind (arith, common_steps)) written in
    let n = unsummed_length c.requires.bytes c.args.table.now c.extend_from_slice.new.self.items u in
    let least = c.requires.spell.least in
    grind (arith, common_steps)

pub returns : goal.returns
returns c =
    let b = c.requires.bytes in
    let fit = c.requires.fit in
    let spell = c.requires.spell in
    let spelled : c.put_structures.new.out.items ≡ flat_map subspace_bytes c.args.table.now.subspaces = rw (c.in_ok-put_structures.ensures, c.new-body.ensures.items, c.as_slice.ensures.items) refl in
    let written : c.extend_from_slice.new.self.items ≡ header_bytes (48 + c.len-len.result) 0 c.args.table.now ++ c.put_structures.new.out.items = rw (c.in_ok-extend_from_slice.ensures.items, c.in_ok-put_header.ensures, c.new-bytes.ensures.items, c.deref.ensures.value) refl in
    let u = unsummed b c.args.table.now (48 + c.len-len.result) c.put_structures.new.out.items c.extend_from_slice.new.self.items fit spell spelled (grind (arith, common_steps)) written in
    let same = summed b c.args.table.now c.wrapping_neg.result c.extend_from_slice.new.self.items fit spell u c.wrapping_neg.type_inv (rw (c.byte_sum.ensures, c.deref-2.ensures.value) at c.wrapping_neg.ensures) in
    let P : List ℕ → Type 0 = λ v. IsBytes v × TableBytes v c.args.table.now in
    subst P (sym same) (fit, spell)
