use Rattle.std.proofs.Common.{◌∙◌, ℕ, ap, drop}
use Rattle.std.proofs.lemmas.List.{take_rest}
use Rattle.std.specs.Int.{bit_at}
use Rattle.byteorder.specs.Endian.{little_number}
use Rattle.byteorder.specs.Numbers.{little_from-lt}
use Rattle.pcc_bytes.specs.Bytes.{IsBytes}
use Rattle.pcc_bytes.proofs.Bytes.{IsBytes-drop}
use Rattle.pcc_gas.proofs.Windows.{bit_at-around, pow-bytes}
use Rattle.pcc_gas.proofs.field.bytes_in.Goals as goal

pub returns-clause-bits : goal.returns-clause-bits
returns-clause-bits c =
    let space = c.args.space.now in
    let w = c.args.window in
    let all : IsBytes space = record { fits = λ k. (c.type_inv.space k).fits } in
    λ i h. ap (λ (n : ℕ). bit_at n i) (c.read_uint128.ensures ∙ ap (little_number w.count) (take_rest space w.first))
    ∙ bit_at-around space w.first w.count i all c.requires h

pub returns-clause-bound : goal.returns-clause-bound
returns-clause-bound c =
    let space = c.args.space.now in
    let w = c.args.window in
    let all : IsBytes space = record { fits = λ k. (c.type_inv.space k).fits } in
    let rest : IsBytes (drop w.first space) = IsBytes-drop w.first space all in
    rw (c.read_uint128.ensures, take_rest space w.first, ← pow-bytes w.count) (little_from-lt 0 w.count (drop w.first space) rest.fits)
