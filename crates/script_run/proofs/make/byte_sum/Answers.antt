use Rattle.std.proofs.Common.{rules, ◌≡◌, ◌≤◌, ◌*◌, ◌^◌, length, sum, arith}
use Rattle.script_run.proofs.Counting.{bytes_bound}
use Rattle.script_run.proofs.make.byte_sum.Goals as goal

pub returns-clause-bound : goal.returns-clause-bound
returns-clause-bound c =
    let most : sum c.args.bytes.now ≤ length c.args.bytes.now * 2 ^ 8 = bytes_bound c.args.bytes.now (λ i. (c.type_inv.bytes i).fits) in
    let len = c.iter.ensures.len in
    let few = c.iter.ensures.bound in
    let is : c.sum.result ≡ sum c.args.bytes.now = search rules in
    omega (arith, most, len, few, is)
