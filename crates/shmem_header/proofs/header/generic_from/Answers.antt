use Rattle.std.proofs.Common.{◌/◌, ◌^◌, refl, rules}
use Rattle.std.proofs.lemmas.Nat.{and_mask}
use Rattle.shmem_header.proofs.Fields.{generic_read}
use Rattle.shmem_header.proofs.header.generic_from.Goals as goal

pub returns : goal.returns
returns c = generic_read c.args.word _ _ _ (search rules) (and_mask c.args.word 32) (and_mask (c.args.word / 2 ^ 32) 16) refl
