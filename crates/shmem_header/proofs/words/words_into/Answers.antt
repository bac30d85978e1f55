use Rattle.std.proofs.Common.{arith}
use Rattle.shmem_header.proofs.Places.{words_read}
use Rattle.shmem_header.proofs.words.words_into.Goals as goal

pub returns : goal.returns
returns c = words_read c.args.bytes.now c.read_u64_into.new.dst (omega arith) c.read_u64_into.ensures
