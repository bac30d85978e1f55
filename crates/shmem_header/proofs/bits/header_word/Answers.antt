use Rattle.std.proofs.Common.{rules}
use Rattle.shmem_header.proofs.Commands.{header_made}
use Rattle.shmem_header.proofs.bits.header_word.Goals as goal

pub returns : goal.returns
returns c =
    header_made c.args.code c.args.notify c.args.status c.args.id c.signature_of.result c.from.result c.notify_part.result c.generic_to.result
    (search rules) c.signature_of.ensures c.from.ensures c.notify_part.ensures c.generic_to.ensures.word
