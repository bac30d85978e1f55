use Rattle.std.proofs.Common.{ap, ◌∙◌, rules}
use Rattle.shmem_header.specs.declared.header.Generic.{Generic}
use Rattle.shmem_header.specs.Packing.{generic_word}
use Rattle.shmem_header.proofs.Commands.{with_status-generic_in}
use Rattle.shmem_header.proofs.bits.with_status.Goals as goal

pub returns : goal.returns
returns c =
    c.generic_to.ensures.word
    ∙ ap (λ (h : Generic). generic_word (record h { status = c.args.status })) c.generic_from.ensures
    ∙ with_status-generic_in c.args.word c.args.status (search rules)
