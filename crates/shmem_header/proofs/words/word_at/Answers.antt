use Rattle.std.proofs.Common.{sym, ◌∙◌, ◌*◌}
use Rattle.shmem_header.proofs.Places.{number_at-word_of, slice_index-words_of, word_read}
use Rattle.shmem_header.proofs.words.word_at.Goals as goal

pub returns-clause-number : goal.returns-clause-number
returns-clause-number c =
    word_read c.args.bytes.now c.args.place c.read_u64.result c.read_u64.ensures ∙ sym (number_at-word_of (8 * c.args.place) c.args.bytes.now)

pub returns-clause-word : goal.returns-clause-word
returns-clause-word c =
    word_read c.args.bytes.now c.args.place c.read_u64.result c.read_u64.ensures ∙ sym (slice_index-words_of c.args.place c.args.bytes.now c.requires)
