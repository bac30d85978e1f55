use Rattle.std.proofs.Common.{ap, ◌∙◌, rules}
use Rattle.shmem_header.specs.Spelling.{words_of}
use Rattle.shmem_header.proofs.Places.{word_written, words_of-word_put}
use Rattle.shmem_header.proofs.words.put_word.Goals as goal

pub returns-clause-bytes : goal.returns-clause-bytes
returns-clause-bytes c = word_written c.args.bytes.now c.write_u64.new.buf c.args.place c.args.word c.requires c.write_u64.ensures

pub returns-clause-words : goal.returns-clause-words
returns-clause-words c =
    ap words_of (word_written c.args.bytes.now c.write_u64.new.buf c.args.place c.args.word c.requires c.write_u64.ensures)
    ∙ words_of-word_put c.args.place c.args.word c.args.bytes.now (search rules) c.requires
