use Rattle.std.proofs.Common.{arith}
use Rattle.shmem_header.proofs.Places.{IsBytes-bytes_of, IsWords-words_of, bytes_of-words_of, length-bytes_of, length-words_of, words_of-bytes_of}
use Rattle.shmem_header.proofs.words.word_laws.Goals as goal

pub returns-clause-bytes : goal.returns-clause-bytes
returns-clause-bytes c = λ bytes k all len. (omega (arith, length-words_of bytes), IsWords-words_of bytes all, bytes_of-words_of k bytes len all)

pub returns-clause-words : goal.returns-clause-words
returns-clause-words c = λ words all. (length-bytes_of words, IsBytes-bytes_of words, words_of-bytes_of words all)
