-- Bits and parts of the words that hold headers (ACPI 6.5, 14.2 to 14.4).
use Rattle.std.specs.Prelude.{ℕ, ◌+◌, ◌*◌, ◌/◌, ◌%◌, ◌^◌, ◌<◌, ◌==◌, Bool, true, false}
use Rattle.std.specs.Int.{bit_at}
use Rattle.shmem_header.specs.declared.header.Generic.{Generic}
use Rattle.shmem_header.specs.Layout.{signature_of}
use Rattle.shmem_header.specs.Packing.{generic_word}

-- a bit of a word is 1
abbrev pub is_set : ℕ → ℕ → Bool
is_set word bit = bit_at word bit == 1

-- the code of the command in the word of a generic header: bits 32 to 39
abbrev pub code_in : ℕ → ℕ
code_in word = word / 2 ^ 32 % 2 ^ 8

-- the number in the upper half of a word: the command in the second word of an extended header, and in the word of a reduced one
abbrev pub command_in : ℕ → ℕ
command_in word = word / 2 ^ 32

-- the word of a generic header with another status
abbrev pub with_status : ℕ → ℕ → ℕ
with_status word status = word % 2 ^ 48 + status * 2 ^ 48

-- a bit of a command: whether to notify (14.2.1)
abbrev pub notify_part : Bool → ℕ
notify_part true = 2 ^ 15
notify_part false = 0

-- the generic header of a command: its code, whether to notify, a status, and the number of the subspace
abbrev pub header_of : ℕ → Bool → ℕ → ℕ → Generic
header_of code notify status id = record { signature = signature_of id; command = code + notify_part notify; status = status }

-- its word
unfoldable pub header_word : ℕ → Bool → ℕ → ℕ → ℕ
header_word code notify status id = generic_word (header_of code notify status id)

-- a code, a status and a number of a subspace, each in its bits
pub record IsCommand (code status id : ℕ) : Type 0 where
  pub code_fits : code < 2 ^ 8
  pub status_fits : status < 2 ^ 16
  pub id_fits : id < 2 ^ 8
