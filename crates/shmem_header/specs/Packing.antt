-- Headers as words: the number of a field times that of the bytes below it.
use Rattle.std.specs.Prelude.{ℕ, ◌+◌, ◌*◌, ◌^◌, List, [], ◌∷◌}
use Rattle.shmem_header.specs.declared.header.Generic.{Generic}
use Rattle.shmem_header.specs.declared.header.Extended.{Extended}
use Rattle.shmem_header.specs.declared.header.Reduced.{Reduced}

abbrev pub generic_word : Generic → ℕ
generic_word h = h.signature + h.command * 2 ^ 32 + h.status * 2 ^ 48

abbrev pub extended_words : Extended → List ℕ
extended_words h = (h.signature + h.flags * 2 ^ 32) ∷ (h.length + h.command * 2 ^ 32) ∷ []

abbrev pub reduced_word : Reduced → ℕ
reduced_word h = h.signature + h.command * 2 ^ 32
