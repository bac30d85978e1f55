-- The bits of a command's header, and of a word with another status.
use Rattle.std.proofs.Common.{◌≡◌, ℕ, ◌+◌, ◌-◌, ◌*◌, ◌/◌, ◌%◌, ◌^◌, ◌<◌, Bool, true, false, eqb, slice_index, refl, sym, ap, ◌∙◌, arith}
use Rattle.std.specs.Int.{bit_at}
use Rattle.std.specs.Int.Bits.{bit_or, and_shifted, or_zero_r}
use Rattle.std.proofs.lemmas.Nat.{or_disjoint, or_comm}
use Rattle.std.proofs.lemmas.Nat.Bits.{bit_at_cat_low, bit_at_cat_high}
use Rattle.shmem_header.specs.declared.header.Generic.{Generic}
use Rattle.shmem_header.specs.declared.header.Extended.{Extended}
use Rattle.shmem_header.specs.declared.header.Reduced.{Reduced}
use Rattle.shmem_header.specs.HeaderBits.{IsCommand, code_in, command_in, header_of, header_word, is_set, notify_part, with_status}
use Rattle.shmem_header.specs.Layout.{IsExtended, IsGeneric, IsReduced, generic_in, signature_of}
use Rattle.shmem_header.specs.Packing.{extended_words, generic_word, reduced_word}
use Rattle.shmem_header.specs.Spelling.{word_bytes}
use Rattle.shmem_header.proofs.Fields.{generic_in-word}

-- ---- parts of a command's header

pub signature_of-add : (id : ℕ) → id < 2 ^ 8 → signature_of id ≡ 0x50434300 + id
signature_of-add id fits = or_disjoint 0x50434300 id (and_shifted 0x504343 8 id fits)

pub IsGeneric-header_of : (code : ℕ) (notify : Bool) (status id : ℕ) → IsCommand code status id → IsGeneric (header_of code notify status id)
IsGeneric-header_of code true status id fits = record { signature = omega (arith, signature_of-add id fits.id_fits); command = omega arith; status = omega arith }
IsGeneric-header_of code false status id fits = record { signature = omega (arith, signature_of-add id fits.id_fits); command = omega arith; status = omega arith }

-- what the code makes of a code and the bit of notify
pub command_or : (code : ℕ) (notify : Bool) (bits : ℕ) → code < 2 ^ 8 → bits ≡ notify_part notify → bit_or code bits ≡ code + notify_part notify
command_or code true bits fits e = ap (bit_or code) e ∙ or_comm code (2 ^ 15) ∙ or_disjoint (2 ^ 15) code (and_shifted 1 15 code (omega arith)) ∙ (let f : 2 ^ 15 + code ≡ code + 2 ^ 15 = omega arith in f)
command_or code false bits fits e = ap (bit_or code) e ∙ or_zero_r code ∙ (let f : code ≡ code + 0 = omega arith in f)

pub header_word-generic : (code : ℕ) (notify : Bool) (status id : ℕ) → generic_word (header_of code notify status id) ≡ header_word code notify status id
unfolding header_word
header_word-generic code notify status id = refl

-- the header that the code makes
pub header_made : (code : ℕ) (notify : Bool) (status id signature low high word : ℕ) → code < 2 ^ 8 → signature ≡ signature_of id → low ≡ code
    → high ≡ notify_part notify
    → word ≡ generic_word (record { signature = signature; command = bit_or low high; status = status }) → word ≡ header_word code notify status id
header_made code notify status id signature low high word fits p q r made =
    let command : bit_or low high ≡ code + notify_part notify = ap (λ (n : ℕ). bit_or n high) q ∙ command_or code notify high fits r in
    made ∙ (λ i. generic_word (record { signature = p i; command = command i; status = status })) ∙ header_word-generic code notify status id

pub header_word-lt : (code : ℕ) (notify : Bool) (status id : ℕ) → IsCommand code status id → header_word code notify status id < 2 ^ 64
unfolding header_word
header_word-lt code notify status id fits = let h = IsGeneric-header_of code notify status id fits in omega arith

pub code_in-header_word : (code : ℕ) (notify : Bool) (status id : ℕ) → IsCommand code status id → code_in (header_word code notify status id) ≡ code
unfolding header_word
code_in-header_word code true status id fits = let h = IsGeneric-header_of code true status id fits in omega arith
code_in-header_word code false status id fits = let h = IsGeneric-header_of code false status id fits in omega arith

pub is_set-header_word_notify : (code : ℕ) (notify : Bool) (status id : ℕ) → IsCommand code status id → is_set (header_word code notify status id) 47 ≡ notify
unfolding header_word
is_set-header_word_notify code true status id fits =
    let h = IsGeneric-header_of code true status id fits in
    let e : bit_at (generic_word (header_of code true status id)) 47 ≡ 1 = omega arith in
    ap (λ (n : ℕ). eqb n 1) e
is_set-header_word_notify code false status id fits =
    let h = IsGeneric-header_of code false status id fits in
    let e : bit_at (generic_word (header_of code false status id)) 47 ≡ 0 = omega arith in
    ap (λ (n : ℕ). eqb n 1) e

pub is_set-header_word_complete : (code : ℕ) (notify : Bool) (status id : ℕ) → IsCommand code status id
    → is_set (header_word code notify status id) 48 ≡ is_set status 0
unfolding header_word
is_set-header_word_complete code notify status id fits =
    let h = IsGeneric-header_of code notify status id fits in
    let e : bit_at (generic_word (header_of code notify status id)) 48 ≡ bit_at status 0 = omega arith in
    ap (λ (n : ℕ). eqb n 1) e

pub is_set-header_word_error : (code : ℕ) (notify : Bool) (status id : ℕ) → IsCommand code status id
    → is_set (header_word code notify status id) 50 ≡ is_set status 2
unfolding header_word
is_set-header_word_error code notify status id fits =
    let h = IsGeneric-header_of code notify status id fits in
    let e : bit_at (generic_word (header_of code notify status id)) 50 ≡ bit_at status 2 = omega arith in
    ap (λ (n : ℕ). eqb n 1) e

-- ---- bits of any header

pub code_in-generic_word : (h : Generic) → IsGeneric h → code_in (generic_word h) ≡ h.command % 2 ^ 8
code_in-generic_word h fits = omega arith

pub is_set-generic_word_notify : (h : Generic) → IsGeneric h → is_set (generic_word h) 47 ≡ is_set h.command 15
is_set-generic_word_notify h fits = let e : bit_at (generic_word h) 47 ≡ bit_at h.command 15 = omega arith in ap (λ (n : ℕ). eqb n 1) e

pub is_set-generic_word_complete : (h : Generic) → IsGeneric h → is_set (generic_word h) 48 ≡ is_set h.status 0
is_set-generic_word_complete h fits = let e : bit_at (generic_word h) 48 ≡ bit_at h.status 0 = omega arith in ap (λ (n : ℕ). eqb n 1) e

pub is_set-generic_word_error : (h : Generic) → IsGeneric h → is_set (generic_word h) 50 ≡ is_set h.status 2
is_set-generic_word_error h fits = let e : bit_at (generic_word h) 50 ≡ bit_at h.status 2 = omega arith in ap (λ (n : ℕ). eqb n 1) e

pub is_set-extended_words_notify : (h : Extended) → IsExtended h → is_set (slice_index (extended_words h) 0) 32 ≡ is_set h.flags 0
is_set-extended_words_notify h fits =
    let e : bit_at (h.signature + h.flags * 2 ^ 32) 32 ≡ bit_at h.flags 0 = omega arith in
    ap (λ (n : ℕ). eqb n 1) e

pub command_in-extended_words : (h : Extended) → IsExtended h → command_in (slice_index (extended_words h) 1) ≡ h.command
command_in-extended_words h fits = let e : (h.length + h.command * 2 ^ 32) / 2 ^ 32 ≡ h.command = omega arith in e

pub command_in-reduced_word : (h : Reduced) → IsReduced h → command_in (reduced_word h) ≡ h.command
command_in-reduced_word h fits = omega arith

-- ---- another status

pub with_status-generic_word : (h : Generic) (status : ℕ) → IsGeneric h → with_status (generic_word h) status ≡ generic_word (record h { status = status })
with_status-generic_word h status fits = omega arith

pub with_status-header_word : (code : ℕ) (notify : Bool) (before status id : ℕ) → IsCommand code before id
    → with_status (header_word code notify before id) status ≡ header_word code notify status id
unfolding header_word
with_status-header_word code notify before status id fits = with_status-generic_word (header_of code notify before id) status (IsGeneric-header_of code notify before id fits)

-- the header that a word is, with another status
pub with_status-generic_in : (word status : ℕ) → word < 2 ^ 64
    → generic_word (record (generic_in (word_bytes word)) { status = status }) ≡ with_status word status
with_status-generic_in word status fits =
    ap (λ (h : Generic). generic_word (record h { status = status })) (generic_in-word word fits)
    ∙ (let e : word % 2 ^ 32 + word / 2 ^ 32 % 2 ^ 16 * 2 ^ 32 + status * 2 ^ 48 ≡ word % 2 ^ 48 + status * 2 ^ 48 = omega arith in e)

-- the status stands above the other bits
cat : (word status : ℕ) → with_status word status ≡ status * 2 ^ 48 + word % 2 ^ 48
cat word status = omega arith

pub is_set-with_status_low : (word status bit : ℕ) → bit < 48 → is_set (with_status word status) bit ≡ is_set word bit
is_set-with_status_low word status bit low =
    let split : word / 2 ^ 48 * 2 ^ 48 + word % 2 ^ 48 ≡ word = omega arith in
    let e : bit_at (with_status word status) bit ≡ bit_at word bit =
    ap (λ (n : ℕ). bit_at n bit) (cat word status)
    ∙ bit_at_cat_low status 48 (word % 2 ^ 48) bit low
    ∙ sym (bit_at_cat_low (word / 2 ^ 48) 48 (word % 2 ^ 48) bit low)
    ∙ ap (λ (n : ℕ). bit_at n bit) split in
    ap (λ (n : ℕ). eqb n 1) e

pub is_set-with_status_high : (word status bit : ℕ) → is_set (with_status word status) (48 + bit) ≡ is_set status bit
is_set-with_status_high word status bit =
    let same : 48 + bit - 48 ≡ bit = omega arith in
    let e : bit_at (with_status word status) (48 + bit) ≡ bit_at status bit =
    ap (λ (n : ℕ). bit_at n (48 + bit)) (cat word status)
    ∙ bit_at_cat_high status 48 (word % 2 ^ 48) (48 + bit) (omega arith) (omega arith)
    ∙ ap (bit_at status) same in
    ap (λ (n : ℕ). eqb n 1) e

pub code_in-with_status : (word status : ℕ) → code_in (with_status word status) ≡ code_in word
code_in-with_status word status = omega arith
