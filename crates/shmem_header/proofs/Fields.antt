-- Headers are their words.
use Rattle.std.proofs.Common.{◌≡◌, ℕ, ◌+◌, ◌*◌, ◌/◌, ◌%◌, ◌^◌, ◌<◌, [], ◌∷◌, refl, sym, ap, ◌∙◌, arith}
use Rattle.std.specs.Int.{bytes_low_first}
use Rattle.byteorder.specs.Numbers.{little_from-bytes}
use Rattle.pcc_bytes.specs.Bytes.{number_at}
use Rattle.shmem_header.specs.declared.header.Generic.{Generic}
use Rattle.shmem_header.specs.declared.header.Extended.{Extended}
use Rattle.shmem_header.specs.declared.header.Reduced.{Reduced}
use Rattle.shmem_header.specs.Layout.{IsExtended, IsGeneric, IsReduced, extended_in, generic_in, reduced_in}
use Rattle.shmem_header.specs.Packing.{extended_words, generic_word, reduced_word}
use Rattle.shmem_header.specs.Spelling.{bytes_of, word_bytes}

-- ---- numbers in the bytes of a word, and whatever stands behind them

low_half : (word : ℕ) → number_at 4 0 (word_bytes word) ≡ word % 2 ^ 32
unfolding number_at word_bytes
low_half word =
    let e : number_at 4 0 (word_bytes word) ≡ word / 256 ^ 0 % 256 ^ 4 = little_from-bytes 4 0 word (bytes_low_first 4 4 word) in
    omega (arith, e)

high_half : (word : ℕ) → word < 2 ^ 64 → number_at 4 4 (word_bytes word) ≡ word / 2 ^ 32
unfolding number_at word_bytes
high_half word fits =
    let e : number_at 4 4 (word_bytes word) ≡ word / 256 ^ 4 % 256 ^ 4 = little_from-bytes 4 4 word [] in
    omega (arith, e)

third_quarter : (word : ℕ) → number_at 2 4 (word_bytes word) ≡ word / 2 ^ 32 % 2 ^ 16
unfolding number_at word_bytes
third_quarter word = little_from-bytes 2 4 word (bytes_low_first 6 2 word)

last_quarter : (word : ℕ) → word < 2 ^ 64 → number_at 2 6 (word_bytes word) ≡ word / 2 ^ 48
unfolding number_at word_bytes
last_quarter word fits =
    let e : number_at 2 6 (word_bytes word) ≡ word / 256 ^ 6 % 256 ^ 2 = little_from-bytes 2 6 word [] in
    omega (arith, e)

first_of_two : (a b : ℕ) → number_at 4 0 (bytes_of (a ∷ b ∷ [])) ≡ number_at 4 0 (word_bytes a)
unfolding number_at word_bytes
first_of_two a b = refl

second_of_two : (a b : ℕ) → number_at 4 4 (bytes_of (a ∷ b ∷ [])) ≡ number_at 4 4 (word_bytes a)
unfolding number_at word_bytes
second_of_two a b = refl

third_of_two : (a b : ℕ) → number_at 4 8 (bytes_of (a ∷ b ∷ [])) ≡ number_at 4 0 (word_bytes b)
unfolding number_at word_bytes
third_of_two a b = refl

last_of_two : (a b : ℕ) → number_at 4 12 (bytes_of (a ∷ b ∷ [])) ≡ number_at 4 4 (word_bytes b)
unfolding number_at word_bytes
last_of_two a b = refl

-- ---- the headers that words are

pub generic_in-word : (word : ℕ) → word < 2 ^ 64
    → generic_in (word_bytes word) ≡ record { signature = word % 2 ^ 32; command = word / 2 ^ 32 % 2 ^ 16; status = word / 2 ^ 48 }
unfolding generic_in
generic_in-word word fits = rw (low_half word, third_quarter word, last_quarter word fits) refl

pub reduced_in-word : (word : ℕ) → word < 2 ^ 64 → reduced_in (word_bytes word) ≡ record { signature = word % 2 ^ 32; command = word / 2 ^ 32 }
unfolding reduced_in
reduced_in-word word fits = rw (low_half word, high_half word fits) refl

pub extended_in-words : (a b : ℕ) → a < 2 ^ 64 → b < 2 ^ 64
    → extended_in (bytes_of (a ∷ b ∷ [])) ≡ record { signature = a % 2 ^ 32; flags = a / 2 ^ 32; length = b % 2 ^ 32; command = b / 2 ^ 32 }
unfolding extended_in
extended_in-words a b fits_a fits_b =
    let p : number_at 4 0 (bytes_of (a ∷ b ∷ [])) ≡ a % 2 ^ 32 = first_of_two a b ∙ low_half a in
    let q : number_at 4 4 (bytes_of (a ∷ b ∷ [])) ≡ a / 2 ^ 32 = second_of_two a b ∙ high_half a fits_a in
    let r : number_at 4 8 (bytes_of (a ∷ b ∷ [])) ≡ b % 2 ^ 32 = third_of_two a b ∙ low_half b in
    let s : number_at 4 12 (bytes_of (a ∷ b ∷ [])) ≡ b / 2 ^ 32 = last_of_two a b ∙ high_half b fits_b in
    λ i. record { signature = p i; flags = q i; length = r i; command = s i }

-- ---- and back

pub generic_word-lt : (h : Generic) → IsGeneric h → generic_word h < 2 ^ 64
generic_word-lt h fits = omega arith

pub generic_in-generic_word : (h : Generic) → IsGeneric h → generic_in (word_bytes (generic_word h)) ≡ h
generic_in-generic_word h fits =
    let s : generic_word h % 2 ^ 32 ≡ h.signature = omega arith in
    let c : generic_word h / 2 ^ 32 % 2 ^ 16 ≡ h.command = omega arith in
    let t : generic_word h / 2 ^ 48 ≡ h.status = omega arith in
    generic_in-word (generic_word h) (generic_word-lt h fits) ∙ (λ i. record { signature = s i; command = c i; status = t i })

pub IsGeneric-generic_in : (word : ℕ) → word < 2 ^ 64 → IsGeneric (generic_in (word_bytes word))
IsGeneric-generic_in word fits = rw (generic_in-word word fits) (record { signature = omega arith; command = omega arith; status = omega arith })

pub generic_word-generic_in : (word : ℕ) → word < 2 ^ 64 → generic_word (generic_in (word_bytes word)) ≡ word
generic_word-generic_in word fits = ap generic_word (generic_in-word word fits) ∙ (let e : word % 2 ^ 32 + word / 2 ^ 32 % 2 ^ 16 * 2 ^ 32 + word / 2 ^ 48 * 2 ^ 48 ≡ word = omega arith in e)

pub reduced_word-lt : (h : Reduced) → IsReduced h → reduced_word h < 2 ^ 64
reduced_word-lt h fits = omega arith

pub reduced_in-reduced_word : (h : Reduced) → IsReduced h → reduced_in (word_bytes (reduced_word h)) ≡ h
reduced_in-reduced_word h fits =
    let s : reduced_word h % 2 ^ 32 ≡ h.signature = omega arith in
    let c : reduced_word h / 2 ^ 32 ≡ h.command = omega arith in
    reduced_in-word (reduced_word h) (reduced_word-lt h fits) ∙ (λ i. record { signature = s i; command = c i })

pub IsReduced-reduced_in : (word : ℕ) → word < 2 ^ 64 → IsReduced (reduced_in (word_bytes word))
IsReduced-reduced_in word fits = rw (reduced_in-word word fits) (record { signature = omega arith; command = omega arith })

pub reduced_word-reduced_in : (word : ℕ) → word < 2 ^ 64 → reduced_word (reduced_in (word_bytes word)) ≡ word
reduced_word-reduced_in word fits = ap reduced_word (reduced_in-word word fits) ∙ (let e : word % 2 ^ 32 + word / 2 ^ 32 * 2 ^ 32 ≡ word = omega arith in e)

pub extended_in-extended_words : (h : Extended) → IsExtended h → extended_in (bytes_of (extended_words h)) ≡ h
extended_in-extended_words h fits =
    let a : ℕ = h.signature + h.flags * 2 ^ 32 in
    let b : ℕ = h.length + h.command * 2 ^ 32 in
    let s : a % 2 ^ 32 ≡ h.signature = omega arith in
    let f : a / 2 ^ 32 ≡ h.flags = omega arith in
    let l : b % 2 ^ 32 ≡ h.length = omega arith in
    let c : b / 2 ^ 32 ≡ h.command = omega arith in
    extended_in-words a b (omega arith) (omega arith) ∙ (λ i. record { signature = s i; flags = f i; length = l i; command = c i })

pub IsExtended-extended_in : (a b : ℕ) → a < 2 ^ 64 → b < 2 ^ 64 → IsExtended (extended_in (bytes_of (a ∷ b ∷ [])))
IsExtended-extended_in a b fits_a fits_b =
    rw (extended_in-words a b fits_a fits_b) (record { signature = omega arith; flags = omega arith; len = omega arith; command = omega arith })

pub extended_words-extended_in : (a b : ℕ) → a < 2 ^ 64 → b < 2 ^ 64 → extended_words (extended_in (bytes_of (a ∷ b ∷ []))) ≡ a ∷ b ∷ []
extended_words-extended_in a b fits_a fits_b =
    let p : a % 2 ^ 32 + a / 2 ^ 32 * 2 ^ 32 ≡ a = omega arith in
    let q : b % 2 ^ 32 + b / 2 ^ 32 * 2 ^ 32 ≡ b = omega arith in
    ap extended_words (extended_in-words a b fits_a fits_b) ∙ (λ i. p i ∷ q i ∷ [])

-- ---- as the calls use these

-- a word that a header's is spells the header
pub generic_spelled : (h : Generic) (word : ℕ) → IsGeneric h → word ≡ generic_word h → generic_in (word_bytes word) ≡ h
generic_spelled h word fits e = ap (λ (w : ℕ). generic_in (word_bytes w)) e ∙ generic_in-generic_word h fits

pub reduced_spelled : (h : Reduced) (word : ℕ) → IsReduced h → word ≡ reduced_word h → reduced_in (word_bytes word) ≡ h
reduced_spelled h word fits e = ap (λ (w : ℕ). reduced_in (word_bytes w)) e ∙ reduced_in-reduced_word h fits

pub extended_spelled : (h : Extended) (a b : ℕ) → IsExtended h → a ≡ h.signature + h.flags * 2 ^ 32 → b ≡ h.length + h.command * 2 ^ 32
    → extended_in (bytes_of (a ∷ b ∷ [])) ≡ h
extended_spelled h a b fits e f = (λ i. extended_in (bytes_of (e i ∷ f i ∷ []))) ∙ extended_in-extended_words h fits

-- the numbers that are read from a word are those of its header
pub generic_read : (word signature command status : ℕ) → word < 2 ^ 64 → signature ≡ word % 2 ^ 32 → command ≡ word / 2 ^ 32 % 2 ^ 16 → status ≡ word / 2 ^ 48
    → record { signature = signature; command = command; status = status } ≡ generic_in (word_bytes word)
generic_read word signature command status fits p q r = (λ i. record { signature = p i; command = q i; status = r i }) ∙ sym (generic_in-word word fits)

pub reduced_read : (word signature command : ℕ) → word < 2 ^ 64 → signature ≡ word % 2 ^ 32 → command ≡ word / 2 ^ 32
    → record { signature = signature; command = command } ≡ reduced_in (word_bytes word)
reduced_read word signature command fits p q = (λ i. record { signature = p i; command = q i }) ∙ sym (reduced_in-word word fits)

pub extended_read : (a b signature flags len command : ℕ) → a < 2 ^ 64 → b < 2 ^ 64 → signature ≡ a % 2 ^ 32 → flags ≡ a / 2 ^ 32 → len ≡ b % 2 ^ 32
    → command ≡ b / 2 ^ 32
    → record { signature = signature; flags = flags; length = len; command = command } ≡ extended_in (bytes_of (a ∷ b ∷ []))
extended_read a b signature flags len command fits_a fits_b p q r s =
    (λ i. record { signature = p i; flags = q i; length = r i; command = s i }) ∙ sym (extended_in-words a b fits_a fits_b)
