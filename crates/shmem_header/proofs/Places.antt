-- Bytes and their words, as lists: parts, lengths, one word changed.
use Rattle.std.proofs.Common.{◌≡◌, ℕ, zero, suc, ◌+◌, ◌-◌, ◌*◌, ◌/◌, ◌^◌, ◌<◌, ◌≤◌, List, [], ◌∷◌, ◌++◌, length, replicate, set, take, drop, slice_index, refl, sym, ap, ◌∙◌, arith}
use Rattle.std.proofs.Math.Seq.{take-add}
use Rattle.std.proofs.lemmas.List.{drop-drop, drop-take, take_all, drop_at, drop-append-le, length-append, length-drop, length-take-le, ext_get_or, append_assoc, append-nil, take_rest, drop_all}
use Rattle.std.proofs.lemmas.Grind.{flat_map-append}
use Rattle.std.specs.Int.{bytes_low_first}
use Rattle.byteorder.specs.Endian.{little_bytes, little_number}
use borrow.Rule.Slice.PartMut.{put_mid}
use Rattle.byteorder.specs.Numbers.{little_from-append, little_from-lt, little_from-take, little_number-reads_back}
use Rattle.pcc_bytes.specs.Bytes.{IsBytes, number_at}
use Rattle.pcc_bytes.proofs.Bytes.{IsBytes-append, IsBytes-drop, IsBytes-nil}
use Rattle.pcc_bytes.proofs.Numbers.{IsBytes-low_first, little_bytes-little_number}
use Rattle.shmem_header.specs.Spelling.{IsWords, bytes_of, first_words, word_bytes, word_of, words_of}

-- ---- one word

pub word_of-word_bytes : (word : ℕ) (rest : List ℕ) → word < 2 ^ 64 → word_of (word_bytes word ++ rest) ≡ word
unfolding word_of word_bytes
word_of-word_bytes word rest fits = little_number-reads_back 8 word rest fits

pub word_of-append : (a b : List ℕ) → 8 ≤ length a → word_of (a ++ b) ≡ word_of a
unfolding word_of
word_of-append a b len = little_from-append 8 a b len

pub word_of-take : (n : ℕ) (bytes : List ℕ) → 8 ≤ n → word_of (take n bytes) ≡ word_of bytes
unfolding word_of
word_of-take n bytes h = little_from-take 0 8 n bytes (omega arith)

pub word_bytes-word_of : (bytes : List ℕ) → 8 ≤ length bytes → IsBytes bytes → word_bytes (word_of bytes) ≡ take 8 bytes
unfolding word_of word_bytes
word_bytes-word_of bytes len all = little_bytes-little_number 8 bytes len all

pub word_of-lt : (bytes : List ℕ) → IsBytes bytes → word_of bytes < 2 ^ 64
unfolding word_of
word_of-lt bytes all = little_from-lt 0 8 bytes all.fits

pub number_at-word_of : (place : ℕ) (bytes : List ℕ) → number_at 8 place bytes ≡ word_of (drop place bytes)
unfolding number_at word_of
number_at-word_of place bytes = refl

pub length-word_bytes : (word : ℕ) → length (word_bytes word) ≡ 8
unfolding word_bytes
length-word_bytes word = refl

-- one place more is eight bytes more
eight : (n : ℕ) → 8 * suc n ≡ suc (suc (suc (suc (suc (suc (suc (suc (8 * n))))))))
eight n = omega arith

eight_add : (n : ℕ) → 8 * suc n ≡ 8 + 8 * n
eight_add n = omega arith

-- ---- so many words

pub words_of-count : (n : ℕ) (bytes : List ℕ) → length bytes ≡ 8 * n → words_of bytes ≡ first_words n bytes
words_of-count n bytes len = let e : length bytes / 8 ≡ n = omega arith in ap (λ (k : ℕ). first_words k bytes) e

pub length-first_words : (n : ℕ) (bytes : List ℕ) → length (first_words n bytes) ≡ n
length-first_words zero bytes = refl
length-first_words (suc n) bytes = ap (λ (k : ℕ). suc k) (length-first_words n (drop 8 bytes))

drop_places : (n : ℕ) (bytes : List ℕ) → drop (8 * n) (drop 8 bytes) ≡ drop (8 * suc n) bytes
drop_places n bytes = drop-drop (8 * n) 8 bytes ∙ ap (λ (k : ℕ). drop k bytes) (sym (eight_add n))

take_places : (n : ℕ) (bytes : List ℕ) → take (8 * suc n) bytes ≡ take 8 bytes ++ take (8 * n) (drop 8 bytes)
take_places n bytes = ap (λ (k : ℕ). take k bytes) (eight_add n) ∙ take-add 8 (8 * n) bytes

pub slice_index-first_words : (n place : ℕ) (bytes : List ℕ) → place < n → slice_index (first_words n bytes) place ≡ word_of (drop (8 * place) bytes)
slice_index-first_words zero place bytes h = absurd (omega arith)
slice_index-first_words (suc n) zero bytes h = refl
slice_index-first_words (suc n) (suc place) bytes h =
    slice_index-first_words n place (drop 8 bytes) (omega arith) ∙ ap word_of (drop_places place bytes)

pub take-first_words : (n m : ℕ) (bytes : List ℕ) → n ≤ m → take n (first_words m bytes) ≡ first_words n bytes
take-first_words zero m bytes h = refl
take-first_words (suc n) zero bytes h = absurd (omega arith)
take-first_words (suc n) (suc m) bytes h = ap (λ (l : List ℕ). word_of bytes ∷ l) (take-first_words n m (drop 8 bytes) (omega arith))

pub drop-first_words : (n m k : ℕ) (bytes : List ℕ) → m ≡ n + k → drop n (first_words m bytes) ≡ first_words k (drop (8 * n) bytes)
drop-first_words zero m k bytes e = let f : m ≡ k = omega arith in ap (λ (j : ℕ). first_words j bytes) f
drop-first_words (suc n) zero k bytes e = absurd (omega arith)
drop-first_words (suc n) (suc m) k bytes e = drop-first_words n m k (drop 8 bytes) (omega arith) ∙ ap (first_words k) (drop_places n bytes)

taken : (place m : ℕ) (bytes : List ℕ) → 8 * place + 8 ≤ m → word_of (drop (8 * place) (take m bytes)) ≡ word_of (drop (8 * place) bytes)
taken place m bytes h =
    let k : ℕ = m - 8 * place in
    let e : m ≡ 8 * place + k = omega arith in
    ap (λ (n : ℕ). word_of (drop (8 * place) (take n bytes))) e
    ∙ ap word_of (drop-take (8 * place) k bytes)
    ∙ word_of-take k (drop (8 * place) bytes) (omega arith)

-- no word reads a byte behind it
pub first_words-take : (n m : ℕ) (bytes : List ℕ) → 8 * n ≤ m → first_words n (take m bytes) ≡ first_words n bytes
first_words-take n m bytes h =
    ext_get_or 0 (first_words n (take m bytes)) (first_words n bytes) (length-first_words n (take m bytes) ∙ sym (length-first_words n bytes)) (λ i low.
    let inside : i < n = omega (arith, length-first_words n (take m bytes)) in
    slice_index-first_words n i (take m bytes) inside
    ∙ taken i m bytes (omega arith)
    ∙ sym (slice_index-first_words n i bytes inside))

pub first_words-append : (n m k : ℕ) (a b : List ℕ) → length a ≡ 8 * n → k ≡ n + m → first_words k (a ++ b) ≡ first_words n a ++ first_words m b
first_words-append zero m k [] b len e = let f : k ≡ m = omega arith in ap (λ (j : ℕ). first_words j b) f
first_words-append zero m k (x ∷ a) b len e = absurd (omega arith)
first_words-append (suc n) m zero a b len e = absurd (omega arith)
first_words-append (suc n) m (suc k) a b len e =
    let one : word_of (a ++ b) ≡ word_of a = word_of-append a b (omega arith) in
    let rest : first_words k (drop 8 (a ++ b)) ≡ first_words n (drop 8 a) ++ first_words m b =
    ap (first_words k) (drop-append-le 8 a b (omega arith)) ∙ first_words-append n m k (drop 8 a) b (omega (arith, length-drop 8 a)) (omega arith) in
    λ i. one i ∷ rest i

-- ---- the words of bytes

pub length-words_of : (bytes : List ℕ) → length (words_of bytes) ≡ length bytes / 8
length-words_of bytes = length-first_words (length bytes / 8) bytes

pub slice_index-words_of : (place : ℕ) (bytes : List ℕ) → 8 * place + 8 ≤ length bytes → slice_index (words_of bytes) place ≡ word_of (drop (8 * place) bytes)
slice_index-words_of place bytes h = slice_index-first_words (length bytes / 8) place bytes (omega arith)

pub words_of-append : (n : ℕ) (a b : List ℕ) → length a ≡ 8 * n → words_of (a ++ b) ≡ words_of a ++ words_of b
words_of-append n a b len =
    let e : length (a ++ b) / 8 ≡ n + length b / 8 = omega (arith, length-append a b) in
    first_words-append n (length b / 8) (length (a ++ b) / 8) a b len e ∙ ap (λ (l : List ℕ). l ++ words_of b) (sym (words_of-count n a len))

pub words_of-take : (n : ℕ) (bytes : List ℕ) → 8 * n ≤ length bytes → words_of (take (8 * n) bytes) ≡ take n (words_of bytes)
words_of-take n bytes h =
    words_of-count n (take (8 * n) bytes) (length-take-le (8 * n) bytes h)
    ∙ first_words-take n (8 * n) bytes (omega arith)
    ∙ sym (take-first_words n (length bytes / 8) bytes (omega arith))

pub words_of-drop : (n : ℕ) (bytes : List ℕ) → 8 * n ≤ length bytes → words_of (drop (8 * n) bytes) ≡ drop n (words_of bytes)
words_of-drop n bytes h =
    let k : ℕ = length (drop (8 * n) bytes) / 8 in
    sym (drop-first_words n (length bytes / 8) k bytes (omega (arith, length-drop (8 * n) bytes)))

-- ---- the bytes of words

pub length-bytes_of : (words : List ℕ) → length (bytes_of words) ≡ 8 * length words
unfolding word_bytes
length-bytes_of [] = refl
length-bytes_of (w ∷ words) = let e = length-bytes_of words in omega (arith, e)

pub bytes_of-append : (a b : List ℕ) → bytes_of (a ++ b) ≡ bytes_of a ++ bytes_of b
bytes_of-append a b = flat_map-append word_bytes a b

pub bytes_of-take : (n : ℕ) (words : List ℕ) → bytes_of (take n words) ≡ take (8 * n) (bytes_of words)
unfolding word_bytes
bytes_of-take zero words = refl
bytes_of-take (suc n) [] = ap (λ (k : ℕ). take k []) (sym (eight n))
bytes_of-take (suc n) (w ∷ words) = ap (λ (l : List ℕ). word_bytes w ++ l) (bytes_of-take n words) ∙ ap (λ (k : ℕ). take k (bytes_of (w ∷ words))) (sym (eight n))

pub bytes_of-drop : (n : ℕ) (words : List ℕ) → bytes_of (drop n words) ≡ drop (8 * n) (bytes_of words)
unfolding word_bytes
bytes_of-drop zero words = refl
bytes_of-drop (suc n) [] = ap (λ (k : ℕ). drop k []) (sym (eight n))
bytes_of-drop (suc n) (w ∷ words) = bytes_of-drop n words ∙ ap (λ (k : ℕ). drop k (bytes_of (w ∷ words))) (sym (eight n))

pub IsBytes-bytes_of : (words : List ℕ) → IsBytes (bytes_of words)
unfolding word_bytes
IsBytes-bytes_of [] = IsBytes-nil
IsBytes-bytes_of (w ∷ words) = IsBytes-append (bytes_low_first 0 8 w) (bytes_of words) (IsBytes-low_first 0 8 w) (IsBytes-bytes_of words)

word_cons_fits : (word : ℕ) (words : List ℕ) → word < 2 ^ 64 → IsWords words → (place : ℕ) → slice_index (word ∷ words) place < 2 ^ 64
word_cons_fits word words small all zero = small
word_cons_fits word words small all (suc place) = all.fits place

IsWords-first_words : (n : ℕ) (bytes : List ℕ) → IsBytes bytes → IsWords (first_words n bytes)
IsWords-first_words zero bytes all = record { fits = λ place. omega arith }
IsWords-first_words (suc n) bytes all = record { fits = word_cons_fits (word_of bytes) (first_words n (drop 8 bytes)) (word_of-lt bytes all) (IsWords-first_words n (drop 8 bytes) (IsBytes-drop 8 bytes all)) }

pub IsWords-words_of : (bytes : List ℕ) → IsBytes bytes → IsWords (words_of bytes)
IsWords-words_of bytes all = IsWords-first_words (length bytes / 8) bytes all

-- ---- both ways

bytes_of-first_words : (n : ℕ) (bytes : List ℕ) → 8 * n ≤ length bytes → IsBytes bytes → bytes_of (first_words n bytes) ≡ take (8 * n) bytes
bytes_of-first_words zero bytes h all = refl
bytes_of-first_words (suc n) bytes h all =
    let first : word_bytes (word_of bytes) ≡ take 8 bytes = word_bytes-word_of bytes (omega arith) all in
    let rest : bytes_of (first_words n (drop 8 bytes)) ≡ take (8 * n) (drop 8 bytes) =
    bytes_of-first_words n (drop 8 bytes) (omega (arith, length-drop 8 bytes)) (IsBytes-drop 8 bytes all) in
    (λ i. first i ++ rest i) ∙ sym (take_places n bytes)

pub bytes_of-words_of : (n : ℕ) (bytes : List ℕ) → length bytes ≡ 8 * n → IsBytes bytes → bytes_of (words_of bytes) ≡ bytes
bytes_of-words_of n bytes len all =
    ap bytes_of (words_of-count n bytes len) ∙ bytes_of-first_words n bytes (omega arith) all ∙ take_all (8 * n) bytes (omega arith)

first_words-bytes_of : (words : List ℕ) → IsWords words → first_words (length words) (bytes_of words) ≡ words
unfolding word_bytes
first_words-bytes_of [] all = refl
first_words-bytes_of (w ∷ words) all =
    let one : word_of (word_bytes w ++ bytes_of words) ≡ w = word_of-word_bytes w (bytes_of words) (all.fits 0) in
    let rest : first_words (length words) (bytes_of words) ≡ words = first_words-bytes_of words (record { fits = λ place. all.fits (suc place) }) in
    λ i. one i ∷ rest i

pub words_of-bytes_of : (words : List ℕ) → IsWords words → words_of (bytes_of words) ≡ words
words_of-bytes_of words all = words_of-count (length words) (bytes_of words) (length-bytes_of words) ∙ first_words-bytes_of words all

-- ---- one word put at a place

-- some bytes with a word put at a place
abbrev pub word_put : List ℕ → ℕ → ℕ → List ℕ
word_put bytes place word = take (8 * place) bytes ++ (word_bytes word ++ drop (8 * place + 8) bytes)

pub bytes_of-set : (words : List ℕ) (place word : ℕ) → place < length words → bytes_of (set words place word) ≡ word_put (bytes_of words) place word
unfolding word_bytes
bytes_of-set [] place word h = absurd (omega arith)
bytes_of-set (w ∷ words) zero word h = refl
bytes_of-set (w ∷ words) (suc place) word h =
    let e = eight place in
    let f : 8 * suc place + 8 ≡ suc (suc (suc (suc (suc (suc (suc (suc (8 * place + 8)))))))) = omega arith in
    ap (λ (l : List ℕ). word_bytes w ++ l) (bytes_of-set words place word (omega arith))
    ∙ sym (λ i. take (e i) (bytes_of (w ∷ words)) ++ (word_bytes word ++ drop (f i) (bytes_of (w ∷ words))))

put_behind : (place word : ℕ) (bytes : List ℕ) → word_put bytes (suc place) word ≡ take 8 bytes ++ word_put (drop 8 bytes) place word
put_behind place word bytes =
    let behind : drop (8 * suc place + 8) bytes ≡ drop (8 * place + 8) (drop 8 bytes) =
    ap (λ (k : ℕ). drop k bytes) (let e : 8 * suc place + 8 ≡ 8 + (8 * place + 8) = omega arith in e) ∙ sym (drop-drop (8 * place + 8) 8 bytes) in
    (λ i. take_places place bytes i ++ (word_bytes word ++ behind i))
    ∙ append_assoc (take 8 bytes) (take (8 * place) (drop 8 bytes)) (word_bytes word ++ drop (8 * place + 8) (drop 8 bytes))

-- the word that was put, and the others as they were
pub first_words-word_put : (n place word : ℕ) (bytes : List ℕ) → word < 2 ^ 64 → place < n → 8 * n ≤ length bytes
    → first_words n (word_put bytes place word) ≡ set (first_words n bytes) place word
unfolding word_bytes
first_words-word_put zero place word bytes fits h len = absurd (omega arith)
first_words-word_put (suc n) zero word bytes fits h len =
    let one : word_of (word_bytes word ++ drop 8 bytes) ≡ word = word_of-word_bytes word (drop 8 bytes) fits in
    λ i. one i ∷ first_words n (drop 8 bytes)
first_words-word_put (suc n) (suc place) word bytes fits h len =
    let few : length (take 8 bytes) ≡ 8 = length-take-le 8 bytes (omega arith) in
    let apart : word_put bytes (suc place) word ≡ take 8 bytes ++ word_put (drop 8 bytes) place word = put_behind place word bytes in
    let one : word_of (take 8 bytes ++ word_put (drop 8 bytes) place word) ≡ word_of bytes =
    word_of-append (take 8 bytes) (word_put (drop 8 bytes) place word) (omega arith) ∙ word_of-take 8 bytes (omega arith) in
    let rest : first_words n (drop 8 (take 8 bytes ++ word_put (drop 8 bytes) place word)) ≡ set (first_words n (drop 8 bytes)) place word =
    ap (first_words n) (drop_at (take 8 bytes) (word_put (drop 8 bytes) place word) 8 few)
    ∙ first_words-word_put n place word (drop 8 bytes) fits (omega arith) (omega (arith, length-drop 8 bytes)) in
    ap (first_words (suc n)) apart ∙ (λ i. one i ∷ rest i)

pub length-word_put : (place word : ℕ) (bytes : List ℕ) → 8 * place + 8 ≤ length bytes → length (word_put bytes place word) ≡ length bytes
length-word_put place word bytes h =
    omega (arith, length-append (take (8 * place) bytes) (word_bytes word ++ drop (8 * place + 8) bytes), length-append (word_bytes word) (drop (8 * place + 8) bytes), length-word_bytes word, length-take-le (8 * place) bytes (omega arith), length-drop (8 * place + 8) bytes)

pub words_of-word_put : (place word : ℕ) (bytes : List ℕ) → word < 2 ^ 64 → 8 * place + 8 ≤ length bytes
    → words_of (word_put bytes place word) ≡ set (words_of bytes) place word
words_of-word_put place word bytes fits h =
    let n : ℕ = length bytes / 8 in
    ap (λ (len : ℕ). first_words (len / 8) (word_put bytes place word)) (length-word_put place word bytes h)
    ∙ first_words-word_put n place word bytes fits (omega arith) (omega arith)

pub IsWords-set : (words : List ℕ) (place word : ℕ) → word < 2 ^ 64 → IsWords words → IsWords (set words place word)
IsWords-set [] place word fits all = all
IsWords-set (w ∷ words) zero word fits all = record { fits = word_cons_fits word words fits (record { fits = λ k. all.fits (suc k) }) }
IsWords-set (w ∷ words) (suc place) word fits all =
    record { fits = word_cons_fits w (set words place word) (all.fits 0) (IsWords-set words place word fits (record { fits = λ k. all.fits (suc k) })) }

-- ---- zeros

pub bytes_of-zeros : (n : ℕ) → bytes_of (replicate n 0) ≡ replicate (8 * n) 0
unfolding word_bytes
bytes_of-zeros zero = refl
bytes_of-zeros (suc n) = ap (λ (l : List ℕ). word_bytes 0 ++ l) (bytes_of-zeros n) ∙ ap (λ (k : ℕ). replicate k 0) (sym (eight n))

IsWords-zeros : (n : ℕ) → IsWords (replicate n 0)
IsWords-zeros zero = record { fits = λ place. omega arith }
IsWords-zeros (suc n) = record { fits = word_cons_fits 0 (replicate n 0) (omega arith) (IsWords-zeros n) }

pub words_of-zeros : (n : ℕ) → words_of (replicate (8 * n) 0) ≡ replicate n 0
words_of-zeros n = ap words_of (sym (bytes_of-zeros n)) ∙ words_of-bytes_of (replicate n 0) (IsWords-zeros n)

-- ---- as the calls use these

pub word_read : (bytes : List ℕ) (place word : ℕ) → word ≡ little_number 8 (take (length bytes - 8 * place) (drop (8 * place) bytes))
    → word ≡ word_of (drop (8 * place) bytes)
unfolding word_of
word_read bytes place word e = e ∙ ap (little_number 8) (take_rest bytes (8 * place))

pub words_read : (bytes words : List ℕ) → length bytes ≡ 8 * length words
    → ((k : ℕ) → k < length words → slice_index words k ≡ little_number 8 (drop (8 * k) bytes)) → words ≡ words_of bytes
unfolding word_of
words_read bytes words len each =
    ext_get_or 0 words (words_of bytes) (omega (arith, length-words_of bytes)) (λ k inside.
    each k inside ∙ sym (slice_index-words_of k bytes (omega arith)))

pub word_written : (bytes part : List ℕ) (place word : ℕ) → 8 * place + 8 ≤ length bytes
    → part ≡ little_bytes 8 word ++ drop 8 (take (length bytes - 8 * place) (drop (8 * place) bytes))
    → put_mid (8 * place) (length bytes - 8 * place) bytes part ≡ word_put bytes place word
unfolding word_bytes
word_written bytes part place word h e =
    let behind : drop 8 (take (length bytes - 8 * place) (drop (8 * place) bytes)) ≡ drop (8 * place + 8) bytes =
    ap (drop 8) (take_rest bytes (8 * place)) ∙ drop-drop 8 (8 * place) bytes in
    let none : drop (length bytes - 8 * place) (drop (8 * place) bytes) ≡ [] =
    drop_all (length bytes - 8 * place) (drop (8 * place) bytes) (omega (arith, length-drop (8 * place) bytes)) in
    (λ i. take (8 * place) bytes ++ (e i ++ none i))
    ∙ (λ i. take (8 * place) bytes ++ append-nil (little_bytes 8 word ++ behind i) i)
