-- Blocks, and the spaces that their words spell.
use Rattle.std.specs.Prelude.{slice_index}
use Rattle.std.proofs.Common.{◌≡◌, ℕ, zero, suc, [], ◌∷◌, ◌+◌, ◌*◌, ◌/◌, ◌%◌, ◌<◌, ◌≤◌, List, ◌++◌, length, take, drop, sym, ap, ◌∙◌, arith, length-take}
use Rattle.std.proofs.lemmas.List.{length-append, take-append-drop}
use Rattle.std.proofs.Math.Seq.{drop-append_seam, take-append_seam}
use Rattle.shmem_header.proofs.Places.{length-words_of, bytes_of-words_of}
use Rattle.pcc_bytes.specs.Bytes.{IsBytes}
use Rattle.shmem_header.specs.Spelling.{words_of, bytes_of}

-- ---- words and bytes

pub words_long : (s : List ℕ) → length (words_of s) ≡ length s / 8
words_long s = length-words_of s

pub bytes_again : (s : List ℕ) → IsBytes s → length s % 8 ≡ 0 → bytes_of (words_of s) ≡ s
bytes_again s h e = let k : length s ≡ 8 * (length s / 8) = omega arith in bytes_of-words_of (length s / 8) s k h

within : (a b : List ℕ) → ((place : ℕ) → slice_index a place < 256) → ((place : ℕ) → slice_index b place < 256) → (place : ℕ) → slice_index (a ++ b) place < 256
within [] b f g place = g place
within (x ∷ a) b f g zero = f zero
within (x ∷ a) b f g (suc place) = within a b (λ place. f (suc place)) g place

-- ---- header words, then others

fronts : (k : ℕ) (sent : List ℕ) → k ≤ length sent → length (take k sent) ≡ k
fronts k sent h = let l = length-take k sent in omega (arith, l)

pub behind_front : (k : ℕ) (sent ws : List ℕ) → k ≤ length sent → drop k (take k sent ++ ws) ≡ ws
behind_front k sent ws h = ap (λ (n : ℕ). drop n (take k sent ++ ws)) (sym (fronts k sent h)) ∙ drop-append_seam (take k sent) ws

pub same_front : (k : ℕ) (sent ws : List ℕ) → k ≤ length sent → take k (take k sent ++ ws) ≡ take k sent
same_front k sent ws h = ap (λ (n : ℕ). take n (take k sent ++ ws)) (sym (fronts k sent h)) ∙ take-append_seam (take k sent) ws

-- a block of k header words and the words of a space with this room
pub block_long : (k room : ℕ) (sent output : List ℕ) → length sent ≡ k + room / 8 → length output ≡ room
    → length (take k sent ++ words_of output) ≡ k + room / 8
block_long k room sent output e f = let l = length-append (take k sent) (words_of output) in let a = fronts k sent (omega arith) in let b = words_long output in let c = ap (λ (n : ℕ). n / 8) f in omega (arith, l, a, b, c)

-- the space that such a block spells
pub space_again : (k room : ℕ) (sent output : List ℕ) → length sent ≡ k + room / 8 → length output ≡ room → room % 8 ≡ 0 → IsBytes output
    → bytes_of (drop k (take k sent ++ words_of output)) ≡ output
space_again k room sent output e f whole h = ap bytes_of (behind_front k sent (words_of output) (omega arith)) ∙ bytes_again output h (ap (λ (n : ℕ). n % 8) f ∙ whole)

pub some_words : (k room : ℕ) → 8 ≤ room → 0 < k + room / 8
some_words k room h = omega arith

-- the first words of a mix, where the new list begins as the old one
pub mix_front : (k : ℕ) (sent ws : List ℕ) → k ≤ length sent → take k (take k sent ++ ws) ++ drop k sent ≡ sent
mix_front k sent ws h = ap (λ (l : List ℕ). l ++ drop k sent) (same_front k sent ws h) ∙ take-append-drop k sent

pub behind_heads : (k room : ℕ) → 8 ≤ room → k < k + room / 8
behind_heads k room h = omega arith

pub IsBytes-append : (a b : List ℕ) → IsBytes a → IsBytes b → IsBytes (a ++ b)
IsBytes-append a b f g = record { fits = within a b f.fits g.fits }
