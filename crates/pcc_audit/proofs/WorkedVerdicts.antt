-- The facts of the worked journals.
use Rattle.std.proofs.Common.{◌≡◌, ◌≢◌, ℕ, zero, suc, ◌+◌, ◌<◌, ◌≤◌, true, false, List, [], ◌∷◌, slice_index, slice_index_or, refl, sym, ap, subst, arith}
use Rattle.std.specs.Prelude.{None}
use Rattle.pcc_bytes.specs.Bytes.{IsBytes}
use Rattle.pcc_gas.specs.Fields.{bit_of, field_value}
use Rattle.cpc_package.specs.declared.binding.Binding.{Binding}
use Rattle.cppc_device.specs.Ranges.{InRange}
use Rattle.cppc_headline.specs.Journals.{AreInRange, DifferInWish, IsUntouched, IsWishBit}
use Rattle.pcc_audit.specs.Verdicts.{FlawAt}
use Rattle.pcc_audit.specs.WishBits.{WishBitsDiffer}
use Rattle.pcc_audit.specs.Worked.{controller, first_read, processor}
use Rattle.pcc_audit.proofs.Bits.{bits_same, bits_start, bits_wish, bytes_same, desired_bit, no_wish_bit, one_differs}

abbrev pub cpus : List Binding
cpus = processor 0 ∷ processor 8 ∷ []

-- ---- fields

-- bits that a processor's wish has, and bits that it hasn't
wish : (at bit : ℕ) → at ≤ bit → bit < at + 4 → IsWishBit (processor at) bit
wish at bit from below = desired_bit (processor at) bit (record { from = from; below = below })

no_wish_below : (at bit : ℕ) → bit < at → IsWishBit (processor at) bit → ⊥
no_wish_below at bit lt = no_wish_bit (processor at) bit (λ h. let le : at ≤ bit = h.from in absurd (omega arith)) (λ h. h) (λ h. h)

no_wish_above : (at bit : ℕ) → at + 4 ≤ bit → IsWishBit (processor at) bit → ⊥
no_wish_above at bit le = no_wish_bit (processor at) bit (λ h. let lt : bit < at + 4 = h.below in absurd (omega arith)) (λ h. h) (λ h. h)

-- a bit that differs and isn't of the wish of a processor
pub record Outside (before input : List ℕ) (cpu : Binding) : Type 0 where
  pub bit : ℕ
  pub out : IsWishBit cpu bit → ⊥
  pub differs : bit_of input bit ≢ bit_of before bit

not_in_wish : (before input : List ℕ) → Outside before input (processor 0) → Outside before input (processor 8)
    → DifferInWish cpus before input → ⊥
not_in_wish before input a b x = out x.one.0 x.one.1 x.one.2
  where
    out_of : (cpu : Binding) → Outside before input cpu → cpu ≡ x.cpu → ⊥
    out_of cpu o e = o.differs (x.others o.bit (λ is. o.out (subst (λ (c : Binding). IsWishBit c o.bit) (sym e) is)))

    out : (k : ℕ) → k < 2 → slice_index_or cpus k x.cpu ≡ x.cpu → ⊥
    out zero lt e = out_of (processor 0) a e
    out (suc zero) lt e = out_of (processor 8) b e
    out (suc (suc k)) lt e = absurd (omega arith)

unlike : (a b : ℕ) → a < b → b ≢ a
unlike a b lt e = absurd (omega arith)

other : (a b : ℕ) → a < b → a ≢ b
other a b lt e = absurd (omega arith)

bytes_two : (a b : ℕ) → a < 256 → b < 256 → IsBytes (a ∷ b ∷ [])
bytes_two a b x y = record { fits = fits }
  where
    fits : (i : ℕ) → slice_index (a ∷ b ∷ []) i < 256
    fits zero = x
    fits (suc zero) = y
    fits (suc (suc i)) = omega arith

-- ---- the inputs of commands that write

not_read : ◌≡◌ {A = ℕ} 1 0 → ⊥
not_read x = absurd (omega arith)

first_may : DifferInWish cpus (5 ∷ 5 ∷ []) (6 ∷ 5 ∷ [])
first_may =
    let b : List ℕ = 5 ∷ 5 ∷ [] in
    let i : List ℕ = 6 ∷ 5 ∷ [] in
    let c : Binding = processor 0 in
    let w0 : WishBitsDiffer c b i 0 0 = bits_start c b i 0 in
    let w1 : WishBitsDiffer c b i 0 1 = bits_wish c b i 0 0 (wish 0 0 (omega arith) (omega arith)) w0 in
    let w2 : WishBitsDiffer c b i 0 2 = bits_wish c b i 0 1 (wish 0 1 (omega arith) (omega arith)) w1 in
    let w4 : WishBitsDiffer c b i 0 4 = bits_same c b i 0 3 refl (bits_same c b i 0 2 refl w2) in
    let w6 : WishBitsDiffer c b i 0 6 = bits_same c b i 0 5 refl (bits_same c b i 0 4 refl w4) in
    let w8 : WishBitsDiffer c b i 0 8 = bits_same c b i 0 7 refl (bits_same c b i 0 6 refl w6) in
    let all : WishBitsDiffer c b i 0 16 = bytes_same c b i 1 refl w8 in
    one_differs cpus b i 0 c (omega arith) refl (bytes_two 6 5 (omega arith) (omega arith)) all

pub first_written : IsUntouched cpus (5 ∷ 5 ∷ []) 1 (6 ∷ 5 ∷ [])
first_written = record { reads = λ e. absurd (not_read e); writes = λ e. first_may }

-- one processor gets below its range, or above it
below_may : DifferInWish cpus (5 ∷ 5 ∷ []) (0 ∷ 5 ∷ [])
below_may =
    let b : List ℕ = 5 ∷ 5 ∷ [] in
    let i : List ℕ = 0 ∷ 5 ∷ [] in
    let c : Binding = processor 0 in
    let w1 : WishBitsDiffer c b i 0 1 = bits_wish c b i 0 0 (wish 0 0 (omega arith) (omega arith)) (bits_start c b i 0) in
    let w3 : WishBitsDiffer c b i 0 3 = bits_wish c b i 0 2 (wish 0 2 (omega arith) (omega arith)) (bits_same c b i 0 1 refl w1) in
    let w5 : WishBitsDiffer c b i 0 5 = bits_same c b i 0 4 refl (bits_same c b i 0 3 refl w3) in
    let w8 : WishBitsDiffer c b i 0 8 = bits_same c b i 0 7 refl (bits_same c b i 0 6 refl (bits_same c b i 0 5 refl w5)) in
    one_differs cpus b i 0 c (omega arith) refl (bytes_two 0 5 (omega arith) (omega arith)) (bytes_same c b i 1 refl w8)

pub below_written : IsUntouched cpus (5 ∷ 5 ∷ []) 1 (0 ∷ 5 ∷ [])
below_written = record { reads = λ e. absurd (not_read e); writes = λ e. below_may }

above_may : DifferInWish cpus (5 ∷ 5 ∷ []) (5 ∷ 10 ∷ [])
above_may =
    let b : List ℕ = 5 ∷ 5 ∷ [] in
    let i : List ℕ = 5 ∷ 10 ∷ [] in
    let c : Binding = processor 8 in
    let w8 : WishBitsDiffer c b i 0 8 = bytes_same c b i 0 refl (bits_start c b i 0) in
    let w9 : WishBitsDiffer c b i 0 9 = bits_wish c b i 0 8 (wish 8 8 (omega arith) (omega arith)) w8 in
    let w10 : WishBitsDiffer c b i 0 10 = bits_wish c b i 0 9 (wish 8 9 (omega arith) (omega arith)) w9 in
    let w11 : WishBitsDiffer c b i 0 11 = bits_wish c b i 0 10 (wish 8 10 (omega arith) (omega arith)) w10 in
    let w12 : WishBitsDiffer c b i 0 12 = bits_wish c b i 0 11 (wish 8 11 (omega arith) (omega arith)) w11 in
    let w14 : WishBitsDiffer c b i 0 14 = bits_same c b i 0 13 refl (bits_same c b i 0 12 refl w12) in
    let w16 : WishBitsDiffer c b i 0 16 = bits_same c b i 0 15 refl (bits_same c b i 0 14 refl w14) in
    one_differs cpus b i 1 c (omega arith) refl (bytes_two 5 10 (omega arith) (omega arith)) w16

pub above_written : IsUntouched cpus (5 ∷ 5 ∷ []) 1 (5 ∷ 10 ∷ [])
above_written = record { reads = λ e. absurd (not_read e); writes = λ e. above_may }

-- ---- inputs that change more

pub two_touched : IsUntouched cpus (5 ∷ 5 ∷ []) 1 (6 ∷ 6 ∷ []) → ⊥
two_touched h = not_in_wish (5 ∷ 5 ∷ []) (6 ∷ 6 ∷ [])
    (record { bit = 8; out = no_wish_above 0 8 (omega arith); differs = other 0 1 (omega arith) })
    (record { bit = 0; out = no_wish_below 8 0 (omega arith); differs = other 0 1 (omega arith) }) (h.writes refl)

pub both_below : IsUntouched cpus (5 ∷ 5 ∷ []) 1 (0 ∷ 0 ∷ []) → ⊥
both_below h = not_in_wish (5 ∷ 5 ∷ []) (0 ∷ 0 ∷ [])
    (record { bit = 8; out = no_wish_above 0 8 (omega arith); differs = other 0 1 (omega arith) })
    (record { bit = 0; out = no_wish_below 8 0 (omega arith); differs = other 0 1 (omega arith) }) (h.writes refl)

pub field_left : IsUntouched cpus (5 ∷ 5 ∷ []) 1 (5 ∷ 21 ∷ []) → ⊥
field_left h = not_in_wish (5 ∷ 5 ∷ []) (5 ∷ 21 ∷ [])
    (record { bit = 12; out = no_wish_above 0 12 (omega arith); differs = unlike 0 1 (omega arith) })
    (record { bit = 12; out = no_wish_above 8 12 (omega arith); differs = unlike 0 1 (omega arith) }) (h.writes refl)

changed : (rest : List ℕ) → 6 ∷ rest ≡ 5 ∷ rest → ⊥
changed rest e = let x : ◌≡◌ {A = ℕ} 6 5 = ap (λ (l : List ℕ). slice_index l 0) e in absurd (omega arith)

pub read_touched : IsUntouched cpus (5 ∷ 5 ∷ []) 0 (6 ∷ 5 ∷ []) → ⊥
read_touched h = changed (5 ∷ []) (h.reads refl)

-- ---- ranges

half : (at : ℕ) (space : List ℕ) (value : ℕ) → field_value space (record { at_bit = at; width = 4 }) ≡ value → 1 ≤ value → value ≤ 9
    → InRange (processor at) space
half at space value e low high = (omega arith, (rw e low, (rw e high, tt)))

pub first_inside : AreInRange cpus (6 ∷ 5 ∷ [])
unfolding field_value
first_inside = inside
  where
    inside : (k : ℕ) (d : Binding) → k < 2 → InRange (slice_index_or cpus k d) (6 ∷ 5 ∷ [])
    inside zero d lt = half 0 (6 ∷ 5 ∷ []) 6 refl (omega arith) (omega arith)
    inside (suc zero) d lt = half 8 (6 ∷ 5 ∷ []) 5 refl (omega arith) (omega arith)
    inside (suc (suc k)) d lt = absurd (omega arith)

pub below_lowest : AreInRange cpus (0 ∷ 5 ∷ []) → ⊥
unfolding field_value
below_lowest h =
    let inside : InRange (processor 0) (0 ∷ 5 ∷ []) = h 0 (processor 0) (omega arith) in
    let le : 1 ≤ 0 = inside.1.0 in
    absurd (omega arith)

pub above_highest : AreInRange cpus (5 ∷ 10 ∷ []) → ⊥
unfolding field_value
above_highest h =
    let inside : InRange (processor 8) (5 ∷ 10 ∷ []) = h 1 (processor 8) (omega arith) in
    let le : 10 ≤ 9 = inside.1.1.0 in
    absurd (omega arith)

-- ---- whole journals

pub first_right : (k : ℕ) → k < 1 → FlawAt controller (first_read ∷ []) k None
first_right zero lt d =
    ((refl, refl), omega arith, λ e. record { reads = λ r. refl; writes = λ w. absurd (omega arith) }, λ c w. absurd (omega arith), (refl, refl, tt))
first_right (suc k) lt d = absurd (omega arith)

pub too_soon : 20 ≤ 19 → ⊥
too_soon le = absurd (omega arith)

pub error_false : true ≢ false
error_false e = cc

pub shorter : ◌≢◌ {A = ℕ} 1 2
shorter e = absurd (omega arith)

pub longer : ◌≢◌ {A = ℕ} 3 2
longer e = absurd (omega arith)

pub none_of_two : ◌≢◌ {A = ℕ} 0 2
none_of_two e = absurd (omega arith)

pub heads_differ : ◌≢◌ {A = ℕ} 1 0
heads_differ e = absurd (omega arith)

pub first_byte : (a b : ℕ) (rest : List ℕ) → a ≢ b → a ∷ rest ≢ b ∷ rest
first_byte a b rest ne e = ne (ap (λ (l : List ℕ). slice_index l 0) e)
