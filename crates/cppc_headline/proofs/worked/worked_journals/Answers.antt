use Rattle.std.proofs.Common.{◌≡◌, ◌≤◌, ◌<◌, ℕ, zero, suc, ◌+◌, List, [], ◌∷◌, slice_index_or, None, refl, sym, ap, subst, arith}
use Rattle.pcc_gas.specs.Changes.{with_changes}
use Rattle.pcc_gas.specs.Fields.{bit_of, field_value}
use Rattle.pcc_gas.specs.declared.field.Field.{Field}
use Rattle.cpc_package.specs.Bindings.{source_at}
use Rattle.cpc_package.specs.declared.binding.Binding.{Binding}
use Rattle.cpc_package.specs.declared.binding.Source1.{Source1}
use Rattle.cpc_package.specs.declared.binding.Source1.TheVariants.{Missing, Number, At}
use Rattle.cppc_device.specs.Ranges.{InRange}
use Rattle.cppc_device.specs.Worked.{half_bytes, six_fields}
use Rattle.cppc_calls.specs.Wishes.{with_wish}
use Rattle.cppc_calls.specs.declared.wish.Wish.{Wish}
use Rattle.cppc_headline.specs.Journals.{AreInRange, DifferInWish, IsWishBit}
use Rattle.cppc_headline.specs.Worked.{excessive, sampled, two, wished}
use Rattle.cppc_headline.proofs.Commands.{wish_differs}
use Rattle.cppc_headline.proofs.worked.worked_journals.Goals as goal

apart : (m n : ℕ) → m < n → m ≡ n → ⊥
apart m n lt e = omega arith

apart_below : (m n : ℕ) → n < m → m ≡ n → ⊥
apart_below m n lt e = omega arith

-- ---- ranges

inside : InRange six_fields wished
unfolding field_value
inside = (omega arith, (omega arith, (omega arith, (omega arith, (omega arith, tt)))))

outside : InRange six_fields excessive → ⊥
unfolding field_value
outside h = let le : 255 ≤ 250 = h.1.1.1.0 in omega (arith, le)

one_in : AreInRange (six_fields ∷ []) wished
one_in zero d lt = inside
one_in (suc k) d lt = absurd (omega arith)

none_in : AreInRange (six_fields ∷ []) excessive → ⊥
none_in h = outside (h 0 six_fields (omega arith))

pub returns-clause-ranges : goal.returns-clause-ranges
returns-clause-ranges c = (((λ e. absurd (apart 0 1 (omega arith) e)), tt), λ _. one_in)

pub returns-clause-out_of_range : goal.returns-clause-out_of_range
returns-clause-out_of_range c = λ h. none_in (h.0.0 refl)

pub returns-clause-pending_out : goal.returns-clause-pending_out
returns-clause-pending_out c = λ h. none_in (h.1 refl)

-- ---- fields

abbrev wish : Wish
wish = record { cpu = 0; min = None; desired = 120; max = None }

put_is : with_wish six_fields wish sampled ≡ wished
unfolding with_wish with_changes field_value
put_is = refl

differ : DifferInWish (six_fields ∷ []) sampled wished
differ = subst (DifferInWish (six_fields ∷ []) sampled) put_is (wish_differs (six_fields ∷ []) six_fields wish sampled (0, omega arith, refl))

pub returns-clause-fields : goal.returns-clause-fields
returns-clause-fields c = (
  record { reads = λ _. refl; writes = λ e. absurd (apart 0 1 (omega arith) e) },
  record { reads = λ e. absurd (apart_below 1 0 (omega arith) e); writes = λ _. differ },
)

pub returns-clause-other_read : goal.returns-clause-other_read
returns-clause-other_read c = λ h. apart_below 120 100 (omega arith) (ap (λ (v : List ℕ). slice_index_or v 0 0) (h.0.reads refl))

pub returns-clause-pending_read : goal.returns-clause-pending_read
returns-clause-pending_read c = λ h. apart 0 200 (omega arith) (ap (λ (v : List ℕ). slice_index_or v 16 0) (h.1.reads refl))

-- ---- processors of one byte

abbrev field_or : Field → Source1 → Field
field_or d Missing = d
field_or d (Number n) = d
field_or d (At field) = field

-- the one field of a wish is the low half of the byte
by_entry : (start n : ℕ) (f : Field) → 7 ≤ n → n < 10 → source_at (half_bytes start) n ≡ At f → f ≡ record { at_bit = start; width = 4 }
by_entry start zero f from below e = absurd (omega arith)
by_entry start (suc zero) f from below e = absurd (omega arith)
by_entry start (suc (suc zero)) f from below e = absurd (omega arith)
by_entry start (suc (suc (suc zero))) f from below e = absurd (omega arith)
by_entry start (suc (suc (suc (suc zero)))) f from below e = absurd (omega arith)
by_entry start (suc (suc (suc (suc (suc zero))))) f from below e = absurd (omega arith)
by_entry start (suc (suc (suc (suc (suc (suc zero)))))) f from below e = absurd (omega arith)
by_entry start (suc (suc (suc (suc (suc (suc (suc zero))))))) f from below e = ap (field_or f) (sym e)
by_entry start (suc (suc (suc (suc (suc (suc (suc (suc zero)))))))) f from below e = absurd cc
by_entry start (suc (suc (suc (suc (suc (suc (suc (suc (suc zero))))))))) f from below e = absurd cc
by_entry start (suc (suc (suc (suc (suc (suc (suc (suc (suc (suc n)))))))))) f from below e = absurd (omega arith)

wish_bit : (start bit : ℕ) → IsWishBit (half_bytes start) bit → (start ≤ bit) × (bit < start + 4)
wish_bit start bit w =
    let is : w.field ≡ record { at_bit = start; width = 4 } = by_entry start w.n w.field w.from w.below w.at in
    (subst (λ (f : Field). f.at_bit ≤ bit) is w.inside.from, subst (λ (f : Field). bit < f.at_bit + f.width) is w.inside.below)

-- a bit in which the spaces differ is one of the wish
not_low : (bit : ℕ) → 4 ≤ bit → IsWishBit (half_bytes 0) bit → ⊥
not_low bit le w = let p = wish_bit 0 bit w in let lt : bit < 4 = p.1 in omega (arith, le, lt)

not_high : (bit : ℕ) → bit < 8 → IsWishBit (half_bytes 8) bit → ⊥
not_high bit lt w = let p = wish_bit 8 bit w in let le : 8 ≤ bit = p.0 in omega (arith, le, lt)

by_cpu : (before input : List ℕ) (high low : ℕ) → 4 ≤ high → low < 8 → (bit_of input high ≡ bit_of before high → ⊥) → (bit_of input low ≡ bit_of before low → ⊥)
    → (k : ℕ) (cpu : Binding) → k < 2 → slice_index_or two k cpu ≡ cpu → ((bit : ℕ) → (IsWishBit cpu bit → ⊥) → bit_of input bit ≡ bit_of before bit) → ⊥
by_cpu before input high low le lt a b zero cpu k e same = a (same high (subst (λ (x : Binding). IsWishBit x high → ⊥) e (not_low high le)))
by_cpu before input high low le lt a b (suc zero) cpu k e same = b (same low (subst (λ (x : Binding). IsWishBit x low → ⊥) e (not_high low lt)))
by_cpu before input high low le lt a b (suc (suc n)) cpu k e same = absurd (omega arith)

not_one : (before input : List ℕ) (high low : ℕ) → 4 ≤ high → low < 8 → (bit_of input high ≡ bit_of before high → ⊥) → (bit_of input low ≡ bit_of before low → ⊥)
    → DifferInWish two before input → ⊥
not_one before input high low le lt a b d = by_cpu before input high low le lt a b d.one.0 d.cpu d.one.1 d.one.2 d.others

pub returns-clause-two_wishes : goal.returns-clause-two_wishes
returns-clause-two_wishes c = λ h.
    not_one (0x21 ∷ 0x43 ∷ []) (0x25 ∷ 0x47 ∷ []) 10 2 (omega arith) (omega arith) (apart_below 1 0 (omega arith)) (apart_below 1 0 (omega arith)) (h.0.writes refl)

pub returns-clause-counter : goal.returns-clause-counter
returns-clause-counter c = λ h.
    not_one (0x21 ∷ 0x43 ∷ []) (0x35 ∷ 0x43 ∷ []) 4 2 (omega arith) (omega arith) (apart_below 1 0 (omega arith)) (apart_below 1 0 (omega arith)) (h.0.writes refl)
