-- Lists of bytes, their parts, and what they are made of.
use Rattle.std.proofs.Common.{◌≡◌, ◌<◌, ℕ, zero, suc, ◌+◌, List, [], ◌∷◌, ◌++◌, take, drop, inl, inr, arith, true}
use Rattle.std.specs.Prelude.{nat_lt, slice_index}
use Rattle.std.specs.List.{list_all}
use Rattle.std.proofs.lemmas.Bool.{and_parts, cases_lt, ltb-true}
use Rattle.std.proofs.lemmas.List.{get_or-drop, get_or-take, get_or_past, length-take}
use Rattle.pcc_bytes.specs.Bytes.{IsBytes}

pub IsBytes-tail : (byte : ℕ) (bytes : List ℕ) → IsBytes (byte ∷ bytes) → IsBytes bytes
IsBytes-tail byte bytes all = record { fits = λ place. all.fits (suc place) }

pub IsBytes-drop : (n : ℕ) (bytes : List ℕ) → IsBytes bytes → IsBytes (drop n bytes)
IsBytes-drop n bytes all = record { fits = λ place. rw (get_or-drop n bytes place 0) (all.fits (n + place)) }

pub IsBytes-take : (n : ℕ) (bytes : List ℕ) → IsBytes bytes → IsBytes (take n bytes)
IsBytes-take n bytes all = record {
  fits = λ place. elim (cases_lt place n) [
    | inl h ↦ rw (get_or-take n bytes place 0 h) (all.fits place)
    | inr h ↦ rw (get_or_past (take n bytes) place 0 (omega (arith, length-take n bytes))) (omega arith)
  ];
}

pub IsBytes-nil : IsBytes []
IsBytes-nil = record { fits = λ place. omega arith }

cons_fits : (byte : ℕ) (bytes : List ℕ) → byte < 256 → IsBytes bytes → (place : ℕ) → slice_index (byte ∷ bytes) place < 256
cons_fits byte bytes small all zero = small
cons_fits byte bytes small all (suc place) = all.fits place

pub IsBytes-cons : (byte : ℕ) (bytes : List ℕ) → byte < 256 → IsBytes bytes → IsBytes (byte ∷ bytes)
IsBytes-cons byte bytes small all = record { fits = cons_fits byte bytes small all }

pub IsBytes-append : (xs ys : List ℕ) → IsBytes xs → IsBytes ys → IsBytes (xs ++ ys)
IsBytes-append [] ys h k = k
IsBytes-append (x ∷ xs) ys h k = IsBytes-cons x (xs ++ ys) (h.fits 0) (IsBytes-append xs ys (IsBytes-tail x xs h) k)

-- a test of each element, which computes on literals
pub IsBytes-tested : (bytes : List ℕ) → list_all (λ b. nat_lt b 256) bytes ≡ true → IsBytes bytes
IsBytes-tested [] h = IsBytes-nil
IsBytes-tested (b ∷ bytes) h =
    let parts = and_parts (nat_lt b 256) (list_all (λ (c : ℕ). nat_lt c 256) bytes) h in
    IsBytes-cons b bytes (ltb-true b 256 parts.0) (IsBytes-tested bytes parts.1)
