-- Checks that follow each other.
use Rattle.std.proofs.Common.{◌≡◌, subst}
use Rattle.pcc_setup.specs.declared.refusal.InputError.{InputError}
use Rattle.pcc_setup.specs.declared.refusal.InputError.TheVariants as error
use Rattle.pcc_setup.specs.declared.refusal.Refusal.{Refusal}
use Rattle.pcc_setup.specs.RefusalText.{IsRefusedFor}
use Rattle.pcc_setup.specs.SetUps.{Fails, Here, Later}

-- a check doesn't both pass and fail, passes with one value, and fails with one refusal
pub record Exact {X : Type 0} (Passes : X → Type 0) (Refuses : Refusal → Type 0) : Type 0 where
  pub apart : (x : X) (r : Refusal) → Passes x → Refuses r → ⊥
  pub one_value : (x y : X) → Passes x → Passes y → x ≡ y
  pub one_refusal : (r q : Refusal) → Refuses r → Refuses q → r ≡ q

-- where the later checks fail with one refusal, so do all
pub one_of : {X : Type 0} (Passes : X → Type 0) (Refuses : Refusal → Type 0) (Next : X → Refusal → Type 0) → Exact Passes Refuses
    → ((x : X) → Passes x → (r q : Refusal) → Next x r → Next x q → r ≡ q) → (r q : Refusal) → Fails Passes Refuses Next r → Fails Passes Refuses Next q → r ≡ q
one_of Passes Refuses Next exact rest r q (Here _ h) (Here _ k) = exact.one_refusal r q h k
one_of Passes Refuses Next exact rest r q (Here _ h) (Later y s _ k) = absurd (exact.apart y r s h)
one_of Passes Refuses Next exact rest r q (Later x p _ h) (Here _ k) = absurd (exact.apart x q p k)
one_of {X = X} Passes Refuses Next exact rest r q (Later x p _ h) (Later y s _ k) =
    rest y s r q (subst (λ (z : X). Next z r) (exact.one_value x y p s) h) k

-- where a check passes and the later ones don't fail, none fails
pub kept : {X : Type 0} (Passes : X → Type 0) (Refuses : Refusal → Type 0) (Next : X → Refusal → Type 0) → Exact Passes Refuses → (x : X) → Passes x
    → ((r : Refusal) → Next x r → ⊥) → (r : Refusal) → Fails Passes Refuses Next r → ⊥
kept Passes Refuses Next exact x p rest r (Here _ h) = exact.apart x r p h
kept {X = X} Passes Refuses Next exact x p rest r (Later y s _ k) = rest r (subst (λ (z : X). Next z r) (exact.one_value y x s p) k)

-- ---- errors

-- the error of a check
pub here : {X : Type 0} (Passes : X → Type 0) (Refuses : Refusal → Type 0) (Next : X → Refusal → Type 0) (e : InputError) → IsRefusedFor Refuses e
    → IsRefusedFor (Fails Passes Refuses Next) e
here Passes Refuses Next (error.Refused r) h = (Here r h.0, h.1)
here Passes Refuses Next error.NoMemory h = tt

-- the error of a later check
pub passed : {X : Type 0} (Passes : X → Type 0) (Refuses : Refusal → Type 0) (Next : X → Refusal → Type 0) (x : X) (e : InputError) → Passes x
    → IsRefusedFor (Next x) e → IsRefusedFor (Fails Passes Refuses Next) e
passed Passes Refuses Next x (error.Refused r) p h = (Later x p r h.0, h.1)
passed Passes Refuses Next x error.NoMemory p h = tt
