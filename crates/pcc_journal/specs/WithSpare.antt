-- What contracts see of a list that has memory ahead: its items, and for how many more the memory is there.
use Rattle.std.specs.Prelude.{ℕ, List, refl}
use Rattle.std.specs.Coded.{Coded, code_by, coded×, coded_list, coded_ℕ}

pub record WithSpare (T : Type 0) : Type 0 where
  pub items : List T
  pub spare : ℕ

-- such a list is stored as the pair of both
abbrev pub with_spare_code : {T : Type 0} → Coded T → Coded (WithSpare T)
with_spare_code {T} code =
    code_by (List T × ℕ) (coded× (coded_list code) coded_ℕ) (λ w. (w.items, w.spare)) (λ p. record { items = p.0; spare = p.1 }) (λ _. refl)
