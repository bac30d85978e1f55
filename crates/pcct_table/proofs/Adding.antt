-- What several readers add, one after another.
use Rattle.std.proofs.Common.{◌≡◌, ℕ, Bool, true, false, List, ◌++◌, length, ap, ◌∙◌, append_assoc}
use Rattle.std.specs.Prelude.{Option, Some, None, Result, Ok, Err, IfOk}
use Rattle.pcct_table.specs.ShowReading.{Adds, ◌then◌, part, read_number, read_parts}

pub adds_then : (a b : Option (List ℕ)) (ok : Bool) (old mid new : List ℕ) → Adds a true old mid → Adds b ok mid new → Adds (a then b) ok old new
adds_then None b ok old mid new h k = cc
adds_then (Some x) None ok old mid new h k = k
adds_then (Some x) (Some y) ok old mid new h k = (k.0, k.1 ∙ ap (λ (v : List ℕ). v ++ y) h.1 ∙ append_assoc old x y)

pub adds_stop : (a b : Option (List ℕ)) (old mid new : List ℕ) → Adds a false old mid → Adds (a then b) false old new
adds_stop None b old mid new h = h
adds_stop (Some x) b old mid new h = cc

pub adds_last : {E : Type 0} (r : Result Bool E) (a b : Option (List ℕ)) (old mid new : List ℕ) → Adds a true old mid
    → IfOk r (λ ok. Adds b ok mid new) → IfOk r (λ ok. Adds (a then b) ok old new)
adds_last (Ok ok) a b old mid new h k = adds_then a b ok old mid new h k
adds_last (Err e) a b old mid new h k = tt

-- five numbers, one after another
pub adds_parts : {E : Type 0} (ps : List (List ℕ)) (r : Result Bool E) (o m1 m2 m3 m4 new : List ℕ) → length ps ≡ 5
    → Adds (read_number 1 255 (part ps 0)) true o m1 → Adds (read_number 1 255 (part ps 1)) true m1 m2
    → Adds (read_number 1 255 (part ps 2)) true m2 m3 → Adds (read_number 1 255 (part ps 3)) true m3 m4
    → IfOk r (λ ok. Adds (read_number 8 18446744073709551615 (part ps 4)) ok m4 new) → IfOk r (λ ok. Adds (read_parts ps) ok o new)
adds_parts ps r o m1 m2 m3 m4 new len h1 h2 h3 h4 h5 =
    rw len (adds_last r _ _ o m1 new h1 (adds_last r _ _ m1 m2 new h2 (adds_last r _ _ m2 m3 new h3 (adds_last r _ _ m3 m4 new h4 h5))))
