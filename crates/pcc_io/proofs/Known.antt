-- What several reads and writes do to known bytes, one after another.
use Rattle.std.proofs.Common.{◌≡◌, ◌≤◌, ℕ, ◌+◌, ◌-◌, List, [], ◌++◌, length, take, drop, refl, sym, ap, ◌∙◌, subst}
use Rattle.std.proofs.lemmas.List.{append_assoc, append-nil, length-append, take_rest, take-append-drop, drop-drop}
use Rattle.std.specs.Prelude.{Option}
use Rattle.std.specs.Io.KnownBytes.{Appends, Consumes, Keeps}
use Rattle.pcc_causes.specs.Causes.{TakesAtMost}
use Rattle.std.proofs.KnownBytes.{Appends-nil, Appends-trans, Consumes-nil, Consumes-trans, Consumes-kept}

-- a text of which `done` is written and the rest isn't yet
pub record Progress (old new : Option (List ℕ)) (text rest : List ℕ) : Type 0 where
  pub done : List ℕ
  pub whole : text ≡ done ++ rest
  pub appended : Appends old new done

pub progress_start : (a : Option (List ℕ)) (text : List ℕ) → Progress a a text text
progress_start a text = record { done = []; whole = refl; appended = Appends-nil a }

-- a write of n bytes of the rest
pub progress_more : (a b c : Option (List ℕ)) (text rest : List ℕ) (n : ℕ) → Progress a b text rest → Appends b c (take n rest)
    → Progress a c text (take (length rest - n) (drop n rest))
progress_more a b c text rest n p w = rw take_rest (record {
  done = p.done ++ take n rest;
  whole = p.whole ∙ ap (λ (v : List ℕ). p.done ++ v) (sym (take-append-drop n rest)) ∙ sym (append_assoc p.done (take n rest) (drop n rest));
  appended = Appends-trans a b c p.done (take n rest) p.appended w;
})

-- at the end all of it is written
pub progress_end : (a b : Option (List ℕ)) (text rest : List ℕ) → rest ≡ [] → Progress a b text rest → Appends a b text
progress_end a b text rest e p =
    let P : List ℕ → Type 0 = λ t. Appends a b t in
    subst P (sym (p.whole ∙ ap (λ (v : List ℕ). p.done ++ v) e ∙ append-nil p.done)) p.appended

pub consumes_none : (a : Option (List ℕ)) → Consumes a a []
consumes_none = Consumes-nil

pub consumes_more : (a b c : Option (List ℕ)) (p q : List ℕ) → Consumes a b p → Consumes b c q → Consumes a c (p ++ q)
consumes_more = Consumes-trans

-- two reads take no more than this together
pub taken_more : (a b c : Option (List ℕ)) (p q : List ℕ) (most : ℕ) → Consumes a b p → Consumes b c q → length p + length q ≤ most → TakesAtMost a c most
taken_more a b c p q most h k few = record { taken = p ++ q; read = Consumes-trans a b c p q h k; few = rw length-append few }

-- two reads take this much together
pub taken_exactly : (a b c : Option (List ℕ)) (p q : List ℕ) (n : ℕ) → Consumes a b p → Consumes b c q → length p + length q ≡ n
    → (bs : List ℕ) × Consumes a c bs × (length bs ≡ n)
taken_exactly a b c p q n h k e = (p ++ q, Consumes-trans a b c p q h k, rw length-append e)

-- a read that failed takes nothing
pub taken_kept : (a b c : Option (List ℕ)) (p : List ℕ) (most : ℕ) → Consumes a b p → Keeps b c → length p ≤ most → TakesAtMost a c most
taken_kept a b c p most h k few = record { taken = p; read = Consumes-kept a b c p h k; few = few }

-- n bytes of what is left at a place, and what is left after them
pub read_front : (bytes : List ℕ) (at n : ℕ) → drop at bytes ≡ take n (drop at bytes) ++ drop (at + n) bytes
read_front bytes at n = rw (← drop-drop n at bytes) (sym (take-append-drop n (drop at bytes)))
