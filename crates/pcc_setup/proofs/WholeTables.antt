-- Bytes are those of a table and nothing else, or are refused, by one line.
use Rattle.std.proofs.Common.{◌≡◌, ◌⊎◌, inl, inr, ◌≤◌, ℕ, true, List, [], ◌∷◌, ◌++◌, length, sym, ap, ◌∙◌, subst, arith, Ok}
use Rattle.std.proofs.lemmas.List.{append-nil}
use Rattle.pcct_table.specs.declared.table.Table.{Table}
use Rattle.pcct_codec.specs.declared.fault.TableFault.{TableFault}
use Rattle.pcct_codec.specs.Faults.{Decision, Faulty, Right, decision, told_length}
use Rattle.pcct_codec.specs.Tables.{TableBytes}
use Rattle.pcct_codec.proofs.Decisions.{right_source}
use Rattle.pcct_codec.proofs.Existing.{begins_or_faulty}
use Rattle.pcct_codec.proofs.Headers.{told_more, told_table}
use Rattle.pcc_setup.specs.declared.refusal.Refusal.{Refusal}
use Rattle.pcc_setup.specs.declared.refusal.Refusal.TheVariants as refusal
use Rattle.pcc_setup.specs.SetUps.{Followed, HasTableRefusal, IsWholeTable, TableRefused, Wrong}
use Rattle.pcc_setup.proofs.Refused.{table_kept}

-- bytes that begin with a table are its bytes, or more follow
begun : (bytes front rest : List ℕ) (t : Table) → TableBytes front t → bytes ≡ front ++ rest → IsWholeTable bytes ⊎ HasTableRefusal bytes
begun bytes front [] t h e = inl (record { table = t; spelled = subst (λ (v : List ℕ). TableBytes v t) (sym (e ∙ append-nil front)) h })
begun bytes front (b ∷ rest) t h e = inr (record { cause = refusal.Trailing (length front); refused = Followed front (b ∷ rest) t h e (omega arith) })

pub whole_or_refused : (bytes : List ℕ) → IsWholeTable bytes ⊎ HasTableRefusal bytes
whole_or_refused bytes = elim (begins_or_faulty bytes) [
  | inl h ↦ begun bytes h.front h.rest h.table h.spelled h.whole
  | inr f ↦ inr (record { cause = refusal.Table f.0; refused = Wrong f.0 f.1 })
]

pub whole_kept : (bytes : List ℕ) → IsWholeTable bytes → HasTableRefusal bytes → ⊥
whole_kept bytes h k = table_kept bytes h.table k.cause h.spelled k.refused

-- ---- one refusal

same_fault : (d : Decision) (f g : TableFault) → d ≡ Faulty f → d ≡ Faulty g → f ≡ g
same_fault d f g a b = cc

not_wrong : (bytes front rest : List ℕ) (t : Table) (f : TableFault) → TableBytes front t → bytes ≡ front ++ rest → decision true bytes ≡ Faulty f → ⊥
not_wrong bytes front rest t f h e wrong = let right : decision true bytes ≡ Right = ap (decision true) e ∙ right_source true front rest t h in cc

-- the length in a table's header
told : (bytes front rest : List ℕ) (t : Table) → TableBytes front t → bytes ≡ front ++ rest → told_length bytes ≡ Ok (length front)
told bytes front rest t h e = let least : 48 ≤ length front = h.least in ap told_length e ∙ told_more front rest least ∙ told_table front t h

same_length : (bytes : List ℕ) (m n : ℕ) → told_length bytes ≡ Ok m → told_length bytes ≡ Ok n → m ≡ n
same_length bytes m n a b = cc

pub one_table_refusal : (bytes : List ℕ) (r q : Refusal) → TableRefused bytes r → TableRefused bytes q → r ≡ q
one_table_refusal bytes r q (Wrong f a) (Wrong g b) = ap refusal.Table (same_fault (decision true bytes) f g a b)
one_table_refusal bytes r q (Wrong f a) (Followed front rest t h e some) = absurd (not_wrong bytes front rest t f h e a)
one_table_refusal bytes r q (Followed front rest t h e some) (Wrong g b) = absurd (not_wrong bytes front rest t g h e b)
one_table_refusal bytes r q (Followed front rest t h e some) (Followed other more u k d any) =
    ap refusal.Trailing (same_length bytes (length front) (length other) (told bytes front rest t h e) (told bytes other more u k d))
