-- What a source's first bytes decide.
use Rattle.std.proofs.Common.{◌≡◌, ℕ, ◌≤◌, true, List, ◌++◌, length, take, refl, sym, ap, ◌∙◌, subst, Ok}
use Rattle.std.specs.Prelude.{Option, Some, None}
use Rattle.std.proofs.lemmas.List.{append-nil, take_at}
use Rattle.std.specs.Io.KnownBytes.{Consumes, IsAtEnd}
use Rattle.pcct_codec.specs.declared.fault.TableFault.{TableFault}
use Rattle.pcct_table.specs.declared.table.Table.{Table}
use Rattle.pcct_codec.specs.Tables.{TableBytes}
use Rattle.pcct_codec.specs.Faults.{ReaderFaultIs, IsExcused, decision, told_length}
use Rattle.pcct_codec.proofs.Headers.{told_more, told_table}
use Rattle.pcct_codec.proofs.Decisions.{right_excused, right_source}

-- what a source had is what is gone and what is left
pub had : (old new : Option (List ℕ)) (b all : List ℕ) → Consumes old new b → old ≡ Some all → (rest : List ℕ) × (all ≡ b ++ rest)
had None new b all read e = absurd cc
had (Some xs) None b all read e = absurd read
had (Some xs) (Some ys) b all read e = let same : xs ≡ all = cc in (ys, sym same ∙ read)

-- all of it, where it has ended
pub had_all : (old new : Option (List ℕ)) (b all : List ℕ) → Consumes old new b → IsAtEnd new → old ≡ Some all → all ≡ b
had_all None new b all read end e = absurd cc
had_all (Some xs) None b all read end e = absurd read
had_all (Some xs) (Some ys) b all read end e = let same : xs ≡ all = cc in sym same ∙ read ∙ ap (λ (v : List ℕ). b ++ v) end ∙ append-nil b

pub excused_only : (fault : TableFault) (old : Option (List ℕ)) → ((all : List ℕ) → old ≡ Some all → ReaderFaultIs fault (decision true all))
    → (b rest : List ℕ) (t : Table) → TableBytes b t → old ≡ Some (b ++ rest) → IsExcused fault
excused_only fault old exact b rest t h e =
    right_excused fault (subst (ReaderFaultIs fault) (right_source true b rest t h) (exact (b ++ rest) e))

-- the tables with which the same bytes begin
pub one_front : (a b r q : List ℕ) (t u : Table) → TableBytes a t → TableBytes b u → a ++ r ≡ b ++ q → a ≡ b
one_front a b r q t u h k whole =
    let la : 48 ≤ length a = h.least in
    let lb : 48 ≤ length b = k.least in
    let told : Ok (length a) ≡ Ok (length b) =
    sym (told_more a r la ∙ told_table a t h) ∙ ap told_length whole ∙ told_more b q lb ∙ told_table b u k in
    let len : length a ≡ length b = cc in
    sym (take_at a r (length a) refl) ∙ ap (take (length a)) whole ∙ take_at b q (length a) (sym len)
