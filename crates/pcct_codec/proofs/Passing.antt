-- A fault that is passed on as it is.
use Rattle.std.proofs.Common.{◌≡◌, ◌≢◌, sym, subst, Result, Ok, Err}
use Rattle.std.specs.Prelude.{IfErr, IsErrAnd, MatchResult}
use Rattle.pcct_codec.specs.declared.fault.TableFault.{TableFault}

pub err_from : {T : Type 0} (P : TableFault → Type 0) (r : Result T TableFault) (f : TableFault) → IsErrAnd r (λ e. e ≡ f) → P f → IfErr r P
err_from P (Ok v) f h p = tt
err_from P (Err e) f h p = subst P (sym h) p

pub match_from : {T : Type 0} (Q : T → Type 0) (P : TableFault → Type 0) (r : Result T TableFault) (f : TableFault) → IsErrAnd r (λ e. e ≡ f) → P f
    → MatchResult r Q P
match_from Q P (Ok v) f h p = absurd h
match_from Q P (Err e) f h p = subst P (sym h) p

pub err_not : {T : Type 0} (r : Result T TableFault) (g : TableFault) → IfErr r (λ f. f ≢ g) → r ≢ Err g
err_not (Ok v) g h e = absurd cc
err_not (Err f) g h e = h cc
