-- Each call has a look at least.
use Rattle.std.proofs.Common.{◌≡◌, ℕ, zero, suc, ◌<◌, List, [], ◌∷◌, subst}
use Rattle.std.specs.Prelude.{Some}
use Rattle.std.specs.List.{slice_get, AllByRecursion}
use Rattle.channel_plain.specs.declared.trace.Asked.{Asked}
use Rattle.channel_plain.specs.Standing.{HavePolls}

abbrev HasPolls : Asked → Type 0
HasPolls c = 0 < c.polls

same_call : (x y : Asked) → Some x ≡ Some y → x ≡ y
same_call x y e = cc

at : (calls : List Asked) → AllByRecursion HasPolls calls → (i : ℕ) (c : Asked) → slice_get calls i ≡ Some c → 0 < c.polls
at [] h i c e = absurd (cc e)
at (d ∷ ds) h zero c e = subst HasPolls (same_call d c e) h.0
at (d ∷ ds) h (suc i) c e = at ds h.1 i c e

pub have_polls : (calls : List Asked) → AllByRecursion HasPolls calls → HavePolls calls
have_polls calls h = record { least = at calls h }
