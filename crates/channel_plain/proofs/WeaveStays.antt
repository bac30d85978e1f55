-- What a run of picks leaves as it was, and how many readings it takes.
use Rattle.std.proofs.Common.{ℕ, ◌≤◌, Bool, true, false, List, [], ◌∷◌, length, refl, ◌∙◌, arith}
use Rattle.std.specs.Prelude.{Option}
use Rattle.std.proofs.lemmas.List.{length-append}
use Rattle.pcc_history.specs.Devices.{Device}
use Rattle.channel_plain.specs.declared.trace.Side.{Side}
use Rattle.channel_plain.specs.declared.trace.Asked.{Asked}
use Rattle.channel_plain.specs.declared.trace.TraceLine.{TraceLine}
use Rattle.channel_plain.specs.Picks.{PlainState, asks_by, picked}
use Rattle.channel_plain.specs.Weaving.{Wove, unpicked, picks, reading_of}
use Rattle.channel_plain.specs.Good.{Stays}
use Rattle.channel_plain.proofs.PickKeeps.{picked_kept}

few_more : (b : Bool) (r : ℕ) → length (reading_of b r) ≤ 1
few_more true r = omega arith
few_more false r = omega arith

module _ {K : Type 0} (taken : K → ℕ) (tells : K → ℕ → Option ℕ) (exec : Device) (calls : List Asked) (is_state : List ℕ → Type 0) (room_of : List ℕ → ℕ) where
  pub stays : (s : PlainState) (k : K) (sides : List Side) (trace : List TraceLine) (rs : List ℕ) (t : PlainState) (m : K)
      → Wove taken tells exec calls is_state room_of s k sides trace rs t m → Stays s t
  stays s k sides trace rs t m unpicked = record { wiring = refl; limits = refl; start = refl }
  stays s k sides trace rs t m (picks before ls qs u n n' side r w stands after serving takes) =
      let h = stays s k before ls qs u n w in
      let q = picked_kept exec is_state room_of (asks_by u.ask.wiring.kind side) calls u r stands in
      record { wiring = q.wiring ∙ h.wiring; limits = q.limits ∙ h.limits; start = q.start ∙ h.start }

  -- a pick takes one reading at most
  pub few_readings : (s : PlainState) (k : K) (sides : List Side) (trace : List TraceLine) (rs : List ℕ) (t : PlainState) (m : K)
      → Wove taken tells exec calls is_state room_of s k sides trace rs t m → length rs ≤ length sides
  few_readings s k sides trace rs t m unpicked = omega arith
  few_readings s k sides trace rs t m (picks before ls qs u n n' side r w stands after serving takes) =
      let h = few_readings s k before ls qs u n w in
      let one = few_more (picked exec calls side r u).reads r in
      let a = length-append before (side ∷ []) in
      let b = length-append qs (reading_of (picked exec calls side r u).reads r) in
      omega arith
