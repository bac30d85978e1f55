-- The loop of `pick_all`: the picks are made one by one, and each line goes out.
use Rattle.std.proofs.Common.{◌≡◌, ℕ, ◌+◌, ◌<◌, ◌≤◌, Bool, true, false, List, [], ◌∷◌, ◌++◌, length, take, get_or, sym, ap, ◌∙◌, subst}
use Rattle.std.specs.Prelude.{Option}
use Rattle.std.proofs.lemmas.List.{take_all, take_more}
use Rattle.pcc_history.specs.Devices.{Device}
use Rattle.channel_plain.specs.declared.trace.Side.{Side}
use Rattle.channel_plain.specs.declared.trace.Asked.{Asked}
use Rattle.channel_plain.specs.declared.trace.TraceLine.{TraceLine}
use Rattle.channel_plain.specs.Picks.{PlainState, Picked, picked}
use Rattle.channel_plain.specs.Standing.{IsServing, Stands}
use Rattle.channel_plain.specs.Weaving.{Clocked, Follows, IsFresh, PicksOnce, Wove, unpicked, picks, reading_of}

module _ {K : Type 0} (taken : K → ℕ) (tells : K → ℕ → Option ℕ) (exec : Device) (calls : List Asked) (is_state : List ℕ → Type 0) (room_of : List ℕ → ℕ) where
  pub fresh_follows : (s : Clocked K) → IsFresh s.channel → Follows taken tells exec calls is_state room_of [] s [] s
  fresh_follows s new = record { readings = []; wove = unpicked; serving = λ e. absurd (idle s.channel.calls.begun e (ap (λ (b : _). b.begun) new.calls)) }
    where
      idle : (b : Bool) → b ≡ true → b ≡ false → ⊥
      idle b t f = cc

  -- one pick more
  pub follows_more : (s : Clocked K) (sides : List Side) (i : ℕ) (trace : List TraceLine) (t t' : Clocked K) (side : Side) (line : TraceLine)
      → i < length sides → side ≡ get_or sides i side → Stands exec is_state room_of t.channel → Stands exec is_state room_of t'.channel
      → PicksOnce taken tells exec calls side t.channel t.clock t'.channel t'.clock line → IsServing calls t'.channel
      → Follows taken tells exec calls is_state room_of (take i sides) s trace t
      → Follows taken tells exec calls is_state room_of (take (i + 1) sides) s (trace ++ line ∷ []) t'
  follows_more s sides i trace t t' side line lt is stands stands' p serving w = let r : ℕ = p.0 in let q : Picked = picked exec calls side r t.channel in
      let next : take i sides ++ side ∷ [] ≡ take (i + 1) sides = ap (λ (x : Side). take i sides ++ x ∷ []) is ∙ sym (take_more sides i side lt) in
      record {
        readings = w.readings ++ reading_of q.reads r;
        wove = subst (λ (z : List Side × List TraceLine × PlainState). Wove taken tells exec calls is_state room_of s.channel s.clock z.0 z.1 (w.readings ++ reading_of q.reads r) z.2 t'.clock) (λ j. (next j, ap (λ (l : TraceLine). trace ++ l ∷ []) (sym p.3) j, sym p.2 j))
            (picks (take i sides) trace w.readings t.channel t.clock t'.clock side r w.wove stands (subst (λ (z : PlainState). Stands exec is_state room_of z) p.2 stands') w.serving p.1);
        serving = serving;
      }

  module _ {O : Type 0} (takes : O → List TraceLine → O → Type 0) where
    -- the first i picks are made, and their lines went out, after what had gone out when the loop began
    pub record Loops (s : Clocked K) (sides : List Side) (i : ℕ) (entry out : O) (t : Clocked K) : Type 0 where
      pub trace : List TraceLine
      pub follows : Follows taken tells exec calls is_state room_of (take i sides) s trace t
      pub went : (first : O) → takes first [] entry → takes first trace out

    pub loops_start : (s : Clocked K) (sides : List Side) (entry : O) → IsFresh s.channel → Loops s sides 0 entry entry s
    loops_start s sides entry new = record { trace = []; follows = fresh_follows s new; went = λ first h. h }

    pub loops_more : (s : Clocked K) (sides : List Side) (i : ℕ) (entry out out' : O) (t t' : Clocked K) (side : Side) (line : TraceLine) → i < length sides
        → side ≡ get_or sides i side → Stands exec is_state room_of t.channel → Stands exec is_state room_of t'.channel
        → PicksOnce taken tells exec calls side t.channel t.clock t'.channel t'.clock line → IsServing calls t'.channel
        → ((first : O) (lines : List TraceLine) → takes first lines out → takes first (lines ++ line ∷ []) out') → Loops s sides i entry out t
        → Loops s sides (i + 1) entry out' t'
    loops_more s sides i entry out out' t t' side line lt is stands stands' p serving add h = record { trace = h.trace ++ line ∷ []; follows = follows_more s sides i h.trace t t' side line lt is stands stands' p serving h.follows; went = λ first e. add first h.trace (h.went first e) }

    pub loops_end : (s : Clocked K) (sides : List Side) (i : ℕ) (first entry out : O) (t : Clocked K) → length sides ≤ i → takes first [] entry
        → Loops s sides i entry out t
        → (n : ℕ) × (trace : List TraceLine) × Follows taken tells exec calls is_state room_of (take n sides) s trace t × ((take n sides ≡ sides) × takes first trace out)
    loops_end s sides i first entry out t le e h = (i, h.trace, h.follows, (take_all i sides le, h.went first e))
