-- Histories of a channel: lists of exchanges, the first one first.
use Rattle.std.specs.Prelude.{◌≡◌, ℕ, Bool, List, [], ◌∷◌}
use Rattle.pcc_history.specs.Devices.{Device}
use Rattle.pcc_history.specs.Channel.{Exchange, both, over}

-- each error and each output is what the device gives for code and input, from this state on
abbrev pub Legal : Device → Bool → List ℕ → List Exchange → Type 0
Legal exec reports state [] = Unit {0}
Legal exec reports state (c ∷ cs) =
    let x = exec state c.code c.input in
    (c.error ≡ both reports x.bad) × (c.output ≡ x.space) × Legal exec reports x.state cs

-- each input is the space before it with the bytes that were asked laid over its front
abbrev pub WholeHistory : List ℕ → List Exchange → List (List ℕ) → Type 0
WholeHistory space [] [] = Unit {0}
WholeHistory space (c ∷ cs) (bytes ∷ asked) = (c.input ≡ over space bytes) × WholeHistory c.output cs asked
WholeHistory space _ _ = ⊥

-- the device's state after a history
abbrev pub state_after : Device → List ℕ → List Exchange → List ℕ
state_after exec state [] = state
state_after exec state (c ∷ cs) = state_after exec (exec state c.code c.input).state cs

-- the space after a history
abbrev pub space_after : List ℕ → List Exchange → List ℕ
space_after space [] = space
space_after space (c ∷ cs) = space_after c.output cs
