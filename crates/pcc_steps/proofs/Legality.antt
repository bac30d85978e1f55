-- Histories that grow at their end.
use Rattle.std.proofs.Common.{◌≡◌, ℕ, Bool, List, [], ◌∷◌, ◌++◌, refl}
use Rattle.pcc_exec.specs.Execution.{IsSpace}
use Rattle.pcc_history.specs.Devices.{Device}
use Rattle.pcc_history.specs.Channel.{Exchange, exchange_of}
use Rattle.pcc_history.specs.Histories.{Legal, state_after}
use Rattle.pcc_steps.specs.Agree.{HasRoom}

pub legal_more : (exec : Device) (r : Bool) (d : List ℕ) (h : List Exchange) (code : ℕ) (input : List ℕ) → Legal exec r d h
    → Legal exec r d (h ++ exchange_of exec r (state_after exec d h) code input ∷ [])
legal_more exec r d [] code input l = (refl, refl, tt)
legal_more exec r d (c ∷ h) code input l = (l.0, l.1, legal_more exec r (exec d c.code c.input).state h code input l.2)

pub state_more : (exec : Device) (d : List ℕ) (h : List Exchange) (e : Exchange)
    → state_after exec d (h ++ e ∷ []) ≡ (exec (state_after exec d h) e.code e.input).state
state_more exec d [] e = refl
state_more exec d (c ∷ h) e = state_more exec (exec d c.code c.input).state h e

pub room_more : (room : ℕ) (h : List Exchange) (e : Exchange) → HasRoom room h → IsSpace room e.input → IsSpace room e.output → HasRoom room (h ++ e ∷ [])
room_more room [] e r i o = (i, o, tt)
room_more room (c ∷ h) e r i o = (r.0, r.1, room_more room h e r.2 i o)

-- the device stays in a state that it can be in
pub state_kept : (exec : Device) (is_state : List ℕ → Type 0) (room : ℕ)
    → ((d : List ℕ) (code : ℕ) (s : List ℕ) → is_state d → IsSpace room s → is_state (exec d code s).state × IsSpace room (exec d code s).space)
    → (d : List ℕ) (h : List Exchange) → is_state d → HasRoom room h → is_state (state_after exec d h)
state_kept exec is_state room law d [] ok r = ok
state_kept exec is_state room law d (c ∷ h) ok r = state_kept exec is_state room law (exec d c.code c.input).state h (law d c.code c.input ok r.0).0 r.2
