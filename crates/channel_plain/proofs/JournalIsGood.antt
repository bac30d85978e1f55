-- The journal of a channel that stands is good.
use Rattle.std.proofs.Common.{◌≡◌, ◌⊎◌, inl, inr, ℕ, Bool, List, [], ◌∷◌, ◌++◌, subst}
use Rattle.pcc_history.specs.Devices.{Device}
use Rattle.pcc_history.specs.Channel.{Exchange}
use Rattle.pcc_history.specs.Histories.{Legal}
use Rattle.rate_limit.specs.RateLimits.{WithinLimits}
use Rattle.pcc_journal.specs.Records.{exchanges_of, exchanges_of_commands, times_of}
use Rattle.pcc_steps.specs.Laws.{HistoriesAgree}
use Rattle.channel_plain.specs.Picks.{PlainState}
use Rattle.channel_core.specs.Sendings.{post_of}
use Rattle.channel_plain.specs.Standing.{Stands, asker_of, answerer_of}
use Rattle.channel_plain.specs.Good.{IsGood}

front : (exec : Device) (reports : Bool) (state : List ℕ) (xs ys : List Exchange) → Legal exec reports state (xs ++ ys) → Legal exec reports state xs
front exec reports state [] ys h = tt
front exec reports state (x ∷ xs) ys h = (h.0, h.1, front exec reports (exec state x.code x.input).state xs ys h.2)

shown : (exec : Device) (reports : Bool) (state : List ℕ) (xs ys : List Exchange) → (ys ≡ xs) ⊎ ((e : Exchange) × (ys ≡ xs ++ e ∷ []))
    → Legal exec reports state ys → Legal exec reports state xs
shown exec reports state xs ys (inl e) h = subst (λ (l : List Exchange). Legal exec reports state l) e h
shown exec reports state xs ys (inr p) h = front exec reports state xs (p.0 ∷ []) (subst (λ (l : List Exchange). Legal exec reports state l) p.1 h)

pub is_good : HistoriesAgree → (exec : Device) (is_state : List ℕ → Type 0) (room_of : List ℕ → ℕ) (s : PlainState) → Stands exec is_state room_of s
    → WithinLimits s.calls.limits (times_of s.calls.records) (post_of s.calls.sent) → IsGood exec s
is_good law exec is_state room_of s k limits = let h = law exec s.start s.words (asker_of s k.unkept) (answerer_of s) k.agree in
    record { legal = shown exec s.ask.wiring.reports s.start (exchanges_of s.calls.records) (exchanges_of_commands s.executed) h.0 h.1; executed = h.1; ahead = h.0; limits = limits }
