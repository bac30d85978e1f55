use Rattle.std.proofs.Common.{◌≡◌, ◌++◌, ℕ, List, [], ◌∷◌, sym, subst, OnOk, codes}
use Rattle.pcc_text.specs.Pieces.{Words, Decimal, HexOf, spelled}
use Rattle.pcc_steps.specs.declared.wiring.Action.{Action}
use Rattle.channel_plain.specs.TraceText.{action_words}
use Rattle.channel_plain.proofs.text.put_action.Goals as goal

pub returns-in-Load : goal.returns-in-Load
returns-in-Load c = subst (λ (a : Action). OnOk c.put_pieces.result (c.put_pieces.new.out.items ≡ c.args.out.now.items ++ spelled (action_words a c.args.value))) (sym c.in-Load.is)
    (subst (λ (b : List ℕ). OnOk c.put_pieces.result (c.put_pieces.new.out.items ≡ c.args.out.now.items ++ spelled (Words (codes " load ") ∷ Decimal c.in-Load.place ∷ Words (codes " ") ∷ HexOf b ∷ []))) c.to_be_bytes.ensures c.put_pieces.ensures)

pub returns-in-Store : goal.returns-in-Store
returns-in-Store c = subst (λ (a : Action). OnOk c.put_pieces-in-Store.result (c.put_pieces-in-Store.new.out.items ≡ c.args.out.now.items ++ spelled (action_words a c.args.value))) (sym c.in-Store.is)
    (subst (λ (b : List ℕ). OnOk c.put_pieces-in-Store.result (c.put_pieces-in-Store.new.out.items ≡ c.args.out.now.items ++ spelled (Words (codes " store ") ∷ Decimal c.in-Store.place ∷ Words (codes " ") ∷ HexOf b ∷ []))) c.to_be_bytes-in-Store.ensures c.put_pieces-in-Store.ensures)

pub returns-in-Swap : goal.returns-in-Swap
returns-in-Swap c = subst (λ (a : Action). OnOk c.put_pieces-in-Swap.result (c.put_pieces-in-Swap.new.out.items ≡ c.args.out.now.items ++ spelled (action_words a c.args.value))) (sym c.in-Swap.is)
    (subst (λ (b : List ℕ × List ℕ). OnOk c.put_pieces-in-Swap.result (c.put_pieces-in-Swap.new.out.items ≡ c.args.out.now.items ++ spelled (Words (codes " swap ") ∷ Decimal c.in-Swap.place ∷ Words (codes " ") ∷ HexOf b.0 ∷ Words (codes " ") ∷ HexOf b.1 ∷ []))) (λ i. (c.to_be_bytes-in-Swap.ensures i, c.to_be_bytes-in-Swap-2.ensures i)) c.put_pieces-in-Swap.ensures)
