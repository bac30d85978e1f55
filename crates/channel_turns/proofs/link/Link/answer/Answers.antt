use Rattle.std.proofs.Common.{rules, ◌≡◌, ℕ, List, ◌++◌, length, take, drop, sym, ap, ◌∙◌, subst}
use Rattle.std.specs.Prelude.{Some}
use Rattle.channel_turns.specs.WordRuns.{AnswerKeeps}
use Rattle.channel_turns.specs.Standing.{LinkState}
use Rattle.channel_turns.proofs.Standings.{whole_words}
use Rattle.channel_turns.proofs.link.Link.answer.Goals as goal

-- the words were lent out whole
pub returns-clause-keeps : goal.returns-clause-keeps
returns-clause-keeps g c = let x = c.self.inside in let exec = g.E.Executor.exec_of in let is_state = g.E.Executor.is_state in let room_of = g.E.Executor.room_of in let r = c.answer_run in
    let n : x.words.len ≡ length x.words.items = search rules in let same : c.deref_mut.result.now ≡ x.words.items = c.deref_mut.ensures.value in
    let long : length r.new.words ≡ length x.words.items = r.ensures.long ∙ ap (λ (l : List ℕ). length l) same in
    let words : take x.words.len (r.new.words ++ drop (length r.new.words) x.words.items) ≡ r.new.words = whole_words x.words.len r.new.words x.words.items n long in
    subst (λ (z : LinkState). AnswerKeeps exec is_state room_of z.words z.answer z.device (take x.words.len (r.new.words ++ drop (length r.new.words) x.words.items)) r.new.answer (g.E.Executor.state r.new.device) (Some r.result)) c.self.view_is
    (subst (λ (l : List ℕ). AnswerKeeps exec is_state room_of x.words.items x.answer (g.E.Executor.state x.device) l r.new.answer (g.E.Executor.state r.new.device) (Some r.result)) (sym words)
    (subst (λ (l : List ℕ). AnswerKeeps exec is_state room_of l x.answer (g.E.Executor.state x.device) r.new.words r.new.answer (g.E.Executor.state r.new.device) (Some r.result)) same r.ensures.keeps))
