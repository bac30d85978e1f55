use Rattle.std.proofs.Common.{◌≡◌, ◌≢◌, ◌<◌, ◌≤◌, ◌^◌, ℕ, List, length, sym, ap, ◌∙◌, subst, arith, false}
use Rattle.std.specs.Prelude.{Option, None}
use Rattle.pcc_journal.specs.declared.record.Record.{Record}
use Rattle.pcc_journal.specs.declared.record.Pending.{Pending}
use Rattle.channel_core.specs.declared.sent.Sent.{Sent}
use Rattle.channel_core.specs.CommandHistory.{CommandHistory}
use Rattle.channel_core.specs.Readings.{counted}
use Rattle.channel_core.specs.Sendings.{command_of}
use Rattle.channel_turns.specs.Seeing.{EndsSeen}
use Rattle.channel_turns.specs.Standing.{LinkState, Stands}
use Rattle.pcc_io.specs.LineClocks.{LineState}
use Rattle.pcc_history.specs.Channel.{over}
use Rattle.pcc_steps.specs.Asking.{Ask}
use Rattle.channel_turns.proofs.Standings.{Fitting, posted_stands, posts_left}
use Rattle.channel_turns.proofs.ends.PlainEnds.post.Goals as goal

pub invariant_of-self-2 : goal.invariant_of-self-2
invariant_of-self-2 g c = let x = c.self.inside in let exec = g.E.Executor.exec_of in let is_state = g.E.Executor.is_state in let room_of = g.E.Executor.room_of in let first : List ℕ = x.start.value.device in let opening : List ℕ = x.start.value.ask.space in let rs : List Record = x.history.records in let flight : Option Pending = command_of x.history.sent in
    let q : LinkState = c.post.new.self in let code : ℕ = c.code.result in let bytes : List ℕ = c.bytes.result.now in let steps = c.post.ensures.steps in let fs : Sent = c.fly-flight.result.sent in let cs : Pending = fs.command in
    let none : x.history.sent ≡ None = subst (λ (z : EndsSeen). z.state.history.sent ≡ None) (sym c.self.view_is) c.requires.free in
    let k : Stands exec x.head first opening is_state room_of x.link rs None x.executed = subst (λ (o : Option Sent). Stands exec x.head first opening is_state room_of x.link rs (command_of o) x.executed) none c.self.invariant.0 in
    let kind : c.args.ready.kind ≡ x.head.kind = subst (λ (z : EndsSeen). c.args.ready.kind ≡ z.state.head.kind) (sym c.self.view_is) c.requires.kind in
    let room : c.args.ready.room ≡ x.head.room = subst (λ (z : EndsSeen). c.args.ready.room ≡ z.state.head.room) (sym c.self.view_is) c.requires.room in
    let spare : 0 < x.history.spare = subst (λ (z : EndsSeen). 0 < z.state.history.spare) (sym c.self.view_is) c.requires.spare in
    let nonzero : x.link.ask.budget ≢ 0 = subst (λ (z : EndsSeen). z.state.budget ≢ 0) (sym c.self.view_is) c.requires.budget in
    let wired = k.wired.room in let typed = k.wired.kind in
    let is_bytes : bytes ≡ c.args.ready.bytes = c.bytes.ensures.value in
    let fits : length bytes ≤ x.link.ask.wiring.room = let l = ap (λ (l : List ℕ). length l) is_bytes in let f = c.code.ensures.fits in omega (arith, l, f, room, wired) in
    let items : length c.journal.result.now.items ≡ length rs = ap (λ (l : List Record). length l) c.journal.ensures.items in
    let few : x.link.ask.posts < 4096 = posts_left exec x.head first opening is_state room_of x.link rs x.executed k (let m = c.journal.ensures.most in let e = c.journal.ensures.spare in omega (arith, m, e, items, spare)) in
    let byte : x.link.ask.wiring.kind ≤ 2 → code < 256 = λ le. c.code.ensures.byte (omega (arith, le, kind, typed)) in
    let wide : code < 2 ^ 32 = c.code.type_inv in
    let some : 0 < x.link.ask.budget = omega (arith, nonzero) in
    let fitting : Fitting exec x.head first opening is_state room_of x.link code bytes = record { fits = fits; posts = few; byte = byte; wide = wide; bytes_are = c.bytes.ensures.bytes; budget = some } in
    let space : c.space.result.now ≡ x.link.ask.space = c.space.ensures ∙ (ap (λ (a : Ask). a.space) c.ask.ensures ∙ steps.space) in
    let input : cs.input ≡ over x.link.ask.space bytes = ap (λ (z : Sent). z.command.input) c.fly-flight.ensures.sent ∙ (ap (λ (l : List ℕ). over l c.args.ready.bytes) space ∙ ap (over x.link.ask.space) (sym is_bytes)) in
    let coded : cs.code ≡ code = ap (λ (z : Sent). z.command.code) c.fly-flight.ensures.sent ∙ sym c.code.ensures.code in
    let clock : c.count-reading.new.self.clock ≡ record x.caller.clock { taken = counted x.caller.clock.taken } = (λ i. (c.count-reading.ensures.count i).clock) ∙ (c.now-at.ensures.rest ∙ ap (λ (n : ℕ). record x.caller.clock { taken = n }) c.now-at.ensures.count) in (
      subst (λ (h : CommandHistory). Stands exec x.head first opening is_state room_of q h.records (command_of h.sent) false) (sym c.mark_post.ensures)
          (posted_stands exec x.head first opening is_state room_of x.link q rs cs x.executed code bytes c.post.ensures.rest steps fitting coded input k),
      record {
        limited = (λ i. (c.count-reading.ensures.count i).limits) ∙ c.self.invariant.1.limited;
        counted = (λ i. (c.count-reading.ensures.count i).readings) ∙ (ap counted c.self.invariant.1.counted ∙ ap (λ (k : LineState). k.taken) (sym clock));
      },
    )
