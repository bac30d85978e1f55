use Rattle.std.proofs.Common.{◌≡◌, ◌++◌, sym, subst, OnOk}
use Rattle.pcc_text.specs.Pieces.{spelled}
use Rattle.channel_plain.specs.declared.trace.TraceEnd.{TraceEnd}
use Rattle.channel_plain.specs.TraceText.{end_words}
use Rattle.channel_plain.proofs.text.put_end.Goals as goal

pub returns-in-Posted : goal.returns-in-Posted
returns-in-Posted c = subst (λ (e : TraceEnd). OnOk c.put_pieces-in-Posted.result (c.put_pieces-in-Posted.new.out.items ≡ c.args.out.now.items ++ spelled (end_words e))) (sym c.in-Posted.is) c.put_pieces-in-Posted.ensures

pub returns-in-Clear : goal.returns-in-Clear
returns-in-Clear c = subst (λ (e : TraceEnd). OnOk c.put_pieces-in-Clear.result (c.put_pieces-in-Clear.new.out.items ≡ c.args.out.now.items ++ spelled (end_words e))) (sym c.in-Clear.is) c.put_pieces-in-Clear.ensures

pub returns-in-TimedOut : goal.returns-in-TimedOut
returns-in-TimedOut c = subst (λ (e : TraceEnd). OnOk c.put_pieces-in-TimedOut.result (c.put_pieces-in-TimedOut.new.out.items ≡ c.args.out.now.items ++ spelled (end_words e))) (sym c.in-TimedOut.is) c.put_pieces-in-TimedOut.ensures

pub returns-in-TooSoon : goal.returns-in-TooSoon
returns-in-TooSoon c = subst (λ (e : TraceEnd). OnOk c.put_pieces-in-TooSoon.result (c.put_pieces-in-TooSoon.new.out.items ≡ c.args.out.now.items ++ spelled (end_words e))) (sym c.in-TooSoon.is) c.put_pieces-in-TooSoon.ensures

pub returns-in-BadCode : goal.returns-in-BadCode
returns-in-BadCode c = subst (λ (e : TraceEnd). OnOk c.put_pieces-in-BadCode.result (c.put_pieces-in-BadCode.new.out.items ≡ c.args.out.now.items ++ spelled (end_words e))) (sym c.in-BadCode.is) c.put_pieces-in-BadCode.ensures

pub returns-in-TooLong : goal.returns-in-TooLong
returns-in-TooLong c = subst (λ (e : TraceEnd). OnOk c.put_pieces-in-TooLong.result (c.put_pieces-in-TooLong.new.out.items ≡ c.args.out.now.items ++ spelled (end_words e))) (sym c.in-TooLong.is) c.put_pieces-in-TooLong.ensures
