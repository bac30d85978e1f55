use Rattle.std.proofs.Common.{refl, ap}
use Rattle.std.specs.Prelude.{codes}
use Rattle.cppc_calls.specs.declared.wish.SetRefusal.TheVariants.{NoRegister, TooWide, AboveHighest, MinAboveDesired}
use Rattle.script_run.specs.ReplyText.{number_after, numbers_after}
use Rattle.script_run.proofs.Replies.{refusal_put}
use Rattle.script_run.proofs.reply.put_refusal.Goals as goal

pub returns-in-NoRegister : goal.returns-in-NoRegister
returns-in-NoRegister c = refusal_put c.put_number_after.result c.args.line c.args.why (NoRegister c.in-NoRegister.entry) (number_after c.args.line (codes " no register ") c.from.result) c.args.out.now.items c.put_number_after.new.out.items
    c.in-NoRegister.is (ap (number_after c.args.line (codes " no register ")) c.from.ensures) c.put_number_after.ensures

pub returns-in-TooWide : goal.returns-in-TooWide
returns-in-TooWide c = refusal_put c.put_number_after-in-TooWide.result c.args.line c.args.why (TooWide c.in-TooWide.entry) (number_after c.args.line (codes " too wide ") c.from-in-TooWide.result) c.args.out.now.items c.put_number_after-in-TooWide.new.out.items
    c.in-TooWide.is (ap (number_after c.args.line (codes " too wide ")) c.from-in-TooWide.ensures) c.put_number_after-in-TooWide.ensures

pub returns-in-AboveHighest : goal.returns-in-AboveHighest
returns-in-AboveHighest c = refusal_put c.put_numbers_after-in-AboveHighest.result c.args.line c.args.why (AboveHighest c.in-AboveHighest.value c.in-AboveHighest.highest) (numbers_after c.args.line (codes " above highest ") c.in-AboveHighest.value c.in-AboveHighest.highest) c.args.out.now.items c.put_numbers_after-in-AboveHighest.new.out.items
    c.in-AboveHighest.is refl c.put_numbers_after-in-AboveHighest.ensures

pub returns-in-MinAboveDesired : goal.returns-in-MinAboveDesired
returns-in-MinAboveDesired c = refusal_put c.put_numbers_after-in-MinAboveDesired.result c.args.line c.args.why (MinAboveDesired c.in-MinAboveDesired.min c.in-MinAboveDesired.desired) (numbers_after c.args.line (codes " min above desired ") c.in-MinAboveDesired.min c.in-MinAboveDesired.desired) c.args.out.now.items c.put_numbers_after-in-MinAboveDesired.new.out.items
    c.in-MinAboveDesired.is refl c.put_numbers_after-in-MinAboveDesired.ensures
