use Rattle.std.specs.String.{string_bytes}
use Rattle.pccrun_core.proofs.Tops.{asks_to_make}
use Rattle.pccrun_core.proofs.command.request_of.Goals as goal

pub returns-in-Some-calls_told : goal.returns-in-Some-calls_told
returns-in-Some-calls_told c =
    let told = c.in-Some-calls_told.ensures.right in
    asks_to_make (λ w. string_bytes w) c.args.words.now c.word-item-then-words-lt3.result c.count-item.result c.as_bytes-in-len2.result.now c.as_bytes-in-len2-2.result.now c.in-Some-calls_told.calls
    c.in-len2.len_at_least c.in-len2.len_below c.word-item-then-words-lt3.is c.count-item.is c.as_bytes-in-len2.ensures.value c.as_bytes-in-len2-2.ensures.value c.if-not-is_text.ensures told.0 told.1 told.2
