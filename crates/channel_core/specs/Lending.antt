-- The bytes that a command made ready lends to its caller.
use Rattle.std.specs.Prelude.{ℕ, List, length, take}
use Rattle.std.specs.Borrow.{Lends, MutBor, Fml, u8, Array}
use Rattle.pcc_history.specs.Channel.{over}
use Rattle.channel_core.specs.Readying.{ReadyCommand}
use Rattle.channel_core.specs.contracts.ready.Ready.{the_row}

-- the command with what was written over its bytes
abbrev pub with_bytes : ReadyCommand → List ℕ → ReadyCommand
with_bytes r w = record r { bytes = take (length r.bytes) (over r.bytes w) }

abbrev pub LendsBytes : MutBor ReadyCommand → MutBor (List ℕ) → Fml
LendsBytes s r = Lends the_row (Array u8 0) s r (with_bytes s.now)
