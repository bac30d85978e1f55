-- What records and executed commands say: exchanges of the channel, and the times of its commands.
use Rattle.std.specs.Prelude.{List, map}
use Rattle.pcc_history.specs.Channel.{Exchange}
use Rattle.rate_limit.specs.declared.Times.{Times}
use Rattle.pcc_journal.specs.declared.record.Record.{Record}
use Rattle.pcc_journal.specs.declared.command.Command.{Command}

abbrev pub exchange_of_record : Record → Exchange
exchange_of_record r = record { code = r.code; input = r.input; error = r.error; output = r.output }

-- the history of records
abbrev pub exchanges_of : List Record → List Exchange
exchanges_of records = map exchange_of_record records

abbrev pub times_of_record : Record → Times
times_of_record r = record { post = r.post; done = r.done }

-- when their commands were posted and done
abbrev pub times_of : List Record → List Times
times_of records = map times_of_record records

abbrev pub exchange_of_command : Command → Exchange
exchange_of_command c = record { code = c.code; input = c.input; error = c.error; output = c.output }

-- the history of executed commands
abbrev pub exchanges_of_commands : List Command → List Exchange
exchanges_of_commands commands = map exchange_of_command commands
