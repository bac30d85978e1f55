use Rattle.std.proofs.Common.{arith}
use Rattle.std.proofs.lemmas.Grind.{common_steps}
use Rattle.byteorder.proofs.Bytes.{take-bytes_low_first}
use Rattle.pcct_table.specs.Values.{number_bytes}
use Rattle.pcct_table.specs.ShowReading.{read_number}
use Rattle.pcct_table.proofs.words.read_number.Goals as goal

pub returns : goal.returns
unfolding read_number number_bytes
returns c = grind (arith, common_steps, take-bytes_low_first 0 8 c.args.width c.in-Some.n c.requires)
