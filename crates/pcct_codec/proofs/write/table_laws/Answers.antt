use Rattle.pcct_codec.proofs.Headers.{one_table}
use Rattle.pcct_codec.proofs.Writing.{one_table_spelling}
use Rattle.pcct_codec.proofs.write.table_laws.Goals as goal

pub returns-clause-one_spelling : goal.returns-clause-one_spelling
returns-clause-one_spelling c = one_table_spelling

pub returns-clause-one_table : goal.returns-clause-one_table
returns-clause-one_table c = one_table
