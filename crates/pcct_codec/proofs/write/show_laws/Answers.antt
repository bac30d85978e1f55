use Rattle.pcct_codec.proofs.Shown.{build_of_show, every_table, every_text, show_of_build}
use Rattle.pcct_codec.proofs.write.show_laws.Goals as goal

pub returns-clause-build_of_show : goal.returns-clause-build_of_show
returns-clause-build_of_show c = build_of_show

pub returns-clause-show_of_build : goal.returns-clause-show_of_build
returns-clause-show_of_build c = show_of_build

pub returns-clause-every_table : goal.returns-clause-every_table
returns-clause-every_table c = every_table

pub returns-clause-every_text : goal.returns-clause-every_text
returns-clause-every_text c = every_text
