use Rattle.std.proofs.Common.{◌≡◌}
use Rattle.pcct_codec.specs.declared.fault.TableFault.TheVariants.{ReadFault}
use Rattle.pcct_codec.proofs.Cutting.{piece_read}
use Rattle.pcct_codec.proofs.reader.TableReader.push.Goals as goal

pub returns-in-Err-clause-in_memory : goal.returns-in-Err-clause-in_memory
returns-in-Err-clause-in_memory c = λ e.
    let same : c.in-Err.fault ≡ ReadFault = cc in
    piece_read _ _ c.in-Err.ensures.answer same
