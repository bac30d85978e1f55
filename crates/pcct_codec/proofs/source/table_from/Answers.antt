use Rattle.std.proofs.Common.{◌≡◌, true, [], refl, take, drop, ap, arith}
use Rattle.std.proofs.lemmas.Grind.{common_steps}
use Rattle.pcct_codec.specs.Faults.{Gone, IsExcused, decision}
use Rattle.pcct_codec.proofs.Passing.{err_from, match_from}
use Rattle.pcct_codec.proofs.Pulling.{answer_from, end_exact, fault_exact, fault_gone, found_bytes, found_exact, found_only, found_piece, piece_few, piece_read, piece_smaller, pull_start}
use Rattle.pcct_codec.proofs.Reading.{excused_only}
use Rattle.pcct_codec.proofs.source.table_from.Goals as goal

pub loop-reader-init : goal.loop-reader-init
loop-reader-init g c = (pull_start _ _ c.new-reader.ensures.none, omega arith, refl)

pub returns-in-Ok-eq0-clause-only : goal.returns-in-Ok-eq0-clause-only
returns-in-Ok-eq0-clause-only g c =
    let none : take c.in-Ok-eq0.field-0 c.read.new.buf ≡ [] = ap (λ n. take n c.read.new.buf) c.in-Ok-eq0.field-0-test in
    let end = c.in-Ok-eq0.ensures.bytes.1 c.in-Ok-eq0.field-0-test (grind (arith, common_steps)) in
    excused_only _ _ (λ all e. rw c.finish.ensures.short (end_exact _ _ _ _ _ all c.loop-reader.invariant.0 c.in-Ok-eq0.ensures.bytes.0 none end e))

pub returns-in_err-table-in-Ok-clause-only : goal.returns-in_err-table-in-Ok-clause-only
returns-in_err-table-in-Ok-clause-only g c = λ b rest t k e.
    let read = piece_read _ _ c.read.new.buf (drop c.min-most.result c.loop-reader.buf) c.in-Ok.n c.in-Ok.ensures.bound.0 c.in-Ok.ensures.bytes.0 in
    match_from (λ v. v ≡ t) IsExcused _ _ c.from_residual.ensures.1 (excused_only _ _ (fault_exact _ _ _ _ _ _ c.loop-reader.invariant.0 read c.in_err-table-in-Ok.ensures.answer) b rest t k e)

pub returns-in_err-table-in-Ok-clause-exact : goal.returns-in_err-table-in-Ok-clause-exact
returns-in_err-table-in-Ok-clause-exact g c = λ all e.
    let read = piece_read _ _ c.read.new.buf (drop c.min-most.result c.loop-reader.buf) c.in-Ok.n c.in-Ok.ensures.bound.0 c.in-Ok.ensures.bytes.0 in
    answer_from _ _ (decision true all) c.from_residual.ensures.1 (fault_exact _ _ _ _ _ _ c.loop-reader.invariant.0 read c.in_err-table-in-Ok.ensures.answer all e)

pub returns-in_err-table-in-Ok-clause-gone : goal.returns-in_err-table-in-Ok-clause-gone
returns-in_err-table-in-Ok-clause-gone g c =
    let read = piece_read _ _ c.read.new.buf (drop c.min-most.result c.loop-reader.buf) c.in-Ok.n c.in-Ok.ensures.bound.0 c.in-Ok.ensures.bytes.0 in
    let few = piece_few c.read.new.buf (drop c.min-most.result c.loop-reader.buf) c.in-Ok.n c.wants.result c.in-Ok.ensures.bound.0 (grind (arith, common_steps)) in
    err_from (λ f. Gone f (g.S.Source.left c.args.source.now) (g.S.Source.left c.read.new.self)) _ _ c.from_residual.ensures.1 (fault_gone _ _ _ _ _ c.wants.result _ c.loop-reader.invariant.0 read (record { header = c.wants.ensures.header; table = c.wants.ensures.table }) few c.in_err-table-in-Ok.ensures.answer)

pub returns-in-Whole-clause-found : goal.returns-in-Whole-clause-found
returns-in-Whole-clause-found g c =
    found_bytes _ _ _ (found_piece _ _ _ _ c.read.new.buf _ c.in-Ok.n c.wants.result _ _ _ c.loop-reader.invariant.0 c.in-Ok.ensures.bound.0 c.in-Ok.ensures.bytes.0 (record { header = c.wants.ensures.header; table = c.wants.ensures.table }) (grind (arith, common_steps)) c.in-Whole.is c.in_ok-table-in-Ok.ensures.answer c.in_ok-table-in-Ok.ensures.whole)

pub returns-in-Whole-clause-only : goal.returns-in-Whole-clause-only
returns-in-Whole-clause-only g c =
    found_only _ _ _ (found_piece _ _ _ _ c.read.new.buf _ c.in-Ok.n c.wants.result _ _ _ c.loop-reader.invariant.0 c.in-Ok.ensures.bound.0 c.in-Ok.ensures.bytes.0 (record { header = c.wants.ensures.header; table = c.wants.ensures.table }) (grind (arith, common_steps)) c.in-Whole.is c.in_ok-table-in-Ok.ensures.answer c.in_ok-table-in-Ok.ensures.whole)

pub returns-in-Whole-clause-exact : goal.returns-in-Whole-clause-exact
returns-in-Whole-clause-exact g c =
    found_exact _ _ _ (found_piece _ _ _ _ c.read.new.buf _ c.in-Ok.n c.wants.result _ _ _ c.loop-reader.invariant.0 c.in-Ok.ensures.bound.0 c.in-Ok.ensures.bytes.0 (record { header = c.wants.ensures.header; table = c.wants.ensures.table }) (grind (arith, common_steps)) c.in-Whole.is c.in_ok-table-in-Ok.ensures.answer c.in_ok-table-in-Ok.ensures.whole)

pub loop-reader-smaller : goal.loop-reader-smaller
loop-reader-smaller g c =
    piece_smaller c.loop-reader.reader c.read.new.buf _ c.push.new.self c.in-Ok.n _ c.in_default.is c.in_ok-table-in-Ok.ensures.kept (grind (arith, common_steps)) c.in-Ok.ensures.bound.0 (c.loop-reader.invariant.0).undecided
