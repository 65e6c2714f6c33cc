use Rattle.std.proofs.Common.{refl, add-one}
use Rattle.protocol.specs.Reports.{filled}
use Rattle.field.proofs.Field.report.Goals as goal

pub loop-trace-init : goal.loop-trace-init
unfolding filled
loop-trace-init g c = refl

pub loop-trace-preserved : goal.loop-trace-preserved
unfolding filled
loop-trace-preserved g c = rw (add-one, c.row_of.ensures, c.loop-trace.invariant, c.from-in-loop-trace.ensures) refl
