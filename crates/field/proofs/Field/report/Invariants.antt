use Rattle.std.proofs.Common.{◌≡◌}
use Rattle.protocol.specs.Reports.{filled}
use Rattle.field.proofs.Field.report.Given as goal

abbrev pub invariant-loop-trace : goal.invariant-loop-trace
invariant-loop-trace g l = l.rows ≡ filled l.self.tables l.trace l.initial.rows
