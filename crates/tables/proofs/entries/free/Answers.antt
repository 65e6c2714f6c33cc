use Rattle.std.proofs.Common.{set, ap, ◌∙◌, arith}
use Rattle.std.proofs.lemmas.List.Edits.{map_over_more}
use Rattle.std.proofs.lemmas.List.{get_or_default}
use Rattle.tables.specs.Copies.{freed}
use Rattle.tables.proofs.entries.free.Goals as goal

pub loop-slot-preserved : goal.loop-slot-preserved
loop-slot-preserved c =
    let slots = c.loop-slot.received in
    let i = c.loop-slot.slot-index in
    ap (set slots i) c.freed.ensures
    ∙ map_over_more (freed c.args.station c.args.trace) _ slots i _ (omega arith) c.loop-slot.invariant
    (get_or_default slots i _ _ (omega arith))
