use Rattle.std.proofs.Common.{refl, ap, ◌∙◌, arith}
use Rattle.std.proofs.lemmas.List.{take_all}
use Rattle.slots.specs.Entries.{entries, times}
use Rattle.slots.proofs.Counts.{times_more}
use Rattle.slots.proofs.count.Goals as goal
use Rattle.slots.proofs.count.Goals.{then-hits, else-hits}

pub loop-slot-preserved : goal.loop-slot-preserved
loop-slot-preserved g c =
    let more = times_more (g.E.Matches.fits c.args.key.now) c.args.slots.now c.loop-slot.slot-index c.slot-item.result c.loop-slot-test.true c.slot-item.is in
    elim c.if-hits.branch [
      | then-hits w ↦ let here = rw (← w.if-hits.ensures) at more in omega (arith, w.n-is)
      | else-hits w ↦ let here = rw (← w.if-hits.ensures) at more in omega (arith, w.n-is)
    ]

pub returns : goal.returns
returns g c =
    c.loop-slot.invariant.1 ∙ ap (times (g.E.Matches.fits c.args.key.now)) (take_all _ _ c.loop-slot-test.false)

pub loop-slot-init : goal.loop-slot-init
unfolding times entries
loop-slot-init g c = (omega arith, refl)
