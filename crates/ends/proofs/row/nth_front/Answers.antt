use Rattle.std.proofs.Common.{◌≡◌, ◌∷◌, ◌+◌, Some, sym, ap, ap₂, ◌∙◌, arith, rules}
use Rattle.std.specs.List.{cons_option, slice_get}
use Rattle.std.proofs.lemmas.Option.{gets}
use Rattle.ends.specs.Ends.{front_at}
use Rattle.ends.proofs.Fronts.{fronts_end, fronts_from, fronts_next, fronts_start}
use Rattle.ends.proofs.row.nth_front.Goals as goal
use Rattle.ends.proofs.row.nth_front.Goals.{in-Some+else-left-eq0, in_default}

pub loop-i-init : goal.loop-i-init
loop-i-init c = ap (λ ms. slice_get ms c.args.place) (sym (fronts_start c.args.slots.now))

pub returns-then-left-eq0 : goal.returns-then-left-eq0
returns-then-left-eq0 c =
    let xs = c.args.slots.now in
    let i = c.loop-i.i in
    let offered : front_at xs i ≡ Some c.in-Some.message = search rules in
    let here : fronts_from xs i ≡ c.in-Some.message ∷ fronts_from xs (i + 1) =
    fronts_next xs i (omega arith) ∙ ap (λ o. cons_option o (fronts_from xs (i + 1))) offered in
    sym (c.loop-i.invariant ∙ ap₂ slice_get here c.if-left-eq0.true)

pub loop-i-preserved : goal.loop-i-preserved
loop-i-preserved c =
    let next = fronts_next c.args.slots.now c.loop-i.i (omega arith) in
    elim c.match-front.branch [
      | in-Some+else-left-eq0 w ↦ grind (arith, gets, next, c.loop-i.invariant, c.front.ensures, w.left-is)
      | in_default w ↦ grind (arith, gets, next, c.loop-i.invariant, c.front.ensures, w.left-is)
    ]

pub returns : goal.returns
returns c = sym (c.loop-i.invariant ∙ ap (λ ms. slice_get ms c.loop-i.left) (fronts_end c.args.slots.now c.loop-i.i c.loop-i-test.false))
