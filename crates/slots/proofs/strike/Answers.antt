use Rattle.std.proofs.Common.{◌+◌, [], ◌∷◌, is_some, sym, ap, ◌∙◌, ap₂}
use Rattle.slots.specs.Entries.{times}
use Rattle.slots.proofs.Laws.{first_test, times-struck}
use Rattle.slots.proofs.Strikes.{first_at, first_none, gap_closed, struck_at, struck_none, within}
use Rattle.slots.proofs.strike.Goals as goal

pub returns-in_err-at : goal.returns-in_err-at
returns-in_err-at g c =
    let p = g.E.Matches.fits c.args.key.now in
    let xs = c.args.slots.now in
    let none = c.in_err-at.ensures in
    let value = c.from_residual.ensures ∙ sym (first_none p xs none) in
    let after = sym (struck_none p xs none) in
    record {
      value = value;
      after = after;
      finds = ap is_some value ∙ first_test p xs;
      counts = λ q. ap₂ (λ ys o. times q ys + times q (o ∷ [])) after value ∙ times-struck p q xs;
    }

pub returns : goal.returns
returns g c =
    let p = g.E.Matches.fits c.args.key.now in
    let xs = c.args.slots.now in
    let found = c.in_ok-at.ensures in
    let value = c.take-gone.ensures.value ∙ sym (first_at p xs _ _ found) in
    let after = gap_closed xs _ _ _ c.take-gone.ensures.after (within p xs _ found) c.rotate_left.ensures.after ∙ sym (struck_at p xs _ found) in
    record {
      value = value;
      after = after;
      finds = ap is_some value ∙ first_test p xs;
      counts = λ q. ap₂ (λ ys o. times q ys + times q (o ∷ [])) after value ∙ times-struck p q xs;
    }
