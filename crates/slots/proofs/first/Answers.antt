use Rattle.std.proofs.Common.{◌≡◌, find, ap, ◌∙◌, rules}
use borrow.Author.Tests.{tests}
use Rattle.std.specs.Option.{option_copied, option_flatten}
use Rattle.std.proofs.lemmas.Iterator.{YieldsList-from_slice}
use Rattle.std.proofs.lemmas.Iterator.Search.{find_from_yields_List}
use Rattle.slots.specs.Entries.{hit}
use Rattle.slots.proofs.Strikes.{first_find}
use Rattle.slots.proofs.first.Goals as goal

pub returns-in_err-find : goal.returns-in_err-find
returns-in_err-find g c =
    let p = g.E.Matches.fits c.args.key.now in
    let xs = c.args.slots.now in
    let found : option_copied c.find.result ≡ find (hit p) xs =
    find_from_yields_List (hit p) _ _ c.find.result c.find.ensures.ran (YieldsList-from_slice xs cc) (λ x b q k. search (rules, tests)) in
    let read : c.from_residual.result ≡ option_flatten (option_copied c.find.result) = search rules in
    read ∙ ap option_flatten found ∙ first_find p xs

pub returns : goal.returns
returns g c =
    let p = g.E.Matches.fits c.args.key.now in
    let xs = c.args.slots.now in
    let found : option_copied c.find.result ≡ find (hit p) xs =
    find_from_yields_List (hit p) _ _ c.find.result c.find.ensures.ran (YieldsList-from_slice xs cc) (λ x b q k. search (rules, tests)) in
    let read : c.in_ok-find.field-0.now ≡ option_flatten (option_copied c.find.result) = search rules in
    read ∙ ap option_flatten found ∙ first_find p xs
