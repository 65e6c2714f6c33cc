use Rattle.std.proofs.Common.{length, refl, ap, ◌∙◌, rules}
use borrow.Author.Tests.{tests}
use Rattle.std.proofs.lemmas.Iterator.{YieldsList-from_range}
use Rattle.std.proofs.lemmas.Iterator.Consumers.{YieldsList-from_filter_map, count_from_yields_List}
use Rattle.ends.specs.Ends.{front_at}
use Rattle.ends.proofs.Fronts.{fronts_of_slots}
use Rattle.ends.proofs.row.FrontsOffering.offers.Goals as goal

pub returns : goal.returns
returns c =
    let xs = c.args.places.now.slots in
    count_from_yields_List c.filter_map.result _ c.count.ensures.ran
    (YieldsList-from_filter_map _ (front_at xs) (YieldsList-from_range 0 128 128 c.filter_map.ensures.source refl) c.filter_map.ensures.closure (λ x r q k. search (rules, tests)))
    ∙ ap length (fronts_of_slots xs 128 c.args.places.now.sized)
