use Rattle.std.proofs.Common.{ℕ, cond, refl, ◌∙◌, arith, rules}
use borrow.Author.Tests.{tests}
use Rattle.std.proofs.lemmas.Iterator.{YieldsList-from_map, YieldsList-from_range}
use Rattle.std.proofs.lemmas.Iterator.Consumers.{fits_by_from_yields_list, sum_by_from_yields_List}
use Rattle.std.proofs.lemmas.List.Sums.{count_by-le-length}
use Rattle.std.specs.List.{range_with_len}
use Rattle.tables.specs.Kept.{cell_at}
use Rattle.tables.proofs.Listing.{listed_counted}
use Rattle.tables.proofs.tables.Tables.listed.Goals as goal

pub sum-requires-clause-fits : goal.sum-requires-clause-fits
sum-requires-clause-fits c =
    let lists = λ (s : ℕ). (cell_at c.args.self.now s c.args.trace).listed in
    fits_by_from_yields_list (λ s. cond (lists s) 1 0) (range_with_len 0 16) c.map.result 256
    (YieldsList-from_map _ (λ s. cond (lists s) 1 0) (YieldsList-from_range 0 16 16 c.map.ensures.source refl) c.map.ensures.closure (λ x r q k. search (rules, tests)))
    (omega (arith, count_by-le-length lists (range_with_len 0 16)))

pub returns : goal.returns
returns c =
    let lists = λ (s : ℕ). (cell_at c.args.self.now s c.args.trace).listed in
    sum_by_from_yields_List (λ s. cond (lists s) 1 0) (range_with_len 0 16) c.map.result _ c.sum.ensures.ran
    (YieldsList-from_map _ (λ s. cond (lists s) 1 0) (YieldsList-from_range 0 16 16 c.map.ensures.source refl) c.map.ensures.closure (λ x r q k. search (rules, tests)))
    ∙ listed_counted c.args.self.now c.args.trace 16
