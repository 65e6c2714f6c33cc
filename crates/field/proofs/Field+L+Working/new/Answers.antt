-- The field that is made starts every day well, and a day that starts well goes well.
use Rattle.std.proofs.Common.{◌≡◌, [], ap₂, rules, ◌∙◌}
use Rattle.link.specs.Meaning.{Lawful, Meaning}
use Rattle.tables.specs.Kept.{rigged}
use Rattle.days.proofs.EveryDay.{Well, all_stay_in_place, few_ever_wait, lists_stay_exact, no_list_empties_early, well_at_dawn}
use Rattle.field.proofs.Field+L+Working.new.Given.{Over}
use Rattle.field.proofs.Field+L+Working.new.Goals as goal

module _ (g : Over) (c : goal.After-new g) where
  well : (link : Meaning) → link.bag ≡ [] → Lawful link → Well (record { tables = c.new.result; link = link })
  well link cleared lawful =
      let rigged' = c.new.ensures ∙ ap₂ rigged c.stations.ensures c.first.ensures in
      well_at_dawn _ _ _ c.args.rigging.few rigged' cleared lawful

pub returns-clause-early : goal.returns-clause-early
returns-clause-early g c = no_list_empties_early _ (well g c _ (search rules) (g.met.L.Link.lawful _))

pub returns-clause-place : goal.returns-clause-place
returns-clause-place g c = all_stay_in_place _ (well g c _ (search rules) (g.met.L.Link.lawful _))

pub returns-clause-exact : goal.returns-clause-exact
returns-clause-exact g c = lists_stay_exact _ (well g c _ (search rules) (g.met.L.Link.lawful _))

pub returns-clause-few : goal.returns-clause-few
returns-clause-few g c = few_ever_wait _ (well g c _ (search rules) (g.met.L.Link.lawful _))
