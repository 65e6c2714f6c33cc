use Rattle.std.proofs.Common.{◌≡◌, sym, ◌∙◌, rules}
use Rattle.std.specs.List.{slice_get}
use Rattle.std.specs.Option.{option_flatten}
use Rattle.std.proofs.lemmas.Option.{gets}
use Rattle.slots.proofs.Laws.{get_packed}
use Rattle.places.proofs.Places.at.Goals as goal

pub returns : goal.returns
returns c =
    let read : c.flatten.result ≡ option_flatten (slice_get c.args.self.now.slots c.args.place) = search (rules, gets) in
    read ∙ sym (get_packed _ _ c.args.self.now.packed)
