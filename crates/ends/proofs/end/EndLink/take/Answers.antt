use Rattle.std.proofs.Common.{◌<◌, sym, refl, ap, ◌∙◌, arith}
use Rattle.ends.specs.Ends.{dequeued}
use Rattle.ends.specs.Queues.{end_meaning, queue}
use Rattle.link.specs.Messages.{often}
use Rattle.link.proofs.Bags.{often-nth}
use Rattle.ends.specs.EndsLemmas.{first_same, taken_end}
use Rattle.ends.proofs.end.EndLink.take.Goals as goal

pub returns : goal.returns
returns g c =
    let offered = g.O.Offering.offered in
    let line = queue c.args.self.now in
    let message = c.in_ok-message.message in
    let at = sym c.in_ok-message.ensures in
    let waits : 0 < often message line = omega (arith, often-nth (offered line) c.args.place message at, (g.met.O.Offering.drawn line).times message) in
    let struck = c.strike.ensures in
    let answer = struck.value ∙ first_same _ _ waits in
    record {
      taken = taken_end (end_meaning offered) queue (λ _. refl) _ _ _ _ _ at answer waits struck.after;
      order = struck.after ∙ ap (λ o. dequeued o line) (sym answer);
    }
