use Rattle.std.proofs.Common.{refl}
use Rattle.ends.specs.Queues.{end_meaning, queue}
use Rattle.ends.specs.EndsLemmas.{posted_end}
use Rattle.ends.proofs.end.EndLink.post.Goals as goal

pub returns-clause-posted : goal.returns-clause-posted
returns-clause-posted g c =
    let done = c.post.ensures in
    let offering = c.args.self.now.offering in
    let posted =
    posted_end (end_meaning g.O.Offering.offered) queue (λ _. refl) _ _ _ _ done.order
    (λ refused i. record { places = done.same refused i; offering = offering }) in
    rw (← done.value) posted
