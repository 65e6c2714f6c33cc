use Rattle.std.proofs.Common.{◌≡◌, rules, length, sym, ap, ◌∙◌, subst}
use Rattle.slots.specs.Entries.{Packed, entries}
use Rattle.slots.proofs.Laws.{entries-placed, length-placed, packed_placed}
use Rattle.places.specs.Posting.{end_gate}
use Rattle.link.specs.Gates.{open_gate}
use Rattle.places.proofs.Room.{room_open}
use Rattle.places.proofs.Places.post.Goals as goal

pub invariant_of-self : goal.invariant_of-self
invariant_of-self c =
    let before = c.args.self.now in
    let after = c.place.ensures.after in
    record {
      sized = ap length after ∙ length-placed _ _ ∙ before.sized;
      packed = subst Packed (sym after) (packed_placed _ _ before.packed);
    }

pub returns-clause-order : goal.returns-clause-order
returns-clause-order c =
    let before = c.args.self.now in
    let xs = before.slots in
    let is : end_gate (entries xs) c.args.message.sender ≡ open_gate = search rules in
    ap entries c.place.ensures.after ∙ entries-placed _ _ before.packed (room_open xs _ before.sized is)
