use Rattle.std.proofs.Common.{length, sym, ap, ◌∙◌, subst}
use Rattle.slots.specs.Entries.{Packed, entries}
use Rattle.slots.proofs.Laws.{entries-struck, length-struck, packed_struck}
use Rattle.link.specs.Messages.{same}
use Rattle.places.proofs.Places.strike.Goals as goal

pub invariant_of-self : goal.invariant_of-self
invariant_of-self c =
    let before = c.args.self.now in
    let after = c.strike.ensures.after in
    record {
      sized = ap length after ∙ length-struck _ _ ∙ before.sized;
      packed = subst Packed (sym after) (packed_struck _ _ before.packed);
    }

pub returns : goal.returns
unfolding same
returns c = record {
  value = c.strike.ensures.value;
  after = ap entries c.strike.ensures.after ∙ entries-struck _ _;
}
