use Rattle.std.proofs.Common.{◌≡◌, false, is_none, is_ok, position, None, Some, sym, refl, ap, ◌∙◌, arith, rules}
use Rattle.std.proofs.lemmas.Bool.{lt-ltb, le-ltb}
use Rattle.slots.specs.Entries.{times}
use Rattle.slots.proofs.Laws.{room_from_times, times-placed}
use Rattle.slots.proofs.Places.{full_none, placed_at, placed_none, room_at}
use Rattle.slots.proofs.place.Goals as goal

pub returns-in_err-empty : goal.returns-in_err-empty
returns-in_err-empty g c =
    let xs = c.args.slots.now in
    let none : None ≡ position is_none xs = search rules in
    let full = full_none xs none in
    let refused : is_ok c.from_residual.result ≡ false = search rules in
    record {
      after = sym (placed_none c.args.entry xs none);
      test = refused ∙ sym (le-ltb _ _ full);
      room = λ q all few. absurd (omega (arith, room_from_times q xs all few));
      counts = λ q. rw refused (omega arith);
    }

pub returns : goal.returns
returns g c =
    let xs = c.args.slots.now in
    let at : Some c.in_ok-empty.empty ≡ position is_none xs = search rules in
    let room = room_at xs _ at in
    let after = placed_at c.args.entry xs _ at in
    record {
      after = after;
      test = sym (lt-ltb _ _ room);
      room = λ q all few. refl;
      counts = λ q. ap (times q) after ∙ times-placed q c.args.entry xs room;
    }
