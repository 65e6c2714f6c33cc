-- A hand-on: the sender holds the trace; a sent entry is added, and its copy waits.
use Rattle.std.proofs.Common.{◌≡◌, ℕ, ◌+◌, ◌<◌, Bool, true, ◌&&◌, List, length, None, Option, refl, ap, ◌∙◌, subst, ⊎_elim, arith}
use Rattle.std.proofs.lemmas.Bool.{and_parts, cases_Bool, eqb-false, ltb-true, not-false}
use Rattle.slots.specs.Entries.{placed, times}
use Rattle.slots.proofs.Laws.{length-placed, room_from_times, times-placed}
use Rattle.link.specs.Meaning.{Meaning}
use Rattle.link.specs.declared.message.Message.{Message}
use Rattle.cells.specs.Cells.{holds}
use Rattle.tables.specs.Copies.{same_hand_on}
use Rattle.tables.specs.Kept.{cell_at, next_packet, with_sent, with_spent}
use Rattle.tables.specs.declared.entries.HandOn.{HandOn}
use Rattle.tables.specs.declared.tables.Tables.{Tables}
use Rattle.protocol.specs.Calls.{first_refusal}
use Rattle.protocol.specs.Known.{in_field}
use Rattle.protocol.specs.UserCalls.{handing_on, number}
use Rattle.protocol.proofs.Checks.{no_condition}
use Rattle.days.proofs.Counted.{same_hand_on_is, times_one}
use Rattle.days.proofs.Exchange.{Exchange, copy_aside, exchange_keeps}
use Rattle.days.proofs.Messages.{More, ack_not_copy, ack_of, copies_alike, copy_of, more_cases, more_kind, more_often, more_other}
use Rattle.days.proofs.Pictures.{bit}
use Rattle.days.proofs.Sound.{Shaped, Sound, Standing, a_copy, owner_of}
use Rattle.days.proofs.Using.{below}

-- placing where a count of all leaves room: every test counts the new entry besides
pub placed_counts : {E : Type 0} (e : E) (xs : List (Option E)) → length xs ≡ 64 → times (λ _. true) xs < 64 → (p : E → Bool) → times p (placed e xs) ≡ times p xs + bit (p e)
placed_counts {E} e xs places few p =
    let room = room_from_times (λ (x : E). true) xs (λ _. refl) (omega arith) in
    times-placed p e xs room ∙ ap (λ n. times p xs + n) (times_one p e)

module _ (q : HandOn) (T : Tables) (bag bag' : List Message) (sound : Sound T bag) (standing : Standing T q) (room : times (λ _. true) T.sent < 64) (more : More (copy_of q) bag bag') where
  counted : (p : HandOn → Bool) → times p (placed q T.sent) ≡ times p T.sent + bit (p q)
  counted = placed_counts q T.sent sound.shape.sent room

  -- the new entry, or one that stood before
  all_stand : (p : HandOn) → 0 < times (same_hand_on p) (placed q T.sent) → Standing T p
  all_stand p some' = ⊎_elim
      (λ yes'. subst (Standing T) (same_hand_on_is p q yes') standing)
      (λ no'. sound.senders p (omega (arith, counted (same_hand_on p), ap bit no')))
      (cases_Bool (same_hand_on p q))

  entered : Exchange T bag bag' (placed q T.sent) T.received
  entered = record {
    aside = copy_aside q bag bag' more;
    sent_places = length-placed q T.sent ∙ sound.shape.sent;
    received_places = sound.shape.received;
    blocked = λ _ _. refl;
    packets = λ p. omega (arith, sound.packets p, counted (same_hand_on p), more_often (copy_of p) (copy_of q) bag bag' more, ap bit (copies_alike p q), more_other (ack_of p) (copy_of q) bag bag' more (ack_not_copy p q));
    senders = all_stand;
    shaped = more_cases (Shaped (owner_of T)) (copy_of q) bag bag' more (a_copy q refl) sound.shaped;
    copies = omega (arith, sound.copies, counted (λ _. true), more_kind 1 (copy_of q) bag bag' more, more_kind 2 (copy_of q) bag bag' more);
  }

  pub entered_keeps : (s : ℕ) → Sound (with_spent s (with_sent (placed q T.sent) T)) bag'
  entered_keeps s = exchange_keeps T bag bag' (placed q T.sent) T.received _ sound entered

pub hand_on_keeps : (s d t : ℕ) (T : Tables) (link : Meaning) (bag' : List Message) → Sound T link.bag → first_refusal (handing_on s d t T link).checks ≡ None → More (copy_of (record { packet = number (next_packet T s); sender = s; receiver = d; trace = t })) link.bag bag' → Sound (handing_on s d t T link).after bag'
hand_on_keeps s d t T link bag' sound passed more =
    let c = no_condition (handing_on s d t T link).checks passed in
    let q : HandOn = record { packet = number (next_packet T s); sender = s; receiver = d; trace = t } in
    let ends = and_parts (in_field T s) (in_field T d) (not-false (in_field T s && in_field T d) c.0) in
    let standing : Standing T q = record {
      receiver = ltb-true d T.stations ends.1;
      apart = eqb-false s d c.1.1.0;
      held = not-false (holds (cell_at T s t)) c.1.1.1.0;
    } in
    let room = below (times (λ (h : HandOn). true) T.sent) 64 c.1.1.1.1.0 in
    entered_keeps q T link.bag bag' sound standing room more s
