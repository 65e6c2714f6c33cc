-- Copy acks: one is sent for a due received entry, and strikes the sent entry when it is delivered.
use Rattle.std.proofs.Common.{◌≡◌, ℕ, ◌+◌, Bool, true, not, ◌&&◌, eqb, List, is_some, Some, None, Option, sym, refl, ap, ◌∙◌, subst, arith}
use Rattle.std.proofs.lemmas.Bool.{and_left, and_parts, eqb-true, not-false, not_from_true}
use Rattle.slots.specs.Entries.{first, struck, times}
use Rattle.slots.proofs.Laws.{first_found, first_passes, length-struck}
use Rattle.link.specs.Kinds.{kind_number}
use Rattle.link.specs.Meaning.{Meaning}
use Rattle.link.specs.declared.message.Kind.TheVariants.{CopyAck}
use Rattle.link.specs.declared.message.Message.{Message}
use Rattle.tables.specs.Copies.{due_from, same_hand_on}
use Rattle.tables.specs.Kept.{with_received}
use Rattle.tables.specs.declared.entries.HandOn.{HandOn}
use Rattle.tables.specs.declared.entries.Received.{Received}
use Rattle.tables.specs.declared.tables.Tables.{Tables}
use Rattle.protocol.specs.Calls.{first_refusal}
use Rattle.protocol.specs.Delivery.{delivered}
use Rattle.protocol.specs.HouseCalls.{sending_copy_ack, trace_of}
use Rattle.protocol.proofs.Checks.{no_condition}
use Rattle.days.proofs.Counted.{blocked_at, received_of, same_hand_on_is, struck_found, struck_le}
use Rattle.days.proofs.Exchange.{Exchange, ack_aside, back, exchange_keeps}
use Rattle.days.proofs.Facts.{ack_stands}
use Rattle.days.proofs.Messages.{More, ack_of, acks_alike, copy_not_ack, copy_of, less_often, more_cases, more_kind, more_often, more_other, more_same}
use Rattle.days.proofs.Pictures.{bit}
use Rattle.days.proofs.Sound.{Shaped, Sound, an_ack, owner_of}

-- the ack of a due entry is sent: the entry goes, and the ack waits
module _ (p : Received → Bool) (e : Received) (T : Tables) (bag bag' : List Message) (sound : Sound T bag) (found : first p T.received ≡ Some e) (is_due : e.due ≡ true) (more : More (ack_of e.copy) bag bag') where
  counted : (r : Received → Bool) → times r (struck p T.received) + bit (r e) ≡ times r T.received
  counted r = struck_found p r T.received e found

  acked : Exchange T bag bag' T.sent (struck p T.received)
  acked = let q = e.copy in record {
    aside = ack_aside q bag bag' more;
    sent_places = sound.shape.sent;
    received_places = length-struck p T.received ∙ sound.shape.received;
    blocked = λ s t. omega (arith, counted (blocked_at s t), ap bit (and_left (not e.due) (eqb q.receiver s && eqb q.trace t) (not_from_true e.due is_due)));
    packets = λ x. omega (arith, sound.packets x, counted (received_of x), more_often (ack_of x) (ack_of q) bag bag' more, ap bit (acks_alike x q), more_other (copy_of x) (ack_of q) bag bag' more (copy_not_ack x q));
    senders = sound.senders;
    shaped = more_cases (Shaped (owner_of T)) (ack_of q) bag bag' more (an_ack q refl) sound.shaped;
    copies = omega (arith, sound.copies, counted (λ _. true), more_kind 1 (ack_of q) bag bag' more, more_kind 2 (ack_of q) bag bag' more);
  }

  acked_keeps : Sound (with_received (struck p T.received) T) bag'
  acked_keeps = exchange_keeps T bag bag' T.sent (struck p T.received) T.next sound acked

-- the entry that is found tells the ack that is posted
module _ (s p k : ℕ) (T : Tables) (bag bag' : List Message) (sound : Sound T bag) where
  ack_by : (entry : Option Received) → first (due_from s p k) T.received ≡ entry → is_some entry ≡ true → More (record { kind = kind_number CopyAck; sender = s; receiver = p; trace = trace_of entry; packet = k }) bag bag' → Sound (with_received (struck (due_from s p k) T.received) T) bag'
  ack_by None found some' more = let z : ◌≡◌ {A = ℕ} 0 1 = ap bit some' in absurd (omega arith)
  ack_by (Some e) found some' more =
      let q = e.copy in
      let a = and_parts e.due (eqb q.receiver s && (eqb q.sender p && eqb q.packet k)) (first_passes (due_from s p k) T.received e found) in
      let b = and_parts (eqb q.receiver s) (eqb q.sender p && eqb q.packet k) a.1 in
      let c = and_parts (eqb q.sender p) (eqb q.packet k) b.1 in
      let r = eqb-true q.receiver s b.0 in
      let w = eqb-true q.sender p c.0 in
      let n = eqb-true q.packet k c.1 in
      let is : ack_of q ≡ record { kind = kind_number CopyAck; sender = s; receiver = p; trace = q.trace; packet = k } =
      λ i. record { kind = kind_number CopyAck; sender = r i; receiver = w i; trace = q.trace; packet = n i } in
      acked_keeps (due_from s p k) e T bag bag' sound found a.0 (subst (λ m. More m bag bag') (sym is) more)

pub send_copy_ack_keeps : (s p k : ℕ) (T : Tables) (link : Meaning) (bag' : List Message) → Sound T link.bag → first_refusal (sending_copy_ack s p k T link).checks ≡ None → More (record { kind = kind_number CopyAck; sender = s; receiver = p; trace = trace_of (first (due_from s p k) T.received); packet = k }) link.bag bag' → Sound (sending_copy_ack s p k T link).after bag'
send_copy_ack_keeps s p k T link bag' sound passed more =
    let c = no_condition (sending_copy_ack s p k T link).checks passed in
    let entry = first (due_from s p k) T.received in
    ack_by s p k T link.bag bag' sound entry refl (not-false (is_some entry) c.1.0) more

-- an ack is delivered: the sent entry goes
pub copy_ack_keeps : (q : HandOn) (T : Tables) (bag bag' : List Message) → Sound T bag → More (ack_of q) bag' bag → Sound (delivered T (ack_of q) (Some CopyAck)) bag'
copy_ack_keeps q T bag bag' sound more =
    let p = same_hand_on q in
    let stood = ack_stands T bag sound q (omega (arith, more_same (ack_of q) bag' bag more)) in
    let found = first_found p T.sent stood in
    let is = same_hand_on_is q found.0 (first_passes p T.sent found.0 found.1) in
    let counted : (r : HandOn → Bool) → times r (struck p T.sent) + bit (r q) ≡ times r T.sent =
    λ r. subst (λ h. times r (struck p T.sent) + bit (r h) ≡ times r T.sent) is (struck_found p r T.sent found.0 found.1) in
    let all_counted = counted (λ (h : HandOn). true) in
    exchange_keeps T bag bag' (struck p T.sent) T.received T.next sound (record {
      aside = back bag' bag (ack_aside q bag' bag more);
      sent_places = length-struck p T.sent ∙ sound.shape.sent;
      received_places = sound.shape.received;
      blocked = λ _ _. refl;
      packets = λ x. omega (arith, sound.packets x, counted (same_hand_on x), more_often (ack_of x) (ack_of q) bag' bag more, ap bit (acks_alike x q), more_other (copy_of x) (ack_of q) bag' bag more (copy_not_ack x q));
      senders = λ x some'. sound.senders x (omega (arith, struck_le p (same_hand_on x) T.sent));
      shaped = λ m some'. sound.shaped m (less_often m (ack_of q) bag' bag more some');
      copies = omega (arith, sound.copies, all_counted, more_kind 1 (ack_of q) bag' bag more, more_kind 2 (ack_of q) bag' bag more);
    })
