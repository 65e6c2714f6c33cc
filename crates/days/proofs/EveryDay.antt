-- Every call of a working field keeps it sound, and so does every day.
use Rattle.std.proofs.Common.{◌≡◌, ℕ, ◌<◌, ◌≤◌, [], Some, None, Option, sym, refl, subst, arith}
use Rattle.std.specs.List.{slice_get}
use Rattle.link.specs.Kinds.{kind_of}
use Rattle.link.specs.Meaning.{Lawful, Meaning}
use Rattle.link.specs.Messages.{often}
use Rattle.link.specs.declared.message.Message.{Message}
use Rattle.link.proofs.Bags.{often-nth}
use Rattle.cells.specs.declared.Duty.{Duty}
use Rattle.cells.specs.declared.Duty.TheVariants.{Clean, CleanAck, Dirty, DirtyAck}
use Rattle.tables.specs.Kept.{rigged}
use Rattle.tables.specs.declared.tables.Tables.{Tables}
use Rattle.protocol.specs.Calls.{Call, first_refusal}
use Rattle.protocol.specs.Delivery.{delivered, delivering_offer}
use Rattle.protocol.specs.HouseCalls.{sending, sending_copy_ack}
use Rattle.protocol.specs.Refusals.{Fault}
use Rattle.protocol.specs.UserCalls.{dropping, erasing, giving_back, handing_on, making_use, opening}
use Rattle.days.specs.Days.{Called, Day, LeadsBy, OnEveryDay, Radioed, Situation, acks_copy, begins, delivers, drops, erases, gives_back, goes_on, hands_on, opens, sends, uses}
use Rattle.days.specs.Promises.{AllInPlace, FewWait, ListsExact, NoListEmptyEarly}
use Rattle.days.proofs.Acking.{copy_ack_keeps, send_copy_ack_keeps}
use Rattle.days.proofs.Arriving.{clean_ack_keeps, clean_keeps, dirty_ack_keeps, dirty_keeps}
use Rattle.days.proofs.Consequences.{few_wait, lists_exact, never_early}
use Rattle.days.proofs.Copying.{copy_keeps}
use Rattle.days.proofs.Dawn.{sound_at_dawn}
use Rattle.days.proofs.Dropping.{drop_keeps}
use Rattle.days.proofs.Erasing.{erase_keeps}
use Rattle.days.proofs.HandingOn.{hand_on_keeps}
use Rattle.days.proofs.InPlace.{all_in_place}
use Rattle.days.proofs.Messages.{More, due}
use Rattle.days.proofs.Opening.{open_keeps}
use Rattle.days.proofs.Sending.{send_keeps}
use Rattle.days.proofs.Sound.{Shaped, Sound, a_copy, a_due, an_ack, owner_of}
use Rattle.days.proofs.Using.{give_back_keeps, use_keeps}

-- a sound field over a link that keeps its laws
pub record Well (now : Situation) : Type 0 where
  pub sound : Sound now.tables now.link.bag
  pub lawful : Lawful now.link

module _ (before after : Situation) (well : Well before) where
  -- a refused call changes nothing; an accepted one has to be shown
  stepped : {A : Type 0} (refusal : Option Fault) (call : Call A) → LeadsBy refusal call before after → (refusal ≡ None → after.tables ≡ call.after → Radioed (λ m. m) call.radio before.link after.link → Sound after.tables after.link.bag) → Well after
  stepped (Some f) call leads keeps = subst Well (sym leads) well
  stepped None call leads keeps = record { sound = keeps refl leads.0 leads.1; lawful = leads.2 }

  -- where nothing happens on the link, the tables alone count
  silently : (T : Tables) → Sound T before.link.bag → after.tables ≡ T → after.link ≡ before.link → Sound after.tables after.link.bag
  silently T sound tables link = subst (λ X. Sound X after.link.bag) (sym tables) (subst (λ (l : Meaning). Sound T l.bag) (sym link) sound)

  -- the delivery of a message that waits
  by_duty : (duty : Duty) (s t : ℕ) → More (due duty s (owner_of before.tables t) t) after.link.bag before.link.bag → Sound (delivered before.tables (due duty s (owner_of before.tables t) t) (kind_of (due duty s (owner_of before.tables t) t).kind)) after.link.bag
  by_duty Dirty s t more = dirty_keeps s t before.tables before.link.bag after.link.bag well.sound more
  by_duty DirtyAck s t more = dirty_ack_keeps s t before.tables before.link.bag after.link.bag well.sound more
  by_duty Clean s t more = clean_keeps s t before.tables before.link.bag after.link.bag well.sound more
  by_duty CleanAck s t more = clean_ack_keeps s t before.tables before.link.bag after.link.bag well.sound more

  by_shape : (m : Message) → Shaped (owner_of before.tables) m → More m after.link.bag before.link.bag → Sound (delivered before.tables m (kind_of m.kind)) after.link.bag
  by_shape m (a_copy q is) more =
      subst (λ x. Sound (delivered before.tables x (kind_of x.kind)) after.link.bag) (sym is)
      (copy_keeps q before.tables before.link.bag after.link.bag well.sound (subst (λ x. More x after.link.bag before.link.bag) is more))
  by_shape m (an_ack q is) more =
      subst (λ x. Sound (delivered before.tables x (kind_of x.kind)) after.link.bag) (sym is)
      (copy_ack_keeps q before.tables before.link.bag after.link.bag well.sound (subst (λ x. More x after.link.bag before.link.bag) is more))
  by_shape m (a_due duty s t is) more =
      subst (λ x. Sound (delivered before.tables x (kind_of x.kind)) after.link.bag) (sym is)
      (by_duty duty s t (subst (λ x. More x after.link.bag before.link.bag) is more))

  -- an offer waits, so it has one of the shapes that occur
  by_offer : (place : ℕ) (offer : Option Message) → slice_get before.link.offers place ≡ offer → LeadsBy (first_refusal (delivering_offer offer before.tables).checks) (delivering_offer offer before.tables) before after → Well after
  by_offer place None at leads = subst Well (sym leads) well
  by_offer place (Some m) at leads = stepped (first_refusal (delivering_offer (Some m) before.tables).checks) (delivering_offer (Some m) before.tables) leads
      (λ _ tables radio.
      let waits : 0 < often m before.link.bag = omega (arith, often-nth before.link.offers place m at, well.lawful.drawn m) in
      subst (λ X. Sound X after.link.bag) (sym tables) (by_shape m (well.sound.shaped m waits) radio))

  call_keeps : Called before after → Well after
  call_keeps (opens s leads) = let T = before.tables in let call = opening s T before.link in
      stepped (first_refusal call.checks) call leads (λ ok tables radio. silently call.after (open_keeps s T before.link well.sound ok) tables radio)
  call_keeps (uses s t leads) = let T = before.tables in let call = making_use s t T before.link in
      stepped (first_refusal call.checks) call leads (λ ok tables radio. silently call.after (use_keeps s t T before.link well.sound ok) tables radio)
  call_keeps (gives_back s t leads) = let T = before.tables in let call = giving_back s t T before.link in
      stepped (first_refusal call.checks) call leads (λ ok tables radio. silently call.after (give_back_keeps s t T before.link well.sound ok) tables radio)
  call_keeps (hands_on s d t leads) = let T = before.tables in let call = handing_on s d t T before.link in
      stepped (first_refusal call.checks) call leads (λ ok tables radio. subst (λ X. Sound X after.link.bag) (sym tables) (hand_on_keeps s d t T before.link after.link.bag well.sound ok radio))
  call_keeps (drops s t leads) = let T = before.tables in let call = dropping s t T before.link in
      stepped (first_refusal call.checks) call leads (λ ok tables radio. silently call.after (drop_keeps s t T before.link well.sound ok) tables radio)
  call_keeps (erases s t leads) = let T = before.tables in let call = erasing s t T before.link in
      stepped (first_refusal call.checks) call leads (λ ok tables radio. silently call.after (erase_keeps s t T before.link well.sound ok) tables radio)
  call_keeps (sends duty s t leads) = let T = before.tables in let call = sending duty s t T before.link in
      stepped (first_refusal call.checks) call leads (λ ok tables radio. subst (λ X. Sound X after.link.bag) (sym tables) (send_keeps duty s t T before.link after.link.bag well.sound ok radio))
  call_keeps (acks_copy s p k leads) = let T = before.tables in let call = sending_copy_ack s p k T before.link in
      stepped (first_refusal call.checks) call leads (λ ok tables radio. subst (λ X. Sound X after.link.bag) (sym tables) (send_copy_ack_keeps s p k T before.link after.link.bag well.sound ok radio))
  call_keeps (delivers place leads) = by_offer place (slice_get before.link.offers place) refl leads

-- a day that starts well goes well
pub well_all_day : (start now : Situation) → Well start → Day start now → Well now
well_all_day start now well begins = well
well_all_day start now well (goes_on {now = before} day call) = call_keeps before now (well_all_day start before well day) call

-- the field that a rigging and a cleared link make
pub well_at_dawn : (start : Situation) (n first : ℕ) → n ≤ 16 → start.tables ≡ rigged n first → start.link.bag ≡ [] → Lawful start.link → Well start
well_at_dawn start n first few tables bag lawful = record {
  sound = subst (λ X. Sound X start.link.bag) (sym tables) (subst (Sound (rigged n first)) (sym bag) (sound_at_dawn n first few));
  lawful = lawful;
}

module _ (start : Situation) (well : Well start) where
  pub no_list_empties_early : OnEveryDay NoListEmptyEarly start
  no_list_empties_early now day = never_early now (well_all_day start now well day).sound

  pub all_stay_in_place : OnEveryDay AllInPlace start
  all_stay_in_place now day = all_in_place now.tables now.link.bag (well_all_day start now well day).sound

  pub lists_stay_exact : OnEveryDay ListsExact start
  lists_stay_exact now day = lists_exact now (well_all_day start now well day).sound

  pub few_ever_wait : OnEveryDay FewWait start
  few_ever_wait now day = few_wait now (well_all_day start now well day).sound
