-- Every message that waits on a sound field can be delivered.
use Rattle.std.proofs.Common.{◌≡◌, ℕ, ◌+◌, ◌<◌, ◌≤◌, Bool, true, false, ◌||◌, eqb, List, sym, refl, subst, arith}
use Rattle.std.proofs.lemmas.Bool.{eq-eqb, eqb-false, lt-ltb, ne_eqb, not_from_true, or_from}
use Rattle.slots.specs.Entries.{times, without}
use Rattle.link.specs.Kinds.{kind_of}
use Rattle.link.specs.Messages.{often, same}
use Rattle.link.specs.declared.message.Message.{Message}
use Rattle.link.proofs.Bags.{often-without}
use Rattle.cells.specs.Cells.{is_ccit, is_ccitnil, is_nil}
use Rattle.cells.specs.declared.Duty.{Duty}
use Rattle.cells.specs.declared.Duty.TheVariants.{Clean, CleanAck, Dirty, DirtyAck}
use Rattle.tables.specs.Copies.{same_hand_on}
use Rattle.tables.specs.Kept.{cell_at}
use Rattle.tables.specs.declared.entries.HandOn.{HandOn}
use Rattle.tables.specs.declared.entries.Received.{Received}
use Rattle.tables.specs.declared.tables.Tables.{Tables}
use Rattle.protocol.specs.Delivery.{misplaced, out_of_place}
use Rattle.days.proofs.Copying.{room}
use Rattle.days.proofs.Facts.{ack_stands, bit_false, bit_true, copy_stands, holder_known, known_from}
use Rattle.days.proofs.Messages.{ack_of, copy_of, due}
use Rattle.days.proofs.Opening.{waits_busy}
use Rattle.days.proofs.Pictures.{bit, one_state}
use Rattle.days.proofs.Sound.{Shaped, Sound, a_copy, a_due, an_ack, owner_of}

module _ (T : Tables) (bag : List Message) (sound : Sound T bag) where
  -- between two stations of the field, about an opened trace, a message is out of place only by its kind
  placed_by : (m : Message) → m.sender < T.stations → m.receiver < T.stations → (m.sender ≡ m.receiver → ⊥) → m.trace < T.opened → misplaced T m (kind_of m.kind) ≡ false → out_of_place T m ≡ false
  placed_by m from to apart about by_kind =
      or_from _ _ (not_from_true _ (lt-ltb m.sender T.stations from))
      (or_from _ _ (not_from_true _ (lt-ltb m.receiver T.stations to))
      (or_from _ _ (ne_eqb m.sender m.receiver apart)
      (or_from _ _ (not_from_true _ (lt-ltb m.trace T.opened about)) by_kind)))

  copy_in_place : (q : HandOn) → 0 < often (copy_of q) bag → out_of_place T (copy_of q) ≡ false
  copy_in_place q some' =
      let m = copy_of q in
      let st = sound.senders q (copy_stands T bag sound q some') in
      let known = holder_known T bag sound q.sender q.trace st.held in
      let few = room q T bag (without (same m) bag) sound (λ x. often-without x m bag some') in
      placed_by m known.0 st.receiver st.apart known.1 (not_from_true _ (lt-ltb (times (λ (e : Received). true) T.received) 64 few))

  ack_in_place : (q : HandOn) → 0 < often (ack_of q) bag → out_of_place T (ack_of q) ≡ false
  ack_in_place q some' =
      let stands = ack_stands T bag sound q some' in
      let st = sound.senders q stands in
      let known = holder_known T bag sound q.sender q.trace st.held in
      placed_by (ack_of q) st.receiver known.0 (λ e. st.apart (sym e)) known.1
      (ne_eqb (times (same_hand_on q) T.sent) 0 (λ none. omega arith))

  -- by its kind, what a duty asks for is where it should be
  due_placed : (duty : Duty) (s t : ℕ) → 0 < often (due duty s (owner_of T t) t) bag → misplaced T (due duty s (owner_of T t) t) (kind_of (due duty s (owner_of T t) t).kind) ≡ false
  due_placed Dirty s t some' = not_from_true _ (eq-eqb (owner_of T t) (owner_of T t) refl)
  due_placed Clean s t some' = not_from_true _ (eq-eqb (owner_of T t) (owner_of T t) refl)
  due_placed DirtyAck s t some' =
      let f = sound.fits s t in
      let one = one_state (cell_at T s t).state in
      not_from_true _ (bit_true (is_nil (cell_at T s t).state) (omega arith))
  due_placed CleanAck s t some' =
      not_from_true _ (in_transit (is_ccit (cell_at T s t).state) (is_ccitnil (cell_at T s t).state) (omega (arith, (sound.fits s t).clean_line)))
    where
      in_transit : (a b : Bool) → 1 ≤ bit a + bit b → (a || b) ≡ true
      in_transit true b h = refl
      in_transit false b h = bit_true b (omega arith)

  due_in_place : (duty : Duty) (s t : ℕ) → 0 < often (due duty s (owner_of T t) t) bag → out_of_place T (due duty s (owner_of T t) t) ≡ false
  due_in_place duty s t some' =
      let busy = waits_busy T bag sound duty s t some' in
      let f = sound.fits s t in
      let known = known_from T bag sound s t (omega arith) in
      let other = eqb-false s (owner_of T t) (bit_false (eqb s (owner_of T t)) (omega arith)) in
      by_duty duty known.0 (sound.owners t known.1) other known.1 (due_placed duty s t some')
    where
      by_duty : (duty : Duty) → s < T.stations → owner_of T t < T.stations → (s ≡ owner_of T t → ⊥) → t < T.opened → misplaced T (due duty s (owner_of T t) t) (kind_of (due duty s (owner_of T t) t).kind) ≡ false → out_of_place T (due duty s (owner_of T t) t) ≡ false
      by_duty Dirty a o n k p = placed_by (due Dirty s (owner_of T t) t) a o n k p
      by_duty DirtyAck a o n k p = placed_by (due DirtyAck s (owner_of T t) t) o a (λ e. n (sym e)) k p
      by_duty Clean a o n k p = placed_by (due Clean s (owner_of T t) t) a o n k p
      by_duty CleanAck a o n k p = placed_by (due CleanAck s (owner_of T t) t) o a (λ e. n (sym e)) k p

  by_shape : (m : Message) → Shaped (owner_of T) m → 0 < often m bag → out_of_place T m ≡ false
  by_shape m (a_copy q is) some' = subst (λ x. out_of_place T x ≡ false) (sym is) (copy_in_place q (subst (λ x. 0 < often x bag) is some'))
  by_shape m (an_ack q is) some' = subst (λ x. out_of_place T x ≡ false) (sym is) (ack_in_place q (subst (λ x. 0 < often x bag) is some'))
  by_shape m (a_due duty s t is) some' = subst (λ x. out_of_place T x ≡ false) (sym is) (due_in_place duty s t (subst (λ x. 0 < often x bag) is some'))

  pub all_in_place : (m : Message) → 0 < often m bag → out_of_place T m ≡ false
  all_in_place m some' = by_shape m (sound.shaped m some') some'
