-- A field that was just rigged, over a cleared link, is sound.
use Rattle.std.proofs.Common.{◌≡◌, ℕ, ◌≤◌, Bool, true, eqb, ltb, [], length, get_or, replicate, None, sym, refl, ap, ◌∙◌, subst, ⊎_elim, arith}
use Rattle.std.proofs.lemmas.List.{get_or-replicate, length-replicate}
use Rattle.std.proofs.lemmas.Bool.{and_parts, and_right, cases_Bool, cond-false, cond-true, le-ltb, ltb-true}
use Rattle.slots.specs.Entries.{entries, times}
use Rattle.link.proofs.Bags.{often-nil}
use Rattle.cells.specs.Cells.{blank}
use Rattle.cells.specs.declared.Duty.TheVariants.{Clean, CleanAck, Dirty, DirtyAck}
use Rattle.tables.specs.Kept.{cell_at, in_tables, rigged, trace_at, unopened}
use Rattle.tables.specs.declared.entries.HandOn.{HandOn}
use Rattle.tables.specs.declared.entries.Received.{Received}
use Rattle.protocol.specs.Known.{in_field, is_opened}
use Rattle.tables.specs.Copies.{same_hand_on}
use Rattle.days.proofs.Counted.{blocked_at, received_of, total}
use Rattle.days.proofs.Messages.{ack_of, copy_of, due}
use Rattle.days.proofs.Pictures.{Fits, fits_blank}
use Rattle.days.proofs.Sound.{Sound, awaiting_of, clean_owed, cleaning_of, dirty_owed, owner_of, seen}

-- an empty table counts nothing
no_entries : {E : Type 0} (p : E → Bool) → times p (replicate 64 None) ≡ 0
unfolding times entries
no_entries p = refl

-- and blank cells sum to nothing
no_dirties : total dirty_owed (replicate 16 (replicate 32 blank)) ≡ total awaiting_of (replicate 16 (replicate 32 blank))
unfolding total
no_dirties = refl

no_cleans : total clean_owed (replicate 16 (replicate 32 blank)) ≡ total cleaning_of (replicate 16 (replicate 32 blank))
unfolding total
no_cleans = refl

module _ (n first : ℕ) where
  all_blank : (s t : ℕ) → cell_at (rigged n first) s t ≡ blank
  all_blank s t = ⊎_elim inside (λ out. cond-false (in_tables s t) _ blank out) (cases_Bool (in_tables s t))
    where
      inside : in_tables s t ≡ true → cell_at (rigged n first) s t ≡ blank
      inside in' =
          let both = and_parts (ltb s 16) (ltb t 32) in' in
          let rows = replicate 16 (replicate 32 blank) in
          cond-true (in_tables s t) (get_or (get_or rows s []) t blank) blank in'
          ∙ ap (λ r. get_or r t blank) (get_or-replicate 16 s (replicate 32 blank) [] (ltb-true s 16 both.0))
          ∙ get_or-replicate 32 t blank blank (ltb-true t 32 both.1)

  all_unopened : (t : ℕ) → trace_at (rigged n first) t ≡ unopened
  all_unopened t = ⊎_elim
      (λ in'. cond-true (ltb t 32) (get_or (replicate 32 unopened) t unopened) unopened in' ∙ get_or-replicate 32 t unopened unopened (ltb-true t 32 in'))
      (λ out. cond-false (ltb t 32) (get_or (replicate 32 unopened) t unopened) unopened out)
      (cases_Bool (ltb t 32))

  fits_at_dawn : (s t : ℕ) → Fits (seen (rigged n first) [] s t)
  fits_at_dawn s t =
      let c = sym (all_blank s t) in
      let tr = sym (all_unopened t) in
      let o = owner_of (rigged n first) t in
      let d = sym (often-nil (due Dirty s o t)) in
      let da = sym (often-nil (due DirtyAck s o t)) in
      let w = sym (often-nil (due Clean s o t)) in
      let wa = sym (often-nil (due CleanAck s o t)) in
      let b = sym (no_entries (blocked_at s t)) in
      let k = sym (and_right (in_field (rigged n first) s) (is_opened (rigged n first) t) (le-ltb t 0 (omega arith))) in
      subst Fits (λ i. record {
        cell = c i;
        dirties = d i;
        dirty_acks = da i;
        cleans = w i;
        clean_acks = wa i;
        blocked = b i;
        owner = eqb s o;
        erased = (tr i).erased;
        known = k i;
      }) (fits_blank (eqb s o))

  pub sound_at_dawn : n ≤ 16 → Sound (rigged n first) []
  sound_at_dawn few = record {
    shape = record {
      cells = length-replicate 16 (replicate 32 blank);
      rows = λ s in'. ap length (get_or-replicate 16 s (replicate 32 blank) [] in') ∙ length-replicate 32 blank;
      traces = length-replicate 32 unopened;
      sent = refl;
      received = refl;
      stations = few;
      opened = omega arith;
    };
    owners = λ t in'. absurd (omega arith);
    fits = fits_at_dawn;
    packets = λ q. omega (arith, no_entries (same_hand_on q), no_entries (received_of q), often-nil (copy_of q), often-nil (ack_of q));
    senders = λ q some'. absurd (omega (arith, no_entries (same_hand_on q)));
    shaped = λ m some'. absurd (omega (arith, often-nil m));
    copies = omega (arith, no_entries (λ (h : HandOn). true), no_entries (λ (e : Received). true));
    dirties = omega (arith, no_dirties);
    cleans = omega (arith, no_cleans);
  }
