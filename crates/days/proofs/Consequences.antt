-- What a sound field promises: no list is empty early, every message is in place, lists are exact, few wait.
use Rattle.std.proofs.Common.{◌≡◌, ℕ, suc, ◌+◌, ◌*◌, ◌<◌, ◌≤◌, Bool, true, false, ◌&&◌, ◌||◌, ltb, List, [], ◌∷◌, length, get_or, sum_by, sym, refl, ap, ◌∙◌, subst, ⊎_elim, arith}
use Rattle.std.proofs.lemmas.List.Sums.{sum_by-cons}
use Rattle.std.proofs.lemmas.Bool.{cases_Bool, eq-eqb, ne_eqb, or_cases}
use Rattle.std.proofs.lemmas.Bool.Decides.{nat_tests}
use Rattle.slots.proofs.Counts.{times_le}
use Rattle.link.specs.Messages.{often}
use Rattle.link.specs.declared.message.Message.{Message}
use Rattle.cells.specs.Cells.{awaits, is_ccitnil, is_nil, is_ok}
use Rattle.cells.specs.declared.Cell.{Cell}
use Rattle.tables.specs.Kept.{cell_at, list_empty}
use Rattle.tables.specs.declared.entries.HandOn.{HandOn}
use Rattle.tables.specs.declared.tables.Tables.{Tables}
use Rattle.protocol.specs.Delivery.{handed}
use Rattle.days.specs.Days.{Situation}
use Rattle.days.specs.Promises.{FewWait, ListsExact, NoListEmptyEarly}
use Rattle.days.proofs.Counted.{total}
use Rattle.days.proofs.Facts.{awaited, bit_false, copy_stands, holder_listed}
use Rattle.days.proofs.Lists.{Empty, empty_list, sent_keeps_list}
use Rattle.days.proofs.Messages.{copy_of}
use Rattle.days.proofs.Pictures.{bit, one_state, owns_not, owns_or_erased}
use Rattle.days.proofs.Sound.{Sound, awaiting_of, cleaning_of, owner_of, seen}

-- what a list that is not empty would contradict makes it not empty
not_empty : (T : Tables) (t : ℕ) → (Empty T t → ⊥) → list_empty T t ≡ false
not_empty T t no' = ⊎_elim (λ yes'. absurd (no' (empty_list T t yes'))) (λ n. n) (cases_Bool (list_empty T t))

awaits_counts : (c : Cell) → awaits c ≡ true → 1 ≤ awaiting_of c
awaits_counts c is = ⊎_elim
    (λ nil. omega (arith, ap bit nil))
    (λ ccitnil. omega (arith, ap bit ccitnil))
    (or_cases (is_nil c.state) (is_ccitnil c.state) is)

pub never_early : (now : Situation) → Sound now.tables now.link.bag → NoListEmptyEarly now
never_early now sound = record {
  held = λ s t other is. not_empty now.tables t (λ empty.
      let listed = holder_listed now.tables now.link.bag sound s t (ne_eqb s (owner_of now.tables t) other) is in
      let z : ◌≡◌ {A = ℕ} 1 0 = ap bit (sym listed ∙ empty.unlisted s) in omega arith);
  awaited = λ s t other is. not_empty now.tables t (λ empty.
      let a = awaited now.tables now.link.bag sound s t (awaits_counts (cell_at now.tables s t) is) in
      sent_keeps_list now.tables now.link.bag sound a.hand_on a.stands (subst (Empty now.tables) (sym a.about) empty));
  copied = λ m kind some'. not_empty now.tables m.trace (λ empty.
      let is : m ≡ copy_of (handed m) = λ i. record { kind = kind i; sender = m.sender; receiver = m.receiver; trace = m.trace; packet = m.packet } in
      let stands = copy_stands now.tables now.link.bag sound (handed m) (subst (λ x. 0 < often x now.link.bag) is some') in
      sent_keeps_list now.tables now.link.bag sound (handed m) stands empty);
}

-- the list by state and traffic
exactly : (l ok nil da : Bool) (a c : ℕ) → bit l ≡ bit ok + bit da + a + c → bit da + a ≤ bit nil → l ≡ (ok || ((nil && (da || ltb 0 a)) || ltb 0 c))
exactly l ok nil da a c list nils = grind (arith, nat_tests)

pub lists_exact : (now : Situation) → Sound now.tables now.link.bag → ListsExact now
lists_exact now sound = record {
  others = λ s t other.
      let v = seen now.tables now.link.bag s t in
      let f = sound.fits s t in
      let o = owns_not v (ne_eqb s (owner_of now.tables t) other) in
      exactly v.cell.listed (is_ok v.cell.state) (is_nil v.cell.state) v.cell.dirty_ack v.dirty_acks v.cleans (omega arith) (omega arith);
  owner = λ t.
      let s = owner_of now.tables t in
      let v = seen now.tables now.link.bag s t in
      let f = sound.fits s t in
      let o = ap bit (eq-eqb s s refl) in
      let e = owns_or_erased v in
      let one = one_state v.cell.state in
      bit_false v.cell.listed (omega arith);
}

-- a sum of at most one for each of 16 times 32 cells
row_le : (f : Cell → ℕ) → ((c : Cell) → f c ≤ 1) → (row : List Cell) → sum_by f row ≤ length row
row_le f small [] = omega arith
row_le f small (c ∷ row) = omega (arith, sum_by-cons f c row, small c, row_le f small row)

rows_le : (f : Cell → ℕ) → ((c : Cell) → f c ≤ 1) → (rows : List (List Cell)) → ((s : ℕ) → s < length rows → length (get_or rows s []) ≡ 32) → sum_by (sum_by f) rows ≤ length rows * 32
rows_le f small [] each = omega arith
rows_le f small (row ∷ rows) each =
    omega (arith, sum_by-cons (sum_by f) row rows, row_le f small row, each 0 (omega arith), rows_le f small rows (λ s in'. each (suc s) (omega arith)))

total_le : (f : Cell → ℕ) → ((c : Cell) → f c ≤ 1) → (T : Tables) (bag : List Message) → Sound T bag → total f T.cells ≤ 512
unfolding total
total_le f small T bag sound =
    let c = sound.shape.cells in omega (arith, rows_le f small T.cells (λ s in'. sound.shape.rows s (omega arith)))

pub few_wait : (now : Situation) → Sound now.tables now.link.bag → FewWait now
few_wait now sound =
    let awaiting = total_le awaiting_of (λ c. omega (arith, one_state c.state)) now.tables now.link.bag sound in
    let cleaning = total_le cleaning_of (λ c. omega (arith, one_state c.state)) now.tables now.link.bag sound in
    record {
      copies = omega (arith, sound.copies, times_le (λ (h : HandOn). true) now.tables.sent, sound.shape.sent);
      dirties = omega (arith, sound.dirties);
      cleans = omega (arith, sound.cleans);
    }
