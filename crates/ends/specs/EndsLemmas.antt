-- The links that stand alone: what their 128 places hold, and the laws of their meanings.
use Rattle.std.specs.Prelude.{◌≡◌, ℕ, suc, ◌<◌, ◌≤◌, false, List, [], ◌∷◌, ◌++◌, length, is_ok, Some, None, Ok, Err, refl, Option, ◌==◌}
use Rattle.std.proofs.Common.{arith, ap, ap₂, sym, ◌∙◌}
use Rattle.std.proofs.lemmas.Bool.{cond_both, cond-false, ne_eqb}
use Rattle.slots.specs.Entries.{entries, first, times, without}
use Rattle.slots.proofs.Laws.{first_found, first_passes}
use Rattle.ends.specs.Ends.{Drawn, end, fronts, stands_behind}
use Rattle.places.specs.Posting.{end_gate, enqueued}
use Rattle.link.specs.Gates.{Gate, closed_at, open_gate}
use Rattle.link.specs.Meaning.{Lawful, Meaning, PostedBy, TakenBy}
use Rattle.link.specs.Messages.{often, same}
use Rattle.link.specs.declared.message.Message.{Message}
use Rattle.link.proofs.Bags.{often-cons, often-push, often-without, same_is}
use Rattle.link.specs.Layers.{gate_inside, gate_outside, Shallow, shallow_gate, shallow_open, shallow_top}

-- the gates of an end keep the laws of gates
module _ (bag : List Message) where
  pub end_quiet : length bag ≡ 0 → (s : ℕ) → s < 16 → end_gate bag s ≡ open_gate
  end_quiet none s inside = gate_inside s _ inside ∙ cond-false _ _ _ (ne_eqb (length bag) 128 (omega arith))

  pub end_shallow : (s : ℕ) → Shallow (end_gate bag s)
  end_shallow s = shallow_gate s _ (cond_both (length bag == 128) (closed_at 0) open_gate Shallow (λ _. shallow_top) (λ _. shallow_open))

pub end_lawful : (offered : List Message → List Message) (queue : List Message) → Drawn queue (offered queue) → length queue ≤ 128 → Lawful (end offered queue)
end_lawful offered queue drawn few = record {
  drawn = drawn.times;
  few = omega (arith, drawn.few);
  lively = drawn.some;
  quiet = end_quiet queue;
  outside = λ s out. gate_outside s _ out;
  shallow = end_shallow queue;
}

-- all messages of a queue are drawn from it
pub all_drawn : (queue : List Message) → Drawn queue queue
all_drawn queue = record { times = λ x. omega arith; some = λ some'. some'; few = omega arith }

-- and so are its fronts
pub fronts_often : (older queue : List Message) (x : Message) → often x (fronts older queue) ≤ often x queue
unfolding fronts
fronts_often older [] x = omega arith
fronts_often older (m ∷ queue) x =
    let rest = fronts_often (older ++ (m ∷ [])) queue x in
    let more = fronts (older ++ (m ∷ [])) queue in
    cond_both (stands_behind m older) more (m ∷ more) (λ ms. often x ms ≤ often x (m ∷ queue))
    (λ _. omega (arith, often-cons x m queue))
    (λ _. omega (arith, often-cons x m queue, often-cons x m more))

pub fronts_le : (older queue : List Message) → length (fronts older queue) ≤ length queue
unfolding fronts
fronts_le older [] = omega arith
fronts_le older (m ∷ queue) =
    let rest = fronts_le (older ++ (m ∷ [])) queue in
    let more = fronts (older ++ (m ∷ [])) queue in
    cond_both (stands_behind m older) more (m ∷ more) (λ ms. length ms ≤ suc (length queue)) (λ _. omega arith) (λ _. omega arith)

-- the oldest message of all is at the front
fronts_some : (queue : List Message) → 0 < length queue → 0 < length (fronts [] queue)
unfolding fronts
fronts_some [] some' = some'
fronts_some (m ∷ queue) some' = omega arith

pub fronts_drawn : (queue : List Message) → Drawn queue (fronts [] queue)
fronts_drawn queue = record { times = fronts_often [] queue; some = fronts_some queue; few = fronts_le [] queue }

-- a message that waits is the first of its like
pub first_same : (m : Message) (xs : List (Option Message)) → 0 < often m (entries xs) → first (same m) xs ≡ Some m
unfolding often times
first_same m xs some' =
    let found = first_found (same m) xs some' in
    found.1 ∙ ap Some (sym (same_is m found.0 (first_passes (same m) xs found.0 found.1)))

-- what keeps the order of posting does what the link's meaning asks
module _ {L : Type 0} (meaning : L → Meaning) (queue : L → List Message) (bag : (l : L) → (meaning l).bag ≡ queue l) where
  pub posted_end : (m : Message) (l l' : L) (g : Gate) → queue l' ≡ enqueued m g (queue l) → (is_ok g ≡ false → l' ≡ l) → PostedBy meaning g m l l' g
  posted_end m l l' (Ok done) order whole =
      (refl, λ x. ap (often x) (bag l' ∙ order) ∙ often-push x m (queue l) ∙ ap (λ ms. often x (m ∷ ms)) (sym (bag l)))
  posted_end m l l' (Err closed) order whole = (refl, whole refl)

  pub taken_end : (o : Option Message) (m : Message) (l l' : L) (r : Option Message) → o ≡ Some m → r ≡ Some m → 0 < often m (queue l) → queue l' ≡ without (same m) (queue l) → TakenBy meaning o l l' r
  taken_end None m l l' r is answer waits order = let z : ◌≡◌ {A = ℕ} 0 1 = cc in absurd (omega arith)
  taken_end (Some n) m l l' r is answer waits order =
      (answer ∙ sym is, λ x. ap (often x) (bag l) ∙ often-without x m (queue l) waits ∙ ap₂ (λ y ms. often x (y ∷ ms)) one (sym order ∙ sym (bag l')))
    where
      one : m ≡ n
      one = cc
