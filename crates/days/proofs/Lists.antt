-- The owner's list: what keeps it from being empty.
use Rattle.std.proofs.Common.{◌≡◌, ℕ, zero, suc, ◌<◌, true, false, cond, eqb, ltb, List, [], get_or, sym, refl, ap, ◌∙◌, ⊎_elim, arith}
use Rattle.std.proofs.lemmas.Bool.{and_left, and_parts, cases_Bool, cases_eq, cases_lt, eqb-true, le-ltb}
use Rattle.slots.specs.Entries.{times}
use Rattle.link.specs.declared.message.Message.{Message}
use Rattle.cells.specs.Cells.{blank}
use Rattle.tables.specs.Copies.{same_hand_on, sent_by}
use Rattle.tables.specs.Kept.{cell_at, list_empty, listed, listed_below}
use Rattle.tables.specs.declared.entries.HandOn.{HandOn}
use Rattle.tables.specs.declared.tables.Tables.{Tables}
use Rattle.days.proofs.Dropping.{sent_counted}
use Rattle.days.proofs.Facts.{bit_false, holder_listed}
use Rattle.days.proofs.Pictures.{bit}
use Rattle.days.proofs.Sound.{Sound, owner_of}

-- where none of the stations below n is listed, none of them is
none_listed : (n : ℕ) (T : Tables) (s t : ℕ) → listed_below n T t ≡ 0 → s < n → (cell_at T s t).listed ≡ false
unfolding listed_below
none_listed zero T s t none in' = absurd (omega arith)
none_listed (suc n) T s t none in' = ⊎_elim
    (λ same. ap (λ x. (cell_at T x t).listed) same ∙ bit_false (cell_at T n t).listed (omega arith))
    (λ other. none_listed n T s t (omega arith) (lower other))
    (cases_eq s n)
  where
    lower : (s ≡ n → ⊥) → s < n
    lower other = let ne : s ≡ n → ⊥ = other in omega arith

-- an empty list names nobody, and has no sent entry of the owner
pub record Empty (T : Tables) (t : ℕ) : Type 0 where
  pub unlisted : (s : ℕ) → (cell_at T s t).listed ≡ false
  pub unsent : times (sent_by (owner_of T t) t) T.sent ≡ 0

pub empty_list : (T : Tables) (t : ℕ) → list_empty T t ≡ true → Empty T t
empty_list T t is =
    let parts = and_parts (eqb (listed T t) 0) (eqb (times (sent_by (owner_of T t) t) T.sent) 0) is in
    let none = eqb-true (listed T t) 0 parts.0 in
    record {
      unlisted = λ s. ⊎_elim
          (none_listed 16 T s t none)
          (λ out. ap (λ b. (cond b (get_or (get_or T.cells s []) t blank) blank).listed) (and_left (ltb s 16) (ltb t 32) (le-ltb s 16 out)))
          (cases_lt s 16);
      unsent = eqb-true (times (sent_by (owner_of T t) t) T.sent) 0 parts.1;
    }

-- a sent entry keeps the list of its trace
pub sent_keeps_list : (T : Tables) (bag : List Message) → Sound T bag → (q : HandOn) → 0 < times (same_hand_on q) T.sent → Empty T q.trace → ⊥
sent_keeps_list T bag sound q some' empty = ⊎_elim
    (λ by_owner. omega (arith, empty.unsent, sent_counted T q (owner_of T q.trace) q.trace (eqb-true q.sender (owner_of T q.trace) by_owner) refl))
    (λ by_other.
    let is = holder_listed T bag sound q.sender q.trace by_other (sound.senders q some').held in
    let z : ◌≡◌ {A = ℕ} 1 0 = ap bit (sym is ∙ empty.unlisted q.sender) in omega arith)
    (cases_Bool (eqb q.sender (owner_of T q.trace)))
