-- The steps of the calls that a user makes.
use Rattle.std.specs.Prelude.{ℕ, true, not, ◌&&◌, List, [], ◌∷◌, ◌++◌, is_some, Some, None, Option, ◌==◌, nat_eq, nat_lt}
use Rattle.slots.specs.Entries.{placed, times}
use Rattle.link.specs.Kinds.{kind_number}
use Rattle.link.specs.declared.message.Kind.TheVariants.{Copy}
use Rattle.cells.specs.Cells.{holds, in_state, one_less, one_more, with_duty}
use Rattle.tables.specs.Copies.{sent_by}
use Rattle.tables.specs.Kept.{cell_at, list_empty, next_packet, trace_at, with_cell, with_erased, with_opened, with_sent, with_spent}
use Rattle.cells.specs.declared.Duty.TheVariants.{Clean}
use Rattle.cells.specs.declared.State.TheVariants.{None as none}
use Rattle.tables.specs.declared.tables.Tables.{Tables}
use Rattle.protocol.specs.Calls.{Check, Step, ◌when◌, posts, shut, silent}
use Rattle.protocol.specs.Known.{full, held_unused, in_field, is_opened, known}

-- open a trace at s: it is owned by s and in ok there; the answer is its number
abbrev pub opening : ℕ → Step ℕ
opening s T _ = record {
  checks = 1 when not (in_field T s) ∷ 3 when not (nat_lt T.opened 32) ∷ [];
  answer = T.opened;
  after = with_opened s T;
  radio = silent;
}

-- the checks of a use
abbrev pub may_use : Tables → ℕ → ℕ → List Check
may_use T s t = let c = cell_at T s t in known T s t ++ (5 when not (holds c) ∷ 11 when nat_eq c.uses 255 ∷ [])

-- use t at s: uses rise by one
abbrev pub making_use : ℕ → ℕ → Step (Unit {0})
making_use s t T _ = record {
  checks = may_use T s t;
  answer = tt;
  after = with_cell s t (one_more (cell_at T s t)) T;
  radio = silent;
}

-- the checks of a give-back
abbrev pub may_give_back : Tables → ℕ → ℕ → List Check
may_give_back T s t = known T s t ++ (12 when nat_eq (cell_at T s t).uses 0 ∷ [])

-- give back a use of t at s: uses fall by one
abbrev pub giving_back : ℕ → ℕ → Step (Unit {0})
giving_back s t T _ = record {
  checks = may_give_back T s t;
  answer = tt;
  after = with_cell s t (one_less (cell_at T s t)) T;
  radio = silent;
}

-- the number, where there is one
abbrev pub number : Option ℕ → ℕ
number None = 0
number (Some k) = k

-- the checks of a hand-on, but for the gate
abbrev pub may_hand_on : Tables → ℕ → ℕ → ℕ → List Check
may_hand_on T s d t =
    1 when not (in_field T s && in_field T d)
    ∷ 2 when not (is_opened T t)
    ∷ 4 when nat_eq s d
    ∷ 5 when not (holds (cell_at T s t))
    ∷ 13 when full T.sent
    ∷ 14 when not (is_some (next_packet T s))
    ∷ []

-- hand t on from s to d, by the gate of s: s spends its next packet number k, a sent entry is added and a
-- copy posted; the answer is k
abbrev pub handing_on : ℕ → ℕ → ℕ → Step ℕ
handing_on s d t T link =
    let k = number (next_packet T s) in
    record {
      checks = may_hand_on T s d t ++ (shut (link.gate s) ∷ []);
      answer = k;
      after = with_spent s (with_sent (placed (record { packet = k; sender = s; receiver = d; trace = t }) T.sent) T);
      radio = posts (record { kind = kind_number Copy; sender = s; receiver = d; trace = t; packet = k });
    }

-- the checks of a drop
abbrev pub may_drop : Tables → ℕ → ℕ → List Check
may_drop T s t =
    known T s t
    ++ (6 when nat_eq s (trace_at T t).owner
    ∷ held_unused (cell_at T s t)
    ++ (10 when nat_lt 0 (times (sent_by s t) T.sent) ∷ []))

-- drop t at s: s gets a clean call duty
abbrev pub dropping : ℕ → ℕ → Step (Unit {0})
dropping s t T _ = record {
  checks = may_drop T s t;
  answer = tt;
  after = with_cell s t (with_duty Clean true (cell_at T s t)) T;
  radio = silent;
}

-- the checks of an erasing
abbrev pub may_erase : Tables → ℕ → ℕ → List Check
may_erase T s t =
    known T s t
    ++ (7 when not (s == (trace_at T t).owner)
    ∷ held_unused (cell_at T s t)
    ++ (9 when not (list_empty T t) ∷ []))

-- erase t at s: t is erased, and s has it no more
abbrev pub erasing : ℕ → ℕ → Step (Unit {0})
erasing s t T _ = record {
  checks = may_erase T s t;
  answer = tt;
  after = with_cell s t (in_state none (cell_at T s t)) (with_erased t T);
  radio = silent;
}
