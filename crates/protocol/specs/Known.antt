-- What several calls check.
use Rattle.std.specs.Prelude.{ℕ, Bool, true, not, List, [], ◌∷◌, Option, nat_lt}
use Rattle.slots.specs.Entries.{times}
use Rattle.cells.specs.Cells.{holds}
use Rattle.cells.specs.declared.Cell.{Cell}
use Rattle.tables.specs.declared.tables.Tables.{Tables}
use Rattle.protocol.specs.Calls.{Check, ◌when◌}

-- the station is in the field
abbrev pub in_field : Tables → ℕ → Bool
in_field T s = nat_lt s T.stations

-- the trace was opened
abbrev pub is_opened : Tables → ℕ → Bool
is_opened T t = nat_lt t T.opened

-- the station is in the field, and the trace was opened
abbrev pub known : Tables → ℕ → ℕ → List Check
known T s t = 1 when not (in_field T s) ∷ 2 when not (is_opened T t) ∷ []

-- the station holds the trace and has no use of it
abbrev pub held_unused : Cell → List Check
held_unused c = 5 when not (holds c) ∷ 8 when nat_lt 0 c.uses ∷ []

-- 64 entries stand in the table
abbrev pub full : {E : Type 0} → List (Option E) → Bool
full es = not (nat_lt (times (λ _. true) es) 64)
