-- A change of one cell: what it puts there, and that it leaves every other cell alone. All other tables stay
-- by definition.
use Rattle.std.proofs.Common.{◌≡◌, ℕ, ◌<◌, true, ◌≢◌, [], length, get_or, get_or-set_other, get_or-set_same, arith}
use Rattle.tables.specs.Kept.{cell_at, in_tables, with_cell}
use Rattle.cells.specs.declared.Cell.{Cell}
use Rattle.tables.specs.declared.tables.Tables.{Tables}

module _ (T : Tables) (s t : ℕ) (c : Cell) where
  -- another station's cells stay
  pub cell_of_another : (s' t' : ℕ) → s' ≢ s → cell_at (with_cell s t c T) s' t' ≡ cell_at T s' t'
  cell_of_another s' t' other = grind (arith, get_or-set_other)

  -- the station's cells of other traces stay
  pub cell_of_another_trace : (t' : ℕ) → s < length T.cells → t' ≢ t → cell_at (with_cell s t c T) s t' ≡ cell_at T s t'
  cell_of_another_trace t' within other = grind (arith, get_or-set_other, get_or-set_same)

  -- the cell that was put
  pub cell_put : in_tables s t ≡ true → s < length T.cells → t < length (get_or T.cells s []) → cell_at (with_cell s t c T) s t ≡ c
  cell_put inside row column = grind (arith, get_or-set_same)
