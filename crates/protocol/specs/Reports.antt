-- The report's rows.
use Rattle.std.specs.Prelude.{ℕ, zero, suc, Bool, cond, List, [], ◌∷◌, length, Result, codes, nat_lt, slice_set}
use Rattle.protocol.specs.Calls.{◌when◌, first_refusal, verdict}
use Rattle.protocol.specs.Refusals.{Fault}
use Rattle.tables.specs.Kept.{list_empty, listed, trace_at}
use Rattle.tables.specs.declared.tables.Tables.{Tables}
use Rattle.protocol.specs.declared.report.Row.{Row}
use Rattle.protocol.specs.declared.report.Word.{Word}
use Rattle.protocol.specs.declared.report.Word.TheVariants.{Erased, Free, Kept}

-- erased; else free when the owner's list is empty; else kept
abbrev pub word_of : Tables → ℕ → Word
word_of T t = cond (trace_at T t).erased Erased (cond (list_empty T t) Free Kept)

-- the word as it is shown
abbrev pub shown_word : Word → List ℕ
shown_word Erased = codes "erased"
shown_word Free = codes "free"
shown_word Kept = codes "kept"

-- the row of a trace
abbrev pub row_of : Tables → ℕ → Row
row_of T t = record { trace = t; owner = (trace_at T t).owner; word = word_of T t; listed = listed T t }

-- the rows with those of the first n traces in the first n places; further rows stay as they were
unfoldable pub filled : Tables → ℕ → List Row → List Row
filled T zero rows = rows
filled T (suc n) rows = slice_set (filled T n rows) n (row_of T n)

-- fewer rows than traces
abbrev pub few_rows : Tables → List Row → Bool
few_rows T rows = nat_lt (length rows) T.opened

-- what a report answers: how many rows it filled
abbrev pub reported : Tables → List Row → Result ℕ Fault
reported T rows = verdict (first_refusal (21 when few_rows T rows ∷ [])) T.opened

-- the rows after a report; a refused one changes none
abbrev pub rows_after : Tables → List Row → List Row
rows_after T rows = cond (few_rows T rows) rows (filled T T.opened rows)
