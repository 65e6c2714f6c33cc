-- Gates and their depths.
use Rattle.std.specs.Prelude.{ℕ, ◌+◌, min, cond, Ok, Err, Result, nat_lt}
use Rattle.link.specs.declared.gate.GateClosed.{GateClosed}

-- a station's gate: open, or closed at a depth
abbrev pub Gate : Type 0
Gate = Result (Unit {0}) GateClosed

abbrev pub open_gate : Gate
open_gate = Ok tt

abbrev pub closed_at : ℕ → Gate
closed_at d = Err (record { depth = d })

-- a refusal as the layer above tells it: one deeper; a depth stops at 255
abbrev pub deeper : GateClosed → GateClosed
deeper closed = record { depth = min 255 (closed.depth + 1) }

-- the gate as the layer above sees it
abbrev pub deepened : Gate → Gate
deepened (Ok done) = Ok done
deepened (Err closed) = Err (deeper closed)

-- a gate as every link has it: only stations 0 to 15 have one, and any other finds it closed at depth 0
abbrev pub gate_of : ℕ → Gate → Gate
gate_of s g = cond (nat_lt s 16) g (closed_at 0)
