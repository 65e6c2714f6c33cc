-- The 128 places of a link that stands alone: its gates, and the order of posting.
use Rattle.std.specs.Prelude.{ℕ, cond, List, [], ◌∷◌, ◌++◌, length, Ok, Err, ◌==◌}
use Rattle.link.specs.Gates.{Gate, closed_at, gate_of, open_gate}
use Rattle.link.specs.declared.message.Message.{Message}

-- every gate closes, at depth 0, exactly when 128 messages wait
abbrev pub end_gate : List Message → ℕ → Gate
end_gate bag s = gate_of s (cond (length bag == 128) (closed_at 0) open_gate)

-- the order of posting after a post: a message that was let in stands behind all others
abbrev pub enqueued : Message → Gate → List Message → List Message
enqueued m (Ok done) queue = queue ++ (m ∷ [])
enqueued m (Err closed) queue = queue
