-- The links that stand alone: what they mean, and what a row offers.
use Rattle.std.specs.Prelude.{ℕ, ◌<◌, ◌≤◌, Bool, cond, List, [], ◌∷◌, ◌++◌, length, take, Some, None, count_by, Option, nat_lt}
use Rattle.std.specs.List.{slice_get}
use Rattle.std.specs.Option.{option_flatten}
use Rattle.slots.specs.Entries.{entries, without}
use Rattle.link.specs.Meaning.{Meaning}
use Rattle.places.specs.Posting.{end_gate}
use Rattle.link.specs.Messages.{between, often, same}
use Rattle.link.specs.declared.message.Message.{Message}

-- an end by its messages, in the order in which they were posted, and those of them that it offers
abbrev pub end : (List Message → List Message) → List Message → Meaning
end offered queue = record { bag = queue; offers = offered queue; gate = end_gate queue }

-- the offers are drawn from the queue: none more often than it is there, and one at least where there is any
pub record Drawn (queue offers : List Message) : Type 0 where
  pub times : (x : Message) → often x offers ≤ often x queue
  pub some : 0 < length queue → 0 < length offers
  pub few : length offers ≤ length queue

-- whether one of these messages has the same sender and receiver
abbrev pub stands_behind : Message → List Message → Bool
stands_behind m older = nat_lt 0 (count_by (between m.sender m.receiver) older)

-- of the messages `queue`, oldest first, those that have no older one of the same sender and receiver,
-- neither there nor in `older`, which came before
unfoldable pub fronts : List Message → List Message → List Message
fronts older [] = []
fronts older (m ∷ queue) = cond (stands_behind m older) (fronts (older ++ (m ∷ [])) queue) (m ∷ fronts (older ++ (m ∷ [])) queue)

-- the message of a slot, behind these older ones, if it is at the front
abbrev pub front_of : List Message → Option Message → Option Message
front_of older None = None
front_of older (Some m) = cond (stands_behind m older) None (Some m)

-- the message in a slot of a row, if it is at the front
abbrev pub front_at : List (Option Message) → ℕ → Option Message
front_at slots i = front_of (entries (take i slots)) (option_flatten (slice_get slots i))

-- the order of posting after a take: the oldest message like the one taken is gone, and the others keep their order
abbrev pub dequeued : Option Message → List Message → List Message
dequeued None queue = queue
dequeued (Some m) queue = without (same m) queue
