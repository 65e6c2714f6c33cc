-- What a link means, whatever it is made of.
use Rattle.std.specs.Prelude.{◌≡◌, ℕ, ◌<◌, ◌≤◌, List, ◌∷◌, length, Some, None, Ok, Err, Option}
use Rattle.std.specs.List.{slice_get}
use Rattle.link.specs.Gates.{Gate, closed_at, open_gate}
use Rattle.link.specs.Messages.{often, SameBag}
use Rattle.link.specs.declared.message.Message.{Message}

-- bag: the messages that wait, of which only how often each is there counts, and not the order;
-- offers: those that can be taken, by place; gate: each station's gate
pub record Meaning : Type 0 where
  pub bag : List Message
  pub offers : List Message
  pub gate : ℕ → Gate

-- what holds of every link
pub record Lawful (m : Meaning) : Type 0 where
  -- no message is offered more often than it waits
  pub drawn : (x : Message) → often x m.offers ≤ often x m.bag
  pub few : length m.offers ≤ 65535
  -- while anything waits, something is offered
  pub lively : 0 < length m.bag → 0 < length m.offers
  -- while nothing waits, every gate is open
  pub quiet : length m.bag ≡ 0 → (s : ℕ) → s < 16 → m.gate s ≡ open_gate
  -- a station above 15 has no gate: it finds the link closed at depth 0
  pub outside : (s : ℕ) → 16 ≤ s → m.gate s ≡ closed_at 0
  -- no depth is above 255
  pub shallow : (s d : ℕ) → m.gate s ≡ closed_at d → d ≤ 255

module _ {L : Type 0} (meaning : L → Meaning) where
  -- by the sender's gate, which is the answer: open, it lets the message in once; closed, nothing changes
  abbrev pub PostedBy : Gate → Message → L → L → Gate → Type 0
  PostedBy (Ok done) m before after r = (r ≡ open_gate) × SameBag (meaning after).bag (m ∷ (meaning before).bag)
  PostedBy (Err closed) m before after r = (r ≡ Err closed) × (after ≡ before)

  -- what a post of m does and answers
  abbrev pub Posted : Message → L → L → Gate → Type 0
  Posted m before after r = PostedBy ((meaning before).gate m.sender) m before after r

  -- by the offer at the place: it leaves the bag, once; where there is none, nothing changes
  abbrev pub TakenBy : Option Message → L → L → Option Message → Type 0
  TakenBy None before after r = (r ≡ None) × (after ≡ before)
  TakenBy (Some m) before after r = (r ≡ Some m) × SameBag (meaning before).bag (m ∷ (meaning after).bag)

  -- what a take at a place does and answers
  abbrev pub Taken : ℕ → L → L → Option Message → Type 0
  Taken place before after r = TakenBy (slice_get (meaning before).offers place) before after r
