-- What is asked of single messages, and how often one is in a list.
use Rattle.std.specs.Prelude.{◌≡◌, ℕ, Bool, ◌&&◌, List, count_by, ◌==◌}
use Rattle.link.specs.declared.message.Message.{Message}

-- the two messages agree in all they carry
unfoldable pub same : Message → Message → Bool
same k m =
    (m.kind == k.kind)
    && (m.sender == k.sender
    && (m.receiver == k.receiver
    && (m.trace == k.trace
    && m.packet == k.packet)))

-- the message goes from this sender to this receiver
unfoldable pub between : ℕ → ℕ → Message → Bool
between s r m = m.sender == s && m.receiver == r

abbrev pub sent_by : ℕ → Message → Bool
sent_by s m = m.sender == s

abbrev pub of_kind : ℕ → Message → Bool
of_kind k m = m.kind == k

-- how often a message is in a list
unfoldable pub often : Message → List Message → ℕ
often m xs = count_by (same m) xs

-- two lists with each message as often in one as in the other
abbrev pub SameBag : List Message → List Message → Type 0
SameBag xs ys = (m : Message) → often m xs ≡ often m ys
