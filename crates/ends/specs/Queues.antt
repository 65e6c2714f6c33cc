-- What the links that stand alone hold, and so what they mean.
use Rattle.std.specs.Prelude.{List}
use Rattle.slots.specs.Entries.{entries}
use Rattle.ends.specs.Ends.{end}
use Rattle.link.specs.Meaning.{Meaning}
use Rattle.link.specs.declared.message.Message.{Message}
use Rattle.ends.specs.declared.end.End.{End}

module _ {O : Type 0} where
  -- the messages of an end, in the order in which they were posted
  abbrev pub queue : End O → List Message
  queue e = entries e.places.slots

  abbrev pub end_meaning : (List Message → List Message) → End O → Meaning
  end_meaning offered e = end offered (queue e)
