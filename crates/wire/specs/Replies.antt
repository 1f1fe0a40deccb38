-- Document 01, "Message replies": the number of each refusal.
use Rattle.std.specs.Prelude.{ℕ}
use Rattle.wire.specs.declared.Fault.{Fault}
use Rattle.wire.specs.declared.Fault.TheVariants.{NotWhole, NoSuchVersion, UnknownType, NotInVersion, TooLarge, RunsPast, NotAllowed, BytesAfter, OutputShort, ListsDiffer, NoElement, NoField}

-- the table's number of each fault; 50 is ours, for a field that the message lacks
abbrev pub number : Fault → ℕ
number NotWhole = 1
number NoSuchVersion = 40
number UnknownType = 41
number NotInVersion = 42
number TooLarge = 43
number RunsPast = 44
number NotAllowed = 45
number BytesAfter = 46
number OutputShort = 47
number ListsDiffer = 48
number NoElement = 49
number NoField = 50
