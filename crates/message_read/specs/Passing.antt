-- Passing over a whole message m at the agreed version v: the tests before its fields, and where passing over the fields stops. Reading and explaining
-- both start from it.
use Rattle.std.specs.Prelude.{ℕ, List, Result, Ok, Err}
use Rattle.wire.specs.declared.Refused.{Refused}
use Rattle.payload_read.specs.Stops.{Passed, stop_of}
use Rattle.message_read.specs.declared.Tested.{Tested}
use Rattle.message_read.specs.Reading.{Reading, opening, payload_of}

-- what passing over a message comes to: the type, the length, and what passing over the payload comes to; or the refusal of a test
abbrev pub Passage : Type 0
Passage = Result Tested Refused

abbrev pub tested_as : ℕ → ℕ → Passed → Tested
tested_as t n a = record { kind = t; used = n; fields = a }

-- beside what the tests say: their refusal; or the type, the length, and where passing over the payload stops
abbrev pub passed : Reading → List ℕ → Passage
passed (Err r) m = Err r
passed (Ok a) m = Ok (tested_as a.kind a.used (stop_of a.kind (payload_of (Ok a) m)))

unfoldable pub passing : ℕ → List ℕ → Passage
passing v m = passed (opening v m) m
