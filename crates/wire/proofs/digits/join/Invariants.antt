use Rattle.std.proofs.Common.{◌≡◌, take}
use Rattle.wire.specs.Numbers.{be}
use Rattle.wire.proofs.digits.join.Given as goal

abbrev pub invariant-loop-byte : goal.invariant-loop-byte
invariant-loop-byte l = l.value ≡ be (take l.byte-index l.bytes)
