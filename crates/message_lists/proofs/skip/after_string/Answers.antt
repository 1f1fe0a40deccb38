use Rattle.std.proofs.Common.{arith}
use Rattle.wire.specs.Decoding.{after_item}
use Rattle.message_lists.proofs.skip.after_string.Goals as goal

pub returns : goal.returns
unfolding after_item
returns c = omega arith
