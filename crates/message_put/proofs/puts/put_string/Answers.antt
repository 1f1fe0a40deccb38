use Rattle.wire.specs.Values.{encode_item}
use Rattle.message_put.proofs.Chain.{then}
use Rattle.message_put.proofs.puts.put_string.Goals as goal

pub returns : goal.returns
unfolding encode_item
returns c = search then
