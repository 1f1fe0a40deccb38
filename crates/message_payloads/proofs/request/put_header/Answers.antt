use Rattle.wire.specs.Values.{encode, encode_field, encode_item}
use Rattle.message_put.proofs.Chain.{then, none}
use Rattle.message_payloads.proofs.request.put_header.Goals as goal

pub returns : goal.returns
unfolding encode encode_field encode_item
returns c = then c.put_number-p.ensures (then c.put_bytes-p.ensures (then c.put_number.ensures none))
