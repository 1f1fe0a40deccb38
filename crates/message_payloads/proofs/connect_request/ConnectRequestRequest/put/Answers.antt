use Rattle.wire.specs.Values.{encode, encode_field, encode_item}
use Rattle.message_layout.specs.Table.{layout, entries_of}
use Rattle.message_lent.specs.Lent.{values_lent, value_lent}
use Rattle.message_lent.specs.Lists.{list_bytes}
use Rattle.message_lent.specs.Requests.{connect_request}
use Rattle.message_put.proofs.Chain.{then, none}
use Rattle.message_payloads.proofs.connect_request.ConnectRequestRequest.put.Goals as goal

pub returns : goal.returns
unfolding connect_request layout entries_of values_lent value_lent encode encode_field encode_item list_bytes
returns c = rw (← c.self.view_is) (then c.put_bytes-p.ensures (then c.put_bytes-p-2.ensures (then c.put_string-p.ensures (then c.put_versions.ensures none))))
