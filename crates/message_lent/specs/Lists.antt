-- The lists of the messages as they are lent: how many elements, and a column for each item, in the order of the table.
use Rattle.std.specs.Prelude.{ℕ, List, length}
use Rattle.message_layout.specs.Table.{items_of, field_of, list}
use Rattle.message_layout.specs.declared.Element.TheVariants.{Version, ServiceName, QueueName, Domain, Service, Queue, Message}
use Rattle.message_layout.specs.declared.Element.{Element}
use Rattle.wire.specs.Values.{encode_field}
use Rattle.message_lent.specs.Lent.{Lent, value_lent}

-- 7200's versions
unfoldable pub versions : List ℕ → Lent (field_of (list Version))
unfolding items_of
versions ns = (length ns, (ns, tt))

-- 7300's services and queues: the lengths of the names, and the names
unfoldable pub service_names : List ℕ → List ℕ → Lent (field_of (list ServiceName))
unfolding items_of
service_names lengths names = (length lengths, ((lengths, names), tt))

unfoldable pub queue_names : List ℕ → List ℕ → Lent (field_of (list QueueName))
unfolding items_of
queue_names lengths names = (length lengths, ((lengths, names), tt))

-- 7302's domains
unfoldable pub domains : List ℕ → List ℕ → List ℕ → Lent (field_of (list Domain))
unfolding items_of
domains ids lengths names = (length lengths, (ids, ((lengths, names), tt)))

-- 7311's services
unfoldable pub services : List ℕ → List ℕ → List ℕ → List ℕ → List ℕ → List ℕ → List ℕ → Lent (field_of (list Service))
unfolding items_of
services lengths names category_lengths categories modes timeouts hops =
    (length lengths, ((lengths, names), ((category_lengths, categories), (modes, (timeouts, (hops, tt))))))

-- 7311's queues
unfoldable pub queues : List ℕ → List ℕ → List ℕ → List ℕ → List ℕ → List ℕ → Lent (field_of (list Queue))
unfolding items_of
queues lengths names counts delays enqueues dequeues =
    (length lengths, ((lengths, names), (counts, (delays, (enqueues, (dequeues, tt))))))

-- 6201's messages
unfoldable pub messages : List ℕ → List ℕ → List ℕ → List ℕ → List ℕ → List ℕ → List ℕ → List ℕ → List ℕ → List ℕ → List ℕ → List ℕ → Lent (field_of (list Message))
unfolding items_of
messages ids property_lengths properties reply_lengths replies availables type_lengths types content_lengths contents redelivereds timestamps = (
  length property_lengths,
  (ids, ((property_lengths, properties), ((reply_lengths, replies), (availables, ((type_lengths, types), ((content_lengths, contents), (redelivereds, (timestamps, tt)))))))),
)

-- the bytes of a list that is lent so
unfoldable pub list_bytes : (e : Element) → Lent (field_of (list e)) → List ℕ
list_bytes e l = encode_field (field_of (list e)) (value_lent (field_of (list e)) l)
