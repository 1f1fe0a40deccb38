use Rattle.message_round_trip.proofs.Back.{dequeue_reply_back_lem}
use Rattle.message_round_trip.proofs.writers.dequeue_reply_back.Goals as goal

pub returns : goal.returns
returns c = rw (← c.request.view_is) (dequeue_reply_back_lem _ _ _ (record { ids = c.ids_lent.ensures; message_ids = c.bytes_lent.ensures; properties = c.strings_lent.ensures; reply_queues = c.strings_lent-2.ensures; availables = c.numbers_lent.ensures; data_types = c.strings_lent-3.ensures; data_bytes = c.strings_lent-4.ensures; redelivereds = c.numbers_lent-2.ensures; timestamps = c.numbers_lent-3.ensures }))
