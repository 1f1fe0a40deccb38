use Rattle.message_round_trip.proofs.Back.{discovery_reply_back_lem}
use Rattle.message_round_trip.proofs.writers.discovery_reply_back.Goals as goal

pub returns : goal.returns
returns c = rw (← c.request.view_is) (discovery_reply_back_lem _ _ _ (record { ids = c.ids_lent.ensures; domain = c.domain_lent.ensures; service_names = c.strings_lent.ensures; categories = c.strings_lent-2.ensures; modes = c.numbers_lent.ensures; timeouts = c.numbers_lent-2.ensures; hops = c.numbers_lent-3.ensures; queue_names = c.strings_lent-3.ensures; retry_counts = c.numbers_lent-4.ensures; retry_delays = c.numbers_lent-5.ensures; enqueues = c.numbers_lent-6.ensures; dequeues = c.numbers_lent-7.ensures }))
