use Rattle.message_round_trip.proofs.Back.{discovery_request_back_lem}
use Rattle.message_round_trip.proofs.writers.discovery_request_back.Goals as goal

pub returns : goal.returns
returns c = rw (← c.request.view_is) (discovery_request_back_lem _ _ _ (record { ids = c.ids_lent.ensures; domain = c.domain_lent.ensures; services = c.strings_lent.ensures; queues = c.strings_lent-2.ensures }))
