use Rattle.message_round_trip.proofs.Back.{connect_request_back_lem}
use Rattle.message_round_trip.proofs.writers.connect_request_back.Goals as goal

pub returns : goal.returns
returns c = rw (← c.request.view_is) (connect_request_back_lem _ _ _ (record { ids = c.ids_lent.ensures; domain = c.domain_lent.ensures; versions = c.numbers_lent.ensures }))
