use Rattle.message_round_trip.proofs.Back.{disconnect_request_back_lem}
use Rattle.message_round_trip.proofs.writers.disconnect_request_back.Goals as goal

pub returns : goal.returns
returns c = rw (← c.request.view_is) (disconnect_request_back_lem _ _ _ (record { ids = c.ids_lent.ensures }))
