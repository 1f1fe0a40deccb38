use Rattle.message_round_trip.proofs.Back.{rollback_request_back_lem}
use Rattle.message_round_trip.proofs.writers.rollback_request_back.Goals as goal

pub returns : goal.returns
returns c = rw (← c.request.view_is) (rollback_request_back_lem _ _ _ (record { ids = c.ids_lent.ensures; xid = c.xid_lent.ensures; resource = c.small_number_lent.ensures; flags = c.number_lent.ensures }))
