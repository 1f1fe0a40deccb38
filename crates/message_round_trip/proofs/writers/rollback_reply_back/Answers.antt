use Rattle.message_round_trip.proofs.Back.{rollback_reply_back_lem}
use Rattle.message_round_trip.proofs.writers.rollback_reply_back.Goals as goal

pub returns : goal.returns
returns c = rw (← c.request.view_is) (rollback_reply_back_lem _ _ _ (record { ids = c.ids_lent.ensures; xid = c.xid_lent.ensures; resource = c.small_number_lent.ensures; state = c.small_number_lent-2.ensures }))
