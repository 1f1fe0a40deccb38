use Rattle.message_round_trip.proofs.Back.{disconnect_reply_back_lem}
use Rattle.message_round_trip.proofs.writers.disconnect_reply_back.Goals as goal

pub returns : goal.returns
returns c = rw (← c.request.view_is) (disconnect_reply_back_lem _ _ _ (record { ids = c.ids_lent.ensures }))
