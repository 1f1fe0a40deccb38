use Rattle.message_round_trip.proofs.Back.{connect_reply_back_lem}
use Rattle.message_round_trip.proofs.writers.connect_reply_back.Goals as goal

pub returns : goal.returns
returns c = rw (← c.request.view_is) (connect_reply_back_lem _ _ _ (record { ids = c.ids_lent.ensures; domain = c.domain_lent.ensures; version = c.number_lent.ensures }))
