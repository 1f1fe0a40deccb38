use Rattle.message_round_trip.proofs.Back.{service_reply_back_lem}
use Rattle.message_round_trip.proofs.writers.service_reply_back.Goals as goal

pub returns : goal.returns
returns c = rw (← c.request.view_is) (service_reply_back_lem _ _ _ (record { ids = c.ids_lent.ensures; code_result = c.small_number_lent.ensures; code_user = c.number_lent.ensures; transaction_state = c.number_lent-2.ensures; buffer_type = c.bytes_lent.ensures; buffer_data = c.bytes_lent-2.ensures }))
