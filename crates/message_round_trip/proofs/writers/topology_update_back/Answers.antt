use Rattle.message_round_trip.proofs.Back.{topology_update_back_lem}
use Rattle.message_round_trip.proofs.writers.topology_update_back.Goals as goal

pub returns : goal.returns
returns c = rw (← c.request.view_is) (topology_update_back_lem _ _ _ (record { ids = c.ids_lent.ensures; domain_ids = c.bytes_lent.ensures; domain_names = c.strings_lent.ensures }))
