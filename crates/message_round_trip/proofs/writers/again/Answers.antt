use Rattle.message_round_trip.proofs.Every.{every_writer}
use Rattle.message_round_trip.proofs.writers.again.Goals as goal

pub returns : goal.returns
returns c = (every_writer _).again _ _ c.bytes_lent.ensures.1
