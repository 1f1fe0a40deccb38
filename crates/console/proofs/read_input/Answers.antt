use Rattle.console.proofs.read_input.Goals as goal
use Rattle.console.proofs.Limited.{cut-limited}

pub returns-clause-bytes : goal.returns-clause-bytes
returns-clause-bytes g c =
    cut-limited g.R.Read.remaining _ c.take.ensures.inner c.take.ensures.limit c.new-read.ensures.items c.in_ok-read_to_end.ensures.bytes c.truncate.ensures.items
