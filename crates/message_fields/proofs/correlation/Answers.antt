use Rattle.message_fields.proofs.Answers.{correlation_in_lem}
use Rattle.message_fields.proofs.correlation.Goals as goal

pub slice_bounds-result-end : goal.slice_bounds-result-end
slice_bounds-result-end c = correlation_in_lem c.args.version c.args.message.now c.read.result c.read.ensures c.in_ok-read.field-0 c.in_ok-read.was
