use Rattle.link_script.proofs.Laws.{performs}
use Rattle.link_script.proofs.perform.perform.Goals as goal

pub returns : goal.returns
returns c = let z = c.zeroed-did in
    performs (record { endpoint = c.args.e; store = c.args.store.now }) c.args.entry c.args.bytes.now c.args.out.now c.requires z.result z.new.store z.new.out c.write_head.new.out z.ensures c.write_head.ensures
