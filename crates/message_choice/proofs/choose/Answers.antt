use Rattle.std.proofs.Common.{◌∙◌}
use Rattle.message_choice.proofs.Choosing.{choose_next, choose_all}
use Rattle.message_choice.proofs.choose.Goals as goal

pub loop-offer-preserved : goal.loop-offer-preserved
loop-offer-preserved c =
    let l = c.loop-offer in
    choose_next c.args.offers.now l.offer-index l.best c.better-best.result c.loop-offer-test.true c.better-best.ensures ∙ l.invariant

pub returns : goal.returns
returns c = let l = c.loop-offer in choose_all c.args.offers.now l.offer-index l.best _ c.loop-offer-test.false l.invariant
