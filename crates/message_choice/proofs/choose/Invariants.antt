use Rattle.std.proofs.Common.{◌≡◌, max, drop}
use Rattle.message_choice.specs.Choice.{chosen}
use Rattle.message_choice.proofs.choose.Given as goal

abbrev pub invariant-loop-offer : goal.invariant-loop-offer
invariant-loop-offer l = max l.best (chosen (drop l.offer-index l.offers)) ≡ chosen l.offers
