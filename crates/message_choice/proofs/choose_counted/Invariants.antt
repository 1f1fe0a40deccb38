use Rattle.std.proofs.Common.{◌≡◌, ◌+◌, ◌-◌, max}
use Rattle.message_choice.specs.Choice.{chosen, numbers_at}
use Rattle.message_choice.proofs.choose_counted.Given as goal

abbrev pub invariant-loop : goal.invariant-loop
invariant-loop l = max l.best (chosen (numbers_at (l.count - l.counter) l.rest 0)) ≡ chosen (numbers_at l.count l.s (l.place + 8))
