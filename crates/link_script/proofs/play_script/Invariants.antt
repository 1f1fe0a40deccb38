use Rattle.std.proofs.Common.{◌-◌}
use Rattle.link_script.specs.Play.{start_of}
use Rattle.link_script.proofs.Turns.{At, standing}
use Rattle.link_script.proofs.play_script.Given as goal

abbrev pub invariant-loop : goal.invariant-loop
invariant-loop l = At l.n (start_of l.initial.played.endpoint l.initial.store l.initial.transcript) l.script (l.n - l.counter) (standing l.played.entries l.played.used l.played.written l.played.endpoint l.store l.transcript)
