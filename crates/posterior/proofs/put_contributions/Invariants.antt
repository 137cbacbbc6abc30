use mathlib.Core.Path.{◌≡◌}
use Rattle.rules.specs.Ranges.{tabulate}
use Rattle.rules.specs.Nodes.{contribution}
use Rattle.nodes.proofs.Halves.{made_of}
use Rattle.posterior.proofs.put_contributions.Given as goal

abbrev pub invariant-loop-m : goal.invariant-loop-m
invariant-loop-m l = l.parts ≡ tabulate (made_of (contribution 1) l.m) 256
