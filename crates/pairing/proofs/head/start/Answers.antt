use Rattle.rules.specs.Graphs.{Graph}
use Rattle.words.specs.Roles.{graph_lent}
use Rattle.pairing.proofs.Halts.{begun_halts, halts_here, halts_begun, variable_within, check_within_lem}
use Rattle.pairing.proofs.head.start.Goals as goal

pub go_further-requires-clause-within : goal.go_further-requires-clause-within
go_further-requires-clause-within c =
    let G : Graph = graph_lent c.args.graph in
    let values = c.args.values.now in
    let ready = c.requires.ready.0 in
    let here = halts_here G values ready 0 (begun_halts G values ready c.begin_within-run.ensures) in
    (variable_within G values ready _ _ here, check_within_lem G values ready _ _ here)

pub returns : goal.returns
returns c =
    let G : Graph = graph_lent c.args.graph in
    let values = c.args.values.now in
    let ready = c.requires.ready.0 in
    let here = halts_here G values ready 0 (begun_halts G values ready c.begin_within-run.ensures) in
    halts_begun G values ready c.args.half c.begin_within-run.ensures (c.go_further.ensures values ready here)
