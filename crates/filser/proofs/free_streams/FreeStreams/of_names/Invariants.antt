use Rattle.std.proofs.Common.{IsTrue, IsFalse, All, take}
use Rattle.std.specs.Prelude.{Any}
use Rattle.filser.specs.Common.{BarsErrors, BarsOutput, SparesErrors, SparesOutput}
use Rattle.filser.proofs.free_streams.FreeStreams.of_names.Given as goal

abbrev pub invariant-loop-name : goal.invariant-loop-name
invariant-loop-name g l = record {
  output : IsTrue l.free.output
      → All (λ n. SparesOutput (g.H.Host.facts l.host) n.now) (take l.name-index l.names);
  errors : IsTrue l.free.errors
      → All (λ n. SparesErrors (g.H.Host.facts l.host) n.now) (take l.name-index l.names);
  no_output : IsFalse l.free.output
      → Any (λ n. BarsOutput (g.H.Host.facts l.host) n.now) (take l.name-index l.names);
  no_errors : IsFalse l.free.errors
      → Any (λ n. BarsErrors (g.H.Host.facts l.host) n.now) (take l.name-index l.names);
}
