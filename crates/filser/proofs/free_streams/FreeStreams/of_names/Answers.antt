use Rattle.std.proofs.Common.{inl, inr, ⊎_elim, arith}
use Rattle.filser.specs.Common.{BarsErrors, BarsOutput, SparesErrors, SparesOutput}
use Rattle.filser.proofs.NamedStreams.{barred_all, barred_more, named_all, named_more}
use Rattle.filser.proofs.free_streams.FreeStreams.of_names.Goals as goal

pub loop-name-preserved : goal.loop-name-preserved
loop-name-preserved g c = record {
  output = λ free.
      let p = c.besides-free.ensures.output free in
      named_more (λ n. SparesOutput (g.H.Host.facts c.args.host.now) n.now) c.args.names.now c.loop-name.name-index _
      (omega arith) (c.loop-name.invariant.output p.0) p.1;
  errors = λ free.
      let p = c.besides-free.ensures.errors free in
      named_more (λ n. SparesErrors (g.H.Host.facts c.args.host.now) n.now) c.args.names.now c.loop-name.name-index _
      (omega arith) (c.loop-name.invariant.errors p.0) p.1;
  no_output = λ barred.
      barred_more (λ n. BarsOutput (g.H.Host.facts c.args.host.now) n.now) c.args.names.now c.loop-name.name-index _
      (omega arith) (⊎_elim (λ before. inl (c.loop-name.invariant.no_output before)) (λ here. inr here)
      (c.besides-free.ensures.no_output barred));
  no_errors = λ barred.
      barred_more (λ n. BarsErrors (g.H.Host.facts c.args.host.now) n.now) c.args.names.now c.loop-name.name-index _
      (omega arith) (⊎_elim (λ before. inl (c.loop-name.invariant.no_errors before)) (λ here. inr here)
      (c.besides-free.ensures.no_errors barred));
}

pub returns : goal.returns
returns g c = record {
  output = λ free. named_all (SparesOutput (g.H.Host.facts c.args.host.now)) (λ n. n.now) c.args.names.now
      c.loop-name.name-index (omega arith) (c.loop-name.invariant.output free);
  errors = λ free. named_all (SparesErrors (g.H.Host.facts c.args.host.now)) (λ n. n.now) c.args.names.now
      c.loop-name.name-index (omega arith) (c.loop-name.invariant.errors free);
  no_output = λ barred. barred_all (BarsOutput (g.H.Host.facts c.args.host.now)) (λ n. n.now) c.args.names.now
      c.loop-name.name-index (omega arith) (c.loop-name.invariant.no_output barred);
  no_errors = λ barred. barred_all (BarsErrors (g.H.Host.facts c.args.host.now)) (λ n. n.now) c.args.names.now
      c.loop-name.name-index (omega arith) (c.loop-name.invariant.no_errors barred);
}
