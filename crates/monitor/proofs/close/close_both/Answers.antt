use Rattle.std.proofs.Common.{◌≡◌, rules, refl}
use Rattle.spec_machine.specs.declared.call.Reply.TheVariants.{Done}
use Rattle.monitor.specs.Common.{last_at}
use Rattle.monitor.proofs.CloseChannel.Serves.{side_live, side_starts}
use Rattle.monitor.proofs.CloseChannel.Sides.{has_published}
use Rattle.monitor.proofs.CloseChannel.Publications.{held_behind}
use Rattle.monitor.proofs.CloseChannel.PublishedAnswers.{publishes_by}
use Rattle.monitor.proofs.common.JobReaders.{job_held}
use Rattle.monitor.proofs.close.close_both.Goals as goal

pub publish_output-reply-requires-clause-live : goal.publish_output-reply-requires-clause-live
publish_output-reply-requires-clause-live g c =
    side_live c.requires.ready c.args.number c.args.channel c.requires.there c.args.output c.requires.side

pub publish_output-reply-requires-clause-starts : goal.publish_output-reply-requires-clause-starts
publish_output-reply-requires-clause-starts g c =
    side_starts c.requires.ready c.args.number c.args.channel c.requires.there c.args.output c.requires.side

pub publish_output-reply-requires-clause-placed : goal.publish_output-reply-requires-clause-placed
publish_output-reply-requires-clause-placed g c p at = c.requires.ready.placed.each c.args.output.pending.key p at

pub release_input-requires : goal.release_input-requires
release_input-requires g c =
    let state = g.D.Disk.state in
    let old = c.args.volume.now in
    let ready = c.requires.ready in
    let mid = c.publish_output-reply.new.volume in
    let by = publishes_by state old.disk mid.disk mid.disk old.map mid.map old.failed mid.failed mid.failed
    c.args.channel c.args.output (last_at c.args.job.now.core c.args.channel) c.publish_output-reply.result
    (refl, refl) c.publish_output-reply.ensures.whatever
    c.publish_output-reply.ensures.answered c.publish_output-reply.ensures.same in
    let done : c.publish_output-reply.result ≡ Done = search rules in
    let has = has_published by done in
    record {
      held = held_behind c.args.output {last = has.0} (by.whatever has.0 has.1) has.2
          (side_live ready c.args.number c.args.channel c.requires.there c.args.output c.requires.side) c.args.job.now
          c.args.number c.args.channel c.requires.there
          (job_held old.map.live ready.jobs ready.number c.args.job.now ready.among.reading ready.among.there)
          c.args.channel.input refl;
    }

pub returns-then-eq-clause-published : goal.returns-then-eq-clause-published
returns-then-eq-clause-published g c =
    let old = c.args.volume.now in
    let mid = c.publish_output-reply.new.volume in
    let new = c.release_input.new.volume in (
      mid.map,
      publishes_by g.D.Disk.state old.disk mid.disk new.disk old.map mid.map old.failed mid.failed new.failed
          c.args.channel c.args.output (last_at c.args.job.now.core c.args.channel) c.publish_output-reply.result
          c.release_input.ensures.untouched c.publish_output-reply.ensures.whatever
          c.publish_output-reply.ensures.answered c.publish_output-reply.ensures.same,
      λ done. record { closed = c.release_input.ensures.closed; pending = c.release_input.ensures.pending },
    )

pub returns-else-eq-clause-published : goal.returns-else-eq-clause-published
returns-else-eq-clause-published g c =
    let old = c.args.volume.now in
    let mid = c.publish_output-reply.new.volume in
    let not : c.publish_output-reply.result ≡ Done → ⊥ = search rules in (
      mid.map,
      publishes_by g.D.Disk.state old.disk mid.disk mid.disk old.map mid.map old.failed mid.failed mid.failed
          c.args.channel c.args.output (last_at c.args.job.now.core c.args.channel) c.publish_output-reply.result
          (refl, refl) c.publish_output-reply.ensures.whatever
          c.publish_output-reply.ensures.answered c.publish_output-reply.ensures.same,
      λ done. absurd (not done),
    )
