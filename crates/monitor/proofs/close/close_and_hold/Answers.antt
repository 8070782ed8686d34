use Rattle.std.proofs.Common.{◌≡◌, ◌∙◌, rules, refl, sym, ap, Some, None, slice_set}
use Rattle.spec_machine.specs.declared.call.Reply.TheVariants.{Done}
use Rattle.retrieval.specs.declared.prime.Prime.{Prime}
use Rattle.monitor.specs.Common.{last_at}
use Rattle.monitor.proofs.CloseChannel.Serves.{side_live, side_starts}
use Rattle.monitor.proofs.CloseChannel.Sides.{has_published, holds_published}
use Rattle.monitor.proofs.CloseChannel.Publications.{few_behind, held_behind, named_behind}
use Rattle.monitor.proofs.CloseChannel.PublishedAnswers.{publishes_by}
use Rattle.monitor.proofs.common.JobReaders.{job_held, few_readers}
use Rattle.monitor.proofs.close.close_and_hold.Goals as goal

pub publish_output-reply-requires-clause-live : goal.publish_output-reply-requires-clause-live
publish_output-reply-requires-clause-live g c =
    side_live c.requires.ready c.args.number c.args.channel c.requires.there c.args.output c.requires.side

pub publish_output-reply-requires-clause-starts : goal.publish_output-reply-requires-clause-starts
publish_output-reply-requires-clause-starts g c =
    side_starts c.requires.ready c.args.number c.args.channel c.requires.there c.args.output c.requires.side

pub publish_output-reply-requires-clause-placed : goal.publish_output-reply-requires-clause-placed
publish_output-reply-requires-clause-placed g c p at = c.requires.ready.placed.each c.args.output.pending.key p at

pub prime_of-prime-requires : goal.prime_of-prime-requires
prime_of-prime-requires g c = record {
  there = side_live c.requires.ready c.args.number c.args.channel c.requires.there c.args.output c.requires.side;
}

pub renew-renewed-requires-clause-there : goal.renew-renewed-requires-clause-there
renew-renewed-requires-clause-there g c =
    let state = g.D.Disk.state in
    let old = c.args.volume.now in
    let mid = c.publish_output-reply.new.volume in
    let by = publishes_by state old.disk mid.disk mid.disk old.map mid.map old.failed mid.failed mid.failed
    c.args.channel c.args.output (last_at c.args.job.now.core c.args.channel) c.publish_output-reply.result
    (refl, refl) c.publish_output-reply.ensures.whatever
    c.publish_output-reply.ensures.answered c.publish_output-reply.ensures.same in
    let done : c.publish_output-reply.result ≡ Done = search rules in
    let has = has_published by done in
    named_behind c.args.output {last = has.0} (by.whatever has.0 has.1) has.2
    (side_live c.requires.ready c.args.number c.args.channel c.requires.there c.args.output c.requires.side)
    c.prime_of-prime.result.ppn c.prime_of-prime.result.file (λ p at. let is = c.prime_of-prime.ensures p at in
    (ap (λ (q : Prime). q.ppn) is, ap (λ (q : Prime). q.file) is))

pub renew-renewed-requires-clause-few : goal.renew-renewed-requires-clause-few
renew-renewed-requires-clause-few g c =
    let state = g.D.Disk.state in
    let old = c.args.volume.now in
    let mid = c.publish_output-reply.new.volume in
    let by = publishes_by state old.disk mid.disk mid.disk old.map mid.map old.failed mid.failed mid.failed
    c.args.channel c.args.output (last_at c.args.job.now.core c.args.channel) c.publish_output-reply.result
    (refl, refl) c.publish_output-reply.ensures.whatever
    c.publish_output-reply.ensures.answered c.publish_output-reply.ensures.same in
    let done : c.publish_output-reply.result ≡ Done = search rules in
    let has = has_published by done in
    few_behind c.args.output {last = has.0} (by.whatever has.0 has.1) has.2
    (side_live c.requires.ready c.args.number c.args.channel c.requires.there c.args.output c.requires.side)
    (few_readers old.map.live c.requires.ready.jobs c.requires.ready.among.reading)

pub renew-renewed-requires-clause-held : goal.renew-renewed-requires-clause-held
renew-renewed-requires-clause-held g c =
    let state = g.D.Disk.state in
    let old = c.args.volume.now in
    let mid = c.publish_output-reply.new.volume in
    let by = publishes_by state old.disk mid.disk mid.disk old.map mid.map old.failed mid.failed mid.failed
    c.args.channel c.args.output (last_at c.args.job.now.core c.args.channel) c.publish_output-reply.result
    (refl, refl) c.publish_output-reply.ensures.whatever
    c.publish_output-reply.ensures.answered c.publish_output-reply.ensures.same in
    let done : c.publish_output-reply.result ≡ Done = search rules in
    let has = has_published by done in
    let ready = c.requires.ready in
    held_behind c.args.output {last = has.0} (by.whatever has.0 has.1) has.2
    (side_live ready c.args.number c.args.channel c.requires.there c.args.output c.requires.side) c.args.job.now
    c.args.number c.args.channel c.requires.there
    (job_held old.map.live ready.jobs ready.number c.args.job.now ready.among.reading ready.among.there)
    (Some c.args.input) (sym c.requires.reads)

pub returns-then-eq-clause-published : goal.returns-then-eq-clause-published
returns-then-eq-clause-published g c =
    let state = g.D.Disk.state in
    let old = c.args.volume.now in
    let mid = c.publish_output-reply.new.volume in
    let new = c.renew-renewed.new.volume in
    let core = c.close_rings.ensures in
    let status = c.cleared.ensures.value in (
      mid.map,
      publishes_by state old.disk mid.disk new.disk old.map mid.map old.failed mid.failed new.failed
          c.args.channel c.args.output (last_at c.args.job.now.core c.args.channel) c.publish_output-reply.result
          c.renew-renewed.ensures.untouched c.publish_output-reply.ensures.whatever
          c.publish_output-reply.ensures.answered c.publish_output-reply.ensures.same,
      λ done. holds_published state mid.disk new.disk old.map mid.map new.map mid.failed c.args.output.pending.key
          c.args.job.now c.set_channel.new.self c.args.number c.args.channel c.args.input c.renew-renewed.result
          c.prime_of-prime.result c.renew-renewed.ensures.untouched.0 c.has_failed-failed.ensures.sound
          c.renew-renewed.ensures.renews c.prime_of-prime.ensures
          (c.set_channel.ensures ∙ (λ i. record c.args.job.now {
            core = core i;
            channels = slice_set c.args.job.now.channels c.args.number (Some
                (record c.args.channel { status = status i; input = Some c.renew-renewed.result; output = None }));
          })),
    )

pub returns-else-eq-clause-published : goal.returns-else-eq-clause-published
returns-else-eq-clause-published g c =
    let old = c.args.volume.now in
    let mid = c.publish_output-reply.new.volume in
    let not : c.publish_output-reply.result ≡ Done → ⊥ = search rules in (
      mid.map,
      publishes_by g.D.Disk.state old.disk mid.disk mid.disk old.map mid.map old.failed mid.failed mid.failed
          c.args.channel c.args.output (last_at c.args.job.now.core c.args.channel) c.publish_output-reply.result
          (refl, refl) c.publish_output-reply.ensures.whatever
          c.publish_output-reply.ensures.answered c.publish_output-reply.ensures.same,
      λ done. absurd (not done),
    )
