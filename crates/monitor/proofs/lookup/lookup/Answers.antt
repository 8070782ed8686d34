use Rattle.std.proofs.Common.{◌∙◌, sym, ap, refl, Some, slice_set, subst}
use Rattle.spec_machine.proofs.Common.{is_none_of}
use Rattle.monitor.specs.Common.{channel_of}
use Rattle.monitor.specs.declared.job.Job.{Job}
use Rattle.monitor.proofs.common.EventAnswers.{nothing}
use Rattle.monitor.proofs.LookupFile.Lookups.{old_held, looks_reading, is_found, refused, done, free_still}
use Rattle.monitor.proofs.lookup.lookup.Goals as goal

pub release_input-requires : goal.release_input-requires
release_input-requires g c = record {
  held =
      old_held c.args.volume.now.map c.find_input.new.volume.map c.in-Ok.input
      (record {
        at = c.in-Ok.ensures.at;
        pinned = c.in-Ok.ensures.pinned;
        others = c.in-Ok.ensures.others;
        map = c.in-Ok.ensures.map;
      }) c.args.job.now c.args.number
      c.in-Some.channel (sym c.channel.ensures ∙ c.in-Some.is) c.requires.held;
}

pub returns-in-Ok-clause-looked : goal.returns-in-Ok-clause-looked
returns-in-Ok-clause-looked g c is =
    let core = ap (λ (j : Job). j.core) c.set_channel.ensures in
    let back = sym core in
    let status = c.cleared.ensures.value in (
      c.in-Some.channel,
      c.in-Ok.input,
      c.find_input.new.volume.map,
      record {
        there = sym c.channel.ensures ∙ c.in-Some.is;
        free = is_none_of c.in-Some.channel.output (sym c.is_some.ensures ∙ c.if-is_some.false);
        next = c.in-Ok.ensures.next;
        place = c.in-Ok.ensures.place;
        holds = record {
          at = c.in-Ok.ensures.at;
          pinned = c.in-Ok.ensures.pinned;
          others = c.in-Ok.ensures.others;
          map = c.in-Ok.ensures.map;
        };
        closed = c.release_input.ensures.closed;
        job_is = c.set_channel.ensures
            ∙ (λ i. record c.args.job.now {
              core = back i;
              channels = slice_set c.args.job.now.channels c.args.number
                  (Some (record c.in-Some.channel { status = status i; input = Some c.in-Ok.input }));
            });
      },
      λ h s known. is_found (g.D.Disk.state c.args.volume.now.disk).contents c.find_input.new.volume.map.live
          s nothing c.args.job.now c.set_channel.new.self c.args.address c.in-Ok.input c.in-Ok.facts
          (c.in-Ok.ensures.place nothing)
          (c.in-Ok.ensures.answered (subst (λ disk. (g.D.Disk.state disk).honest) c.release_input.ensures.untouched.0 h)
          s known nothing (channel_of nothing c.in-Some.channel) (free_still nothing c.in-Some.channel
          (is_none_of c.in-Some.channel.output (sym c.is_some.ensures ∙ c.if-is_some.false)))
          (sym c.lies_outside.ensures.value ∙ c.if-lies_outside.false)).1
          (λ file shown short. core ∙ c.put_found.ensures file shown short),
    )

pub returns-in-Ok-clause-reads : goal.returns-in-Ok-clause-reads
returns-in-Ok-clause-reads g c =
    let l = returns-in-Ok-clause-looked g c refl in
    looks_reading c.args.volume.now.map l.2 c.release_input.new.volume.map c.args.job.now c.set_channel.new.self
    c.args.number c.args.address l.0 l.1 l.3

pub returns-in-Ok-clause-row : goal.returns-in-Ok-clause-row
returns-in-Ok-clause-row g c h s known w =
    let there = sym c.channel.ensures ∙ c.in-Some.is in
    let free = is_none_of c.in-Some.channel.output (sym c.is_some.ensures ∙ c.if-is_some.false) in
    done s w c.args.job.now c.args.number c.args.address c.in-Some.channel there _
    (c.in-Ok.ensures.answered (subst (λ disk. (g.D.Disk.state disk).honest) c.release_input.ensures.untouched.0 h)
    s known w (channel_of w c.in-Some.channel) (free_still w c.in-Some.channel free) (sym c.lies_outside.ensures.value
    ∙ c.if-lies_outside.false)).0

pub returns-in-Err-clause-row : goal.returns-in-Err-clause-row
returns-in-Err-clause-row g c h s known w =
    let there = sym c.channel.ensures ∙ c.in-Some.is in
    let free = is_none_of c.in-Some.channel.output (sym c.is_some.ensures ∙ c.if-is_some.false) in
    refused s w c.args.job.now c.args.number c.args.address c.in-Some.channel there c.refuse-in-Err.new.core
    c.refuse-in-Err.result c.in-Err.code c.refuse-in-Err.ensures.answered c.refuse-in-Err.ensures.kept
    (c.in-Err.ensures.answered h s known w (channel_of w c.in-Some.channel) (free_still w c.in-Some.channel free)
    (sym c.lies_outside.ensures.value ∙ c.if-lies_outside.false))
