use Rattle.std.proofs.Common.{◌+◌, ◌∙◌, ℕ, refl, sym, ap, subst, Some, Err, slice_set}
use Rattle.spec_image.specs.Common.{number_of, pack_of}
use Rattle.spec_machine.specs.Common.{with_right, place_at}
use Rattle.spec_machine.specs.declared.call.Reply.TheVariants.{Refused}
use Rattle.volume.specs.Common.{begun}
use Rattle.monitor.specs.Common.{entered_kind, IsAnswer, begin_answer_at, job_of, reader_of}
use Rattle.monitor.proofs.EnterFile.Readers.{reading_entered}
use Rattle.monitor.proofs.EnterFile.Enters.{done, refused, wanting}
use Rattle.monitor.proofs.common.PlacedVersions.{placed_begun}
use Rattle.spec_machine.proofs.Common.{is_none_of}
use Rattle.monitor.proofs.enter.enter.Goals as goal

pub returns-in-Ok-clause-begun : goal.returns-in-Ok-clause-begun
returns-in-Ok-clause-begun g c is = (
  c.in-Some.channel,
  c.in-Ok.pending.key,
  c.in-Ok.prime,
  record {
    there = sym c.channel.ensures ∙ c.in-Some.is;
    free = is_none_of c.in-Some.channel.output (sym c.is_some.ensures ∙ c.if-is_some.false);
    unread = ap reader_of (sym (sym c.channel.ensures ∙ c.in-Some.is)) ∙ c.requires.unread;
    begins = c.in-Ok.ensures.begun.0;
    bare = c.in-Ok.ensures.begun.1;
    begun = c.in-Ok.ensures.begun.2;
    at = c.in-Ok.ensures.prime;
    kind = c.kind_of.result;
    kind_is = c.kind_of.ensures (begun c.in-Ok.ensures.begun.0 c.in-Ok.prime c.in-Ok.ensures.begun.2.old)
        c.in-Ok.ensures.begun.2.here ∙ ap entered_kind c.in-Ok.ensures.begun.2.is_new;
    job_is = c.set_channel.ensures ∙ (λ i. record c.args.job.now {
      core = c.put_attributes.ensures i;
      channels = slice_set c.args.job.now.channels c.args.number
          (Some (record c.in-Some.channel {
            status = c.cleared.ensures.value i;
            output = Some (record { pending = c.in-Ok.pending; kind = c.kind_of.result; next = 1 });
          }));
    });
  },
  λ h files rests. c.in-Ok.ensures.protection h c.requires.alive files rests,
)

pub returns-in-Ok-clause-row : goal.returns-in-Ok-clause-row
returns-in-Ok-clause-row g c h s known w =
    done (pack_of (g.D.Disk.state c.args.volume.now.disk)) s w c.args.job.now c.args.number c.args.address
    c.in-Some.channel (sym c.channel.ensures ∙ c.in-Some.is) (sym c.lies_outside.ensures.value
    ∙ c.if-lies_outside.false)
    (is_none_of c.in-Some.channel.output (sym c.is_some.ensures ∙ c.if-is_some.false))
    (ap reader_of (sym (sym c.channel.ensures ∙ c.in-Some.is)) ∙ c.requires.unread) _
    (c.in-Ok.ensures.answered h c.requires.alive s known w)

pub returns-in-Err-Refused-clause-row : goal.returns-in-Err-Refused-clause-row
returns-in-Err-Refused-clause-row g c h s known w =
    refused (pack_of (g.D.Disk.state c.args.volume.now.disk)) s w c.args.job.now c.args.number c.args.address
    c.in-Some.channel (sym c.channel.ensures ∙ c.in-Some.is) (sym c.lies_outside.ensures.value
    ∙ c.if-lies_outside.false)
    (is_none_of c.in-Some.channel.output (sym c.is_some.ensures ∙ c.if-is_some.false))
    (ap reader_of (sym (sym c.channel.ensures ∙ c.in-Some.is)) ∙ c.requires.unread) c.refuse-in-Err-Refused.new.core
    c.refuse-in-Err-Refused.result c.in-Err-Refused.code (c.refuse-in-Err-Refused.ensures.answered
    ∙ ap (λ x. Refused (number_of x)) c.in-Err-Refused.code-is)
    (c.refuse-in-Err-Refused.ensures.kept
    ∙ ap (λ x. with_right c.args.job.now.core (c.args.address + 1) (number_of x)) c.in-Err-Refused.code-is)
    (subst (λ x. IsAnswer {X = ℕ} (Err x) (begin_answer_at (pack_of (g.D.Disk.state c.args.volume.now.disk)) s
    (job_of w c.args.job.now) (place_at (job_of w c.args.job.now) c.args.address))) c.in-Err-Refused.field-0-is
    (c.in-Err-Refused.ensures.answered h c.requires.alive s known w))

pub returns-in-Err-NoMemory-clause-row : goal.returns-in-Err-NoMemory-clause-row
returns-in-Err-NoMemory-clause-row g c h s known w =
    wanting (pack_of (g.D.Disk.state c.args.volume.now.disk)) s w c.args.job.now c.args.number c.args.address
    c.in-Some.channel (sym c.channel.ensures ∙ c.in-Some.is) (sym c.lies_outside.ensures.value
    ∙ c.if-lies_outside.false)
    (is_none_of c.in-Some.channel.output (sym c.is_some.ensures ∙ c.if-is_some.false))
    (ap reader_of (sym (sym c.channel.ensures ∙ c.in-Some.is)) ∙ c.requires.unread)
    (subst (λ x. IsAnswer {X = ℕ} (Err x) (begin_answer_at (pack_of (g.D.Disk.state c.args.volume.now.disk)) s
    (job_of w c.args.job.now) (place_at (job_of w c.args.job.now) c.args.address))) c.in-Err-NoMemory.field-0-is
    (c.in-Err-NoMemory.ensures.answered h c.requires.alive s known w))

pub returns-in-Ok-clause-placed : goal.returns-in-Ok-clause-placed
returns-in-Ok-clause-placed g c placed =
    placed_begun c.args.volume.now.map c.begin_at.new.volume.map c.in-Ok.pending.key c.in-Ok.ensures.begun.0
    c.in-Ok.prime c.in-Ok.ensures.begun.2 c.in-Ok.ensures.free.0 c.in-Ok.ensures.free.1 placed

pub returns-in-Ok-clause-reads : goal.returns-in-Ok-clause-reads
returns-in-Ok-clause-reads g c =
    let begun = returns-in-Ok-clause-begun g c refl in
    reading_entered c.args.volume.now.map c.begin_at.new.volume.map c.args.job.now c.set_channel.new.self
    c.args.number c.args.address c.args.moment begun.0 begun.1 begun.2 begun.3
