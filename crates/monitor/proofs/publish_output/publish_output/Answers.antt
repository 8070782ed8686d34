use Rattle.std.proofs.Common.{length, sym, subst, ◌∙◌, refl}
use Rattle.std.proofs.lemmas.Bool.{both_ways}
use Rattle.spec_image.proofs.Common.{some_same}
use Rattle.volume.proofs.PublishVersion.Publications.{unchanged_leaves}
use Rattle.monitor.specs.Common.{last_at, IsPublishing, MayPublish}
use Rattle.monitor.proofs.WriteOut.Outs.{barred_none, finds_place, lacks_room}
use Rattle.monitor.proofs.CloseChannel.Publications.{answered_done, answered_error}
use Rattle.monitor.proofs.publish_output.publish_output.Goals as goal

pub returns-in-Ok-publish-clause-whatever : goal.returns-in-Ok-publish-clause-whatever
returns-in-Ok-publish-clause-whatever g c words found =
    let state = g.D.Disk.state in
    subst (λ ws. MayPublish (state c.args.volume.now.disk) (state c.publish.new.self.disk) c.args.volume.now.map
    c.publish.new.self.map c.args.output ws) (some_same (sym c.in-Ok.ensures.words ∙ found))
    (record { crash = c.publish.ensures.crash; others = c.publish.ensures.others; held = c.publish.ensures.held })

pub returns-in-Err-clause-whatever : goal.returns-in-Err-clause-whatever
returns-in-Err-clause-whatever g c words found =
    let state = g.D.Disk.state in
    subst (λ ws. MayPublish (state c.args.volume.now.disk) (state c.publish.new.self.disk) c.args.volume.now.map
    c.publish.new.self.map c.args.output ws) (some_same (sym c.in-Ok.ensures.words ∙ found))
    (record { crash = c.publish.ensures.crash; others = c.publish.ensures.others; held = c.publish.ensures.held })

-- nothing is touched if the last words find no place
pub returns-then-is_barred-clause-whatever : goal.returns-then-is_barred-clause-whatever
returns-then-is_barred-clause-whatever g c words found = record {
  crash = λ h f rests p at body long has. unchanged_leaves (g.D.Disk.state c.args.volume.now.disk) f _ rests
      (λ d left. g.met.D.Disk.only_now c.args.volume.now.disk d h left);
  others = λ k other. refl;
  held = λ k v at readers. (v.is_current, at);
}

pub returns-in-Ok-publish-clause-answered : goal.returns-in-Ok-publish-clause-answered
returns-in-Ok-publish-clause-answered g c =
    let size = (g.D.Disk.state c.args.volume.now.disk).size in
    let map = c.args.volume.now.map in
    let n = length c.in-Ok.words.now in
    answered_done (g.D.Disk.state c.args.volume.now.disk) (g.D.Disk.state c.publish.new.self.disk)
    c.args.volume.now.map c.publish.new.self.map c.args.volume.now.failed c.publish.new.self.failed
    c.args.channel.now c.args.output _ c.in-Ok.words.now c.in-Ok.ensures.words c.publish.result c.requires.serves
    c.publish.ensures.answer.still c.publish.ensures.answer.served _ c.in-Ok-publish.is
    (record {
      fits = λ p at. finds_place size map p c.args.output n
          (λ lacks. let none = (c.publish.ensures.room c.requires.serves p at).1 lacks in
          let ok = c.in-Ok-publish.is in cc)
          (λ barred. both_ways c.is_barred.result c.if-is_barred.false ((c.is_barred.ensures p at).1 barred));
      files = c.in-Ok-publish.ensures.done;
      readers = λ h. c.publish.ensures.readers h (λ e. let ok = c.in-Ok-publish.is in cc);
      writers = λ h. c.publish.ensures.writers h (λ e. let ok = c.in-Ok-publish.is in cc);
      map = c.in-Ok-publish.ensures.published;
      gone = c.in-Ok-publish.ensures.gone;
    })

pub returns-in-Err-clause-answered : goal.returns-in-Err-clause-answered
returns-in-Err-clause-answered g c =
    let size = (g.D.Disk.state c.args.volume.now.disk).size in
    let map = c.args.volume.now.map in
    let n = length c.in-Ok.words.now in
    answered_error (g.D.Disk.state c.args.volume.now.disk) (g.D.Disk.state c.publish.new.self.disk)
    c.args.volume.now.map c.publish.new.self.map c.args.volume.now.failed c.publish.new.self.failed
    c.args.channel.now c.args.output _ c.in-Ok.words.now c.in-Ok.ensures.words c.publish.result c.requires.serves
    c.publish.ensures.answer.still c.publish.ensures.answer.served
    (λ p at is. lacks_room size map p c.args.output n ((c.publish.ensures.room c.requires.serves p at).0 is))
    (λ p at other. finds_place size map p c.args.output n
    (λ lacks. other ((c.publish.ensures.room c.requires.serves p at).1 lacks))
    (λ barred. both_ways c.is_barred.result c.if-is_barred.false ((c.is_barred.ensures p at).1 barred)))
    c.publish.ensures.codes c.publish.ensures.given_up c.publish.ensures.answer.device
    c.publish.ensures.answer.ended c.publish.ensures.answer.counted c.in-Err.error c.unpublished_by.result c.in-Err.is
    c.unpublished_by.ensures

pub returns-then-is_barred-clause-answered : goal.returns-then-is_barred-clause-answered
returns-then-is_barred-clause-answered g c =
    let d = g.D.Disk.state c.args.volume.now.disk in
    let volume = c.args.volume.now in
    subst (IsPublishing d d volume.map volume.map volume.failed volume.failed c.args.channel.now c.args.output
    (last_at c.args.core.now c.args.channel.now)) (sym c.too_large.ensures) (
      c.in-Ok.words.now,
      c.in-Ok.ensures.words,
      refl,
      λ p at. barred_none d.size volume.map p c.args.output (length c.in-Ok.words.now)
          ((c.is_barred.ensures p at).0 c.if-is_barred.true),
      c.requires.serves,
      c.requires.serves,
    )
