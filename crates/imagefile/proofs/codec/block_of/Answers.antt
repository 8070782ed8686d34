use Rattle.std.proofs.Common.{◌≡◌, ◌∙◌, sym, ap, Err}
use Rattle.imagefile.specs.Common.{block_content}
use Rattle.imagefile.specs.declared.form.Form.TheVariants.{Wide}
use Rattle.imagefile.proofs.Contents.{content_read, content_refused}
use Rattle.imagefile.proofs.codec.block_of.Goals as goal

pub returns-in-Ok-block_from_bytes : goal.returns-in-Ok-block_from_bytes
returns-in-Ok-block_from_bytes c =
    let own : c.in-Ok.own.now ≡ c.args.bytes.now = (c.in-Ok.ensures.1).same in
    let p = c.in-Ok-block_from_bytes.ensures in
    sym (ap (λ form. block_content form c.args.bytes.now) c.in-Wide.is
    ∙ content_read c.in-Ok-block_from_bytes.block c.args.bytes.now p.words (p.read ∙ own))

pub returns-in-Err : goal.returns-in-Err
returns-in-Err c =
    let own : c.in-Ok.own.now ≡ c.args.bytes.now = (c.in-Ok.ensures.1).same in
    let which = c.in-Err.ensures.refused in
    sym (ap (λ form. block_content form c.args.bytes.now) c.in-Wide.is
    ∙ ap (block_content Wide) (sym own)
    ∙ content_refused c.in-Ok.own.now which.0 ((c.in-Err.ensures.bad which.0).0 (ap Err which.1)))
