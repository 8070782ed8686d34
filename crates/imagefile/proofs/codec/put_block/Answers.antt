use Rattle.std.proofs.Common.{◌∙◌, sym, ap}
use Rattle.imagefile.specs.Common.{block_content}
use Rattle.imagefile.proofs.Contents.{content_read}
use Rattle.imagefile.proofs.codec.put_block.Goals as goal

pub returns-in-Wide-clause-words : goal.returns-in-Wide-clause-words
returns-in-Wide-clause-words c =
    let bytes = c.copy_from_slice.new.self in
    ap (λ form. block_content form bytes) c.in-Wide.is
    ∙ content_read c.args.block.now bytes c.block_to_bytes.ensures.words
    (sym (c.copy_from_slice.ensures.after ∙ c.block_to_bytes.ensures.bytes))
