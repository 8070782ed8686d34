use Rattle.std.proofs.Common.{◌∙◌, length, refl, arith}
use Rattle.std.proofs.lemmas.List.Edits.{paste_all}
use Rattle.std.proofs.lemmas.Slice.{put_mid-paste}
use Rattle.imagefile.specs.Common.{put}
use Rattle.imagefile.proofs.memory.put_slice.Goals as goal

pub returns : goal.returns
unfolding put
returns c =
    let all = c.args.all.now in
    let bytes = c.args.bytes.now in
    put_mid-paste c.args.at _ all c.copy_from_slice.new.self bytes (length bytes) c.copy_from_slice.ensures.after
    (omega arith) refl ∙ paste_all all c.args.at bytes (length bytes) refl
