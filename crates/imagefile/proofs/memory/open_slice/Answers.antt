use Rattle.std.proofs.Common.{◌≡◌, ◌∙◌, ◌+◌, true, length, replicate, slice_range, refl, ap, arith, rules}
use Rattle.std.proofs.lemmas.List.{length-replicate, places}
use Rattle.std.proofs.lemmas.List.Edits.{paste_all}
use Rattle.std.proofs.lemmas.Slice.{put_mid-paste}
use Rattle.imagefile.specs.Common.{put}
use Rattle.imagefile.proofs.memory.open_slice.Goals as goal

pub returns : goal.returns
unfolding put
returns c =
    let all = c.args.opened.now in
    let marks = replicate c.args.count true in
    let long : length (slice_range all c.args.at (c.args.at + c.args.count)) ≡ c.args.count = search (rules, places) in
    put_mid-paste c.args.at _ all c.fill.new.self marks (length marks) (c.fill.ensures.after (λ y same. same)
    ∙ ap (λ k. replicate k true) long)
    (omega (arith, length-replicate c.args.count true)) refl ∙ paste_all all c.args.at marks (length marks) refl
