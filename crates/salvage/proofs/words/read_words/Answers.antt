use Rattle.std.proofs.Common.{◌≡◌, ℕ, take, subst}
use Rattle.spec_image.specs.Common.{words_from}
use Rattle.salvage.proofs.WholeBodies.{read_whole, never_damaged}
use Rattle.salvage.proofs.words.read_words.Goals as goal

pub returns-in-Ok-clause-words : goal.returns-in-Ok-clause-words
returns-in-Ok-clause-words g c h all =
    let s = g.D.Disk.state c.args.disk.now in
    let v = c.args.file.now.stored.version in
    read_whole s.contents v.blocks c.in-Ok.words.items v.words all c.requires.fits.counted
    (λ body long has. subst (λ (k : ℕ). c.in-Ok.words.items ≡ take k (words_from body 1)) c.length.ensures
    (c.in-Ok.ensures.words h body long has))

pub returns-in-Err-BadData-clause-words : goal.returns-in-Err-BadData-clause-words
returns-in-Err-BadData-clause-words g c h all =
    let s = g.D.Disk.state c.args.disk.now in
    let bad = c.get_words.ensures.damaged h c.in-Err-BadData.field-0-0 (cc) in
    never_damaged s.contents c.args.file.now.stored.version.blocks c.in-Err-BadData.field-0-0 all bad.0 bad.1
