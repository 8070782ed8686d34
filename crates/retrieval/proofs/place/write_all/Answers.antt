use Rattle.std.proofs.Common.{◌+◌, ◌<◌, ◌≤◌, ◌∙◌, ℕ, length, refl, arith, rules}
use Rattle.blockdisk.specs.Common.{modifies_start, same_disk_start, same_disk_on}
use Rattle.spec_image.specs.Common.{blocks_of}
use Rattle.retrieval.specs.Common.{AtPlace}
use Rattle.retrieval.proofs.PlaceWrites.{written_more, more_modified}
use Rattle.retrieval.proofs.place.write_all.Goals as goal

pub loop-i-init : goal.loop-i-init
loop-i-init g c =
    let s = g.D.Disk.state c.args.disk.now in
    let nothing : (j : ℕ) → c.args.first ≤ j → j < c.args.first → ⊥ = λ j low high. omega (arith, low, high) in
    record {
      begun = omega arith;
      within = search rules;
      written = λ h j low high. absurd (nothing j low high);
      modified = λ h. modifies_start (AtPlace c.args.blocks.now.blocks c.args.first
          (c.args.at + blocks_of (length c.args.words.now))) s;
      same = same_disk_start s;
      served = refl;
    }

pub returns-in_err-i-clause-modified : goal.returns-in_err-i-clause-modified
returns-in_err-i-clause-modified g c h =
    more_modified c.args.blocks.now.blocks c.args.first c.loop-i.i (c.args.at + blocks_of (length c.args.words.now))
    (g.D.Disk.state c.args.disk.now) (g.D.Disk.state c.loop-i.disk) (g.D.Disk.state c.write_some.new.disk)
    c.loop-i.invariant.begun (c.loop-i.invariant.modified (c.write_some.ensures.same.was_honest h))
    (c.write_some.ensures.modified h)

pub loop-i-preserved : goal.loop-i-preserved
loop-i-preserved g c =
    let s = g.D.Disk.state c.args.disk.now in
    let now = g.D.Disk.state c.loop-i.disk in
    let new = g.D.Disk.state c.write_some.new.disk in
    let blocks = c.args.blocks.now.blocks in
    let end : ℕ = c.args.at + blocks_of (length c.args.words.now) in
    let i = c.loop-i.i in
    let count = c.in_ok-i.field-0 in
    let inv = c.loop-i.invariant in
    let was : new.honest → now.honest = c.write_some.ensures.same.was_honest in
    let within : i + count ≤ end = c.in_ok-i.ensures.within in
    record {
      begun = omega (arith, inv.begun);
      within = search rules;
      written = λ h. written_more c.args.at c.args.words.now c.args.kept.now.place c.args.kept.now.words now.contents
          new.contents blocks c.args.first i count end c.requires.fits (omega (arith, within)) c.requires.apart
          (c.write_some.ensures.modified h).contents (inv.written (was h)) (c.in_ok-i.ensures.written h);
      modified = λ h. more_modified blocks c.args.first i end s now new inv.begun (inv.modified (was h))
          (c.write_some.ensures.modified h);
      same = same_disk_on s now new inv.same c.write_some.ensures.same;
      served = c.in_ok-i.ensures.served ∙ inv.served;
    }
