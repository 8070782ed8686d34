use Rattle.std.proofs.Common.{rules, ◌∷◌, ◌++◌}
use Rattle.std.proofs.lemmas.Result.{err_from_is_err_and}
use Rattle.spec_image.specs.Common.{layout_number, place_of, InSpace}
use Rattle.volume.specs.Common.{NamesInSpace, IsFaultOfFile}
use Rattle.volume.proofs.VolumeStart.FoundDirectories.{space_more}
use Rattle.volume.proofs.common.PassedErrors.{handed, file_met_by}
use Rattle.spec_image.proofs.Common.{all_append}
use Rattle.volume.proofs.read.add_file.Goals as goal

pub returns-in_err-stored-clause-fault : goal.returns-in_err-stored-clause-fault
returns-in_err-stored-clause-fault g c h =
    let s = g.D.Disk.state c.args.disk.now in
    let p = err_from_is_err_and c.from_residual.result c.from_residual.ensures.1 in
    let place = place_of c.args.ppn c.args.turn.now.entry.name in
    handed (IsFaultOfFile s.size (layout_number c.args.layout) s.contents c.args.reached.now place
    c.args.turn.now.entry.prime) c.from_residual.result
    c.read_file.result p.0 c.in_err-stored.field-0.0 p.1 p.2 c.in_err-stored.was
    (file_met_by s.size (layout_number c.args.layout) s.contents c.args.reached.now place c.args.turn.now.entry.prime
    c.read_file.result
    c.read_file.ensures.only (c.read_file.ensures.bad_version h) (c.read_file.ensures.twice h)
    (c.read_file.ensures.bad_data h))

pub returns-clause-read : goal.returns-clause-read
returns-clause-read g c h = record {
  added = record { place = c.args.turn.now.place; stored = c.in_ok-stored.stored };
  pushed = search rules;
  is = record { found = c.in_ok-stored.ensures.ok h; marked = c.in_ok-stored.ensures.marks };
}

pub returns-clause-whole : goal.returns-clause-whole
returns-clause-whole g c = record {
  added = record { place = c.args.turn.now.place; stored = c.in_ok-stored.stored };
  pushed = search rules;
  is = record {
    counted = c.in_ok-stored.ensures.counted;
    few = c.in_ok-stored.ensures.few;
    few_ribs = c.in_ok-stored.ensures.few_ribs;
  };
}

pub returns-clause-space : goal.returns-clause-space
returns-clause-space g c only =
    let s = g.D.Disk.state c.args.disk.now in
    let v = c.in_ok-stored.stored.version in
    space_more s.size c.args.reached.now c.read_file.new.reached (c.args.turn.now.entry.prime ∷ (v.ribs ++ v.blocks))
    only (
      c.requires.inside,
      all_append (InSpace s.size) v.ribs v.blocks c.in_ok-stored.ensures.ribs_inside
          c.in_ok-stored.ensures.blocks_inside,
    ) c.in_ok-stored.ensures.marks

pub returns-clause-marked : goal.returns-clause-marked
returns-clause-marked g c = record {
  added = record { place = c.args.turn.now.place; stored = c.in_ok-stored.stored };
  pushed = search rules;
  is = c.in_ok-stored.ensures.marks;
}

pub returns-in_err-stored-clause-named : goal.returns-in_err-stored-clause-named
returns-in_err-stored-clause-named g c =
    let p = err_from_is_err_and c.from_residual.result c.from_residual.ensures.1 in
    handed (NamesInSpace (g.D.Disk.state c.args.disk.now).size) c.from_residual.result c.read_file.result
    p.0 c.in_err-stored.field-0.0 p.1 p.2 c.in_err-stored.was c.read_file.ensures.named
