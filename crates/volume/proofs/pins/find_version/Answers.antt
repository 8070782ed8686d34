use Rattle.std.proofs.Common.{inr, map, refl, sym, ap, ◌∙◌, arith}
use Rattle.std.proofs.lemmas.List.{length-map}
use Rattle.spec_image.proofs.Common.{some_same}
use Rattle.volume.specs.Common.{master_view, file_view, live_directory}
use Rattle.volume.proofs.common.Answers.{placed}
use Rattle.volume.proofs.common.LiveLookups.{as_many, keyed_at, kept_at, current_at}
use Rattle.volume.proofs.pins.find_version.Goals as goal

pub at-requires : goal.at-requires
at-requires c =
    let m = c.args.map.now in
    let live = m.versions.slots in
    let within = c.in_ok-place.ensures.found.1.within in
    let entries = length-map m.master.entries master_view in
    let directories = length-map m.directories.items (live_directory live) in
    let aligned = c.requires.whole.map.aligned in
    let keyed = keyed_at live (live_directory live) (λ d. d.keys.items) m.directories.items c.in_ok-place.place
    c.index-directory.result.now c.index-directory.result.now c.requires.whole.keyed
    (omega arith) c.index-directory.ensures in
    let many = as_many live (map file_view c.index-directory.result.now.chain.entries)
    c.index-directory.result.now.keys.items keyed in
    let same = length-map c.index-directory.result.now.chain.entries file_view in
    let inside = c.in-Some.ensures.found.1.within in
    omega arith

pub returns-in-Some-clause-found : goal.returns-in-Some-clause-found
returns-in-Some-clause-found c =
    let m = c.args.map.now in
    let live = m.versions.slots in
    let d = c.index-directory.result.now in
    let within = c.in_ok-place.ensures.found.1.within in
    let entries = length-map m.master.entries master_view in
    let directories = length-map m.directories.items (live_directory live) in
    let aligned = c.requires.whole.map.aligned in
    let keyed = keyed_at live (live_directory live) (λ d. d.keys.items) m.directories.items c.in_ok-place.place
    d d c.requires.whole.keyed (omega arith) c.index-directory.ensures in
    let inside = c.in-Some.ensures.found.1.within in
    let at = c.in-Some.ensures.found in
    let kept = kept_at live (map file_view d.chain.entries) d.keys.items c.in-Some.i c.at.result
    c.at.result keyed inside c.at.ensures in
    let current = current_at live (map file_view d.chain.entries) d.keys.items c.in-Some.i c.at.result
    c.at.result (c.args.name.now, at.0) keyed at.1.is c.at.ensures in
    record {
      place = c.in_ok-place.place;
      word = c.in_ok-place.ensures.found.0;
      there = c.in_ok-place.ensures.found.1;
      directory = live_directory live d;
      directory_at = placed (live_directory live) m.directories.items (map master_view m.master.entries)
          c.in_ok-place.place d within aligned c.index-directory.ensures;
      index = c.in-Some.i;
      prime = at.0;
      at = at.1;
      version = kept.0;
      here = kept.1;
      known = kept.2;
      prime_is = ap (λ v. v.at) (some_same (sym kept.1 ∙ current.there)) ∙ current.at;
      current = ap (λ v. v.is_current) (some_same (sym kept.1 ∙ current.there)) ∙ current.current;
    }

pub returns-in-None-clause-none : goal.returns-in-None-clause-none
returns-in-None-clause-none c =
    let m = c.args.map.now in
    let live = m.versions.slots in
    let found = c.in_ok-place.ensures.found in
    inr (
      c.in_ok-place.place,
      found.0,
      found.1,
      live_directory live c.index-directory.result.now,
      placed (live_directory live) m.directories.items (map master_view m.master.entries) c.in_ok-place.place
          c.index-directory.result.now found.1.within c.requires.whole.map.aligned c.index-directory.ensures,
      c.in-None.ensures.none,
      refl,
    )
