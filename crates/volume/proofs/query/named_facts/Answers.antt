use Rattle.std.proofs.Common.{◌≡◌, map, Some, option_copied, refl, sym, ap, ◌∙◌, arith}
use Rattle.std.proofs.lemmas.List.{length-map}
use Rattle.volume.specs.Common.{file_view, IsWholeVersion, slot, as_known}
use Rattle.spec_image.proofs.Common.{some_none, some_same}
use Rattle.volume.proofs.common.LiveLookups.{as_many, kept_at, standing_at}
use Rattle.volume.proofs.query.named_facts.Goals as goal

pub at-requires : goal.at-requires
at-requires c =
    let many = as_many c.args.versions.now.slots (map file_view c.args.directory.now.chain.entries)
    c.args.directory.now.keys.items c.requires.keyed in
    let same = length-map c.args.directory.now.chain.entries file_view in
    let within = c.in-Some.ensures.found.1.within in
    omega arith

pub unreachable-requires : goal.unreachable-requires
unreachable-requires c =
    let same = length-map c.args.directory.now.chain.entries file_view in
    let within = c.in-Some.ensures.found.1.within in
    let there = kept_at c.args.versions.now.slots (map file_view c.args.directory.now.chain.entries)
    c.args.directory.now.keys.items c.in-Some.i c.at.result c.at.result c.requires.keyed
    (omega arith) c.at.ensures in
    let none = c.in_default-get.is in some_none (sym there.1 ∙ sym c.get.ensures ∙ ap option_copied none)

pub returns-clause-found : goal.returns-clause-found
returns-clause-found c =
    let same = length-map c.args.directory.now.chain.entries file_view in
    let within = c.in-Some.ensures.found.1.within in
    let there = kept_at c.args.versions.now.slots (map file_view c.args.directory.now.chain.entries)
    c.args.directory.now.keys.items c.in-Some.i c.at.result c.at.result c.requires.keyed
    (omega arith) c.at.ensures in
    let at = c.in-Some.ensures.found in
    let live = c.in-Some-get.live.now in
    let is : slot c.args.versions.now.slots c.at.result ≡ Some live = sym c.get.ensures
    ∙ ap option_copied c.in-Some-get.is in
    let is_live : there.0 ≡ live = some_same (sym there.1 ∙ is) in
    let whole : IsWholeVersion (as_known live) = standing_at (λ v. IsWholeVersion (as_known v))
    c.args.versions.now.slots c.at.result live c.requires.standing is in
    record {
      place = c.in-Some.i;
      prime = at.0;
      at = at.1;
      version = as_known live;
      version_at = there.2 ∙ ap (λ v. Some (as_known v)) is_live;
      protection = refl;
      mode = refl;
      moment = refl;
      words = c.length.ensures;
      blocks = c.count.ensures ∙ whole.counted;
    }
