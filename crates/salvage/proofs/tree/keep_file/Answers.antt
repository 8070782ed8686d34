use Rattle.std.proofs.Common.{ℕ, List, ◌<◌, length, sym, subst}
use Rattle.std.specs.List.{AllByRecursion}
use Rattle.salvage.specs.Common.{AreClaimed}
use Rattle.salvage.proofs.CarriedFacts.{on_ok}
use Rattle.salvage.proofs.OwnedFiles.{owners_pushed, ribs_below}
use Rattle.salvage.proofs.tree.keep_file.Goals as goal

pub full_among-requires : goal.full_among-requires
full_among-requires c =
    let size : ℕ = length c.args.reading.now.owners in
    subst (λ (ns : List ℕ). AllByRecursion (λ (n : ℕ). n < size) ns) (sym c.ribs.ensures)
    (ribs_below size c.args.file c.requires.fits)

pub claim_all-requires : goal.claim_all-requires
claim_all-requires c =
    let size : ℕ = length c.args.reading.now.owners in
    subst (λ (ns : List ℕ). AllByRecursion (λ (n : ℕ). n < size) ns) (sym c.ribs-2.ensures)
    (ribs_below size c.args.file c.requires.fits)

pub returns-clause-held : goal.returns-clause-held
returns-clause-held c held =
    let owners = c.args.reading.now.owners in
    let later = c.claim_all.new.self in
    let claimed = subst (λ (ns : List ℕ). AreClaimed owners later ns c.claim_all.result) c.ribs-2.ensures
    c.claim_all.ensures.claimed in
    on_ok c.push_file.result
    (λ pushed. owners_pushed owners later c.args.reading.now.files.items c.push_file.new.files.items c.args.file
    c.claim_all.result claimed pushed held) c.push_file.ensures.pushed
