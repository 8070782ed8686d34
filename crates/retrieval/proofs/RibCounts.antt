-- How many extensions a version has: each except the last is full, so that no more are read than its blocks need.
use Rattle.std.proofs.Common.{ℕ, ◌+◌, ◌*◌, ◌<◌, ◌≤◌, List, [], ◌∷◌, length, flat_map, ap, ◌∙◌, arith, length-append}
use Rattle.spec_image.specs.Common.{run_blocks}
use Rattle.retrieval.specs.Common.{IsStarted, Extends, ribs_of, VersionState, rib_count}
use Rattle.retrieval.specs.declared.prime.Prime.{Prime}
use Rattle.retrieval.proofs.LongestRuns.{longest_few}
use Rattle.spec_image.proofs.Common.{runs-le}

-- The last of `ribs` extensions has at least one block, and if another follows, all are full.
pub record AreFilled (ribs blocks next : ℕ) : Type 0 where
  pub some : 112 + 126 * ribs ≤ blocks + 125
  pub full : 0 < next → 112 + 126 * ribs ≤ blocks

pub started_filled : (size layout : ℕ) (words : List ℕ) (prime : Prime) (v : VersionState) (next : ℕ)
    → IsStarted size layout words prime v next → AreFilled (length v.ribs) (length v.blocks) next
started_filled size layout words prime v next started =
    let none = ap (λ (l : List ℕ). length l) started.ribs_are in
    let blocks = ap (λ (l : List ℕ). length l) started.blocks_are in
    let few = runs-le started.runs started.spells.are_runs in
    record {
      some = omega arith;
      full = λ more. let all = started.full more in omega arith;
    }

pub extended_filled : (size : ℕ) (words : List ℕ) (n next : ℕ) (old new : VersionState) → 0 < n
    → Extends size words n next old new → AreFilled (length old.ribs) (length old.blocks) n
    → AreFilled (length new.ribs) (length new.blocks) next
extended_filled size words n next old new more x filled =
    let ribs = ap (λ (v : VersionState). length v.ribs) x.version_is ∙ length-append old.ribs (n ∷ []) in
    let blocks = ap (λ (v : VersionState). length v.blocks) x.version_is
    ∙ length-append old.blocks (flat_map run_blocks x.runs) in
    let few = runs-le x.runs x.spells.are_runs in
    let one = x.spells.some in
    let was = filled.full more in
    record {
      some = omega arith;
      full = λ further. let all = x.full further in omega arith;
    }

pub filled_few : (ribs blocks next : ℕ) → AreFilled ribs blocks next → ribs ≤ rib_count blocks
filled_few ribs blocks next filled = let some = filled.some in omega arith

-- The longest runs need no more of them than the blocks would one by one.
pub ribs_few : (blocks : List ℕ) → ribs_of blocks ≤ rib_count (length blocks)
ribs_few blocks = let few = longest_few blocks in omega arith
