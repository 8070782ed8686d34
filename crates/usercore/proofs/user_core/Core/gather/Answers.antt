use Rattle.std.proofs.Common.{◌≡◌, ◌∙◌, ◌+◌, ◌-◌, ◌≤◌, ◌++◌, ℕ, List, length, take, drop, append_assoc, arith, rules}
use Rattle.std.proofs.Common.{slice_range}
use Rattle.std.proofs.lemmas.List.{places}
use Rattle.std.proofs.lemmas.Slice.{take-put_mid}
use borrow.Rule.Slice.PartMut.{put_mid}
use Rattle.usercore.proofs.WriteLaws.{count_on, join_on}
use Rattle.usercore.proofs.user_core.Core.gather.Goals as goal

-- one more part of a slice is filled, after those that were filled before
module _ (words part : List ℕ) (done count : ℕ) (within : done + count ≤ length words) (long : length part
    ≡ count) where
  taken : take (done + count) (put_mid done (done + count - done) words part) ≡ take done words ++ part
  taken = take-put_mid done (done + count - done) words part (done + count) (omega arith) (omega arith)

  as_long : length (put_mid done (done + count - done) words part) ≡ length words
  as_long = search (rules, places)

mid_long : (words : List ℕ) (done count : ℕ) → done + count ≤ length words
    → length (take (done + count - done) (drop done words)) ≡ count
mid_long words done count within = search (rules, places)

pub loop-area-preserved : goal.loop-area-preserved
loop-area-preserved c =
    let words = c.loop-area.words in
    let part = c.copy_from_slice.new.self in
    let done = c.loop-area.done in
    let count = c.area.inside.count in
    let areas = c.args.areas.now in
    let core = c.args.self.now in
    let i = c.loop-area.area-index in
    let counts = count_on areas i c.area.inside.first count c.area-item.result
    (omega arith) c.area-item.is c.area.view_is in
    let joins = join_on core areas i c.area.inside.first count c.area-item.result
    (omega arith) c.area-item.is c.area.view_is in
    let within : done + count ≤ length words = omega (arith, counts, c.loop-area.invariant.counted) in
    let same : part ≡ slice_range core c.area.inside.first (c.area.inside.first + count) = search rules in
    let long : length part ≡ count = c.copy_from_slice.ensures.len ∙ mid_long words done count within in
    record {
      so_far = rw (taken words part done count within long, append_assoc, same, ← joins) c.loop-area.invariant.so_far;
      counted = omega (arith, as_long words part done count within long, counts, c.loop-area.invariant.counted);
    }
