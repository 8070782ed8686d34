use Rattle.std.proofs.Common.{◌≡◌, ◌+◌, ◌*◌, ◌<◌, ◌≤◌, ℕ, [], length, min, get_or}
use Rattle.std.specs.Prelude.{slice_index, vec_capacity}
use Rattle.retrieval.proofs.body.push_blocks.Given as goal

abbrev pub invariant-loop-place : goal.invariant-loop-place
invariant-loop-place l = record {
  room : l.wanted ≤ vec_capacity l.words;
  long : length l.words.items ≡ min (length l.fn.words.items + l.place * 128) l.wanted;
  kept : (p : ℕ) → p < length l.fn.words.items → slice_index l.words.items p ≡ slice_index l.fn.words.items p;
  whole : (i : ℕ) → i < l.place → length (get_or l.blocks i []) ≡ 128;
  put : (i k : ℕ) → i < l.place → k < 128 → length l.fn.words.items + i * 128 + k < l.wanted
      → slice_index l.words.items (length l.fn.words.items + i * 128 + k) ≡ slice_index (get_or l.blocks i []) k;
}
