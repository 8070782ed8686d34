-- The definitions that proofs and other crates cite, passed on from one place. Declares nothing.
pub use Rattle.usercore.specs.CoreWords.{IsCore}
pub use Rattle.usercore.specs.ByteSizes.{bits_of}
pub use Rattle.usercore.specs.Steps.{after_in, after_out, closed_by, emptied_by, filled_by, header_unset}
pub use Rattle.usercore.specs.Steps.{header_words, words_put}
unfoldable pub use Rattle.usercore.specs.Steps.{zeroed}
pub use Rattle.usercore.specs.FirstRings.{first_is_good, is_spared}
pub use Rattle.usercore.specs.Areas.{ChangesWithin, IsOutside, in_areas, out_areas, setup_areas, step_areas, words_at}
