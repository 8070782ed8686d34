use Rattle.imagefile.proofs.Contents.{packed_exactly}
use Rattle.imagefile.proofs.image.packed_bytes_are_words.Goals as goal

pub returns : goal.returns
returns c = packed_exactly
