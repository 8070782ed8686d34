-- What a `AssumedImage` is made of.
use Rattle.imagefile.specs.Unseen.{Unseen}
use Rattle.imagefile.specs.declared.assumed_image.AssumedImage.{AssumedImage}

abbrev pub assumed_in : AssumedImage → Unseen
assumed_in supposed = supposed.unseen
