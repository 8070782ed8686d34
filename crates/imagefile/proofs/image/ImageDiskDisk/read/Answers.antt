use Rattle.imagefile.proofs.image.ImageDiskDisk.read.Goals as goal

pub returns-clause-reads : goal.returns-clause-reads
returns-clause-reads g c = c.read_block.ensures.reads c.args.self.now.blocks

pub returns-clause-refused : goal.returns-clause-refused
returns-clause-refused g c is =
    let from = c.read_block.ensures.refused is in
    (from.1.0, from.1.1)
