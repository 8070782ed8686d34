use Rattle.std.proofs.Common.{◌≡◌, ◌+◌, length, arith, subst, IfOk}
use Rattle.blockdisk.specs.Common.{IsWithin}
use Rattle.imagefile.proofs.packed.PackedDiskDisk.read_run.Goals as goal

pub read_blocks-requires-clause-fits : goal.read_blocks-requires-clause-fits
read_blocks-requires-clause-fits g c = omega arith

pub returns-clause-within : goal.returns-clause-within
returns-clause-within g c =
    let long : length c.read_blocks.new.blocks ≡ length c.args.blocks.now = omega arith in
    subst (λ k. IfOk c.read_blocks.result (IsWithin c.args.first (c.args.first + k))) long
    (c.read_blocks.ensures.reads c.args.self.now.blocks).within

pub returns-clause-words : goal.returns-clause-words
returns-clause-words g c = (c.read_blocks.ensures.reads c.args.self.now.blocks).words

pub returns-clause-keeps : goal.returns-clause-keeps
returns-clause-keeps g c = (c.read_blocks.ensures.reads c.args.self.now.blocks).keeps

pub returns-clause-device : goal.returns-clause-device
returns-clause-device g c = (c.read_blocks.ensures.reads c.args.self.now.blocks).device

pub returns-clause-failed : goal.returns-clause-failed
returns-clause-failed g c = (c.read_blocks.ensures.reads c.args.self.now.blocks).failed

pub returns-clause-served : goal.returns-clause-served
returns-clause-served g c = (c.read_blocks.ensures.reads c.args.self.now.blocks).served
