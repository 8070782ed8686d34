use Rattle.imagefile.proofs.image.ImageDiskDisk.verify.Goals as goal

pub returns-clause-within : goal.returns-clause-within
returns-clause-within g c = (c.verify_blocks_through.ensures.verifies c.args.self.now.blocks).within

pub returns-clause-verified : goal.returns-clause-verified
returns-clause-verified g c = (c.verify_blocks_through.ensures.verifies c.args.self.now.blocks).verified

pub returns-clause-keeps : goal.returns-clause-keeps
returns-clause-keeps g c = (c.verify_blocks_through.ensures.verifies c.args.self.now.blocks).keeps

pub returns-clause-same : goal.returns-clause-same
returns-clause-same g c = (c.verify_blocks_through.ensures.verifies c.args.self.now.blocks).same

pub returns-clause-failed : goal.returns-clause-failed
returns-clause-failed g c = (c.verify_blocks_through.ensures.verifies c.args.self.now.blocks).failed

pub returns-clause-served : goal.returns-clause-served
returns-clause-served g c = (c.verify_blocks_through.ensures.verifies c.args.self.now.blocks).served

pub returns-clause-device : goal.returns-clause-device
returns-clause-device g c = (c.verify_blocks_through.ensures.verifies c.args.self.now.blocks).device
