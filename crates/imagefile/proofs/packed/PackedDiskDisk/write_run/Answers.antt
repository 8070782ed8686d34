use Rattle.imagefile.proofs.packed.PackedDiskDisk.write_run.Goals as goal

pub returns-clause-put : goal.returns-clause-put
returns-clause-put g c = (c.write_blocks.ensures.writes c.args.self.now.blocks).put

pub returns-clause-moves : goal.returns-clause-moves
returns-clause-moves g c = (c.write_blocks.ensures.writes c.args.self.now.blocks).moves

pub returns-clause-writes : goal.returns-clause-writes
returns-clause-writes g c = (c.write_blocks.ensures.writes c.args.self.now.blocks).writes

pub returns-clause-device : goal.returns-clause-device
returns-clause-device g c = (c.write_blocks.ensures.writes c.args.self.now.blocks).device

pub returns-clause-failed : goal.returns-clause-failed
returns-clause-failed g c = (c.write_blocks.ensures.writes c.args.self.now.blocks).failed

pub returns-clause-served : goal.returns-clause-served
returns-clause-served g c = (c.write_blocks.ensures.writes c.args.self.now.blocks).served
