use Rattle.volume.proofs.MigrateVolume.Migrations.{home_words, raise_leaves, raise_rest, home_written}
use Rattle.volume.proofs.migrate.raise.Goals as goal

pub returns-in-Ok-clause-crash : goal.returns-in-Ok-clause-crash
returns-in-Ok-clause-crash g c h m head rest =
    raise_leaves (g.D.Disk.state c.args.disk.now) (g.D.Disk.state c.commit.new.disk) m c.home_block-words.result
    (home_words (g.D.Disk.state c.args.disk.now).size c.blocks-2.result c.args.master m c.home_block-words.result
    c.home_block-words.ensures c.blocks-2.ensures head) rest c.home_puts.result c.home_puts.ensures
    (c.commit.ensures.crash h rest.shut)

pub returns-in-Err-Device-clause-crash : goal.returns-in-Err-Device-clause-crash
returns-in-Err-Device-clause-crash g c h m head rest =
    raise_leaves (g.D.Disk.state c.args.disk.now) (g.D.Disk.state c.commit.new.disk) m c.home_block-words.result
    (home_words (g.D.Disk.state c.args.disk.now).size c.blocks-2.result c.args.master m c.home_block-words.result
    c.home_block-words.ensures c.blocks-2.ensures head) rest c.home_puts.result c.home_puts.ensures
    (c.commit.ensures.crash h rest.shut)

pub returns-in-Ok-clause-done : goal.returns-in-Ok-clause-done
returns-in-Ok-clause-done g c h m head rest =
    raise_rest (g.D.Disk.state c.args.disk.now) (g.D.Disk.state c.commit.new.disk) m c.home_block-words.result
    (home_words (g.D.Disk.state c.args.disk.now).size c.blocks-2.result c.args.master m c.home_block-words.result
    c.home_block-words.ensures c.blocks-2.ensures head) rest c.home_puts.result c.home_puts.ensures
    (c.in-Ok.ensures.all h)
    (c.in-Ok.ensures.settled h) (c.in-Ok.ensures.shut h rest.shut)

pub returns-in-Ok-clause-modified : goal.returns-in-Ok-clause-modified
returns-in-Ok-clause-modified g c h =
    home_written (g.D.Disk.state c.args.disk.now).size c.home_puts.result c.home_block-words.result
    (g.D.Disk.state c.args.disk.now) (g.D.Disk.state c.commit.new.disk) c.home_puts.ensures
    (c.in-Ok.ensures.modified h)
