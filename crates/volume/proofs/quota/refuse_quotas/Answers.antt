use Rattle.std.proofs.Common.{◌≡◌, ◌/◌, slice_index_or, sym, subst, map, nat_cmp}
use Rattle.std.specs.List.{AllByRecursion}
use Rattle.spec_image.specs.Common.{master_words, IsMasterEntryOf, layout_number}
use Rattle.directory.specs.Common.{IsBadChain}
use Rattle.volume.specs.Common.{master_view, HasNoQuota}
use Rattle.volume.proofs.VolumeStart.Quotas.{plain_entries, quota_block, quota_among, quota_bad}
use Rattle.volume.proofs.quota.refuse_quotas.Goals as goal

pub returns-in-Some-clause-named : goal.returns-in-Some-clause-named
returns-in-Some-clause-named c n is =
    let same : slice_index_or c.blocks-in-Some.result.now (c.in-Some.i / 42) 0 ≡ n = cc in
    quota_among c.args.chain.now n c.entries-entries.ensures.sound
    (quota_block c.args.chain.now c.entries-entries.result.now c.blocks-in-Some.result.now c.in-Some.i n
    c.entries-entries.ensures.value c.blocks-in-Some.ensures.value c.in-Some.ensures.some same)

pub returns-in-Some-clause-bad : goal.returns-in-Some-clause-bad
returns-in-Some-clause-bad c n is size contents first walk inside =
    let same : slice_index_or c.blocks-in-Some.result.now (c.in-Some.i / 42) 0 ≡ n = cc in
    subst (λ layout. IsBadChain nat_cmp master_words (IsMasterEntryOf (layout_number layout)) (λ e. e.1.1) size contents
    first n) (sym c.in-One.is)
    (quota_bad c.args.chain.now n c.entries-entries.ensures.sound
    (quota_block c.args.chain.now c.entries-entries.result.now c.blocks-in-Some.result.now c.in-Some.i n
    c.entries-entries.ensures.value c.blocks-in-Some.ensures.value c.in-Some.ensures.some same)
    size contents first walk inside)

pub returns-in-None-clause-ok : goal.returns-in-None-clause-ok
returns-in-None-clause-ok c =
    subst (λ layout. AllByRecursion (IsMasterEntryOf (layout_number layout)) (map master_view c.args.chain.now.entries))
    (sym c.in-One.is)
    (plain_entries c.args.chain.now.entries
    (subst (AllByRecursion HasNoQuota) c.entries-entries.ensures.value c.in-None.ensures.none)
    c.entries-entries.ensures.sound.are_entries)
