use Rattle.std.proofs.Common.{◌≡◌, inl, inr, ℕ, Err, IsErrOf, refl, sym, subst, ◌∙◌}
use Rattle.blockdisk.specs.Common.{NoneOpen, same_contents}
use Rattle.changeset.specs.Common.{IsRecovered}
use Rattle.changeset.specs.declared.error.LogError.TheVariants.{Device as LogDevice}
use Rattle.spec_image.specs.Common.{with_puts, File, Files, layout_number, pack_of, StandsOn, DiskMap}
use Rattle.spec_image.proofs.Common.{layout_is}
use Rattle.volume.specs.declared.error.VolumeError.TheVariants.{BadLog, Device}
use Rattle.volume.specs.declared.volume.LoadedMap.{LoadedMap}
use Rattle.volume.specs.Common.{known_of, MatchesMap, SettledRefuses, Refuses, IsAtRest, RestsAt, StandsLike}
use Rattle.volume.specs.Common.{StandsLikeBefore}
use Rattle.volume.proofs.common.PassedErrors.{found_on, named_on}
use Rattle.volume.proofs.common.Packs.{homes_layout}
use Rattle.volume.proofs.VolumeStart.Starts.{ok_on, ok_always, crash_recovered, synced_recovered, crash_read}
use Rattle.volume.proofs.VolumeStart.Starts.{synced_read, rest_known, rest_files, stood_before, closed_refuses}
use Rattle.volume.proofs.VolumeStart.Starts.{lost_refuses}
use Rattle.volume.proofs.start.read_volume.Goals as goal

pub returns-in-Ok-clause-crash : goal.returns-in-Ok-clause-crash
returns-in-Ok-clause-crash g c h =
    let s = g.D.Disk.state c.args.disk.now in
    let s1 = g.D.Disk.state c.recover.new.disk in
    crash_read s s1 (g.D.Disk.state c.read_map.new.disk) (StandsLikeBefore s)
    (crash_recovered s s1 (c.recover.ensures.crash (c.read_map.ensures.disk.same.was_honest h)))
    (λ d left. g.met.D.Disk.only_now c.recover.new.disk d (c.read_map.ensures.disk.same.was_honest h) left)
    (c.read_map.ensures.disk.reads h)

pub returns-in-Ok-clause-synced : goal.returns-in-Ok-clause-synced
returns-in-Ok-clause-synced g c h =
    let s = g.D.Disk.state c.args.disk.now in
    let honest = c.read_map.ensures.disk.same.was_honest h in
    synced_read g.D.Disk.state c.args.disk.now c.recover.new.disk c.read_map.new.disk
    (IsErrOf c.recover.result LogDevice) (IsErrOf c.read_map.result Device) (StandsLike s)
    (λ (is : c.recover.result ≡ Err LogDevice). let ok = c.in-Ok.is in
    cc) (λ d left. g.met.D.Disk.only_now c.recover.new.disk d honest left) (c.read_map.ensures.disk.reads h)
    (synced_recovered g.D.Disk.state c.args.disk.now c.recover.new.disk (IsErrOf c.recover.result LogDevice)
    (IsErrOf c.recover.result LogDevice) (λ is. is) (c.recover.ensures.synced honest))

pub returns-in-Ok-clause-rest : goal.returns-in-Ok-clause-rest
returns-in-Ok-clause-rest g c h =
    let s = g.D.Disk.state c.args.disk.now in
    let s1 = g.D.Disk.state c.recover.new.disk in
    let s2 = g.D.Disk.state c.read_map.new.disk in
    let reads = c.read_map.ensures.disk.reads h in
    let recovered : IsRecovered s.size s.contents s1.contents = c.in-Ok.ensures.recovered
    (c.read_map.ensures.disk.same.was_honest h) in
    let none : NoneOpen s1 = c.in-Ok.ensures.settled (c.read_map.ensures.disk.same.was_honest h) in
    ok_on (λ read. (m : DiskMap) × MatchesMap s1.size (known_of read) m s1.contents
    × (m.layout ≡ layout_number read.layout))
    (λ read. IsAtRest s2 (known_of read)) c.read_map.result
    (λ read held. rest_known s s1 s2 (known_of read) held.0 c.recover.ensures.same.size
    c.read_map.ensures.disk.same.size
    recovered none reads held.1) (c.read_map.ensures.held h)

pub returns-in-Ok-clause-layout : goal.returns-in-Ok-clause-layout
returns-in-Ok-clause-layout g c h =
    let s1 = g.D.Disk.state c.recover.new.disk in
    let s2 = g.D.Disk.state c.read_map.new.disk in
    let reads = c.read_map.ensures.disk.reads h in
    ok_on (λ read. (m : DiskMap) × MatchesMap s1.size (known_of read) m s1.contents
    × (m.layout ≡ layout_number read.layout))
    (λ read. layout_number read.layout ≡ (pack_of s2).layout) c.read_map.result
    (λ read held. sym held.2 ∙ sym (layout_is s1.size s1.contents _ held.1.stands.mapped.home)
    ∙ sym (homes_layout s1 s2 c.read_map.ensures.disk.same.size (λ n low. reads.still.contents n)))
    (c.read_map.ensures.held h)

pub returns-in-Ok-clause-files : goal.returns-in-Ok-clause-files
returns-in-Ok-clause-files g c h files stands =
    let s = g.D.Disk.state c.args.disk.now in
    let s1 = g.D.Disk.state c.recover.new.disk in
    let s2 = g.D.Disk.state c.read_map.new.disk in
    let reads = c.read_map.ensures.disk.reads h in
    let recovered : IsRecovered s.size s.contents s1.contents = c.in-Ok.ensures.recovered
    (c.read_map.ensures.disk.same.was_honest h) in
    let none : NoneOpen s1 = c.in-Ok.ensures.settled (c.read_map.ensures.disk.same.was_honest h) in
    ok_always (RestsAt s2 files) c.read_map.result
    (rest_files s s1 s2 files c.recover.ensures.same.size c.read_map.ensures.disk.same.size recovered none reads stands)

pub returns-in-Ok-clause-recovered : goal.returns-in-Ok-clause-recovered
returns-in-Ok-clause-recovered g c h =
    let s = g.D.Disk.state c.args.disk.now in
    let s1 = g.D.Disk.state c.recover.new.disk in
    let s2 = g.D.Disk.state c.read_map.new.disk in
    let reads = c.read_map.ensures.disk.reads h in
    let recovered : IsRecovered s.size s.contents s1.contents = c.in-Ok.ensures.recovered
    (c.read_map.ensures.disk.same.was_honest h) in
    let same : s2.contents ≡ s1.contents = same_contents s1.contents s2.contents reads.still.contents in
    ok_always (IsRecovered s.size s.contents s2.contents) c.read_map.result
    (subst (IsRecovered s.size s.contents) (sym same) recovered)

pub returns-in-Ok-clause-stood : goal.returns-in-Ok-clause-stood
returns-in-Ok-clause-stood g c h =
    let s = g.D.Disk.state c.args.disk.now in
    let s1 = g.D.Disk.state c.recover.new.disk in
    let s2 = g.D.Disk.state c.read_map.new.disk in
    let reads = c.read_map.ensures.disk.reads h in
    let recovered : IsRecovered s.size s.contents s1.contents = c.in-Ok.ensures.recovered
    (c.read_map.ensures.disk.same.was_honest h) in
    let none : NoneOpen s1 = c.in-Ok.ensures.settled (c.read_map.ensures.disk.same.was_honest h) in
    ok_on (λ read. (m : DiskMap) × MatchesMap s1.size (known_of read) m s1.contents
    × (m.layout ≡ layout_number read.layout))
    (λ read. (files : Files File)
    × StandsOn (pack_of s2) s.contents files × RestsAt s2 files) c.read_map.result
    (λ read held. stood_before s s1 s2 (known_of read) held.0 c.recover.ensures.same.size
    c.read_map.ensures.disk.same.size
    recovered none reads held.1) (c.read_map.ensures.held h)

pub returns-in-Ok-clause-settled : goal.returns-in-Ok-clause-settled
returns-in-Ok-clause-settled g c h =
    let s = g.D.Disk.state c.args.disk.now in
    let s1 = g.D.Disk.state c.recover.new.disk in
    let s2 = g.D.Disk.state c.read_map.new.disk in
    let reads = c.read_map.ensures.disk.reads h in
    let recovered : IsRecovered s.size s.contents s1.contents = c.in-Ok.ensures.recovered
    (c.read_map.ensures.disk.same.was_honest h) in
    let none : NoneOpen s1 = c.in-Ok.ensures.settled (c.read_map.ensures.disk.same.was_honest h) in
    ok_always (NoneOpen s2) c.read_map.result (λ n. reads.is_open n ∙ none n)

pub returns-in-Ok-clause-refused : goal.returns-in-Ok-clause-refused
returns-in-Ok-clause-refused g c h =
    let s = g.D.Disk.state c.args.disk.now in
    let s1 = g.D.Disk.state c.recover.new.disk in
    let s2 = g.D.Disk.state c.read_map.new.disk in
    let reads = c.read_map.ensures.disk.reads h in
    let recovered : IsRecovered s.size s.contents s1.contents = c.in-Ok.ensures.recovered
    (c.read_map.ensures.disk.same.was_honest h) in
    let none : NoneOpen s1 = c.in-Ok.ensures.settled (c.read_map.ensures.disk.same.was_honest h) in
    let same : s2.contents ≡ s1.contents = same_contents s1.contents s2.contents reads.still.contents in
    found_on (SettledRefuses s1.size s1.contents) (Refuses s.size s2.contents) c.read_map.result
    (λ error met. subst (λ contents. Refuses s.size contents error) (sym same)
    (closed_refuses s.size s1.contents recovered.gate error
    (subst (λ (n : ℕ). SettledRefuses n s1.contents error) c.recover.ensures.same.size met)))
    (c.read_map.ensures.fault h)

pub returns-in-Ok-clause-kept : goal.returns-in-Ok-clause-kept
returns-in-Ok-clause-kept g c h other =
    let s = g.D.Disk.state c.args.disk.now in
    let s1 = g.D.Disk.state c.recover.new.disk in
    let s2 = g.D.Disk.state c.read_map.new.disk in
    let reads = c.read_map.ensures.disk.reads h in
    let recovered : IsRecovered s.size s.contents s1.contents = c.in-Ok.ensures.recovered
    (c.read_map.ensures.disk.same.was_honest h) in
    let none : NoneOpen s1 = c.in-Ok.ensures.settled (c.read_map.ensures.disk.same.was_honest h) in
    let same : s2.contents ≡ s1.contents = same_contents s1.contents s2.contents reads.still.contents in
    inr (subst (IsRecovered s.size s.contents) (sym same) recovered)

pub returns-in-Err-BadLog-clause-crash : goal.returns-in-Err-BadLog-clause-crash
returns-in-Err-BadLog-clause-crash g c h = crash_recovered (g.D.Disk.state c.args.disk.now)
    (g.D.Disk.state c.recover.new.disk) (c.recover.ensures.crash h)

pub returns-in-Err-Device-clause-crash : goal.returns-in-Err-Device-clause-crash
returns-in-Err-Device-clause-crash g c h = crash_recovered (g.D.Disk.state c.args.disk.now)
    (g.D.Disk.state c.recover.new.disk) (c.recover.ensures.crash h)

pub returns-in-Err-BadLog-clause-synced : goal.returns-in-Err-BadLog-clause-synced
returns-in-Err-BadLog-clause-synced g c h =
    synced_recovered g.D.Disk.state c.args.disk.now c.recover.new.disk (IsErrOf c.recover.result LogDevice)
    (IsErrOf {T = LoadedMap} (Err BadLog) Device)
    (λ (is : c.recover.result ≡ Err LogDevice). absurd (let bad = c.in-Err-BadLog.is in
    let which = c.in-Err-BadLog.field-0-is in cc)) (c.recover.ensures.synced h)

pub returns-in-Err-Device-clause-synced : goal.returns-in-Err-Device-clause-synced
returns-in-Err-Device-clause-synced g c h =
    synced_recovered g.D.Disk.state c.args.disk.now c.recover.new.disk (IsErrOf c.recover.result LogDevice)
    (IsErrOf {T = LoadedMap} (Err Device) Device) (λ is. refl)
    (c.recover.ensures.synced h)

pub returns-in-Err-BadLog-clause-refused : goal.returns-in-Err-BadLog-clause-refused
returns-in-Err-BadLog-clause-refused g c h =
    let s = g.D.Disk.state c.args.disk.now in
    let s1 = g.D.Disk.state c.recover.new.disk in
    let lost = c.recover.ensures.bad h (cc) in
    let still = c.recover.ensures.unmodified h
    (λ puts pending. lost (with_puts puts s.contents) (inr (pending.gate, puts, pending.log, λ n. refl)))
    (λ (is : c.recover.result ≡ Err LogDevice). let bad = c.in-Err-BadLog.is in
    let which = c.in-Err-BadLog.field-0-is in cc) in
    subst (λ contents. Refuses s.size contents BadLog) (sym (same_contents s.contents s1.contents still.contents))
    (lost_refuses s.size s.contents lost)

pub returns-in-Err-BadLog-clause-kept : goal.returns-in-Err-BadLog-clause-kept
returns-in-Err-BadLog-clause-kept g c h other =
    let s = g.D.Disk.state c.args.disk.now in
    let s1 = g.D.Disk.state c.recover.new.disk in
    let lost = c.recover.ensures.bad h (cc) in
    let still = c.recover.ensures.unmodified h
    (λ puts pending. lost (with_puts puts s.contents) (inr (pending.gate, puts, pending.log, λ n. refl)))
    (λ (is : c.recover.result ≡ Err LogDevice). let bad = c.in-Err-BadLog.is in
    let which = c.in-Err-BadLog.field-0-is in cc) in
    inl still

pub returns-in-Ok-clause-named : goal.returns-in-Ok-clause-named
returns-in-Ok-clause-named g c = named_on (g.D.Disk.state c.recover.new.disk).size
    (g.D.Disk.state c.args.disk.now).size c.read_map.result c.recover.ensures.same.size c.read_map.ensures.named
