-- A directory gets another quota: what is in memory stays whole.
use Rattle.std.proofs.Common.{◌≡◌, ℕ, ◌+◌, ◌*◌, ◌/◌, ◌^◌, ◌<◌, List, [], refl, sym, ap}
use Rattle.std.proofs.Common.{subst, ◌∙◌, arith}
use Rattle.std.specs.Ordering.{nat_cmp}
use Rattle.std.specs.List.{AllByRecursion}
use Rattle.words36.specs.declared.names.FileName.{FileName}
use Rattle.spec_image.specs.declared.put.Put.{Put}
use Rattle.spec_image.specs.Common.{directory_cost, SpecMasterEntry, master_words, IsMasterEntryOf}
use Rattle.directory.specs.Common.{IsChain, PutsChain, inserted}
use Rattle.volume.specs.Common.{IsDirectoryOf, word_limited, IsLimited, LimitsDirectory, CurrentDirectory, IsWholeMap}
use Rattle.volume.specs.Common.{MemoryMap, cost_beyond, IsWholeMemory, prime_at}
use Rattle.volume.proofs.common.Apart.{apart_same}
use Rattle.volume.proofs.VolumeStart.FoundDirectories.{all_at}
use Rattle.volume.proofs.common.ChainPuts.{PutsBoth, table_itself}
use Rattle.volume.proofs.common.SameKeys.{SameKeys, keys_back, keys_length, keys_absent, keys_once, keys_stand}
use Rattle.volume.proofs.common.SameKeys.{keys_prime, keys_growths, keys_set, inserted_place}
use Rattle.volume.proofs.common.Lists.{set_each}

-- the word of a protection and a quota with another quota
pub word_with : (word protection old quota : ℕ) → old < 262144 → word ≡ protection * 2 ^ 27 + old
    → word / 2 ^ 18 * 2 ^ 18 + quota ≡ protection * 2 ^ 27 + quota
word_with word protection old quota few is = omega arith

limited_entry : (e : SpecMasterEntry) (quota : ℕ) → quota < 262144 → IsMasterEntryOf 2 e
    → IsMasterEntryOf 2 (e.0, word_limited e.1 quota)
limited_entry e quota fits is = record {
  ppn = is.ppn;
  protection = is.protection;
  quota = quota;
  protection_fits = is.protection_fits;
  quota_fits = fits;
  word = word_with e.1.0 is.protection is.quota quota is.quota_fits is.word;
}

module _ (size : ℕ) (c c' : MemoryMap) (ppn quota : ℕ) (memory : IsWholeMemory size c)
    (limited : IsLimited c c' ppn quota)
  where
    abbrev pub entries : List SpecMasterEntry
    entries = inserted nat_cmp c.known.master.entries (ppn, word_limited limited.word quota)

    abbrev pub next : MemoryMap
    next = record c { known = record c.known { master = record c.known.master { entries = entries } } }

    pub same_keys : SameKeys c.known.master.entries entries
    same_keys = subst (SameKeys c.known.master.entries) (sym (inserted_place c.known.master.entries limited.place ppn
        limited.word (word_limited limited.word quota) limited.there))
        (keys_set c.known.master.entries limited.place ppn limited.word (word_limited limited.word quota)
        limited.there.is)

    pub limited_chain : quota < 262144 → IsChain nat_cmp (IsMasterEntryOf 2) next.known.master
    limited_chain fits = record {
      counted = memory.map.chain.counted
          ∙ ap directory_cost (sym (keys_length c.known.master.entries entries same_keys));
      are_entries = subst (AllByRecursion (IsMasterEntryOf 2)) (sym (inserted_place c.known.master.entries limited.place
          ppn limited.word (word_limited limited.word quota) limited.there))
          (set_each (IsMasterEntryOf 2) c.known.master.entries limited.place (ppn, word_limited limited.word quota)
          memory.map.chain.are_entries
          (limited_entry (ppn, limited.word) quota fits (all_at (IsMasterEntryOf 2) c.known.master.entries limited.place
          (ppn, limited.word) memory.map.chain.are_entries limited.there.is)));
      each_once = keys_once c.known.master.entries entries same_keys memory.map.chain.each_once;
      blocks_once = memory.map.chain.blocks_once;
    }

    limited_map : quota < 262144 → IsWholeMap size next.known
    limited_map fits = record {
      volume = memory.map.volume;
      size_is = memory.map.size_is;
      chain = limited_chain fits;
      inside = memory.map.inside;
      aligned = memory.map.aligned ∙ sym (keys_length c.known.master.entries entries same_keys);
      each = memory.map.each;
      bits = memory.map.bits;
      unchanged = memory.map.unchanged;
    }

    beyond_same : cost_beyond next ≡ cost_beyond c
    beyond_same = let grown = keys_growths c.pending c.known.master.entries entries same_keys c.known.directories in
        omega arith

    next_memory : quota < 262144 → IsWholeMemory size next
    next_memory fits = record {
      map = limited_map fits;
      keyed = memory.keyed;
      standing = memory.standing;
      waiting = memory.waiting;
      current = memory.current;
      housed = λ q absent. memory.housed q (keys_absent entries c.known.master.entries
          (keys_back c.known.master.entries entries same_keys) q absent);
      held = memory.held;
      inside = memory.inside;
      own = λ key p at. apart_same c next p (memory.own key p at) refl
          (λ n there. keys_prime c.known.master.entries entries same_keys c.known.directories p.prime.ppn p.prime.file
          ∙ there) (λ n mine set. set) (λ j q is. is);
      apart = memory.apart;
      primes = memory.primes;
      fits = memory.fits;
      booked = let was = memory.booked in let same = beyond_same in omega arith;
      beyond = λ some. memory.beyond (let same = beyond_same in omega arith);
      within = memory.within;
    }

    pub limited_memory : quota < 262144 → IsWholeMemory size c'
    limited_memory fits = subst (IsWholeMemory size) (sym limited.map) (next_memory fits)

    -- Each directory stays, and each name has its prime block.

    pub directory_stays : (owner : ℕ) (d : CurrentDirectory) → IsDirectoryOf c owner d → IsDirectoryOf c' owner d
    directory_stays owner d there =
        let now = keys_stand c.known.master.entries entries owner there.0 there.1 same_keys there.2 in
        subst (λ (x : MemoryMap). IsDirectoryOf x owner d) (sym limited.map) (there.0, now.0, now.1, there.3)

    pub primes_stay : (owner : ℕ) (name : FileName) → prime_at c' owner name ≡ prime_at c owner name
    primes_stay owner name = ap (λ (x : MemoryMap). prime_at x owner name) limited.map
        ∙ keys_prime c.known.master.entries entries same_keys c.known.directories owner name

-- What is put.
module _ (size : ℕ) (c c' : MemoryMap) (ppn quota : ℕ) (puts : List Put) (memory : IsWholeMemory size c)
    (limits : LimitsDirectory c c' ppn quota puts) where
  put_chain : PutsChain master_words c.known.master (next size c c' ppn quota memory limits.limited).known.master []
      puts
  put_chain = subst (λ (x : MemoryMap). PutsChain master_words c.known.master x.known.master [] puts)
      limits.limited.map limits.put

  pub puts_both : PutsBoth master_words size c.known.table c.known.table c.known.master
      (next size c c' ppn quota memory limits.limited).known.master puts
  puts_both = record {
    chain_puts = puts;
    chain = put_chain;
    few = limits.few;
    table = table_itself size c.known.table puts;
    inside = memory.map.inside;
  }
