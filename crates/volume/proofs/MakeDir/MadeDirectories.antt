-- What any event states of the disk, from what is known of it; and a directory that is made: what is in memory stays
-- whole.
use Rattle.std.proofs.Common.{◌≡◌, ℕ, ◌+◌, ◌<◌, ◌≤◌, ◌⊎◌, ⊎_elim, false, List, [], ◌∷◌, ◌++◌, length, replicate}
use Rattle.std.proofs.Common.{slice_index, ◌-◌, Option, Some, None, refl, sym, ◌∙◌, ap, subst, arith, length-append}
use Rattle.std.proofs.lemmas.Bool.{cases_eq}
use Rattle.std.specs.List.{AllByRecursion, AllZip}
use Rattle.spec_image.specs.declared.put.Put.{Put}
use Rattle.spec_image.specs.Common.{times, total, directory_cost, SpecMasterEntry, table_blocks, space_start}
use Rattle.std.specs.Option.{option_or}
use Rattle.std.specs.Ordering.{nat_cmp}
use Rattle.std.specs.FinMap.Entries.{find}
use Rattle.spec_image.proofs.Common.{find-append_both, times-append}
use Rattle.changeset.specs.Common.{IsGateOrLog, IsPutIn, times_tail}
use Rattle.alloctab.specs.Common.{bit, holds, space, IsFree}
use Rattle.volume.specs.Common.{CurrentDirectory, CurrentMap, reaches_in_entries, reaches_in_known, known_reaches}
use Rattle.volume.specs.Common.{IsWholeDirectory, IsWholeMap, cost_of_directory, cost_of_known, prime_in, MemoryMap}
use Rattle.volume.specs.Common.{slot, pending_at, IsKeyed, AreStanding, pinned_reaches, pinned_cost, current_reaches}
use Rattle.volume.specs.Common.{entry_reaches, pending_reaches, pending_cost, creates, growths, AreWaiting}
use Rattle.volume.specs.Common.{IsWholeMemory, IsAligned, bare_known, entry_made, IsMade}
use Rattle.volume.specs.declared.pending.PendingVersion.{PendingVersion}
use Rattle.volume.proofs.common.Apart.{apart_same}
use Rattle.volume.proofs.PinVersion.Pins.{total_at}
use Rattle.volume.proofs.common.PrimeBlocks.{prime_stays}
use Rattle.volume.proofs.common.Lookups.{all_push, total-push, zip_behind}
use Rattle.volume.proofs.MakeDir.Law.{bare_chain, made_inside, puts_both}
use Rattle.volume.proofs.common.ChainPuts.{space_not_written}

-- one directory more
pub growths_push : (pending : List (Option PendingVersion)) (es : List SpecMasterEntry) (ds : List CurrentDirectory)
    (e : SpecMasterEntry) (d : CurrentDirectory) → length ds ≡ length es
    → growths pending (es ++ e ∷ []) (ds ++ d ∷ [])
    ≡ growths pending es ds + (directory_cost (length d.chain.entries + total (creates e.0) pending)
    - directory_cost (length d.chain.entries))
growths_push pending [] [] e d same = omega arith
growths_push pending [] (x ∷ ds) e d same = absurd (omega arith)
growths_push pending (y ∷ es) [] e d same = absurd (omega arith)
growths_push pending (y ∷ es) (x ∷ ds) e d same = let rest = growths_push pending es ds e d (omega arith) in omega arith

-- what isn't found in a longer list isn't found in its beginning
absent_before : (q : ℕ) (es : List SpecMasterEntry) (e : SpecMasterEntry) → find nat_cmp q (es ++ e ∷ []) ≡ None
    → find nat_cmp q es ≡ None
absent_before q es e none = by (find nat_cmp q es) (sym (find-append_both nat_cmp es (e ∷ []) q) ∙ none)
  where
    by : (o : Option (ℕ × ℕ)) → option_or o (find nat_cmp q (e ∷ [])) ≡ None → o ≡ None
    by None is = refl
    by (Some x) is = cc

-- Of the directory that is made.

module _ (size : ℕ) (k k' : CurrentMap) (ppn protection first : ℕ) (puts : List Put) (whole : IsWholeMap size k)
    (made : IsMade size k k' ppn protection first puts) where
  pub made_aligned : IsAligned k'
  made_aligned =
      let a = ap (λ (l : List CurrentDirectory). length l) made.entered.directories
      ∙ length-append k.directories (bare_known first ∷ []) in
      let b = ap length made.entered.entries ∙ length-append k.master.entries _ in
      let e = whole.aligned in
      omega arith

  bare_whole : IsWholeDirectory size (bare_known first)
  bare_whole = record { chain = bare_chain first; inside = (made.inside.0, tt); aligned = refl; versions = tt }

  cost_more : length k'.master.blocks + total cost_of_directory k'.directories
      ≡ length k.master.blocks + total cost_of_directory k.directories + length (first ∷ made.grown)
  cost_more =
      let a = ap (λ (l : List ℕ). length l) made.entered.blocks ∙ length-append k.master.blocks made.grown in
      let b = ap (total cost_of_directory) made.entered.directories
      ∙ total-push cost_of_directory k.directories (bare_known first) in
      let one : cost_of_directory (bare_known first) ≡ 1 = refl in
      omega arith

  reaches_more : (n : ℕ) → known_reaches n k'.master k'.directories ≡ known_reaches n k.master k.directories
      + times n (first ∷ made.grown)
  reaches_more n =
      let a = ap (times n) made.entered.blocks ∙ times-append n k.master.blocks made.grown in
      let b = ap (total (reaches_in_known n)) made.entered.directories
      ∙ total-push (reaches_in_known n) k.directories (bare_known first) in
      let one : reaches_in_known n (bare_known first) ≡ times n (first ∷ []) + 0 = refl in
      omega arith

  pub made_whole : IsWholeMap size k'
  made_whole = record {
    volume = whole.volume;
    size_is = made.taken.size ∙ whole.size_is;
    chain = made.entered.chain;
    inside = made_inside size k k' ppn protection first puts whole made;
    aligned = made_aligned;
    each = subst (AllByRecursion (IsWholeDirectory size)) (sym made.entered.directories)
        (all_push (IsWholeDirectory size) k.directories (bare_known first) whole.each bare_whole);
    bits = λ n. let a = made.taken.bits n in let b = whole.bits n in let e = reaches_more n in omega arith;
    unchanged = made.taken.changed ∙ ap (λ (n : ℕ). replicate (table_blocks n) false) whole.size_is;
  }

  -- a block that isn't free is not among free ones
  not_free : (n : ℕ) (ns : List ℕ) → (IsFree k.table n → ⊥) → AllByRecursion (IsFree k.table) ns → times n ns ≡ 0
  not_free n [] used all = refl
  not_free n (m ∷ ns) used all = ⊎_elim (λ is. absurd (used (subst (IsFree k.table) (sym is) all.0)))
      (λ other. times_tail n m ns other ∙ not_free n ns used all.1) (cases_eq n m)

  -- nothing is being created in it
  growths_made : (c c' : MemoryMap) → IsWholeMemory size c → c.known ≡ k → c'.known ≡ k' → c'.pending ≡ c.pending
      → growths c'.pending c'.known.master.entries c'.known.directories
      ≡ growths c.pending c.known.master.entries c.known.directories
  growths_made c c' memory was is pending =
      let absent : find nat_cmp ppn c.known.master.entries ≡ None = ap (λ x. find nat_cmp ppn x.master.entries) was
      ∙ made.absent in
      let none = memory.housed ppn absent in
      let aligned = memory.map.aligned in
      (λ i. growths (pending i) (is i).master.entries (is i).directories)
      ∙ (λ i. growths c.pending (made.entered.entries i) (made.entered.directories i))
      ∙ growths_push c.pending k.master.entries k.directories (entry_made ppn protection first)
      (bare_known first) whole.aligned
      ∙ (let same : directory_cost (0 + total (creates ppn) c.pending)
      ≡ directory_cost 0 = ap (λ (n : ℕ). directory_cost (0 + n)) none in omega arith)
      ∙ (λ i. growths c.pending (sym was i).master.entries (sym was i).directories)

  -- with the versions in use, which stay
  pub made_memory : (c c' : MemoryMap) → IsWholeMemory size c → c.known ≡ k → c'.known ≡ k' → c'.live ≡ c.live
      → c'.pending ≡ c.pending → c'.keys ≡ c.keys ++ [] ∷ [] → IsWholeMemory size c'
  made_memory c c' memory was is live pending keys =
      let table : c'.known.table.held ≡ c.known.table.held = ap (λ x. x.table.held) is ∙ made.taken.held
      ∙ sym (ap (λ x. x.table.held) was) in
      let directories : c'.known.directories ≡ c.known.directories ++ bare_known first ∷ [] = ap (λ x. x.directories) is
      ∙ made.entered.directories ∙ ap (λ x. x.directories ++ bare_known first ∷ []) (sym was) in
      record {
        map = subst (IsWholeMap size) (sym is) made_whole;
        keyed = subst (λ l. AllZip (IsKeyed l) c'.known.directories c'.keys) (sym live)
            (subst (AllZip (IsKeyed c.live) c'.known.directories) (sym keys)
            (subst (λ ds. AllZip (IsKeyed c.live) ds (c.keys ++ [] ∷ [])) (sym directories)
            (zip_behind (IsKeyed c.live) c.known.directories c.keys (bare_known first) [] memory.keyed tt)));
        standing = subst AreStanding (sym live) memory.standing;
        waiting = subst (AreWaiting size) (sym pending) memory.waiting;
        current = λ n.
            let same = ap (total (current_reaches n)) live in
            let more = ap (entry_reaches n) directories
            ∙ total-push (λ (d : CurrentDirectory). reaches_in_entries n d.chain.entries d.versions) c.known.directories
            (bare_known first) in
            let was = memory.current n in
            omega arith;
        housed = λ q absent.
            let entries : c'.known.master.entries ≡ c.known.master.entries ++ entry_made ppn protection first
            ∷ [] = ap (λ x. x.master.entries) is ∙ made.entered.entries
            ∙ ap (λ x. x.master.entries ++ entry_made ppn protection first ∷ []) (sym was) in
            ap (total (creates q)) pending ∙ memory.housed q (absent_before q c.known.master.entries
            (entry_made ppn protection first) (ap (find nat_cmp q) (sym entries) ∙ absent));
        held = λ n.
            let same = ap (λ l. slice_index l n) table in
            let was = memory.held n in
            let held = ap (total (pinned_reaches n)) live in
            let waits = ap (total (pending_reaches n)) pending in
            omega arith;
        own = λ key p at.
            let waited : pending_at c.pending key ≡ Some p = ap (λ ps. pending_at ps key) (sym pending) ∙ at in
            apart_same c c' p (memory.own key p waited) live
            (λ n there. (λ i. prime_in (is i).master.entries (is i).directories p.prime.ppn p.prime.file)
            ∙ (λ i. prime_in (made.entered.entries i) (made.entered.directories i) p.prime.ppn p.prime.file)
            ∙ prime_stays k.master.entries (entry_made ppn protection first ∷ []) k.directories
            (bare_known first ∷ []) p.prime.ppn p.prime.file n
            ((λ i. prime_in (sym was i).master.entries (sym was i).directories p.prime.ppn p.prime.file) ∙ there))
            (λ n mine set.
            let part = total_at (pending_reaches n) refl c.pending key in
            let here = ap (pending_reaches n) waited in
            let sum = memory.held n in
            let there : 0 < holds k.table n = subst (λ x. 0 < holds x.table n) was (omega arith) in
            let new = not_free n (first ∷ made.grown) (λ free. let none = free.unheld in omega arith) made.free in
            let bits = made.taken.bits n in
            let bits_was = ap (λ x. bit x.table n) was in
            let bits_is = ap (λ x. bit x.table n) is in
            omega arith)
            (λ j q is_q. ap (λ ps. pending_at ps j) (sym pending) ∙ is_q);
        inside = λ n some. memory.inside n (subst (λ l. 0 < slice_index l n) table some);
        apart = λ n some.
            let there : 0 < holds c.known.table n = subst (λ l. 0 < slice_index l n) table some in
            let was_apart = memory.apart n there in
            let kept : 0 < holds k.table n = subst (λ x. 0 < holds x.table n) was there in
            let new = not_free n made.grown (λ free. let none = free.unheld in omega arith) made.free.1 in
            let first_new = not_free n (first ∷ []) (λ free. let none = free.unheld in omega arith) (made.free.0, tt) in
            let chain = ap (λ x. times n x.master.blocks) is ∙ ap (times n) made.entered.blocks
            ∙ times-append n k.master.blocks made.grown in
            let chain_was = ap (λ x. times n x.master.blocks) was in
            let dirs = ap (total (λ (d : CurrentDirectory). times n d.chain.blocks)) directories
            ∙ total-push (λ (d : CurrentDirectory). times n d.chain.blocks) c.known.directories (bare_known first) in
            omega arith;
        primes = λ key v there file. ap (λ l. slice_index l v.at) table
            ∙ memory.primes key v (ap (λ l. slot l key) (sym live) ∙ there) file;
        fits =
            let few = made.room in
            let large = whole.volume.large in
            let e = ap (λ x. x.table.booked) is in
            omega arith;
        beyond = λ some.
            let few = made.room in
            let e = ap (λ x. x.table.booked) is in
            omega arith;
        within = λ some. subst (λ (x : CurrentMap). x.table.booked ≤ space size) (sym is) made.room;
        booked =
            let a = made.taken.booked in
            let b = memory.booked in
            let w = ap (λ x. x.table.booked) was in
            let i = ap (λ x. x.table.booked) is in
            let costs = ap (λ x. cost_of_known x.master x.directories) was in
            let costs' = ap (λ x. cost_of_known x.master x.directories) is in
            let e = cost_more in
            let l = ap (total pinned_cost) live in
            let p = ap (total pending_cost) pending in
            let grown = growths_made c c' memory was is pending in
            omega arith;
      }

  -- a block in use is not written, except those of the master directory
  pub not_written : (n : ℕ) → space_start size ≤ n → times n k.master.blocks ≡ 0 → (IsFree k.table n → ⊥)
      → (n ≡ first) ⊎ (IsGateOrLog size n ⊎ IsPutIn puts n) → ⊥
  not_written n from none used = ⊎_elim
      (λ is. used (subst (IsFree k.table) (sym is) (made.free.0)))
      (space_not_written (puts_both size k k' ppn protection first puts whole made) n from
      (let a = ap (times n) made.entered.blocks ∙ times-append n k.master.blocks made.grown in
      let b = not_free n made.grown used made.free.1 in
      omega arith))
