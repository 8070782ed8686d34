-- A call that is done lowers the room at most to 0.
use Rattle.std.proofs.Common.{◌≡◌, ◌≢◌, ℕ, ◌+◌, ◌≤◌, if◌then◌else◌, length, Some, sym, ap, subst, ◌∙◌, arith}
use Rattle.std.specs.Prelude.{◌==◌, ◌&&◌}
use Rattle.std.specs.Cmp.{nat_cmp_total}
use Rattle.std.specs.FinMap.{nat_cmp-IsAntisymmetric}
use Rattle.spec_image.specs.Common.{size, sum_entries, get, insert, remove, Files, Directory, version_cost}
use Rattle.spec_image.specs.Common.{directory_cost, SpecVersion, growth}
use Rattle.spec_machine.specs.Jobs.{SpecOutput, State, is_create}
use Rattle.spec_machine.specs.Room.{pending_creations, directories_cost}
use Rattle.spec_image.proofs.Common.{get-remove_is, get-insert_same, remove-insert_same, sum_entries_le}
use Rattle.spec_image.proofs.Common.{sum_entries-remove, size-insert_over}

-- the two sums: what is pending, and what is being created in a directory
abbrev pub pending : SpecOutput → ℕ
pending o = version_cost (length o.pending.body)

abbrev pub creation : ℕ → SpecOutput → ℕ
creation ppn o = if is_create o.kind && (o.place.ppn == ppn) then 1 else 0

pub directory_cost_le : (a b : ℕ) → a ≤ b → directory_cost a ≤ directory_cost b
directory_cost_le a b h = omega (arith, h)

-- Directories.

-- what a directory costs
abbrev one_directory : State → ℕ → Directory SpecVersion → ℕ
one_directory s ppn d = directory_cost (size d.files + pending_creations s ppn)

module _ (s s' : State) where
  -- the same files, and no more creations
  pub directories_le : s'.files ≡ s.files → ((ppn : ℕ) → pending_creations s' ppn ≤ pending_creations s ppn)
      → directories_cost s' ≤ directories_cost s
  directories_le same few =
      let a = sum_entries_le nat_cmp_total (one_directory s') (one_directory s) s.files
      (λ ppn d is. let h = few ppn in directory_cost_le (size d.files + pending_creations s' ppn)
      (size d.files + pending_creations s ppn) (omega (arith, h))) in
      subst (λ files. directory_cost (size files) + sum_entries (one_directory s') files ≤ directories_cost s)
      (sym same) (omega (arith, a))

  -- all other directories
  others_le : (files : Files SpecVersion) (k : ℕ)
      → ((ppn : ℕ) → ppn ≢ k → pending_creations s' ppn ≤ pending_creations s ppn)
      → sum_entries (one_directory s') (remove files k) ≤ sum_entries (one_directory s) (remove files k)
  others_le files k few =
      sum_entries_le nat_cmp_total (one_directory s') (one_directory s) (remove files k)
      (λ ppn d is. let h = few ppn (get-remove_is nat_cmp_total nat_cmp-IsAntisymmetric files k ppn d is).0 in
      directory_cost_le (size d.files + pending_creations s' ppn) (size d.files + pending_creations s ppn)
      (omega (arith, h)))

  grown : (d a b rest rest' all all' : ℕ) → all ≡ a + rest → all' ≡ b + rest' → rest' ≤ rest → b ≤ a + d
      → all' ≤ all + d
  grown d a b rest rest' all all' h g l m = omega (arith, h, g, l, m)

  grows : (n c c' : ℕ) → c' ≤ c + 1 → directory_cost (n + c') ≤ directory_cost (n + c) + growth (n + c)
  grows n c c' h = omega (arith, h)

  -- one more creation in a directory that exists
  pub directories_grow : s'.files ≡ s.files → (k : ℕ) (d : Directory SpecVersion) → get s.files k ≡ Some d
      → pending_creations s' k ≤ pending_creations s k + 1
      → ((ppn : ℕ) → ppn ≢ k → pending_creations s' ppn ≤ pending_creations s ppn)
      → directories_cost s' ≤ directories_cost s + growth (size d.files + pending_creations s k)
  directories_grow same k d is one few =
      let a = sum_entries-remove nat_cmp_total nat_cmp-IsAntisymmetric (one_directory s) s.files k d is in
      let b = sum_entries-remove nat_cmp_total nat_cmp-IsAntisymmetric (one_directory s') s.files k d is in
      let l = others_le s.files k few in
      let m = grows (size d.files) (pending_creations s k) (pending_creations s' k) one in
      let all = grown (growth (size d.files + pending_creations s k)) (one_directory s k d) (one_directory s' k d)
      (sum_entries (one_directory s) (remove s.files k)) (sum_entries (one_directory s') (remove s.files k))
      (sum_entries (one_directory s) s.files) (sum_entries (one_directory s') s.files) a b l m in
      subst (λ files. directory_cost (size files) + sum_entries (one_directory s') files
      ≤ directories_cost s + growth (size d.files + pending_creations s k)) (sym same) (omega (arith, all))

  -- a directory's files change, and it costs no more
  pub directories_changed : (k : ℕ) (d new : Directory SpecVersion) → get s.files k ≡ Some d
      → s'.files ≡ insert s.files k new
      → size new.files + pending_creations s' k ≤ size d.files + pending_creations s k
      → ((ppn : ℕ) → ppn ≢ k → pending_creations s' ppn ≤ pending_creations s ppn)
      → directories_cost s' ≤ directories_cost s
  directories_changed k d new is files few less =
      let a = sum_entries-remove nat_cmp_total nat_cmp-IsAntisymmetric (one_directory s) s.files k d is in
      let b = sum_entries-remove nat_cmp_total nat_cmp-IsAntisymmetric (one_directory s') (insert s.files k new) k new
      (get-insert_same nat_cmp_total s.files k new) in
      let r : sum_entries (one_directory s') (remove (insert s.files k new) k)
      ≡ sum_entries (one_directory s') (remove s.files k) = ap (sum_entries (one_directory s'))
      (remove-insert_same nat_cmp_total nat_cmp-IsAntisymmetric s.files k new) in
      let l = others_le s.files k less in
      let m = directory_cost_le (size new.files + pending_creations s' k) (size d.files + pending_creations s k) few in
      let z = size-insert_over nat_cmp_total nat_cmp-IsAntisymmetric s.files k new d is in
      subst (λ fs. directory_cost (size fs) + sum_entries (one_directory s') fs ≤ directories_cost s) (sym files)
      (subst (λ q. directory_cost q + sum_entries (one_directory s') (insert s.files k new) ≤ directories_cost s)
      (sym z) (omega (arith, a, b, r, l, m)))

  more : (a b : ℕ) → a ≤ b + 1 → directory_cost a ≤ directory_cost b + growth b
  more a b h = omega (arith, h)

  -- a directory gets one more entry
  pub directories_more : (k : ℕ) (d new : Directory SpecVersion) → get s.files k ≡ Some d
      → s'.files ≡ insert s.files k new
      → size new.files + pending_creations s' k ≤ size d.files + pending_creations s k + 1
      → ((ppn : ℕ) → ppn ≢ k → pending_creations s' ppn ≤ pending_creations s ppn)
      → directories_cost s' ≤ directories_cost s + growth (size d.files + pending_creations s k)
  directories_more k d new is files few less =
      let a = sum_entries-remove nat_cmp_total nat_cmp-IsAntisymmetric (one_directory s) s.files k d is in
      let b = sum_entries-remove nat_cmp_total nat_cmp-IsAntisymmetric (one_directory s') (insert s.files k new) k new
      (get-insert_same nat_cmp_total s.files k new) in
      let r : sum_entries (one_directory s') (remove (insert s.files k new) k)
      ≡ sum_entries (one_directory s') (remove s.files k) = ap (sum_entries (one_directory s'))
      (remove-insert_same nat_cmp_total nat_cmp-IsAntisymmetric s.files k new) in
      let l = others_le s.files k less in
      let m = more (size new.files + pending_creations s' k) (size d.files + pending_creations s k) few in
      let all = grown (growth (size d.files + pending_creations s k)) (one_directory s k d) (one_directory s' k new)
      (sum_entries (one_directory s) (remove s.files k)) (sum_entries (one_directory s') (remove s.files k))
      (sum_entries (one_directory s) s.files) (sum_entries (one_directory s') (insert s.files k new)) a (b
      ∙ ap (λ q. one_directory s' k new + q) r) l m in
      let z = size-insert_over nat_cmp_total nat_cmp-IsAntisymmetric s.files k new d is in
      subst (λ fs. directory_cost (size fs) + sum_entries (one_directory s') fs
      ≤ directories_cost s + growth (size d.files + pending_creations s k)) (sym files)
      (subst (λ q. directory_cost q + sum_entries (one_directory s') (insert s.files k new)
      ≤ directories_cost s + growth (size d.files + pending_creations s k)) (sym z) (omega (arith, all)))
