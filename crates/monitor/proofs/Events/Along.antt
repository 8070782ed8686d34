-- What a crash leaves of a disk that served a list of events.
use Rattle.std.proofs.Common.{◌≡◌, ◌⊎◌, inl, inr, ⊎_elim, ℕ, List, [], ◌∷◌, Result, Ok, Err, IfOk, refl, sym, subst}
use Rattle.std.proofs.Common.{◌∙◌}
use Rattle.blockdisk.specs.Common.{Contents, DiskState, MayLeave, SameDisk, Still, LeavesOnly, same_contents}
use Rattle.blockdisk.specs.Common.{leaves_weaker}
use Rattle.changeset.specs.Common.{IsRecovered}
use Rattle.spec_machine.specs.Common.{StandsForState, StandsForEither, RunsOn, State, Service, Serving, Broken, step}
use Rattle.spec_image.specs.Common.{StartFault, HasFault, File, Files, Pack, pack_in, pack_of, SettledStandsOn}
use Rattle.spec_image.specs.Common.{StandsOn, Stands}
use Rattle.spec_machine.specs.declared.call.Event.{Event}
use Rattle.spec_machine.specs.declared.call.Reply.{Reply}
use Rattle.spec_image.proofs.Common.{fault_excludes, stands_in_any, settled_same}
use Rattle.volume.specs.Common.{Refuses, StandsLikeBefore}
use Rattle.volume.specs.declared.error.VolumeError.{VolumeError}
use Rattle.volume.specs.declared.error.VolumeError.TheVariants.{NotVolume, BadHome, BadLog, BadDirectory}
use Rattle.volume.specs.declared.error.VolumeError.TheVariants.{BadRetrieval, BlockTwice, TableWrong, Device}
use Rattle.volume.specs.declared.error.VolumeError.TheVariants.{NoMemory, Failed, BadData}
use Rattle.volume.proofs.common.Packs.{stands_in_one}
use Rattle.volume.proofs.VolumeStart.Starts.{stands_ignores_gate}
use Rattle.monitor.specs.Common.{IsAlong, HasStarted, AreStopped}
use Rattle.spec_image.specs.Faults as faults

module _ (pack : Pack) (d : DiskState) (only_now : (c : Contents) → d.left_since d.clock c
    → MayLeave d c) (c : Contents) where
  abbrev Found : State → List Event → List Reply → Type 0
  Found s events replies = (found : State) × IsAlong pack (Serving s) events replies found × StandsForState pack found c

  -- before the first event or after it
  at_first : (s : State) (event : Event) (events : List Event) (reply : Reply) (replies : List Reply)
      → StandsForEither pack s event reply c → Found s (event ∷ events) (reply ∷ replies)
  at_first s event events reply replies either = ⊎_elim (λ before. (s, inl refl, before))
      (λ after. ((step pack 0 s event).1, inr (inl (after.0, refl)), after.1)) either

  pub along : (t : ℕ) (s : State) (events : List Event) (replies : List Reply) (new : Service)
      → RunsOn pack d t (Serving s) events replies new → d.left_since t c → Found s events replies
  along t s [] [] new r left = (s, refl, r.2 c (only_now c (subst (λ k. d.left_since k c) r.1 left)))
  along t s [] (reply ∷ replies) new r left = absurd r
  along t s (event ∷ events) [] new r left = absurd r
  along t s (event ∷ events) (reply ∷ replies) new (Broken, a, r) left = at_first s event events reply replies
      (r.1 c left)
  along t s (event ∷ events) (reply ∷ replies) new (Serving mid, a, r) left = ⊎_elim
      (λ later. let on = along r.0 mid events replies new r.3 later in (on.0, inr (inr (Serving mid, a, on.1)), on.2))
      (λ either. at_first s event events reply replies either)
      (r.2 c left)

-- Starts that were stopped.

-- what the last of them left stands for whatever something stood for that the disk d left since moment t, in the same
-- layout
pub stopped_like : {E : Type 0} (state : E → DiskState) (d : DiskState) (t : ℕ) (starts : List (E × E))
    (left : Contents) → AreStopped state d t starts left
    → (c : Contents) × d.left_since t c × ((layout : ℕ) (files : Files File)
    → StandsOn (pack_in layout d.size) c files → StandsOn (pack_in layout d.size) left files)
stopped_like state d t [] left r = (left, r, λ layout files stands. stands)
stopped_like state d t ((begun, ended) ∷ starts) left r =
    let on = stopped_like state (state ended) (state begun).clock starts left r.3 in
    let first = r.1.since on.0 on.1 in (
      first.0,
      r.0.left first.0 first.1,
      λ layout files stands.
          subst (λ n. StandsOn (pack_in layout n) left files) (r.2 ∙ r.0.size)
          (on.2 layout files (subst (λ n. StandsOn (pack_in layout n) on.0 files) (sym r.2)
          (first.2 layout files (subst (λ n. StandsOn (pack_in layout n) first.0 files) (sym r.0.size) stands)))),
    )

-- a start over what stands for the same files whatever a crash may leave of it leaves the same at any moment
pub stands_again : (s s' : DiskState) (files : Files File) → ((c : Contents) → MayLeave s c → Stands s.size c files)
    → HasStarted s s' → LeavesOnly s s' (λ c. Stands s.size c files)
stands_again s s' files all started = leaves_weaker s s' (StandsLikeBefore s) (λ c. Stands s.size c files) started
    (λ c like.
    let stood = all like.0 like.1 in
    let layout = stood.2.0.layout in
    stands_in_any (pack_in layout s.size) c files
    (like.2 layout files (stood.0, stood.1, (stood.2.0, stood.2.1, stood.2.2, refl))))

-- Contents that stood for files have no fault after the recovery either.

stands_after : (s s' : DiskState) (layout : ℕ) (files : Files File)
    → StandsOn (pack_in layout s.size) s.contents files
    → Still s s' ⊎ IsRecovered s.size s.contents s'.contents → StandsOn (pack_in layout s.size) s'.contents files
stands_after s s' layout files stands = ⊎_elim
    (λ (still : Still s s'). subst (λ x. StandsOn (pack_in layout s.size) x files)
    (sym (same_contents s.contents s'.contents still.contents)) stands)
    (λ (recovered : IsRecovered s.size s.contents s'.contents). (
      s'.contents,
      inl (recovered.gate, λ n. refl),
      stands_ignores_gate (pack_in layout s.size) files recovered.settled s'.contents recovered.others
          (subst (λ x. SettledStandsOn (pack_in layout s.size) x files)
          (settled_same s.size s.contents stands.0 recovered.settled stands.1 recovered.is_settled) stands.2),
    ))

pub no_fault : (s s' : DiskState) (layout : ℕ) (files : Files File)
    → StandsOn (pack_in layout s.size) s.contents files → (error : VolumeError)
    → Refuses s.size s'.contents error → ((error ≡ Device → ⊥) → Still s s' ⊎ IsRecovered s.size s.contents s'.contents)
    → (error ≡ NoMemory) ⊎ (error ≡ Device)
no_fault s s' layout files stands = by_error
  where
    none : (fault : StartFault) → HasFault s.size s'.contents fault
        → Still s s' ⊎ IsRecovered s.size s.contents s'.contents → ⊥
    none fault has kept = fault_excludes s.size s'.contents files fault has
        (stands_in_any (pack_in layout s.size) s'.contents files (stands_after s s' layout files stands kept))

    by_error : (error : VolumeError) → Refuses s.size s'.contents error
        → ((error ≡ Device → ⊥) → Still s s' ⊎ IsRecovered s.size s.contents s'.contents)
        → (error ≡ NoMemory) ⊎ (error ≡ Device)
    by_error NotVolume is kept = absurd (none faults.StartFault.NotVolume is (kept (λ e. cc)))
    by_error BadHome is kept = absurd (none faults.StartFault.BadHome is (kept (λ e. cc)))
    by_error BadLog is kept = absurd (none faults.StartFault.BadLog is (kept (λ e. cc)))
    by_error (BadDirectory n) is kept = absurd (none (faults.StartFault.BadDirectory n) is (kept (λ e. cc)))
    by_error (BadRetrieval n) is kept = absurd (none (faults.StartFault.BadRetrieval n) is (kept (λ e. cc)))
    by_error (BlockTwice n) is kept = absurd (none (faults.StartFault.BlockTwice n) is (kept (λ e. cc)))
    by_error (TableWrong n) is kept = absurd (none (faults.StartFault.TableWrong n) is (kept (λ e. cc)))
    by_error Device is kept = inr refl
    by_error NoMemory is kept = inl refl
    by_error Failed is kept = absurd is
    by_error (BadData n) is kept = absurd (none (faults.StartFault.BadData n) is (kept (λ e. cc)))

-- Results.

pub ok_each : {A E X : Type 0} (Q : X → Type 0) (H : A → Type 0) (P : X → A → Type 0) (r : Result A E)
    → ((x : X) → Q x → IfOk r (λ a. H a → P x a)) → IfOk r (λ a. H a → (x : X) → Q x → P x a)
ok_each Q H P (Ok a) each = λ h x q. each x q h
ok_each Q H P (Err e) each = tt

pub ok_either : {A E : Type 0} (H P Q : A → Type 0) (r : Result A E) → IfOk r (λ a. H a → P a) ⊎ IfOk r (λ a. H a → Q a)
    → IfOk r (λ a. H a → P a ⊎ Q a)
ok_either H P Q (Ok a) either = λ h. ⊎_elim (λ p. inl (p h)) (λ q. inr (q h)) either
ok_either H P Q (Err e) either = tt

-- two clauses of what was opened
pub ok_pair : {A E : Type 0} (H P Q : A → Type 0) (r : Result A E) → IfOk r (λ a. H a → P a) → IfOk r (λ a. H a → Q a)
    → IfOk r (λ a. H a → P a × Q a)
ok_pair H P Q (Ok a) p q = λ h. (p h, q h)
ok_pair H P Q (Err e) p q = tt

-- what is opened has the layout in which its contents stood for files before
pub start_in : {A E : Type 0} (H : A → Type 0) (state : A → DiskState) (S : A → Files File → Type 0) (e : DiskState)
    (pack : Pack) (files : Files File) → pack.blocks ≡ e.size → StandsOn pack e.contents files → (r : Result A E)
    → IfOk r (λ a. SameDisk e (state a))
    → IfOk r (λ a. H a → (f : Files File) × StandsOn (pack_of (state a)) e.contents f × S a f)
    → IfOk r (λ a. H a → pack_of (state a) ≡ pack)
start_in H state S e pack files blocks stands (Ok a) same stood = λ h.
    stands_in_one (pack_of (state a)) pack e.contents (stood h).0 files (same.size ∙ sym blocks) (stood h).1 stands
start_in H state S e pack files blocks stands (Err error) same stood = tt

-- what is known, whatever the answer was, together with what holds at Ok
pub ok_and : {A E : Type 0} (K : Type 0) (H P : A → Type 0) (r : Result A E) → K → IfOk r (λ a. H a → P a)
    → IfOk r (λ a. H a → K × P a)
ok_and K H P (Ok a) known ok = λ h. (known, ok h)
ok_and K H P (Err e) known ok = tt
