-- Over runs: whatever serials are chosen, the replies are the same.
use Rattle.std.proofs.Common.{◌≡◌, ℕ, zero, suc, Bool, true, false, if◌then◌else◌, List, [], ◌∷◌, map, Option, Some}
use Rattle.std.proofs.Common.{None, refl, sym, ap, subst, ◌∙◌, inl, inr, option_map}
use Rattle.std.specs.Prelude.{◌==◌, pos, ◌-ℤ◌}
use Rattle.std.specs.Cmp.{nat_cmp_total}
use Rattle.std.specs.FinMap.{nat_cmp-IsAntisymmetric}
use Rattle.std.proofs.lemmas.Bool.{eqb-true, eq-eqb}
use Rattle.words36.specs.declared.names.FileName.{FileName}
use Rattle.spec_image.specs.Common.{get, map_values, Directory, Files, map_directory, SpecVersion, file_in}
use Rattle.spec_image.specs.Common.{without_serials, Pack}
use Rattle.spec_machine.specs.Jobs.{SpecInput, Channel, SpecJob, State, slot, channel_at, job_at}
use Rattle.spec_machine.specs.Room.{version_of, space, room}
use Rattle.spec_machine.specs.Sessions.{list}
use Rattle.spec_machine.specs.Step.{step}
use Rattle.spec_machine.specs.Runs.{IsFresh, Steps, StepsAll}
use Rattle.spec_machine.specs.Sound.{version_for, holds_at, Exists}
use Rattle.spec_machine.specs.declared.call.Event.{Event}
use Rattle.spec_machine.specs.declared.call.Reply.{Reply}
use Rattle.spec_image.proofs.Common.{same_map, get-map_values, map_values-map_values, name_total, name_exact}
use Rattle.spec_machine.proofs.SoundLaws.{fresh_is_new}
use Rattle.spec_machine.proofs.SerialMaps.{re_version, re_input, re_channel, re_job, re_files, re_state, file-re}
use Rattle.spec_machine.proofs.SerialMaps.{channel-re, job-re, version-re, booked-re}
use Rattle.spec_machine.proofs.SerialSteps.{step-re, list-re}

abbrev pub Exact : (ℕ → ℕ) → Type 0
Exact f = (a b : ℕ) → f a ≡ f b → a ≡ b

-- Two numbers changed for each other.

abbrev swapped : ℕ → ℕ → ℕ → ℕ
swapped a b x = if x == a then b else if x == b then a else x

swap-first : (a b : ℕ) → swapped a b a ≡ b
swap-first a b = let e = eq-eqb a a refl in rw e refl

swap-second : (a b : ℕ) → swapped a b b ≡ a
swap-second a b = decide (b == a) refl
  where
    decide : (t : Bool) → (b == a) ≡ t → swapped a b b ≡ a
    decide true e = rw e (eqb-true b a e)
    decide false e = let g = eq-eqb b b refl in rw e (rw g refl)

swap-other : (a b x : ℕ) → (x == a) ≡ false → (x == b) ≡ false → swapped a b x ≡ x
swap-other a b x e g = rw e (rw g refl)

swap-twice : (a b x : ℕ) → swapped a b (swapped a b x) ≡ x
swap-twice a b x = decide (x == a) refl (x == b) refl
  where
    decide : (t : Bool) → (x == a) ≡ t → (u : Bool) → (x == b) ≡ u → swapped a b (swapped a b x) ≡ x
    decide true e u g = let same = eqb-true x a e in ap (λ y. swapped a b (swapped a b y)) same
        ∙ ap (swapped a b) (swap-first a b) ∙ swap-second a b ∙ sym same
    decide false e true g = let same = eqb-true x b g in ap (λ y. swapped a b (swapped a b y)) same
        ∙ ap (swapped a b) (swap-second a b) ∙ swap-first a b ∙ sym same
    decide false e false g = ap (swapped a b) (swap-other a b x e g) ∙ swap-other a b x e g

swap-exact : (a b : ℕ) → Exact (swapped a b)
swap-exact a b x y e = sym (swap-twice a b x) ∙ ap (swapped a b) e ∙ swap-twice a b y

apart : (x a : ℕ) → (x ≡ a → ⊥) → (x == a) ≡ false
apart x a h = decide (x == a) refl
  where
    decide : (t : Bool) → (x == a) ≡ t → (x == a) ≡ false
    decide true e = absurd (h (eqb-true x a e))
    decide false e = e

-- The serials that a state has are all that counts.

map_slots : {X Y : Type 0} (f g : X → Y) (xs : List (Option X)) → ((n : ℕ) (x : X) → slot xs n ≡ Some x → f x ≡ g x)
    → map (option_map f) xs ≡ map (option_map g) xs
map_slots f g [] h = refl
map_slots f g (None ∷ xs) h = ap (λ zs. None ∷ zs) (map_slots f g xs (λ n x e. h (suc n) x e))
map_slots f g (Some y ∷ xs) h = λ i. Some (h zero y refl i) ∷ map_slots f g xs (λ n x e. h (suc n) x e) i

module _ (f g : ℕ → ℕ) (s : State) (alike : (v : SpecVersion) → Exists s v → f v.serial ≡ g v.serial) where
  same_version : (v : SpecVersion) → Exists s v → re_version f v ≡ re_version g v
  same_version v there = λ i. record { file = v.file; serial = alike v there i }

  same_names : (ppn : ℕ) (d : Directory SpecVersion) → get s.files ppn ≡ Some d
      → map_values (re_version f) d.files ≡ map_values (re_version g) d.files
  same_names ppn d is = same_map name_total name_exact _ _
      (λ name. get-map_values name_total (re_version f) d.files name ∙ by_name name (get d.files name) refl
      ∙ sym (get-map_values name_total (re_version g) d.files name))
    where
      by_name : (name : FileName) (o : Option SpecVersion) → get d.files name ≡ o
          → option_map (re_version f) o ≡ option_map (re_version g) o
      by_name name None e = refl
      by_name name (Some v) e = ap Some
          (same_version v (inl (record { ppn = ppn; name = name }, ap (λ o. file_in o name) is ∙ e)))

  same_files : re_files f s.files ≡ re_files g s.files
  same_files = same_map nat_cmp_total nat_cmp-IsAntisymmetric _ _ (λ ppn.
      get-map_values nat_cmp_total (map_directory (re_version f)) s.files ppn ∙ by_ppn ppn (get s.files ppn) refl
      ∙ sym (get-map_values nat_cmp_total (map_directory (re_version g)) s.files ppn))
    where
      by_ppn : (ppn : ℕ) (o : Option (Directory SpecVersion)) → get s.files ppn ≡ o
          → option_map (map_directory (re_version f)) o ≡ option_map (map_directory (re_version g)) o
      by_ppn ppn None e = refl
      by_ppn ppn (Some d) e = λ i.
          Some (record { protection = d.protection; quota = d.quota; files = same_names ppn d e i })

  same_input : (n ch : ℕ) (o : Option SpecInput)
      → ((v : SpecVersion) → option_map (λ (i : SpecInput). i.version) o ≡ Some v
      → Exists s v) → option_map (re_input f) o ≡ option_map (re_input g) o
  same_input n ch None h = refl
  same_input n ch (Some x) h = λ i.
      Some (record { place = x.place; version = same_version x.version (h x.version refl) i; next = x.next })

  same_channel : (n : ℕ) (job : SpecJob) → job_at s n ≡ Some job → (ch : ℕ) (c : Channel) → channel_at job ch ≡ Some c
      → re_channel f c ≡ re_channel g c
  same_channel n job there ch c is =
      let input = same_input n ch c.input (λ v e. inr (n, ch, ap (version_for ch) there ∙ ap version_of is ∙ e)) in
      λ i. record {
        mode = c.mode;
        input_header = c.input_header;
        output_header = c.output_header;
        status = c.status;
        input = input i;
        output = c.output;
      }

  same_job : (n : ℕ) (job : SpecJob) → job_at s n ≡ Some job → re_job f job ≡ re_job g job
  same_job n job there = ap (λ channels. record job { channels = channels })
      (map_slots (re_channel f) (re_channel g) job.channels (same_channel n job there))

  pub same_state : re_state f s ≡ re_state g s
  same_state = λ i. record { files = same_files i; jobs = map_slots (re_job f) (re_job g) s.jobs same_job i }

-- What a state has, it has with other serials.

holds_re : (f : ℕ → ℕ) (s : State) (n ch : ℕ)
    → holds_at (re_state f s) n ch ≡ option_map (re_version f) (holds_at s n ch)
holds_re f s n ch = ap (version_for ch) (job-re f s n) ∙ by_job (job_at s n)
  where
    by_job : (o : Option SpecJob) → version_for ch (option_map (re_job f) o) ≡ option_map (re_version f)
        (version_for ch o)
    by_job None = refl
    by_job (Some job) = ap version_of (channel-re f job ch) ∙ version-re f (channel_at job ch)

exists_re : (f : ℕ → ℕ) (s : State) (v : SpecVersion) → Exists s v → Exists (re_state f s) (re_version f v)
exists_re f s v (inl at) = inl (at.0, file-re f s.files at.0 ∙ ap (option_map (re_version f)) at.1)
exists_re f s v (inr at) = inr (at.0, at.1, holds_re f s at.0 at.1 ∙ ap (option_map (re_version f)) at.2)

-- Two states that differ only in their serials.

abbrev pub Related : State → State → Type 0
Related s t = (f : ℕ → ℕ) × Exact f × (t ≡ re_state f s)

-- the same serials, except that a fresh one goes to a fresh one
module _ (f : ℕ → ℕ) (exact : Exact f) (s : State) (a b : ℕ) (fresh : IsFresh s a)
    (fresh' : IsFresh (re_state f s) b) where
  abbrev sent : ℕ → ℕ
  sent x = swapped (f a) b (f x)

  sent-exact : Exact sent
  sent-exact x y e = exact x y (swap-exact (f a) b (f x) (f y) e)

  sent-alike : (v : SpecVersion) → Exists s v → f v.serial ≡ sent v.serial
  sent-alike v there = sym (swap-other (f a) b (f v.serial)
      (apart (f v.serial) (f a) (λ e. fresh_is_new s a fresh v there (exact v.serial a e)))
      (apart (f v.serial) b (λ e. fresh_is_new (re_state f s) b fresh' (re_version f v) (exists_re f s v there) e)))

  sent_step : (pack : Pack) (event : Event) → step pack b (re_state f s) event
      ≡ ((step pack a s event).0, re_state sent (step pack a s event).1)
  sent_step pack event =
      ap (λ t. step pack b t event) (same_state f sent s sent-alike)
      ∙ ap (λ k. step pack k (re_state sent s) event) (sym (swap-first (f a) b))
      ∙ step-re sent sent-exact pack a s event

pub related_step : (pack : Pack) (s t u w : State) (event : Event) (one other : Reply) → Related s t
    → Steps pack s event one u → Steps pack t event other w → (one ≡ other) × Related u w
related_step pack s t u w event one other r p q =
    let f = r.0 in
    let exact = r.1 in
    let fresh' = subst (λ x. IsFresh x q.0) r.2 q.1 in
    let e = sent_step f exact s p.0 q.0 p.1 fresh' pack event in
    let here : step pack q.0 (re_state f s) event ≡ (other, w) = ap (λ x. step pack q.0 x event) (sym r.2) ∙ q.2 in
    let g : ℕ → ℕ = λ x. swapped (f p.0) q.0 (f x) in
    let both : (other, w) ≡ (one, re_state g u) = sym here ∙ e
    ∙ ap (λ (x : Reply × State). (x.0, re_state g x.1)) p.2 in (
      sym (ap (λ (x : Reply × State). x.0) both),
      (g, sent-exact f exact s p.0 q.0 p.1 fresh', ap (λ (x : Reply × State). x.1) both),
    )

pub itself_related : (s : State) → Related s s
itself_related s = (λ x. x, (λ a b e. e), sym (no_change))
  where
    id_input : (o : Option SpecInput) → option_map (re_input (λ x. x)) o ≡ o
    id_input None = refl
    id_input (Some x) = refl

    id_channels : (cs : List (Option Channel)) → map (option_map (re_channel (λ x. x))) cs ≡ cs
    id_channels [] = refl
    id_channels (None ∷ cs) = ap (λ zs. None ∷ zs) (id_channels cs)
    id_channels (Some c ∷ cs) = λ i. Some
        (record {
          mode = c.mode;
          input_header = c.input_header;
          output_header = c.output_header;
          status = c.status;
          input = id_input c.input i;
          output = c.output;
        }) ∷ id_channels cs i

    id_jobs : (js : List (Option SpecJob)) → map (option_map (re_job (λ x. x))) js ≡ js
    id_jobs [] = refl
    id_jobs (None ∷ js) = ap (λ zs. None ∷ zs) (id_jobs js)
    id_jobs (Some job ∷ js) = λ i.
        Some (record { ppn = job.ppn; core = job.core; channels = id_channels job.channels i }) ∷ id_jobs js i

    id_files : (files : Files SpecVersion) → re_files (λ x. x) files ≡ files
    id_files files = same_map nat_cmp_total nat_cmp-IsAntisymmetric _ _
        (λ ppn. get-map_values nat_cmp_total (map_directory (re_version (λ x. x))) files ppn ∙ by_ppn (get files ppn))
      where
        by_name : (o : Option SpecVersion) → option_map (re_version (λ x. x)) o ≡ o
        by_name None = refl
        by_name (Some v) = refl

        by_ppn : (o : Option (Directory SpecVersion)) → option_map (map_directory (re_version (λ x. x))) o ≡ o
        by_ppn None = refl
        by_ppn (Some d) = λ i. Some (record {
          protection = d.protection;
          quota = d.quota;
          files = same_map name_total name_exact _ d.files
              (λ name. get-map_values name_total (re_version (λ x. x)) d.files name ∙ by_name (get d.files name)) i;
        })

    no_change : re_state (λ x. x) s ≡ s
    no_change = λ i. record { files = id_files s.files i; jobs = id_jobs s.jobs i }

-- Runs.

pub related_runs : (pack : Pack) (s t u w : State) (events : List Event) (one other : List Reply) → Related s t
    → StepsAll pack s events one u → StepsAll pack t events other w → (one ≡ other) × Related u w
related_runs pack s t u w [] [] [] r p q = (refl, subst (λ x. Related x w) (sym p) (subst (Related s) (sym q) r))
related_runs pack s t u w [] [] (o ∷ other) r p q = absurd q
related_runs pack s t u w [] (o ∷ one) other r p q = absurd p
related_runs pack s t u w (event ∷ events) [] other r p q = absurd p
related_runs pack s t u w (event ∷ events) (o ∷ one) [] r p q = absurd q
related_runs pack s t u w (event ∷ events) (a ∷ one) (b ∷ other) r p q =
    let h = related_step pack s t p.0 q.0 event a b r p.1 q.1 in
    let k = related_runs pack p.0 q.0 u w events one other h.1 p.2 q.2 in
    ((λ i. h.0 i ∷ k.0 i), k.1)

files_re : (f : ℕ → ℕ) (files : Files SpecVersion) → without_serials (re_files f files) ≡ without_serials files
files_re f files = map_values-map_values nat_cmp_total (map_directory (re_version f))
    (map_directory (λ (v : SpecVersion). v.file)) files ∙ alike
  where
    alike : map_values (λ d. map_directory (λ (v : SpecVersion). v.file) (map_directory (re_version f) d)) files
        ≡ without_serials files
    alike = ap (λ h. map_values h files)
        (λ i d. record {
          protection = d.protection;
          quota = d.quota;
          files = map_values-map_values name_total (re_version f) (λ (v : SpecVersion). v.file) d.files i;
        })

pub related_shown : (pack : Pack) (s t : State) → Related s t → (without_serials s.files ≡ without_serials t.files)
    × ((n owner : ℕ) → list s n owner ≡ list t n owner) × (room pack s ≡ room pack t)
related_shown pack s t r = (
  sym (ap (λ (x : State). without_serials x.files) r.2 ∙ files_re r.0 s.files),
  (λ n owner. sym (ap (λ x. list x n owner) r.2 ∙ list-re r.0 s n owner)),
  sym (ap (room pack) r.2 ∙ ap (λ b. pos (space pack) -ℤ pos b) (booked-re r.0 r.1 s)),
)

-- From one state the replies are the same, and so is what the states then show.
pub runs_alike : (pack : Pack) (s t u : State) (events : List Event) (one other : List Reply)
    → StepsAll pack s events one t → StepsAll pack s events other u
    → (one ≡ other) × (without_serials t.files ≡ without_serials u.files)
    × ((n owner : ℕ) → list t n owner ≡ list u n owner) × (room pack t ≡ room pack u)
runs_alike pack s t u events one other p q =
    let h = related_runs pack s s t u events one other (itself_related s) p q in
    let shown = related_shown pack t u h.1 in
    (h.0, shown.0, shown.1, shown.2)
