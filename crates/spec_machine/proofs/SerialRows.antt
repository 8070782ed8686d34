-- Each row does the same in a state with other serials.
use Rattle.std.proofs.Common.{◌≡◌, ℕ, ◌+◌, Bool, true, false, if◌then◌else◌, not, List, [], ◌∷◌, ◌++◌, length, Option}
use Rattle.std.proofs.Common.{Some, None, refl, sym, ap, ◌∙◌, option_map}
use Rattle.std.specs.Prelude.{◌==◌, ◌&&◌, ◌||◌, nat_lt, is_some, is_none, min}
use Rattle.words36.specs.Common.{left, right}
use Rattle.words36.specs.declared.moment.Moment.{Moment}
use Rattle.spec_image.specs.Common.{get, insert, remove, empty, entries, size, Files, Place, map_directory, Directory}
use Rattle.spec_image.specs.Common.{blocks_of, length_after, SpecVersion, file_at, same_place, with_file, without_file}
use Rattle.spec_image.specs.Common.{with_protection, Pack, growth, with_quota, files_limited}
use Rattle.spec_machine.specs.Rights.{may_look, may_read, may_create, may_supersede, may_append, may_rename}
use Rattle.spec_machine.specs.Rights.{may_protect, system}
use Rattle.spec_machine.specs.Cores.{lies_outside, after_writes}
use Rattle.spec_machine.specs.Rings.{is_buffered}
use Rattle.spec_machine.specs.Jobs.{SpecInput, SpecOutput, Channel, SpecJob, State, channel_at, with_channel}
use Rattle.spec_machine.specs.Jobs.{improper_mode}
use Rattle.spec_machine.specs.Jobs.{block_too_large, end_of_file}
use Rattle.spec_machine.specs.Room.{entry_count, exceeds_room}
use Rattle.spec_machine.specs.Outcomes.{settled, clean, reports, stopped_in, refused_at}
use Rattle.spec_machine.specs.Open.{mode_at, device_at, disk, is_mode, misses_headers, core_opened, channel_opened}
use Rattle.spec_machine.specs.Open.{open_answer, open_done, opens, ring_answer, ring_made, core_or, sets_up}
use Rattle.spec_machine.specs.Lookup.{place_at, lookup_answer, looked_up, lookup_done, lookup, with_attributes}
use Rattle.spec_machine.specs.Update.{is_elsewhere, present_cost, update_answer, output_updating, input_updating}
use Rattle.spec_machine.specs.Enter.{create_answer, supersede_answer, begin_answer, enter_answer, output_opened}
use Rattle.spec_machine.specs.Enter.{entered, enter_done, enter}
use Rattle.spec_machine.specs.Rename.{deletes_at, protection_at, changes_protection, is_forbidden, crowds}
use Rattle.spec_machine.specs.Rename.{move_answer, rename_from, rename_sides, rename_answer, files_moved}
use Rattle.spec_machine.specs.Rename.{files_renamed, rename_done, renames, overfills}
use Rattle.spec_machine.specs.Inputs.{words_ahead, is_empty, dump_in_answer, lacks_header, ring_in_answer, ring_in}
use Rattle.spec_machine.specs.Inputs.{in_answer, words_asked, core_filled, moved_on, in_done, reads, useti_answer}
use Rattle.spec_machine.specs.Inputs.{input_at, useti_done, useti}
use Rattle.spec_machine.specs.CommandLists.{dump_list}
use Rattle.spec_machine.specs.Outputs.{longest, rise, is_before_end, finds_no_place, Outgoing, outgoing, place_answer}
use Rattle.spec_machine.specs.Outputs.{found_answer, put_answer, out_answer, put_done, out_done, puts, useto_answer}
use Rattle.spec_machine.specs.Outputs.{useto_done, useto}
use Rattle.spec_machine.specs.Close.{publishes, keeps_input, keeps_output, discards, last_buffer, output_put}
use Rattle.spec_machine.specs.Close.{last_answer, close_answer, published, files_with, files_closed, holding}
use Rattle.spec_machine.specs.Close.{output_closed, channel_closed, header_closed, core_closed, close_done, closes}
use Rattle.spec_machine.specs.Close.{releases}
use Rattle.spec_machine.specs.MakeDir.{owner_at, is_stranger, make_answer, directory_made, makes, remove_answer}
use Rattle.spec_machine.specs.MakeDir.{removes, limits, limit_answer, quota_at}
use Rattle.spec_machine.specs.declared.area.Area.{Area}
use Rattle.spec_machine.specs.declared.call.Reply.{Reply}
use Rattle.spec_machine.specs.declared.call.Reply.TheVariants.{Done, Value, Refused, Stopped, NoChannel, AddressCheck}
use Rattle.spec_machine.specs.declared.call.Reply.TheVariants.{NoJob, NoMemory, Device, Failed, DateRange}
use Rattle.spec_machine.proofs.SerialMaps.{is_some-map, is_none-map, re_version, re_input, re_channel, re_job}
use Rattle.spec_machine.proofs.SerialMaps.{re_files, re_state, get-re, file-re, insert-re, remove-re, with_file-re}
use Rattle.spec_machine.proofs.SerialMaps.{without_file-re, size-re, channel-re, with_channel-re, claimed-re}
use Rattle.spec_machine.proofs.SerialMaps.{entries-re, exceeds-re, no_directory-re, absent-re, directory_digit-re}
use Rattle.spec_machine.proofs.SerialMaps.{digit-re, left-re, quota-re}
use Rattle.spec_machine.specs.Charges.{exceeds_limits, exceeds_left}

-- Outcomes.

abbrev pub on_value : {A B : Type 0} → (A → B) → Reply × A → Reply × B
on_value g r = (r.0, g r.1)

pub settled-re : {A B : Type 0} (g : A → B) (reply reply' : Reply) (done : A) (done' : B) (other : Reply
    → A) (other' : Reply → B) → reply' ≡ reply → done' ≡ g done → ((r : Reply) → other' r ≡ g (other r))
    → settled reply' done' other' ≡ on_value g (settled reply done other)
settled-re g reply reply' done done' other other' e h o = ap (λ r. settled r done' other') e ∙ by_reply reply
  where
    by_reply : (r : Reply) → settled r done' other' ≡ on_value g (settled r done other)
    by_reply Done = λ i. (Done, h i)
    by_reply (Value w) = λ i. (Value w, o (Value w) i)
    by_reply (Refused w) = λ i. (Refused w, o (Refused w) i)
    by_reply (Stopped w) = λ i. (Stopped w, o (Stopped w) i)
    by_reply NoChannel = λ i. (NoChannel, o NoChannel i)
    by_reply AddressCheck = λ i. (AddressCheck, o AddressCheck i)
    by_reply NoJob = λ i. (NoJob, o NoJob i)
    by_reply NoMemory = λ i. (NoMemory, o NoMemory i)
    by_reply Device = λ i. (Device, o Device i)
    by_reply Failed = λ i. (Failed, o Failed i)
    by_reply DateRange = λ i. (DateRange, o DateRange i)

module _ (f : ℕ → ℕ) where
  abbrev pub re_both : SpecJob × Files SpecVersion → SpecJob × Files SpecVersion
  re_both x = (re_job f x.0, re_files f x.1)

  refused-re : (job : SpecJob) (e : ℕ) (r : Reply) → refused_at (re_job f job) e r ≡ re_job f (refused_at job e r)
  refused-re job e Done = refl
  refused-re job e (Value w) = refl
  refused-re job e (Refused w) = refl
  refused-re job e (Stopped w) = refl
  refused-re job e NoChannel = refl
  refused-re job e AddressCheck = refl
  refused-re job e NoJob = refl
  refused-re job e NoMemory = refl
  refused-re job e Device = refl
  refused-re job e Failed = refl
  refused-re job e DateRange = refl

  stopped-re : (job : SpecJob) (ch : ℕ) (c : Channel) (r : Reply) → stopped_in (re_job f job) ch (re_channel f c) r
      ≡ re_job f (stopped_in job ch c r)
  stopped-re job ch c Done = refl
  stopped-re job ch c (Value w) = refl
  stopped-re job ch c (Refused w) = refl
  stopped-re job ch c (Stopped w) = with_channel-re f job ch (Some (record c { status = w }))
  stopped-re job ch c NoChannel = refl
  stopped-re job ch c AddressCheck = refl
  stopped-re job ch c NoJob = refl
  stopped-re job ch c NoMemory = refl
  stopped-re job ch c Device = refl
  stopped-re job ch c Failed = refl
  stopped-re job ch c DateRange = refl

  -- OPEN and the setup of rings.

  open_answer-re : (job : SpecJob) (ch a : ℕ) → open_answer (re_job f job) ch a ≡ open_answer job ch a
  open_answer-re job ch a =
      let e : is_some (channel_at (re_job f job) ch) ≡ is_some (channel_at job ch) = ap is_some (channel-re f job ch)
      ∙ is_some-map (re_channel f) (channel_at job ch) in
      λ i. if lies_outside job.core a 3 || misses_headers job.core a then AddressCheck
      else if e i then Refused 5
      else if not (device_at job.core a == disk) || not (is_mode (mode_at job.core a))
      then Stopped (improper_mode + mode_at job.core a)
      else Done

  pub opens-re : (job : SpecJob) (ch a : ℕ) → opens (re_job f job) ch a ≡ on_value (re_job f) (opens job ch a)
  opens-re job ch a =
      settled-re (re_job f) _ _ (open_done job ch a) (open_done (re_job f job) ch a) (λ r. job) (λ r. re_job f job)
      (open_answer-re job ch a)
      (with_channel-re f (record job { core = core_opened job.core a }) ch (Some (channel_opened job.core a)))
      (λ r. refl)

  pub sets_up-re : (job : SpecJob) (ch : ℕ) (c : Channel) (header k : ℕ)
      → sets_up (re_job f job) ch (re_channel f c) header k ≡ on_value (re_job f) (sets_up job ch c header k)
  sets_up-re job ch c header k =
      settled-re (re_job f) (ring_answer job c header k) (ring_answer job c header k) _ _ (λ r. job)
      (λ r. re_job f job) refl
      (with_channel-re f (record job { core = core_or job.core (ring_made job c header k) }) ch (Some (clean c)))
      (λ r. refl)

  -- LOOKUP.

  lookup_answer-re : (s : State) (job : SpecJob) (c : Channel) (e : ℕ) (place : Place)
      → lookup_answer (re_state f s) (re_job f job) (re_channel f c) e place ≡ lookup_answer s job c e place
  lookup_answer-re s job c e place = λ i.
      if lies_outside job.core e 4 then AddressCheck
      else if is_some c.output then Refused 5
      else if no_directory-re f s place i then Refused 1
      else if not (may_look (directory_digit-re f s job place i)) then Refused 2
      else if (place.name.name == 0) || absent-re f s place i then Refused 0
      else if not (may_read (digit-re f s job place i)) then Refused 2
      else Done

  looked_up-re : (pack : Pack) (job : SpecJob) (ch : ℕ) (c : Channel) (e : ℕ) (place : Place)
      (found : Option SpecVersion)
      → looked_up pack (re_job f job) ch (re_channel f c) e place (option_map (re_version f) found)
      ≡ re_job f (looked_up pack job ch c e place found)
  looked_up-re pack job ch c e place None = refl
  looked_up-re pack job ch c e place (Some v) = with_channel-re f (record job { core = _ }) ch
      (Some (record (clean c) { input = Some (record { place = place; version = v; next = 1 }) }))

  pub lookup-re : (pack : Pack) (s : State) (job : SpecJob) (ch : ℕ) (c : Channel) (e : ℕ)
      → lookup pack (re_state f s) (re_job f job) ch (re_channel f c) e ≡ on_value (re_job f) (lookup pack s job ch c e)
  lookup-re pack s job ch c e =
      settled-re (re_job f) _ _ (lookup_done pack s job ch c e (place_at job e))
      (lookup_done pack (re_state f s) (re_job f job) ch (re_channel f c) e (place_at job e))
      (refused_at job e) (refused_at (re_job f job) e) (lookup_answer-re s job c e (place_at job e))
      (ap (looked_up pack (re_job f job) ch (re_channel f c) e (place_at job e)) (file-re f s.files (place_at job e))
      ∙ looked_up-re pack job ch c e (place_at job e) (file_at s.files (place_at job e)))
      (refused-re job e)

  -- ENTER.

  cost-re : (o : Option SpecVersion) → present_cost (option_map (re_version f) o) ≡ present_cost o
  cost-re None = refl
  cost-re (Some v) = refl

  elsewhere-re : (o : Option SpecInput) (place : Place) → is_elsewhere (option_map (re_input f) o) place
      ≡ is_elsewhere o place
  elsewhere-re None place = refl
  elsewhere-re (Some i) place = refl

  module _ (exact : (a b : ℕ) → f a ≡ f b → a ≡ b) (pack : Pack) (s : State) where
    room-re : (more more' : ℕ) → more' ≡ more → exceeds_room pack (re_state f s) more' ≡ exceeds_room pack s more
    room-re more more' e = ap (exceeds_room pack (re_state f s)) e ∙ exceeds-re f exact pack s more

    limits_re : (ppn more more' : ℕ) → more' ≡ more
        → exceeds_limits pack (re_state f s) ppn more' ≡ exceeds_limits pack s ppn more
    limits_re ppn more more' e = ap (exceeds_limits pack (re_state f s) ppn) e
        ∙ λ i. exceeds-re f exact pack s more i || left-re f s ppn more i

    create-re : (job : SpecJob) (place : Place) → create_answer pack (re_state f s) (re_job f job) place
        ≡ create_answer pack s job place
    create-re job place =
        let full = limits_re place.ppn (1 + growth (entry_count s place.ppn)) _
        (ap (λ k. 1 + growth k) (entries-re f s place.ppn)) in
        λ i. if not (may_create (directory_digit-re f s job place i)) then Refused 2
        else if claimed-re f s place i then Refused 3
        else if full i then Refused 0o14
        else Done

    supersede-re : (job : SpecJob) (place : Place) → supersede_answer pack (re_state f s) (re_job f job) place
        ≡ supersede_answer pack s job place
    supersede-re job place =
        let full = limits_re place.ppn 1 1 refl in
        λ i. if not (may_look (directory_digit-re f s job place i)) || not (may_supersede (digit-re f s job place i))
        then Refused 2
        else if claimed-re f s place i then Refused 3
        else if full i then Refused 0o14
        else Done

    update-re : (job : SpecJob) (place : Place) → update_answer pack (re_state f s) (re_job f job) place
        ≡ update_answer pack s job place
    update-re job place =
        let full = limits_re place.ppn (present_cost (file_at s.files place)) _
        (ap present_cost (file-re f s.files place)
        ∙ cost-re (file_at s.files place)) in
        λ i. if absent-re f s place i then Refused 0
        else if not (may_look (directory_digit-re f s job place i)) || not (may_append (digit-re f s job place i))
        then Refused 2
        else if claimed-re f s place i then Refused 3
        else if full i then Refused 0o14
        else Done

    begin-re : (job : SpecJob) (input : Option SpecInput) (place : Place)
        → begin_answer pack (re_state f s) (re_job f job) (option_map (re_input f) input) place
        ≡ begin_answer pack s job input place
    begin-re job None place = λ i. if absent-re f s place i then create-re job place i else supersede-re job place i
    begin-re job (Some x) place = update-re job place

    enter_answer-re : (job : SpecJob) (c : Channel) (e : ℕ) (place : Place)
        → enter_answer pack (re_state f s) (re_job f job) (re_channel f c) e place ≡ enter_answer pack s job c e place
    enter_answer-re job c e place = λ i.
        if lies_outside job.core e 4 then AddressCheck
        else if is_some c.output || elsewhere-re c.input place i then Refused 5
        else if no_directory-re f s place i then Refused 1
        else if place.name.name == 0 then Refused 0
        else begin-re job c.input place i

    entered-re : (job : SpecJob) (ch : ℕ) (c : Channel) (e : ℕ) (moment : Moment) (place : Place) (digit : ℕ)
        (input : Option SpecInput) (found : Option SpecVersion)
        → entered pack (re_job f job) ch (re_channel f c) e
        (input_updating (option_map (re_input f) input) (option_map (re_version f) found))
        (output_opened (re_job f job) (re_channel f c) e moment place digit (option_map (re_input f) input)
        (option_map (re_version f) found))
        ≡ re_job f (entered pack job ch c e (input_updating input found)
        (output_opened job c e moment place digit input found))
    entered-re job ch c e moment place digit None None = with_channel-re f
        (record job {
          core = with_attributes pack.layout job.core e
              (output_opened job c e moment place digit None None).pending;
        }) ch
        (Some (record (clean c) { input = None; output = Some (output_opened job c e moment place digit None None) }))
    entered-re job ch c e moment place digit None (Some v) = with_channel-re f
        (record job {
          core = with_attributes pack.layout job.core e
              (output_opened job c e moment place digit None (Some v)).pending;
        }) ch
        (Some (record (clean c) {
          input = None;
          output = Some (output_opened job c e moment place digit None (Some v));
        }))
    entered-re job ch c e moment place digit (Some x) None = with_channel-re f
        (record job {
          core = with_attributes pack.layout job.core e
              (output_opened job c e moment place digit (Some x) None).pending;
        }) ch
        (Some (record (clean c) {
          input = Some x;
          output = Some (output_opened job c e moment place digit (Some x) None);
        }))
    entered-re job ch c e moment place digit (Some x) (Some v) = with_channel-re f
        (record job { core = with_attributes pack.layout job.core e (output_updating digit place v).pending }) ch
        (Some (record (clean c) {
          input = Some (record x { version = v });
          output = Some (output_updating digit place v);
        }))

    pub enter-re : (job : SpecJob) (ch : ℕ) (c : Channel) (e : ℕ) (moment : Moment)
        → enter pack (re_state f s) (re_job f job) ch (re_channel f c) e moment
        ≡ on_value (re_job f) (enter pack s job ch c e moment)
    enter-re job ch c e moment =
        let place = place_at job e in
        settled-re (re_job f) _ _ (enter_done pack s job ch c e moment place)
        (enter_done pack (re_state f s) (re_job f job) ch (re_channel f c) e moment place)
        (refused_at job e) (refused_at (re_job f job) e) (enter_answer-re job c e place)
        ((λ i. entered pack (re_job f job) ch (re_channel f c) e
        (input_updating (option_map (re_input f) c.input) (file-re f s.files (place_at job e) i))
        (output_opened (re_job f job) (re_channel f c) e moment (place_at job e) (digit-re f s job (place_at job e) i)
        (option_map (re_input f) c.input) (file-re f s.files (place_at job e) i)))
        ∙ entered-re job ch c e moment place _ c.input (file_at s.files place)) (refused-re job e)

    -- RENAME.

    changes-re : (protection : ℕ) (o : Option SpecVersion) → changes_protection protection (option_map (re_version f) o)
        ≡ changes_protection protection o
    changes-re protection None = refl
    changes-re protection (Some v) = refl

    forbidden-re : (job : SpecJob) (e : ℕ) (old : Place) → is_forbidden (re_state f s) (re_job f job) e old
        ≡ is_forbidden s job e old
    forbidden-re job e old =
        let c : changes_protection (protection_at job e) (file_at (re_files f s.files) old)
        ≡ changes_protection (protection_at job e) (file_at s.files old) =
        ap (changes_protection (protection_at job e)) (file-re f s.files old)
        ∙ changes-re (protection_at job e) (file_at s.files old) in
        λ i. not (may_rename (digit-re f s job old i))
        || (not (deletes_at job e) && c i && not (may_protect (digit-re f s job old i)))

    crowds-re : (old new : Place) → crowds pack (re_state f s) old new ≡ crowds pack s old new
    crowds-re old new = λ i. not (new.ppn == old.ppn) && not (growth (entries-re f s new.ppn i) == 0)
        && room-re 1 1 refl i

    overfills-re : (old new : Place) → overfills (re_state f s) old new ≡ overfills s old new
    overfills-re old new =
        let cost : present_cost (file_at (re_files f s.files) old) ≡ present_cost (file_at s.files old) =
        ap present_cost (file-re f s.files old) ∙ cost-re (file_at s.files old) in
        (λ i. not (new.ppn == old.ppn)
        && exceeds_left (re_state f s) new.ppn (cost i + growth (entries-re f s new.ppn i)))
        ∙ λ i. not (new.ppn == old.ppn)
        && left-re f s new.ppn (present_cost (file_at s.files old) + growth (entry_count s new.ppn)) i

    move-re : (job : SpecJob) (old new : Place) → move_answer pack (re_state f s) (re_job f job) old new
        ≡ move_answer pack s job old new
    move-re job old new = λ i.
        if no_directory-re f s new i then Refused 1
        else if not (new.ppn == old.ppn) && not (may_create (directory_digit-re f s job new i)) then Refused 2
        else if not (same_place new old) && not (absent-re f s new i) then Refused 4
        else if not (same_place new old) && claimed-re f s new i then Refused 3
        else if crowds-re old new i || overfills-re old new i then Refused 0o14
        else Done

    from-re : (job : SpecJob) (e : ℕ) (old : Place) → rename_from pack (re_state f s) (re_job f job) e old
        ≡ rename_from pack s job e old
    from-re job e old = λ i.
        if no_directory-re f s old i then Refused 1
        else if not (may_look (directory_digit-re f s job old i)) then Refused 2
        else if absent-re f s old i then Refused 0
        else if forbidden-re job e old i then Refused 2
        else if claimed-re f s old i then Refused 3
        else if deletes_at job e then Done
        else move-re job old (place_at job e) i

    sides-re : (job : SpecJob) (e : ℕ) (input : Option SpecInput) (output : Option SpecOutput)
        → rename_sides pack (re_state f s) (re_job f job) e (option_map (re_input f) input) output
        ≡ rename_sides pack s job e input output
    sides-re job e None output = refl
    sides-re job e (Some x) output = λ i. if is_some output then Refused 5 else from-re job e x.place i

    moved-re : (old new : Place) (protection : ℕ) (found : Option SpecVersion)
        → files_moved (re_files f s.files) old new protection (option_map (re_version f) found)
        ≡ re_files f (files_moved s.files old new protection found)
    moved-re old new protection None = refl
    moved-re old new protection (Some v) =
        ap (λ files. with_file files new (re_version f (with_protection v protection))) (without_file-re f s.files old)
        ∙ with_file-re f (without_file s.files old) new (with_protection v protection)

    either-re : (deletes : Bool) (old new : Place) (protection : ℕ)
        → (if deletes then without_file (re_files f s.files) old
        else files_moved (re_files f s.files) old new protection (file_at (re_files f s.files) old))
        ≡ re_files f (if deletes then without_file s.files old
        else files_moved s.files old new protection (file_at s.files old))
    either-re true old new protection = without_file-re f s.files old
    either-re false old new protection = ap (files_moved (re_files f s.files) old new protection)
        (file-re f s.files old) ∙ moved-re old new protection (file_at s.files old)

    renamed-re : (job : SpecJob) (e : ℕ) (input : Option SpecInput)
        → files_renamed (re_files f s.files) (re_job f job) e (option_map (re_input f) input)
        ≡ re_files f (files_renamed s.files job e input)
    renamed-re job e None = refl
    renamed-re job e (Some x) = either-re (deletes_at job e) x.place (place_at job e) (protection_at job e)

    pub renames-re : (job : SpecJob) (ch : ℕ) (c : Channel) (e : ℕ)
        → renames pack (re_state f s) (re_job f job) ch (re_channel f c) e
        ≡ on_value re_both (renames pack s job ch c e)
    renames-re job ch c e =
        settled-re re_both (rename_answer pack s job c e) _
        (rename_done job ch c, files_renamed s.files job e c.input) (
          rename_done (re_job f job) ch (re_channel f c),
          files_renamed (re_files f s.files) (re_job f job) e (option_map (re_input f) c.input),
        )
        (λ r. (refused_at job e r, s.files)) (λ r. (refused_at (re_job f job) e r, re_files f s.files))
        (λ i. if lies_outside job.core e 4 then AddressCheck else sides-re job e c.input c.output i)
        (λ i. (with_channel-re f job ch (Some (record (clean c) { input = None })) i, renamed-re job e c.input i))
        (λ r i. (refused-re job e r i, re_files f s.files))

    -- OUT.

    no_place-re : (o : SpecOutput) (count : ℕ) → finds_no_place pack (re_state f s) o count ≡ finds_no_place pack s o
        count
    no_place-re o count = λ i.
        not (count == 0)
        && (nat_lt longest (length_after (length o.pending.body) o.next count)
        || room-re (rise o count) (rise o count) refl i
        || (not (rise o count == 0) && left-re f s o.place.ppn (rise o count) i)
        || is_before_end o.kind o.next)

    place-re : (c : Channel) (o : SpecOutput) (words : List ℕ)
        → place_answer pack (re_state f s) (re_channel f c) o words
        ≡ place_answer pack s c o words
    place-re c o words = λ i. if no_place-re o (length words) i then reports c block_too_large else Done

    found-re : (c : Channel) (o : SpecOutput) (found : Option Outgoing)
        → found_answer pack (re_state f s) (re_channel f c) o found ≡ found_answer pack s c o found
    found-re c o None = refl
    found-re c o (Some found) = place-re c o found.words

    put_answer-re : (c : Channel) (output : Option SpecOutput) (found : Option Outgoing)
        → put_answer pack (re_state f s) (re_channel f c) output found ≡ put_answer pack s c output found
    put_answer-re c None found = refl
    put_answer-re c (Some o) found = λ i. if lacks_header c.mode c.output_header then Refused 5
        else found-re c o found i

    put_done-re : (job : SpecJob) (ch : ℕ) (c : Channel) (found : Option Outgoing)
        → put_done (re_job f job) ch (re_channel f c) found ≡ re_job f (put_done job ch c found)
    put_done-re job ch c None = refl
    put_done-re job ch c (Some found) = with_channel-re f (record job { core = found.core }) ch
        (Some (record (clean c) { output = _ }))

    pub puts-re : (job : SpecJob) (ch : ℕ) (c : Channel) (a : ℕ)
        → puts pack (re_state f s) (re_job f job) ch (re_channel f c) a ≡ on_value (re_job f) (puts pack s job ch c a)
    puts-re job ch c a =
        settled-re (re_job f) (out_answer pack s job c a) (out_answer pack (re_state f s) (re_job f job)
        (re_channel f c) a) (out_done job ch c a) (out_done (re_job f job) ch (re_channel f c) a)
        (stopped_in job ch c) (stopped_in (re_job f job) ch (re_channel f c))
        (put_answer-re c c.output (outgoing job c a)) (put_done-re job ch c (outgoing job c a)) (stopped-re job ch c)

    -- CLOSE and RELEAS.

    last-re : (c : Channel) (output : Option SpecOutput) (last : Option (List ℕ))
        → last_answer pack (re_state f s) (re_channel f c) output last ≡ last_answer pack s c output last
    last-re c None last = refl
    last-re c (Some o) None = refl
    last-re c (Some o) (Some words) = place-re c o words

    close_answer-re : (job : SpecJob) (c : Channel) (bits : ℕ)
        → close_answer pack (re_state f s) (re_job f job) (re_channel f c) bits ≡ close_answer pack s job c bits
    close_answer-re job c bits = λ i. if publishes c bits then last-re c c.output (last_buffer job c) i else Done

    with-re : (serial : ℕ) (o : Option SpecOutput) → files_with (re_files f s.files) (f serial) o
        ≡ re_files f (files_with s.files serial o)
    with-re serial None = refl
    with-re serial (Some o) = with_file-re f s.files o.place (published serial o)

    if_published : (serial : ℕ) (b : Bool) (o : Option SpecOutput)
        → (if b then files_with (re_files f s.files) (f serial) o else re_files f s.files)
        ≡ re_files f (if b then files_with s.files serial o else s.files)
    if_published serial true o = with-re serial o
    if_published serial false o = refl

    input_closed-re : (serial : ℕ) (keeps is_published : Bool) (input : Option SpecInput) (o : Option SpecOutput)
        → (if not keeps then None else if is_published then holding (option_map (re_input f) input)
        (option_map (published (f serial)) o) else option_map (re_input f) input)
        ≡ option_map (re_input f) (if not keeps then None else if is_published
        then holding input (option_map (published serial) o) else input)
    input_closed-re serial false b input o = refl
    input_closed-re serial true false input o = refl
    input_closed-re serial true true None o = refl
    input_closed-re serial true true (Some x) None = refl
    input_closed-re serial true true (Some x) (Some o) = refl

    core_closed-re : (core : List ℕ) (c : Channel) (bits : ℕ) → core_closed core (re_channel f c) bits
        ≡ core_closed core c bits
    core_closed-re core c bits = λ i.
        if not (is_buffered c.mode) || discards bits then core
        else after_writes core
        (header_closed core c.output_header (is_some c.output && not (keeps_output bits))
        ++ header_closed core c.input_header (is_some-map (re_input f) c.input i && not (keeps_input bits)))

    close_done-re : (serial : ℕ) (job : SpecJob) (ch : ℕ) (c : Channel) (bits : ℕ)
        → close_done (f serial) (re_job f job) ch (re_channel f c) bits ≡ re_job f (close_done serial job ch c bits)
    close_done-re serial job ch c bits =
        (λ i. with_channel (record (re_job f job) { core = core_closed-re job.core c bits i }) ch
        (Some (record (clean c) {
          input = input_closed-re serial (keeps_input bits) (publishes c bits) c.input
              (output_put job c) i;
          output = output_closed c bits;
        })))
        ∙ with_channel-re f (record job { core = core_closed job.core c bits }) ch
        (Some (channel_closed serial job c bits))

    pub closes-re : (serial : ℕ) (job : SpecJob) (ch : ℕ) (c : Channel) (bits : ℕ)
        → closes pack (f serial) (re_state f s) (re_job f job) ch (re_channel f c) bits
        ≡ on_value re_both (closes pack serial s job ch c bits)
    closes-re serial job ch c bits =
        settled-re re_both (close_answer pack s job c bits) _
        (close_done serial job ch c bits, files_closed serial s.files job c bits) (
          close_done (f serial) (re_job f job) ch (re_channel f c) bits,
          files_closed (f serial) (re_files f s.files) (re_job f job) (re_channel f c) bits,
        )
        (λ r. (stopped_in job ch c r, s.files))
        (λ r. (stopped_in (re_job f job) ch (re_channel f c) r, re_files f s.files)) (close_answer-re job c bits)
        (λ i. (close_done-re serial job ch c bits i, if_published serial (publishes c bits) (output_put job c) i))
        (λ r i. (stopped-re job ch c r i, re_files f s.files))

    pub releases-re : (serial : ℕ) (job : SpecJob) (ch : ℕ) (c : Channel)
        → releases pack (f serial) (re_state f s) (re_job f job) ch (re_channel f c)
        ≡ on_value re_both (releases pack serial s job ch c)
    releases-re serial job ch c =
        settled-re re_both (close_answer pack s job c 0) _
        (with_channel (record job { core = core_closed job.core c 0 }) ch None, files_closed serial s.files job c 0) (
          with_channel (record (re_job f job) { core = core_closed job.core (re_channel f c) 0 }) ch None,
          files_closed (f serial) (re_files f s.files) (re_job f job) (re_channel f c) 0,
        )
        (λ r. (stopped_in job ch c r, s.files))
        (λ r. (stopped_in (re_job f job) ch (re_channel f c) r, re_files f s.files)) (close_answer-re job c 0)
        (λ i. (
          ((λ j. with_channel (record (re_job f job) { core = core_closed-re job.core c 0 j }) ch None)
              ∙ with_channel-re f (record job { core = core_closed job.core c 0 }) ch None) i,
          if_published serial (publishes c 0) (output_put job c) i,
        )) (λ r i. (stopped-re job ch c r i, re_files f s.files))

    -- MakeDir and DeleteDir.

    made-re : (job : SpecJob) (e : ℕ) → map_directory (re_version f) (directory_made job e) ≡ directory_made job e
    unfolding empty entries
    made-re job e = refl

    make_answer-re : (job : SpecJob) (e owner : ℕ) → make_answer pack (re_state f s) (re_job f job) e owner
        ≡ make_answer pack s job e owner
    make_answer-re job e owner =
        let there : is_some (get (re_files f s.files) owner)
        ≡ is_some (get s.files owner) = ap is_some (get-re f s.files owner) ∙ is_some-map _ (get s.files owner) in
        let full = room-re (1 + growth (size s.files)) _ (ap (λ k. 1 + growth k) (size-re f s.files)) in
        λ i. if lies_outside job.core e 2 then AddressCheck
        else if (left owner == 0) || (right owner == 0) then Refused 1
        else if is_stranger job owner then Refused 2
        else if there i then Refused 4
        else if full i then Refused 0o14
        else Done

    pub makes-re : (job : SpecJob) (e : ℕ) → makes pack (re_state f s) (re_job f job) e
        ≡ on_value re_both (makes pack s job e)
    makes-re job e =
        settled-re re_both (make_answer pack s job e (owner_at job e)) _
        (job, insert s.files (owner_at job e) (directory_made job e))
        (re_job f job, insert (re_files f s.files) (owner_at job e) (directory_made job e))
        (λ r. (refused_at job e r, s.files)) (λ r. (refused_at (re_job f job) e r, re_files f s.files))
        (make_answer-re job e (owner_at job e))
        (λ i. (
          re_job f job,
          (ap (insert (re_files f s.files) (owner_at job e)) (sym (made-re job e))
              ∙ sym (insert-re f s.files (owner_at job e) (directory_made job e))) i,
        ))
        (λ r i. (refused-re job e r i, re_files f s.files))

    remove_answer-re : (job : SpecJob) (e owner : ℕ) → remove_answer (re_state f s) (re_job f job) e owner
        ≡ remove_answer s job e owner
    remove_answer-re job e owner =
        let there : is_none (get (re_files f s.files) owner)
        ≡ is_none (get s.files owner) = ap is_none (get-re f s.files owner) ∙ is_none-map _ (get s.files owner) in
        λ i. if lies_outside job.core e 2 then AddressCheck
        else if there i then Refused 1
        else if is_stranger job owner || (not (quota-re f s owner i == 0) && not (job.ppn == system)) then Refused 2
        else if not (entries-re f s owner i == 0) then Refused 0o22
        else Done

    pub removes-re : (job : SpecJob) (e : ℕ) → removes (re_state f s) (re_job f job) e ≡ on_value re_both
        (removes s job e)
    removes-re job e =
        settled-re re_both (remove_answer s job e (owner_at job e)) _ (job, remove s.files (owner_at job e))
        (re_job f job, remove (re_files f s.files) (owner_at job e))
        (λ r. (refused_at job e r, s.files)) (λ r. (refused_at (re_job f job) e r, re_files f s.files))
        (remove_answer-re job e (owner_at job e))
        (λ i. (re_job f job, sym (remove-re f s.files (owner_at job e)) i))
        (λ r i. (refused-re job e r i, re_files f s.files))

    -- Quota.

    limit_answer-re : (job : SpecJob) (e owner : ℕ) → limit_answer pack (re_state f s) (re_job f job) e owner
        ≡ limit_answer pack s job e owner
    limit_answer-re job e owner =
        let there : is_none (get (re_files f s.files) owner)
        ≡ is_none (get s.files owner) = ap is_none (get-re f s.files owner) ∙ is_none-map _ (get s.files owner) in
        λ i. if lies_outside job.core e 2 then AddressCheck
        else if pack.layout == 1 then Refused 5
        else if there i then Refused 1
        else if not (job.ppn == system) then Refused 2
        else Done

    with_quota-re : (owner quota : ℕ) (o : Option (Directory SpecVersion))
        → with_quota (re_files f s.files) owner quota (option_map (map_directory (re_version f)) o)
        ≡ re_files f (with_quota s.files owner quota o)
    with_quota-re owner quota None = refl
    with_quota-re owner quota (Some d) = sym (insert-re f s.files owner (record d { quota = quota }))

    limited-re : (owner quota : ℕ) → files_limited (re_files f s.files) owner quota
        ≡ re_files f (files_limited s.files owner quota)
    limited-re owner quota = ap (with_quota (re_files f s.files) owner quota) (get-re f s.files owner)
        ∙ with_quota-re owner quota (get s.files owner)

    pub limits-re : (job : SpecJob) (e : ℕ) → limits pack (re_state f s) (re_job f job) e
        ≡ on_value re_both (limits pack s job e)
    limits-re job e =
        settled-re re_both (limit_answer pack s job e (owner_at job e)) _
        (job, files_limited s.files (owner_at job e) (quota_at job e))
        (re_job f job, files_limited (re_files f s.files) (owner_at job e) (quota_at job e))
        (λ r. (refused_at job e r, s.files)) (λ r. (refused_at (re_job f job) e r, re_files f s.files))
        (limit_answer-re job e (owner_at job e))
        (λ i. (re_job f job, limited-re (owner_at job e) (quota_at job e) i))
        (λ r i. (refused-re job e r i, re_files f s.files))

  -- IN, USETI and USETO.

  ahead-re : (input : Option SpecInput) (output : Option SpecOutput)
      → words_ahead (option_map (re_input f) input) output
      ≡ words_ahead input output
  ahead-re None output = refl
  ahead-re (Some x) None = refl
  ahead-re (Some x) (Some o) = refl

  ring_in-re : (c : Channel) (ready : Option (List ℕ)) → ring_in_answer (re_channel f c) ready ≡ ring_in_answer c ready
  ring_in-re c None = refl
  ring_in-re c (Some ready) = λ i. if is_empty (ahead-re c.input c.output i) then reports c end_of_file else Done

  dump_in-re : (c : Channel) (areas : Option (List Area)) → dump_in_answer (re_channel f c) areas
      ≡ dump_in_answer c areas
  dump_in-re c None = refl
  dump_in-re c (Some []) = refl
  dump_in-re c (Some (area ∷ areas)) = λ i. if is_empty (ahead-re c.input c.output i) then reports c end_of_file
      else Done

  in_answer-re : (job : SpecJob) (c : Channel) (a : ℕ) → in_answer (re_job f job) (re_channel f c) a ≡ in_answer job c a
  in_answer-re job c a = λ i.
      if is_none-map (re_input f) c.input i || lacks_header c.mode c.input_header then Refused 5
      else if is_buffered c.mode then ring_in-re c (ring_in job c) i
      else dump_in-re c (dump_list job.core a) i

  moved_on-re : (input : Option SpecInput) (k : ℕ) → moved_on (option_map (re_input f) input) k
      ≡ option_map (re_input f) (moved_on input k)
  moved_on-re None k = refl
  moved_on-re (Some x) k = refl

  input_at-re : (input : Option SpecInput) (k : ℕ) → input_at (option_map (re_input f) input) k
      ≡ option_map (re_input f) (input_at input k)
  input_at-re None k = refl
  input_at-re (Some x) k = refl

  abbrev in_with : SpecJob → ℕ → Channel → ℕ → Option SpecInput → List ℕ → SpecJob
  in_with job ch c a input words =
      with_channel (record job { core = core_filled job c a words }) ch
      (Some (record (clean c) { input = moved_on input (blocks_of (min (words_asked job c a) (length words))) }))

  in_done-re : (job : SpecJob) (ch : ℕ) (c : Channel) (a : ℕ) → in_done (re_job f job) ch (re_channel f c) a
      ≡ re_job f (in_done job ch c a)
  in_done-re job ch c a =
      ap (in_with (re_job f job) ch (re_channel f c) a (option_map (re_input f) c.input)) (ahead-re c.input c.output)
      ∙ (λ i. with_channel (record (re_job f job) { core = core_filled job c a (words_ahead c.input c.output) }) ch
      (Some (record (clean c) {
        input = moved_on-re c.input
            (blocks_of (min (words_asked job c a) (length (words_ahead c.input c.output)))) i;
      })))
      ∙ with_channel-re f (record job { core = core_filled job c a (words_ahead c.input c.output) }) ch
      (Some (record (clean c) {
        input = moved_on c.input
            (blocks_of (min (words_asked job c a) (length (words_ahead c.input c.output))));
      }))

  pub reads-re : (job : SpecJob) (ch : ℕ) (c : Channel) (a : ℕ) → reads (re_job f job) ch (re_channel f c) a
      ≡ on_value (re_job f) (reads job ch c a)
  reads-re job ch c a =
      settled-re (re_job f) (in_answer job c a) _ (in_done job ch c a) (in_done (re_job f job) ch (re_channel f c) a)
      (stopped_in job ch c) (stopped_in (re_job f job) ch (re_channel f c))
      (in_answer-re job c a) (in_done-re job ch c a) (stopped-re job ch c)

  pub useti-re : (job : SpecJob) (ch : ℕ) (c : Channel) (k : ℕ) → useti (re_job f job) ch (re_channel f c) k
      ≡ on_value (re_job f) (useti job ch c k)
  useti-re job ch c k =
      settled-re (re_job f) (useti_answer c k) _ (with_channel job ch (Some (useti_done c k)))
      (with_channel (re_job f job) ch (Some (useti_done (re_channel f c) k))) (stopped_in job ch c)
      (stopped_in (re_job f job) ch (re_channel f c))
      (λ i. if is_none-map (re_input f) c.input i then Refused 5 else if k == 0 then reports c block_too_large
      else Done)
      ((λ i. with_channel (re_job f job) ch (Some (record (clean c) { input = input_at-re c.input k i })))
      ∙ with_channel-re f job ch (Some (useti_done c k))) (stopped-re job ch c)

  pub useto-re : (job : SpecJob) (ch : ℕ) (c : Channel) (k : ℕ) → useto (re_job f job) ch (re_channel f c) k
      ≡ on_value (re_job f) (useto job ch c k)
  useto-re job ch c k =
      settled-re (re_job f) (useto_answer c k) (useto_answer c k) (with_channel job ch (Some (useto_done c k)))
      (with_channel (re_job f job) ch (Some (useto_done (re_channel f c) k))) (stopped_in job ch c)
      (stopped_in (re_job f job) ch (re_channel f c))
      refl (with_channel-re f job ch (Some (useto_done c k))) (stopped-re job ch c)
