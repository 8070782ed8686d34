-- Plans that continue while they are answered as they want, and what their acts come to.
use Rattle.std.proofs.Common.{◌≡◌, ◌⊎◌, inl, inr, ⊎_elim, ℕ, zero, suc, ◌+◌, ◌*◌, ◌/◌, ◌%◌, Bool, true, false}
use Rattle.std.proofs.Common.{if◌then◌else◌, IsTrue, IsFalse, List, [], ◌∷◌, ◌++◌, length, take, drop, replicate}
use Rattle.std.proofs.Common.{Some, refl, sym, ap, subst, ◌∙◌}
use Rattle.std.specs.Prelude.{Option, unwrap_or}
use Rattle.std.specs.List.{AllByRecursion}
use Rattle.words36.specs.declared.moment.Moment.{Moment}
use Rattle.spec_language.specs.Texts.{Spoken, prints, file_said, refuses}
use Rattle.spec_language.specs.Plans.{Plan, Ask, Show, Say, Act, Asks, Looks, RunsPlan, each, call_event, ends, fails}
use Rattle.spec_language.specs.Plans.{ok}
use Rattle.spec_language.specs.Plans.{if_done, if_told, if_end, is_end, until_end, in_event, out_event, useti_event}
use Rattle.spec_language.specs.Plans.{lookup_events}
use Rattle.spec_language.specs.Plans.{enter_events, list_events, deposit_events, examines, fetches, takes_over, counts}
use Rattle.spec_language.specs.Plans.{sizes}
use Rattle.spec_language.specs.Plans.{says_words, last_said, same_words, block_address, file_words, blocks_said}
use Rattle.spec_language.specs.Plans.{blocks_at_once, quota_events, copy_runs_plan, copy_blocks_plan, copy_last_plan}
use Rattle.spec_language.specs.Plans.{copy_body_plan, copy_plan, type_runs_plan, type_blocks_plan, type_last_plan}
use Rattle.spec_language.specs.Plans.{type_body_plan}
use Rattle.spec_language.specs.Plans.{read_plan, rename_events, delete_events, protect_events, make_dir_events}
use Rattle.spec_language.specs.Plans.{directory_plan}
use Rattle.spec_language.specs.Plans.{line_plan}
use Rattle.spec_language.specs.Errands.{login_events, create_events, fill_events, size_events, fill_parts_plan}
use Rattle.spec_language.specs.Errands.{fill_all_plan}
use Rattle.spec_language.specs.Errands.{parts_of}
use Rattle.spec_language.specs.Errands.{part_words, part_address, put_plan, get_plan}
use Rattle.spec_language.specs.Causes.{is_done, is_word, is_wanted, GoesUntilRefused, SaysOk, ClosesAtEnd}
use Rattle.spec_language.specs.Causes.{PrintsAtEnd, EndsSo, SaysSo, IsAsWanted, IsRefusedAt}
use Rattle.spec_language.specs.declared.command.Spec.{Spec}
use Rattle.spec_language.specs.declared.command.Command.{Command}
use Rattle.spec_language.specs.declared.command.Command.TheVariants.{Login as LoginLine, Directory as DirectoryLine}
use Rattle.spec_language.specs.declared.command.Command.TheVariants.{Copy as CopyLine, Rename as RenameLine}
use Rattle.spec_language.specs.declared.command.Command.TheVariants.{Delete as DeleteLine, TypeOut as TypeLine}
use Rattle.spec_language.specs.declared.command.Command.TheVariants.{Protect as ProtectLine, MakeDir as MakeLine}
use Rattle.spec_language.specs.declared.command.Command.TheVariants.{Quota as QuotaLine}
use Rattle.spec_language.specs.declared.encoding.Encoding.{Encoding}
use Rattle.spec_language.specs.declared.encoding.Encoding.TheVariants.{Characters, Words, Octets}
use Rattle.spec_machine.specs.declared.call.Call.TheVariants.{Close, Reset}
use Rattle.spec_machine.specs.declared.call.Event.{Event}
use Rattle.spec_machine.specs.declared.call.Event.TheVariants.{Login, Deposit, Examine, Call as Calls}
use Rattle.spec_machine.specs.declared.call.Reply.{Reply}
use Rattle.spec_machine.specs.declared.call.Reply.TheVariants.{Done, Value, Refused, Stopped, NoChannel, AddressCheck}
use Rattle.spec_machine.specs.declared.call.Reply.TheVariants.{NoJob, NoMemory, Device, Failed, DateRange}
use Rattle.spec_image.proofs.Common.{all_append}

-- Events that have to be done.
abbrev WantsDone : Event → Type 0
WantsDone (Login n ppn words) = Unit {0}
WantsDone (Deposit n address word) = Unit {0}
WantsDone (Examine n address) = ⊥
WantsDone (Calls n call moment) = Unit {0}

wants_done : (event : Event) → WantsDone event → (reply : Reply) → is_wanted event reply ≡ is_done reply
wants_done (Login n ppn words) here reply = refl
wants_done (Deposit n address word) here reply = refl
wants_done (Examine n address) here reply = absurd here
wants_done (Calls n call moment) here reply = refl

want_deposits : (ws : List ℕ) (a : ℕ) → AllByRecursion WantsDone (deposit_events a ws)
want_deposits [] a = tt
want_deposits (w ∷ ws) a = (tt, want_deposits ws (a + 1))

want_finds : (moment : Moment) (spec : Spec) → AllByRecursion WantsDone (lookup_events moment spec)
want_finds moment spec = (tt, (tt, (tt, (tt, (tt, (tt, (tt, (tt, (tt, tt)))))))))

want_writes : (moment : Moment) (spec : Spec) → AllByRecursion WantsDone (enter_events moment spec)
want_writes moment spec = (tt, (tt, (tt, (tt, (tt, (tt, (tt, (tt, (tt, tt)))))))))

want_lists : (count : ℕ) → AllByRecursion WantsDone (list_events count)
want_lists count = (tt, (tt, tt))

want_creates : (moment : Moment) (encoding : Encoding) (spec : Spec)
    → AllByRecursion WantsDone (create_events moment encoding spec)
want_creates moment Characters spec = (tt, (tt, (tt, (tt, (tt, (tt, (tt, (tt, (tt, (tt, (tt, tt)))))))))))
want_creates moment Words spec = want_writes moment spec
want_creates moment Octets spec = want_writes moment spec

want_announces : (moment : Moment) (encoding : Encoding) (count : ℕ)
    → AllByRecursion WantsDone (size_events moment encoding count)
want_announces moment Characters count = (tt, (tt, tt))
want_announces moment Words count = (tt, (tt, (tt, tt)))
want_announces moment Octets count = (tt, (tt, (tt, tt)))

module _ (moment : Moment) (IsEnd : Plan → Type 0) where
  if_done_goes : (next : Plan) → GoesUntilRefused moment IsEnd next → (reply : Reply)
      → (is_done reply ≡ true → GoesUntilRefused moment IsEnd (if_done moment next reply))
      × (is_done reply ≡ false → if_done moment next reply ≡ fails moment reply)
  if_done_goes next g Done = ((λ e. g), (λ e. let wrong : true ≡ false = e in cc))
  if_done_goes next g (Value w) = ((λ e. let wrong : false ≡ true = e in cc), (λ e. refl))
  if_done_goes next g (Refused w) = ((λ e. let wrong : false ≡ true = e in cc), (λ e. refl))
  if_done_goes next g (Stopped w) = ((λ e. let wrong : false ≡ true = e in cc), (λ e. refl))
  if_done_goes next g NoChannel = ((λ e. let wrong : false ≡ true = e in cc), (λ e. refl))
  if_done_goes next g AddressCheck = ((λ e. let wrong : false ≡ true = e in cc), (λ e. refl))
  if_done_goes next g NoJob = ((λ e. let wrong : false ≡ true = e in cc), (λ e. refl))
  if_done_goes next g NoMemory = ((λ e. let wrong : false ≡ true = e in cc), (λ e. refl))
  if_done_goes next g Device = ((λ e. let wrong : false ≡ true = e in cc), (λ e. refl))
  if_done_goes next g Failed = ((λ e. let wrong : false ≡ true = e in cc), (λ e. refl))
  if_done_goes next g DateRange = ((λ e. let wrong : false ≡ true = e in cc), (λ e. refl))

  each_goes : (events : List Event) (next : Plan) → AllByRecursion WantsDone events → GoesUntilRefused moment IsEnd next
      → GoesUntilRefused moment IsEnd (each moment events next)
  unfolding each
  each_goes [] next all g = g
  each_goes (event ∷ events) next (here, others) g = inr (λ reply.
      let is = wants_done event here reply in
      let p = if_done_goes (each moment events next) (each_goes events next others g) reply in
      ((λ e. p.0 (sym is ∙ e)), (λ e. p.1 (sym is ∙ e))))

  if_told_goes : (next : ℕ → Plan) → ((word : ℕ) → GoesUntilRefused moment IsEnd (next word)) → (reply : Reply)
      → (is_word reply ≡ true → GoesUntilRefused moment IsEnd (if_told moment next reply))
      × (is_word reply ≡ false → if_told moment next reply ≡ fails moment reply)
  if_told_goes next g Done = ((λ e. let wrong : false ≡ true = e in cc), (λ e. refl))
  if_told_goes next g (Value w) = ((λ e. g w), (λ e. let wrong : true ≡ false = e in cc))
  if_told_goes next g (Refused w) = ((λ e. let wrong : false ≡ true = e in cc), (λ e. refl))
  if_told_goes next g (Stopped w) = ((λ e. let wrong : false ≡ true = e in cc), (λ e. refl))
  if_told_goes next g NoChannel = ((λ e. let wrong : false ≡ true = e in cc), (λ e. refl))
  if_told_goes next g AddressCheck = ((λ e. let wrong : false ≡ true = e in cc), (λ e. refl))
  if_told_goes next g NoJob = ((λ e. let wrong : false ≡ true = e in cc), (λ e. refl))
  if_told_goes next g NoMemory = ((λ e. let wrong : false ≡ true = e in cc), (λ e. refl))
  if_told_goes next g Device = ((λ e. let wrong : false ≡ true = e in cc), (λ e. refl))
  if_told_goes next g Failed = ((λ e. let wrong : false ≡ true = e in cc), (λ e. refl))
  if_told_goes next g DateRange = ((λ e. let wrong : false ≡ true = e in cc), (λ e. refl))

  examines_goes : (a : ℕ) (next : ℕ → Plan) → ((word : ℕ) → GoesUntilRefused moment IsEnd (next word))
      → GoesUntilRefused moment IsEnd (examines moment a next)
  examines_goes a next g = inr (if_told_goes next g)

  fetches_goes : (count a : ℕ) (next : List ℕ → Plan) → ((words : List ℕ) → GoesUntilRefused moment IsEnd (next words))
      → GoesUntilRefused moment IsEnd (fetches moment count a next)
  unfolding fetches
  fetches_goes zero a next g = g []
  fetches_goes (suc count) a next g =
      examines_goes a (λ word. fetches moment count (a + 1) (λ words. next (word ∷ words)))
      (λ word. fetches_goes count (a + 1) (λ words. next (word ∷ words)) (λ words. g (word ∷ words)))

  takes_over_goes : (n word : ℕ) (next : List ℕ → Plan)
      → ((words : List ℕ) → GoesUntilRefused moment IsEnd (next words))
      → GoesUntilRefused moment IsEnd (takes_over moment n word next)
  takes_over_goes n word next g =
      each_goes (deposit_events block_address (replicate 128 word) ++ useti_event moment n ∷ in_event moment ∷ [])
      (fetches moment 128 block_address next)
      (all_append WantsDone (deposit_events block_address (replicate 128 word))
      (useti_event moment n ∷ in_event moment ∷ [])
      (want_deposits (replicate 128 word) block_address) (tt, (tt, tt)))
      (fetches_goes 128 block_address next g)

  sizes_goes : (n size : ℕ) (next : ℕ → Plan) → ((count : ℕ) → GoesUntilRefused moment IsEnd (next count))
      → GoesUntilRefused moment IsEnd (sizes moment n size next)
  sizes_goes n size next g = by (says_words size)
    where
      by : (b : Bool) → GoesUntilRefused moment IsEnd (if b then next (last_said size) else counts moment n next)
      by true = g (last_said size)
      by false = takes_over_goes n 0 (λ zeros. takes_over moment n 1 (λ ones. next (same_words zeros ones)))
          (λ zeros. takes_over_goes n 1 (λ ones. next (same_words zeros ones)) (λ ones. g (same_words zeros ones)))

  -- COPY

  copies_runs_goes : (more : ℕ) (next : Plan) → GoesUntilRefused moment IsEnd next
      → GoesUntilRefused moment IsEnd (copy_runs_plan moment more next)
  unfolding copy_runs_plan
  copies_runs_goes zero next g = g
  copies_runs_goes (suc more) next g = each_goes (in_event moment ∷ out_event moment ∷ [])
      (copy_runs_plan moment more next)
      (tt, (tt, tt)) (copies_runs_goes more next g)

  copies_blocks_goes : (blocks : ℕ) (next : Plan) → GoesUntilRefused moment IsEnd next
      → GoesUntilRefused moment IsEnd (copy_blocks_plan moment blocks next)
  copies_blocks_goes blocks next g = each_goes (list_events (blocks_at_once * 128)) _
      (want_lists (blocks_at_once * 128))
      (copies_runs_goes (blocks / blocks_at_once) _ (each_goes (list_events 128) _ (want_lists 128)
      (copies_runs_goes (blocks % blocks_at_once) next g)))

  copies_last_goes : (n size : ℕ) (next : Plan) → GoesUntilRefused moment IsEnd next
      → GoesUntilRefused moment IsEnd (copy_last_plan moment n size next)
  copies_last_goes n size next g = sizes_goes n size
      (λ count. each moment (list_events count ++ useti_event moment n ∷ in_event moment ∷ out_event moment ∷ []) next)
      (λ count. each_goes (list_events count ++ useti_event moment n ∷ in_event moment ∷ out_event moment ∷ []) next
      (tt, (tt, (tt, (tt, (tt, tt))))) g)

  copies_body_goes : (blocks size : ℕ) (next : Plan) → GoesUntilRefused moment IsEnd next
      → GoesUntilRefused moment IsEnd (copy_body_plan moment blocks size next)
  copies_body_goes zero size next g = g
  copies_body_goes (suc more) size next g =
      copies_blocks_goes more (copy_last_plan moment (suc more) size next) (copies_last_goes (suc more) size next g)

  -- a file that is read

  types_runs_goes : (more count : ℕ) (next : List ℕ → Plan)
      → ((words : List ℕ) → GoesUntilRefused moment IsEnd (next words))
      → GoesUntilRefused moment IsEnd (type_runs_plan moment more count next)
  unfolding type_runs_plan
  types_runs_goes zero count next g = g []
  types_runs_goes (suc more) count next g = each_goes (in_event moment ∷ []) _ (tt, tt)
      (fetches_goes count block_address (λ words. type_runs_plan moment more count (λ others. next (words ++ others)))
      (λ words. types_runs_goes more count (λ others. next (words ++ others)) (λ others. g (words ++ others))))

  types_blocks_goes : (blocks : ℕ) (next : List ℕ → Plan)
      → ((words : List ℕ) → GoesUntilRefused moment IsEnd (next words))
      → GoesUntilRefused moment IsEnd (type_blocks_plan moment blocks next)
  types_blocks_goes blocks next g = each_goes (list_events (blocks_at_once * 128)) _ (want_lists (blocks_at_once * 128))
      (types_runs_goes (blocks / blocks_at_once) (blocks_at_once * 128) _
      (λ words. each_goes (list_events 128) _ (want_lists 128)
      (types_runs_goes (blocks % blocks_at_once) 128 (λ others. next (words ++ others))
      (λ others. g (words ++ others)))))

  types_last_goes : (n size : ℕ) (next : List ℕ → Plan)
      → ((words : List ℕ) → GoesUntilRefused moment IsEnd (next words))
      → GoesUntilRefused moment IsEnd (type_last_plan moment n size next)
  types_last_goes n size next g = sizes_goes n size
      (λ count. each moment (list_events count ++ useti_event moment n ∷ in_event moment ∷ [])
      (fetches moment count block_address next))
      (λ count. each_goes (list_events count ++ useti_event moment n ∷ in_event moment ∷ []) _
      (tt, (tt, (tt, (tt, tt)))) (fetches_goes count block_address next g))

  types_body_goes : (blocks size : ℕ) (next : List ℕ → Plan)
      → ((words : List ℕ) → GoesUntilRefused moment IsEnd (next words))
      → GoesUntilRefused moment IsEnd (type_body_plan moment blocks size next)
  types_body_goes zero size next g = g []
  types_body_goes (suc more) size next g =
      types_blocks_goes more (λ words. type_last_plan moment (suc more) size (λ others. next (words ++ others)))
      (λ words. types_last_goes (suc more) size (λ others. next (words ++ others)) (λ others. g (words ++ others)))

  -- a file that is put

  fills_parts_goes : (encoding : Encoding) (more : ℕ) (words : List ℕ) (next : Plan)
      → GoesUntilRefused moment IsEnd next
      → GoesUntilRefused moment IsEnd (fill_parts_plan moment encoding more words next)
  unfolding fill_parts_plan
  fills_parts_goes encoding zero words next g = g
  fills_parts_goes encoding (suc more) words next g =
      let part = take (part_words encoding) words in
      each_goes (fill_events moment encoding part)
      (fill_parts_plan moment encoding more (drop (part_words encoding) words) next)
      (all_append WantsDone (deposit_events (part_address encoding) part) (size_events moment encoding (length part))
      (want_deposits part (part_address encoding)) (want_announces moment encoding (length part)))
      (fills_parts_goes encoding more (drop (part_words encoding) words) next g)

-- The plans as a whole.

abbrev closing : Moment → Plan
closing moment = until_end moment (each moment (call_event moment (Close 2 0) ∷ []) (ends moment ok))

pub copies_go_on : (moment : Moment) (to from : Spec)
    → GoesUntilRefused moment (ClosesAtEnd moment) (copy_plan moment to from)
copies_go_on moment to from = each_goes moment (ClosesAtEnd moment)
    (lookup_events moment from ++ enter_events moment to ++ list_events 128)
    (examines moment (file_words + 3) (λ size. copy_body_plan moment (blocks_said size) size (closing moment)))
    (all_append WantsDone (lookup_events moment from ++ enter_events moment to) (list_events 128)
    (all_append WantsDone (lookup_events moment from) (enter_events moment to) (want_finds moment from)
    (want_writes moment to))
    (want_lists 128))
    (examines_goes moment (ClosesAtEnd moment) (file_words + 3)
    (λ size. copy_body_plan moment (blocks_said size) size (closing moment))
    (λ size. copies_body_goes moment (ClosesAtEnd moment) (blocks_said size) size (closing moment) (inl refl)))

pub reads_go_on : (moment : Moment) (encoding : Encoding) (spec : Spec)
    → GoesUntilRefused moment (PrintsAtEnd moment encoding) (read_plan moment encoding spec)
reads_go_on moment encoding spec = each_goes moment IsEnd (lookup_events moment spec ++ list_events 128)
    (examines moment (file_words + 3) (λ size. type_body_plan moment (blocks_said size) size printing))
    (all_append WantsDone (lookup_events moment spec) (list_events 128) (want_finds moment spec) (want_lists 128))
    (examines_goes moment IsEnd (file_words + 3)
    (λ size. type_body_plan moment (blocks_said size) size printing)
    (λ size. types_body_goes moment IsEnd (blocks_said size) size printing (λ words. inl (words, refl))))
  where
    IsEnd : Plan → Type 0
    IsEnd = PrintsAtEnd moment encoding

    printing : List ℕ → Plan
    printing words = until_end moment (ends moment (file_said encoding words))

pub puts_go_on : (moment : Moment) (me : ℕ) (encoding : Encoding) (spec : Spec) (words : List ℕ)
    → GoesUntilRefused moment (SaysOk moment) (put_plan moment me encoding spec (Some words))
puts_go_on moment me encoding spec words =
    let is = SaysOk moment in
    let close = each moment (call_event moment (Close 2 0) ∷ []) (ends moment ok) in
    each_goes moment is (login_events me)
    (each moment (create_events moment encoding spec) (fill_all_plan moment encoding words close))
    (tt, tt)
    (each_goes moment is (create_events moment encoding spec) (fill_all_plan moment encoding words close)
    (want_creates moment encoding spec)
    (fills_parts_goes moment is encoding (parts_of encoding (length words)) words close
    (each_goes moment is (call_event moment (Close 2 0) ∷ []) (ends moment ok) (tt, tt) (inl refl))))

pub gets_go_on : (moment : Moment) (me : ℕ) (encoding : Encoding) (spec : Spec)
    → GoesUntilRefused moment (PrintsAtEnd moment encoding) (get_plan moment me encoding spec)
gets_go_on moment me encoding spec = each_goes moment (PrintsAtEnd moment encoding) (login_events me)
    (read_plan moment encoding spec) (tt, tt) (reads_go_on moment encoding spec)

pub lines_go_on : (moment : Moment) (me : ℕ) (command : Command)
    → GoesUntilRefused moment (EndsSo moment me command) (line_plan moment me command)
lines_go_on moment me (LoginLine owner) = refl
lines_go_on moment me (DirectoryLine owner) = refl
lines_go_on moment me (CopyLine to from) = copies_go_on moment to from
lines_go_on moment me (RenameLine to from) = each_goes moment (SaysOk moment) (rename_events moment to from)
    (ends moment ok) (tt, (tt, (tt, (tt, (tt, (tt, (tt, (tt, (tt, (tt, (tt, (tt, (tt, tt))))))))))))) (inl refl)
lines_go_on moment me (DeleteLine spec) = each_goes moment (SaysOk moment) (delete_events moment spec) (ends moment ok)
    (tt, (tt, (tt, (tt, (tt, (tt, (tt, (tt, (tt, (tt, (tt, tt))))))))))) (inl refl)
lines_go_on moment me (TypeLine spec) = reads_go_on moment Characters spec
lines_go_on moment me (ProtectLine spec protection) = each_goes moment (SaysOk moment)
    (protect_events moment spec protection) (ends moment ok)
    (tt, (tt, (tt, (tt, (tt, (tt, (tt, (tt, (tt, (tt, (tt, (tt, (tt, (tt, tt)))))))))))))) (inl refl)
lines_go_on moment me (MakeLine owner protection) = each_goes moment (SaysOk moment)
    (make_dir_events moment owner protection) (ends moment ok) (tt, (tt, (tt, tt))) (inl refl)
lines_go_on moment me (QuotaLine owner blocks) = each_goes moment (SaysOk moment)
    (quota_events moment owner blocks) (ends moment ok) (tt, (tt, (tt, tt))) (inl refl)

-- Acts.

-- all channels are closed in the end, and this is printed
ends_by : (moment : Moment) (told said : Spoken) (acts : List Act) → RunsPlan (ends moment told) acts said
    → (reset : Reply) × (acts ≡ Asks (call_event moment Reset) reset ∷ []) × (said ≡ told)
ends_by moment told said [] led = let wrong = led in cc
ends_by moment told said (Looks owner answer ∷ acts) led = absurd led
ends_by moment told said (Asks event reply ∷ []) led =
    let last : Say said ≡ Say told = led.1 in
    (reply, ap (λ e. Asks e reply ∷ []) led.0, let e = last in cc)
ends_by moment told said (Asks event reply ∷ act ∷ acts) led = absurd led.1

-- a reply that is not wanted
refused_here : (moment : Moment) (event : Event) (reply : Reply) (acts : List Act) (said : Spoken)
    → IsFalse (is_wanted event reply) ⊎ ((event ≡ in_event moment) × (reply ≡ Done))
    → RunsPlan (fails moment reply) acts said
    → IsRefusedAt moment (Asks event reply ∷ acts) said
refused_here moment event reply acts said why led =
    let end = ends_by moment (refuses reply) said acts led in
    record {
      before = [];
      event = event;
      reply = reply;
      reset = end.0;
      acts_are = ap (λ l. Asks event reply ∷ l) end.1;
      wanted = tt;
      unwanted = why;
      says = end.2;
    }

refused_later : (moment : Moment) (act : Act) (acts : List Act) (said : Spoken) → IsAsWanted moment act
    → IsRefusedAt moment acts said → IsRefusedAt moment (act ∷ acts) said
refused_later moment act acts said was r = record {
  before = act ∷ r.before;
  event = r.event;
  reply = r.reply;
  reset = r.reset;
  acts_are = ap (λ l. act ∷ l) r.acts_are;
  wanted = (was, r.wanted);
  unwanted = r.unwanted;
  says = r.says;
}

-- the acts of a plan that continues, if those of its end are such or refused
module _ (moment : Moment) (IsEnd : Plan → Type 0) (IsSaid : Spoken → Type 0)
    (at_end : (plan : Plan) (acts : List Act) (said : Spoken) → IsEnd plan → RunsPlan plan acts said
    → IsSaid said ⊎ IsRefusedAt moment acts said) where
  acts_go_on : (plan : Plan) (acts : List Act) (said : Spoken) → GoesUntilRefused moment IsEnd plan
      → RunsPlan plan acts said
      → IsSaid said ⊎ IsRefusedAt moment acts said
  acts_go_on (Say told) acts said g led = at_end (Say told) acts said g led
  acts_go_on (Show owner next) acts said g led = at_end (Show owner next) acts said g led
  acts_go_on (Ask event next) acts said (inl end) led = at_end (Ask event next) acts said end led
  acts_go_on (Ask event next) [] said (inr g) led = let wrong = led in cc
  acts_go_on (Ask event next) (Looks owner answer ∷ acts) said (inr g) led = absurd led
  acts_go_on (Ask event next) (Asks other reply ∷ acts) said (inr g) (same, led) =
      subst (λ e. IsSaid said ⊎ IsRefusedAt moment (Asks e reply ∷ acts) said) (sym same)
      (by (is_wanted event reply) refl (λ on. acts_go_on (next reply) acts said on led))
    where
      by : (b : Bool) → is_wanted event reply ≡ b
          → (GoesUntilRefused moment IsEnd (next reply) → IsSaid said ⊎ IsRefusedAt moment acts said)
          → IsSaid said ⊎ IsRefusedAt moment (Asks event reply ∷ acts) said
      by true is behind = ⊎_elim inl (λ r. inr (refused_later moment (Asks event reply) acts said (inl is) r))
          (behind ((g reply).0 is))
      by false is behind = inr (refused_here moment event reply acts said (inl is)
          (subst (λ p. RunsPlan p acts said) ((g reply).1 is) led))

-- An IN that has to report the end.

end_or_fails : (moment : Moment) (next : Plan) (reply : Reply)
    → ((status : ℕ) × (reply ≡ Stopped status) × IsTrue (is_end status) × (if_end moment next reply ≡ next))
    ⊎ ((if_end moment next reply ≡ fails moment reply) × (IsFalse (is_done reply) ⊎ (reply ≡ Done)))
end_or_fails moment next Done = inr (refl, inr refl)
end_or_fails moment next (Value w) = inr (refl, inl refl)
end_or_fails moment next (Refused w) = inr (refl, inl refl)
end_or_fails moment next (Stopped w) = by (is_end w) refl
  where
    by : (b : Bool) → is_end w ≡ b
        → ((status : ℕ) × (Stopped w ≡ Stopped status) × IsTrue (is_end status)
        × ((if is_end w then next else fails moment (Stopped w)) ≡ next))
        ⊎ (((if is_end w then next else fails moment (Stopped w)) ≡ fails moment (Stopped w))
        × (IsFalse (is_done (Stopped w)) ⊎ (Stopped w ≡ Done)))
    by true e = inl (w, refl, e, ap (λ b. if b then next else fails moment (Stopped w)) e)
    by false e = inr (ap (λ b. if b then next else fails moment (Stopped w)) e, inl refl)
end_or_fails moment next NoChannel = inr (refl, inl refl)
end_or_fails moment next AddressCheck = inr (refl, inl refl)
end_or_fails moment next NoJob = inr (refl, inl refl)
end_or_fails moment next NoMemory = inr (refl, inl refl)
end_or_fails moment next Device = inr (refl, inl refl)
end_or_fails moment next Failed = inr (refl, inl refl)
end_or_fails moment next DateRange = inr (refl, inl refl)

until_by : (moment : Moment) (IsSaid : Spoken → Type 0) (next : Plan) (acts : List Act) (said : Spoken)
    → ((acts : List Act) → RunsPlan next acts said → IsSaid said ⊎ IsRefusedAt moment acts said)
    → RunsPlan (until_end moment next) acts said → IsSaid said ⊎ IsRefusedAt moment acts said
until_by moment IsSaid next [] said behind led = let wrong = led in cc
until_by moment IsSaid next (Looks owner answer ∷ acts) said behind led = absurd led
until_by moment IsSaid next (Asks event reply ∷ acts) said behind (same, led) = ⊎_elim
    (λ (status, is, told, on). ⊎_elim inl
    (λ r. inr (refused_later moment (Asks event reply) acts said (inr (same, status, is, told)) r))
    (behind acts (subst (λ p. RunsPlan p acts said) on led)))
    (λ (off, why). inr (refused_here moment event reply acts said
    (⊎_elim (λ is. inl (subst (λ e. IsFalse (is_wanted e reply)) (sym same) is)) (λ is. inr (same, is)) why)
    (subst (λ p. RunsPlan p acts said) off led)))
    (end_or_fails moment next reply)

ok_at_end : (moment : Moment) (plan : Plan) (acts : List Act) (said : Spoken) → SaysOk moment plan
    → RunsPlan plan acts said → (said ≡ ok) ⊎ IsRefusedAt moment acts said
ok_at_end moment plan acts said is led =
    inl (ends_by moment ok said acts (subst (λ p. RunsPlan p acts said) is led)).2

closes_at_end : (moment : Moment) (plan : Plan) (acts : List Act) (said : Spoken) → ClosesAtEnd moment plan
    → RunsPlan plan acts said → (said ≡ ok) ⊎ IsRefusedAt moment acts said
closes_at_end moment plan acts said is led =
    until_by moment (λ said. said ≡ ok) (each moment (call_event moment (Close 2 0) ∷ []) (ends moment ok)) acts said
    (λ acts led. acts_go_on moment (SaysOk moment) (λ said. said ≡ ok) (ok_at_end moment)
    (each moment (call_event moment (Close 2 0) ∷ []) (ends moment ok)) acts said
    (each_goes moment (SaysOk moment) (call_event moment (Close 2 0) ∷ []) (ends moment ok) (tt, tt) (inl refl)) led)
    (subst (λ p. RunsPlan p acts said) is led)

abbrev IsPrint : Encoding → Spoken → Type 0
IsPrint encoding said = (words : List ℕ) × (said ≡ file_said encoding words)

prints_at_end : (moment : Moment) (encoding : Encoding) (plan : Plan) (acts : List Act) (said : Spoken)
    → PrintsAtEnd moment encoding plan → RunsPlan plan acts said → IsPrint encoding said ⊎ IsRefusedAt moment acts said
prints_at_end moment encoding plan acts said (words, is) led =
    until_by moment (IsPrint encoding) (ends moment (file_said encoding words)) acts said
    (λ acts led. inl (words, (ends_by moment (file_said encoding words) said acts led).2))
    (subst (λ p. RunsPlan p acts said) is led)

pub read_refusals : (moment : Moment) (encoding : Encoding) (spec : Spec) (acts : List Act) (said : Spoken)
    → RunsPlan (read_plan moment encoding spec) acts said
    → ((words : List ℕ) × (said ≡ file_said encoding words)) ⊎ IsRefusedAt moment acts said
read_refusals moment encoding spec acts said led = acts_go_on moment (PrintsAtEnd moment encoding) (IsPrint encoding)
    (prints_at_end moment encoding) (read_plan moment encoding spec) acts said (reads_go_on moment encoding spec) led

pub put_refusals : (moment : Moment) (me : ℕ) (encoding : Encoding) (spec : Spec) (words : List ℕ) (acts : List Act)
    (said : Spoken) → RunsPlan (put_plan moment me encoding spec (Some words)) acts said
    → (said ≡ ok) ⊎ IsRefusedAt moment acts said
put_refusals moment me encoding spec words acts said led = acts_go_on moment (SaysOk moment) (λ said. said ≡ ok)
    (ok_at_end moment) (put_plan moment me encoding spec (Some words)) acts said
    (puts_go_on moment me encoding spec words) led

pub get_refusals : (moment : Moment) (me : ℕ) (encoding : Encoding) (spec : Spec) (acts : List Act) (said : Spoken)
    → RunsPlan (get_plan moment me encoding spec) acts said
    → ((words : List ℕ) × (said ≡ file_said encoding words)) ⊎ IsRefusedAt moment acts said
get_refusals moment me encoding spec acts said led = acts_go_on moment (PrintsAtEnd moment encoding) (IsPrint encoding)
    (prints_at_end moment encoding) (get_plan moment me encoding spec) acts said
    (gets_go_on moment me encoding spec) led

shows_at_end : (moment : Moment) (me : ℕ) (owner : Option ℕ) (plan : Plan) (acts : List Act) (said : Spoken)
    → EndsSo moment me (DirectoryLine owner) plan → RunsPlan plan acts said
    → SaysSo me (DirectoryLine owner) said ⊎ IsRefusedAt moment acts said
shows_at_end moment me owner plan acts said is led =
    inl (by acts (subst (λ p. RunsPlan p acts said) is led))
  where
    by : (acts : List Act) → RunsPlan (directory_plan (unwrap_or owner me)) acts said
        → SaysSo me (DirectoryLine owner) said
    by [] led = let wrong = led in cc
    by (Asks event reply ∷ acts) led = absurd led
    by (Looks other answer ∷ []) (same, led) = (answer, let e = led in cc)
    by (Looks other answer ∷ act ∷ acts) (same, led) = absurd led

says_at_end : (moment : Moment) (told : Spoken) (plan : Plan) (acts : List Act) (said : Spoken) → plan ≡ Say told
    → RunsPlan plan acts said → (said ≡ told) ⊎ IsRefusedAt moment acts said
says_at_end moment told plan acts said is led = inl (by acts (subst (λ p. RunsPlan p acts said) is led))
  where
    by : (acts : List Act) → RunsPlan (Say told) acts said → said ≡ told
    by [] led = let e = led in cc
    by (act ∷ acts) led = absurd led

line_at_end : (moment : Moment) (me : ℕ) (command : Command) (plan : Plan) (acts : List Act) (said : Spoken)
    → EndsSo moment me command plan → RunsPlan plan acts said → SaysSo me command said ⊎ IsRefusedAt moment acts said
line_at_end moment me (LoginLine owner) = says_at_end moment (prints [])
line_at_end moment me (DirectoryLine owner) = shows_at_end moment me owner
line_at_end moment me (CopyLine to from) = closes_at_end moment
line_at_end moment me (RenameLine to from) = ok_at_end moment
line_at_end moment me (DeleteLine spec) = ok_at_end moment
line_at_end moment me (TypeLine spec) = prints_at_end moment Characters
line_at_end moment me (ProtectLine spec protection) = ok_at_end moment
line_at_end moment me (MakeLine owner protection) = ok_at_end moment
line_at_end moment me (QuotaLine owner blocks) = ok_at_end moment

pub line_refusals : (moment : Moment) (me : ℕ) (command : Command) (acts : List Act) (said : Spoken)
    → RunsPlan (line_plan moment me command) acts said → SaysSo me command said ⊎ IsRefusedAt moment acts said
line_refusals moment me command acts said led = acts_go_on moment (EndsSo moment me command) (SaysSo me command)
    (line_at_end moment me command) (line_plan moment me command) acts said (lines_go_on moment me command) led
