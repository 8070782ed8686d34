-- What is true of an outcome, by its answer.
use Rattle.std.proofs.Common.{◌≡◌, ◌≢◌, ℕ, List, Some, refl}
use Rattle.spec_machine.specs.Jobs.{Channel, SpecJob, with_channel}
use Rattle.spec_machine.specs.Outcomes.{settled, stopped_in, refused_at}
use Rattle.spec_machine.specs.declared.call.Reply.{Reply}
use Rattle.spec_machine.specs.declared.call.Reply.TheVariants.{Done, Value, Refused, Stopped, NoChannel, AddressCheck}
use Rattle.spec_machine.specs.declared.call.Reply.TheVariants.{NoJob, NoMemory, Device, Failed, DateRange}

-- by whether it is Done
pub settled_by : {A : Type 0} (P : Reply × A → Type 0) (reply : Reply) (done : A) (other : Reply → A)
    → (reply ≡ Done → P (Done, done)) → (reply ≢ Done → P (reply, other reply)) → P (settled reply done other)
settled_by P Done done other d o = d refl
settled_by P (Value w) done other d o = o (λ e. cc)
settled_by P (Refused w) done other d o = o (λ e. cc)
settled_by P (Stopped w) done other d o = o (λ e. cc)
settled_by P NoChannel done other d o = o (λ e. cc)
settled_by P AddressCheck done other d o = o (λ e. cc)
settled_by P NoJob done other d o = o (λ e. cc)
settled_by P NoMemory done other d o = o (λ e. cc)
settled_by P Device done other d o = o (λ e. cc)
settled_by P Failed done other d o = o (λ e. cc)
settled_by P DateRange done other d o = o (λ e. cc)

-- two outcomes of one answer
pub settled_both : {A : Type 0} (P : Reply × A → Reply × A → Type 0) (reply : Reply) (one two : A) (other : Reply → A)
    → P (Done, one) (Done, two) → ((r : Reply) → P (r, other r) (r, other r))
    → P (settled reply one other) (settled reply two other)
settled_both P Done one two other d o = d
settled_both P (Value w) one two other d o = o (Value w)
settled_both P (Refused w) one two other d o = o (Refused w)
settled_both P (Stopped w) one two other d o = o (Stopped w)
settled_both P NoChannel one two other d o = o NoChannel
settled_both P AddressCheck one two other d o = o AddressCheck
settled_both P NoJob one two other d o = o NoJob
settled_both P NoMemory one two other d o = o NoMemory
settled_both P Device one two other d o = o Device
settled_both P Failed one two other d o = o Failed
settled_both P DateRange one two other d o = o DateRange

-- by whether it gives a channel a status
pub stopped_by : (P : SpecJob → Type 0) (job : SpecJob) (number : ℕ) (c : Channel) (reply : Reply)
    → P job → ((status : ℕ) → P (with_channel job number (Some (record c { status = status }))))
    → P (stopped_in job number c reply)
stopped_by P job number c Done h s = h
stopped_by P job number c (Value w) h s = h
stopped_by P job number c (Refused w) h s = h
stopped_by P job number c (Stopped w) h s = s w
stopped_by P job number c NoChannel h s = h
stopped_by P job number c AddressCheck h s = h
stopped_by P job number c NoJob h s = h
stopped_by P job number c NoMemory h s = h
stopped_by P job number c Device h s = h
stopped_by P job number c Failed h s = h
stopped_by P job number c DateRange h s = h

-- whatever it leaves of the core
pub refused_by : (P : SpecJob → Type 0) (job : SpecJob) (e : ℕ) (reply : Reply)
    → ((core : List ℕ) → P (record job { core = core })) → P (refused_at job e reply)
refused_by P job e Done h = h job.core
refused_by P job e (Value w) h = h job.core
refused_by P job e (Refused w) h = h _
refused_by P job e (Stopped w) h = h job.core
refused_by P job e NoChannel h = h job.core
refused_by P job e AddressCheck h = h job.core
refused_by P job e NoJob h = h job.core
refused_by P job e NoMemory h = h job.core
refused_by P job e Device h = h job.core
refused_by P job e Failed h = h job.core
refused_by P job e DateRange h = h job.core
