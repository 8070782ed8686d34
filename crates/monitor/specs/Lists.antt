-- What the monitor answers to a request for a list, and if the volume refuses a call.
use Rattle.std.specs.Prelude.{◌≡◌, ◌+◌, List, Result, Ok, Err}
use Rattle.spec_image.specs.Common.{number_of}
use Rattle.spec_machine.specs.Common.{cleared, block_too_large}
use Rattle.spec_image.specs.declared.entry.Entry.{Entry}
use Rattle.spec_machine.specs.declared.call.Reply.{Reply}
use Rattle.volume.specs.declared.error.CallError.{CallError}
use Rattle.volume.specs.declared.error.CallError.TheVariants.{Refused, Device, NoMemory, Failed}
use Rattle.monitor.specs.declared.channel.OpenChannel.{OpenChannel}
use Rattle.spec_machine.specs.declared.call.Reply.TheVariants as replies

-- the answer to a call that the volume refused
abbrev pub reply_of : CallError → Reply
reply_of (Refused code) = replies.Refused (number_of code)
reply_of Device = replies.Device
reply_of NoMemory = replies.NoMemory
reply_of Failed = replies.Failed

-- the answer if it refuses to publish what a channel has written, which it does only for lack of room
abbrev pub unpublished_by : OpenChannel → CallError → Reply
unpublished_by c (Refused code) = replies.Stopped (cleared c.status + block_too_large)
unpublished_by c Device = replies.Device
unpublished_by c NoMemory = replies.NoMemory
unpublished_by c Failed = replies.Failed

-- a list, seen by `view`, as the machine gives it
abbrev pub IsListAnswer : {L : Type 0} → (L → List Entry) → Result L Reply → Result (List Entry) Reply → Type 0
IsListAnswer view (Ok lines) answer = answer ≡ Ok (view lines)
IsListAnswer view (Err reply) answer = answer ≡ Err reply
