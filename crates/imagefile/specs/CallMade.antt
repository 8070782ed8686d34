-- A call as it is recorded.
use Rattle.std.specs.Prelude.{Some, None}
use Rattle.imagefile.specs.Calls.{Call, SeekStart, SeekEnd, Read, Write, Sync}
use Rattle.imagefile.specs.declared.call_record.CallMade.{CallMade}
use Rattle.imagefile.specs.declared.call_record.CallMade.TheVariants as made

abbrev pub spelled_call : CallMade → Call
spelled_call (made.SeekStart at place) = SeekStart at place
spelled_call (made.SeekEnd place) = SeekEnd place
spelled_call (made.Read asked (Some bytes)) = Read asked (Some bytes.now)
spelled_call (made.Read asked None) = Read asked None
spelled_call (made.Write bytes count) = Write bytes.now count
spelled_call (made.Sync done) = Sync done
