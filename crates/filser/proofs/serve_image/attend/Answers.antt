use Rattle.std.proofs.Common.{refl}
use Rattle.filser.proofs.serve_image.attend.Goals as goal

pub returns-in-Run : goal.returns-in-Run
returns-in-Run g c = rw c.in-Run.is c.session.ensures

pub returns-in-Calls : goal.returns-in-Calls
returns-in-Calls g c = rw c.in-Calls.is c.script.ensures

pub returns-in-Put : goal.returns-in-Put
returns-in-Put g c = rw c.in-Put.is c.put.ensures

pub returns-in-Get : goal.returns-in-Get
returns-in-Get g c = rw c.in-Get.is (refl, c.get.ensures)

pub returns-in-Delete : goal.returns-in-Delete
returns-in-Delete g c =
    rw c.in-Delete.is (refl, c.no_moment.result, c.no_moment.ensures, c.delete.ensures)

pub returns-in-List : goal.returns-in-List
returns-in-List g c = rw c.in-List.is (refl, c.no_moment-in-List.result, c.no_moment-in-List.ensures, c.list.ensures)

pub returns-in-Check : goal.returns-in-Check
returns-in-Check g c = rw c.in-Check.is (refl, c.check.ensures, refl)
