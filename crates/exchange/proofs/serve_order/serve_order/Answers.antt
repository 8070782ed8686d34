use Rattle.exchange.proofs.OrderLaws.{deposit_fits, deposit_words, obeyed_deposit, obeyed_examine, obeyed_login}
use Rattle.exchange.proofs.OrderLaws.{obeyed_call, obeyed_room}
use Rattle.exchange.proofs.serve_order.serve_order.Goals as goal

pub put_words-requires : goal.put_words-requires
put_words-requires g c = deposit_fits c.requires.spelled.0 c.args.body.now c.args.order.now c.requires.spelled.1 _ _ _
    c.requires.spelled.2 c.in-Deposit.is

pub returns-in-Login : goal.returns-in-Login
returns-in-Login g c header words is told = obeyed_login g.S.FileService.machine g.met.S.FileService.stands _ _ _ _
    words _ _ _ _ _ _ c.in-Login.is c.requires.empty (rw c.into.ensures at c.event.ensures)

pub returns-in-Deposit : goal.returns-in-Deposit
returns-in-Deposit g c header words is told = obeyed_deposit g.S.FileService.machine _ _ _ _ words _ _ _ _ _ _
    c.in-Deposit.is c.requires.empty
    (c.put_words.ensures words (deposit_words _ _ _ _ _ _ _ is c.in-Deposit.is) is.body_is)

pub returns-in-Examine : goal.returns-in-Examine
returns-in-Examine g c header words is told = obeyed_examine g.S.FileService.machine _ _ _ _ words _ _ _ _ _ _ _
    c.in-Examine.is c.requires.empty told c.push_areas.ensures

pub returns-in-Call : goal.returns-in-Call
returns-in-Call g c header words is told = obeyed_call g.S.FileService.machine g.met.S.FileService.stands _ _ _ _ _
    words _ _ _ _ _ _ _ _ c.in-Call.is c.requires.empty told (rw c.into-in-Call.ensures at c.event-reply.ensures)
    c.push_areas-in-Call.ensures

pub returns-in-Room : goal.returns-in-Room
returns-in-Room g c header words is told = obeyed_room g.S.FileService.machine g.met.S.FileService.stands _ _ _
    words _ _ _ c.in-Room.is c.requires.empty c.room.ensures
