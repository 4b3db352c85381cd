-- The reasons' numbers: 1 to 16 by document 01's table, 17 and 18 by document 02, (v), 19 by (vi).
-- Assumes nothing.
use Rattle.std.specs.Prelude.{ℕ}
use Rattle.reasons.specs.declared.Reason.{Reason}
use Rattle.reasons.specs.declared.Reason.TheVariants.{FeedLong, NoMessage, Long, Byte, Form, Keyword, Order, Value, Unit, TimeOrder, Short, NoRoom, Spent, Gone, NoRow, Astray, TooBig, Places, Wide}

abbrev pub reason_no : Reason → ℕ
reason_no FeedLong = 1
reason_no NoMessage = 2
reason_no Long = 3
reason_no Byte = 4
reason_no Form = 5
reason_no Keyword = 6
reason_no Order = 7
reason_no Value = 8
reason_no Unit = 9
reason_no TimeOrder = 10
reason_no Short = 11
reason_no NoRoom = 12
reason_no Spent = 13
reason_no Gone = 14
reason_no NoRow = 15
reason_no Astray = 16
reason_no TooBig = 17
reason_no Places = 18
reason_no Wide = 19
