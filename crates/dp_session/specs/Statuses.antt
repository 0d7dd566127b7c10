-- The number and the message of each status (docs/FORMATS.md, "Statuses").
use Rattle.std.specs.Prelude.{ℕ, List, Option, Some, None, codes}
use Rattle.dp_session.specs.declared.status.Status.{Status}
use Rattle.dp_session.specs.declared.status.Status.TheVariants.{Done, BadWords, BadInput, ReadFault, WriteFault, StoreFault, DrawFault, NoMemory, Spent, Forked}

-- the number that a process ends with
abbrev pub number_of : Status → ℕ
number_of Done = 0
number_of BadWords = 2
number_of BadInput = 3
number_of ReadFault = 4
number_of WriteFault = 5
number_of StoreFault = 6
number_of DrawFault = 7
number_of NoMemory = 8
number_of Spent = 9
number_of Forked = 10

-- the text on standard error; that of bad input names its place, and is no fixed text
abbrev pub message_of : Status → Option (List ℕ)
message_of Done = None
message_of BadWords = Some (codes "dp_server: bad words")
message_of BadInput = None
message_of ReadFault = Some (codes "dp_server: reading failed")
message_of WriteFault = Some (codes "dp_server: writing failed")
message_of StoreFault = Some (codes "dp_server: the repository failed")
message_of DrawFault = Some (codes "dp_server: drawing random bytes failed")
message_of NoMemory = Some (codes "dp_server: out of memory")
message_of Spent = Some (codes "dp_server: too many requests in one session")
message_of Forked = Some (codes "dp_server: the run differs from its history")
