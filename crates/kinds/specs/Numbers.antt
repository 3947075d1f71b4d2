-- 01's number of each refusal, and of each answer.
use Rattle.std.specs.Prelude.{ℕ, Result, Ok, Err}
use Rattle.kinds.specs.declared.Refusal.{Refusal}
use Rattle.kinds.specs.declared.Refusal.TheVariants.{BadLength, ShortWork, Header, Tables, Cells, Directory, Entries, Trees, Mini, Streams, Owners, BadPath, NotFound, StreamOnTheWay, NotAStream, Beyond, TooFewFree, OutTooShort, NotEmpty, AlreadyThere, NoBlankEntry, RootRemoved, PlanDoesNotFit, BadEntry}

abbrev pub refusal_number : Refusal → ℕ
refusal_number BadLength = 1
refusal_number ShortWork = 2
refusal_number Header = 10
refusal_number Tables = 11
refusal_number Cells = 12
refusal_number Directory = 13
refusal_number Entries = 14
refusal_number Trees = 15
refusal_number Mini = 16
refusal_number Streams = 17
refusal_number Owners = 18
refusal_number BadPath = 20
refusal_number NotFound = 21
refusal_number StreamOnTheWay = 22
refusal_number NotAStream = 23
refusal_number Beyond = 24
refusal_number TooFewFree = 26
refusal_number OutTooShort = 27
refusal_number NotEmpty = 28
refusal_number AlreadyThere = 29
refusal_number NoBlankEntry = 30
refusal_number RootRemoved = 31
refusal_number PlanDoesNotFit = 32
refusal_number BadEntry = 33

abbrev pub number_of : Result Unit Refusal → ℕ
number_of (Ok _) = 0
number_of (Err a) = refusal_number a
