-- The reply that an answer of the code stands for: 01's number, and its value.
use Rattle.std.specs.Prelude.{ℕ, Result, Ok, Err}
use Rattle.format.specs.Calls.Reply.{Reply, plain, counted}
use Rattle.kinds.specs.Numbers.{refusal_number}
use Rattle.kinds.specs.declared.Refusal.{Refusal}

abbrev pub repair_reply_of : Result ℕ Refusal → Reply
repair_reply_of (Ok n) = counted n
repair_reply_of (Err a) = plain (refusal_number a)
