-- The claim about repairs on one image that is not accepted: a mini cell from K on, one that nobody owns, and a red entry.
use Rattle.std.specs.Prelude.{ℕ, ◌≡◌, refl, List, replicate}
use Rattle.std.proofs.Common.{ap}
use Rattle.format.specs.Basics.Bytes.{Bytes, put32}
use Rattle.format.specs.Layout.Chain.{END}
use Rattle.format.specs.Rules.Version.{version_of}
use Rattle.format.specs.Rules.Verdict.{groups}
use Rattle.format.specs.Calls.Reply.{counted}
use Rattle.format.specs.Calls.Repair.{repair_reply, image_repaired}
use Rattle.format.specs.Claims.Repair.{Repaired}
use Rattle.format_tests.specs.Opened.{opened}
use Rattle.format_tests.specs.Images.{site, mini_cell, built}
use Rattle.repair_laws.proofs.Repairs.{repair_claim}

unfoldable damaged : Bytes
damaged = put32 (put32 site (mini_cell 8) END) (mini_cell 3) END

unfoldable spare : Bytes
spare = replicate 3072 7

unfoldable work : List ℕ
work = replicate 78 9

not_accepted : groups (version_of damaged) damaged ≡ 16
unfolding opened built damaged
not_accepted = refl

three_differ : repair_reply damaged spare work ≡ counted 3
unfolding opened built damaged spare work
three_differ = refl

answered : (repair_reply damaged spare work).number ≡ 0
unfolding counted
answered = ap (λ r. r.number) three_differ

-- accepted, and what the directory named is what it names
repaired : Repaired damaged (image_repaired damaged spare work)
repaired = (repair_claim damaged spare work).outcome answered
