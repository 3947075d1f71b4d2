-- The claim about listings on one image, also after any list of calls and fresh images; and what it says there, computed.
use Rattle.std.specs.Prelude.{ℕ, ◌≡◌, refl, ◌⊎◌, true, List, [], ◌∷◌, map, length, replicate}
use Rattle.std.proofs.Common.{sym, ap, ◌∙◌, leb-true}
use Rattle.format.specs.Basics.Bytes.{Bytes}
use Rattle.format.specs.Basics.Lists.{count, all}
use Rattle.format.specs.Layout.Objects.{Object, objects_of, path_of}
use Rattle.format.specs.Rules.Length.{work_need}
use Rattle.format.specs.Calls.Paths.{names}
use Rattle.format.specs.Calls.Listing.{listing}
use Rattle.format.specs.Calls.Call.{find, list}
use Rattle.format.specs.Calls.Reply.{reply}
use Rattle.format.specs.History.Event.{Event, after}
use Rattle.format.specs.Claims.ListingText.{read_listing}
use Rattle.format.specs.Claims.PathOrder.{rising}
use Rattle.format.specs.Claims.Listing.{directory_in, EnoughWork, EnoughOut, listed, entry_found, is_known, agrees, Trusted, ListsTrusted}
use Rattle.format_tests.specs.Opened.{opened}
use Rattle.format_tests.specs.Images.{Site, log, LOG, Jets, gone, below, small_and_large, built}
use Rattle.history_tests.specs.Witness.{accepted}
use Rattle.listing_laws.proofs.Trusted.{listing_trusted, listing_trusted_after}

unfoldable work : List ℕ
work = replicate 182 7

unfoldable out : Bytes
out = replicate 60 7

enough_work : EnoughWork small_and_large work
unfolding opened built work
enough_work = leb-true (work_need (length small_and_large)) (length work) refl

enough_out : EnoughOut small_and_large out
unfolding opened built out
enough_out = leb-true (length (listing (directory_in small_and_large))) (length out) refl

applies : ((reply small_and_large (list out work)).number ≡ 0) × Trusted small_and_large (listed small_and_large out work)
applies = listing_trusted small_and_large accepted out work enough_work enough_out

applies_after : (events : List Event) → ListsTrusted (after small_and_large events)
applies_after events = listing_trusted_after small_and_large events accepted

-- ---- what it says

abbrev objects : List Object
objects =
    record { type = 1; size = 0; path = Site ∷ [] }
    ∷ record { type = 2; size = 4096; path = Site ∷ log ∷ [] }
    ∷ record { type = 2; size = 10; path = Site ∷ Jets ∷ [] }
    ∷ []

the_objects : objects_of (directory_in small_and_large) ≡ objects
unfolding opened built
the_objects = refl

read_back : read_listing (listed small_and_large out work) ≡ objects
read_back = applies.1.objects ∙ the_objects

-- entry 3, which is `Jets`, is found once by the listed paths; entry 0, the root, never
jets_once : count 3 (map (entry_found small_and_large work) objects) ≡ 1
unfolding opened built
jets_once = ap (λ os. count 3 (map (entry_found small_and_large work) os)) (sym read_back) ∙ applies.1.once work enough_work 3

root_never : count 0 (map (entry_found small_and_large work) objects) ≡ 0
unfolding opened built
root_never = ap (λ os. count 0 (map (entry_found small_and_large work) os)) (sym read_back) ∙ applies.1.once work enough_work 0

rises : rising (map path_of objects) ≡ true
rises = ap (λ os. rising (map path_of os)) (sym read_back) ∙ applies.1.order

-- by other letters it is found, with the listed size; another name is not found
LOG_found : (reply small_and_large (find (below Site LOG) work)).number ≡ 0
unfolding opened built
LOG_found = (applies.1.found (below Site LOG) work enough_work).exactly.1 (ap (λ os. is_known os (names (below Site LOG))) read_back)

LOG_agrees : all (agrees (reply small_and_large (find (below Site LOG) work)) (names (below Site LOG))) objects ≡ true
LOG_agrees =
    ap (all (agrees (reply small_and_large (find (below Site LOG) work)) (names (below Site LOG)))) (sym read_back)
    ∙ (applies.1.found (below Site LOG) work enough_work).same

gone_refused : ((reply small_and_large (find (below Site gone) work)).number ≡ 21) ⊎ ((reply small_and_large (find (below Site gone) work)).number ≡ 22)
unfolding opened built
gone_refused = (applies.1.found (below Site gone) work enough_work).other refl (ap (λ os. is_known os (names (below Site gone))) read_back)
