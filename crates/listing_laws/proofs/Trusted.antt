-- W-214: the bytes that a listing call hands over can be trusted, of every accepted image and after every list of calls.
use Prim.Native.Nat.{ℕ, ◌≤◌}
use mathlib.Core.Path.{◌≡◌, refl, sym, ap, ap₂, ◌∙◌, subst}
use mathlib.Core.Bool.{true, false}
use mathlib.Core.List.{List, [], map}
use native.Mathlib.Omega.{arith}
use native.Mathlib.Decide.{dec_lt}
use lib.ListN.{length, take, length-map}
use lib.Seq.{take_at}
use borrow.Author.Tests.{le-ltb, le-leb}
use Rattle.format.specs.Basics.Bytes.{Bytes, byte_at}
use Rattle.format.specs.Basics.Lists.{bit, count}
use Rattle.format.specs.Layout.Geometry.{Geometry}
use Rattle.format.specs.Layout.Entry.{kind}
use Rattle.format.specs.Layout.Directory.{Directory, directory_of, entry_in}
use Rattle.format.specs.Layout.Tree.{forest, entries}
use Rattle.format.specs.Layout.Volume.{Volume, volume, directory}
use Rattle.format.specs.Layout.Objects.{objects_of, path_of}
use Rattle.format.specs.Rules.Length.{work_need}
use Rattle.format.specs.Rules.Version.{version_of}
use Rattle.format.specs.Rules.Trees.{is_object}
use Rattle.format.specs.Rules.Verdict.{Accepted}
use Rattle.format.specs.Calls.Read.{over}
use Rattle.format.specs.Calls.Listing.{listing}
use Rattle.format.specs.Calls.Call.{find, list, work_of}
use Rattle.format.specs.Calls.Answer.{first_of, answer_in, answer}
use Rattle.format.specs.Calls.Reply.{counted, done, on_zero, reply_by, reply}
use Rattle.format.specs.Calls.Buffers.{handed_out, out_after_by, out_after}
use Rattle.format.specs.History.State.{state_of}
use Rattle.format.specs.History.Event.{after, state_after}
use Rattle.format.specs.Claims.PathOrder.{rising}
use Rattle.format.specs.Claims.ListingText.{announced, read_listing}
use Rattle.format.specs.Claims.Listing.{listed, entry_found, FoundBy, Trusted, ListingTrusted, ListingTrustedAfter}
use Rattle.theory.proofs.Trees.PathsRise.{object_paths, paths_rise, rising_apart}
use Rattle.frame.specs.Good.{Good}
use Rattle.frame.proofs.Final.{frame, own_sized}
use Rattle.frame.proofs.Accepted.{verdict_accepted}
use Rattle.frame.proofs.Good.{accepted_good}
use Rattle.frame.proofs.EntryFacts.{root_plain_lem}
use Rattle.history.proofs.Filled.{Sized as SizedUnits, frame_sized}
use Rattle.history.proofs.Counting.{inside_forest, reached}
use Rattle.history.proofs.Paths.{Findable}
use Rattle.history.proofs.Finding.{findable}
use Rattle.history.proofs.Demand3.{demand3}
use Rattle.history.proofs.OwnVersion.{own_accepted}
use Rattle.listing_laws.specs.Leads.{AllLed}
use Rattle.listing_laws.proofs.ListingBack.{listing_back, announced_back}
use Rattle.listing_laws.proofs.Leads.{objects_led, led_map}
use Rattle.listing_laws.proofs.Finds.{entry_found_lem, found_by}
use Rattle.listing_laws.proofs.Printables.{objects_printable, objects_few}

-- a number past the directory is no entry
past_none : (g : Geometry) (img : Bytes) (x : ℕ) → (volume g img).directory.count ≤ x → is_object (volume g img).directory x ≡ false
unfolding volume directory directory_of entry_in kind byte_at
past_none g img x h = rw (le-ltb x (volume g img).directory.count h)

module _ (img : Bytes) (acc : Accepted (version_of img) img) where
  abbrev v : Volume
  v = volume (version_of img) img

  abbrev d : Directory
  d = v.directory

  good : Good v
  good = accepted_good (version_of img) img (let w = (own_sized img).wide in omega arith) acc

  sized : SizedUnits v img
  sized = frame_sized (frame (version_of img) (own_sized img)) img acc

  findable_now : Findable d
  findable_now = findable v img good sized (root_plain_lem (version_of img) img good)

  led : AllLed d (objects_of d) (entries (forest d))
  led = objects_led d findable_now

  -- ---- the entries, and the paths

  once_each : (x : ℕ) → count x (entries (forest d)) ≡ bit (is_object d x)
  once_each x =
      elim (dec_lt x d.count) [
        | yes h ↦ reached v img good sized x h
        | no h ↦
            elim (dec_lt 0 (count x (entries (forest d)))) [
              | yes k ↦ absurd (h (inside_forest v img good sized x k))
              | no k ↦ rw (past_none (version_of img) img x (omega arith)) (omega arith)
            ]
      ]

  entries_found : (work : List ℕ) → work_need (length img) ≤ length work → map (entry_found img work) (objects_of d) ≡ entries (forest d)
  unfolding entry_found
  entries_found work enough = led_map d (entry_found img work) (entry_found_lem (version_of img) img acc work enough) (objects_of d) (entries (forest d)) led

  paths_rising : rising (map path_of (objects_of d)) ≡ true
  unfolding objects_of
  paths_rising = ap rising (object_paths d [] (forest d)) ∙ paths_rise d [] (forest d) findable_now.ordered

  -- ---- the call

  module _ (out : Bytes) (work : List ℕ) (enough : work_need (length img) ≤ length work) (room : length (listing d) ≤ length out) where
    answer_is : answer (version_of img) img (list out work) ≡ 0
    unfolding answer answer_in work_of first_of
    answer_is =
        rw (verdict_accepted (version_of img) img (length work) acc, le-leb (work_need (length img)) (length work) enough, le-ltb (length out) (length (listing d)) room)

    reply_is : reply img (list out work) ≡ counted (length (listing d))
    unfolding reply_by on_zero done
    reply_is = rw answer_is

    out_is : out_after img (list out work) ≡ over (listing d) out
    unfolding out_after_by on_zero handed_out
    out_is = rw answer_is

    text_is : listed img out work ≡ listing d
    unfolding listed over counted
    text_is = ap₂ (λ r o. take r.count o) reply_is out_is ∙ take_at (listing d) _ (length (listing d)) refl

    -- ---- read back

    objects_are : read_listing (listed img out work) ≡ objects_of d
    objects_are =
        ap read_listing text_is
        ∙ listing_back d (objects_printable (version_of img) (own_sized img) img acc good once_each (inside_forest v img good sized) findable_now.legal)

    announced_is : announced (listed img out work) ≡ length (read_listing (listed img out work))
    announced_is =
        ap announced text_is ∙ announced_back d (objects_few (version_of img) (own_sized img) img acc good once_each (inside_forest v img good sized))
        ∙ sym (ap length objects_are ∙ sym (length-map (objects_of d) (entry_found img work)) ∙ ap length (entries_found work enough))

    order_is : rising (map path_of (read_listing (listed img out work))) ≡ true
    order_is = ap (λ os. rising (map path_of os)) objects_are ∙ paths_rising

    pub trusted : Trusted img (listed img out work)
    trusted =
        record {
          objects = objects_are;
          number = announced_is;
          once = λ w k x. ap (λ os. count x (map (entry_found img w) os)) objects_are ∙ ap (count x) (entries_found w k) ∙ once_each x;
          order = order_is;
          apart = rising_apart (map path_of (read_listing (listed img out work))) order_is;
          found = λ p w k. subst (λ os. FoundBy os p (reply img (find p w))) (sym objects_are) (found_by (version_of img) img acc w k led p);
        }

    pub answers_zero_lem : (reply img (list out work)).number ≡ 0
    unfolding counted
    answers_zero_lem = ap (λ r. r.number) reply_is

-- ---- the claim

pub listing_trusted : ListingTrusted
listing_trusted img acc out work enough room = (answers_zero_lem img acc out work enough room, trusted img acc out work enough room)

-- the events of a list leave an accepted image
pub listing_trusted_after : ListingTrustedAfter
listing_trusted_after img events acc =
    listing_trusted (after img events) (own_accepted (after img events) (state_after (state_of img) events) (demand3 img events acc))
