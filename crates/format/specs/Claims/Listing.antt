-- W-214: a listing can be trusted. Everything here is said of the bytes that a listing call hands over, read back.
use Rattle.std.specs.Prelude.{ℕ, ◌≤◌, ◌≡◌, ◌↔◌, ◌⊎◌, Bool, true, false, not, ◌&&◌, ◌||◌, List, [], ◌∷◌, map, eqb, length, take}
use Rattle.format.specs.Basics.Lists.{all, any, bit, count}
use Rattle.format.specs.Basics.Bytes.{Bytes}
use Rattle.format.specs.Layout.Name.{Name}
use Rattle.format.specs.Layout.PathOrder.{same_path}
use Rattle.format.specs.Layout.Directory.{Directory}
use Rattle.format.specs.Layout.Volume.{volume}
use Rattle.format.specs.Layout.Objects.{Object, objects_of, path_of}
use Rattle.format.specs.Rules.Length.{work_need}
use Rattle.format.specs.Rules.Version.{version_of}
use Rattle.format.specs.Rules.Trees.{is_object}
use Rattle.format.specs.Rules.Verdict.{Accepted}
use Rattle.format.specs.Calls.Paths.{Path, names, joined, well_formed}
use Rattle.format.specs.Calls.Listing.{listing}
use Rattle.format.specs.Calls.Call.{find, list}
use Rattle.format.specs.Calls.Reply.{Reply, reply}
use Rattle.format.specs.Calls.Buffers.{out_after}
use Rattle.format.specs.History.Event.{Event, after}
use Rattle.format.specs.Claims.PathOrder.{rising, none_twice}
use Rattle.format.specs.Claims.ListingText.{announced, read_listing}

-- ---- the calls

-- the image's directory, by its own version
abbrev pub directory_in : Bytes → Directory
directory_in img = (volume (version_of img) img).directory

abbrev pub EnoughWork : Bytes → List ℕ → Type 0
EnoughWork img work = work_need (length img) ≤ length work

abbrev pub EnoughOut : Bytes → Bytes → Type 0
EnoughOut img out = length (listing (directory_in img)) ≤ length out

-- the bytes that a listing call writes: as many as it says, at the front of the out buffer
unfoldable pub listed : Bytes → (out : Bytes) → (work : List ℕ) → Bytes
listed img out work = take (reply img (list out work)).count (out_after img (list out work))

-- the entry that a find gives for an object's path
unfoldable pub entry_found : Bytes → (work : List ℕ) → Object → ℕ
entry_found img work o = (reply img (find (joined o.path) work)).entry

-- ---- what is found, by what is listed

-- the names equal those of the object's path
unfoldable pub is_named : List Name → Object → Bool
is_named ns o = same_path ns o.path

-- they are none, which is the root's path, or those of a listed object
unfoldable pub is_known : List Object → List Name → Bool
is_known os [] = true
is_known os (n ∷ ns) = any (is_named (n ∷ ns)) os

-- an object of these names has the type and the size of a find's reply
unfoldable pub agrees : Reply → List Name → Object → Bool
agrees r ns o = not (is_named ns o) || (eqb r.type o.type && eqb r.size o.size)

-- the reply of a find of this path, where these objects are listed
pub record FoundBy (os : List Object) (p : Path) (r : Reply) : Type 0 where
  -- found is the root, and what equals a listed path as names; nothing else
  pub exactly : (r.number ≡ 0) ↔ (is_known os (names p) ≡ true)
  -- with the type and size that are listed
  pub same : all (agrees r (names p)) os ≡ true
  -- any other well-formed path is answered 21 or 22
  pub other : well_formed p ≡ true → is_known os (names p) ≡ false → (r.number ≡ 21) ⊎ (r.number ≡ 22)

-- ---- the claim

-- what holds of a listing's text and the image that it was made of
pub record Trusted (img text : Bytes) : Type 0 where
  -- read back, it gives the image's objects, as many as its first line says
  pub objects : read_listing text ≡ objects_of (directory_in img)
  pub number : announced text ≡ length (read_listing text)
  -- their paths lead to the entries of type 1 and 2, to each exactly once, and to no other
  pub once : (work : List ℕ) → EnoughWork img work
      → (x : ℕ) → count x (map (entry_found img work) (read_listing text)) ≡ bit (is_object (directory_in img) x)
  -- the paths rise strictly, and no two are equal as names
  pub order : rising (map path_of (read_listing text)) ≡ true
  pub apart : none_twice (map path_of (read_listing text)) ≡ true
  -- a path is found exactly if it is the root's or a listed one's
  pub found : (p : Path) (work : List ℕ) → EnoughWork img work → FoundBy (read_listing text) p (reply img (find p work))

-- an accepted image is listed, and what is handed over can be trusted
abbrev pub ListsTrusted : Bytes → Type 0
ListsTrusted img =
    (out : Bytes) (work : List ℕ) → EnoughWork img work → EnoughOut img out
    → ((reply img (list out work)).number ≡ 0) × Trusted img (listed img out work)

-- W-214
abbrev pub ListingTrusted : Type 0
ListingTrusted = (img : Bytes) → Accepted (version_of img) img → ListsTrusted img

-- and the same after any list of calls, fresh images and repairs
abbrev pub ListingTrustedAfter : Type 0
ListingTrustedAfter = (img : Bytes) (events : List Event) → Accepted (version_of img) img → ListsTrusted (after img events)
