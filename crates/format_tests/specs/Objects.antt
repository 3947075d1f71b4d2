-- A listing read back, the objects, and the order of their paths (W-214).
use Rattle.std.specs.Prelude.{◌≡◌, refl, true, false, List, [], ◌∷◌, map, replicate}
use Rattle.format.specs.Layout.Geometry.{version3}
use Rattle.format.specs.Layout.Volume.{directory}
use Rattle.format.specs.Layout.Objects.{Object, objects_of, path_of}
use Rattle.format.specs.Layout.PathOrder.{path_less}
use Rattle.format.specs.Calls.Paths.{joined}
use Rattle.format.specs.Calls.Text.{print_name}
use Rattle.format.specs.Calls.Listing.{listing}
use Rattle.format.specs.Claims.ListingText.{announced, read_listing, read_name}
use Rattle.format.specs.Claims.PathOrder.{rising, none_twice}
use Rattle.format.specs.Claims.Listing.{is_known, listed}
use Rattle.format_tests.specs.Opened.{opened}
use Rattle.format_tests.specs.Images.{Site, log, LOG, Jets, gone, below, bare, site, three_siblings, built}

abbrev site_objects : List Object
site_objects =
    record { type = 1; size = 0; path = Site ∷ [] }
    ∷ record { type = 2; size = 70; path = Site ∷ log ∷ [] }
    ∷ record { type = 2; size = 10; path = Site ∷ Jets ∷ [] }
    ∷ []

site_objects_lem : objects_of (directory version3 site) ≡ site_objects
unfolding opened built
site_objects_lem = refl

site_read_back : read_listing (listing (directory version3 site)) ≡ site_objects
unfolding opened built
site_read_back = refl

site_announced : announced (listing (directory version3 site)) ≡ 3
unfolding opened built
site_announced = refl

-- the bytes that a call hands over; the two past them are not looked at
bare_read_back : map path_of (read_listing (listed bare (replicate 48 1) (replicate 39 0))) ≡ (Site ∷ []) ∷ (Site ∷ log ∷ []) ∷ (Site ∷ Jets ∷ []) ∷ []
unfolding opened built
bare_read_back = refl

-- a space, units that do not print, and the greatest unit
odd_name_read_back : read_name (print_name (0x41 ∷ 0x20 ∷ 0x0A ∷ 0x7F ∷ 0xFFFF ∷ 0x12AF ∷ [])) ≡ 0x41 ∷ 0x20 ∷ 0x0A ∷ 0x7F ∷ 0xFFFF ∷ 0x12AF ∷ []
unfolding opened built
odd_name_read_back = refl

site_rises : rising (map path_of (objects_of (directory version3 site))) ≡ true
unfolding opened built
site_rises = refl

-- `d` stands before `c`, though each entry is in order with its neighbours
whole_side_does_not_rise : rising (map path_of (objects_of (directory version3 (three_siblings 0x64)))) ≡ false
unfolding opened built
whole_side_does_not_rise = refl

-- a storage comes before what is below it, and what is below it before its next sibling; the shorter name comes first, whatever its letters
storage_first : path_less (Site ∷ []) (Site ∷ log ∷ []) ≡ true
unfolding opened built
storage_first = refl

below_before_sibling : path_less (log ∷ Site ∷ []) (Jets ∷ []) ≡ true
unfolding opened built
below_before_sibling = refl

equal_paths : none_twice ((Site ∷ log ∷ []) ∷ (Site ∷ LOG ∷ []) ∷ []) ≡ false
unfolding opened built
equal_paths = refl

joined_path : joined (Site ∷ log ∷ []) ≡ below Site log
unfolding opened built
joined_path = refl

-- known are the root, and what is listed, in small letters and in capitals
root_known : is_known [] [] ≡ true
unfolding opened built
root_known = refl

known_with_other_letters : is_known site_objects (Site ∷ LOG ∷ []) ≡ true
unfolding opened built
known_with_other_letters = refl

not_known : is_known site_objects (Site ∷ gone ∷ []) ≡ false
unfolding opened built
not_known = refl
