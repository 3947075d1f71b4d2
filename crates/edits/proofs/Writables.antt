-- Units that stand listed at the start of the work buffer can be written, and what is written by the lists is what the space says.
use Prim.Native.Nat.{ℕ, ◌+◌, ◌*◌, ◌≤◌, ◌<◌}
use mathlib.Core.Path.{◌≡◌, subst}
use mathlib.Core.List.{List}
use native.Mathlib.Omega.{arith}
use lib.ListN.{length, get_or, take}
use lib.Seq.{length-take-le, get_or-take}
use Rattle.format.specs.Basics.Lists.{count}
use Rattle.format.specs.Basics.Bytes.{Bytes}
use Rattle.format.specs.Calls.Overwrite.{put_chain}
use Rattle.theory.proofs.Counts.{count_at}
use Rattle.volume.specs.Opened.{Readied}
use Rattle.volume.specs.declared.Volume.{Volume as Opened}
use Rattle.spaces.specs.Spaces.{space_at, unit_bytes, listed_space}
use Rattle.spaces.specs.declared.Kind.{Kind}
use Rattle.spaces.proofs.Listed.{unit_same, units_stand, cell_listed, cell_place_lem, cell_inside, unit_listed, unit_place_lem}
use Rattle.writes.specs.Writable.{Writable}
use Rattle.edits.specs.Rewritten.{rewritten}
use Rattle.edits.proofs.SamePlaces.{put_same, rewritten_same}

module _ {v : Opened} {img : Bytes} {work : List ℕ} (r : Readied v img work) (k : Kind) where
  unit_some : 0 < unit_bytes v k
  unit_some = rw (unit_same r k) (units_stand r k).some

  module _ (n : ℕ) (l : n ≤ length work) (b : (u : ℕ) → 0 < count u (take n work) → u < (space_at v img k).limit) where
    unit_below : (j : ℕ) → j < n → get_or work j 0 < (space_at v img k).limit
    unit_below j h = b (get_or work j 0) (subst (λ u. 0 < count u (take n work)) (get_or-take n work j 0 h) (count_at (take n work) j 0 (rw (length-take-le n work l) h)))

    pub writable : Writable v work k (length img) n
    writable =
        record {
          room = l;
          short = omega (arith, r.lists.mini.fat.sized.short);
          some = unit_some;
          cells = λ j h. cell_listed r k (get_or work j 0) (unit_below j h);
          cell_room = λ j h. rw (cell_place_lem r k (get_or work j 0) (unit_below j h)) (cell_inside r k (get_or work j 0) (unit_below j h));
          units = λ j h. unit_listed r k (get_or work j 0) (unit_below j h);
          unit_room = λ j h. rw (unit_place_lem r k (get_or work j 0) (unit_below j h), unit_same r k) ((units_stand r k).room (get_or work j 0) (unit_below j h));
        }

  module _ (us : List ℕ) (b : (u : ℕ) → 0 < count u us → u < (space_at v img k).limit) where
    pub put_listed : (offset : ℕ) (xs : Bytes) → offset + length xs ≤ length us * (space_at v img k).unit
        → put_chain (listed_space v work k) us img offset xs ≡ put_chain (space_at v img k) us img offset xs
    put_listed offset xs h =
        put_same (listed_space v work k) (space_at v img k) (unit_same r k) (units_stand r k).some us (λ u q. unit_place_lem r k u (b u q)) img offset xs h

    pub rewritten_listed : (place : ℕ) (old : List ℕ) (size n : ℕ) → ((u : ℕ) → 0 < count u old → u < (space_at v img k).limit)
        → (size < n → size ≤ length us * (space_at v img k).unit)
        → rewritten (listed_space v work k) place old us size n img ≡ rewritten (space_at v img k) place old us size n img
    rewritten_listed place old size n c h =
        rewritten_same (listed_space v work k) (space_at v img k) (unit_same r k) (units_stand r k).some us (λ u q. unit_place_lem r k u (b u q)) place old size n img
        (λ u q. cell_place_lem r k u (c u q)) (λ u q. cell_place_lem r k u (b u q)) h
