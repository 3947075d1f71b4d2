-- The walk that adds up the listing's length.
use Prim.Native.Nat.{ℕ, ◌+◌, ◌-◌, ◌*◌, ◌≤◌, ◌<◌}
use mathlib.Core.Path.{◌≡◌, refl, ap, sym, ◌∙◌}
use mathlib.Core.List.{List, [], ◌∷◌}
use native.Mathlib.Omega.{arith}
use lib.ListN.{length, length-append}
use borrow.Author.Tests.{le-leb, lt-leb}
use Rattle.std.proofs.Common.{Option, Some, None}
use Rattle.format.specs.Basics.Bytes.{Bytes}
use Rattle.format.specs.Layout.Directory.{Directory}
use Rattle.format.specs.Layout.Tree.{forest, entries}
use Rattle.format.specs.Calls.Text.{newline, decimal}
use Rattle.format.specs.Calls.Listing.{lines, first_line, listing}
use Rattle.theory.specs.TreeViews.{whole}
use Rattle.tables.specs.Work.{Wrote}
use Rattle.entries.specs.Entry.{entry_at}
use Rattle.directory.specs.Listed.{count_of, entries_of, place_of}
use Rattle.directory.specs.declared.Directory.{Directory as Where}
use Rattle.lines.specs.Lines.{width_of, line_length}
use Rattle.listing.specs.declared.Size.{Size}
use Rattle.listing.specs.Walks.{pairs, entry_on, parent_on, turned_at, measured, measure_of}
use Rattle.listing.proofs.Walks.{Walks, walks_end, walks_room, walks_line, walks_more}

-- ---- the answer

module _ (most objects bytes : ℕ) where
  pub measured_long : most < bytes → None ≡ measured most objects bytes
  unfolding measured
  measured_long h = rw (lt-leb bytes most h)

  pub measured_fits : bytes ≤ most → Some (record { objects = objects; bytes = bytes }) ≡ measured most objects bytes
  unfolding measured
  measured_fits h = rw (le-leb bytes most h)

pub first_length : (n : ℕ) → length (first_line n) ≡ length (decimal n) + 9
unfolding first_line
first_length n = omega (arith, length-append (decimal n) (newline ∷ []))

pub listing_length : (e : Directory) → length (listing e) ≡ length (first_line (length (entries (whole e)))) + length (lines e [] (whole e))
unfolding listing forest
listing_length e = length-append (first_line (length (entries (whole e)))) (lines e [] (whole e))

-- ---- the loop

-- `objects` lines are done, which have so many bytes
pub record Measuring (d : Where) (img : Bytes) (most : ℕ) (w₀ w : List ℕ) (n objects bytes : ℕ) : Type 0 where
  pub text : Bytes
  pub done : Bytes
  pub walks : Walks d img w₀ w n objects text done
  pub sum : bytes ≡ length done
  pub within : bytes ≤ most

pub measuring_start : {d : Where} {img : Bytes} {most : ℕ} {w₀ w : List ℕ} {n : ℕ} → Walks d img w₀ w n 0 [] [] → Measuring d img most w₀ w n 0 0
measuring_start s = record { text = []; done = []; walks = s; sum = refl; within = omega arith }

module _ {d : Where} {img : Bytes} {most : ℕ} {w₀ w : List ℕ} {n objects bytes : ℕ} (m : Measuring d img most w₀ w n objects bytes) where
  abbrev e : Directory
  e = entries_of d img

  -- the end: the first line is still to be added
  pub measuring_end : n ≤ 0 → (r : Option Size) → r ≡ measured most objects (length (first_line objects) + bytes)
      → r ≡ measure_of most e
  unfolding forest
  measuring_end h r q =
      let z = walks_end m.walks h in
      let b : bytes ≡ length (lines e [] (whole e)) = m.sum ∙ ap length z.0 in
      q ∙ rw (b, z.1, listing_length e)

  -- a turn adds the line of the entry at byte i
  module _ (h : 0 < n) (i : ℕ) (q : i ≡ place_of d w (entry_on w (n - 1))) {k : ℕ} (l : k ≡ line_length (width_of d.geometry) (entry_at img i) (parent_on w (n - 1))) where
    pub measuring_long : most - bytes < k → None ≡ measure_of most e
    measuring_long b =
        measured_long most (length (entries (forest e))) (length (listing e))
        (omega (arith, m.sum, m.within, l, walks_line m.walks h i q, walks_room m.walks h, listing_length e))

    module _ (b : k ≤ most - bytes) where
      pub measuring_fits : bytes + k ≤ most
      measuring_fits = omega (arith, m.within)

      pub measuring_more : {w' : List ℕ} (n' : ℕ) → pairs w' n' ≡ turned_at e w (n - 1)
          → Wrote w w' 0 (2 * count_of d) → Measuring d img most w₀ w' n' (objects + 1) (bytes + k)
      measuring_more n' s r =
          let v = walks_more m.walks h n' s r in
          record {
            text = _;
            done = _;
            walks = v;
            sum = rw (m.sum, l, walks_line m.walks h i q) (sym (length-append m.done _));
            within = measuring_fits;
          }
