-- The walk that writes the listing.
use Prim.Native.Nat.{ℕ, ◌+◌, ◌-◌, ◌*◌, ◌≤◌, ◌<◌}
use mathlib.Core.Path.{◌≡◌, refl, ap, sym, ◌∙◌}
use mathlib.Core.List.{List, [], ◌∷◌, ◌++◌, append_assoc, append-nil}
use native.Mathlib.Omega.{arith}
use lib.ListN.{length, take, drop, length-append}
use lib.Seq.{take-length, drop-drop, take-append_seam, drop-append_seam}
use Rattle.format.specs.Basics.Bytes.{Bytes}
use Rattle.format.specs.Layout.Entry.{name}
use Rattle.format.specs.Layout.Directory.{Directory}
use Rattle.format.specs.Layout.Tree.{forest, entries}
use Rattle.format.specs.Calls.Read.{over}
use Rattle.format.specs.Calls.Text.{newline, print_name}
use Rattle.format.specs.Calls.Listing.{line, lines, first_line, listing}
use Rattle.theory.specs.TreeViews.{whole}
use Rattle.text.proofs.Over.{over_length}
use Rattle.tables.specs.Work.{Wrote}
use Rattle.entries.specs.Entry.{entry_at}
use Rattle.directory.specs.Listed.{count_of, entries_of, place_of}
use Rattle.directory.specs.declared.Directory.{Directory as Where}
use Rattle.lines.specs.Lines.{width_of, head, before, line_length, line_put}
use Rattle.listing.specs.Walks.{pairs, entry_on, parent_on, turned_at}
use Rattle.lines.proofs.LineLengths.{length_line}
use Rattle.text.proofs.Filled.{Filled, filled_behind, filled_length}
use Rattle.listing.proofs.Prints.{before_front}
use Rattle.listing.proofs.Walked.{path_of}
use Rattle.listing.proofs.Measures.{listing_length}
use Rattle.listing.proofs.Walks.{Walks, line_text_lem, walks_end, walks_room, walks_line, walks_entry, walks_parent, walks_more, path}

-- ---- the loop

-- the path of the last line stands at `from`
pub record Writing (d : Where) (img : Bytes) (objects : ℕ) (out₀ : Bytes) (w₀ w : List ℕ) (n : ℕ) (out : Bytes) (at from : ℕ) : Type 0 where
  pub count : ℕ
  pub text : Bytes
  pub done : Bytes
  pub walks : Walks d img w₀ w n count text done
  pub placed : Filled out₀ (first_line objects ++ done) out at
  pub here : take (length text) (drop from out) ≡ text
  pub behind : from + length text ≤ at

-- what is written twice
over_twice : (a b out : Bytes) → over (a ++ b) (over a out) ≡ over (a ++ b) out
unfolding over
over_twice a b out =
    rw (length-append a b, ← drop-drop (length b) (length a) (a ++ drop (length a) out), drop-append_seam a (drop (length a) out), drop-drop (length b) (length a) out)

pub writing_start : {d : Where} {img : Bytes} {objects : ℕ} (out₀ : Bytes) {out : Bytes} {w : List ℕ} {n at : ℕ} → Walks d img w w n 0 [] []
    → at ≡ length (first_line objects) → out ≡ over (first_line objects) out₀ → length (first_line objects) ≤ length out
    → Writing d img objects out w w n out at 0
writing_start {objects = objects} out₀ {out = out} s e q h =
    let a = first_line objects in
    let z = append-nil a in
    record {
      count = 0;
      text = [];
      done = [];
      walks = s;
      placed = record {
        bytes = q ∙ ap (λ (b : Bytes). over b out₀) (sym z) ∙ sym (over_twice a [] out₀) ∙ ap (over (a ++ [])) (sym q);
        count = rw z e;
        room = omega (arith, e);
      };
      here = refl;
      behind = omega arith;
    }

-- there is room for the first line, which leaves the buffer as long as it was
module _ (e : Directory) (out : Bytes) {objects : ℕ} (o : objects ≡ length (entries (forest e))) (room : length (listing e) ≤ length out) where
  pub first_room : length (first_line objects) ≤ length out
  unfolding forest
  first_room = rw o (omega (arith, room, listing_length e))

  pub room_kept : {out' : Bytes} → out' ≡ over (first_line objects) out → length (listing e) ≤ length out'
  room_kept q = rw (q, over_length (first_line objects) out first_room) room

-- a path in its line, behind what was written before
path_here : (d : Where) (img : Bytes) (x : ℕ) (a t rest : Bytes)
    → take (length t) (drop (length a + length (head (width_of d.geometry) ((entries_of d img).entry x))) ((a ++ line (entries_of d img) x t) ++ rest)) ≡ t
path_here d img x a t rest =
    let h = head (width_of d.geometry) ((entries_of d img).entry x) in
    let f = a ++ h in
    let b = (newline ∷ []) ++ rest in
    let s : (a ++ line (entries_of d img) x t) ++ rest ≡ f ++ (t ++ b) = rw (line_text_lem d img x t) (simp append_assoc) in
    let l : length a + length h ≡ length f = sym (length-append a h) in
    rw (s, l, drop-append_seam f (t ++ b)) (take-append_seam t b)

module _ {d : Where} {img : Bytes} {objects : ℕ} {out₀ : Bytes} {w₀ w : List ℕ} {n : ℕ} {out : Bytes} {at from : ℕ}
    (m : Writing d img objects out₀ w₀ w n out at from)
    (o : objects ≡ length (entries (forest (entries_of d img)))) (room : length (listing (entries_of d img)) ≤ length out₀) where
  abbrev e : Directory
  e = entries_of d img

  whole_is : listing e ≡ first_line objects ++ lines e [] (whole e)
  unfolding listing forest
  whole_is = rw o

  -- the end, where the first line was written over `out₁`
  pub writing_end : n ≤ 0 → (out₁ : Bytes) → out₀ ≡ over (first_line objects) out₁ → out ≡ over (listing e) out₁
  writing_end h out₁ q = m.placed.bytes ∙ rw ((walks_end m.walks h).0, whole_is, q) (over_twice (first_line objects) (lines e [] (whole e)) out₁)

  -- a turn writes the line of the entry at byte i
  module _ (h : 0 < n) (i : ℕ) (q : i ≡ place_of d w (entry_on w (n - 1))) where
    abbrev x : ℕ
    x = entry_on w (n - 1)

    abbrev p : ℕ
    p = parent_on w (n - 1)

    pub line_behind : from + p ≤ at
    line_behind = omega (arith, m.behind, walks_parent m.walks h)

    all_room : at + length (line e x (path m.walks h)) ≤ length out₀
    all_room =
        omega (arith, room, ap length whole_is, length-append (first_line objects) (lines e [] (whole e)), length-append (first_line objects) m.done, m.placed.count, walks_room m.walks h)

    pub line_fits : at + line_length (width_of d.geometry) (entry_at img i) p ≤ length out
    line_fits = omega (arith, all_room, walks_line m.walks h i q, filled_length m.placed)

    -- the parent's path is read from the last line's
    text_here : before p (drop from out) ++ print_name (name (entry_at img i)) ≡ path m.walks h
    unfolding path_of
    text_here =
        rw (walks_entry m.walks h i q, before_front p (length m.text) (drop from out) m.text (walks_parent m.walks h) (m.here ∙ sym (take-length m.text)))

    module _ {out' : Bytes} {from' : ℕ} (ef : from' ≡ at + length (head (width_of d.geometry) (entry_at img i)))
        (eo : out' ≡ line_put (width_of d.geometry) (entry_at img i) at from p out)
        {k : ℕ} (ek : k ≡ line_length (width_of d.geometry) (entry_at img i) p) where
      abbrev l : Bytes
      l = line e x (path m.walks h)

      kl : k ≡ length l
      kl = ek ∙ walks_line m.walks h i q

      line_placed : Filled out₀ ((first_line objects ++ m.done) ++ l) out' (at + k)
      line_placed =
          filled_behind m.placed l all_room kl
          (eo ∙ rw (text_here, ← ek, walks_entry m.walks h i q, line_text_lem d img x (path m.walks h)))

      pub writing_more : {w' : List ℕ} (n' : ℕ) → pairs w' n' ≡ turned_at e w (n - 1) → Wrote w w' 0 (2 * count_of d)
          → Writing d img objects out₀ w₀ w' n' out' (at + k) from'
      unfolding over
      writing_more n' s r =
          let v = walks_more m.walks h n' s r in
          let a = first_line objects ++ m.done in
          let f : from' ≡ length a + length (head (width_of d.geometry) (e.entry x)) = rw (← m.placed.count, ← walks_entry m.walks h i q) ef in
          record {
            count = _;
            text = path m.walks h;
            done = m.done ++ l;
            walks = v;
            placed = rw (← append_assoc (first_line objects) m.done l) line_placed;
            here = rw (line_placed.bytes, f) (path_here d img x a (path m.walks h) (drop (length (a ++ l)) out₀));
            behind = omega (arith, f, kl, m.placed.count, ap length (line_text_lem d img x (path m.walks h)), length_line (width_of d.geometry) (e.entry x) (path m.walks h));
          }
