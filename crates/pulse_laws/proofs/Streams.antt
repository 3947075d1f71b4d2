-- The stream that the calls on pulses speak of is the row that its path means in the state of demand 3.
use Prim.Native.Nat.{ℕ, zero, suc, ◌≤◌}
use mathlib.Core.Path.{◌≡◌, refl, sym, ap, ◌∙◌}
use mathlib.Core.Bool.{Bool, true, false, cond}
use mathlib.Core.List.{List, [], ◌∷◌, ◌++◌}
use native.Mathlib.Omega.{arith}
use lib.ListN.{length}
use Rattle.format.specs.Basics.Bytes.{Bytes, part, AreBytes}
use Rattle.format.specs.Layout.Name.{Name}
use Rattle.format.specs.Layout.Entry.{is_stream}
use Rattle.format.specs.Layout.Directory.{Directory}
use Rattle.format.specs.Layout.Geometry.{Geometry}
use Rattle.format.specs.Layout.Space.{Space, block, laid}
use Rattle.format.specs.Layout.Tree.{Forest, forest}
use Rattle.format.specs.Layout.Volume.{Volume}
use Rattle.format.specs.Layout.Stream.{space_for, stream_size, stream_units, contents}
use Rattle.format.specs.Rules.Version.{version_of, own_volume}
use Rattle.format.specs.Rules.Verdict.{Accepted}
use Rattle.format.specs.Calls.Paths.{Path, names, well_formed}
use Rattle.format.specs.Calls.Find.{Found, at, refused, descend, resolve, need_stream, resolve_stream, answer_of, entry_of}
use Rattle.format.specs.Calls.Answer.{target, target_answer}
use Rattle.format.specs.History.Rows.{rows_in, rows_of, has_row}
use Rattle.format.specs.History.State.{state_in, state_of}
use Rattle.theory.specs.TreeViews.{whole}
use Rattle.theory.specs.TreeFind.{reached}
use Rattle.theory.specs.TreeObjects.{objects, meant, found_entries}
use Rattle.theory.proofs.ByteTests.{octets_part}
use Rattle.theory.proofs.Tests.{clash}
use Rattle.theory.proofs.Refusals.{RefusedLow, resolve_stream_low, found_refused}
use Rattle.theory.proofs.Trees.Paths.{resolve_formed, resolve_malformed}
use Rattle.theory.proofs.Trees.Found.{found_some}
use Rattle.theory.proofs.Trees.Rows.{rows_objects}
use Rattle.frame.specs.Good.{Good}
use Rattle.frame.proofs.Final.{frame, own_sized}
use Rattle.frame.proofs.Good.{accepted_good}
use Rattle.frame.proofs.Bounds.{stream_short}
use Rattle.frame.proofs.EntryFacts.{root_plain_lem, good_searched}
use Rattle.history.proofs.Filled.{Sized, frame_sized, length_contents}
use Rattle.history.proofs.Finding.{refused_has_no_row, has_row_lem, is_stream_lem, is_inside}
use Rattle.pulse_laws.specs.Calls.{contents_at}
use Rattle.pulse_laws.proofs.RowBytes.{row_bytes, meant_bytes}

-- ---- the path's names

-- a stream that is needed and found is what was found
needed : (d : Directory) (f : Found) (e : ℕ) (b : Forest) → need_stream d f ≡ at e b → f ≡ at e b
unfolding need_stream
needed d (refused a) e b h = absurd (found_refused e b a (sym h))
needed d (at x c) e b h = go (is_stream (d.entry x)) h
  where
    go : (t : Bool) → cond t (at x c) (refused 23) ≡ at e b → at x c ≡ at e b
    go true k = k
    go false k = absurd (found_refused e b 23 (sym k))

by_names : (d : Directory) (p : Path) (e : ℕ) (b : Forest) → resolve_stream d p ≡ at e b → descend d (reached d 0) (names p) ≡ at e b
unfolding resolve_stream
by_names d p e b h = go (well_formed p) refl
  where
    go : (t : Bool) → well_formed p ≡ t → descend d (reached d 0) (names p) ≡ at e b
    go true w = sym (resolve_formed d p w) ∙ needed d (resolve d p) e b h
    go false w = absurd (found_refused e b 20 (sym (needed d (resolve d p) e b h) ∙ resolve_malformed d p w))

-- ---- an accepted image

-- a path that leads to a stream: it is no longer than an image may be, and its bytes are those of the row that the path means
pub record StreamMeant (img : Bytes) (p : Path) : Type 0 where
  pub found : target_answer (own_volume img) p ≡ 0
  pub short : length (contents_at img p) ≤ 0x400_0000
  pub bytes : contents_at img p ≡ row_bytes (state_of img).rows p

module _ (img : Bytes) (acc : Accepted (version_of img) img) where
  abbrev g : Geometry
  g = version_of img

  abbrev v : Volume
  v = own_volume img

  abbrev d : Directory
  d = (own_volume img).directory

  good : Good v
  good = accepted_good g img (let w = (own_sized img).wide in omega arith) acc

  sized : Sized v img
  sized = frame_sized (frame g (own_sized img)) img acc

  plain : is_stream (d.entry 0) ≡ false
  plain = root_plain_lem g img good

  -- names that lead to a stream mean it alone
  meant_alone : (ns : List Name) (e : ℕ) (b : Forest) → is_stream (d.entry e) ≡ true → descend d (reached d 0) ns ≡ at e b → meant ns (objects d (whole d)) ≡ e ∷ []
  unfolding descend found_entries
  meant_alone [] e b st h = let z : ◌≡◌ {A = ℕ} 0 e = cc in absurd (clash (ap (λ (i : ℕ). is_stream (d.entry i)) z ∙ st) plain)
  meant_alone (n ∷ ns) e b st h = sym (found_some d (good_searched g img good) n ns) ∙ ap found_entries h

  row_bytes_lem : (p : Path) (e : ℕ) (b : Forest) → resolve_stream d p ≡ at e b → row_bytes (rows_in v img [] (forest d)) p ≡ contents v img e
  unfolding forest
  row_bytes_lem p e b h =
      let st = is_stream_lem v img good sized plain p h in
      ap (λ rows. row_bytes rows p) (rows_objects v img [] (whole d))
      ∙ meant_bytes v img p (objects d (whole d)) e (meant_alone (names p) e b st (by_names d p e b h)) st

  at_row : (p : Path) (f : Found) → resolve_stream d p ≡ f → has_row (rows_in v img [] (forest d)) p ≡ true →
      (answer_of f ≡ 0) × (length (contents v img (entry_of f)) ≤ 0x400_0000) × (contents v img (entry_of f) ≡ row_bytes (rows_in v img [] (forest d)) p)
  unfolding answer_of entry_of
  at_row p (at e b) k h =
      let i = is_inside v img good sized plain p k in
      let st = is_stream_lem v img good sized plain p k in
      (refl, omega (arith, length_contents v img good sized e i st, stream_short g (own_sized img) img acc e i st), sym (row_bytes_lem p e b k))
  at_row p (refused n) k h = absurd (clash h (refused_has_no_row v img good sized plain p n k))

  pub stream_meant : (p : Path) → has_row (state_of img).rows p ≡ true → StreamMeant img p
  unfolding contents_at target target_answer state_of state_in rows_of
  stream_meant p h = let k = at_row p (resolve_stream d p) refl h in record { found = k.0; short = k.1; bytes = k.2 }

  -- and the other way round
  row_at : (p : Path) (f : Found) → resolve_stream d p ≡ f → RefusedLow f → answer_of f ≡ 0 → has_row (rows_in v img [] (forest d)) p ≡ true
  unfolding answer_of
  row_at p (at e b) k l z = has_row_lem v img good sized plain p k
  row_at p (refused n) k l z = absurd (omega (arith, l.0))

  pub stream_row : (p : Path) → target_answer v p ≡ 0 → has_row (state_of img).rows p ≡ true
  unfolding target_answer state_of state_in rows_of
  stream_row p h = row_at p (resolve_stream d p) refl (resolve_stream_low d p) h

-- ---- its numbers are bytes, as the image's are

bytes_append : (a b : Bytes) → AreBytes a → AreBytes b → AreBytes (a ++ b)
bytes_append [] b h k i = k i
bytes_append (x ∷ a) b h k zero = h 0
bytes_append (x ∷ a) b h k (suc i) = bytes_append a b (λ j. h (suc j)) k i

bytes_laid : (sp : Space) (img : Bytes) (us : List ℕ) → AreBytes img → AreBytes (laid (block sp img) us)
unfolding block
bytes_laid sp img [] h i = omega arith
bytes_laid sp img (u ∷ us) h i =
    bytes_append (part img (sp.unit_place u) sp.unit) (laid (block sp img) us) (octets_part img (sp.unit_place u) sp.unit h).byte (bytes_laid sp img us h) i

pub contents_bytes : (v : Volume) (img : Bytes) (e : ℕ) → AreBytes img → AreBytes (contents v img e)
unfolding contents part
contents_bytes v img e h =
    let n = stream_size v e in
    let all = laid (block (space_for v n) img) (stream_units v e) in
    (octets_part all 0 n (bytes_laid (space_for v n) img (stream_units v e) h)).byte

pub stream_bytes_lem : (img : Bytes) (p : Path) → AreBytes img → AreBytes (contents_at img p)
unfolding contents_at
stream_bytes_lem img p h = contents_bytes (own_volume img) img (target (own_volume img) p) h
