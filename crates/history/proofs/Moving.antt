-- The two changes of length of a move across the cutoff: the stream is cut to 0, and grows in the other space, whose units the cut leaves alone.
use Prim.Native.Nat.{ℕ, ◌+◌, ◌≤◌, ◌<◌, max}
use mathlib.Core.Path.{◌≡◌, refl, ap, ◌∙◌}
use mathlib.Core.Logic.{◌⊎◌, inl, inr}
use mathlib.Core.Bool.{Bool, true, false, ◌&&◌, ◌||◌, beq}
use native.Mathlib.Nat.{zero-add}
use native.Mathlib.Omega.{arith}
use lib.Dec.{eqb, ltb, leb}
use lib.ListN.{length}
use borrow.Author.Tests.{ltb-true, leb-true, lt-ltb, le-ltb, ne_eqb}
use Rattle.format.specs.Basics.Bytes.{Bytes}
use Rattle.format.specs.Layout.Geometry.{Geometry, mini_bytes}
use Rattle.format.specs.Layout.Need.{cutoff, round_up, mini_need, sector_need}
use Rattle.format.specs.Layout.Space.{free_units}
use Rattle.format.specs.Layout.Entry.{is_stream}
use Rattle.format.specs.Layout.Stream.{space_for, stream_size, stream_units}
use Rattle.format.specs.Layout.Tables.{sector_space}
use Rattle.format.specs.Layout.Volume.{Volume, volume, mini_space}
use Rattle.format.specs.Rules.Verdict.{Accepted}
use Rattle.format.specs.Calls.SetLength.{small, crosses, too_few, edit_space, new_units, resized}
use Rattle.theory.proofs.RoundUp.{round_zero}
use Rattle.theory.proofs.Tests.{both}
use Rattle.frame.specs.Edits.{Preserved, MayResize}
use Rattle.frame.specs.Frame.{Frame}
use Rattle.frame.specs.Good.{space_of, Good}
use Rattle.frame.proofs.Good.{accepted_good}
use Rattle.history.proofs.EditedUnits.{unit_same}
use Rattle.history.proofs.Resized.{resize_changed, resize_units, resize_free}
use Rattle.history.proofs.EditStep.{edit_accepted}

-- ---- the two lengths

-- they lie on different sides of the cutoff, and neither is 0
abbrev pub Crossed : ℕ → ℕ → Type 0
Crossed old new = ((0 < old) × (old < 4096) × (4096 ≤ new)) ⊎ ((4096 ≤ old) × (0 < new) × (new < 4096))

pub crossed : (old new : ℕ) → crosses old new ≡ true → Crossed old new
unfolding crosses small cutoff
crossed old new h = go ((leb 1 old && ltb old 4096) && leb 4096 new) refl
  where
    go : (t : Bool) → ((leb 1 old && ltb old 4096) && leb 4096 new) ≡ t → Crossed old new
    go true q =
        let a = both (leb 1 old && ltb old 4096) (leb 4096 new) q in
        let b = both (leb 1 old) (ltb old 4096) a.0 in
        inl (omega (arith, leb-true 1 old b.0), ltb-true old 4096 b.1, leb-true 4096 new a.1)
    go false q =
        let a = both (leb 4096 old) (leb 1 new && ltb new 4096) (rw q at h) in
        let b = both (leb 1 new) (ltb new 4096) a.1 in
        inr (leb-true 4096 old a.0, omega (arith, leb-true 1 new b.0), ltb-true new 4096 b.1)

pub crossed_some : (old new : ℕ) → crosses old new ≡ true → (0 < old) × (0 < new)
crossed_some old new h = elim (crossed old new h) [ inl q ↦ (q.0, omega (arith, q.2)) | inr q ↦ (omega (arith, q.0), q.1) ]

-- the cut and the growth stay on one side
pub cut_within : (old : ℕ) → crosses old 0 ≡ false
unfolding crosses small cutoff
cut_within old = rw (and_false (leb 1 old && ltb old 4096), and_false (leb 4096 old))
  where
    and_false : (a : Bool) → (a && false) ≡ false
    and_false true = refl
    and_false false = refl

pub grow_within : (new : ℕ) → crosses 0 new ≡ false
unfolding crosses small cutoff
grow_within new = refl

-- the cut is in the one space, and the growth in the other
sides_differ : (old new : ℕ) → Crossed old new → beq (ltb new cutoff) (ltb (max old 0) cutoff) ≡ false
unfolding cutoff
sides_differ old new (inl q) = rw (le-ltb new 4096 q.2, lt-ltb (max old 0) 4096 (omega (arith, q.1)))
sides_differ old new (inr q) = rw (lt-ltb new 4096 q.2, le-ltb (max old 0) 4096 (omega (arith, q.0)))

-- ---- room

only_first : (f m n : ℕ) → (ltb (0 + f) n || ltb m 0) ≡ ltb f n
only_first f m n = rw (zero-add f, le-ltb m 0 (omega arith)) (or_none (ltb f n))
  where
    or_none : (b : Bool) → b || false ≡ b
    or_none true = refl
    or_none false = refl

only_second : (f m n : ℕ) → (ltb m 0 || ltb (0 + f) n) ≡ ltb f n
only_second f m n = rw (zero-add f, le-ltb m 0 (omega arith))

-- it is asked in the space of the new length alone, and what is released there is nothing
pub move_room : (g : Geometry) (img : Bytes) (old new : ℕ) → crosses old new ≡ true → let sp = space_of (volume g img) (ltb new cutoff) in
    too_few g (length (free_units (volume g img).sectors)) (length (free_units (volume g img).minis)) old new ≡ ltb (length (free_units sp)) (round_up new sp.unit)
unfolding too_few sector_need mini_need cutoff volume sector_space mini_space mini_bytes
move_room g img old new h = go (crossed old new h)
  where
    go : Crossed old new → let sp = space_of (volume g img) (ltb new 4096) in
        too_few g (length (free_units (volume g img).sectors)) (length (free_units (volume g img).minis)) old new ≡ ltb (length (free_units sp)) (round_up new sp.unit)
    go (inl q) = rw (lt-ltb old 4096 q.1, le-ltb new 4096 q.2) (only_first (length (free_units (volume g img).sectors)) (round_up old 64 + length (free_units (volume g img).minis)) (round_up new g.sector_bytes))
    go (inr q) = rw (le-ltb old 4096 q.0, lt-ltb new 4096 q.2) (only_second (length (free_units (volume g img).minis)) (round_up old g.sector_bytes + length (free_units (volume g img).sectors)) (round_up new 64))

-- ---- the changes

module _ (g : Geometry) (pos : 0 < g.sector_bytes) (fr : Frame g) (img : Bytes) (acc : Accepted g img) (e new : ℕ)
    (inside : e < (volume g img).directory.count) (stream : is_stream ((volume g img).directory.entry e) ≡ true)
    (over : crosses (stream_size (volume g img) e) new ≡ true)
    (enough : let sp = space_of (volume g img) (ltb new cutoff) in round_up new sp.unit ≤ length (free_units sp)) where
  abbrev v : Volume
  v = volume g img

  abbrev good : Good v
  good = accepted_good g img pos acc

  abbrev to : Bool
  to = ltb new cutoff

  abbrev cut : Bytes
  cut = resized v img e 0

  abbrev grown : Bytes
  grown = resized (volume g cut) cut e new

  -- ---- the cut

  pub cut_may : MayResize g img e 0
  unfolding edit_space space_for
  cut_may =
      record {
        accepted = acc;
        inside = inside;
        stream = stream;
        differs = ne_eqb 0 (stream_size v e) (omega (arith, (crossed_some (stream_size v e) new over).0));
        within = cut_within (stream_size v e);
        enough = let side = ltb (max (stream_size v e) 0) cutoff in omega (arith, round_zero (space_of v side).unit (good.unit side));
      }

  pub cut_kept : Preserved g img cut
  cut_kept = (fr.resizing img e 0 cut_may).kept

  pub cut_accepted : Accepted g cut
  cut_accepted = edit_accepted g pos fr img acc (resize_changed g pos fr img acc e 0 cut_may) cut_kept

  pub cut_size : stream_size (volume g cut) e ≡ 0
  cut_size = (resize_changed g pos fr img acc e 0 cut_may).size

  pub cut_inside : e < (volume g cut).directory.count
  cut_inside = omega (arith, inside, cut_kept.parts.entry_count)

  pub cut_stream : is_stream ((volume g cut).directory.entry e) ≡ true
  cut_stream = ap (λ n. eqb n 2) (resize_changed g pos fr img acc e 0 cut_may).fields.kind ∙ stream

  -- the units that are free for the new length are those that were
  pub cut_free : free_units (space_of (volume g cut) to) ≡ free_units (space_of v to)
  cut_free = resize_free g pos fr img acc e 0 cut_may to (sides_differ (stream_size v e) new (crossed (stream_size v e) new over))

  -- ---- the growth

  grow_enough : round_up new (space_of (volume g cut) to).unit ≤ length (free_units (space_of (volume g cut) to))
  grow_enough = rw (unit_same good (resize_changed g pos fr img acc e 0 cut_may) to, cut_free) enough

  pub grow_may : MayResize g cut e new
  unfolding edit_space space_for
  grow_may =
      record {
        accepted = cut_accepted;
        inside = cut_inside;
        stream = cut_stream;
        differs = ne_eqb new (stream_size (volume g cut) e) (omega (arith, cut_size, (crossed_some (stream_size v e) new over).1));
        within = rw cut_size (grow_within new);
        enough = rw cut_size (grown_room (max 0 new) (omega arith));
      }
    where
      grown_room : (m : ℕ) → m ≡ new → let sp = space_of (volume g cut) (ltb m cutoff) in round_up new sp.unit ≤ length (stream_units (volume g cut) e) + length (free_units sp)
      grown_room m h = rw h (omega (arith, grow_enough))

  pub grow_kept : Preserved g cut grown
  grow_kept = (fr.resizing cut e new grow_may).kept

  pub grow_accepted : Accepted g grown
  grow_accepted = edit_accepted g pos fr cut cut_accepted (resize_changed g pos fr cut cut_accepted e new grow_may) grow_kept

  pub grow_size : stream_size (volume g grown) e ≡ new
  grow_size = (resize_changed g pos fr cut cut_accepted e new grow_may).size

  pub grow_inside : e < (volume g grown).directory.count
  grow_inside = omega (arith, cut_inside, grow_kept.parts.entry_count)

  pub grow_stream : is_stream ((volume g grown).directory.entry e) ≡ true
  grow_stream = ap (λ n. eqb n 2) (resize_changed g pos fr cut cut_accepted e new grow_may).fields.kind ∙ cut_stream

  pub grow_units : stream_units (volume g grown) e ≡ new_units (volume g cut) e new
  grow_units = resize_units g pos fr cut cut_accepted e new grow_may
