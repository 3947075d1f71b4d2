-- What a change of length adds to a stream is what its searches find, across the cutoff too.
use Prim.Native.Nat.{ℕ, ◌+◌, ◌-◌, ◌≤◌, ◌<◌, max}
use mathlib.Core.Path.{◌≡◌, sym, ap, ◌∙◌, subst}
use mathlib.Core.Logic.{inl, inr}
use mathlib.Core.Bool.{Bool, true, false}
use mathlib.Core.List.{List, [], ◌++◌}
use native.Mathlib.Omega.{arith}
use lib.Dec.{ltb}
use lib.ListN.{length, take, length-take}
use lib.Seq.{take_at}
use Rattle.format.specs.Basics.Bytes.{Bytes}
use Rattle.format.specs.Layout.Geometry.{Geometry}
use Rattle.format.specs.Layout.Need.{cutoff, round_up}
use Rattle.format.specs.Layout.Space.{Space, free_units}
use Rattle.format.specs.Layout.Entry.{is_stream}
use Rattle.format.specs.Layout.Volume.{Volume, volume}
use Rattle.format.specs.Layout.Stream.{space_for, stream_units, stream_size, contents}
use Rattle.format.specs.Rules.Verdict.{Accepted}
use Rattle.format.specs.Calls.SetLength.{crosses, edit_space, new_units, resized}
use Rattle.format.specs.Calls.Move.{moved}
use Rattle.format.specs.Calls.Search.{growth_searches, units_found, kept_units, length_searches}
use Rattle.theory.specs.Links.{Linked}
use Rattle.theory.proofs.FreeUnits.{pool_short}
use Rattle.theory.proofs.RoundUp.{round_zero}
use Rattle.theory.proofs.Searches.{find_lowest, units_searched, searches_some}
use Rattle.frame.specs.Edits.{MayResize, MayWrite}
use Rattle.frame.specs.Frame.{Frame}
use Rattle.frame.specs.Good.{space_of, Good}
use Rattle.frame.proofs.Good.{accepted_good}
use Rattle.frame.proofs.LengthUnits.{sides_uncrossed, old_units_linked}
use Rattle.history.proofs.EditedUnits.{unit_same}
use Rattle.history.proofs.Resized.{resize_changed, resize_units}
use Rattle.history.proofs.Written.{write_units}
use Rattle.history.proofs.Moving.{cut_may, cut_size, cut_free, grow_accepted, grow_size, grow_inside, grow_stream, grow_units}

-- what is taken of some units and of the free ones behind them, by the units kept
taken : (sp : Space) (us : List ℕ) (n : ℕ) → take n (us ++ free_units sp) ≡ take n us ++ units_found sp (growth_searches sp (n - length (take n us)))
taken sp us n =
    let e : n - length us ≡ n - length (take n us) = omega (arith, length-take n us) in
    units_searched sp us n ∙ ap (λ k. take n us ++ units_found sp (growth_searches sp k)) e

-- the units kept, and those that the searches find
abbrev pub units_after : Volume → ℕ → ℕ → List ℕ
units_after v e new = kept_units v e new ++ units_found (space_for v new) (length_searches v e new)

module _ (v : Volume) (e new : ℕ) (few : round_up new (space_for v new).unit ≤ (space_for v new).limit) where
  abbrev sp : Space
  sp = space_for v new

  abbrev us : List ℕ
  us = stream_units v e

  -- on one side of the cutoff
  after_within : crosses (stream_size v e) new ≡ false → units_after v e new ≡ take (round_up new sp.unit) (us ++ free_units sp)
  unfolding kept_units length_searches
  after_within h = rw (h, searches_some sp (length (take (round_up new sp.unit) us)) (round_up new sp.unit) few) (sym (taken sp us (round_up new sp.unit)))

  -- across it
  after_across : crosses (stream_size v e) new ≡ true → units_after v e new ≡ take (round_up new sp.unit) (free_units sp)
  unfolding kept_units length_searches
  after_across h =
      rw (h, searches_some sp 0 (round_up new sp.unit) few)
      (find_lowest sp (round_up new sp.unit - 0) ∙ ap (λ n. take n (free_units sp)) (sub_none (round_up new sp.unit)))
    where
      sub_none : (n : ℕ) → n - 0 ≡ n
      sub_none n = omega arith

module _ (g : Geometry) (pos : 0 < g.sector_bytes) (fr : Frame g) (img : Bytes) (acc : Accepted g img) (e new : ℕ) where
  abbrev v : Volume
  v = volume g img

  abbrev good : Good v
  good = accepted_good g img pos acc

  -- ---- on one side of the cutoff

  -- a length of 0 needs no units
  none_needed : (b : Bool) → new ≡ 0 → round_up new (space_of v b).unit ≡ 0
  none_needed b z = ap (λ n. round_up n (space_of v b).unit) z ∙ round_zero (space_of v b).unit (good.unit b)

  -- no more are needed than there are
  few_of : (b : Bool) (us : List ℕ) → Linked (space_of v b).cell (space_of v b).limit us → round_up new (space_of v b).unit ≤ length us + length (free_units (space_of v b))
      → round_up new (space_of v b).unit ≤ (space_of v b).limit
  unfolding free_units
  few_of b us l h = omega (arith, h, pool_short (space_of v b).cell (space_of v b).limit (good.lim b) us l)

  pub resize_searched : MayResize g img e new → stream_units (volume g (resized v img e new)) e ≡ units_after v e new
  unfolding new_units edit_space space_for
  resize_searched may =
      let side = ltb (max (stream_size v e) new) cutoff in
      let all = few_of side (stream_units v e) (old_units_linked v good e new may.inside may.stream may.within) may.enough in
      resize_units g pos fr img acc e new may
      ∙ elim (sides_uncrossed (stream_size v e) new may.within).1 [
        | inl h ↦
            ap (λ b. take (round_up new (space_of v b).unit) (stream_units v e ++ free_units (space_of v b))) (sym h)
            ∙ sym (after_within v e new (subst (λ b. round_up new (space_of v b).unit ≤ (space_of v b).limit) (sym h) all) may.within)
        | inr z ↦
            let none : round_up new (space_of v (ltb new cutoff)).unit ≡ 0 = none_needed (ltb new cutoff) z in
            ap (λ n. take n (stream_units v e ++ free_units (space_of v side))) (none_needed side z)
            ∙ sym (after_within v e new (omega (arith, none)) may.within ∙ ap (λ n. take n (stream_units v e ++ free_units (space_of v (ltb new cutoff)))) none)
      ]

  -- the same length
  pub same_searched : e < v.directory.count → is_stream (v.directory.entry e) ≡ true → crosses (stream_size v e) new ≡ false → new ≡ stream_size v e → stream_units v e ≡ units_after v e new
  unfolding space_for
  same_searched inside stream within z =
      let c = good.chains e inside stream in
      let n : length (stream_units v e) ≡ round_up new (space_of v (ltb new cutoff)).unit = rw z c.long in
      let l : Linked (space_of v (ltb new cutoff)).cell (space_of v (ltb new cutoff)).limit (stream_units v e) = rw z c.linked in
      sym (after_within v e new (few_of (ltb new cutoff) (stream_units v e) l (omega (arith, n))) within
      ∙ take_at (stream_units v e) (free_units (space_of v (ltb new cutoff))) (round_up new (space_of v (ltb new cutoff)).unit) n)

  -- ---- across it

  module _ (inside : e < v.directory.count) (stream : is_stream (v.directory.entry e) ≡ true) (over : crosses (stream_size v e) new ≡ true)
      (enough : let sp = space_of v (ltb new cutoff) in round_up new sp.unit ≤ length (free_units sp)) where
    abbrev to : Bool
    to = ltb new cutoff

    abbrev cut : Bytes
    cut = resized v img e 0

    abbrev grown : Bytes
    grown = resized (volume g cut) cut e new

    abbrev kept : Bytes
    kept = take new (contents v img e)

    cut_none : stream_units (volume g cut) e ≡ []
    unfolding new_units edit_space space_for
    cut_none =
        let side = ltb (max (stream_size v e) 0) cutoff in
        resize_units g pos fr img acc e 0 (cut_may g pos fr img acc e new inside stream over enough)
        ∙ ap (λ n. take n (stream_units v e ++ free_units (space_of v side))) (round_zero (space_of v side).unit (good.unit side))

    grown_are : stream_units (volume g grown) e ≡ take (round_up new (space_of v to).unit) (free_units (space_of v to))
    unfolding new_units edit_space space_for
    grown_are =
        grow_units g pos fr img acc e new inside stream over enough
        ∙ go (max (stream_size (volume g cut) e) new) (omega (arith, cut_size g pos fr img acc e new inside stream over enough))
      where
        go : (m : ℕ) → m ≡ new → take (round_up new (space_of (volume g cut) (ltb m cutoff)).unit) (stream_units (volume g cut) e ++ free_units (space_of (volume g cut) (ltb m cutoff)))
            ≡ take (round_up new (space_of v to).unit) (free_units (space_of v to))
        go m h =
            rw (
              h,
              cut_none,
              unit_same good (resize_changed g pos fr img acc e 0 (cut_may g pos fr img acc e new inside stream over enough)) to,
              cut_free g pos fr img acc e new inside stream over enough,
            )

    put_may : MayWrite g grown e 0 kept
    put_may =
        record {
          accepted = grow_accepted g pos fr img acc e new inside stream over enough;
          inside = grow_inside g pos fr img acc e new inside stream over enough;
          stream = grow_stream g pos fr img acc e new inside stream over enough;
          fits = omega (arith, grow_size g pos fr img acc e new inside stream over enough, length-take new (contents v img e));
        }

    pub move_searched : stream_units (volume g (moved g img e new)) e ≡ units_after v e new
    unfolding moved space_for
    move_searched =
        write_units g pos fr grown (grow_accepted g pos fr img acc e new inside stream over enough) e 0 kept put_may
        ∙ grown_are ∙ sym (after_across v e new (few_of to [] tt (omega (arith, enough))) over)
