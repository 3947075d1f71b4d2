-- A change of length on a good volume: what the stream's bytes are then.
use Prim.Native.Nat.{ℕ, ◌+◌, ◌*◌, ◌≤◌, ◌<◌, max}
use mathlib.Core.Path.{◌≡◌, refl, sym, ap, ◌∙◌, subst}
use mathlib.Core.Logic.{inl, inr}
use mathlib.Core.Bool.{Bool, true, false, cond, beq}
use mathlib.Core.List.{List, [], ◌++◌}
use lib.Dec.{ltb}
use lib.ListN.{length, take}
use Rattle.format.specs.Basics.Bytes.{Bytes}
use Rattle.format.specs.Basics.Lists.{fit, count}
use Rattle.format.specs.Layout.Need.{cutoff, round_up}
use Rattle.format.specs.Layout.Space.{Space, free_units, laid, block}
use Rattle.format.specs.Layout.Chain.{free_below}
use Rattle.format.specs.Layout.Entry.{is_stream}
use Rattle.format.specs.Layout.Volume.{Volume}
use Rattle.format.specs.Layout.Stream.{stream_units, contents, stream_size}
use Rattle.format.specs.Calls.SetLength.{crosses, new_units}
use Rattle.theory.specs.Blocks.{target}
use Rattle.theory.proofs.Chains.{linked_below}
use Rattle.theory.proofs.FreeUnits.{resized_becomes}
use Rattle.theory.proofs.Edits.{target_length, target_is}
use Rattle.theory.proofs.RoundUp.{round_enough, round_zero, round_mono}
use Rattle.frame.specs.Good.{space_of, units_of, Good}
use Rattle.frame.proofs.LengthUnits.{sides_uncrossed, old_side, old_units_linked, old_units_length, new_units_are, new_units_length}
use Rattle.history.proofs.Filled.{Sized, contents_read}
use Rattle.history.proofs.Sides.{cond_side}

module _ (v : Volume) (img : Bytes) (o : Good v) (sized : Sized v img) (e new : ℕ) (inside : e < v.directory.count) (stream : is_stream (v.directory.entry e) ≡ true)
    (within : crosses (stream_size v e) new ≡ false) where
  abbrev old : ℕ
  old = stream_size v e

  abbrev side : Bool
  side = ltb (max old new) cutoff

  abbrev sp : Space
  sp = space_of v side

  abbrev us : List ℕ
  us = stream_units v e

  -- the old units, by space
  pub old_units : (b : Bool) → units_of v b e ≡ cond (beq b side) us []
  unfolding units_of
  old_units b = rw stream (cond_side b side (ltb old cutoff) us (old_side v o e new inside stream within))

  module _ (enough : round_up new sp.unit ≤ length us + length (free_units sp)) where
    pub new_units_none : new ≡ 0 → new_units v e new ≡ []
    new_units_none z = new_units_are v o e new inside stream within ∙ ap (λ n. take n (us ++ free_below sp.cell sp.limit)) (ap (λ n. round_up n sp.unit) z ∙ round_zero sp.unit (o.unit side))

    us_full : (s : ℕ) → 0 < count s us → length (block sp img s) ≡ sp.unit
    us_full s q = sized side s (linked_below sp.cell sp.limit us (old_units_linked v o e new inside stream within) s q)

    pub new_content_length : length (target sp.unit (block sp img) us (new_units v e new) old new) ≡ length (new_units v e new) * sp.unit
    new_content_length =
        subst (λ ws. length (target sp.unit (block sp img) us ws old new) ≡ length ws * sp.unit) (sym (new_units_are v o e new inside stream within))
        (target_length sp.unit (block sp img) us (free_below sp.cell sp.limit) us_full old new (round_up new sp.unit)
        (rw (old_units_length v o e new inside stream within) (round_enough old sp.unit (o.unit side))) (round_enough new sp.unit (o.unit side))
        (λ s q. sized side s ((resized_becomes sp.cell sp.limit (o.lim side) us (old_units_linked v o e new inside stream within) (round_up new sp.unit)).from s q).0))

    -- the bytes after: cut or filled up
    pub new_content_fits : ltb new cutoff ≡ side → take new (target sp.unit (block sp img) us (new_units v e new) old new) ≡ fit new (contents v img e)
    new_content_fits same =
        subst (λ ws. take new (target sp.unit (block sp img) us ws old new) ≡ fit new (take old (laid (block sp img) us))) (sym (new_units_are v o e new inside stream within))
        (target_is sp.unit (block sp img) us (free_below sp.cell sp.limit) us_full old new (round_up new sp.unit)
        (rw (old_units_length v o e new inside stream within) (round_enough old sp.unit (o.unit side))) (round_enough new sp.unit (o.unit side))
        (ap length (sym (new_units_are v o e new inside stream within)) ∙ new_units_length v o e new inside stream within enough) (λ h. rw (old_units_length v o e new inside stream within) (round_mono new old sp.unit (o.unit side) h)))
        ∙ ap (fit new) (sym old_bytes)
      where
        old_bytes : contents v img e ≡ take old (laid (block sp img) us)
        old_bytes =
            contents_read v img e old us refl refl
            ∙ elim (sides_uncrossed old new within).0 [
              | inl h ↦ ap (λ b. take old (laid (block (space_of v b) img) us)) h
              | inr z ↦ rw z
            ]
