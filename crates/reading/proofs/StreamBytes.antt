-- The bytes of a stream over any space: each is a byte of the image, and those inside one unit stand there in a row.
use Prim.Native.Nat.{ℕ, ◌+◌, ◌/◌, ◌%◌, ◌≤◌, ◌<◌}
use mathlib.Core.Path.{◌≡◌, refl, sym, ◌∙◌, ap}
use mathlib.Core.Bool.{true}
use native.Mathlib.Nat.{div-add-mod', mod-lt, add_assoc}
use native.Mathlib.Omega.{arith}
use lib.ListN.{length, get_or}
use lib.Seq.{length-take-le, get_or-take}
use Rattle.format.specs.Basics.Lists.{count}
use Rattle.format.specs.Basics.Bytes.{Bytes, part}
use Rattle.format.specs.Layout.Need.{round_up}
use Rattle.format.specs.Layout.Chain.{units}
use Rattle.format.specs.Layout.Space.{Space, chain_for, units_for, block, laid}
use Rattle.format.specs.Calls.Overwrite.{byte_place}
use Rattle.theory.proofs.Contents.{laid_length, laid_at}
use Rattle.theory.proofs.Chains.{chain_linked, linked_below, length_units}
use Rattle.theory.proofs.RoundUp.{round_enough, round_lt}
use Rattle.frame.proofs.Blocks.{Units, block_length}
use Rattle.minis.proofs.Sectors.{unit_below}
use Rattle.reading.specs.Streams.{stream_bytes}
use Rattle.reading.proofs.Parts.{part_at, part_equal, run_div, run_mod}
use Rattle.spaces.proofs.Walks.{unit_next}

module _ {sp : Space} (img : Bytes) (t : Units sp (length img)) (n s : ℕ) (c : chain_for sp n s ≡ true) where
  units_long : length (units_for sp n s) ≡ round_up n sp.unit
  unfolding units_for
  units_long = length_units sp.cell (round_up n sp.unit) s

  pub stream_unit : (k : ℕ) → k < round_up n sp.unit → get_or (units_for sp n s) k 0 < sp.limit
  unfolding units_for chain_for
  stream_unit k h = unit_below sp.cell sp.limit (round_up n sp.unit) s c k h

  pub stream_next : (k : ℕ) → k + 1 < round_up n sp.unit → get_or (units_for sp n s) (k + 1) 0 ≡ sp.cell (get_or (units_for sp n s) k 0)
  unfolding units_for
  stream_next k h = unit_next sp.cell (round_up n sp.unit) s k h

  whole : (u : ℕ) → 0 < count u (units_for sp n s) → length (block sp img u) ≡ sp.unit
  unfolding units_for chain_for
  whole u q = block_length sp (length img) t img refl u (linked_below sp.cell sp.limit (units sp.cell (round_up n sp.unit) s) (chain_linked sp.cell sp.limit (round_up n sp.unit) s c).0 u q)

  pub stream_length : length (stream_bytes sp img n s) ≡ n
  unfolding stream_bytes
  stream_length =
      length-take-le n (laid (block sp img) (units_for sp n s)) (rw (laid_length sp.unit (block sp img) (units_for sp n s) whole, units_long) (round_enough n sp.unit t.some))

  -- byte j of the stream is that byte of the image
  pub stream_at : (j : ℕ) → j < n → get_or (stream_bytes sp img n s) j 0 ≡ get_or img (byte_place sp (units_for sp n s) j) 0
  unfolding stream_bytes byte_place block
  stream_at j h =
      let U = sp.unit in
      let us = units_for sp n s in
      let m : j % sp.unit < sp.unit = mod-lt j t.some in
      get_or-take n (laid (block sp img) us) j 0 h
      ∙ ap (λ k. get_or (laid (block sp img) us) k 0) (sym (div-add-mod' j U))
      ∙ laid_at U (block sp img) us whole (j / U) (j % U) (rw units_long (round_lt j n U t.some h)) m
      ∙ part_at img (sp.unit_place (get_or us (j / U) 0)) U (j % U) m

  -- the bytes inside one unit
  pub stream_part : (j k : ℕ) → 0 < k → j + k ≤ n → j % sp.unit + k ≤ sp.unit → part (stream_bytes sp img n s) j k ≡ part img (byte_place sp (units_for sp n s) j) k
  unfolding byte_place
  stream_part j k z h f =
      let U = sp.unit in
      let us = units_for sp n s in
      let r = t.room _ (stream_unit (j / sp.unit) (round_lt j n sp.unit t.some (omega arith))) in
      part_equal (stream_bytes sp img n s) img j (byte_place sp us j) k (omega (arith, stream_length)) (omega (arith, r))
      (λ i q. stream_at (j + i) (omega arith) ∙ ap (λ x. get_or img x 0) (place i q))
    where
      place : (i : ℕ) → i < k → byte_place sp (units_for sp n s) (j + i) ≡ byte_place sp (units_for sp n s) j + i
      place i q =
          let l : j % sp.unit + i < sp.unit = omega arith in
          rw (run_div sp.unit j i l, run_mod sp.unit j i l) (sym (add_assoc (sp.unit_place (get_or (units_for sp n s) (j / sp.unit) 0)) (j % sp.unit) i))
