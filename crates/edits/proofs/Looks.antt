-- The cells that the searches of a change of length look at, by what the stream keeps.
use Prim.Native.Nat.{ℕ, ◌-◌, ◌≤◌}
use mathlib.Core.Path.{◌≡◌, refl, ap}
use mathlib.Core.Bool.{true, false, cond}
use mathlib.Core.List.{[]}
use native.Mathlib.Omega.{arith}
use lib.Dec.{ltb}
use lib.ListN.{length, take, length-take}
use Rattle.format.specs.Layout.Need.{round_up}
use Rattle.format.specs.Layout.Space.{Space}
use Rattle.format.specs.Layout.Volume.{Volume}
use Rattle.format.specs.Layout.Stream.{space_for, stream_size, stream_units}
use Rattle.format.specs.Calls.SetLength.{crosses}
use Rattle.format.specs.Calls.Search.{growth_searches, searches_for, kept_units, length_searches, cells_looked}
use Rattle.theory.proofs.Searches.{chain_looks}

module _ (vol : Volume) (x new : ℕ) where
  abbrev sp : Space
  sp = space_for vol new

  abbrev need : ℕ
  need = round_up new sp.unit

  -- on one side of the cutoff it keeps its units
  pub within_looked : (old : ℕ) → crosses (stream_size vol x) new ≡ false → length (stream_units vol x) ≡ old
      → cells_looked (searches_for sp old need) ≡ cells_looked (length_searches vol x new)
  unfolding length_searches kept_units searches_for
  within_looked old h l =
      let e : need - old ≡ need - length (take need (stream_units vol x)) = omega (arith, l, length-take need (stream_units vol x)) in
      rw h (ap (λ n. cells_looked (cond (ltb sp.limit need) [] (growth_searches sp n))) e)

  -- across it, none
  pub across_looked : crosses (stream_size vol x) new ≡ true → cells_looked (searches_for sp 0 need) ≡ cells_looked (length_searches vol x new)
  unfolding length_searches kept_units
  across_looked h = rw h refl

  pub length_most : cells_looked (length_searches vol x new) ≤ sp.limit
  unfolding length_searches
  length_most = chain_looks sp (length (kept_units vol x new)) need
