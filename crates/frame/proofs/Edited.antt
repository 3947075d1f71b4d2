-- A change of length in one space, whichever it is: cells, bytes, entry.
use mathlib.Core.Path.{◌≡◌, refl, sym, ap, ◌∙◌}
use mathlib.Core.Logic.{◌≢◌}
use mathlib.Core.List.{List, ◌++◌}
use mathlib.Core.Bool.{Bool, true, false, cond}
use Prim.Native.Nat.{ℕ, ◌+◌, ◌-◌, ◌*◌, ◌≤◌, ◌<◌, min}
use native.Mathlib.Omega.{arith}
use lib.Dec.{ltb}
use lib.ListN.{length, take, replicate, length-replicate}
use lib.Seq.{sets}
use Rattle.format.specs.Basics.Lists.{count}
use Rattle.format.specs.Basics.Bytes.{Bytes}
use Rattle.format.specs.Layout.Geometry.{Geometry, cells_in}
use Rattle.format.specs.Layout.Chain.{END, start_of}
use Rattle.format.specs.Layout.Space.{Space, laid, block}
use Rattle.format.specs.Layout.Tables.{cell_place_in, cell_in}
use Rattle.format.specs.Layout.Directory.{entry_in, entry_count}
use Rattle.format.specs.Calls.Overwrite.{put_chain}
use Rattle.format.specs.Calls.SetLength.{relinked, zeroed}
use Rattle.theory.specs.Links.{rechain, Linked}
use Rattle.theory.specs.Blocks.{scatter, target, zero_behind}
use Rattle.theory.proofs.Counts.{count_append}
use Rattle.theory.proofs.Contents.{laid_agree, laid_length, scatter_same, scatter_ext}
use Rattle.theory.proofs.Fits.{zeros_fit}
use Rattle.frame.specs.Kept.{Sized, Kept, Off, Table}
use Rattle.frame.proofs.Kept.{kept_refl, kept_trans, kept_sub}
use Rattle.frame.proofs.Relink.{relinked_cells, relinked_kept}
use Rattle.frame.proofs.Blocks.{Units, block_length, chain_put}
use Rattle.frame.proofs.Views.{kept_cell}
use Rattle.frame.proofs.Streams.{kept_entry_in}
use Rattle.frame.proofs.Entry.{stamped, stamped_in, stamp_kept, stamp_other, stamp_same}

-- ---- the edit

pub record Setup (g : Geometry) (img : Bytes) (sp : Space) (secs D dirs us ws : List ℕ) (n new e : ℕ) (ok : ℕ → Type 0) : Type 0 where
  pub table : Table g (length img) secs
  pub directory_table : Table g (length img) dirs
  pub places : (u : ℕ) → sp.cell_place u ≡ cell_place_in g secs u
  pub units : Units sp (length img)
  pub old_cells : (u : ℕ) → 0 < count u us → u < cells_in g * length secs
  pub new_cells : (u : ℕ) → 0 < count u ws → u < cells_in g * length secs
  pub old_below : (u : ℕ) → 0 < count u us → u < sp.limit
  pub new_below : (u : ℕ) → 0 < count u ws → u < sp.limit
  pub new_words : (u : ℕ) → 0 < count u ws → u < 0x1_0000_0000
  pub once : (u : ℕ) → count u ws ≤ 1
  pub few : sp.limit ≤ END
  pub chain : Linked (cell_in g img secs (cells_in g * length secs)) sp.limit us
  pub front : take (min (length us) (length ws)) us ≡ take (min (length us) (length ws)) ws
  pub inside : e < entry_count g dirs
  pub apart : (s : ℕ) → count s secs + count s D + count s dirs ≤ 1
  pub put_kept : (xs b : Bytes) (i : ℕ) → i + length xs ≤ length ws * sp.unit → Kept g (Off D) b (put_chain sp ws b i xs)
  pub new_allowed : (u : ℕ) → 0 < count u ws → ok u
  pub block_kept : (T : List ℕ) (a b : Bytes) → Kept g (Off T) a b → ((s : ℕ) → 0 < count s T → 0 < count s secs + count s dirs)
      → (u : ℕ) → u < sp.limit → ok u → block sp b u ≡ block sp a u
  pub grows : ltb n new ≡ true → (n ≤ length us * sp.unit) × (n ≤ length ws * sp.unit) × (take n (laid (block sp img) ws) ≡ take n (laid (block sp img) us))

-- the image after the cells, after the data, and after the entry

unfoldable pub with_cells : Space → Bytes → List ℕ → List ℕ → Bytes
with_cells sp img us ws = relinked sp us ws img

unfoldable pub with_data : Space → Bytes → List ℕ → List ℕ → ℕ → ℕ → Bytes
with_data sp img us ws n new = cond (ltb n new) (zeroed sp ws (with_cells sp img us ws) n) (with_cells sp img us ws)

unfoldable pub with_entry : Geometry → List ℕ → Space → Bytes → List ℕ → List ℕ → ℕ → ℕ → ℕ → Bytes
with_entry g dirs sp img us ws n new e = stamped_in g dirs (with_data sp img us ws n new) e (start_of ws) new

module _ (g : Geometry) (z : Sized g) (img : Bytes) (sp : Space) (secs D dirs us ws : List ℕ) (n new e : ℕ) (ok : ℕ → Type 0)
    (q : Setup g img sp secs D dirs us ws n new e ok) where
  abbrev i1 : Bytes
  i1 = with_cells sp img us ws

  abbrev i2 : Bytes
  i2 = with_data sp img us ws n new

  abbrev i3 : Bytes
  i3 = with_entry g dirs sp img us ws n new e

  k1 : Kept g (Off secs) img i1
  unfolding with_cells
  k1 = relinked_kept g z (length img) secs q.table sp q.places us ws q.old_cells q.new_cells secs (λ s p. p) img

  k2 : Kept g (Off D) i1 i2
  unfolding with_data zeroed
  k2 = go (ltb n new) refl
    where
      go : (b : Bool) → ltb n new ≡ b → Kept g (Off D) i1 (cond b (put_chain sp ws i1 n (replicate (length ws * sp.unit - n) 0)) i1)
      go true h =
          let r = length-replicate {A = ℕ} (length ws * sp.unit - n) 0 in
          let l = (q.grows h).1 in
          q.put_kept (replicate (length ws * sp.unit - n) 0) i1 n (omega arith)
      go false h = kept_refl g (Off D) i1

  k3 : Kept g (Off dirs) i2 i3
  unfolding with_entry
  k3 = stamp_kept g z (length img) dirs q.directory_table i2 e (start_of ws) new q.inside

  abbrev pub touched : List ℕ
  touched = secs ++ D ++ dirs

  pub touched_count : (s : ℕ) → count s touched ≡ count s secs + count s D + count s dirs
  touched_count s = let a = count_append s (secs ++ D) dirs in let b = count_append s secs D in omega arith

  pub edit_kept : Kept g (Off touched) img i3
  edit_kept =
      kept_trans g (Off touched) img i2 i3
      (kept_trans g (Off touched) img i1 i2
      (kept_sub g (Off secs) (Off touched) img i1 (λ s k l p. omega (arith, p, touched_count s)) k1)
      (kept_sub g (Off D) (Off touched) i1 i2 (λ s k l p. omega (arith, p, touched_count s)) k2))
      (kept_sub g (Off dirs) (Off touched) i2 i3 (λ s k l p. omega (arith, p, touched_count s)) k3)

  cells_one : (s : ℕ) → cell_in g i1 secs (cells_in g * length secs) s ≡ rechain us ws (cell_in g img secs (cells_in g * length secs)) s
  unfolding with_cells
  cells_one s =
      relinked_cells g z (length img) secs q.table sp q.places us ws q.old_cells q.new_cells img sp.limit refl q.few q.chain q.front q.new_words q.once s

  pub edit_cells : (s : ℕ) → cell_in g i3 secs (cells_in g * length secs) s ≡ rechain us ws (cell_in g img secs (cells_in g * length secs)) s
  edit_cells s =
      kept_cell g z dirs i2 i3 k3 secs (λ t p. omega (arith, q.apart t)) s
      ∙ kept_cell g z D i1 i2 k2 secs (λ t p. omega (arith, q.apart t)) s
      ∙ cells_one s

  entry2 : (i : ℕ) → entry_in g i2 dirs i ≡ entry_in g img dirs i
  entry2 i =
      kept_entry_in g z D i1 i2 k2 dirs (λ t p. omega (arith, q.apart t)) i
      ∙ kept_entry_in g z secs img i1 k1 dirs (λ t p. omega (arith, q.apart t)) i

  pub edit_other : (i : ℕ) → i ≢ e → entry_in g i3 dirs i ≡ entry_in g img dirs i
  unfolding with_entry
  edit_other i h = stamp_other g z (length img) dirs q.directory_table i2 e (start_of ws) new q.inside i h ∙ entry2 i

  pub edit_same : entry_in g i3 dirs e ≡ stamped (entry_in g img dirs e) (start_of ws) new
  unfolding with_entry
  edit_same =
      stamp_same g z (length img) dirs q.directory_table i2 e (start_of ws) new q.inside ∙ ap (λ (b : Bytes). stamped b (start_of ws) new) (entry2 e)

  -- ---- the bytes of units

  len1 : length i1 ≡ length img
  len1 = k1.size

  blk1 : (u : ℕ) → u < sp.limit → ok u → block sp i1 u ≡ block sp img u
  blk1 = q.block_kept secs img i1 k1 (λ s p. omega arith)

  blk3 : (u : ℕ) → u < sp.limit → ok u → block sp i3 u ≡ block sp i2 u
  blk3 = q.block_kept dirs i2 i3 k3 (λ s p. omega arith)

  full : (s : ℕ) → 0 < count s ws → length (block sp img s) ≡ sp.unit
  full s p = block_length sp (length img) q.units img refl s (q.new_below s p)

  pub edit_bytes : (u : ℕ) → u < sp.limit → ok u → block sp i3 u ≡ scatter sp.unit ws (target sp.unit (block sp img) us ws n new) (block sp img) u
  unfolding target zero_behind with_data zeroed
  edit_bytes u l k = blk3 u l k ∙ go (ltb n new) refl
    where
      go : (b : Bool) → ltb n new ≡ b
          → block sp (cond b (put_chain sp ws i1 n (replicate (length ws * sp.unit - n) 0)) i1) u
          ≡ scatter sp.unit ws (cond b (zero_behind (length ws * sp.unit) n (laid (block sp img) us)) (laid (block sp img) ws)) (block sp img) u
      go true h =
          let r = length-replicate {A = ℕ} (length ws * sp.unit - n) 0 in
          let gr = q.grows h in
          chain_put sp (length img) q.units ws q.once q.new_below (replicate (length ws * sp.unit - n) 0) i1 len1 n (omega (arith, r, gr.1)) u l
          ∙ ap (λ (c : Bytes). scatter sp.unit ws (sets c n (replicate (length ws * sp.unit - n) 0)) (block sp i1) u)
          (laid_agree (block sp img) (block sp i1) ws (λ s p. blk1 s (q.new_below s p) (q.new_allowed s p)))
          ∙ scatter_ext sp.unit ws (sets (laid (block sp img) ws) n (replicate (length ws * sp.unit - n) 0)) (block sp img) (block sp i1) u (λ p. blk1 u l k)
          ∙ ap (λ (c : Bytes). scatter sp.unit ws c (block sp img) u)
          (zeros_fit (laid (block sp img) ws) (laid (block sp img) us) n (length ws * sp.unit) (laid_length sp.unit (block sp img) ws full) gr.1 gr.2
          (rw (laid_length sp.unit (block sp img) us (λ s p. block_length sp (length img) q.units img refl s (q.old_below s p))) gr.0))
      go false h = blk1 u l k ∙ sym (scatter_same sp.unit (block sp img) ws full u)
