-- The image block by block: the header's sector, and the sectors behind it.
use Prim.Native.Nat.{ℕ, zero, suc, ◌+◌, ◌-◌, ◌*◌, ◌≤◌, ◌<◌}
use mathlib.Core.Path.{◌≡◌, sym, ap, ◌∙◌}
use mathlib.Core.List.{◌++◌}
use native.Mathlib.Nat.{mul-le-mul_right}
use native.Mathlib.Numerals.{add-one}
use native.Mathlib.Omega.{arith}
use lib.ListN.{length, take, drop, length-append, length-drop}
use lib.Seq.{sets}
use Rattle.format.specs.Basics.Lists.{join_below}
use Rattle.format.specs.Basics.Bytes.{Bytes}
use Rattle.format.specs.Layout.Geometry.{Geometry, sector_place}
use Rattle.format.specs.Fresh.Plan.{Plan}
use Rattle.format.specs.Fresh.Header.{fresh_header}
use Rattle.format.specs.Fresh.Image.{fresh_sector, fresh_image}
use Rattle.theory.proofs.Sets.{lent_back}
use Rattle.frame.specs.Kept.{Sized}
use Rattle.fresh.proofs.Numbers.{image_short}
use Rattle.fresh.proofs.Blocks.{length_header, length_sector}
use Rattle.fresh_sectors.specs.declared.Parts.{Parts}
use Rattle.fresh_sectors.specs.Parts.{Stands, sizes, plan}
use Rattle.fresh_sectors.specs.Laid.{Laid}
use Rattle.fresh_sectors.proofs.Laying.{join_split, laid_first, laid_step, laid_end}
use Rattle.formatting.specs.Numbers.{image_block}

module _ (g : Geometry) (p : Plan) where
  image_blocks : join_below (suc p.sectors) (image_block g p) ≡ fresh_image g p
  unfolding fresh_image image_block join_below
  image_blocks =
      ap (λ (n : ℕ). join_below n (image_block g p)) (sym (add-one p.sectors))
      ∙ join_split 1 p.sectors (image_block g p) (fresh_sector g p) (λ i. ap (image_block g p) (add-one i))

  block_sized : Sized g → (i : ℕ) → length (image_block g p i) ≡ g.sector_bytes
  unfolding image_block
  block_sized z zero = length_header g p z
  block_sized z (suc i) = length_sector g p z i

module _ (l : Parts) (st : Stands l) where
  abbrev Written : Bytes → ℕ → Bytes → Type 0
  Written = Laid l.geometry.bytes (suc l.plan.sectors) (image_block (sizes l) (plan l))

  sized : (i : ℕ) → length (image_block (sizes l) (plan l) i) ≡ l.geometry.bytes
  sized = block_sized (sizes l) (plan l) st.headed.sized

  pub image_few : suc l.plan.sectors * l.geometry.bytes ≤ 0x400_0000
  image_few = image_short (sizes l) (plan l) st.headed.sized st.planned

  -- sector s lies in the image
  pub image_room : (s at : ℕ) → s < l.plan.sectors → at ≡ sector_place (sizes l) s → at + l.geometry.bytes ≤ suc l.plan.sectors * l.geometry.bytes
  unfolding sector_place
  image_room s at h e = let k : suc (s + 1) ≤ suc l.plan.sectors = omega arith in omega (arith, e, mul-le-mul_right l.geometry.bytes k)

  pub header_written : (x rest : Bytes) → x ≡ fresh_header (sizes l) (plan l) → Written (x ++ rest) 1 (x ++ rest)
  unfolding image_block
  header_written x rest e = laid_first l.geometry.bytes (suc l.plan.sectors) (image_block (sizes l) (plan l)) (x ++ rest) sized x rest (omega arith) e

  pub header_long : (x img : Bytes) → x ≡ fresh_header (sizes l) (plan l) → length img ≡ suc l.plan.sectors * l.geometry.bytes
      → length (x ++ drop (l.geometry.bytes - 0) img) ≡ suc l.plan.sectors * l.geometry.bytes
  header_long x img e w =
      let m = l.geometry.bytes in
      let d : length x ≡ m = ap length e ∙ length_header (sizes l) (plan l) st.headed.sized in
      omega (arith, length-append x (drop (m - 0) img), length-drop (m - 0) img)

  -- a sector that was lent and is back
  pub sector_written : (s at : ℕ) (old b x : Bytes) → length old ≡ suc l.plan.sectors * l.geometry.bytes → s < l.plan.sectors → at ≡ sector_place (sizes l) s
      → Written old (s + 1) b → x ≡ fresh_sector (sizes l) (plan l) s
      → Written old (s + 1 + 1) (take at b ++ (x ++ drop (at + l.geometry.bytes - at) (drop at b)))
  unfolding sector_place image_block
  sector_written s at old b x w h e a q =
      let m = l.geometry.bytes in
      let k : x ≡ image_block (sizes l) (plan l) (s + 1) = rw add-one q in
      let d : length x ≡ m = ap length k ∙ sized (s + 1) in
      let r = image_room s at h e in
      laid_step m (suc l.plan.sectors) (image_block (sizes l) (plan l)) old sized (s + 1) b _ x (omega arith) a (omega arith) k
      (lent_back b x at (at + m) (omega arith) (omega (arith, a.long)) ∙ ap (λ (i : ℕ). sets b i x) e)

  pub image_written : (s : ℕ) (old b : Bytes) → length old ≡ suc l.plan.sectors * l.geometry.bytes → Written old (s + 1) b → l.plan.sectors ≤ s → b ≡ fresh_image (sizes l) (plan l)
  image_written s old b w a h =
      laid_end l.geometry.bytes (suc l.plan.sectors) (image_block (sizes l) (plan l)) old sized (s + 1) b w a (omega arith)
      ∙ image_blocks (sizes l) (plan l)
