-- Bytes put into a chain: what each unit holds afterwards. Over any space whose units do not meet.
use mathlib.Core.Path.{◌≡◌, sym, ap, ◌∙◌}
use mathlib.Core.Logic.{◌≢◌}
use mathlib.Core.List.{List, [], ◌∷◌}
use Prim.Native.Nat.{ℕ, suc, ◌+◌, ◌*◌, ◌/◌, ◌%◌, ◌≤◌, ◌<◌}
use native.Mathlib.Nat.{div-add-mod', mod-lt, div-lt_iff_lt-mul}
use native.Mathlib.Omega.{arith}
use lib.ListN.{length, get_or, set, take, drop, length-set, length-drop}
use lib.Seq.{sets, length-take-le}
use Rattle.format.specs.Basics.Bytes.{Bytes, part}
use Rattle.format.specs.Layout.Geometry.{Geometry}
use Rattle.format.specs.Layout.Space.{Space, laid, block}
use Rattle.format.specs.Calls.Overwrite.{byte_place, put_chain}
use Rattle.format.specs.Basics.Lists.{count}
use Rattle.theory.specs.Blocks.{scatter}
use Rattle.theory.proofs.Counts.{count_at}
use Rattle.theory.proofs.Contents.{scatter_same, laid_one, scatter_ext}
use Rattle.theory.proofs.Sets.{drop_sets_add, take_sets_in, get_or_sets_out}
use Rattle.frame.specs.Kept.{Where, Kept}
use Rattle.theory.proofs.Bytes.{part_same}
use Rattle.frame.proofs.Kept.{kept_refl, kept_trans}

-- units that do not meet, in an image of len bytes
pub record Units (sp : Space) (len : ℕ) : Type 0 where
  pub some : 0 < sp.unit
  pub far : (x y i j : ℕ) → x ≢ y → x < sp.limit → y < sp.limit → i < sp.unit → j < sp.unit → sp.unit_place x + i ≢ sp.unit_place y + j
  pub room : (x : ℕ) → x < sp.limit → sp.unit_place x + sp.unit ≤ len

module _ (sp : Space) (len : ℕ) (t : Units sp len) where
  pub block_length : (img : Bytes) → length img ≡ len → (u : ℕ) → u < sp.limit → length (block sp img u) ≡ sp.unit
  unfolding block part
  block_length img l u h =
      let r = t.room u h in
      length-take-le sp.unit (drop (sp.unit_place u) img) (rw (length-drop (sp.unit_place u) img) (omega arith))

  pub block_other : (img : Bytes) (y j v : ℕ) → y < sp.limit → j < sp.unit → (x : ℕ) → x < sp.limit → x ≢ y
      → block sp (set img (sp.unit_place y + j) v) x ≡ block sp img x
  unfolding block
  block_other img y j v hy hj x hx n =
      part_same (set img (sp.unit_place y + j) v) img (sp.unit_place x) sp.unit (length-set img (sp.unit_place y + j) v)
      (λ i l. get_or_sets_out img (sp.unit_place y + j) (v ∷ []) (sp.unit_place x + i) 0 (λ k b q. t.far x y i j n hx hy l hj (omega arith)))

  pub block_same : (img : Bytes) (y j v : ℕ) → j < sp.unit → block sp (set img (sp.unit_place y + j) v) y ≡ set (block sp img y) j v
  unfolding block part
  block_same img y j v hj =
      ap (take sp.unit) (drop_sets_add (sp.unit_place y) img j (v ∷ [])) ∙ take_sets_in sp.unit (drop (sp.unit_place y) img) j (v ∷ []) (omega arith)

  module _ (us : List ℕ) (o : (s : ℕ) → count s us ≤ 1) (b : (s : ℕ) → 0 < count s us → s < sp.limit) where
    -- one byte
    pub laid_set : (img : Bytes) → length img ≡ len → (i v : ℕ) → i < length us * sp.unit → laid (block sp (set img (byte_place sp us i) v)) us ≡ set (laid (block sp img) us) i v
    unfolding byte_place
    laid_set img l i v h =
        let k = i / sp.unit in
        let j = i % sp.unit in
        let hk : i / sp.unit < length us = (div-lt_iff_lt-mul t.some).1 h in
        let hj : i % sp.unit < sp.unit = mod-lt i t.some in
        let y = get_or us k 0 in
        let hy : get_or us (i / sp.unit) 0 < sp.limit = b (get_or us (i / sp.unit) 0) (count_at us (i / sp.unit) 0 hk) in
        let img1 = set img (sp.unit_place y + j) v in
        laid_one sp.unit (block sp img) (block sp img1) us o (λ s q. block_length img l s (b s q)) k j v hk hj
        (block_same img y j v hj) (λ s q n. block_other img y j v hy hj s (b s q) n)
        ∙ ap (λ (x : ℕ). set (laid (block sp img) us) x v) (div-add-mod' i sp.unit)

    off : (img : Bytes) (i x u : ℕ) → u < sp.limit → i < length us * sp.unit → count u us ≡ 0 → block sp (set img (byte_place sp us i) x) u ≡ block sp img u
    unfolding byte_place
    off img i x u hu h q =
        let hk : i / sp.unit < length us = (div-lt_iff_lt-mul t.some).1 h in
        let p = count_at us (i / sp.unit) 0 hk in
        block_other img (get_or us (i / sp.unit) 0) (i % sp.unit) x (b (get_or us (i / sp.unit) 0) p) (mod-lt i t.some) u hu
        (λ e. omega (arith, p, ap (λ (y : ℕ). count y us) e))

    pub chain_put : (xs : Bytes) (img : Bytes) → length img ≡ len → (i : ℕ) → i + length xs ≤ length us * sp.unit → (u : ℕ) → u < sp.limit
        → block sp (put_chain sp us img i xs) u ≡ scatter sp.unit us (sets (laid (block sp img) us) i xs) (block sp img) u
    unfolding put_chain
    chain_put [] img l i h u hu =
        sym (scatter_same sp.unit (block sp img) us (λ s q. block_length img l s (b s q)) u)
    chain_put (x ∷ xs) img l i h u hu =
        let img1 = set img (byte_place sp us i) x in
        chain_put xs img1 (length-set img (byte_place sp us i) x ∙ l) (suc i) (omega arith) u hu
        ∙ ap (λ (c : Bytes). scatter sp.unit us (sets c (suc i) xs) (block sp img1) u) (laid_set img l i x (omega arith))
        ∙ scatter_ext sp.unit us (sets (laid (block sp img) us) i (x ∷ xs)) (block sp img) (block sp img1) u (λ q. off img i x u hu (omega arith) q)

    pub chain_kept : (g : Geometry) (P : Where) → ((img : Bytes) (y j v : ℕ) → 0 < count y us → j < sp.unit → Kept g P img (set img (sp.unit_place y + j) v))
        → (xs : Bytes) (img : Bytes) (i : ℕ) → i + length xs ≤ length us * sp.unit → Kept g P img (put_chain sp us img i xs)
    unfolding put_chain byte_place
    chain_kept g P f [] img i h = kept_refl g P img
    chain_kept g P f (x ∷ xs) img i h =
        let hk : i / sp.unit < length us = (div-lt_iff_lt-mul t.some).1 (omega arith) in
        kept_trans g P img (set img (byte_place sp us i) x) (put_chain sp us (set img (byte_place sp us i) x) (suc i) xs)
        (f img (get_or us (i / sp.unit) 0) (i % sp.unit) x (count_at us (i / sp.unit) 0 hk) (mod-lt i t.some))
        (chain_kept g P f xs (set img (byte_place sp us i) x) (suc i) (omega arith))
