-- Cells released and linked, in the bytes of an image: the table is freed and chained.
use mathlib.Core.Path.{◌≡◌, refl, sym, ap, ◌∙◌}
use mathlib.Core.Logic.{inl, inr}
use mathlib.Core.List.{List, [], ◌∷◌}
use mathlib.Core.Bool.{Bool, true, false, cond}
use Prim.Native.Nat.{min, ◌-◌, ℕ, ◌*◌, ◌≤◌, ◌<◌}
use native.Mathlib.Decide.{dec_lt}
use native.Mathlib.Omega.{arith}
use lib.Dec.{eqb}
use lib.ListN.{length, drop, take}
use Rattle.format.specs.Basics.Lists.{count, bit}
use Rattle.format.specs.Basics.Bytes.{Bytes}
use Rattle.format.specs.Layout.Geometry.{Geometry, cells_in}
use Rattle.format.specs.Layout.Chain.{FREE, start_of, END}
use Rattle.format.specs.Layout.Space.{Space}
use Rattle.format.specs.Layout.Tables.{cell_place_in, cell_in}
use Rattle.format.specs.Calls.SetLength.{put_cell, release, link, relinked}
use Rattle.theory.specs.Links.{freed, rechain, chained, Linked}
use Rattle.theory.proofs.Counts.{eqb_cases, bit_self, count_split}
use Rattle.theory.proofs.Relinks.{freed_in, freed_out, chained_out, chained_ext}
use Rattle.frame.specs.Kept.{Sized, Kept, Off, Table}
use Rattle.frame.proofs.Kept.{kept_refl, kept_trans}
use Rattle.frame.proofs.Things.{written, cell_put, put_kept_lem}
use Rattle.theory.proofs.Cuts.{rechain_changes}

module _ (g : Geometry) (z : Sized g) (len : ℕ) (secs : List ℕ) (t : Table g len secs) (sp : Space) (pl : (u : ℕ) → sp.cell_place u ≡ cell_place_in g secs u) where
  -- the table that an image holds
  abbrev pub cells_of : Bytes → ℕ → ℕ
  cells_of img = cell_in g img secs (cells_in g * length secs)

  pub put_cells : (img : Bytes) → length img ≡ len → (u c : ℕ) → u < cells_in g * length secs → c < 0x1_0000_0000
      → (s : ℕ) → cells_of (put_cell sp img u c) s ≡ written u c (cells_of img) s
  unfolding put_cell
  put_cells img l u c hu hc s = rw (pl u) (cell_put g z len secs t img l u c hu hc s)

  module _ (T : List ℕ) (h : (s : ℕ) → 0 < count s secs → 0 < count s T) where
    pub put_cell_kept : (img : Bytes) (u c : ℕ) → u < cells_in g * length secs → Kept g (Off T) img (put_cell sp img u c)
    unfolding put_cell
    put_cell_kept img u c hu = rw (pl u) (put_kept_lem g z len secs t img u c hu T h)

    pub release_kept : (us : List ℕ) → ((u : ℕ) → 0 < count u us → u < cells_in g * length secs) → (img : Bytes) → Kept g (Off T) img (release sp us img)
    unfolding release
    release_kept [] b img = kept_refl g (Off T) img
    release_kept (u ∷ us) b img =
        kept_trans g (Off T) img (put_cell sp img u FREE) (release sp us (put_cell sp img u FREE))
        (put_cell_kept img u FREE (b u (omega (arith, bit_self u)))) (release_kept us (λ x q. b x (omega arith)) (put_cell sp img u FREE))

    pub link_kept : (us : List ℕ) → ((u : ℕ) → 0 < count u us → u < cells_in g * length secs) → (img : Bytes) → Kept g (Off T) img (link sp us img)
    unfolding link
    link_kept [] b img = kept_refl g (Off T) img
    link_kept (u ∷ us) b img =
        kept_trans g (Off T) img (put_cell sp img u (start_of us)) (link sp us (put_cell sp img u (start_of us)))
        (put_cell_kept img u (start_of us) (b u (omega (arith, bit_self u)))) (link_kept us (λ x q. b x (omega arith)) (put_cell sp img u (start_of us)))

  own : (s : ℕ) → 0 < count s secs → 0 < count s secs
  own s q = q

  pub release_cells : (us : List ℕ) → ((u : ℕ) → 0 < count u us → u < cells_in g * length secs) → (img : Bytes) → length img ≡ len
      → (s : ℕ) → cells_of (release sp us img) s ≡ freed us (cells_of img) s
  unfolding release freed
  release_cells [] b img l s = refl
  release_cells (u ∷ us) b img l s =
      let hu = b u (omega (arith, bit_self u)) in
      let img1 = put_cell sp img u FREE in
      let k = put_cells img l u FREE hu (omega arith) s in
      let r = release_cells us (λ x q. b x (omega arith)) img1 ((put_cell_kept secs own img u FREE hu).size ∙ l) s in
      elim (dec_lt 0 (count s us)) [
        | yes p ↦ r ∙ freed_in us (cells_of img1) s p ∙ sym (same (eqb s u) (freed us (cells_of img) s) (freed_in us (cells_of img) s p))
        | no p ↦ r ∙ freed_out us (cells_of img1) s (omega arith) ∙ k ∙ ap (λ (x : ℕ). cond (eqb s u) FREE x) (sym (freed_out us (cells_of img) s (omega arith)))
      ]
    where
      same : (b : Bool) (x : ℕ) → x ≡ FREE → cond b FREE x ≡ FREE
      same true x e = refl
      same false x e = e

  head_word : (us : List ℕ) → ((u : ℕ) → 0 < count u us → u < 0x1_0000_0000) → start_of us < 0x1_0000_0000
  head_word [] h = omega arith
  head_word (u ∷ us) h = h u (omega (arith, bit_self u))

  pub link_cells : (ws : List ℕ) → ((u : ℕ) → 0 < count u ws → u < cells_in g * length secs) → ((u : ℕ) → 0 < count u ws → u < 0x1_0000_0000) → ((u : ℕ) → count u ws ≤ 1)
      → (img : Bytes) → length img ≡ len → (s : ℕ) → cells_of (link sp ws img) s ≡ chained ws (cells_of img) s
  unfolding link chained
  link_cells [] b b2 o img l s = refl
  link_cells (w ∷ ws) b b2 o img l s =
      let hu = b w (omega (arith, bit_self w)) in
      let c = start_of ws in
      let img1 = put_cell sp img w c in
      let k = put_cells img l w c hu (head_word ws (λ u q. b2 u (omega arith))) s in
      let r = link_cells ws (λ x q. b x (omega arith)) (λ x q. b2 x (omega arith)) (λ x. omega (arith, o x)) img1 ((put_cell_kept secs own img w c hu).size ∙ l) s in
      elim (eqb_cases s w) [
        | inl e ↦
            let k2 : cells_of img1 s ≡ start_of ws = k ∙ rw e.1 in
            rw e.1 (r ∙ chained_out ws (cells_of img1) s (omega (arith, o s, ap bit e.1)) ∙ k2)
        | inr e ↦
            let k2 : cells_of img1 s ≡ cells_of img s = k ∙ rw e.1 in
            rw e.1 (r ∙ chained_ext ws (cells_of img1) (cells_of img) s k2)
      ]

  relink_cells : (us ws : List ℕ) → ((u : ℕ) → 0 < count u us → u < cells_in g * length secs) → ((u : ℕ) → 0 < count u ws → u < cells_in g * length secs)
      → ((u : ℕ) → 0 < count u ws → u < 0x1_0000_0000) → ((u : ℕ) → count u ws ≤ 1)
      → (img : Bytes) → length img ≡ len → (s : ℕ) → cells_of (link sp ws (release sp us img)) s ≡ rechain us ws (cells_of img) s
  unfolding rechain
  relink_cells us ws bu bw b2 o img l s =
      link_cells ws bw b2 o (release sp us img) ((release_kept secs own us bu img).size ∙ l) s
      ∙ chained_ext ws (cells_of (release sp us img)) (freed us (cells_of img)) s (release_cells us bu img l s)

  relink_kept : (T : List ℕ) → ((s : ℕ) → 0 < count s secs → 0 < count s T) → (us ws : List ℕ)
      → ((u : ℕ) → 0 < count u us → u < cells_in g * length secs) → ((u : ℕ) → 0 < count u ws → u < cells_in g * length secs)
      → (img : Bytes) → Kept g (Off T) img (link sp ws (release sp us img))
  relink_kept T h us ws bu bw img =
      kept_trans g (Off T) img (release sp us img) (link sp ws (release sp us img)) (release_kept T h us bu img) (link_kept T h ws bw (release sp us img))

  -- ---- the chain us becomes ws, of which the first units are the same

  module _ (us ws : List ℕ) (bu : (u : ℕ) → 0 < count u us → u < cells_in g * length secs) (bw : (u : ℕ) → 0 < count u ws → u < cells_in g * length secs) where
    abbrev kept : ℕ
    kept = min (length us) (length ws)

    released_in : (u : ℕ) → 0 < count u (drop kept us) → u < cells_in g * length secs
    released_in u q = bu u (omega (arith, count_split u kept us))

    linked_in : (u : ℕ) → 0 < count u (drop (kept - 1) ws) → u < cells_in g * length secs
    linked_in u q = bw u (omega (arith, count_split u (kept - 1) ws))

    pub relinked_kept : (T : List ℕ) → ((s : ℕ) → 0 < count s secs → 0 < count s T) → (img : Bytes) → Kept g (Off T) img (relinked sp us ws img)
    unfolding relinked
    relinked_kept T h img = relink_kept T h (drop kept us) (drop (kept - 1) ws) released_in linked_in img

    pub relinked_cells : (img : Bytes) (N : ℕ) → length img ≡ len → N ≤ END → Linked (cells_of img) N us → take kept us ≡ take kept ws
        → ((u : ℕ) → 0 < count u ws → u < 0x1_0000_0000) → ((u : ℕ) → count u ws ≤ 1)
        → (s : ℕ) → cells_of (relinked sp us ws img) s ≡ rechain us ws (cells_of img) s
    unfolding relinked rechain
    relinked_cells img N l lim h e w o s =
        relink_cells (drop kept us) (drop (kept - 1) ws) released_in linked_in
        (λ u q. w u (omega (arith, count_split u (kept - 1) ws))) (λ u. omega (arith, o u, count_split u (kept - 1) ws)) img l s
        ∙ rechain_changes us ws (cells_of img) N lim h o kept (omega arith) (omega arith) e s
