-- A link, a colour and a blank entry put into an image: what the entries then hold.
use mathlib.Core.Path.{◌≡◌, refl, sym, ap, ◌∙◌, subst}
use mathlib.Core.Logic.{◌≢◌, inl, inr}
use mathlib.Core.List.{List, [], ◌∷◌}
use Prim.Native.Nat.{ℕ, ◌+◌, ◌≤◌, ◌<◌}
use native.Mathlib.Nat.{add-zero}
use native.Mathlib.Omega.{arith}
use native.Mathlib.Decide.{ℕ_discrete}
use lib.ListN.{length, get_or}
use lib.Seq.{sets}
use Rattle.format.specs.Basics.Lists.{count}
use Rattle.format.specs.Basics.Bytes.{Bytes, byte_at, part, number, le32, put_bytes, put32}
use Rattle.format.specs.Layout.Geometry.{Geometry}
use Rattle.format.specs.Layout.Entry.{Field, field_byte, black, colour}
use Rattle.format.specs.Layout.NewEntry.{blank_entry}
use Rattle.format.specs.Layout.Directory.{Directory, directory_of, entry_place, entry_count, entry_in}
use Rattle.format.specs.Layout.Siblings.{Slot}
use Rattle.theory.specs.TreeDraw.{link}
use Rattle.theory.proofs.Counts.{eqb_cases, bit_self, bit_other}
use Rattle.theory.proofs.Sets.{get_or_sets_in, get_or_sets_out}
use Rattle.theory.proofs.Bytes.{length_le32, number_same}
use Rattle.theory.proofs.Trees.Pointwise.{link_same}
use Rattle.frame.specs.Kept.{Sized, Kept, Off, Table}
use Rattle.frame.specs.Redraw.{SameBody}
use Rattle.frame.specs.Unlink.{link_put, blackened_at, LinkSet, BlackSet, BlankSet}
use Rattle.frame.proofs.Kept.{kept_refl, kept_trans}
use Rattle.frame.proofs.Entry.{entry_length}
use Rattle.frame.proofs.EntryPuts.{put_kept_lem, put_other, put_same}
use Rattle.frame.proofs.Redrawing.{field_low}
use Rattle.frame.proofs.Bodies.{body_sets, body_eq, body_refl}
use Rattle.frame.proofs.Links.{link_reads, link_put_lem, link_other, colour_off}
use Rattle.frame.proofs.MadeEntries.{blank_long, sets_whole}

pub body_trans : (a b c : Bytes) → SameBody a b → SameBody b c → SameBody a c
body_trans a b c p q =
    record { size = q.size ∙ p.size; front = λ i h. q.front i h ∙ p.front i h; back = λ i h. q.back i h ∙ p.back i h }

module _ (g : Geometry) (z : Sized g) (len : ℕ) (secs : List ℕ) (t : Table g len secs) where
  -- the entries of an image by these sectors
  abbrev pub dir_of : Bytes → Directory
  dir_of img = directory_of g img secs

  entry_of : (img : Bytes) (y : ℕ) → (dir_of img).entry y ≡ entry_in g img secs y
  unfolding directory_of
  entry_of img y = refl

  -- bytes put into an entry
  module _ (img : Bytes) (e j : ℕ) (vs : Bytes) (he : e < entry_count g secs) (fits : j + length vs ≤ 128) where
    abbrev new : Bytes
    new = put_bytes img (entry_place g secs e + j) vs

    same : (dir_of new).entry e ≡ sets ((dir_of img).entry e) j vs
    same = entry_of new e ∙ put_same g z len secs t img e j vs he fits ∙ ap (λ (b : Bytes). sets b j vs) (sym (entry_of img e))

    other : (y : ℕ) → y ≢ e → (dir_of new).entry y ≡ (dir_of img).entry y
    other y n = entry_of new y ∙ put_other g z len secs t img e j vs he fits y n ∙ sym (entry_of img y)

    bodies : 67 ≤ j → j + length vs ≤ 80 → (y : ℕ) → SameBody ((dir_of img).entry y) ((dir_of new).entry y)
    bodies p q y =
        elim (ℕ_discrete y e) [
          | yes i ↦ rw i (subst (λ (b : Bytes). SameBody ((dir_of img).entry e) b) (sym same) (body_sets ((dir_of img).entry e) j vs p q))
          | no n ↦ body_eq ((dir_of img).entry y) ((dir_of new).entry y) (other y n)
        ]

  -- ---- a link

  module _ (img : Bytes) (k : Field) (e v : ℕ) (he : e < entry_count g secs) (hl : length img ≡ len) (hv : v < 0x1_0000_0000) where
    abbrev slot : Slot
    slot = record { entry = e; field = k }

    abbrev linked : Bytes
    linked = link_put (entry_place g secs) slot v img

    fits : field_byte k + length (le32 v) ≤ 128
    fits = omega (arith, (field_low k).1, length_le32 v)

    long : length ((dir_of img).entry e) ≡ 128
    long = ap length (entry_of img e) ∙ entry_length g z len secs t img e 0 0 he hl

    pub link_kept : Kept g (Off secs) img linked
    unfolding link_put put32
    link_kept = put_kept_lem g z len secs t img e (field_byte k) (le32 v) he fits

    pub link_set : LinkSet (dir_of img) (dir_of linked) k e v
    unfolding link_put put32
    link_set =
        let d = dir_of img in
        let d₂ = dir_of linked in
        let s = same img e (field_byte k) (le32 v) he fits in
        record {
          body = bodies img e (field_byte k) (le32 v) he fits (omega (arith, (field_low k).0)) (omega (arith, (field_low k).1, length_le32 v));
          colours = λ y. elim (ℕ_discrete y e) [
            | yes i ↦ rw i (colour_off d d₂ e v k s)
            | no n ↦ ap colour (other img e (field_byte k) (le32 v) he fits y n)
          ];
          here = link_put_lem d d₂ e v k s long hv;
          others = λ j y n. elim (ℕ_discrete y e) [
            | yes i ↦ rw i (link_other d d₂ e v k s j (λ q. n q i))
            | no m ↦ link_same d d₂ y (other img e (field_byte k) (le32 v) he fits y m) j
          ];
        }

  -- ---- a colour

  module _ (img : Bytes) (e : ℕ) (he : e < entry_count g secs) (hl : length img ≡ len) where
    abbrev painted : Bytes
    painted = put_bytes img (entry_place g secs e + 67) (black ∷ [])

    black_long : length ((dir_of img).entry e) ≡ 128
    black_long = ap length (entry_of img e) ∙ entry_length g z len secs t img e 0 0 he hl

    paint_same : (dir_of painted).entry e ≡ sets ((dir_of img).entry e) 67 (black ∷ [])
    paint_same = same img e 67 (black ∷ []) he (omega arith)

    paint_links : (j : Field) (y : ℕ) → link (dir_of painted) j y ≡ link (dir_of img) j y
    paint_links j y =
        elim (ℕ_discrete y e) [
          | yes i ↦
              rw i
              (link_reads (dir_of painted) j e ∙ ap (λ (b : Bytes). number (part b (field_byte j) 4)) paint_same
              ∙ number_same (sets ((dir_of img).entry e) 67 (black ∷ [])) ((dir_of img).entry e) (field_byte j) (field_byte j) 4
              (λ i l. get_or_sets_out ((dir_of img).entry e) 67 (black ∷ []) (field_byte j + i) 0 (λ m c q. omega (arith, (field_low j).0)))
              ∙ sym (link_reads (dir_of img) j e))
          | no n ↦ link_same (dir_of img) (dir_of painted) y (other img e 67 (black ∷ []) he (omega arith) y n) j
        ]

    paint_black : colour ((dir_of painted).entry e) ≡ black
    unfolding colour byte_at
    paint_black = ap (λ (b : Bytes). get_or b 67 0) paint_same ∙ get_or_sets_in ((dir_of img).entry e) 67 (black ∷ []) 0 0 (omega arith) (omega (arith, black_long))

    paint_other : (y : ℕ) → y ≢ e → colour ((dir_of painted).entry y) ≡ colour ((dir_of img).entry y)
    paint_other y n = ap colour (other img e 67 (black ∷ []) he (omega arith) y n)

    paint_body : (y : ℕ) → SameBody ((dir_of img).entry y) ((dir_of painted).entry y)
    paint_body = bodies img e 67 (black ∷ []) he (omega arith) (omega arith) (omega arith)

    paint_kept : Kept g (Off secs) img painted
    paint_kept = put_kept_lem g z len secs t img e 67 (black ∷ []) he (omega arith)

  pub black_kept : (ys : List ℕ) (img : Bytes) → length img ≡ len → ((y : ℕ) → 0 < count y ys → y < entry_count g secs)
      → Kept g (Off secs) img (blackened_at (entry_place g secs) ys img)
  unfolding blackened_at
  black_kept [] img hl h = kept_refl g (Off secs) img
  black_kept (y ∷ ys) img hl h =
      let i1 = painted img y (h y (omega (arith, bit_self y))) hl in
      let k = paint_kept img y (h y (omega (arith, bit_self y))) hl in
      kept_trans g (Off secs) img i1 (blackened_at (entry_place g secs) ys i1) k (black_kept ys i1 (k.size ∙ hl) (λ u c. h u (omega arith)))

  pub black_set : (ys : List ℕ) (img : Bytes) → length img ≡ len → ((y : ℕ) → 0 < count y ys → y < entry_count g secs)
      → BlackSet (dir_of img) (dir_of (blackened_at (entry_place g secs) ys img)) ys
  unfolding blackened_at
  black_set [] img hl h = record { body = λ y. body_refl ((dir_of img).entry y); links = λ j y. refl; painted = λ y c. absurd (omega arith); colours = λ y c. refl }
  black_set (e ∷ ys) img hl h =
      let he = h e (omega (arith, bit_self e)) in
      let i1 = painted img e he hl in
      let k = paint_kept img e he hl in
      let r = black_set ys i1 (k.size ∙ hl) (λ u c. h u (omega arith)) in
      let i2 = blackened_at (entry_place g secs) ys i1 in
      record {
        body = λ y. body_trans ((dir_of img).entry y) ((dir_of i1).entry y) ((dir_of i2).entry y) (paint_body img e he hl y) (r.body y);
        links = λ j y. r.links j y ∙ paint_links img e he hl j y;
        painted = λ y c.
            elim (native.Mathlib.Decide.dec_lt 0 (count y ys)) [
              | yes q ↦ r.painted y q
              | no q ↦
                  r.colours y (omega arith)
                  ∙ elim (eqb_cases y e) [ inl i ↦ rw i.0 (paint_black img e he hl) | inr i ↦ absurd (omega (arith, c, bit_other y e i.0)) ]
            ];
        colours = λ y c. r.colours y (omega arith) ∙ paint_other img e he hl y (λ q. omega (arith, c, bit_self e, ap (λ (i : ℕ). count i (e ∷ ys)) q));
      }

  -- ---- a blank entry

  module _ (img : Bytes) (x : ℕ) (hx : x < entry_count g secs) (hl : length img ≡ len) where
    abbrev blanked : Bytes
    blanked = put_bytes img (entry_place g secs x) blank_entry

    shift : blanked ≡ put_bytes img (entry_place g secs x + 0) blank_entry
    shift = ap (λ (k : ℕ). put_bytes img k blank_entry) (sym (add-zero _))

    whole : 0 + length blank_entry ≤ 128
    whole = omega (arith, blank_long)

    pub blank_kept : Kept g (Off secs) img blanked
    blank_kept = rw shift (put_kept_lem g z len secs t img x 0 blank_entry hx whole)

    pub blank_set : BlankSet (dir_of img) (dir_of blanked) x
    blank_set =
        rw shift (record {
          blank = same img x 0 blank_entry hx whole
              ∙ sets_whole ((dir_of img).entry x) blank_entry (ap length (entry_of img x) ∙ entry_length g z len secs t img x 0 0 hx hl ∙ sym blank_long);
          others = other img x 0 blank_entry hx whole;
        })
