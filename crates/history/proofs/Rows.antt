-- The rows that a path means are the streams that it hits; and an edit of a stream changes its row alone.
use Prim.Native.Nat.{ℕ, ◌+◌, ◌<◌}
use mathlib.Core.Path.{◌≡◌, refl, sym, ap, ap₂, ◌∙◌}
use mathlib.Core.Logic.{◌≢◌}
use mathlib.Core.Bool.{Bool, true, false, cond, ◌||◌}
use mathlib.Core.List.{List, [], ◌∷◌, ◌++◌, map, append_assoc, map-append}
use native.Mathlib.Omega.{arith}
use native.Mathlib.Decide.{ℕ_discrete}
use lib.Dec.{eqb}
use lib.ListN.{length}
use Rattle.format.specs.Basics.Bytes.{Bytes}
use Rattle.format.specs.Basics.Lists.{any, bit, count}
use Rattle.format.specs.Layout.Name.{Name}
use Rattle.format.specs.Layout.Directory.{Directory}
use Rattle.format.specs.Layout.Entry.{name, kind, is_stream}
use Rattle.format.specs.Layout.Tree.{Forest, empty, broken, node, entries}
use Rattle.format.specs.Layout.Volume.{Volume}
use Rattle.format.specs.Layout.Stream.{contents}
use Rattle.format.specs.Calls.Paths.{Path, names}
use Rattle.format.specs.History.Rows.{Row, rows_in, means, has_row, row_length}
use Rattle.format.specs.History.Step.{change}
use Rattle.theory.proofs.Counts.{count_append, bit_self}
use Rattle.history.specs.Alike.{Alike}
use Rattle.theory.proofs.Trees.Grow.{count_node}
use Rattle.history.proofs.Hits.{Want, advance, strip, is_done, own_hit, hits, strip_snoc, same_path_strip, hits_le, own_hit_le}

unfoldable pub meant_lengths : List Row → Path → List ℕ
meant_lengths [] p = []
meant_lengths (r ∷ rs) p = cond (means p r) (length r.bytes ∷ []) [] ++ meant_lengths rs p

unfoldable pub non_empty : List ℕ → Bool
non_empty [] = false
non_empty (x ∷ xs) = true

unfoldable pub first_or0 : List ℕ → ℕ
first_or0 [] = 0
first_or0 (x ∷ xs) = x

pub has_row_meant : (rows : List Row) (p : Path) → has_row rows p ≡ non_empty (meant_lengths rows p)
unfolding meant_lengths non_empty has_row any
has_row_meant [] p = refl
has_row_meant (r ∷ rs) p = go (means p r) (has_row_meant rs p)
  where
    go : (t : Bool) → has_row rs p ≡ non_empty (meant_lengths rs p) → (t || has_row rs p) ≡ non_empty (cond t (length r.bytes ∷ []) [] ++ meant_lengths rs p)
    go true h = refl
    go false h = h

pub row_length_meant : (rows : List Row) (p : Path) → row_length rows p ≡ first_or0 (meant_lengths rows p)
unfolding meant_lengths first_or0 row_length
row_length_meant [] p = refl
row_length_meant (r ∷ rs) p = go (means p r) (row_length_meant rs p)
  where
    go : (t : Bool) → row_length rs p ≡ first_or0 (meant_lengths rs p) →
        cond t (length r.bytes) (row_length rs p) ≡ first_or0 (cond t (length r.bytes ∷ []) [] ++ meant_lengths rs p)
    go true h = refl
    go false h = h

meant_append : (a b : List Row) (p : Path) → meant_lengths (a ++ b) p ≡ meant_lengths a p ++ meant_lengths b p
unfolding meant_lengths
meant_append [] b p = refl
meant_append (r ∷ a) b p =
    ap (λ t. cond (means p r) (length r.bytes ∷ []) [] ++ t) (meant_append a b p)
    ∙ sym (append_assoc (cond (means p r) (length r.bytes ∷ []) []) (meant_lengths a p) (meant_lengths b p))

-- the row of the entry y, below `before`
row_means : (p : Path) (before : List Name) (m : Name) (bytes : Bytes) →
    means p (record { path = before ++ (m ∷ []); bytes = bytes }) ≡ is_done (advance (strip (names p) before) m)
unfolding means
row_means p before m bytes = same_path_strip (names p) (before ++ (m ∷ [])) ∙ ap is_done (strip_snoc (names p) before m)

own_hit_no_stream : (d : Directory) (k : Want) (y : ℕ) → is_stream (d.entry y) ≡ false → own_hit d k y ≡ []
unfolding own_hit
own_hit_no_stream d k y e = rw e

own_hit_stream : (d : Directory) (k : Want) (y : ℕ) → is_stream (d.entry y) ≡ true → own_hit d k y ≡ cond (is_done (advance k (name (d.entry y)))) (y ∷ []) []
unfolding own_hit
own_hit_stream d k y e = rw e

append_regroup : (a b c d : List ℕ) → a ++ (b ++ (c ++ d)) ≡ a ++ b ++ c ++ d
append_regroup a b c d = sym (append_assoc (a ++ b) c d ∙ append_assoc a b (c ++ d))

pub rows_meant : (v : Volume) (img : Bytes) (p : Path) (before : List Name) (t : Forest) →
    meant_lengths (rows_in v img before t) p ≡ map (λ x. length (contents v img x)) (hits v.directory (strip (names p) before) t)
unfolding rows_in hits meant_lengths
rows_meant v img p before empty = refl
rows_meant v img p before broken = refl
rows_meant v img p before (node l y b r) =
    let m = name (v.directory.entry y) in
    let path = before ++ (m ∷ []) in
    let st = is_stream (v.directory.entry y) in
    let k = strip (names p) before in
    let f : ℕ → ℕ = λ x. length (contents v img x) in
    let one : List Row = cond st (record { path = path; bytes = contents v img y } ∷ []) [] in
    meant_append (rows_in v img before l ++ one ++ rows_in v img path b) (rows_in v img before r) p
    ∙ ap₂ ◌++◌
    (meant_append (rows_in v img before l ++ one) (rows_in v img path b) p
    ∙ ap₂ ◌++◌ (meant_append (rows_in v img before l) one p ∙ ap₂ ◌++◌ (rows_meant v img p before l) (one_meant st refl))
    (rows_meant v img p path b ∙ ap (λ w. map f (hits v.directory w b)) (strip_snoc (names p) before m)))
    (rows_meant v img p before r)
    ∙ sym (map-append f (hits v.directory k l) (own_hit v.directory k y ++ (hits v.directory (advance k m) b ++ hits v.directory k r))
    ∙ ap (λ t. map f (hits v.directory k l) ++ t) (map-append f (own_hit v.directory k y) (hits v.directory (advance k m) b ++ hits v.directory k r)
    ∙ ap (λ t. map f (own_hit v.directory k y) ++ t) (map-append f (hits v.directory (advance k m) b) (hits v.directory k r)))
    ∙ append_regroup (map f (hits v.directory k l)) (map f (own_hit v.directory k y)) (map f (hits v.directory (advance k m) b))
    (map f (hits v.directory k r)))
  where
    one_meant : (st : Bool) → is_stream (v.directory.entry y) ≡ st →
        meant_lengths (cond st (record { path = before ++ (name (v.directory.entry y) ∷ []); bytes = contents v img y } ∷ []) []) p
        ≡ map (λ x. length (contents v img x)) (own_hit v.directory (strip (names p) before) y)
    one_meant false e = sym (ap (map (λ x. length (contents v img x))) (own_hit_no_stream v.directory (strip (names p) before) y e))
    one_meant true e =
        rw (row_means p before (name (v.directory.entry y)) (contents v img y), own_hit_stream v.directory (strip (names p) before) y e)
        (go (is_done (advance (strip (names p) before) (name (v.directory.entry y)))))
      where
        go : (t : Bool) → cond t (length (contents v img y) ∷ []) [] ++ [] ≡ map (λ x. length (contents v img x)) (cond t (y ∷ []) [])
        go true = refl
        go false = refl

-- ---- an edit of the stream e changes its row alone

module _ (v w : Volume) (img img' : Bytes) (e : ℕ) (p : Path) (f : Bytes → Bytes) (alike : Alike v.directory w.directory)
    (mine_is : contents w img' e ≡ f (contents v img e))
    (others : (i : ℕ) → i < v.directory.count → i ≢ e → is_stream (v.directory.entry i) ≡ true → contents w img' i ≡ contents v img i) where
  one_row : (before : List Name) (y : ℕ) → y < v.directory.count →
      ((x : ℕ) → 0 < count x (own_hit v.directory (strip (names p) before) y) → x ≡ e) →
      (is_stream (v.directory.entry y) ≡ true → y ≡ e → 0 < count e (own_hit v.directory (strip (names p) before) y)) → (st : Bool) →
      is_stream (v.directory.entry y) ≡ st →
      cond st (record { path = before ++ (name (v.directory.entry y) ∷ []); bytes = contents w img' y } ∷ []) []
      ≡ map (change p f) (cond st (record { path = before ++ (name (v.directory.entry y) ∷ []); bytes = contents v img y } ∷ []) [])
  unfolding change
  one_row before y inside only must false z = refl
  one_row before y inside only must true z =
      rw (row_means p before (name (v.directory.entry y)) (contents v img y))
      (elim (ℕ_discrete y e) [
        | yes q ↦ rw (hit y e q z (must z q)) (ap (λ x. bytes_row x ∷ []) (ap (contents w img') q ∙ mine_is ∙ ap (λ x. f (contents v img x)) (sym q)))
        | no q ↦ rw (no_hit y z (only y) q) (ap (λ x. bytes_row x ∷ []) (others y inside q z))
      ])
    where
      bytes_row : Bytes → Row
      bytes_row b = record { path = before ++ (name (v.directory.entry y) ∷ []); bytes = b }

      hit : (y e : ℕ) → y ≡ e → is_stream (v.directory.entry y) ≡ true → 0 < count e (own_hit v.directory (strip (names p) before) y) →
          is_done (advance (strip (names p) before) (name (v.directory.entry y))) ≡ true
      hit y e q st h =
          go (is_done (advance (strip (names p) before) (name (v.directory.entry y)))) refl (rw (own_hit_stream v.directory (strip (names p) before) y st) at h)
        where
          go : (t : Bool) → is_done (advance (strip (names p) before) (name (v.directory.entry y))) ≡ t → 0 < count e (cond t (y ∷ []) []) → t ≡ true
          go true u h = refl
          go false u h = absurd (omega arith)

      no_hit : (y : ℕ) → is_stream (v.directory.entry y) ≡ true → (0 < count y (own_hit v.directory (strip (names p) before) y) → y ≡ e) → y ≢ e →
          is_done (advance (strip (names p) before) (name (v.directory.entry y))) ≡ false
      no_hit y st h q =
          go (is_done (advance (strip (names p) before) (name (v.directory.entry y)))) (rw (own_hit_stream v.directory (strip (names p) before) y st) at h)
        where
          go : (t : Bool) → (0 < count y (cond t (y ∷ []) []) → y ≡ e) → t ≡ false
          go false h = refl
          go true h = absurd (q (h (omega (arith, bit_self y))))

  pub rows_changed : is_stream (v.directory.entry e) ≡ true → (before : List Name) (t : Forest) → ((x : ℕ) → 0 < count x (entries t) → x < v.directory.count) →
      ((x : ℕ) → 0 < count x (hits v.directory (strip (names p) before) t) → x ≡ e) →
      count e (hits v.directory (strip (names p) before) t) ≡ count e (entries t) →
      rows_in w img' before t ≡ map (change p f) (rows_in v img before t)
  unfolding rows_in hits
  rows_changed st before empty inside only all = refl
  rows_changed st before broken inside only all = refl
  rows_changed st before (node l y b r) inside only all =
      let d = v.directory in
      let m = name (d.entry y) in
      let path = before ++ (m ∷ []) in
      let k = strip (names p) before in
      let sn = strip_snoc (names p) before m in
      let le1 = hits_le d k e l in
      let le2 = hits_le d (advance k m) e b in
      let le3 = hits_le d k e r in
      let le4 = own_hit_le v.directory k e y in
      let h1 = parts k m l y b r e in
      let n1 = count_node e l y b r in
      let row : List Row = cond (is_stream (d.entry y)) (record { path = path; bytes = contents v img y } ∷ []) [] in
      rw (alike.kind y, alike.name y)
      (ap₂ ◌++◌ (ap₂ ◌++◌ (ap₂ ◌++◌
      (rows_changed st before l (λ x q. inside x (omega (arith, count_node x l y b r))) (λ x q. only x (omega (arith, parts k m l y b r x))) (omega arith))
      (one_row before y (inside y (omega (arith, count_node y l y b r, bit_self y))) (λ x q. only x (omega (arith, parts k m l y b r x)))
      (λ s z. omega (arith, bit_self e, ap (λ x. bit (eqb e x)) z)) (is_stream (d.entry y)) refl))
      (rows_changed st path b (λ x q. inside x (omega (arith, count_node x l y b r)))
      (λ x q. only x (omega (arith, parts k m l y b r x, ap (λ u. count x (hits d u b)) sn))) (ap (λ u. count e (hits d u b)) sn ∙ omega arith)))
      (rows_changed st before r (λ x q. inside x (omega (arith, count_node x l y b r))) (λ x q. only x (omega (arith, parts k m l y b r x))) (omega arith)))
      ∙ sym (map-append (change p f) (rows_in v img before l ++ row ++ rows_in v img path b) (rows_in v img before r)
      ∙ ap (λ t. t ++ map (change p f) (rows_in v img before r)) (map-append (change p f) (rows_in v img before l ++ row) (rows_in v img path b)
      ∙ ap (λ t. t ++ map (change p f) (rows_in v img path b)) (map-append (change p f) (rows_in v img before l) row)))
    where
      parts : (k : Want) (m : Name) (l : Forest) (y : ℕ) (b r : Forest) (x : ℕ) →
          count x (hits v.directory k l ++ (own_hit v.directory k y ++ (hits v.directory (advance k m) b ++ hits v.directory k r)))
          ≡ count x (hits v.directory k l) + (count x (own_hit v.directory k y) +
          (count x (hits v.directory (advance k m) b) + count x (hits v.directory k r)))
      parts k m l y b r x =
          let a = count_append x (hits v.directory k l) (own_hit v.directory k y ++ (hits v.directory (advance k m) b ++ hits v.directory k r)) in
          let b1 = count_append x (own_hit v.directory k y) (hits v.directory (advance k m) b ++ hits v.directory k r) in
          let c = count_append x (hits v.directory (advance k m) b) (hits v.directory k r) in
          omega arith
