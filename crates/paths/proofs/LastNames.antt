-- The last name of a path begins behind its last slash, and the path before that slash has the other names.
use Prim.Native.Nat.{ℕ, zero, suc, ◌+◌, ◌-◌, ◌≤◌, ◌<◌}
use mathlib.Core.Path.{◌≡◌, refl, ap, sym, ◌∙◌}
use mathlib.Core.Logic.{◌≢◌, inl, inr}
use mathlib.Core.List.{List, [], ◌∷◌, ◌++◌}
use mathlib.Core.Bool.{Bool, true, false, cond}
use native.Mathlib.Omega.{arith}
use borrow.Author.Tests.{eq-eqb, ne_eqb}
use lib.Dec.{eqb}
use lib.ListN.{length, get_or, take, drop, length-append}
use lib.Seq.{take-append_seam, get_or-append_seam}
use Rattle.format.specs.Basics.Lists.{all}
use Rattle.format.specs.Layout.Name.{Name, slash, legal_name}
use Rattle.format.specs.Layout.Entry.{is_stream}
use Rattle.format.specs.Layout.Directory.{Directory}
use Rattle.format.specs.Calls.Paths.{Path, split, push_front, names, well_formed, names_before, last_name}
use Rattle.format.specs.Calls.Find.{refused, resolve, need_parent, resolve_parent}
use Rattle.theory.specs.TreeFind.{reached}
use Rattle.theory.proofs.Tests.{both, clash, all_append}
use Rattle.paths.specs.Parents.{AfterSlash, LastStart}

-- ---- pieces

-- no slash: one piece
no_slash : (p : Path) → ((j : ℕ) → j < length p → get_or p j 0 ≢ slash) → split p ≡ p ∷ []
unfolding split push_front
no_slash [] h = refl
no_slash (u ∷ us) h = rw (ne_eqb u slash (h 0 (omega arith)), no_slash us (λ j l. h (suc j) (omega arith)))

pub split_some : (p : Path) → (n : Name) × (ns : List Name) × (split p ≡ n ∷ ns)
unfolding split push_front
split_some [] = ([], [], refl)
split_some (u ∷ us) = go (eqb u slash) (split_some us)
  where
    go : (b : Bool) → (n : Name) × (ns : List Name) × (split us ≡ n ∷ ns) → (n : Name) × (ns : List Name) × (cond b ([] ∷ split us) (push_front u (split us)) ≡ n ∷ ns)
    go true (n, ns, e) = ([], split us, refl)
    go false (n, ns, e) = (u ∷ n, ns, ap (push_front u) e)

push_append : (u : ℕ) (p : Path) (ms : List Name) → push_front u (split p ++ ms) ≡ push_front u (split p) ++ ms
unfolding push_front
push_append u p ms = let s = split_some p in rw s.2

-- the last slash parts the last piece from the others
last_split : (p : Path) (k : ℕ) → k < length p → get_or p k 0 ≡ slash → ((j : ℕ) → k < j → j < length p → get_or p j 0 ≢ slash)
    → split p ≡ split (take k p) ++ (drop (suc k) p ∷ [])
unfolding split
last_split [] k l e h = absurd (omega arith)
last_split (u ∷ us) zero l e h = rw (eq-eqb u slash e, no_slash us (λ j m. h (suc j) (omega arith) (omega arith)))
last_split (u ∷ us) (suc k) l e h = go (eqb u slash) (last_split us k (omega arith) e (λ j a b. h (suc j) (omega arith) (omega arith)))
  where
    go : (b : Bool) → split us ≡ split (take k us) ++ (drop (suc k) us ∷ []) → cond b ([] ∷ split us) (push_front u (split us))
        ≡ cond b ([] ∷ split (take k us)) (push_front u (split (take k us))) ++ (drop (suc k) us ∷ [])
    go true ih = ap (λ (ns : List Name). [] ∷ ns) ih
    go false ih = ap (push_front u) ih ∙ push_append u (take k us) (drop (suc k) us ∷ [])

-- ---- the names before the last, and the last

module _ (ns : List Name) (n : Name) where
  last_place : length (ns ++ (n ∷ [])) - 1 ≡ length ns
  last_place = let l = length-append ns (n ∷ []) in omega arith

  take_last : take (length (ns ++ (n ∷ [])) - 1) (ns ++ (n ∷ [])) ≡ ns
  take_last = rw last_place (take-append_seam ns (n ∷ []))

  get_last : get_or (ns ++ (n ∷ [])) (length (ns ++ (n ∷ [])) - 1) [] ≡ n
  get_last = rw last_place (get_or-append_seam ns n [] [])

-- what the first i - 1 units have for names, and what begins at i
pub record Parted (p : Path) (i : ℕ) : Type 0 where
  pub start : LastStart p i
  pub before : names (take (i - 1) p) ≡ names_before p
  pub formed : well_formed (take (i - 1) p) ≡ true

parted_by : (p : Path) (i : ℕ) → i ≤ length p → names p ≡ names (take (i - 1) p) ++ (drop i p ∷ []) → well_formed p ≡ true → Parted p i
unfolding names_before last_name well_formed
parted_by p i l e w =
    let q = names (take (i - 1) p) in
    let n = drop i p in
    record {
      start = record { inside = l; last = sym (ap (λ (ns : List Name). get_or ns (length ns - 1) []) e ∙ get_last q n) };
      before = sym (ap (λ (ns : List Name). take (length ns - 1) ns) e ∙ take_last q n);
      formed = (both (all legal_name q) (all legal_name (n ∷ [])) (sym (all_append legal_name q (n ∷ [])) ∙ ap (all legal_name) (sym e) ∙ w)).0;
    }

-- a slash at the start parts an empty name, which is none
no_empty_start : (u : ℕ) (us : Path) → u ≡ slash → well_formed (u ∷ us) ≡ true → ⊥
unfolding well_formed names split all legal_name
no_empty_start u us e w = clash (rw (eq-eqb u slash e) at w) refl

pub after_parted : (p : Path) (i : ℕ) → AfterSlash p i → well_formed p ≡ true → Parted p i
unfolding well_formed names names_before last_name all
after_parted [] i a w =
    let z : i ≡ 0 = omega (arith, a.inside) in
    rw z (record { start = record { inside = omega arith; last = refl }; before = refl; formed = refl })
after_parted (u ∷ us) i a w =
    let p = u ∷ us in
    elim a.before [
      | inl z ↦ parted_by p i a.inside (rw z (no_slash p (λ j l. a.behind j (omega arith) l))) w
      | inr e ↦ by (i - 1) refl e
    ]
  where
    by : (k : ℕ) → i - 1 ≡ k → get_or (u ∷ us) (i - 1) 0 ≡ slash → Parted (u ∷ us) i
    by zero q e = absurd (no_empty_start u us (rw q at e) w)
    by (suc k) q e =
        let z : suc (i - 1) ≡ i = omega arith in
        let s = last_split (u ∷ us) (i - 1) (omega (arith, a.inside)) e (λ j b c. a.behind j (omega arith) c) in
        parted_by (u ∷ us) i a.inside (s ∙ rw (z, q)) w

-- ---- the storage of the last name

module _ (d : Directory) (p : Path) where
  pub parent_malformed : well_formed p ≡ false → refused 20 ≡ resolve_parent d p
  unfolding resolve_parent
  parent_malformed w = rw w

  module _ (w : well_formed p ≡ true) (i : ℕ) (k : Parted p i) where
    parent_is : resolve_parent d p ≡ need_parent d (resolve d (take (i - 1) p))
    unfolding resolve_parent resolve
    parent_is = rw (w, k.formed, k.before)

    pub parent_refused : (a : ℕ) → refused a ≡ resolve d (take (i - 1) p) → refused a ≡ resolve_parent d p
    unfolding need_parent
    parent_refused a e = sym (parent_is ∙ rw (← e))

    module _ (x : ℕ) (e : reached d x ≡ resolve d (take (i - 1) p)) where
      pub parent_stream : is_stream (d.entry x) ≡ true → refused 22 ≡ resolve_parent d p
      unfolding need_parent
      parent_stream s = sym (parent_is ∙ rw (← e, s))

      pub parent_found : is_stream (d.entry x) ≡ false → reached d x ≡ resolve_parent d p
      unfolding need_parent
      parent_found s = sym (parent_is ∙ rw (← e, s))
