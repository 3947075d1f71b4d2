-- A create that answers 0: where the object goes, and the image.
use Prim.Native.Nat.{ℕ, ◌<◌}
use mathlib.Core.Path.{◌≡◌, refl, sym, ap, ◌∙◌}
use mathlib.Core.Logic.{◌≢◌}
use mathlib.Core.Bool.{Bool, true, false, cond}
use mathlib.Core.List.{[]}
use native.Mathlib.Omega.{arith}
use native.Mathlib.Decide.{dec_lt}
use lib.Dec.{eqb}
use lib.ListN.{length}
use Rattle.format.specs.Basics.Lists.{all}
use Rattle.format.specs.Basics.Bytes.{Bytes}
use Rattle.format.specs.Layout.Geometry.{Geometry}
use Rattle.format.specs.Layout.Name.{legal_name}
use Rattle.format.specs.Layout.Entry.{is_stream}
use Rattle.format.specs.Layout.Directory.{Directory, blanks}
use Rattle.format.specs.Layout.Tree.{Forest, forest}
use Rattle.format.specs.Layout.Volume.{Volume, volume}
use Rattle.format.specs.Rules.Verdict.{Accepted}
use Rattle.format.specs.Calls.Paths.{Path, names, well_formed, names_before, last_name}
use Rattle.format.specs.Calls.Find.{Child, missing, present, child_named, Found, at as found_at, refused, found_child, enter, descend, resolve, answer_of, entry_of, need_parent, resolve_parent, below_of}
use Rattle.format.specs.Calls.Create.{NewKind, entry_created, object_created, lowest_blank, slot_for}
use Rattle.format.specs.Calls.Answer.{create_answer}
use Rattle.theory.specs.TreeViews.{whole}
use Rattle.theory.specs.TreeFind.{reached}
use Rattle.theory.proofs.Refusals.{RefusedLow, descend_low, found_refused, first_zero}
use Rattle.theory.proofs.LastNames.{names_last, last_legal}
use Rattle.theory.proofs.Trees.Paths.{resolve_formed}
use Rattle.theory.proofs.Trees.AtPath.{descend_last}
use Rattle.theory.proofs.Trees.Blanks.{lowest_blank_lem}
use Rattle.frame.specs.Good.{Good}
use Rattle.frame.specs.Frame.{Frame}
use Rattle.frame.specs.Place.{MayCreate, Creating, hook_at}

-- what the parent's answer says
record ParentOf (d : Directory) (p : Path) : Type 0 where
  s : ℕ
  b : Forest
  formed : well_formed p ≡ true
  parent : resolve_parent d p ≡ found_at s b
  led : descend d (reached d 0) (names_before p) ≡ found_at s b
  plain : is_stream (d.entry s) ≡ false

parent_of : (d : Directory) (p : Path) → answer_of (resolve_parent d p) ≡ 0 → ParentOf d p
unfolding resolve_parent need_parent answer_of forest
parent_of d p h = go (well_formed p) refl (descend d (reached d 0) (names_before p)) refl (descend_low d (names_before p) (reached d 0) tt) h
  where
    inner : (e : ℕ) (b : Forest) → well_formed p ≡ true → descend d (reached d 0) (names_before p) ≡ found_at e b
        → (st : Bool) → is_stream (d.entry e) ≡ st → answer_of (cond st (refused 22) (found_at e b)) ≡ 0 → ParentOf d p
    inner e b w q true st h = absurd (omega arith)
    inner e b w q false st h = record { s = e; b = b; formed = w; parent = rw (w, q, st); led = q; plain = st }

    go : (t : Bool) → well_formed p ≡ t → (f : Found) → descend d (reached d 0) (names_before p) ≡ f → RefusedLow f → answer_of (cond t (need_parent d f) (refused 20)) ≡ 0 → ParentOf d p
    go false w f q l h = absurd (omega arith)
    go true w (found_at e b) q l h = inner e b w q (is_stream (d.entry e)) refl h
    go true w (refused a) q l h = absurd (omega (arith, l.0))

pub may_create_lem : (d : Directory) (p : Path) → create_answer d (resolve_parent d p) (resolve d p) ≡ 0 → MayCreate d p
unfolding create_answer answer_of
may_create_lem d p h =
    let q = first_zero (answer_of (resolve_parent d p)) (cond (eqb (answer_of (resolve d p)) 0) 29 (cond (eqb (length (blanks d)) 0) 30 0)) h in
    let m = absent_of (resolve d p) refl (cond (eqb (length (blanks d)) 0) 30 0) q.1 in
    let k = parent_of d p q.0 in
    record {
      s = k.s;
      b = k.b;
      formed = k.formed;
      parent = k.parent;
      led = k.led;
      plain = k.plain;
      number = m.0;
      absent = m.1;
      some = some_of (length (blanks d)) m.2;
    }
  where
    absent_of : (f : Found) → resolve d p ≡ f → (n : ℕ) → cond (eqb (answer_of f) 0) 29 n ≡ 0 → (a : ℕ) × (resolve d p ≡ refused a) × (n ≡ 0)
    absent_of (found_at e b) q n h = absurd (omega arith)
    absent_of (refused a) q n h = (a, q, later (eqb a 0) h)
      where
        later : (t : Bool) → cond t 29 n ≡ 0 → n ≡ 0
        later true h = absurd (omega arith)
        later false h = h

    some_of : (m : ℕ) → cond {A = ℕ} (eqb m 0) 30 0 ≡ 0 → 0 < m
    some_of m h = elim (dec_lt 0 m) [ yes k ↦ k | no k ↦ let e : m ≡ 0 = omega arith in absurd (omega (arith, rw e at h)) ]

-- no names lead to the root
names_some : (d : Directory) (p : Path) → MayCreate d p → names p ≢ []
unfolding descend
names_some d p f e =
    found_refused 0 (whole d) f.number (sym (resolve_formed d p f.formed ∙ ap (descend d (reached d 0)) e) ∙ f.absent)

child_free : (d : Directory) (p : Path) (f : MayCreate d p) → child_named d (last_name p) f.b ≡ missing
unfolding enter found_child
child_free d p f =
    let q = resolve_formed d p f.formed ∙ ap (descend d (reached d 0)) (names_last p (names_some d p f)) ∙ descend_last d (reached d 0) (names_before p) (last_name p)
    ∙ ap (λ (k : Found). enter d k (last_name p)) f.led in
    go (child_named d (last_name p) f.b) (rw f.plain at (sym q ∙ f.absent))
  where
    go : (k : Child) → found_child k ≡ refused f.number → k ≡ missing
    go missing h = refl
    go (present e b) h = absurd (found_refused e b f.number h)

formed_legal : (p : Path) → well_formed p ≡ true → all legal_name (names p) ≡ true
unfolding well_formed
formed_legal p h = h

-- what the edit needs
pub creating : (g : Geometry) → Frame g → (img : Bytes) → Accepted g img → Good (volume g img) → (p : Path) (f : MayCreate (volume g img).directory p)
    → Creating g img (last_name p) (names_before p) f.s f.b (lowest_blank (volume g img).directory)
creating g fr img acc good p f =
    let d = (volume g img).directory in
    record {
      good = good;
      led = f.led;
      plain = f.plain;
      free = child_free d p f;
      legal = last_legal legal_name p (names_some d p f) (formed_legal p f.formed);
      inside = (lowest_blank_lem d f.some).0;
      blank = (lowest_blank_lem d f.some).1;
      few = fr.entries_few img acc;
      long = fr.entry_long img acc;
    }

-- the image by that place
pub created_image : (v : Volume) (img : Bytes) (made : NewKind) (p : Path) (f : MayCreate v.directory p)
    → entry_created v img made (last_name p) (hook_at v.directory (last_name p) f.s f.b) (lowest_blank v.directory) ≡ object_created v img made p
unfolding object_created slot_for entry_of below_of
created_image v img made p f =
    ap (λ (q : Found). entry_created v img made (last_name p) (slot_for v.directory (last_name p) q) (lowest_blank v.directory)) (sym f.parent)
