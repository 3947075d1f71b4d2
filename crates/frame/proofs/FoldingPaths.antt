-- A call replies as it did before letters beyond a to z were folded, where neither the file's names nor its path have a unit folded anew.
use Prim.Native.Nat.{ℕ, zero, suc, ◌-◌}
use mathlib.Core.Path.{◌≡◌, refl}
use mathlib.Core.Bool.{Bool, true, false, cond}
use mathlib.Core.List.{List, [], ◌∷◌}
use lib.Dec.{eqb}
use lib.ListN.{length, take}
use Rattle.format.specs.Basics.Lists.{all}
use Rattle.format.specs.Layout.Geometry.{Geometry}
use Rattle.format.specs.Layout.Name.{Name, slash, name_equal}
use Rattle.format.specs.Layout.Entry.{name, is_stream}
use Rattle.format.specs.Layout.Directory.{Directory}
use Rattle.format.specs.Layout.Tree.{Forest, empty, broken, node, forest, entries}
use Rattle.format.specs.Layout.Volume.{Volume, volume, directory}
use Rattle.format.specs.Rules.Entries.{entry_rules}
use Rattle.format.specs.Rules.Verdict.{verdict}
use Rattle.format.specs.Calls.Paths.{Path, push_front, split, names, names_before}
use Rattle.format.specs.Calls.Find.{Child, missing, present, or_else, child_named, Found, at, refused, found_child, enter, descend, resolve, resolve_stream, resolve_parent}
use Rattle.format.specs.Calls.Call.{Call, validate, find, read, overwrite, set_length, create, remove, list, read_at, work_of}
use Rattle.format.specs.Calls.Answer.{first_of, target, target_answer, answer_in, answer}
use Rattle.format.specs.Calls.Reply.{plain, on_zero, done, reply_by}
use Rattle.format.specs.Claims.Folding.{steady_unit, steady_names, plain_unit}
use Rattle.format.specs.Claims.FoldingPaths.{former_equal, former_child, former_enter, former_descend, former_resolve, former_parent, former_stream, former_answer_in, former_answer, former_done, former_reply, path_of, KeepsReply, PlainKeepsReply}
use Rattle.theory.proofs.Tests.{both, and_true_of, all_weaker}
use Rattle.theory.proofs.Folding.{fold_same, steady, node_apart, forest_steady, keeps_verdict, plain_steady, names_steady}
use Rattle.frame.proofs.Accepted.{verdict_kept}

equal_same : (a b : Name) → all steady_unit a ≡ true → all steady_unit b ≡ true → former_equal a b ≡ name_equal a b
unfolding former_equal name_equal
equal_same a b h k = rw (fold_same a h, fold_same b k)

-- ---- the names of a path

abbrev Steady : List Name → Type 0
Steady [] = Unit {0}
Steady (n ∷ ns) = (all steady_unit n ≡ true) × Steady ns

push_steady : (u : ℕ) (ns : List Name) → steady_unit u ≡ true → Steady ns → Steady (push_front u ns)
unfolding push_front all
push_steady u [] h s = (and_true_of (steady_unit u) true h refl, tt)
push_steady u (n ∷ ns) h s = (and_true_of (steady_unit u) (all steady_unit n) h s.0, s.1)

split_steady : (p : Path) → all steady_unit p ≡ true → Steady (split p)
unfolding split all
split_steady [] h = (refl, tt)
split_steady (u ∷ p) h =
    let q = both (steady_unit u) (all steady_unit p) h in
    go (eqb u slash) q.0 (split_steady p q.1)
  where
    go : (t : Bool) → steady_unit u ≡ true → Steady (split p) → Steady (cond t ([] ∷ split p) (push_front u (split p)))
    go true k s = (refl, s)
    go false k s = push_steady u (split p) k s

names_of_path : (p : Path) → all steady_unit p ≡ true → Steady (names p)
unfolding names
names_of_path [] h = tt
names_of_path (u ∷ p) h = split_steady (u ∷ p) h

take_steady : (n : ℕ) (ns : List Name) → Steady ns → Steady (take n ns)
take_steady zero ns s = tt
take_steady (suc n) [] s = tt
take_steady (suc n) (x ∷ ns) s = (s.0, take_steady n ns s.1)

-- ---- one name after the other

module _ (d : Directory) where
  child_same : (n : Name) (t : Forest) → all steady_unit n ≡ true → all (steady d) (entries t) ≡ true → former_child d n t ≡ child_named d n t
  unfolding former_child child_named
  child_same n empty h k = refl
  child_same n broken h k = refl
  child_same n (node l e b r) h k =
      let s = node_apart d l e b r k in
      rw (child_same n l h s.on_left, equal_same n (name (d.entry e)) h s.here, child_same n r h s.on_right)

  -- what is found has such entries below it
  abbrev Below : Child → Type 0
  Below missing = Unit {0}
  Below (present e b) = all (steady d) (entries b) ≡ true

  else_below : (x y : Child) → Below x → Below y → Below (or_else x y)
  unfolding or_else
  else_below missing y h k = k
  else_below (present e b) y h k = h

  child_below : (n : Name) (t : Forest) → all (steady d) (entries t) ≡ true → Below (child_named d n t)
  unfolding child_named
  child_below n empty k = tt
  child_below n broken k = tt
  child_below n (node l e b r) k =
      let s = node_apart d l e b r k in
      else_below (child_named d n l) (or_else (cond (name_equal n (name (d.entry e))) (present e b) missing) (child_named d n r))
      (child_below n l s.on_left)
      (else_below (cond (name_equal n (name (d.entry e))) (present e b) missing) (child_named d n r) (here (name_equal n (name (d.entry e))) s.below) (child_below n r s.on_right))
    where
      here : (t : Bool) → all (steady d) (entries b) ≡ true → Below (cond t (present e b) missing)
      here true h = h
      here false h = tt

  abbrev BelowFound : Found → Type 0
  BelowFound (at e b) = all (steady d) (entries b) ≡ true
  BelowFound (refused a) = Unit {0}

  found_below : (c : Child) → Below c → BelowFound (found_child c)
  unfolding found_child
  found_below missing h = tt
  found_below (present e b) h = h

  enter_below : (f : Found) (n : Name) → BelowFound f → BelowFound (enter d f n)
  unfolding enter
  enter_below (refused a) n h = tt
  enter_below (at e b) n h = go (is_stream (d.entry e)) (found_below (child_named d n b) (child_below n b h))
    where
      go : (t : Bool) → BelowFound (found_child (child_named d n b)) → BelowFound (cond t (refused 22) (found_child (child_named d n b)))
      go true k = tt
      go false k = k

  enter_same : (f : Found) (n : Name) → all steady_unit n ≡ true → BelowFound f → former_enter d f n ≡ enter d f n
  unfolding former_enter enter
  enter_same (refused a) n h k = refl
  enter_same (at e b) n h k = rw (child_same n b h k)

  descend_same : (f : Found) (ns : List Name) → Steady ns → BelowFound f → former_descend d f ns ≡ descend d f ns
  unfolding former_descend descend
  descend_same f [] s k = refl
  descend_same f (n ∷ ns) s k = rw (enter_same f n s.0 k) (descend_same (enter d f n) ns s.1 (enter_below f n k))

  -- ---- the whole path

  module _ (fields : entry_rules d ≡ true) (ok : steady_names d ≡ true) where
    pub former_resolve_lem : (p : Path) → all steady_unit p ≡ true → former_resolve d p ≡ resolve d p
    unfolding former_resolve resolve
    former_resolve_lem p h = rw (descend_same (at 0 (forest d)) (names p) (names_of_path p h) (forest_steady d fields ok))

    former_parent_lem : (p : Path) → all steady_unit p ≡ true → former_parent d p ≡ resolve_parent d p
    unfolding former_parent resolve_parent names_before
    former_parent_lem p h =
        rw (descend_same (at 0 (forest d)) (names_before p) (take_steady (length (names p) - 1) (names p) (names_of_path p h)) (forest_steady d fields ok))

-- ---- the replies

module _ (g : Geometry) (v : Volume) (fields : entry_rules v.directory ≡ true) (ok : steady_names v.directory ≡ true) where
  stream_same : (p : Path) → all steady_unit p ≡ true → former_stream v p ≡ resolve_stream v.directory p
  unfolding former_stream resolve_stream
  stream_same p h = rw (former_resolve_lem v.directory fields ok p h)

  answer_same : (call : Call) → all steady_unit (path_of call) ≡ true → former_answer_in g v call ≡ answer_in g v call
  unfolding former_answer_in answer_in target target_answer path_of
  answer_same (validate work) h = refl
  answer_same (find path work) h = rw (former_resolve_lem v.directory fields ok path h)
  answer_same (read path offset out work) h = rw (stream_same path h)
  answer_same (overwrite path offset bytes work) h = rw (stream_same path h)
  answer_same (set_length path new work) h = rw (stream_same path h)
  answer_same (create made path work) h = rw (former_parent_lem v.directory fields ok path h, former_resolve_lem v.directory fields ok path h)
  answer_same (remove path work) h = rw (former_resolve_lem v.directory fields ok path h)
  answer_same (list out work) h = refl
  answer_same (read_at entry position out work) h = refl

  done_same : (call : Call) → all steady_unit (path_of call) ≡ true → former_done v call ≡ done v call
  unfolding former_done done target path_of
  done_same (validate work) h = refl
  done_same (find path work) h = rw (former_resolve_lem v.directory fields ok path h)
  done_same (read path offset out work) h = rw (stream_same path h)
  done_same (overwrite path offset bytes work) h = refl
  done_same (set_length path new work) h = refl
  done_same (create made path work) h = refl
  done_same (remove path work) h = refl
  done_same (list out work) h = refl
  done_same (read_at entry position out work) h = refl

pub keeps_reply : (g : Geometry) → KeepsReply g
unfolding former_reply former_answer reply_by answer first_of on_zero volume
keeps_reply g img call ok h = rw (keeps_verdict g img (length (work_of call)) ok) (go (verdict g img (length (work_of call))) refl)
  where
    go : (n : ℕ) → verdict g img (length (work_of call)) ≡ n
        → on_zero (first_of n (former_answer_in g (volume g img) call)) (former_done (volume g img) call) (plain (first_of n (former_answer_in g (volume g img) call)))
        ≡ on_zero (first_of n (answer_in g (volume g img) call)) (done (volume g img) call) (plain (first_of n (answer_in g (volume g img) call)))
    go zero e =
        let fields = (verdict_kept g img (length (work_of call)) e).volume.entries in
        rw (answer_same g (volume g img) fields ok call h, done_same g (volume g img) fields ok call h)
    go (suc n) e = refl

pub plain_keeps_reply : (g : Geometry) → PlainKeepsReply g
plain_keeps_reply g img call ok h =
    keeps_reply g img call (names_steady (directory g img) ok) (all_weaker plain_unit steady_unit plain_steady (path_of call) h)
