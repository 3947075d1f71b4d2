-- The units of every stream after an accepted edit: the edited stream has its new ones, and every other stream keeps its own.
use Prim.Native.Nat.{ℕ, ◌<◌}
use mathlib.Core.Path.{◌≡◌, refl, sym, ap, ap₂, ◌∙◌, subst}
use mathlib.Core.Logic.{◌≢◌}
use mathlib.Core.Bool.{Bool, true, false, not, cond, ◌&&◌, beq}
use mathlib.Core.List.{List, []}
use native.Mathlib.Omega.{arith}
use lib.Dec.{ltb}
use lib.ListN.{length, get_or, set, length-set}
use lib.Seq.{get_or-set_same, get_or-set_other}
use Rattle.format.specs.Basics.Lists.{list_below, count}
use Rattle.format.specs.Basics.Bytes.{Bytes}
use Rattle.format.specs.Layout.Directory.{size_of}
use Rattle.format.specs.Layout.Need.{cutoff, round_up}
use Rattle.format.specs.Layout.Chain.{units, start_of}
use Rattle.format.specs.Layout.Space.{units_for}
use Rattle.format.specs.Layout.Entry.{kind, is_stream, size, start}
use Rattle.format.specs.Layout.Volume.{Volume, system_sectors}
use Rattle.format.specs.Layout.Stream.{space_for, stream_units, stream_size}
use Rattle.theory.specs.Links.{Linked, rechain}
use Rattle.theory.specs.Owned.{Owned, MayBecome}
use Rattle.theory.proofs.Chains.{linked_chain}
use Rattle.theory.proofs.Owned.{owned_rechained}
use Rattle.theory.proofs.Tests.{beq_self}
use Rattle.theory.proofs.Below.{length_below, get_or_below, below_set}
use Rattle.frame.specs.Good.{space_of, system_of, units_of, entry_units, Good, side_of}
use Rattle.history.specs.Changed.{Changed}

pub units_self : (v : Volume) (i : ℕ) → is_stream (v.directory.entry i) ≡ true → units_of v (side_of v i) i ≡ stream_units v i
unfolding units_of
units_self v i st = rw (st, beq_self (side_of v i))

cond_and_agree : (st q : Bool) (x y : List ℕ) → (st ≡ true → x ≡ y) → cond (st && q) x [] ≡ cond (st && q) y []
cond_and_agree true true x y h = h refl
cond_and_agree true false x y h = refl
cond_and_agree false q x y h = refl

side_self : (ws : Bool → List ℕ) (us : List ℕ) (b side : Bool) → us ≡ ws side → ws (not side) ≡ [] → cond (beq b side) us [] ≡ ws b
side_self ws us true true h z = h
side_self ws us true false h z = sym z
side_self ws us false true h z = sym z
side_self ws us false false h z = h

pub units_read : (w : Volume) (i n s : ℕ) → stream_size w i ≡ n → start (w.directory.entry i) ≡ s →
    stream_units w i ≡ units (space_of w (ltb n cutoff)).cell (round_up n (space_of w (ltb n cutoff)).unit) s
unfolding stream_units units_for space_for
units_read w i n s p q = rw (p, q)

-- ---- the edit

module _ {v w : Volume} {img img' : Bytes} {e new : ℕ} {ws : Bool → List ℕ} {c : Bool → Bytes} (o : Good v) (x : Changed v w img img' e new ws c) where
  pub limit_same : (b : Bool) → (space_of w b).limit ≡ (space_of v b).limit
  limit_same true = x.parts.mini_limit
  limit_same false = x.parts.sector_limit

  pub unit_same : (b : Bool) → (space_of w b).unit ≡ (space_of v b).unit
  unit_same true = x.parts.mini_unit
  unit_same false = x.parts.sector_unit

  pub cells_same : (b : Bool) → (space_of w b).cells ≡ (space_of v b).cells
  cells_same true = x.parts.mini_cells
  cells_same false = x.parts.sector_cells

  pub system_same : system_sectors w ≡ system_sectors v
  unfolding system_sectors
  system_same = let p = x.parts in rw (p.fat, p.difat, p.directory_sectors, p.mini_fat, p.mini_stream)

  pub system_in_same : (b : Bool) → system_of w b ≡ system_of v b
  system_in_same true = refl
  system_in_same false = system_same

  pub in_entry_units : (b : Bool) → e < length (entry_units v b)
  unfolding entry_units
  in_entry_units b = omega (arith, length_below v.directory.count (units_of v b), x.inside)

  pub entry_units_at : (b : Bool) (i : ℕ) → i < v.directory.count → get_or (entry_units v b) i [] ≡ units_of v b i
  unfolding entry_units
  entry_units_at b i h = get_or_below v.directory.count (units_of v b) i [] h

  pub edit_becomes : (b : Bool) → MayBecome (space_of v b).limit (space_of v b).cell (get_or (entry_units v b) e []) (ws b)
  edit_becomes b = rw (entry_units_at b e x.inside) (x.becomes b)

  pub edit_cells : (b : Bool) (s : ℕ) → s < (space_of v b).limit → (space_of w b).cell s ≡ rechain (get_or (entry_units v b) e []) (ws b) (space_of v b).cell s
  edit_cells b s h = rw (entry_units_at b e x.inside) ((x.cells b).cells s h)

  pub owned_new : (b : Bool) → Owned (space_of v b).limit (system_of v b) (space_of w b).cell (set (entry_units v b) e (ws b))
  owned_new b =
      owned_rechained (space_of v b).limit (o.lim b) (system_of v b) (space_of v b).cell (entry_units v b) (o.owned b) e (in_entry_units b) (ws b) (edit_becomes b)
      (space_of w b).cell (edit_cells b)

  other_linked : (b : Bool) (i : ℕ) → i < v.directory.count → i ≢ e → Linked (space_of w b).cell (space_of v b).limit (units_of v b i)
  unfolding entry_units
  other_linked b i h z =
      subst (λ us. Linked (space_of w b).cell (space_of v b).limit us) (get_or-set_other (entry_units v b) e i (ws b) [] z ∙ entry_units_at b i h)
      ((owned_new b).chains i (rw (length-set (entry_units v b) e (ws b)) (omega (arith, length_below v.directory.count (units_of v b)))))

  pub edit_linked : (b : Bool) → Linked (space_of w b).cell (space_of v b).limit (ws b)
  edit_linked b =
      subst (λ us. Linked (space_of w b).cell (space_of v b).limit us) (get_or-set_same (entry_units v b) e (ws b) [] (in_entry_units b))
      ((owned_new b).chains e (rw (length-set (entry_units v b) e (ws b)) (in_entry_units b)))

  -- the units as they are found in the new cells
  units_refound : (side : Bool) (n s : ℕ) (us : List ℕ) → Linked (space_of w side).cell (space_of v side).limit us → length us ≡ round_up n (space_of v side).unit →
      start_of us ≡ s →
      units (space_of w side).cell (round_up n (space_of w side).unit) s ≡ us
  units_refound side n s us l k h = rw (unit_same side) (linked_chain (space_of w side).cell (space_of v side).limit (round_up n (space_of v side).unit) s us l k h).1

  pub other_chain : (i : ℕ) → i < v.directory.count → i ≢ e → is_stream (v.directory.entry i) ≡ true →
      Linked (space_of w (side_of v i)).cell (space_of v (side_of v i)).limit (stream_units v i)
  other_chain i h z st =
      subst (λ us. Linked (space_of w (side_of v i)).cell (space_of v (side_of v i)).limit us)
      (units_self v i st) (other_linked (side_of v i) i h z)

  pub size_other : (i : ℕ) → i ≢ e → stream_size w i ≡ stream_size v i
  unfolding stream_size size_of
  size_other i z = ap₂ size x.parts.size_width (x.others i z)

  pub units_other : (i : ℕ) → i < v.directory.count → i ≢ e → is_stream (v.directory.entry i) ≡ true → stream_units w i ≡ stream_units v i
  units_other i h z st =
      units_read w i (stream_size v i) (start (v.directory.entry i)) (size_other i z) (ap start (x.others i z))
      ∙ units_refound (side_of v i) (stream_size v i) (start (v.directory.entry i)) (stream_units v i)
      (other_chain i h z st) (o.chains i h st).long (o.chains i h st).head

  pub edited_units : stream_units w e ≡ ws (ltb new cutoff)
  edited_units =
      units_read w e new (start_of (ws (ltb new cutoff))) x.size x.start
      ∙ units_refound (ltb new cutoff) new (start_of (ws (ltb new cutoff))) (ws (ltb new cutoff)) (edit_linked (ltb new cutoff)) x.need refl

  other_units_in : (b : Bool) (i : ℕ) → i < v.directory.count → i ≢ e → units_of w b i ≡ units_of v b i
  unfolding units_of
  other_units_in b i h z =
      rw (x.others i z, size_other i z)
      (cond_and_agree (is_stream (v.directory.entry i)) (beq b (side_of v i)) (stream_units w i) (stream_units v i) (units_other i h z))

  edited_units_in : (b : Bool) → units_of w b e ≡ ws b
  unfolding units_of
  edited_units_in b = rw (x.fields.kind, x.stream, x.size) (side_self ws (stream_units w e) b (ltb new cutoff) edited_units x.none)

  pub entry_units_set : (b : Bool) → entry_units w b ≡ set (entry_units v b) e (ws b)
  unfolding entry_units
  entry_units_set b =
      ap (λ n. list_below n (units_of w b)) x.parts.entry_count
      ∙ (below_set v.directory.count e (units_of v b) (units_of w b) [] x.inside (other_units_in b)
      ∙ ap (set (list_below v.directory.count (units_of v b)) e) (edited_units_in b))

  pub owned_after : (b : Bool) → Owned (space_of w b).limit (system_of w b) (space_of w b).cell (entry_units w b)
  owned_after b = rw (limit_same b, system_in_same b, entry_units_set b) (owned_new b)
