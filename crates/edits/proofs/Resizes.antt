-- Changes of length: the steps. What is listed in the work buffer are the stream's units and free ones behind them; what is written by them is
-- `format`'s image.
use Prim.Native.Nat.{ℕ, ◌+◌, ◌*◌, ◌≤◌, ◌<◌, max}
use mathlib.Core.Path.{◌≡◌, sym, ◌∙◌, ap, ap₂, subst}
use mathlib.Core.Logic.{◌≢◌, inl, inr}
use mathlib.Core.Bool.{Bool, true, false, not, cond}
use mathlib.Core.List.{List, ◌++◌}
use native.Mathlib.Omega.{arith}
use native.Mathlib.Decide.{dec_le}
use lib.Dec.{ltb}
use lib.ListN.{length, take}
use lib.Seq.{length-take-le}
use borrow.Author.Tests.{ne_eqb, ltb-false, not-true, not-false}
use Rattle.format.specs.Basics.Lists.{count}
use Rattle.format.specs.Basics.Bytes.{Bytes}
use Rattle.format.specs.Layout.Need.{cutoff, round_up}
use Rattle.format.specs.Layout.Chain.{chain, units}
use Rattle.format.specs.Layout.Entry.{start}
use Rattle.format.specs.Layout.Directory.{entry_place}
use Rattle.format.specs.Layout.Space.{Space, free_units}
use Rattle.format.specs.Layout.Volume.{Volume, volume, directory_sectors_of}
use Rattle.format.specs.Layout.Stream.{space_for, stream_size, stream_units}
use Rattle.format.specs.Calls.SetLength.{crosses, edit_space, new_units, tail_zeroed, entry_written, resized}
use Rattle.format.specs.Calls.Search.{searches_for, kept_units, length_searches, cells_looked}
use Rattle.format.specs.Calls.Answer.{length_answer}
use Rattle.theory.specs.Links.{Linked}
use Rattle.theory.proofs.Chains.{chain_linked, linked_below, length_units}
use Rattle.theory.proofs.FreeUnits.{resized_from, pool_short}
use Rattle.theory.proofs.RoundUp.{round_zero, round_enough}
use Rattle.theory.proofs.Loops.{said_no, said_yes}
use Rattle.frame.specs.Good.{space_of as side_space}
use Rattle.frame.proofs.LengthUnits.{sides_uncrossed}
use Rattle.kinds.specs.Sizes.{geometry_of}
use Rattle.directory.specs.Listed.{place_of}
use Rattle.directory.proofs.Places.{placed, place_inside, place_is}
use Rattle.volume.specs.Opened.{Readied}
use Rattle.volume.specs.declared.Volume.{Volume as Opened}
use Rattle.spaces.specs.Spaces.{kind_for, volume_in, space_at, unit_bytes, listed_space}
use Rattle.spaces.specs.declared.Kind.{Kind}
use Rattle.spaces.proofs.Listed.{unit_same, units_stand}
use Rattle.unitlists.proofs.Limits.{limit_work, limit_end}
use Rattle.writes.specs.Writable.{Writable, EntryRoom}
use Rattle.writes.specs.Puts.{entry_put}
use Rattle.queries.specs.Inside.{Open}
use Rattle.queries.specs.declared.find.Object.{Object}
use Rattle.queries.specs.Streams.{StreamAt}
use Rattle.queries.proofs.Streams.{entry_inside}
use Rattle.edits.specs.Rewritten.{tail_filled, rewritten}
use Rattle.edits.specs.Gathered.{Gathered}
use Rattle.edits.proofs.Needs.{too_few_is}
use Rattle.edits.proofs.Streams.{kind_side, bytes_some, good, stream_chain_lem}
use Rattle.edits.proofs.Growths.{own_looked}
use Rattle.edits.proofs.Looks.{within_looked}
use Rattle.edits.proofs.Writables.{writable, rewritten_listed}

-- another length, by its units
resized_by : (vol : Volume) (img : Bytes) (x new : ℕ) → new ≢ stream_size vol x
    → resized vol img x new ≡ rewritten (edit_space vol x new) (vol.entry_place x) (stream_units vol x) (new_units vol x new) (stream_size vol x) new img
unfolding resized tail_zeroed entry_written rewritten tail_filled entry_put
resized_by vol img x new h = rw (ne_eqb new (stream_size vol x) h)

module _ {v : Opened} {img : Bytes} {w : List ℕ} (o : Open v img w) {e : Object} (s : StreamAt (volume_in v img) e) (new : ℕ) (c : crosses e.size new ≡ false)
    (old need : ℕ) (many : old ≡ round_up e.size (space_at v img (kind_for (max e.size new))).unit)
    (wanted : need ≡ round_up new (space_at v img (kind_for (max e.size new))).unit) where
  abbrev vol : Volume
  vol = volume_in v img

  abbrev k : Kind
  k = kind_for (max e.size new)

  abbrev sp : Space
  sp = space_at v img (kind_for (max e.size new))

  space_is : sp ≡ edit_space vol e.id.0 new
  unfolding edit_space space_for
  space_is = kind_side vol (max e.size new) ∙ ap (λ n. side_space vol (ltb (max n new) cutoff)) s.sized

  -- ---- the answer

  -- room is asked where the units are
  pub room_is : length_answer (geometry_of v.tables.geometry) vol e.size new ≡ cond (ltb (old + length (free_units sp)) need) 26 0
  unfolding length_answer
  room_is =
      rw (many, wanted, kind_side vol (max e.size new)) (ap (λ b. cond b 26 0) (too_few_is (geometry_of v.tables.geometry) img (bytes_some o) e.size new c))

  -- what gathering answers
  pub too_few : {b : Bool} → not b ≡ true → b ≡ not (ltb (old + length (free_units sp)) need) → 26 ≡ length_answer (geometry_of v.tables.geometry) vol e.size new
  too_few h k = let z : ltb (old + length (free_units sp)) need ≡ true = not-false (ltb (old + length (free_units sp)) need) (said_no h k) in sym (room_is ∙ ap (λ b. cond b 26 0) z)

  pub enough_free : {b : Bool} → not b ≡ false → b ≡ not (ltb (old + length (free_units sp)) need) → (ltb (old + length (free_units sp)) need ≡ false) × (0 ≡ length_answer (geometry_of v.tables.geometry) vol e.size new)
  enough_free h k = let z : ltb (old + length (free_units sp)) need ≡ false = not-true (ltb (old + length (free_units sp)) need) (said_yes h k) in (z, sym (room_is ∙ ap (λ b. cond b 26 0) z))

  -- ---- the units

  own : (chain sp.cell sp.limit old (start (vol.directory.entry e.id.0)) ≡ true) × (units sp.cell old (start (vol.directory.entry e.id.0)) ≡ stream_units vol e.id.0)
  own = rw many (stream_chain_lem o s new c)

  pub resize_chain : chain sp.cell sp.limit old (start (vol.directory.entry e.id.0)) ≡ true
  resize_chain = own.0

  linked : Linked sp.cell sp.limit (units sp.cell old (start (vol.directory.entry e.id.0)))
  linked = (chain_linked sp.cell sp.limit old (start (vol.directory.entry e.id.0)) own.0).0

  -- ---- the cells looked at

  looked_none : new ≡ 0 → cells_looked (searches_for sp old need) ≡ cells_looked (length_searches vol e.id.0 new)
  unfolding length_searches space_for
  looked_none z =
      let to = side_space vol (ltb new cutoff) in
      let a : need ≡ 0 = wanted ∙ ap (λ n. round_up n sp.unit) z ∙ round_zero sp.unit (units_stand o.ready k).some in
      let b : round_up new to.unit ≡ 0 = ap (λ n. round_up n to.unit) z ∙ round_zero to.unit ((good o).unit (ltb new cutoff)) in
      sym (own_looked sp old need (omega arith)) ∙ own_looked to (length (kept_units vol e.id.0 new)) (round_up new to.unit) (omega arith)

  looked_here : ltb new cutoff ≡ ltb (max e.size new) cutoff → cells_looked (searches_for sp old need) ≡ cells_looked (length_searches vol e.id.0 new)
  unfolding space_for
  looked_here h =
      let here : sp ≡ side_space vol (ltb new cutoff) = kind_side vol (max e.size new) ∙ ap (side_space vol) (sym h) in
      let long : length (stream_units vol e.id.0) ≡ old = sym (ap length own.1) ∙ length_units sp.cell old (start (vol.directory.entry e.id.0)) in
      ap (λ n. cells_looked (searches_for sp old n)) wanted
      ∙ ap (λ z. cells_looked (searches_for z old (round_up new z.unit))) here
      ∙ within_looked vol e.id.0 new old (ap (λ n. crosses n new) (sym s.sized) ∙ c) long

  pub looked_is : cells_looked (searches_for sp old need) ≡ cells_looked (length_searches vol e.id.0 new)
  looked_is = elim (sides_uncrossed e.size new c).1 [ inl h ↦ looked_here h | inr z ↦ looked_none z ]

  -- ---- what gathering left: the stream's units, and enough of them

  abbrev us : List ℕ
  us = units sp.cell old (start (vol.directory.entry e.id.0))

  new_is : take need (us ++ free_units sp) ≡ new_units vol e.id.0 new
  unfolding new_units
  new_is = ap₂ (λ l z. take z (l ++ free_units sp)) own.1 wanted ∙ ap (λ z. take (round_up new z.unit) (stream_units vol e.id.0 ++ free_units z)) space_is

  pub gathered : {w₁ : List ℕ} → take old w₁ ≡ us → take need w₁ ≡ take need (us ++ free_units sp) → ltb (old + length (free_units sp)) need ≡ false → Gathered v img w₁ e new old need
  gathered a b h = record { many = many; wanted = wanted; own = a ∙ own.1; all = b ∙ new_is; enough = ltb-false (old + length (free_units sp)) need h }

  module _ {w₁ : List ℕ} (r : Readied v img w₁) (t : Gathered v img w₁ e new old need) where
    own_below : (u : ℕ) → 0 < count u (take old w₁) → u < sp.limit
    own_below u q = linked_below sp.cell sp.limit us linked u (subst (λ l. 0 < count u l) (t.own ∙ sym own.1) q)

    all_below_lem : (u : ℕ) → 0 < count u (take need w₁) → u < sp.limit
    unfolding free_units
    all_below_lem u q = (resized_from sp.cell sp.limit (limit_end r k) us linked need u (subst (λ l. 0 < count u l) (t.all ∙ sym new_is) q)).0

    -- they fit in the work buffer
    fits : (old ≤ length w₁) × (need ≤ length w₁)
    unfolding free_units
    fits =
        let a = pool_short sp.cell sp.limit (limit_end r k) us linked in
        let b = length_units sp.cell old (start (vol.directory.entry e.id.0)) in
        let l = limit_work r k in
        (omega (arith, a, b, l), omega (arith, a, b, l, t.enough))

    both_below : (u : ℕ) → 0 < count u (take (max old need) w₁) → u < sp.limit
    both_below u q =
        elim (dec_le old need) [
          | yes h ↦ let m : max old need ≡ need = omega arith in all_below_lem u (subst (λ n. 0 < count u (take n w₁)) m q)
          | no h ↦ let m : max old need ≡ old = omega arith in own_below u (subst (λ n. 0 < count u (take n w₁)) m q)
        ]

    pub resize_writable : Writable v w₁ k (length img) (max old need)
    resize_writable = let f = fits in writable r k (max old need) (omega (arith, f.0, f.1)) both_below

    pub resize_entry : EntryRoom v.directory w₁ e.id.0 (length img)
    resize_entry = let d = r.lists.mini.directory in record { placed = placed d e.id.0 (entry_inside o s); inside = place_inside d e.id.0 (entry_inside o s) }

    tail : e.size < new → e.size ≤ need * sp.unit
    tail h = omega (arith, h, round_enough new sp.unit (units_stand r k).some, ap (λ n. n * sp.unit) wanted)

    pub resize_tail : e.size < new → e.size ≤ need * unit_bytes v k
    resize_tail h = rw (unit_same r k) (tail h)

    place_same : place_of v.directory w₁ e.id.0 ≡ vol.entry_place e.id.0
    unfolding volume
    place_same =
        sym (place_is r.lists.mini.directory e.id.0 (entry_inside o s))
        ∙ ap (λ z. entry_place (geometry_of z) (directory_sectors_of (geometry_of z) img) e.id.0) r.lists.mini.same

    same : rewritten sp (place_of v.directory w₁ e.id.0) (take old w₁) (take need w₁) e.size new img
        ≡ rewritten (edit_space vol e.id.0 new) (vol.entry_place e.id.0) (stream_units vol e.id.0) (new_units vol e.id.0 new) (stream_size vol e.id.0) new img
    same =
        ap (λ z. rewritten z (place_of v.directory w₁ e.id.0) (take old w₁) (take need w₁) e.size new img) space_is
        ∙ ap (λ z. rewritten (edit_space vol e.id.0 new) z (take old w₁) (take need w₁) e.size new img) place_same
        ∙ ap (λ z. rewritten (edit_space vol e.id.0 new) (vol.entry_place e.id.0) z (take need w₁) e.size new img) t.own
        ∙ ap (λ z. rewritten (edit_space vol e.id.0 new) (vol.entry_place e.id.0) (stream_units vol e.id.0) z e.size new img) t.all
        ∙ ap (λ z. rewritten (edit_space vol e.id.0 new) (vol.entry_place e.id.0) (stream_units vol e.id.0) (new_units vol e.id.0 new) z new img) s.sized

    pub resize_written : new ≢ e.size
        → rewritten (listed_space v w₁ k) (place_of v.directory w₁ e.id.0) (take old w₁) (take need w₁) e.size new img ≡ resized vol img e.id.0 new
    resize_written h =
        let long : length (take need w₁) ≡ need = length-take-le need w₁ fits.1 in
        rewritten_listed r k (take need w₁) all_below_lem (place_of v.directory w₁ e.id.0) (take old w₁) e.size new own_below (λ q. rw long (tail q))
        ∙ same
        ∙ sym (resized_by vol img e.id.0 new (λ z. h (z ∙ sym s.sized)))
