-- What a path finds in a good volume, against what it means among the rows.
use Prim.Native.Nat.{ℕ, ◌<◌}
use mathlib.Core.Path.{◌≡◌, refl, sym, ap, ◌∙◌}
use mathlib.Core.Logic.{inl, inr}
use mathlib.Core.Bool.{Bool, true, false, ◌||◌, or-true}
use mathlib.Core.List.{[], ◌∷◌, map}
use native.Mathlib.Omega.{arith}
use lib.ListN.{length}
use Rattle.format.specs.Basics.Bytes.{Bytes}
use Rattle.format.specs.Basics.Lists.{bit, count}
use Rattle.format.specs.Layout.Name.{legal_name}
use Rattle.format.specs.Layout.Entry.{NOSTREAM, name, child, is_stream, is_storage}
use Rattle.format.specs.Layout.Tree.{named, forest, entries, Forest}
use Rattle.format.specs.Layout.Volume.{Volume}
use Rattle.format.specs.Layout.Stream.{contents, stream_size}
use Rattle.format.specs.Rules.Entries.{entry_fields, name_fields}
use Rattle.format.specs.Rules.Trees.{is_object}
use Rattle.format.specs.Calls.Paths.{Path, names}
use Rattle.format.specs.Calls.Find.{at, refused, resolve_stream}
use Rattle.format.specs.History.Rows.{rows_in, has_row, row_length}
use Rattle.theory.proofs.Counts.{bit_self, bit_true, eqb_cases}
use Rattle.theory.proofs.Trees.Rules.{rules_apart}
use Rattle.theory.proofs.Tests.{or_only}
use Rattle.theory.proofs.Refusals.{found_stream}
use Rattle.theory.proofs.Trees.Depth.{named_inside}
use Rattle.frame.specs.Good.{Good}
use Rattle.frame.proofs.EntryFacts.{entry_fields_lem, name_fields_legal, stream_fields_say, stream_fields_of, storage_fields_say, storage_fields_of}
use Rattle.history.proofs.Filled.{Sized, length_contents}
use Rattle.history.proofs.Counting.{inside_forest, reached}
use Rattle.history.proofs.Hits.{strip, hits, hits_le}
use Rattle.history.proofs.Paths.{Findable, path_hits, found_list}
use Rattle.history.proofs.Rows.{meant_lengths, non_empty, first_or0, has_row_meant, row_length_meant, rows_meant}

module _ (v : Volume) (img : Bytes) (o : Good v) (sized : Sized v img) (root_plain : is_stream (v.directory.entry 0) ≡ false) where
  reached_legal : (x : ℕ) → 0 < count x (entries (forest v.directory)) → legal_name (name (v.directory.entry x)) ≡ true
  reached_legal x h =
      let k = inside_forest v img o sized x h in
      let a = bit_true (is_object v.directory x) (omega (arith, reached v img o sized x k)) in
      let r = entry_fields_lem o x k in
      name_fields_legal (v.directory.entry x) (go (is_stream (v.directory.entry x)) refl a r)
    where
      go : (t : Bool) → is_stream (v.directory.entry x) ≡ t → (is_storage (v.directory.entry x) || t) ≡ true → entry_fields x (v.directory.entry x) ≡ true →
          name_fields (v.directory.entry x) ≡ true
      go true s a r = (stream_fields_say (v.directory.entry x) (stream_fields_of (v.directory.entry x) x r s)).0
      go false s a r = storage_fields_say (v.directory.entry x) (storage_fields_of (v.directory.entry x) x r (or_only (is_storage (v.directory.entry x)) a))

  stream_childless : (x : ℕ) → named v.directory x ≡ true → is_stream (v.directory.entry x) ≡ true → child (v.directory.entry x) ≡ NOSTREAM
  stream_childless x h st =
      (stream_fields_say (v.directory.entry x) (stream_fields_of (v.directory.entry x) x (entry_fields_lem o x (named_inside v.directory x h)) st)).1

  pub findable : Findable v.directory
  unfolding forest
  findable = record { ordered = (rules_apart v.directory o.trees).sorted; leaves = stream_childless; legal = reached_legal; root_plain = root_plain }

  found_hits : (p : Path) → found_list (resolve_stream v.directory p) ≡ hits v.directory (strip (names p) []) (forest v.directory)
  unfolding strip
  found_hits p = path_hits v.directory p findable

  meant_found : (p : Path) → meant_lengths (rows_in v img [] (forest v.directory)) p ≡ map (λ x. length (contents v img x)) (found_list (resolve_stream v.directory p))
  meant_found p = rows_meant v img p [] (forest v.directory) ∙ ap (map (λ x. length (contents v img x))) (sym (found_hits p))

  pub refused_has_no_row : (p : Path) (n : ℕ) → resolve_stream v.directory p ≡ refused n → has_row (rows_in v img [] (forest v.directory)) p ≡ false
  unfolding non_empty found_list
  refused_has_no_row p n e =
      has_row_meant (rows_in v img [] (forest v.directory)) p
      ∙ ap non_empty (meant_found p ∙ ap (λ f. map (λ x. length (contents v img x)) (found_list f)) e)

  module _ (p : Path) {e : ℕ} {b : Forest} (found : resolve_stream v.directory p ≡ at e b) where
    pub hits_one : hits v.directory (strip (names p) []) (forest v.directory) ≡ e ∷ []
    unfolding found_list
    hits_one = sym (found_hits p) ∙ ap found_list found

    pub is_stream_lem : is_stream (v.directory.entry e) ≡ true
    is_stream_lem = found_stream v.directory p e b found

    pub is_inside : e < v.directory.count
    is_inside =
        inside_forest v img o sized e
        (omega (arith, hits_le v.directory (strip (names p) []) e (forest v.directory), ap (count e) hits_one, bit_self e))

    pub has_row_lem : has_row (rows_in v img [] (forest v.directory)) p ≡ true
    unfolding non_empty found_list
    has_row_lem =
        has_row_meant (rows_in v img [] (forest v.directory)) p
        ∙ ap non_empty (meant_found p ∙ ap (λ f. map (λ x. length (contents v img x)) (found_list f)) found)

    pub row_length_lem : row_length (rows_in v img [] (forest v.directory)) p ≡ stream_size v e
    unfolding first_or0 found_list
    row_length_lem =
        row_length_meant (rows_in v img [] (forest v.directory)) p
        ∙ ap first_or0 (meant_found p ∙ ap (λ f. map (λ x. length (contents v img x)) (found_list f)) found)
        ∙ length_contents v img o sized e is_inside is_stream_lem

    -- the stream alone is meant, and wherever it stands
    pub hit_is_found : (x : ℕ) → 0 < count x (hits v.directory (strip (names p) []) (forest v.directory)) → x ≡ e
    hit_is_found x h =
        elim (eqb_cases x e) [
          | inl z ↦ z.0
          | inr z ↦ absurd (omega (arith, ap (count x) hits_one, ap bit z.1))
        ]

    pub found_hit_everywhere : count e (hits v.directory (strip (names p) []) (forest v.directory)) ≡ count e (entries (forest v.directory))
    found_hit_everywhere =
        omega (
          arith,
          ap (count e) hits_one,
          bit_self e,
          reached v img o sized e is_inside ∙ ap (λ t. bit (is_storage (v.directory.entry e) || t)) is_stream_lem
              ∙ ap bit (or-true (is_storage (v.directory.entry e))),
        )
