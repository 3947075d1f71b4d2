-- The colours of entries that are read ahead: each is one that group 14 asks for.
use Prim.Native.Nat.{ℕ, ◌+◌, ◌-◌, ◌%◌, ◌≤◌}
use mathlib.Core.Path.{◌≡◌, sym, ap, ◌∙◌}
use mathlib.Core.Logic.{◌≢◌}
use mathlib.Core.Bool.{true, false, not, ◌&&◌, ◌||◌}
use mathlib.Core.List.{List}
use native.Mathlib.Omega.{arith}
use native.Mathlib.Decide.{ℕ_discrete}
use lib.Dec.{eqb}
use borrow.Author.Tests.{ne_eqb}
use Rattle.format.specs.Basics.Bytes.{Bytes}
use Rattle.format.specs.Basics.Lists.{all_below}
use Rattle.format.specs.Layout.Entry.{is_root, is_blank, is_storage, is_stream}
use Rattle.format.specs.Layout.Directory.{Directory}
use Rattle.format.specs.Rules.Entries.{blank_fields, storage_fields, stream_fields, root_fields, common_fields, entry_fields, entry_right, entry_rules}
use Rattle.theory.proofs.Tests.{clash, both, neither, false_of, below_at, below_of}
use Rattle.theory.proofs.Loops.{below_none, below_next}
use Rattle.directory.specs.declared.Directory.{Directory as Where}
use Rattle.entry_rules.specs.Ahead.{in_row, colours_right, ahead_end, ahead_right}
use Rattle.entry_rules.proofs.Fields.{fields_first, fields_other}

fields_common : (i : ℕ) (e : Bytes) → entry_fields i e ≡ true → common_fields e ≡ true
fields_common i e h = elim (ℕ_discrete i 0) [
  | yes z ↦ (both (is_root e && root_fields e) (common_fields e) (sym (fields_first i e z) ∙ h)).1
  | no z ↦ (both ((is_blank e && blank_fields e) || (is_storage e && storage_fields e) || (is_stream e && stream_fields e)) (common_fields e) (sym (fields_other i e z) ∙ h)).1
]

module _ (e : Directory) (x : ℕ) where
  pub colours_start : colours_right e x x ≡ true
  colours_start = let z : x - x ≡ 0 = omega arith in rw z (below_none _)

  pub colours_next : (y : ℕ) → x ≤ y → colours_right e x (y + 1) ≡ (colours_right e x y && common_fields (e.entry y))
  colours_next y h =
      let a : y + 1 - x ≡ (y - x) + 1 = omega arith in
      let b : x + (y - x) ≡ y = omega arith in
      ap (λ k. all_below k (λ i. common_fields (e.entry (x + i)))) a ∙ below_next (λ i. common_fields (e.entry (x + i))) (y - x) ∙ ap (λ k. colours_right e x y && common_fields (e.entry k)) b

  colours_wrong : (end : ℕ) → end ≤ e.count → colours_right e x end ≡ false → entry_rules e ≡ false
  unfolding entry_rules entry_right
  colours_wrong end l h = false_of (entry_rules e) (λ r. clash (below_of (end - x) _ (λ i s. fields_common (x + i) (e.entry (x + i)) (below_at e.count (entry_right e) r (x + i) (omega arith)))) h)

-- what is said of the entries from x on
module _ (d : Where) (e : Directory) (work : List ℕ) (x : ℕ) where
  -- nothing between
  pub ahead_between : x % 64 ≢ 0 → true ≡ ahead_right d e work x
  unfolding ahead_right
  ahead_between h = rw (ne_eqb (x % 64) 0 h)

  module _ (h : x % 64 ≡ 0) where
    pub ahead_row : in_row d work x (ahead_end e x - 1) ≡ true → true ≡ ahead_right d e work x
    unfolding ahead_right
    ahead_row r = rw (h, r)

    pub ahead_scattered : in_row d work x (ahead_end e x - 1) ≡ false → colours_right e x (ahead_end e x) ≡ ahead_right d e work x
    unfolding ahead_right
    ahead_scattered r = rw (h, r)

  pub ahead_wrong : ahead_right d e work x ≡ false → entry_rules e ≡ false
  unfolding ahead_right
  ahead_wrong h = colours_wrong e x (ahead_end e x) (omega arith) (neither (not (eqb (x % 64) 0) || in_row d work x (ahead_end e x - 1)) (colours_right e x (ahead_end e x)) h).1
