-- A name printed unit by unit.
use mathlib.Core.Path.{◌≡◌, refl, ap, sym, ◌∙◌}
use mathlib.Core.List.{◌++◌}
use Prim.Native.Nat.{ℕ, ◌+◌, ◌-◌, ◌*◌, ◌≤◌, ◌<◌}
use native.Mathlib.Omega.{arith}
use lib.ListN.{length, take, drop, get_or, length-append, length-drop, take-append-drop}
use lib.Seq.{take_all}
use Rattle.format.specs.Basics.Bytes.{Bytes}
use Rattle.format.specs.Layout.Name.{Name}
use Rattle.format.specs.Layout.Entry.{name_unit, name}
use Rattle.format.specs.Calls.Read.{over}
use Rattle.format.specs.Calls.Text.{print_unit, print_name}
use Rattle.entries.specs.Entry.{entry_at, NamedAt}
use Rattle.entries.proofs.NameLaws.{name_length, name_unit_lem}
use Rattle.text.proofs.Over.{over_none, over_length, over_lent}
use Rattle.text.proofs.Units.{print_append, print_more, name_most}

-- a unit as it is read
pub unit_is : (e : Bytes) (i : ℕ) {u : ℕ} → i < length (name e) → u ≡ name_unit e i → u ≡ get_or (name e) i 0
unit_is e i h q = q ∙ sym (name_unit_lem e i (omega (arith, name_length e)))

pub units_most : {img : Bytes} {p : ℕ} → NamedAt img p → length (name (entry_at img p)) ≤ 31
units_most {img} {p} n = omega (arith, n.named.most, name_length (entry_at img p))

pub front_most : (xs : Name) (i : ℕ) → length (print_name (take i xs)) ≤ length (print_name xs)
front_most xs i =
    omega (arith, length-append (print_name (take i xs)) (print_name (drop i xs)), ap length (sym (print_append (take i xs) (drop i xs)) ∙ ap print_name (take-append-drop i xs)))

-- ---- the first i units take k bytes

pub record Printed (xs : Name) (i k : ℕ) : Type 0 where
  pub within : i ≤ length xs
  pub count : k ≡ length (print_name (take i xs))

pub printed_start : (xs : Name) → Printed xs 0 0
unfolding print_name
printed_start xs = record { within = omega arith; count = refl }

module _ {xs : Name} {i k : ℕ} (p : Printed xs i k) where
  pub printed_next : {u n : ℕ} → i < length xs → u ≡ get_or xs i 0 → n ≡ length (print_unit u) → Printed xs (i + 1) (k + n)
  printed_next {u} {n} h e l =
      record {
        within = omega arith;
        count = rw (p.count, l, e, print_more xs i h) (sym (length-append (print_name (take i xs)) (print_unit (get_or xs i 0))));
      }

  pub printed_end : length xs ≤ i → k ≡ length (print_name xs)
  printed_end h = p.count ∙ ap (λ (l : Name). length (print_name l)) (take_all i xs h)

  pub printed_most : k ≤ 5 * length xs
  printed_most = omega (arith, p.count, front_most xs i, name_most xs)

-- ---- and they are written

pub record Put (out₀ : Bytes) (xs : Name) (out : Bytes) (i k : ℕ) : Type 0 where
  pub room : length (print_name xs) ≤ length out₀
  pub printed : Printed xs i k
  pub written : out ≡ over (print_name (take i xs)) out₀

pub put_start : (out₀ : Bytes) (xs : Name) → length (print_name xs) ≤ length out₀ → Put out₀ xs out₀ 0 0
unfolding print_name
put_start out₀ xs h = record { room = h; printed = printed_start xs; written = sym (over_none out₀) }

module _ {out₀ : Bytes} {xs : Name} {out : Bytes} {i k : ℕ} (w : Put out₀ xs out i k) where
  pub put_length : length out ≡ length out₀
  put_length = ap length w.written ∙ over_length (print_name (take i xs)) out₀ (omega (arith, front_most xs i, w.room))

  -- there is room for one unit more
  pub put_room : {u : ℕ} → i < length xs → u ≡ get_or xs i 0 → k + length (print_unit u) ≤ length out
  put_room h e = let n = printed_next w.printed h e refl in omega (arith, n.count, front_most xs (i + 1), w.room, put_length)

  pub put_lent : {u : ℕ} → i < length xs → u ≡ get_or xs i 0 → length (print_unit u) ≤ length (take (length out - k) (drop k out))
  put_lent h e = rw (take_all (length out - k) (drop k out) (omega (arith, length-drop k out)), length-drop k out) (omega (arith, put_room h e))

  pub put_next : {u n : ℕ} {new : Bytes} → i < length xs → u ≡ get_or xs i 0 → n ≡ length (print_unit u) → new ≡ over (print_unit u) (take (length out - k) (drop k out))
      → Put out₀ xs (take k out ++ (new ++ drop (length out - k) (drop k out))) (i + 1) (k + n)
  put_next h e l q =
      record {
        room = w.room;
        printed = printed_next w.printed h e l;
        written = rw (print_more xs i h, ← e) (over_lent (print_name (take i xs)) (print_unit _) out₀ out k w.written w.printed.count q);
      }

  pub put_end : length xs ≤ i → out ≡ over (print_name xs) out₀
  put_end h = w.written ∙ ap (λ (l : Name). over (print_name l) out₀) (take_all i xs h)
