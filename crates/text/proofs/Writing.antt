-- A number's digits written from the last one to the first.
use mathlib.Core.Path.{◌≡◌, ap, sym, ◌∙◌}
use mathlib.Core.List.{◌++◌}
use Prim.Native.Nat.{ℕ, suc, ◌+◌, ◌-◌, ◌/◌, ◌%◌, ◌^◌, ◌≤◌, ◌<◌}
use native.Mathlib.Omega.{arith}
use lib.ListN.{length, take, drop, get_or, set}
use lib.Seq.{get_or-take, take-take, take-length, length-take-le}
use Rattle.format.specs.Basics.Bytes.{Bytes}
use Rattle.format.specs.Calls.Read.{over}
use Rattle.format.specs.Calls.Text.{decimal}
use Rattle.text.proofs.Decimals.{last_digit, front_digits}
use Rattle.text.proofs.Over.{back_start, back_more}

-- n's digits from number i on are written, and those before it are m's
pub record Writing (out₀ : Bytes) (n : ℕ) (out : Bytes) (i m : ℕ) : Type 0 where
  pub room : length (decimal n) ≤ length out₀
  pub within : i ≤ length (decimal n)
  pub fits : m < 2 ^ 64
  pub left : 0 < i → decimal m ≡ take i (decimal n)
  pub written : out ≡ take i out₀ ++ drop i (over (decimal n) out₀)

pub writing_start : (out₀ : Bytes) (n i : ℕ) → length (decimal n) ≤ length out₀ → n < 2 ^ 64 → i ≡ length (decimal n) → Writing out₀ n out₀ i n
writing_start out₀ n i r b e =
    rw e
    record {
      room = r;
      within = omega arith;
      fits = b;
      left = λ h. sym (take-length (decimal n));
      written = back_start (decimal n) out₀;
    }

module _ {out₀ : Bytes} {n : ℕ} {out : Bytes} {i m : ℕ} (w : Writing out₀ n out i m) where
  pub writing_end : i ≡ 0 → out ≡ over (decimal n) out₀
  writing_end e = w.written ∙ rw e

  writing_back : (j : ℕ) → i ≡ suc j → Writing out₀ n (set out j (0x30 + m % 10)) j (m / 10)
  writing_back j e =
      let t : decimal m ≡ take (suc j) (decimal n) = rw e at (w.left (omega arith)) in
      let l : length (decimal m) ≡ j + 1 = ap length t ∙ length-take-le (suc j) (decimal n) (omega (arith, w.within)) ∙ omega arith in
      let d : get_or (decimal n) j 0 ≡ 0x30 + m % 10 = sym (get_or-take (suc j) (decimal n) j 0 (omega arith)) ∙ ap (λ (b : Bytes). get_or b j 0) (sym t) ∙ last_digit m j w.fits l in
      record {
        room = w.room;
        within = omega (arith, w.within);
        fits = omega (arith, w.fits);
        left = λ h. sym (front_digits m j w.fits l h) ∙ rw t (take-take j (suc j) (decimal n) (omega arith));
        written = rw (w.written, e, ← d) (back_more (decimal n) out₀ j (omega (arith, w.within)) w.room);
      }

  -- one digit more
  pub writing_next : 0 < i → Writing out₀ n (set out (i - 1) (0x30 + m % 10)) (i - 1) (m / 10)
  writing_next h = writing_back (i - 1) (omega arith)
