-- Blocks put one after the other over old bytes: what stands there before each turn of a loop.
use Prim.Native.Nat.{ℕ, zero, suc, ◌+◌, ◌*◌, ◌≤◌, ◌<◌}
use mathlib.Core.Path.{◌≡◌, refl, sym, ap, ap₂, ◌∙◌}
use mathlib.Core.List.{◌++◌, append_assoc, append-nil}
use native.Mathlib.Nat.{suc-add, mul-le-mul_right}
use native.Mathlib.Numerals.{add-one}
use native.Mathlib.Omega.{arith}
use lib.ListN.{length, drop, length-drop, drop_of_length-le}
use lib.Seq.{length-sets, sets, sets-eq, drop-drop, drop_at}
use Rattle.format.specs.Basics.Lists.{join_below}
use Rattle.format.specs.Basics.Bytes.{Bytes, le32, put_bytes, put32}
use Rattle.format.specs.Fresh.Header.{bytes_at, numbers_below}
use Rattle.theory.proofs.Sets.{sets_append_right}
use Rattle.theory.proofs.Bytes.{length_le32}
use Rattle.fresh.proofs.Joined.{length_join}
use Rattle.fresh_sectors.specs.Laid.{Laid}

-- a block put right behind those that stand
pub put_next : (xs y old b : Bytes) (at : ℕ) → length xs ≡ at → at + length y ≤ length old → b ≡ xs ++ drop at old
    → sets b at y ≡ (xs ++ y) ++ drop (at + length y) old
put_next xs y old b at e room front =
    let rest = drop at old in
    let a : at ≡ length xs + 0 = omega arith in
    let c : at + (0 + length y) ≡ at + length y = omega arith in
    ap (λ (x : Bytes). sets x at y) front
    ∙ ap (λ (i : ℕ). sets (xs ++ rest) i y) a
    ∙ sets_append_right xs rest 0 y
    ∙ ap (λ (x : Bytes). xs ++ x)
    (sets-eq y rest 0 (omega (arith, length-drop at old))
    ∙ ap (λ (x : Bytes). y ++ x) (drop-drop (0 + length y) at old ∙ ap (λ (i : ℕ). drop i old) c))
    ∙ sym (append_assoc xs y (drop (at + length y) old))

-- blocks end to end, of which the first m have other names than those behind them
pub join_split : (m n : ℕ) (f h : ℕ → Bytes) → ((i : ℕ) → f (i + m) ≡ h i) → join_below (n + m) f ≡ join_below m f ++ join_below n h
unfolding join_below
join_split m zero f h e = let z : 0 + m ≡ m = omega arith in rw z (sym (append-nil (join_below m f)))
join_split m (suc n) f h e = rw suc-add (ap₂ ◌++◌ (join_split m n f h e) (e n) ∙ append_assoc (join_below m f) (join_below n h) (h n))

-- ---- blocks of one length

module _ (w n : ℕ) (f : ℕ → Bytes) (old : Bytes) (sized : (i : ℕ) → length (f i) ≡ w) where
  pub laid_start : Laid w n f old 0 old
  unfolding join_below
  laid_start = record { long = refl; within = omega arith; front = let e : 0 * w ≡ 0 = omega arith in rw e }

  pub laid_step : (i : ℕ) (b b' x : Bytes) → n * w ≤ length old → Laid w n f old i b → i < n → x ≡ f i → b' ≡ sets b (i * w) x
      → Laid w n f old (i + 1) b'
  unfolding join_below
  laid_step i b b' x room l h e put =
      let k : suc i ≤ n = h in
      let d = sized i in
      let c : i * w + length (f i) ≡ suc i * w = omega arith in
      rw (put, e, add-one)
      (record {
        long = length-sets b (i * w) (f i) ∙ l.long;
        within = h;
        front =
            put_next (join_below i f) (f i) old b (i * w) (length_join w f i (λ j q. sized j)) (omega (arith, mul-le-mul_right w k)) l.front
            ∙ ap (λ (m : ℕ). (join_below i f ++ f i) ++ drop m old) c;
      })

  -- of a buffer whose first block stands
  pub laid_first : (x rest : Bytes) → 1 ≤ n → x ≡ f 0 → Laid w n f (x ++ rest) 1 (x ++ rest)
  unfolding join_below
  laid_first x rest h e =
      record {
        long = refl;
        within = h;
        front = rw (e) (ap (λ (r : Bytes). f 0 ++ r) (sym (drop_at (f 0) rest (1 * w) (omega (arith, sized 0)))));
      }

  -- the buffer is full
  pub laid_end : (i : ℕ) (b : Bytes) → length old ≡ n * w → Laid w n f old i b → n ≤ i → b ≡ join_below n f
  laid_end i b room l h =
      let e : i ≡ n = omega (arith, l.within) in
      l.front
      ∙ ap (λ (k : ℕ). join_below k f ++ drop (k * w) old) e
      ∙ ap (λ (x : Bytes). join_below n f ++ x) (drop_of_length-le old {i = n * w} (omega arith))
      ∙ append-nil (join_below n f)

-- ---- numbers of four bytes

module _ (n : ℕ) (f : ℕ → ℕ) (old : Bytes) where
  pub numbers_start : Laid 4 n (bytes_at f) old 0 old
  numbers_start = laid_start 4 n (bytes_at f) old (λ i. length_le32 (f i))

  pub numbers_step : (i : ℕ) (b b' : Bytes) (v : ℕ) → n * 4 ≤ length old → Laid 4 n (bytes_at f) old i b → i < n → v ≡ f i → b' ≡ put32 b (i * 4) v
      → Laid 4 n (bytes_at f) old (i + 1) b'
  unfolding put32 put_bytes
  numbers_step i b b' v room l h e put = laid_step 4 n (bytes_at f) old (λ i. length_le32 (f i)) i b b' (le32 v) room l h (ap le32 e) put

  pub numbers_end : (i : ℕ) (b : Bytes) → length old ≡ n * 4 → Laid 4 n (bytes_at f) old i b → n ≤ i → b ≡ numbers_below n f
  unfolding numbers_below
  numbers_end = laid_end 4 n (bytes_at f) old (λ i. length_le32 (f i))
