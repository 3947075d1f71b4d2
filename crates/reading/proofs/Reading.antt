-- The walk that reads from a stream over any space: it is at byte o of unit u, and the first i bytes stand in the out buffer.
use Prim.Native.Nat.{ℕ, ◌+◌, ◌-◌, ◌/◌, ◌%◌, ◌≤◌, ◌<◌, min}
use mathlib.Core.Path.{◌≡◌, refl, sym, ◌∙◌, ap}
use mathlib.Core.Bool.{true}
use mathlib.Core.List.{[], ◌∷◌, ◌++◌, append-nil}
use native.Mathlib.Nat.{mod-lt, add_assoc}
use native.Mathlib.Omega.{arith}
use lib.ListN.{length, get_or, take, drop, drop_of_length-le}
use lib.Seq.{sets-eq, take_at, drop-append-add, drop-drop}
use Rattle.format.specs.Basics.Bytes.{Bytes, part, put_bytes}
use Rattle.format.specs.Layout.Need.{round_up}
use Rattle.format.specs.Layout.Space.{Space, chain_for, units_for}
use Rattle.format.specs.Calls.Overwrite.{byte_place}
use Rattle.theory.proofs.ByteTests.{length_part}
use Rattle.theory.proofs.RoundUp.{round_lt}
use Rattle.frame.proofs.Blocks.{Units}
use Rattle.reading.specs.Streams.{stream_bytes}
use Rattle.reading.proofs.Parts.{put_length, part_none, part_more, end_div, end_mod}
use Rattle.reading.proofs.StreamBytes.{stream_unit, stream_next, stream_length, stream_part}

pub record Reading (sp : Space) (img : Bytes) (size start offset : ℕ) (out₀ out : Bytes) (u o i : ℕ) : Type 0 where
  pub some : i ≤ length out₀
  pub long : length out ≡ length out₀
  pub unit : i < length out₀ → u ≡ get_or (units_for sp size start) ((offset + i) / sp.unit) 0
  pub inner : i < length out₀ → o ≡ (offset + i) % sp.unit
  pub front : out ≡ part (stream_bytes sp img size start) offset i ++ drop i out₀

-- from unit u₀ on, whatever start leads there
abbrev pub ReadingFrom : Space → Bytes → ℕ → ℕ → Bytes → ℕ → Bytes → ℕ → ℕ → ℕ → Type 0
ReadingFrom sp img size offset out₀ u₀ out u o i =
    (start : ℕ) → chain_for sp size start ≡ true → u₀ ≡ get_or (units_for sp size start) (offset / sp.unit) 0 → Reading sp img size start offset out₀ out u o i

-- a run that goes on where the last one ended
put_on : (p x d : Bytes) (i : ℕ) → length p ≡ i → i + length x ≤ length (p ++ drop i d) → put_bytes (p ++ drop i d) i x ≡ p ++ x ++ drop (i + length x) d
unfolding put_bytes
put_on p x d i e h =
    let t : take i (p ++ drop i d) ≡ p = take_at p (drop i d) i e in
    let w : drop (i + length x) (p ++ drop i d) ≡ drop (i + length x) d = rw (← e) (drop-append-add p (drop (length p) d) (length x) ∙ drop-drop (length x) (length p) d) in
    sets-eq x (p ++ drop i d) i h ∙ rw (t, w)

-- with no room in the out buffer nothing is read
pub none_read : (s : Bytes) (offset : ℕ) (out : Bytes) → length out ≡ 0 → out ≡ part s offset (length out)
none_read s offset [] h = sym (part_none s offset)
none_read s offset (x ∷ out) h = absurd (omega arith)

module _ {sp : Space} (img : Bytes) (t : Units sp (length img)) {size start offset : ℕ} {out₀ : Bytes} (c : chain_for sp size start ≡ true) (f : offset + length out₀ ≤ size) where
  pub reading_start : (u : ℕ) → u ≡ get_or (units_for sp size start) (offset / sp.unit) 0 → Reading sp img size start offset out₀ out₀ u (offset % sp.unit) 0
  reading_start u e =
      let z : offset + 0 ≡ offset = omega arith in
      record {
        some = omega arith;
        long = refl;
        unit = λ h. rw z e;
        inner = λ h. rw z;
        front = rw (part_none (stream_bytes sp img size start) offset);
      }

  module _ {out : Bytes} {u o i : ℕ} (a : Reading sp img size start offset out₀ out u o i) where
    pub reading_done : length out₀ ≤ i → out ≡ part (stream_bytes sp img size start) offset (length out₀)
    reading_done h =
        let e : i ≡ length out₀ = omega (arith, a.some) in
        a.front ∙ rw (e, drop_of_length-le out₀ {i = length out₀} (omega arith)) (append-nil _)

    module _ (h : i < length out₀) where
      at : (offset + i) / sp.unit < round_up size sp.unit
      at = round_lt (offset + i) size sp.unit t.some (omega arith)

      pub reading_below : u < sp.limit
      reading_below = rw (a.unit h) (stream_unit img t size start c _ at)

      pub reading_inner : o < sp.unit
      reading_inner = rw (a.inner h) (mod-lt (offset + i) t.some)

      -- the rest of the unit lies in the image
      pub reading_room : sp.unit_place u + o + (sp.unit - o) ≤ length img
      reading_room = let b = reading_inner in omega (arith, t.room u reading_below)

      -- there is a byte to read, and room for it
      pub reading_more : (k : ℕ) → k ≡ min (sp.unit - o) (length out - i) → (0 < k) × (i + k ≤ length out₀)
      reading_more k e = let l = a.long in let b = reading_inner in (omega arith, omega arith)

      place_is : byte_place sp (units_for sp size start) (offset + i) ≡ sp.unit_place u + o
      unfolding byte_place
      place_is = rw (a.unit h, a.inner h)

      module _ (k : ℕ) (e : k ≡ min (sp.unit - o) (length out - i)) where
        run : part img (sp.unit_place u + o) k ≡ part (stream_bytes sp img size start) (offset + i) k
        run =
            let z = reading_more k e in
            let b : o + k ≤ sp.unit = omega (arith, reading_inner) in
            rw (← place_is) (sym (stream_part img t size start c (offset + i) k z.0 (omega arith) (rw (← a.inner h) b)))

        pub reading_step : Reading sp img size start offset out₀ (put_bytes out i (part img (sp.unit_place u + o) k)) (sp.cell u) 0 (i + k)
        reading_step =
            let z = reading_more k e in
            record {
              some = z.1;
              long = put_length out i _ ∙ a.long;
              unit = next;
              inner = λ q. sym (ap (λ j. j % sp.unit) (sym (add_assoc offset i k)) ∙ end_mod sp.unit (offset + i) k t.some (to_end q));
              front = on;
            }
          where
            to_end : i + k < length out₀ → (offset + i) % sp.unit + k ≡ sp.unit
            to_end q = let l = a.long in let b = reading_inner in rw (← a.inner h) (omega arith)

            next : i + k < length out₀ → sp.cell u ≡ get_or (units_for sp size start) ((offset + (i + k)) / sp.unit) 0
            next q =
                let d : (offset + (i + k)) / sp.unit ≡ (offset + i) / sp.unit + 1 =
                ap (λ j. j / sp.unit) (sym (add_assoc offset i k)) ∙ end_div sp.unit (offset + i) k t.some (to_end q) in
                let l = round_lt (offset + (i + k)) size sp.unit t.some (omega arith) in
                rw d (sym (stream_next img t size start c _ (rw d at l) ∙ ap sp.cell (sym (a.unit h))))

            on : put_bytes out i (part img (sp.unit_place u + o) k) ≡ part (stream_bytes sp img size start) offset (i + k) ++ drop (i + k) out₀
            on =
                let S = stream_bytes sp img size start in
                let z = reading_more k e in
                let n = stream_length img t size start c in
                let p : length (part (stream_bytes sp img size start) offset i) ≡ i = length_part S offset i (omega arith) in
                let x : length (part (stream_bytes sp img size start) (offset + i) k) ≡ k = length_part S (offset + i) k (omega arith) in
                let l = ap length a.front in
                ap (λ b. put_bytes out i b) run ∙ ap (λ b. put_bytes b i (part S (offset + i) k)) a.front
                ∙ put_on (part S offset i) (part S (offset + i) k) out₀ i p (omega (arith, a.long, z.1))
                ∙ rw (x, part_more S offset i k)
