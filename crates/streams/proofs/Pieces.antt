-- A piece of a listed stream is read: the first i bytes stand in the out buffer, and the unit of the next one is looked up in the list.
use Prim.Native.Nat.{ℕ, ◌+◌, ◌-◌, ◌/◌, ◌%◌, ◌≤◌, ◌<◌, min}
use mathlib.Core.Path.{◌≡◌, refl, sym, ◌∙◌, ap, ap₂}
use mathlib.Core.List.{List}
use native.Mathlib.Omega.{arith}
use lib.ListN.{length, get_or}
use Rattle.format.specs.Basics.Bytes.{Bytes, part, put_bytes}
use Rattle.format.specs.Layout.Stream.{contents}
use Rattle.format.specs.Rules.Version.{own_volume}
use Rattle.volume.specs.declared.Volume.{Volume as Opened}
use Rattle.spaces.specs.Spaces.{kind_for, unit_bytes, listed_space}
use Rattle.spaces.specs.Units.{kind_of, number_in, unit_of}
use Rattle.spaces.specs.declared.Kind.{Kind}
use Rattle.spaces.specs.declared.Unit.{Unit}
use Rattle.reading.proofs.Reading.{Reading, reading_start, reading_more, reading_step, reading_done}
use Rattle.queries.specs.declared.find.Object.{Object}
use Rattle.streams.specs.Listed.{OpenStream}
use Rattle.streams.proofs.Listing.{start_in, listed_chain, listed_bytes}
use Rattle.streams.proofs.Places.{space_of, unit_at, listed_stand, bytes_are, place_is}

abbrev Piece : Opened → Bytes → Object → ℕ → Bytes → Bytes → ℕ → Type 0
Piece v img e offset out₀ out i =
    Reading (space_of v img e) img e.size (start_in v img e) offset out₀ out (unit_at v img e (offset + i)) ((offset + i) % (space_of v img e).unit) i

-- what is asked for lies in a listed stream that has units of this kind
pub record Asked (v : Opened) (img : Bytes) (w : List ℕ) (kind : Kind) (offset : ℕ) (out : Bytes) (e : Object) : Type 0 where
  pub listed : OpenStream v img w e
  pub kind_is : kind ≡ kind_for e.size
  pub within : offset + length out ≤ e.size

-- whatever stream it is
abbrev pub Pieces : Opened → Bytes → List ℕ → Kind → ℕ → Bytes → Bytes → ℕ → Type 0
Pieces v img w kind offset out₀ out i = (e : Object) → Asked v img w kind offset out₀ e → Piece v img e offset out₀ out i

module _ {v : Opened} {img : Bytes} {w : List ℕ} {kind : Kind} {offset : ℕ} {out₀ : Bytes} where
  module _ {e : Object} (q : Asked v img w kind offset out₀ e) where
    start : Piece v img e offset out₀ out₀ 0
    start = let z : offset + 0 ≡ offset = omega arith in rw z (reading_start img (listed_stand q.listed) (listed_chain q.listed) q.within _ refl)

    module _ {out : Bytes} {i : ℕ} (a : Pieces v img w kind offset out₀ out i) where
      pub piece_long : length out ≡ length out₀
      piece_long = (a e q).long

      pub piece_done : length out₀ ≤ i → out ≡ part (contents (own_volume img) img e.id.0) offset (length out₀)
      piece_done h =
          reading_done img (listed_stand q.listed) (listed_chain q.listed) q.within (a e q) h ∙ ap (λ s. part s offset (length out₀)) (listed_bytes q.listed)

      -- a run to the end of the unit or of the out buffer
      module _ {bytes : ℕ} (b : bytes ≡ unit_bytes v kind) (h : i < length out₀) {n : ℕ} (m : n ≡ min (bytes - (offset + i) % bytes) (length out₀ - i)) where
        unit_is : bytes ≡ (space_of v img e).unit
        unit_is = bytes_are q.listed q.kind_is b

        run_is : n ≡ min ((space_of v img e).unit - (offset + i) % (space_of v img e).unit) (length out - i)
        run_is = m ∙ ap₂ (λ k l. min (k - (offset + i) % k) (l - i)) unit_is (sym piece_long)

        pub piece_more : (0 < n) × (i + n ≤ length out₀)
        piece_more = reading_more img (listed_stand q.listed) (listed_chain q.listed) q.within (a e q) h n run_is

        step : {u : Unit} {p : ℕ} → u ≡ unit_of kind (get_or w ((offset + i) / bytes) 0) → p ≡ (listed_space v w (kind_of u)).unit_place (number_in u)
            → Piece v img e offset out₀ (put_bytes out i (part img (p + (offset + i) % bytes) n)) (i + n)
        step x y =
            let r = reading_step img (listed_stand q.listed) (listed_chain q.listed) q.within (a e q) h n run_is in
            rw (place_is q.listed q.kind_is b (offset + i) (omega (arith, q.within)) x y, unit_is)
            record { some = r.some; long = r.long; unit = λ _. refl; inner = λ _. refl; front = r.front }

  -- ---- the walk

  pub pieces_start : Pieces v img w kind offset out₀ out₀ 0
  pieces_start e q = start q

  pub pieces_step : {out : Bytes} {i : ℕ} → Pieces v img w kind offset out₀ out i → {bytes : ℕ} → bytes ≡ unit_bytes v kind → i < length out₀
      → {n : ℕ} → n ≡ min (bytes - (offset + i) % bytes) (length out₀ - i)
      → {u : Unit} {p : ℕ} → u ≡ unit_of kind (get_or w ((offset + i) / bytes) 0) → p ≡ (listed_space v w (kind_of u)).unit_place (number_in u)
      → {next : Bytes} → next ≡ put_bytes out i (part img (p + (offset + i) % bytes) n) → Pieces v img w kind offset out₀ next (i + n)
  pieces_step a b h m x y z e q = rw z (step q a b h m x y)
