-- The loop over entries that lists start and size of each stream.
use Prim.Native.Nat.{ℕ, ◌+◌, ◌-◌, ◌≤◌, ◌<◌}
use mathlib.Core.Path.{◌≡◌, sym, ap, ap₂, ◌∙◌}
use mathlib.Core.Bool.{Bool, true, false, ◌&&◌, and-true}
use mathlib.Core.List.{List, [], ◌++◌, append-nil}
use native.Mathlib.Nat.{add-zero}
use native.Mathlib.Omega.{arith}
use lib.Dec.{eqb}
use lib.ListN.{length, set}
use Rattle.format.specs.Basics.Bytes.{Bytes}
use Rattle.format.specs.Basics.Lists.{bit}
use Rattle.format.specs.Layout.Geometry.{size_width}
use Rattle.format.specs.Layout.Entry.{kind, is_stream, start, size}
use Rattle.format.specs.Layout.Directory.{size_of, directory_of}
use Rattle.format.specs.Layout.Volume.{Volume, volume, directory}
use Rattle.format.specs.Layout.Stream.{stream_size, stream_units}
use Rattle.format.specs.Rules.Streams.{stream_chain, stream_right}
use Rattle.format.specs.Rules.Owners.{own_sectors, own_minis}
use Rattle.theory.proofs.Loops.{below_none, below_next}
use Rattle.kinds.specs.Sizes.{geometry_of}
use Rattle.tables.specs.Views.{volume_of}
use Rattle.entries.specs.Entry.{entry_at}
use Rattle.directory.specs.Listed.{entries_of, place_of, DirectoryListed}
use Rattle.directory.specs.declared.Directory.{Directory}
use Rattle.directory.proofs.Places.{entry_is}
use Rattle.stream_chains.specs.Asked.{chain_at, sectors_at, minis_at, right_from, sectors_from, minis_from, Gathered}
use Rattle.stream_chains.proofs.Joins.{join_none, join_more}
use Rattle.stream_chains.proofs.Pairs.{all_kept, join_kept, all_put, join_put}

-- ---- what is read of an entry, which stands at p

module _ {d : Directory} {img : Bytes} {work : List ℕ} (l : DirectoryListed d img work) (x p : ℕ) (h : x < (entries_of d img).count) (q : p ≡ place_of d work x) where
  abbrev there : Bytes
  there = (volume_of d.geometry img).directory.entry x

  entry_there : entry_at img p ≡ there
  unfolding volume
  entry_there = ap (entry_at img) q ∙ sym (entry_is l x h)

  pub stream_there : {k : ℕ} {b : Bool} → b ≡ eqb k 2 → k ≡ kind (entry_at img p) → b ≡ is_stream there
  stream_there e f = e ∙ ap (λ k. eqb k 2) f ∙ ap is_stream entry_there

  pub start_there : {s : ℕ} → s ≡ start (entry_at img p) → s ≡ start there
  start_there e = e ∙ ap start entry_there

  pub size_there : {n : ℕ} → n ≡ size (size_width (geometry_of d.geometry)) (entry_at img p) → n ≡ stream_size (volume_of d.geometry img) x
  unfolding stream_size size_of volume directory directory_of
  size_there e = e ∙ ap (size (size_width (geometry_of d.geometry))) entry_there

module _ (v : Volume) where
  -- ---- one entry, whose start and size are s and n if it is a stream

  module _ (i : ℕ) where
    abbrev e : Bytes
    e = v.directory.entry i

    module _ (h : is_stream e ≡ false) where
      other_right : stream_right v i ≡ true
      unfolding stream_right
      other_right = rw h

      other_sectors : own_sectors v i ≡ []
      unfolding own_sectors
      other_sectors = rw h

      other_minis : own_minis v i ≡ []
      unfolding own_minis
      other_minis = rw h

    module _ (h : is_stream e ≡ true) (s n : ℕ) (p : s ≡ start e) (q : n ≡ stream_size v i) where
      stream_right_lem : stream_right v i ≡ chain_at v s n
      unfolding stream_right stream_chain chain_at
      stream_right_lem = rw (h, p, q)

      stream_sectors : own_sectors v i ≡ sectors_at v s n
      unfolding own_sectors sectors_at stream_units
      stream_sectors = rw (h, p, q)

      stream_minis : own_minis v i ≡ minis_at v s n
      unfolding own_minis minis_at stream_units
      stream_minis = rw (h, p, q)

  -- ---- the entries from x on

  module _ (x : ℕ) {starts sizes : List ℕ} where
    pub gathered_none : Gathered v x (x - x) 0 starts sizes
    gathered_none =
        let z : x - x ≡ 0 = omega arith in
        rw z (record { few = omega arith; right = below_none _ ∙ sym (below_none _); sectors = join_none _ ∙ sym (join_none _); minis = join_none _ ∙ sym (join_none _) })

    module _ {n k : ℕ} (g : Gathered v x n k starts sizes) (s m : ℕ) where
      -- the next is no stream
      with_other : is_stream (e (x + n)) ≡ false → Gathered v x (n + 1) k (set starts k s) (set sizes k m)
      with_other h =
          record {
            few = omega (arith, g.few);
            right = below_next (right_from v x) n ∙ rw (other_right (x + n) h) (and-true _) ∙ g.right ∙ sym (all_kept starts sizes k s m (chain_at v));
            sectors = join_more (sectors_from v x) n ∙ rw (other_sectors (x + n) h) (append-nil _) ∙ g.sectors ∙ sym (join_kept starts sizes k s m (sectors_at v));
            minis = join_more (minis_from v x) n ∙ rw (other_minis (x + n) h) (append-nil _) ∙ g.minis ∙ sym (join_kept starts sizes k s m (minis_at v));
          }

      -- it is one
      with_stream : k < length starts → k < length sizes → is_stream (e (x + n)) ≡ true → s ≡ start (e (x + n)) → m ≡ stream_size v (x + n)
          → Gathered v x (n + 1) (k + 1) (set starts k s) (set sizes k m)
      with_stream a b h p q =
          record {
            few = omega (arith, g.few);
            right = below_next (right_from v x) n ∙ ap₂ ◌&&◌ g.right (stream_right_lem (x + n) h s m p q) ∙ sym (all_put starts sizes k s m a b (chain_at v));
            sectors = join_more (sectors_from v x) n ∙ ap₂ ◌++◌ g.sectors (stream_sectors (x + n) h s m p q) ∙ sym (join_put starts sizes k s m a b (sectors_at v));
            minis = join_more (minis_from v x) n ∙ ap₂ ◌++◌ g.minis (stream_minis (x + n) h s m p q) ∙ sym (join_put starts sizes k s m a b (minis_at v));
          }

      -- whether or not
      with_one : k < length starts → k < length sizes → (b : Bool) → b ≡ is_stream (e (x + n)) → s ≡ start (e (x + n)) → m ≡ stream_size v (x + n)
          → Gathered v x (n + 1) (k + bit b) (set starts k s) (set sizes k m)
      with_one a c true h p q = with_stream a c (sym h) p q
      with_one a c false h p q = rw add-zero (with_other (sym h))

    -- entry y
    pub gathered_next : {y k : ℕ} → x ≤ y → Gathered v x (y - x) k starts sizes → k < length starts → k < length sizes → (s m : ℕ) (b : Bool)
        → b ≡ is_stream (e y) → s ≡ start (e y) → m ≡ stream_size v y → Gathered v x (y + 1 - x) (k + bit b) (set starts k s) (set sizes k m)
    gathered_next {y} {k} l g a c s m b h p q =
        let z : y + 1 - x ≡ (y - x) + 1 = omega arith in
        let w : x + (y - x) ≡ y = omega arith in
        rw z (with_one g s m a c b (rw w h) (rw w p) (rw w q))
