-- A cursor's moves: the position after a read fits 64 bits, since a size does; and the cursor is the one that was to come out.
use Prim.Native.Nat.{ℕ, zero, suc, ◌+◌, ◌<◌}
use mathlib.Core.Path.{◌≡◌, ◌∙◌, ap}
use mathlib.Core.Logic.{◌⊎◌, inl, inr}
use mathlib.Core.List.{List}
use native.Mathlib.Omega.{arith}
use lib.ListN.{length}
use Rattle.format.specs.Basics.Bytes.{Bytes, AreBytes, u32at, u64at}
use Rattle.format.specs.Layout.Geometry.{Geometry, size_width}
use Rattle.format.specs.Layout.Entry.{size_field, size}
use Rattle.format.specs.Layout.Directory.{directory_of, size_of}
use Rattle.format.specs.Layout.Volume.{directory_sectors_of, directory, volume}
use Rattle.format.specs.Layout.Stream.{stream_size}
use Rattle.format.specs.Rules.Version.{version_of, own_volume}
use Rattle.format.specs.Calls.Read.{read_count}
use Rattle.format.specs.Calls.Call.{read_at}
use Rattle.format.specs.Calls.Answer.{answer}
use Rattle.format.specs.Calls.Reply.{Reply, plain, counted, on_zero, done, reply_by, reply}
use Rattle.format.specs.Calls.Cursor.{moved_by}
use Rattle.format.specs.Calls.CursorMoves.{cursor_call, cursor_after}
use Rattle.theory.proofs.Bytes.{u64_halves, u32_lt}
use Rattle.frame.proofs.Entry.{size_counts}
use Rattle.frame.proofs.RemovedImage.{entry_bytes_lem}

-- ---- a size fits 64 bits

u32_fits : (b : Bytes) (o : ℕ) → AreBytes b → u32at b o < 0x1_0000_0000_0000_0000
u32_fits b o h = omega (arith, u32_lt b o h)

u64_fits : (b : Bytes) (o : ℕ) → AreBytes b → u64at b o < 0x1_0000_0000_0000_0000
u64_fits b o h = omega (arith, u64_halves b o, u32_lt b o h, u32_lt b (o + 4) h)

field_fits : (c : ℕ) → (c ≡ 4) ⊎ (c ≡ 8) → (e : Bytes) → AreBytes e → size c e < 0x1_0000_0000_0000_0000
unfolding size u32at u64at
field_fits c (inl q) e h = rw q (u32_fits e size_field h)
field_fits c (inr q) e h = rw q (u64_fits e size_field h)

size_fits : (g : Geometry) (img : Bytes) → AreBytes img → (x : ℕ) → stream_size (volume g img) x < 0x1_0000_0000_0000_0000
unfolding stream_size volume directory directory_of size_of
size_fits g img h x = field_fits (size_width g) (size_counts g) _ (entry_bytes_lem g img (directory_sectors_of g img) h x)

-- ---- the position after a read, and the cursor

module _ (img : Bytes) (x p : ℕ) (out : Bytes) (work : List ℕ) where
  pub move_fits : AreBytes img → p < 0x1_0000_0000_0000_0000 → {r : Reply} {n : ℕ} → r ≡ reply img (read_at x p out work) → n ≡ r.count
      → p + n < 0x1_0000_0000_0000_0000
  unfolding reply_by done on_zero plain counted read_count
  move_fits h f e k = omega (arith, k, ap (λ (r : Reply). r.count) e, go (answer (version_of img) img (read_at x p out work)))
    where
      go : (a : ℕ) → p + (on_zero a (counted (read_count (stream_size (own_volume img) x) p (length out))) (plain a)).count < 0x1_0000_0000_0000_0000
      go zero = omega (arith, f, size_fits (version_of img) img h x)
      go (suc a) = omega (arith, f)

  pub move_is : {r : Reply} {n : ℕ} → r ≡ reply img (read_at x p out work) → n ≡ r.count
      → record { entry = x; position = p + n } ≡ cursor_after img (record { entry = x; position = p }) out work
  unfolding cursor_after cursor_call moved_by
  move_is e k = ap (λ (m : ℕ). record { entry = x; position = p + m }) (k ∙ ap (λ (r : Reply). r.count) e)
