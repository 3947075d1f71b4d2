-- Which plans are sound, and the parts of one.
use Prim.Native.Nat.{ℕ, suc, ◌+◌, ◌-◌, ◌*◌, ◌≤◌, ◌<◌}
use mathlib.Core.Path.{◌≡◌, sym, ap, ◌∙◌}
use mathlib.Core.Logic.{inl, inr}
use mathlib.Core.Bool.{true, false, ◌&&◌}
use native.Mathlib.Nat.{mul-le-mul, eq_of_mul-eq-mul_right}
use native.Mathlib.Omega.{arith}
use native.Mathlib.Decide.{ℕ_discrete}
use lib.Dec.{eqb, leb}
use lib.ListN.{length}
use borrow.Author.Tests.{le-leb, eq-eqb, ne_eqb, leb-true}
use Rattle.format.specs.Basics.Bytes.{Bytes}
use Rattle.format.specs.Layout.Geometry.{Geometry, version3, version4, sector_count, header_difat, mini_bytes, cells_in, difat_in}
use Rattle.format.specs.Layout.Need.{round_up}
use Rattle.format.specs.Rules.Length.{length_allowed}
use Rattle.format.specs.Rules.Tables.{difat_need}
use Rattle.format.specs.Fresh.Plan.{Plan, planned, fat_part, difat_part, mini_stream_bytes, mini_stream_part, difat_from, directory_from, mini_fat_from, mini_stream_from, spare_from, known_version, parts_fit}
use Rattle.format.specs.Fresh.Answer.{buffer_fits}
use Rattle.theory.proofs.RoundUp.{round_le, round_self, round_fits}
use Rattle.theory.proofs.Tests.{clash, false_of, both}
use Rattle.frame.specs.Kept.{Sized}
use Rattle.frame.proofs.Lengths.{allowed_long}
use Rattle.fresh.proofs.Numbers.{cells_fill, cells_some}
use Rattle.fresh.proofs.Answer.{planned_cases, planned_headed}
use Rattle.formatting.specs.Plans.{plan_sound, Small}

-- ---- the version

pub planned_narrow : (p : Plan) → (planned p).sector_bytes ≤ 4096
unfolding version3 version4
planned_narrow p =
    elim (planned_cases p) [
      | inl e ↦ omega (arith, ap (λ (g : Geometry). g.sector_bytes) e)
      | inr e ↦ omega (arith, ap (λ (g : Geometry). g.sector_bytes) e)
    ]

module _ (g : Geometry) (p : Plan) (own : g ≡ planned p) where
  pub plan_sized : Sized g
  plan_sized = rw own (planned_headed p).sized

  pub plan_narrow : g.sector_bytes ≤ 4096
  plan_narrow = rw own (planned_narrow p)

  -- ---- the buffer

  pub not_allowed : (n : ℕ) → length_allowed g n ≡ false → false ≡ buffer_fits n p
  unfolding buffer_fits
  not_allowed n h = rw (← own, h)

  pub allowed : (img : Bytes) → length_allowed g (length img) ≡ true → eqb (sector_count g img) p.sectors ≡ buffer_fits (length img) p
  unfolding buffer_fits
  allowed img h =
      rw (← own, h)
      (elim (ℕ_discrete (sector_count g img) p.sectors) [
        | yes e ↦ eq-eqb (sector_count g img) p.sectors e ∙ sym (eq-eqb (length img) (suc p.sectors * g.sector_bytes) (same e))
        | no n ↦ ne_eqb (sector_count g img) p.sectors n ∙ sym (ne_eqb (length img) (suc p.sectors * g.sector_bytes) (λ e. n (back e)))
      ])
    where
      long : length img ≡ (sector_count g img + 1) * g.sector_bytes
      long = allowed_long g img h plan_sized

      same : sector_count g img ≡ p.sectors → length img ≡ suc p.sectors * g.sector_bytes
      same e = long ∙ (let k : sector_count g img + 1 ≡ suc p.sectors = omega arith in ap (λ (m : ℕ). m * g.sector_bytes) k)

      back : length img ≡ suc p.sectors * g.sector_bytes → sector_count g img ≡ p.sectors
      back e =
          let w = plan_sized.wide in
          let k = eq_of_mul-eq-mul_right g.sector_bytes (omega arith) (sector_count g img + 1) (suc p.sectors) (sym long ∙ e) in
          omega arith

-- ---- a sound plan

module _ (g : Geometry) (p : Plan) where
  pub sound_is : (c u : ℕ) → c ≡ cells_in g → u ≡ round_up p.minis c → 0 < c
      → (known_version p && leb 1 p.directory && leb p.directory p.sectors && leb p.mini_fat p.sectors && leb u p.mini_fat) ≡ plan_sound g p
  unfolding plan_sound
  sound_is c u e k z =
      ap (λ t. known_version p && leb 1 p.directory && leb p.directory p.sectors && leb p.mini_fat p.sectors && t)
      (ap (λ n. leb n p.mini_fat) k ∙ round_fits p.minis c p.mini_fat z ∙ ap (λ n. leb p.minis (n * p.mini_fat)) e)

  -- what it tells
  pub sound_parts : plan_sound g p ≡ true
      → ((known_version p ≡ true) × (1 ≤ p.directory)) × ((p.directory ≤ p.sectors) × (p.mini_fat ≤ p.sectors)) × (p.minis ≤ cells_in g * p.mini_fat)
  unfolding plan_sound
  sound_parts h =
      let m = leb p.minis (cells_in g * p.mini_fat) in
      let f = leb p.mini_fat p.sectors in
      let d = leb p.directory p.sectors in
      let one = leb 1 p.directory in
      let a = both (known_version p && one && d && f) m h in
      let b = both (known_version p && one && d) f a.0 in
      let c = both (known_version p && one) d b.0 in
      let e = both (known_version p) one c.0 in (
        (e.0, leb-true 1 p.directory e.1),
        (leb-true p.directory p.sectors c.1, leb-true p.mini_fat p.sectors b.1),
        leb-true p.minis (cells_in g * p.mini_fat) a.1,
      )

  fit_parts : (known_version p && parts_fit g p) ≡ true
      → ((known_version p ≡ true) × (1 ≤ p.directory)) × (p.minis ≤ cells_in g * p.mini_fat) × (spare_from g p ≤ p.sectors)
  unfolding parts_fit
  fit_parts h =
      let m = leb p.minis (cells_in g * p.mini_fat) in
      let s = leb (spare_from g p) p.sectors in
      let one = leb 1 p.directory in
      let a = both (known_version p) (one && m && s) h in
      let b = both (one && m) s a.1 in
      let c = both one m b.0 in (
        (a.0, leb-true 1 p.directory c.0),
        leb-true p.minis (cells_in g * p.mini_fat) c.1,
        leb-true (spare_from g p) p.sectors b.1,
      )

  part_sizes : (p.directory ≤ spare_from g p) × (p.mini_fat ≤ spare_from g p)
  unfolding spare_from mini_stream_from mini_fat_from
  part_sizes = (omega arith, omega arith)

  pub unsound_unfit : plan_sound g p ≡ false → (known_version p && parts_fit g p) ≡ false
  unfolding plan_sound
  unsound_unfit h = false_of (known_version p && parts_fit g p) (λ t. clash (sound t) h)
    where
      sound : (known_version p && parts_fit g p) ≡ true → plan_sound g p ≡ true
      sound t =
          let q = fit_parts t in
          let r = part_sizes in
          rw (
            q.0.0,
            le-leb 1 p.directory q.0.1,
            le-leb p.directory p.sectors (omega (arith, q.2)),
            le-leb p.mini_fat p.sectors (omega (arith, q.2)),
            le-leb p.minis (cells_in g * p.mini_fat) q.1,
          )

  pub too_long_unfit : p.sectors < spare_from g p → (known_version p && parts_fit g p) ≡ false
  too_long_unfit h = false_of (known_version p && parts_fit g p) (λ t. omega (arith, (fit_parts t).2))

  pub sound_fits : plan_sound g p ≡ true → spare_from g p ≤ p.sectors → (known_version p && parts_fit g p) ≡ true
  unfolding parts_fit
  sound_fits h k =
      let q = sound_parts h in
      rw (q.0.0, le-leb 1 p.directory q.0.1, le-leb p.minis (cells_in g * p.mini_fat) q.2, le-leb (spare_from g p) p.sectors k)

-- ---- the parts

module _ (g : Geometry) (p : Plan) (h : Small g p) where
  pub cells_are : (128 ≤ cells_in g) × (cells_in g ≤ 1024)
  cells_are = (cells_some g h.sized, omega (arith, cells_fill g h.sized, h.narrow))

  pub minis_low : 64 * p.minis ≤ 0x2_0000_0000
  minis_low =
      let m : p.mini_fat ≤ 0x2_0000 = omega (arith, h.mini_fat, h.sectors) in
      omega (arith, h.minis, mul-le-mul cells_are.1 m)

  pub fat_low : (c f : ℕ) → c ≡ cells_in g → f ≡ round_up p.sectors c → f ≤ p.sectors
  fat_low c f e k = omega (arith, k, round_self p.sectors c (omega (arith, cells_are)))

  pub difat_low : (f d : ℕ) → d ≡ difat_need g f → d ≤ f
  unfolding difat_need header_difat difat_in
  difat_low f d k = omega (arith, k, round_self (f - 109) (cells_in g - 1) (omega (arith, cells_are)))

  pub stream_low : (s : ℕ) → s ≡ round_up (64 * p.minis) g.sector_bytes → s ≤ 0x20_0000
  stream_low s k =
      let e : g.sector_bytes * (16 * p.mini_fat) ≡ 64 * (cells_in g * p.mini_fat) = ap (λ (n : ℕ). n * (16 * p.mini_fat)) (sym (cells_fill g h.sized)) ∙ omega arith in
      let w = h.sized.wide in
      omega (arith, k, h.mini_fat, h.sectors, round_le (64 * p.minis) g.sector_bytes (16 * p.mini_fat) (omega arith) (omega (arith, e, h.minis)))

  -- where each begins
  pub record Starts (f d s : ℕ) : Type 0 where
    pub difat : f ≡ difat_from g p
    pub directory : f + d ≡ directory_from g p
    pub mini_fat : f + d + p.directory ≡ mini_fat_from g p
    pub stream : f + d + p.directory + p.mini_fat ≡ mini_stream_from g p
    pub spare : f + d + p.directory + p.mini_fat + s ≡ spare_from g p

  pub parts_start : (c f d s : ℕ) → c ≡ cells_in g → f ≡ round_up p.sectors c → d ≡ difat_need g f → s ≡ round_up (64 * p.minis) g.sector_bytes → Starts f d s
  unfolding fat_part difat_part mini_stream_bytes mini_stream_part mini_bytes difat_from directory_from mini_fat_from mini_stream_from spare_from
  parts_start c f d s ec ef ed es =
      let a : f ≡ fat_part g p = ef ∙ ap (round_up p.sectors) ec in
      let b : d ≡ difat_part g p = ed ∙ ap (difat_need g) a in
      record { difat = a; directory = rw (b, a); mini_fat = rw (b, a); stream = rw (b, a); spare = rw (b, a, es) }
