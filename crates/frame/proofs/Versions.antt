-- An image that is accepted in a version has that version.
use Prim.Native.Nat.{ℕ, ◌-◌, ◌%◌}
use mathlib.Core.Path.{◌≡◌, refl, sym, ap, ◌∙◌, subst}
use mathlib.Core.Logic.{◌⊎◌, inl, inr}
use mathlib.Core.Bool.{Bool, true, false, cond, ◌&&◌, ◌||◌}
use native.Mathlib.Omega.{arith}
use lib.Dec.{eqb, leb}
use lib.ListN.{length}
use borrow.Author.Tests.{eqb-true, leb-true, le-leb, eq-eqb, ne_eqb}
use Rattle.format.specs.Basics.Lists.{equal}
use Rattle.format.specs.Basics.Bytes.{Bytes, u16at, u32at, part, all_zero}
use Rattle.format.specs.Layout.Geometry.{Geometry, version3, version4, counts_directory, header_bytes}
use Rattle.format.specs.Layout.Need.{cutoff}
use Rattle.format.specs.Layout.Header.{major_version, directory_count}
use Rattle.format.specs.Rules.Length.{least_image, greatest_image, length_allowed}
use Rattle.format.specs.Rules.Version.{version_of}
use Rattle.format.specs.Rules.Header.{signature, byte_order, mini_shift, header_rules}
use Rattle.format.specs.Rules.Verdict.{Accepted}
use Rattle.theory.proofs.Tests.{both}
use Rattle.frame.proofs.Accepted.{accepted_kept}

pub version_cases : (img : Bytes) → (version_of img ≡ version3) ⊎ (version_of img ≡ version4)
unfolding version_of
version_cases img = go (length_allowed version3 (length img) && eqb (major_version img) 4)
  where
    go : (t : Bool) → (cond t version4 version3 ≡ version3) ⊎ (cond t version4 version3 ≡ version4)
    go true = inr refl
    go false = inl refl

header_major : (g : Geometry) (img : Bytes) → header_rules g img ≡ true → major_version img ≡ g.major
unfolding header_rules
header_major g img h =
    let p2 = equal (part img 0 8) signature && all_zero (part img 8 16) in
    let p3 = p2 && eqb (major_version img) g.major in
    let p4 = p3 && eqb (u16at img 28) byte_order in
    let p5 = p4 && eqb (u16at img 30) g.shift in
    let p6 = p5 && eqb (u16at img 32) mini_shift in
    let p7 = p6 && all_zero (part img 34 6) in
    let p8 = p7 && (counts_directory g || eqb (directory_count img) 0) in
    let p9 = p8 && eqb (u32at img 56) cutoff in
    let h9 = (both p9 (all_zero (part img header_bytes (g.sector_bytes - header_bytes))) h).0 in
    let h8 = (both p8 (eqb (u32at img 56) cutoff) h9).0 in
    let h7 = (both p7 (counts_directory g || eqb (directory_count img) 0) h8).0 in
    let h6 = (both p6 (all_zero (part img 34 6)) h7).0 in
    let h5 = (both p5 (eqb (u16at img 32) mini_shift) h6).0 in
    let h4 = (both p4 (eqb (u16at img 30) g.shift) h5).0 in
    let h3 = (both p3 (eqb (u16at img 28) byte_order) h4).0 in
    eqb-true (major_version img) g.major (both p2 (eqb (major_version img) g.major) h3).1

-- a length of version 4 is one of version 3
longer_allowed : (n : ℕ) → length_allowed version4 n ≡ true → length_allowed version3 n ≡ true
unfolding length_allowed least_image greatest_image version3 version4
longer_allowed n h =
    let q = both (eqb (n % 4096) 0 && leb 12288 n) (leb n 67108864) h in
    let r = both (eqb (n % 4096) 0) (leb 12288 n) q.0 in
    let a = eqb-true (n % 4096) 0 r.0 in
    let b = leb-true 12288 n r.1 in
    rw (eq-eqb (n % 512) 0 (omega arith), le-leb 1536 n (omega arith), q.1)

three : version3.major ≡ 3
unfolding version3
three = refl

four : version4.major ≡ 4
unfolding version4
four = refl

and_false : (a : Bool) → (a && false) ≡ false
and_false true = refl
and_false false = refl

pub accepted_version : (g : Geometry) (img : Bytes) → (g ≡ version3) ⊎ (g ≡ version4) → Accepted g img → version_of img ≡ g
unfolding version_of
accepted_version g img (inl q) acc =
    let k = accepted_kept g img acc in
    let m : major_version img ≡ 3 = header_major g img k.header ∙ ap (λ (x : Geometry). x.major) q ∙ three in
    rw (ne_eqb (major_version img) 4 (λ z. omega (arith, m, z)), and_false (length_allowed version3 (length img))) (sym q)
accepted_version g img (inr q) acc =
    let k = accepted_kept g img acc in
    let m : major_version img ≡ 4 = header_major g img k.header ∙ ap (λ (x : Geometry). x.major) q ∙ four in
    let l = longer_allowed (length img) (subst (λ (x : Geometry). length_allowed x (length img) ≡ true) q k.allowed) in
    rw (l, eq-eqb (major_version img) 4 m) (sym q)
