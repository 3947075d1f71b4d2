use borrow.Author.Rules.{rules}
use Prim.Native.Nat.{ℕ}
use Prim.Native.Nat.{◌+◌, ◌-◌, ◌*◌, ◌≤◌}
use mathlib.Core.Path.{◌≡◌, sym, ◌∙◌, ap₂}
use mathlib.Core.Bool.{true}
use native.Mathlib.Omega.{arith}
use Rattle.format.specs.Layout.Geometry.{header_difat, difat_in}
use Rattle.format.specs.Rules.Tables.{spare_entry_free}
use Rattle.kinds.specs.Sizes.{geometry_of}
use Rattle.header.specs.Sized.{F, D}
use Rattle.tables.proofs.DifatLaws.{entries_enough, entries_few_lem, spare_is, range_answer, rest_is}
use mathlib.Core.Path.{refl}
use mathlib.Core.Bool.{false}
use Rattle.std.proofs.lemmas.Iterator.{serves_from_Range, cases_from_all, YieldsList-from_range}
use Rattle.tables.proofs.sectors.difat_rest.Goals as goal
use Rattle.tables.proofs.sectors.difat_rest.Goals.{After-difat}

-- the entries in the DIFAT sectors, as the code counts them
entries_are : (c : After-difat) → c.difat.result * c.args.d ≡ difat_in (geometry_of c.args.g) * D c.args.img.now
entries_are c = ap₂ ◌*◌ c.difat.ensures c.requires.f_value.1

end_is : (c : After-difat) → 109 + c.difat.result * c.args.d - c.args.f ≡ header_difat + difat_in (geometry_of c.args.g) * D c.args.img.now - F c.args.img.now
unfolding header_difat
end_is c = omega (arith, entries_are c, c.requires.f_value.0)

enough : (c : After-difat) → c.args.f ≤ 109 + c.difat.result * c.args.d
unfolding header_difat
enough c = omega (arith, entries_are c, c.requires.f_value.0, entries_enough c.requires.difats.counted)

few : (c : After-difat) → c.difat.result * c.args.d ≤ 0x4_0000_0000
few c = omega (arith, entries_are c, entries_few_lem c.requires.difats.counted)

pub overflow_mul-end : goal.overflow_mul-end
overflow_mul-end c = omega (arith, few (goal.at.overflow_mul-end c).After-difat)

pub overflow_add-end : goal.overflow_add-end
overflow_add-end c = omega (arith, few (goal.at.overflow_add-end c).After-difat)

pub overflow_sub-end : goal.overflow_sub-end
overflow_sub-end c = enough (goal.at.overflow_sub-end c).After-difat

pub all-requires : goal.all-requires
all-requires c =
    let d = (goal.at.all-requires c).After-difat in
    let w = few d in
    let e = end_is d in
    let v = c.requires.f_value in
    record { can = tt; finite = tt; callable = serves_from_Range (λ x q k. search rules) (λ x l h. search rules) }

pub returns : goal.returns
returns c =
    let d = (goal.at.returns c).After-difat in
    let g = geometry_of c.args.g in
    let img = c.args.img.now in
    let free = λ (x : ℕ). spare_is g img c.args.f x c.requires.f_value.0 in
    let x = cases_from_all _ _ _ (λ i. spare_entry_free g img i ≡ true) (λ i. spare_entry_free g img i ≡ false) c.all.ensures.ran (YieldsList-from_range _ _ (109 + c.difat.result * c.args.d - c.args.f) refl (omega arith)) (λ x q k. (search rules, free x ∙ search rules)) (λ x q k. free x ∙ search rules) in
    range_answer (spare_entry_free g img) _ _ x ∙ rw (end_is d) (sym (rest_is g img))
