-- What marking a chain answers and leaves, and what the search for a chain's length answers.
use Rattle.std.specs.Prelude.{ℕ, ◌+◌, ◌≤◌, ◌<◌, ◌≡◌, Bool, true, false, not, cond, ◌||◌, Option, Some, None, List, [], ◌++◌, length, get_or}
use Rattle.format.specs.Basics.Lists.{all}
use Rattle.format.specs.Layout.Chain.{chain, units}
use Rattle.format.specs.Layout.Space.{Space}
use Rattle.theory.specs.Marks.{unmarked, Closed, ChainMarked, Owning, marks_at, InPlace}
use Rattle.tables.specs.Work.{Wrote}

-- no chain of n from s; or whether one of its units has a mark
unfoldable pub mark_answer : (ℕ → ℕ) → ℕ → ℕ → ℕ → (ℕ → ℕ) → Option Bool
mark_answer cell limit n s m = cond (chain cell limit n s) (cond (all (unmarked m) (units cell n s)) (Some false) (Some true)) None

-- what the answer says of the chain, and of its units
abbrev pub is_broken : Option Bool → Bool
is_broken None = true
is_broken (Some shared) = false

abbrev pub is_shared : Option Bool → Bool
is_shared None = false
is_shared (Some shared) = shared

-- ---- one chain

-- The numbers of the units of a space stand in the work buffer from a place on: each is its unit's cell or a mark, and the marks agree with the
-- cells. So chains may be marked there.
pub record Markable (sp : Space) (at : ℕ) (work : List ℕ) : Type 0 where
  pub few : sp.limit < 0x1000_0000
  pub room : at + sp.limit ≤ length work
  pub place : InPlace sp.cell sp.limit at work
  pub closed : Closed sp.cell sp.limit (marks_at at work)

-- the cells have just been copied there: no unit has a mark
pub record CellsCopied (sp : Space) (at : ℕ) (work : List ℕ) : Type 0 where
  pub markable : Markable sp at work
  pub clear : Owning sp.cell sp.limit [] (marks_at at work) false

-- One chain of n from s has been walked along and marked: the answer, the marks of a right chain, and nothing but units' numbers changed.
pub record ChainWalked (sp : Space) (at n s : ℕ) (before after : List ℕ) (a : Option Bool) : Type 0 where
  pub answer : a ≡ mark_answer sp.cell sp.limit n s (marks_at at before)
  pub chained : chain sp.cell sp.limit n s ≡ true → ChainMarked sp.cell sp.limit n s (marks_at at before) (marks_at at after)
  pub stands : chain sp.cell sp.limit n s ≡ true → Markable sp at after
  pub wrote : Wrote before after at sp.limit

-- the same of whatever space the numbers are of
abbrev pub UnitsWalked : (at limit n s : ℕ) → List ℕ → List ℕ → Option Bool → Type 0
UnitsWalked at limit n s before after a = (sp : Space) → sp.limit ≡ limit → Markable sp at before → ChainWalked sp at n s before after a

-- ---- many chains

-- Chains have been marked, one after the other: `right` says whether all of them are chains, `own` are their units end to end.
pub record ChainsMarked (sp : Space) (at : ℕ) (right : Bool) (own before after : List ℕ) (a : Option Bool) : Type 0 where
  pub answer : is_broken a ≡ not right
  pub stands : right ≡ true → Markable sp at after
  pub owners : right ≡ true → (owned : List ℕ) (shared : Bool) → Owning sp.cell sp.limit owned (marks_at at before) shared
      → Owning sp.cell sp.limit (owned ++ own) (marks_at at after) (shared || is_shared a)
  pub wrote : Wrote before after at sp.limit

-- ---- lists and lengths

-- unit k of a chain's units
abbrev pub unit_at : List ℕ → ℕ → ℕ
unit_at us k = get_or us k 0

-- the length, where there is a chain
unfoldable pub length_answer : Bool → ℕ → Option ℕ
length_answer there n = cond there (Some n) None
