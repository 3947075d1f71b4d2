-- Which files keep the verdict that they had when only a to z were folded.
use Rattle.std.specs.Prelude.{◌≡◌, ℕ, ◌-◌, Bool, true, not, cond, ◌&&◌, ◌||◌, map, eqb, ltb, leb, length}
use Rattle.format.specs.Basics.Lists.{all, all_below}
use Rattle.format.specs.Basics.Bytes.{Bytes}
use Rattle.format.specs.Layout.Geometry.{Geometry}
use Rattle.format.specs.Layout.Name.{Name, fold, units_less}
use Rattle.format.specs.Layout.Entry.{name}
use Rattle.format.specs.Layout.Directory.{Directory}
use Rattle.format.specs.Layout.Tree.{Forest, forest, siblings}
use Rattle.format.specs.Layout.Volume.{Volume, volume, directory}
use Rattle.format.specs.Rules.Trees.{is_object, sound, reached_once, every_node, top_black, coloured}
use Rattle.format.specs.Rules.Mini.{mini_rules}
use Rattle.format.specs.Rules.Streams.{stream_rules}
use Rattle.format.specs.Rules.Owners.{owner_rules}
use Rattle.format.specs.Rules.Verdict.{check, verdict}

-- ---- the former verdict

-- the former folding: a to z alone
unfoldable pub former_fold : ℕ → ℕ
former_fold u = cond (leb 0x61 u && leb u 0x7A) (u - 0x20) u

-- `name_less` by it
unfoldable pub former_less : Name → Name → Bool
former_less a b = ltb (length a) (length b) || (eqb (length a) (length b) && units_less (map former_fold a) (map former_fold b))

unfoldable pub former_before : Directory → ℕ → ℕ → Bool
former_before d x y = former_less (name (d.entry x)) (name (d.entry y))

unfoldable pub former_after : Directory → ℕ → ℕ → Bool
former_after d x y = former_before d y x

unfoldable pub former_sides : Directory → Forest → ℕ → Forest → Forest → Bool
former_sides d l e b r = all (former_after d e) (siblings l) && all (former_before d e) (siblings r)

-- group 15 with the former order
unfoldable pub former_trees : Directory → Bool
former_trees d =
    sound (forest d)
    && reached_once d
    && every_node (former_sides d) (forest d)
    && top_black d (forest d)
    && every_node (coloured d) (forest d)

-- groups 15 to 18
unfoldable pub former_late : Volume → ℕ
former_late v =
    check (former_trees v.directory) 15 (
    check (mini_rules v) 16 (
    check (stream_rules v) 17 (
    check (owner_rules v) 18 0)))

-- no rule before group 15 folds, so a lower number is as it is now
unfoldable pub former_verdict : Geometry → Bytes → ℕ → ℕ
former_verdict g img work =
    let late = former_late (volume g img) in
    let now = verdict g img work in
    cond (ltb 0 now && ltb now 15) now late

-- ---- the claims

-- both foldings take the unit alike
unfoldable pub steady_unit : ℕ → Bool
steady_unit u = eqb (fold u) (former_fold u)

-- entry i is no object, or its name has such units alone
unfoldable pub steady_name : Directory → ℕ → Bool
steady_name d i = not (is_object d i) || all steady_unit (name (d.entry i))

unfoldable pub steady_names : Directory → Bool
steady_names d = all_below d.count (steady_name d)

-- A file whose objects' names have no unit that is folded anew keeps its verdict, whatever it was.
abbrev pub KeepsVerdict : Geometry → Type 0
KeepsVerdict g =
    (img : Bytes) (work : ℕ) → steady_names (directory g img) ≡ true → former_verdict g img work ≡ verdict g img work

unfoldable pub plain_unit : ℕ → Bool
plain_unit u = ltb u 0x80

-- entry i is no object, or its name has such units alone
unfoldable pub plain_name : Directory → ℕ → Bool
plain_name d i = not (is_object d i) || all plain_unit (name (d.entry i))

unfoldable pub plain_names : Directory → Bool
plain_names d = all_below d.count (plain_name d)

-- Among them are the files whose objects' names are all below 0080.
abbrev pub PlainKeepsVerdict : Geometry → Type 0
PlainKeepsVerdict g =
    (img : Bytes) (work : ℕ) → plain_names (directory g img) ≡ true → former_verdict g img work ≡ verdict g img work
