-- The last name of a path, and what an answer about its storage says.
use Rattle.std.specs.Prelude.{ℕ, ◌-◌, ◌≤◌, ◌<◌, ◌≡◌, ◌≢◌, ◌⊎◌, Result, Ok, Err, length, get_or, drop}
use Rattle.format.specs.Layout.Name.{slash}
use Rattle.format.specs.Layout.Directory.{Directory}
use Rattle.format.specs.Calls.Paths.{Path, last_name}
use Rattle.format.specs.Calls.Find.{Found, refused, resolve_parent}
use Rattle.theory.specs.TreeFind.{reached}
use Rattle.kinds.specs.Numbers.{refusal_number}
use Rattle.kinds.specs.declared.Refusal.{Refusal}
use Rattle.paths.specs.declared.Parent.{Parent}

-- no slash stands from unit i on, and just before it one, if anything
pub record AfterSlash (p : Path) (i : ℕ) : Type 0 where
  pub inside : i ≤ length p
  pub behind : (j : ℕ) → i ≤ j → j < length p → get_or p j 0 ≢ slash
  pub before : (i ≡ 0) ⊎ (get_or p (i - 1) 0 ≡ slash)

-- unit i begins the last name
pub record LastStart (p : Path) (i : ℕ) : Type 0 where
  pub inside : i ≤ length p
  pub last : drop i p ≡ last_name p

abbrev pub parent_of : Directory → Result Parent Refusal → Found
parent_of e (Ok p) = reached e p.storage.0
parent_of e (Err a) = refused (refusal_number a)

-- the storage is an entry of the directory, and the last name begins there
abbrev pub ParentInside : Directory → Path → Result Parent Refusal → Type 0
ParentInside e p (Ok found) = (found.storage.0 < e.count) × LastStart p found.name
ParentInside e p (Err a) = Unit {0}

-- the names before the last lead to entry s, and the last begins at unit i
pub record ParentAt (e : Directory) (p : Path) (s i : ℕ) : Type 0 where
  pub found : reached e s ≡ resolve_parent e p
  pub inside : s < e.count
  pub last : LastStart p i
