-- A path that leads to an entry which can be removed.
use Rattle.std.specs.Prelude.{ℕ, ◌<◌, ◌≡◌, ◌≢◌, Bool, not, ◌&&◌, Result, Ok, Err, eqb}
use Rattle.format.specs.Layout.Entry.{NOSTREAM, is_storage}
use Rattle.format.specs.Layout.Directory.{Directory}
use Rattle.format.specs.Calls.Paths.{Path}
use Rattle.format.specs.Calls.Find.{resolve}
use Rattle.format.specs.Calls.Answer.{remove_answer}
use Rattle.theory.specs.TreeViews.{child_of}
use Rattle.theory.specs.TreeFind.{reached}
use Rattle.kinds.specs.Numbers.{refusal_number}
use Rattle.kinds.specs.declared.EntryId.{EntryId}
use Rattle.kinds.specs.declared.Refusal.{Refusal}

-- it is not the root, and has nothing below it
pub record LeadsTo (e : Directory) (p : Path) : Type 0 where
  pub entry : ℕ
  pub found : reached e entry ≡ resolve e p
  pub other : entry ≢ 0
  pub bare : child_of e entry ≡ NOSTREAM

-- entry x is a storage with something in it
unfoldable pub holds_some : Directory → ℕ → Bool
holds_some e x = is_storage (e.entry x) && not (eqb (child_of e x) NOSTREAM)

-- the path leads to entry x, which can be removed
pub record RemovableAt (e : Directory) (p : Path) (x : ℕ) : Type 0 where
  pub answer : remove_answer e (resolve e p) ≡ 0
  pub inside : x < e.count
  pub leads : LeadsTo e p
  pub entry : leads.entry ≡ x

abbrev pub RemovalRight : Directory → Path → Result EntryId Refusal → Type 0
RemovalRight e p (Ok x) = RemovableAt e p x.0
RemovalRight e p (Err a) = refusal_number a ≡ remove_answer e (resolve e p)
