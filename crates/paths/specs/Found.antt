-- The first name of a path, and what an answer about a path says.
use Rattle.std.specs.Prelude.{◌<◌, cond, [], ◌∷◌, eqb, Result, Ok, Err}
use Rattle.format.specs.Layout.Name.{Name, slash}
use Rattle.format.specs.Layout.Directory.{Directory}
use Rattle.format.specs.Calls.Paths.{Path}
use Rattle.format.specs.Calls.Find.{Found, refused}
use Rattle.theory.specs.TreeFind.{reached}
use Rattle.kinds.specs.Numbers.{refusal_number}
use Rattle.kinds.specs.declared.EntryId.{EntryId}
use Rattle.kinds.specs.declared.Refusal.{Refusal}

-- the units before the first slash
unfoldable pub first_name : Path → Name
first_name [] = []
first_name (u ∷ us) = cond (eqb u slash) [] (u ∷ first_name us)

abbrev pub found_of : Directory → Result EntryId Refusal → Found
found_of e (Ok x) = reached e x.0
found_of e (Err a) = refused (refusal_number a)

-- what is found is an entry of the directory
abbrev pub Inside : Directory → Result EntryId Refusal → Type 0
Inside e (Ok x) = x.0 < e.count
Inside e (Err a) = Unit {0}
