-- Paths: 16-bit units, the names parted by slashes ("What a path, a read and an edit do").
use Rattle.std.specs.Prelude.{ℕ, ◌-◌, Bool, cond, List, [], ◌∷◌, ◌++◌, eqb, length, take, get_or}
use Rattle.format.specs.Basics.Lists.{all}
use Rattle.format.specs.Layout.Name.{Name, slash, legal_name}

abbrev pub Path : Type 0
Path = List ℕ

-- a unit put before the first name
unfoldable pub push_front : ℕ → List Name → List Name
push_front u [] = (u ∷ []) ∷ []
push_front u (n ∷ ns) = (u ∷ n) ∷ ns

-- the pieces between slashes: one more than there are slashes
unfoldable pub split : Path → List Name
split [] = [] ∷ []
split (u ∷ us) = cond (eqb u slash) ([] ∷ split us) (push_front u (split us))

-- the names of a path; the empty path, which is the root, has none
unfoldable pub names : Path → List Name
names [] = []
names (u ∷ us) = split (u ∷ us)

-- the path that has these names
unfoldable pub joined : List Name → Path
joined [] = []
joined (n ∷ []) = n
joined (n ∷ m ∷ ns) = n ++ (slash ∷ joined (m ∷ ns))

-- each name is a legal one (it cannot hold a slash)
unfoldable pub well_formed : Path → Bool
well_formed p = all legal_name (names p)

-- the names before the last, and the last
unfoldable pub names_before : Path → List Name
names_before p = take (length (names p) - 1) (names p)

unfoldable pub last_name : Path → Name
last_name p = get_or (names p) (length (names p) - 1) []
