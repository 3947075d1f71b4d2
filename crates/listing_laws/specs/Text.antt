-- The parts of a listing's text, and what an entry must be to be read back from it.
use Rattle.std.specs.Prelude.{ℕ, ◌<◌, ◌≡◌, ◌⊎◌, Bool, true, not, cond, List, [], ◌∷◌, ◌++◌, eqb}
use Rattle.format.specs.Basics.Lists.{all}
use Rattle.format.specs.Basics.Bytes.{Bytes}
use Rattle.format.specs.Layout.Name.{Name, slash, legal_name}
use Rattle.format.specs.Layout.Entry.{name, kind, size, is_stream}
use Rattle.format.specs.Calls.Text.{space, decimal, print_name}

unfoldable pub is_other : ℕ → ℕ → Bool
is_other x c = not (eqb c x)

-- no byte of the text is x
abbrev pub lacks : ℕ → Bytes → Bool
lacks x text = all (is_other x) text

-- the names above an object, each with a slash behind it
unfoldable pub above : List Name → Bytes
above [] = []
above (n ∷ ns) = print_name n ++ (slash ∷ above ns)

-- a line and the first line, without the byte that ends them
unfoldable pub line_text : ℕ → Bytes → Bytes → Bytes
line_text c e path = cond (is_stream e) (0x46 ∷ space ∷ decimal (size c e)) (0x44 ∷ space ∷ 0x30 ∷ []) ++ (space ∷ path)

unfoldable pub first_text : ℕ → Bytes
first_text n = 0x6F ∷ 0x62 ∷ 0x6A ∷ 0x65 ∷ 0x63 ∷ 0x74 ∷ 0x73 ∷ space ∷ decimal n

-- a stream whose size has at most twenty digits, or a storage with none
pub record Printable (c : ℕ) (e : Bytes) : Type 0 where
  pub legal : legal_name (name e) ≡ true
  pub kinds : ((kind e ≡ 2) × (size c e < 100_000_000_000_000_000_000)) ⊎ ((kind e ≡ 1) × (size c e ≡ 0))
