-- Two directories that look alike: the trees look at nothing but name, kind, colour, left, right and child.
use Rattle.std.specs.Prelude.{ℕ, ◌≡◌}
use Rattle.format.specs.Layout.Entry.{name, kind, colour, left, right, child}
use Rattle.format.specs.Layout.Directory.{Directory}

pub record Alike (d d' : Directory) : Type 0 where
  pub count : d'.count ≡ d.count
  pub name : (i : ℕ) → name (d'.entry i) ≡ name (d.entry i)
  pub kind : (i : ℕ) → kind (d'.entry i) ≡ kind (d.entry i)
  pub colour : (i : ℕ) → colour (d'.entry i) ≡ colour (d.entry i)
  pub left : (i : ℕ) → left (d'.entry i) ≡ left (d.entry i)
  pub right : (i : ℕ) → right (d'.entry i) ≡ right (d.entry i)
  pub child : (i : ℕ) → child (d'.entry i) ≡ child (d.entry i)
