-- The chains that streams ask for, by entries, and by the starts and sizes that have been read of them.
use Rattle.std.specs.Prelude.{ℕ, ◌+◌, ◌≤◌, ◌≡◌, Bool, cond, List, [], ltb, leb, get_or}
use Rattle.format.specs.Basics.Lists.{all_below, join_below}
use Rattle.format.specs.Layout.Need.{cutoff}
use Rattle.format.specs.Layout.Space.{chain_for, units_for}
use Rattle.format.specs.Layout.Volume.{Volume}
use Rattle.format.specs.Layout.Stream.{space_for}
use Rattle.format.specs.Rules.Streams.{stream_right}
use Rattle.format.specs.Rules.Owners.{own_sectors, own_minis}

-- ---- a stream of n bytes from s

-- whether its chain is right; its sectors; its mini sectors
unfoldable pub chain_at : Volume → ℕ → ℕ → Bool
chain_at v s n = chain_for (space_for v n) n s

unfoldable pub sectors_at : Volume → ℕ → ℕ → List ℕ
sectors_at v s n = cond (leb cutoff n) (units_for (space_for v n) n s) []

unfoldable pub minis_at : Volume → ℕ → ℕ → List ℕ
minis_at v s n = cond (ltb n cutoff) (units_for (space_for v n) n s) []

-- the same of stream j of a list
abbrev pub chain_listed : Volume → List ℕ → List ℕ → ℕ → Bool
chain_listed v starts sizes j = chain_at v (get_or starts j 0) (get_or sizes j 0)

abbrev pub sectors_listed : Volume → List ℕ → List ℕ → ℕ → List ℕ
sectors_listed v starts sizes j = sectors_at v (get_or starts j 0) (get_or sizes j 0)

abbrev pub minis_listed : Volume → List ℕ → List ℕ → ℕ → List ℕ
minis_listed v starts sizes j = minis_at v (get_or starts j 0) (get_or sizes j 0)

-- ---- n entries from x on

abbrev pub right_from : Volume → ℕ → ℕ → Bool
right_from v x i = stream_right v (x + i)

abbrev pub sectors_from : Volume → ℕ → ℕ → List ℕ
sectors_from v x i = own_sectors v (x + i)

abbrev pub minis_from : Volume → ℕ → ℕ → List ℕ
minis_from v x i = own_minis v (x + i)

-- start and size of the k streams among them have been listed
pub record Gathered (v : Volume) (x n k : ℕ) (starts sizes : List ℕ) : Type 0 where
  pub few : k ≤ n
  pub right : all_below n (right_from v x) ≡ all_below k (chain_listed v starts sizes)
  pub sectors : join_below n (sectors_from v x) ≡ join_below k (sectors_listed v starts sizes)
  pub minis : join_below n (minis_from v x) ≡ join_below k (minis_listed v starts sizes)
