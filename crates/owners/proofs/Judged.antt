-- The answer on streams and owners, by what the walks and the test of all units said.
use Prim.Native.Nat.{ℕ}
use Rattle.std.specs.Prelude.{Ok, Err}
use mathlib.Core.Path.{◌≡◌, refl, sym, ap, ◌∙◌, ap₂}
use mathlib.Core.Bool.{Bool, true, false, not, ◌&&◌, ◌||◌, and-false}
use mathlib.Core.List.{List, []}
use Rattle.format.specs.Basics.Bytes.{Bytes}
use Rattle.format.specs.Basics.Lists.{join_below}
use Rattle.format.specs.Layout.Tables.{sector_space}
use Rattle.format.specs.Layout.Volume.{volume, directory}
use Rattle.format.specs.Rules.Tables.{table_rules}
use Rattle.format.specs.Rules.Owners.{own_sectors, owned_minis, owner_rules}
use Rattle.kinds.specs.declared.Geometry.{Geometry as Sizes}
use Rattle.kinds.specs.Sizes.{geometry_of}
use Rattle.header.specs.Sized.{ImageSized}
use Rattle.tables.specs.Views.{volume_of}
use Rattle.tables.specs.declared.Tables.{Tables}
use Rattle.directory.specs.Listed.{entries_of}
use Rattle.directory.specs.declared.Directory.{Directory as Where}
use Rattle.owners.specs.Streams.{BothOwn, OnlySystem, all_covered, owners_answer}
use Rattle.kinds.specs.declared.Refusal.TheVariants.{Streams, Owners}
use Rattle.owners.proofs.Groups.{sectors_owned, minis_owned}

module _ (chains owners : Bool) where
  pub says_broken : chains ≡ false → Err Streams ≡ owners_answer chains owners
  unfolding owners_answer
  says_broken h = sym (rw h)

  pub says_wrong : chains ≡ true → owners ≡ false → Err Owners ≡ owners_answer chains owners
  unfolding owners_answer
  says_wrong h k = sym (rw (h, k))

  pub says_right : chains ≡ true → owners ≡ true → Ok tt ≡ owners_answer chains owners
  unfolding owners_answer
  says_right h k = sym (rw (h, k))

-- the entries of an image are as many by the list as by `format`
pub same_count : (d : Where) (s : Sizes) (img : Bytes) → d.geometry ≡ s → (entries_of d img).count ≡ (volume (geometry_of s) img).directory.count
unfolding volume
same_count d s img e = ap (λ k. (directory (geometry_of k) img).count) e

four : (s a b x y : Bool) → ((not (s || a) && x) && (not b && y)) ≡ (not (s || (a || b)) && (x && y))
four true a b x y = refl
four false true b x y = refl
four false false true x y = and-false x
four false false false x y = refl

-- group 18, where the chains of all streams have been marked beside the system's
module _ {t : Tables} {img : Bytes} {w w' : List ℕ} {s a : Bool} (z : ImageSized (geometry_of t.geometry) img) (k : table_rules (geometry_of t.geometry) img ≡ true) (o : OnlySystem t img w s) where
  pub by_owners : let v = volume_of t.geometry img in BothOwn t img (join_below v.directory.count (own_sectors v)) (owned_minis v) w w' a → owner_rules v ≡ (not (s || a) && all_covered t img w')
  unfolding owner_rules volume sector_space
  by_owners b =
      ap₂ (λ x y. x && y) (sectors_owned _ _ z k (b.in_sectors_lem _ s o.sectors)) (minis_owned _ _ (b.in_minis_lem [] false o.minis)) ∙ rw b.either (four s b.large b.small _ _)
