-- Removals: 20 to 22, 28, 31, and the bytes.
use Rattle.std.specs.Prelude.{◌≡◌, refl, [], ◌∷◌, replicate}
use Rattle.format.specs.Basics.Bytes.{Bytes, put_bytes, put32}
use Rattle.format.specs.Layout.Chain.{FREE}
use Rattle.format.specs.Layout.Entry.{NOSTREAM}
use Rattle.format.specs.Layout.Geometry.{version3}
use Rattle.format.specs.Layout.Volume.{volume}
use Rattle.format.specs.Rules.Verdict.{verdict}
use Rattle.format.specs.Calls.Create.{storage}
use Rattle.format.specs.Calls.Call.{create, remove}
use Rattle.format.specs.Calls.Answer.{answer_in}
use Rattle.format.specs.Calls.Buffers.{edited, image_after}
use Rattle.format_tests.specs.Opened.{opened}
use Rattle.format_tests.specs.Build.{blank}
use Rattle.format_tests.specs.Images.{Site, log, gone, below, smallest, bare, two_siblings, three_siblings, five_siblings, site, in_entry, mini_cell, built}

-- ---- the bytes

-- `d`, with no side
no_side :
    edited (volume version3 (two_siblings 0x62 0x64)) (two_siblings 0x62 0x64) (remove (0x44 ∷ []) [])
    ≡ put32 (put_bytes (two_siblings 0x62 0x64) (in_entry 2 0) blank) (in_entry 1 72) NOSTREAM
unfolding opened built
no_side = refl

-- `b`, with a right side: `d` is the root's child
one_side :
    edited (volume version3 (two_siblings 0x62 0x64)) (two_siblings 0x62 0x64) (remove (0x62 ∷ []) [])
    ≡ put32 (put_bytes (two_siblings 0x62 0x64) (in_entry 1 0) blank) (in_entry 0 76) 2
unfolding opened built
one_side = refl

-- `c`, with a left side `a` that has `b` on its right: `a` is the root's child, and `b` turns black
left_side :
    edited (volume version3 (three_siblings 0x62)) (three_siblings 0x62) (remove (0x63 ∷ []) [])
    ≡ put_bytes (put32 (put_bytes (three_siblings 0x62) (in_entry 1 0) blank) (in_entry 0 76) 2) (in_entry 3 67) (1 ∷ [])
unfolding opened built
left_side = refl

-- `d`: `c` takes its place, `b` that of `c`; all are black
heir_deep :
    edited (volume version3 five_siblings) five_siblings (remove (0x64 ∷ []) [])
    ≡ put_bytes
    (put_bytes (put32 (put32 (put_bytes five_siblings (in_entry 1 0) blank) (in_entry 0 76) 3) (in_entry 2 72) 4)
    (in_entry 3 67)
    (1 ∷ 2 ∷ 0 ∷ 0 ∷ 0 ∷ 5 ∷ 0 ∷ 0 ∷ 0 ∷ []))
    (in_entry 5 67)
    (1 ∷ [])
unfolding opened built
heir_deep = refl

heir_deep_accepted : verdict version3 (edited (volume version3 five_siblings) five_siblings (remove (0x64 ∷ []) [])) 52 ≡ 0
unfolding opened built
heir_deep_accepted = refl

-- the same without `c`, whose place `b` has: `a` is the greatest of the left side where `b` is gone too
abbrev three : Bytes
three = put32 (put_bytes (put_bytes five_siblings (in_entry 3 0) blank) (in_entry 4 0) blank) (in_entry 2 72) NOSTREAM

-- `a` keeps its left side, which is none, and takes `e` on its right
heir_direct :
    edited (volume version3 three) three (remove (0x64 ∷ []) [])
    ≡ put_bytes (put32 (put32 (put_bytes three (in_entry 1 0) blank) (in_entry 0 76) 2) (in_entry 2 72) 5) (in_entry 5 67) (1 ∷ [])
unfolding opened built
heir_direct = refl

-- a stream of two mini sectors: they are free, their bytes stay; `Jets` is alone in its tree, and black
stream_removed :
    image_after site (remove (below Site log) (replicate 65 0))
    ≡ put_bytes (put32 (put32 (put32 (put_bytes site (in_entry 2 0) blank) (in_entry 1 76) 3) (mini_cell 0) FREE) (mini_cell 1) FREE) (in_entry 3 67) (1 ∷ [])
unfolding opened built
stream_removed = refl

-- what a new storage did to the image is undone
storage_removed :
    image_after (image_after smallest (create storage Site (replicate 39 0))) (remove Site (replicate 39 0)) ≡ smallest
unfolding opened built
storage_removed = refl

-- ---- when it is refused

badly_formed : answer_in version3 (volume version3 bare) (remove (below Site []) []) ≡ 20
unfolding opened built
badly_formed = refl

missing : answer_in version3 (volume version3 bare) (remove (below Site gone) []) ≡ 21
unfolding opened built
missing = refl

below_a_stream : answer_in version3 (volume version3 bare) (remove (below (below Site log) gone) []) ≡ 22
unfolding opened built
below_a_stream = refl

not_empty : answer_in version3 (volume version3 bare) (remove Site []) ≡ 28
unfolding opened built
not_empty = refl

the_root : (answer_in version3 (volume version3 bare) (remove [] []) ≡ 31) × (answer_in version3 (volume version3 smallest) (remove [] []) ≡ 31)
unfolding opened built
the_root = (refl, refl)
