-- New objects: 20 to 22, 29, 30, and the bytes.
use Rattle.std.specs.Prelude.{◌≡◌, refl, [], ◌∷◌, replicate}
use Rattle.format.specs.Basics.Bytes.{put_bytes, put32}
use Rattle.format.specs.Layout.Chain.{END}
use Rattle.format.specs.Layout.Entry.{NOSTREAM}
use Rattle.format.specs.Layout.Geometry.{version3}
use Rattle.format.specs.Layout.Volume.{volume}
use Rattle.format.specs.Rules.Verdict.{verdict}
use Rattle.format.specs.Calls.Create.{stream, storage}
use Rattle.format.specs.Calls.Call.{create}
use Rattle.format.specs.Calls.Answer.{answer_in}
use Rattle.format.specs.Calls.Buffers.{edited, image_after}
use Rattle.format_tests.specs.Opened.{opened}
use Rattle.format_tests.specs.Build.{entry}
use Rattle.format_tests.specs.Images.{Site, log, LOG, gone, below, smallest, bare, two_siblings, in_entry, built}

-- ---- the bytes

-- the first child of the root
as_child :
    image_after smallest (create stream log (replicate 39 0))
    ≡ put32 (put_bytes smallest (in_entry 1 0) (entry log 2 1 NOSTREAM NOSTREAM NOSTREAM END 0)) (in_entry 0 76) 1
unfolding opened built
as_child = refl

storage_made :
    image_after smallest (create storage Site (replicate 39 0))
    ≡ put32 (put_bytes smallest (in_entry 1 0) (entry Site 1 1 NOSTREAM NOSTREAM NOSTREAM 0 0)) (in_entry 0 76) 1
unfolding opened built
storage_made = refl

-- `a` on the left of `b`
as_left :
    edited (volume version3 (two_siblings 0x62 0x64)) (two_siblings 0x62 0x64) (create stream (0x61 ∷ []) [])
    ≡ put32 (put_bytes (two_siblings 0x62 0x64) (in_entry 3 0) (entry (0x61 ∷ []) 2 1 NOSTREAM NOSTREAM NOSTREAM END 0)) (in_entry 1 68) 3
unfolding opened built
as_left = refl

-- `E` on the right of `d`, which is on the right of `b`
as_right :
    edited (volume version3 (two_siblings 0x62 0x64)) (two_siblings 0x62 0x64) (create stream (0x45 ∷ []) [])
    ≡ put32 (put_bytes (two_siblings 0x62 0x64) (in_entry 3 0) (entry (0x45 ∷ []) 2 1 NOSTREAM NOSTREAM NOSTREAM END 0)) (in_entry 2 72) 3
unfolding opened built
as_right = refl

-- `c` between them
between : verdict version3 (edited (volume version3 (two_siblings 0x62 0x64)) (two_siblings 0x62 0x64) (create storage (0x63 ∷ []) [])) 39 ≡ 0
unfolding opened built
between = refl

-- ---- when it is refused

badly_formed : answer_in version3 (volume version3 smallest) (create stream (0x21 ∷ []) []) ≡ 20
unfolding opened built
badly_formed = refl

parent_missing : answer_in version3 (volume version3 smallest) (create stream (below gone log) []) ≡ 21
unfolding opened built
parent_missing = refl

-- and no entry is blank
below_a_stream : answer_in version3 (volume version3 bare) (create stream (below (below Site log) gone) []) ≡ 22
unfolding opened built
below_a_stream = refl

already_there : answer_in version3 (volume version3 bare) (create storage (below Site LOG) []) ≡ 29
unfolding opened built
already_there = refl

the_root : answer_in version3 (volume version3 smallest) (create storage [] []) ≡ 29
unfolding opened built
the_root = refl

no_blank : answer_in version3 (volume version3 bare) (create stream (below Site gone) []) ≡ 30
unfolding opened built
no_blank = refl
