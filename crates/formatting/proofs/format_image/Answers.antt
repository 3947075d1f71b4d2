use mathlib.Core.Path.{◌≡◌, sym, ◌∙◌}
use mathlib.Core.Bool.{true}
use native.Mathlib.Omega.{arith}
use lib.ListN.{length}
use Rattle.format.specs.Fresh.Plan.{planned}
use Rattle.format.specs.Fresh.Answer.{buffer_fits, format_answer}
use Rattle.kinds.specs.Sizes.{geometry_of}
use Rattle.formatting.specs.Plans.{plan_for, plan_sound}
use Rattle.formatting.proofs.Answers.{answer_1, unsound_32, too_long_32, sound_small, sound_0, spare_is, parts_stand, parts_long, parts_0}
use Rattle.formatting.proofs.format_image.Goals as goal
use Rattle.formatting.proofs.format_image.Goals.{Else-not-buffer_fits, Else-not-plan_sound}

sound : (c : Else-not-plan_sound) → true ≡ plan_sound ((geometry_of c.geometry_for-g.result)) ((plan_for c.args.version c.args.sectors c.args.directory c.args.minifat c.args.minis))
sound c = sym (c.if-not-plan_sound.false) ∙ c.plan_sound.ensures

own : (c : Else-not-buffer_fits) → (geometry_of c.geometry_for-g.result) ≡ planned ((plan_for c.args.version c.args.sectors c.args.directory c.args.minifat c.args.minis))
own c = c.geometry_for-g.ensures

fits : (c : Else-not-buffer_fits) → true ≡ buffer_fits (length (c.args.img.now)) ((plan_for c.args.version c.args.sectors c.args.directory c.args.minifat c.args.minis))
fits c = sym (c.if-not-buffer_fits.false) ∙ c.buffer_fits.ensures

pub returns-then-not-buffer_fits : goal.returns-then-not-buffer_fits
returns-then-not-buffer_fits c = let r = answer_1 (c.args.img.now) ((plan_for c.args.version c.args.sectors c.args.directory c.args.minifat c.args.minis)) (sym (c.if-not-buffer_fits.true) ∙ c.buffer_fits.ensures) in record { answer = r.0; image = r.1 }

pub returns-then-not-plan_sound : goal.returns-then-not-plan_sound
returns-then-not-plan_sound c = let r = unsound_32 (c.args.img.now) ((plan_for c.args.version c.args.sectors c.args.directory c.args.minifat c.args.minis)) (fits (goal.at.returns-then-not-plan_sound c).Else-not-buffer_fits) ((geometry_of c.geometry_for-g.result)) (own (goal.at.returns-then-not-plan_sound c).Else-not-buffer_fits) (sym (c.if-not-plan_sound.true) ∙ c.plan_sound.ensures) in record { answer = r.0; image = r.1 }

pub parts_of-l-requires : goal.parts_of-l-requires
parts_of-l-requires c = sound_small (c.args.img.now) ((plan_for c.args.version c.args.sectors c.args.directory c.args.minifat c.args.minis)) (fits (goal.at.parts_of-l-requires c).Else-not-buffer_fits) ((geometry_of c.geometry_for-g.result)) (own (goal.at.parts_of-l-requires c).Else-not-buffer_fits) (sound (goal.at.parts_of-l-requires c).Else-not-plan_sound)

pub returns-then-sectors-l : goal.returns-then-sectors-l
returns-then-sectors-l c = let r = too_long_32 (c.args.img.now) ((plan_for c.args.version c.args.sectors c.args.directory c.args.minifat c.args.minis)) (fits (goal.at.returns-then-sectors-l c).Else-not-buffer_fits) ((geometry_of c.geometry_for-g.result)) (own (goal.at.returns-then-sectors-l c).Else-not-buffer_fits) (omega (arith, spare_is _ _ c.parts_of-l.result c.parts_of-l.ensures)) in record { answer = r.0; image = r.1 }

pub fill_image-requires : goal.fill_image-requires
fill_image-requires c =
    let done : 0 ≡ format_answer (length (c.args.img.now)) ((plan_for c.args.version c.args.sectors c.args.directory c.args.minifat c.args.minis)) = sound_0 (c.args.img.now) ((plan_for c.args.version c.args.sectors c.args.directory c.args.minifat c.args.minis)) (fits (goal.at.fill_image-requires c).Else-not-buffer_fits) ((geometry_of c.geometry_for-g.result)) (own (goal.at.fill_image-requires c).Else-not-buffer_fits) (sound (goal.at.fill_image-requires c).Else-not-plan_sound) (omega (arith, spare_is _ _ c.parts_of-l.result c.parts_of-l.ensures)) in
    record { stands = parts_stand _ _ c.parts_of-l.result c.parts_of-l.ensures (c.args.img.now) (own (goal.at.fill_image-requires c).Else-not-buffer_fits) (fits (goal.at.fill_image-requires c).Else-not-buffer_fits) done; img_len = parts_long _ _ c.parts_of-l.result c.parts_of-l.ensures (c.args.img.now) (own (goal.at.fill_image-requires c).Else-not-buffer_fits) (fits (goal.at.fill_image-requires c).Else-not-buffer_fits) done }

pub returns : goal.returns
returns c =
    let done : 0 ≡ format_answer (length (c.args.img.now)) ((plan_for c.args.version c.args.sectors c.args.directory c.args.minifat c.args.minis)) = sound_0 (c.args.img.now) ((plan_for c.args.version c.args.sectors c.args.directory c.args.minifat c.args.minis)) (fits (goal.at.returns c).Else-not-buffer_fits) ((geometry_of c.geometry_for-g.result)) (own (goal.at.returns c).Else-not-buffer_fits) (sound (goal.at.returns c).Else-not-plan_sound) (omega (arith, spare_is _ _ c.parts_of-l.result c.parts_of-l.ensures)) in
    let r = parts_0 _ _ c.parts_of-l.result c.parts_of-l.ensures (c.args.img.now) (own (goal.at.returns c).Else-not-buffer_fits) (fits (goal.at.returns c).Else-not-buffer_fits) done _ c.fill_image.ensures in record { answer = r.0; image = r.1 }
