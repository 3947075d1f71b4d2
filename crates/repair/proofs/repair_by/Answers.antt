use mathlib.Core.Path.{◌≡◌, sym, ◌∙◌}
use native.Mathlib.Omega.{arith}
use lib.ListN.{length}
use Rattle.format.specs.Rules.Length.{work_need}
use Rattle.format.specs.Calls.Repair.{repair_reply}
use Rattle.tables.specs.Work.{Wrote}
use Rattle.tables.proofs.WorkLaws.{wrote_two}
use Rattle.repair.specs.Replies.{repair_reply_of}
use Rattle.repair.specs.Room.{Tried}
use Rattle.repair.proofs.Replies.{image_written, image_left, same_reply}
use Rattle.repair.proofs.Outcomes.{after_long}
use Rattle.repair.proofs.Trying.{buffer_long, copy_sized, copy_room, tried, tried_wrote}
use Rattle.repair.proofs.repair_by.Goals as goal

pub outcome-requires : goal.outcome-requires
outcome-requires c = let k = c.requires in let e = c.copy.ensures in record { image_sized = copy_sized k e; img_in_bounds = copy_room k e }

pub validate_outcome-r-requires : goal.validate_outcome-r-requires
validate_outcome-r-requires c =
    let done : Tried c.args.image.now c.outcome.new.img c.outcome.new.work = tried c.requires c.copy.ensures c.outcome.ensures.image c.outcome.ensures.wrote in
    done

pub returns-then-is_ok : goal.returns-then-is_ok
returns-then-is_ok c =
    let done : Tried c.args.image.now c.outcome.new.img c.outcome.new.work = tried c.requires c.copy.ensures c.outcome.ensures.image c.outcome.ensures.wrote in
    let wrote' : let p = c.args in Wrote p.work.now c.outcome.new.work 0 (work_need (length p.image.now)) = tried_wrote c.requires c.copy.ensures c.outcome.ensures.image c.outcome.ensures.wrote in
    let reply' : let p = c.args in repair_reply_of c.validate_outcome-r.result ≡ repair_reply p.image.now p.after.now p.work.now = same_reply c.args.image.now c.outcome.new.img c.args.after.now c.outcome.new.work c.args.work.now (omega (arith, after_long done)) (buffer_long c.requires) (sym wrote'.long) c.validate_outcome-r.ensures.reply in
    let p = c.args in record { reply = reply'; image = image_written p.image.now p.after.now p.work.now _ reply' (sym c.is_ok.ensures.value ∙ c.if-is_ok.true) (c.copy-then-is_ok.ensures ∙ done.outcome); wrote = wrote_two wrote' c.validate_outcome-r.ensures.wrote }

pub returns-else-is_ok : goal.returns-else-is_ok
returns-else-is_ok c =
    let done : Tried c.args.image.now c.outcome.new.img c.outcome.new.work = tried c.requires c.copy.ensures c.outcome.ensures.image c.outcome.ensures.wrote in
    let wrote' : let p = c.args in Wrote p.work.now c.outcome.new.work 0 (work_need (length p.image.now)) = tried_wrote c.requires c.copy.ensures c.outcome.ensures.image c.outcome.ensures.wrote in
    let reply' : let p = c.args in repair_reply_of c.validate_outcome-r.result ≡ repair_reply p.image.now p.after.now p.work.now = same_reply c.args.image.now c.outcome.new.img c.args.after.now c.outcome.new.work c.args.work.now (omega (arith, after_long done)) (buffer_long c.requires) (sym wrote'.long) c.validate_outcome-r.ensures.reply in
    let p = c.args in record { reply = reply'; image = image_left p.image.now p.after.now p.work.now _ reply' (sym c.is_ok.ensures.value ∙ c.if-is_ok.false); wrote = wrote_two wrote' c.validate_outcome-r.ensures.wrote }
