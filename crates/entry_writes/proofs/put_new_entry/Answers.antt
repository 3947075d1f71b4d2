use Rattle.entry_writes.proofs.Blocks.{new_built}
use Rattle.entry_writes.proofs.put_new_entry.Goals as goal
use Rattle.format.specs.Basics.Bytes.{put_bytes}

pub returns : goal.returns
unfolding put_bytes
returns c =
    let a = c.args in
    rw (
      c.put_u64.ensures,
      c.put_u32.ensures,
      c.put_black.ensures,
      c.put_u16.ensures,
      c.put_units.ensures,
      c.put_blank_entry.ensures,
    )
    (new_built a.img.now a.p a.name.now a.t.0 a.start a.size c.requires.p_in_bounds c.requires.name_len_bound)
