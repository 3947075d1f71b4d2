-- The field of an entry, and the kind of object, that a value of the code stands for.
use Rattle.format.specs.Layout.Entry.{Field, left_field, right_field, child_field}
use Rattle.format.specs.Calls.Create.{NewKind, stream, storage}
use Rattle.kinds.specs.declared.Link.{Link}
use Rattle.kinds.specs.declared.Link.TheVariants.{Left, Right, Child}
use Rattle.kinds.specs.declared.NewKind.{NewKind as Made}
use Rattle.kinds.specs.declared.NewKind.TheVariants.{Stream, Storage}

abbrev pub link_field : Link → Field
link_field Left = left_field
link_field Right = right_field
link_field Child = child_field

abbrev pub new_kind_of : Made → NewKind
new_kind_of Stream = stream
new_kind_of Storage = storage
