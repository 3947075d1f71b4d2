use mathlib.Core.Path.{sym, ◌∙◌}
use mathlib.Core.Bool.{true}
use borrow.Author.Tests.{eqb-true, eqb-false}
use Rattle.format.specs.Rules.Entries.{common_fields}
use Rattle.entry_rules.proofs.Fields.{fields_first, fields_colour, fields_stream, fields_storage, fields_rest}
use Rattle.entry_rules.proofs.entry_fields.Goals as goal

pub returns-then-is_root : goal.returns-then-is_root
returns-then-is_root c = rw (fields_first _ _ (eqb-true _ _ (sym c.is_root.ensures ∙ c.if-is_root.true)), c.common_fields.ensures, c.root_fields.ensures, c.is_root-then-is_root.ensures, c.entry_type-t.ensures)

pub returns-then-not-common_fields : goal.returns-then-not-common_fields
returns-then-not-common_fields c = sym (fields_colour _ _ (eqb-false _ _ (sym c.is_root.ensures ∙ c.if-is_root.false)) (sym c.common_fields-2.ensures ∙ c.if-not-common_fields.true))

pub returns-then-is_stream : goal.returns-then-is_stream
returns-then-is_stream c = c.stream_fields.ensures ∙ sym (fields_stream _ _ (eqb-false _ _ (sym c.is_root.ensures ∙ c.if-is_root.false)) (sym c.common_fields-2.ensures ∙ c.if-not-common_fields.false) (sym c.entry_type-t.ensures ∙ eqb-true _ _ (sym c.is_stream.ensures ∙ c.if-is_stream.true)))

pub returns-then-is_storage : goal.returns-then-is_storage
returns-then-is_storage c = c.storage_fields.ensures ∙ sym (fields_storage _ _ (eqb-false _ _ (sym c.is_root.ensures ∙ c.if-is_root.false)) (sym c.common_fields-2.ensures ∙ c.if-not-common_fields.false) (sym c.entry_type-t.ensures ∙ eqb-true _ _ (sym c.is_storage.ensures ∙ c.if-is_storage.true)))

pub returns : goal.returns
returns c =
    let s = eqb-false _ _ (sym c.is_stream.ensures ∙ c.if-is_stream.false) in
    let d = eqb-false _ _ (sym c.is_storage.ensures ∙ c.if-is_storage.false) in
    let t = c.entry_type-t.ensures in
    rw (c.blank_fields.ensures, c.is_blank.ensures, t)
    (sym (fields_rest _ _ (eqb-false _ _ (sym c.is_root.ensures ∙ c.if-is_root.false)) (sym c.common_fields-2.ensures ∙ c.if-not-common_fields.false) (λ q. s (t ∙ q)) (λ q. d (t ∙ q))))
