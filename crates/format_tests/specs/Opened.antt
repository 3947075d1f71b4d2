-- Every definition of `format`, opened at once: a theorem that computes says `unfolding opened`.
-- Written by tools/opened.py.
use Rattle.format.specs.Basics.Lists.{all_below as Basics·Lists·all_below, all as Basics·Lists·all, any as Basics·Lists·any, list_below as Basics·Lists·list_below, join_below as Basics·Lists·join_below, member as Basics·Lists·member, distinct as Basics·Lists·distinct, equal as Basics·Lists·equal, sum as Basics·Lists·sum, fit as Basics·Lists·fit, without as Basics·Lists·without}
use Rattle.format.specs.Basics.Bytes.{byte_at as Basics·Bytes·byte_at, part as Basics·Bytes·part, number as Basics·Bytes·number, u16at as Basics·Bytes·u16at, u32at as Basics·Bytes·u32at, u64at as Basics·Bytes·u64at, is_zero as Basics·Bytes·is_zero, all_zero as Basics·Bytes·all_zero, le16 as Basics·Bytes·le16, le32 as Basics·Bytes·le32, le64 as Basics·Bytes·le64, put_bytes as Basics·Bytes·put_bytes, put16 as Basics·Bytes·put16, put32 as Basics·Bytes·put32, put64 as Basics·Bytes·put64}
use Rattle.format.specs.Layout.Geometry.{version3 as Layout·Geometry·version3, version4 as Layout·Geometry·version4, mini_bytes as Layout·Geometry·mini_bytes, entry_bytes as Layout·Geometry·entry_bytes, header_bytes as Layout·Geometry·header_bytes, header_difat as Layout·Geometry·header_difat, size_width as Layout·Geometry·size_width, counts_directory as Layout·Geometry·counts_directory, sector_count as Layout·Geometry·sector_count, sector_place as Layout·Geometry·sector_place, place_in as Layout·Geometry·place_in, cells_in as Layout·Geometry·cells_in, difat_in as Layout·Geometry·difat_in, entries_in as Layout·Geometry·entries_in}
use Rattle.format.specs.Layout.Need.{cutoff as Layout·Need·cutoff, round_up as Layout·Need·round_up, mini_need as Layout·Need·mini_need, sector_need as Layout·Need·sector_need}
use Rattle.format.specs.Layout.Chain.{chain as Layout·Chain·chain, units as Layout·Chain·units, follow as Layout·Chain·follow}
use Rattle.format.specs.Layout.Space.{free_units as Layout·Space·free_units, allocated as Layout·Space·allocated, chain_for as Layout·Space·chain_for, units_for as Layout·Space·units_for, block as Layout·Space·block}
use Rattle.format.specs.Layout.Header.{major_version as Layout·Header·major_version, directory_count as Layout·Header·directory_count, fat_count as Layout·Header·fat_count, directory_start as Layout·Header·directory_start, mini_fat_start as Layout·Header·mini_fat_start, mini_fat_count as Layout·Header·mini_fat_count, difat_start as Layout·Header·difat_start, difat_count as Layout·Header·difat_count, difat_place as Layout·Header·difat_place}
use Rattle.format.specs.Layout.Tables.{difat_sector as Layout·Tables·difat_sector, difat_sectors as Layout·Tables·difat_sectors, difat_entry as Layout·Tables·difat_entry, fat_sectors as Layout·Tables·fat_sectors, cell_place_in as Layout·Tables·cell_place_in, cell_in as Layout·Tables·cell_in, fat_cells as Layout·Tables·fat_cells, fat_cell as Layout·Tables·fat_cell, sector_space as Layout·Tables·sector_space}
use Rattle.format.specs.Layout.Name.{illegal as Layout·Name·illegal, legal_unit as Layout·Name·legal_unit, legal_name as Layout·Name·legal_name, small_by20 as Layout·Name·small_by20, small_by50 as Layout·Name·small_by50, fold as Layout·Name·fold, units_less as Layout·Name·units_less, name_less as Layout·Name·name_less, name_equal as Layout·Name·name_equal}
use Rattle.format.specs.Layout.PathOrder.{same_path as Layout·PathOrder·same_path, path_less as Layout·PathOrder·path_less, is_below as Layout·PathOrder·is_below, insert as Layout·PathOrder·insert}
use Rattle.format.specs.Layout.Entry.{name_bytes as Layout·Entry·name_bytes, name_unit as Layout·Entry·name_unit, name as Layout·Entry·name, kind as Layout·Entry·kind, colour as Layout·Entry·colour, left as Layout·Entry·left, right as Layout·Entry·right, child as Layout·Entry·child, clsid as Layout·Entry·clsid, created as Layout·Entry·created, modified as Layout·Entry·modified, start as Layout·Entry·start, size as Layout·Entry·size}
use Rattle.format.specs.Layout.NewEntry.{no_links as Layout·NewEntry·no_links, blank_entry as Layout·NewEntry·blank_entry, utf16_bytes as Layout·NewEntry·utf16_bytes, entry_rest as Layout·NewEntry·entry_rest, new_entry as Layout·NewEntry·new_entry}
use Rattle.format.specs.Layout.Directory.{directory_sectors as Layout·Directory·directory_sectors, entry_place as Layout·Directory·entry_place, entry_count as Layout·Directory·entry_count, entry_in as Layout·Directory·entry_in, directory_of as Layout·Directory·directory_of, size_of as Layout·Directory·size_of, blank_at as Layout·Directory·blank_at, blanks as Layout·Directory·blanks}
use Rattle.format.specs.Layout.Tree.{tree_of as Layout·Tree·tree_of, grow as Layout·Tree·grow, forest as Layout·Tree·forest, entries as Layout·Tree·entries, siblings as Layout·Tree·siblings, is_empty as Layout·Tree·is_empty}
use Rattle.format.specs.Layout.Siblings.{goes_left as Layout·Siblings·goes_left, slot_in as Layout·Siblings·slot_in, greatest as Layout·Siblings·greatest, without_greatest as Layout·Siblings·without_greatest, below_greatest as Layout·Siblings·below_greatest, sides_joined as Layout·Siblings·sides_joined, without_node as Layout·Siblings·without_node}
use Rattle.format.specs.Layout.Volume.{directory_sectors_of as Layout·Volume·directory_sectors_of, directory as Layout·Volume·directory, mini_fat_sectors as Layout·Volume·mini_fat_sectors, mini_stream_sectors as Layout·Volume·mini_stream_sectors, mini_cells as Layout·Volume·mini_cells, mini_space as Layout·Volume·mini_space, volume as Layout·Volume·volume, root as Layout·Volume·root, root_size as Layout·Volume·root_size, system_sectors as Layout·Volume·system_sectors, fixed_number as Layout·Volume·fixed_number}
use Rattle.format.specs.Layout.Objects.{object_at as Layout·Objects·object_at, objects_in as Layout·Objects·objects_in, objects_of as Layout·Objects·objects_of, path_of as Layout·Objects·path_of}
use Rattle.format.specs.Layout.Stream.{space_for as Layout·Stream·space_for, stream_size as Layout·Stream·stream_size, stream_units as Layout·Stream·stream_units, contents as Layout·Stream·contents}
use Rattle.format.specs.Rules.Length.{least_image as Rules·Length·least_image, greatest_image as Rules·Length·greatest_image, length_allowed as Rules·Length·length_allowed, work_need as Rules·Length·work_need}
use Rattle.format.specs.Rules.Version.{version_of as Rules·Version·version_of}
use Rattle.format.specs.Rules.Header.{signature as Rules·Header·signature, byte_order as Rules·Header·byte_order, mini_shift as Rules·Header·mini_shift, header_rules as Rules·Header·header_rules}
use Rattle.format.specs.Rules.Tables.{difat_need as Rules·Tables·difat_need, table_counts as Rules·Tables·table_counts, difat_ends as Rules·Tables·difat_ends, spare_entry_free as Rules·Tables·spare_entry_free, difat_rest as Rules·Tables·difat_rest, is_sector as Rules·Tables·is_sector, table_sectors as Rules·Tables·table_sectors, mark_right as Rules·Tables·mark_right, table_marks as Rules·Tables·table_marks, table_rules as Rules·Tables·table_rules}
use Rattle.format.specs.Rules.Cells.{plain_cell as Rules·Cells·plain_cell, spare_cell_free as Rules·Cells·spare_cell_free, rest_free as Rules·Cells·rest_free, table_mark as Rules·Cells·table_mark, fat_cell_right as Rules·Cells·fat_cell_right, cell_rules as Rules·Cells·cell_rules}
use Rattle.format.specs.Rules.Directory.{some_chain as Rules·Directory·some_chain, count_right as Rules·Directory·count_right, directory_rules as Rules·Directory·directory_rules}
use Rattle.format.specs.Rules.Entries.{blank_fields as Rules·Entries·blank_fields, name_fields as Rules·Entries·name_fields, stream_fields as Rules·Entries·stream_fields, storage_fields as Rules·Entries·storage_fields, root_fields as Rules·Entries·root_fields, common_fields as Rules·Entries·common_fields, entry_fields as Rules·Entries·entry_fields, entry_right as Rules·Entries·entry_right, entry_rules as Rules·Entries·entry_rules}
use Rattle.format.specs.Rules.Trees.{sound as Rules·Trees·sound, reached_right as Rules·Trees·reached_right, reached_once as Rules·Trees·reached_once, every_node as Rules·Trees·every_node, less as Rules·Trees·less, greater as Rules·Trees·greater, sides_ordered as Rules·Trees·sides_ordered, red as Rules·Trees·red, top_black as Rules·Trees·top_black, coloured as Rules·Trees·coloured, tree_rules as Rules·Trees·tree_rules}
use Rattle.format.specs.Rules.Mini.{mini_cell_right as Rules·Mini·mini_cell_right, mini_fat_chain as Rules·Mini·mini_fat_chain, mini_stream_chain as Rules·Mini·mini_stream_chain, mini_rules as Rules·Mini·mini_rules}
use Rattle.format.specs.Rules.Streams.{stream_chain as Rules·Streams·stream_chain, stream_right as Rules·Streams·stream_right, stream_rules as Rules·Streams·stream_rules}
use Rattle.format.specs.Rules.Owners.{own_sectors as Rules·Owners·own_sectors, own_minis as Rules·Owners·own_minis, owned_sectors as Rules·Owners·owned_sectors, owned_minis as Rules·Owners·owned_minis, owner_rule as Rules·Owners·owner_rule, owner_right as Rules·Owners·owner_right, owners_in as Rules·Owners·owners_in, owner_rules as Rules·Owners·owner_rules}
use Rattle.format.specs.Rules.Verdict.{check as Rules·Verdict·check, volume_groups as Rules·Verdict·volume_groups, groups as Rules·Verdict·groups, verdict as Rules·Verdict·verdict}
use Rattle.format.specs.Calls.Paths.{push_front as Calls·Paths·push_front, split as Calls·Paths·split, names as Calls·Paths·names, joined as Calls·Paths·joined, well_formed as Calls·Paths·well_formed, names_before as Calls·Paths·names_before, last_name as Calls·Paths·last_name}
use Rattle.format.specs.Calls.Find.{or_else as Calls·Find·or_else, child_named as Calls·Find·child_named, found_child as Calls·Find·found_child, enter as Calls·Find·enter, descend as Calls·Find·descend, resolve as Calls·Find·resolve, need_stream as Calls·Find·need_stream, resolve_stream as Calls·Find·resolve_stream, answer_of as Calls·Find·answer_of, entry_of as Calls·Find·entry_of, need_parent as Calls·Find·need_parent, resolve_parent as Calls·Find·resolve_parent, below_of as Calls·Find·below_of}
use Rattle.format.specs.Calls.Read.{read_count as Calls·Read·read_count, read_bytes as Calls·Read·read_bytes, over as Calls·Read·over}
use Rattle.format.specs.Calls.Overwrite.{byte_place as Calls·Overwrite·byte_place, put_chain as Calls·Overwrite·put_chain, overwritten as Calls·Overwrite·overwritten}
use Rattle.format.specs.Calls.SetLength.{small as Calls·SetLength·small, crosses as Calls·SetLength·crosses, too_few as Calls·SetLength·too_few, put_cell as Calls·SetLength·put_cell, release as Calls·SetLength·release, link as Calls·SetLength·link, relinked as Calls·SetLength·relinked, edit_space as Calls·SetLength·edit_space, new_units as Calls·SetLength·new_units, zeroed as Calls·SetLength·zeroed, tail_zeroed as Calls·SetLength·tail_zeroed, entry_written as Calls·SetLength·entry_written, resized as Calls·SetLength·resized}
use Rattle.format.specs.Calls.Move.{moved as Calls·Move·moved, length_changed as Calls·Move·length_changed}
use Rattle.format.specs.Calls.Search.{free_from as Calls·Search·free_from, lowest_free as Calls·Search·lowest_free, search as Calls·Search·search, searches as Calls·Search·searches, growth_searches as Calls·Search·growth_searches, units_found as Calls·Search·units_found, cells_looked as Calls·Search·cells_looked, searches_for as Calls·Search·searches_for, kept_units as Calls·Search·kept_units, length_searches as Calls·Search·length_searches}
use Rattle.format.specs.Calls.Create.{kind_for as Calls·Create·kind_for, start_for as Calls·Create·start_for, lowest_blank as Calls·Create·lowest_blank, slot_for as Calls·Create·slot_for, entry_created as Calls·Create·entry_created, object_created as Calls·Create·object_created}
use Rattle.format.specs.Calls.Remove.{siblings_written as Calls·Remove·siblings_written, entry_removed_at as Calls·Remove·entry_removed_at, entry_removed as Calls·Remove·entry_removed, cut_to_zero as Calls·Remove·cut_to_zero, object_removed as Calls·Remove·object_removed}
use Rattle.format.specs.Calls.Text.{digits as Calls·Text·digits, decimal as Calls·Text·decimal, hex_digit as Calls·Text·hex_digit, print_unit as Calls·Text·print_unit, print_name as Calls·Text·print_name}
use Rattle.format.specs.Calls.Listing.{line as Calls·Listing·line, lines as Calls·Listing·lines, first_line as Calls·Listing·first_line, listing as Calls·Listing·listing}
use Rattle.format.specs.Calls.Cursor.{stream_answer as Calls·Cursor·stream_answer, moved_by as Calls·Cursor·moved_by}
use Rattle.format.specs.Calls.Call.{work_of as Calls·Call·work_of, out_of as Calls·Call·out_of}
use Rattle.format.specs.Calls.Answer.{first_of as Calls·Answer·first_of, target as Calls·Answer·target, target_answer as Calls·Answer·target_answer, beyond as Calls·Answer·beyond, length_answer as Calls·Answer·length_answer, create_answer as Calls·Answer·create_answer, remove_answer as Calls·Answer·remove_answer, answer_in as Calls·Answer·answer_in, answer as Calls·Answer·answer}
use Rattle.format.specs.Calls.Reply.{plain as Calls·Reply·plain, found_reply as Calls·Reply·found_reply, counted as Calls·Reply·counted, done as Calls·Reply·done, on_zero as Calls·Reply·on_zero, reply_by as Calls·Reply·reply_by}
use Rattle.format.specs.Calls.Buffers.{edited as Calls·Buffers·edited, image_after_by as Calls·Buffers·image_after_by, handed_out as Calls·Buffers·handed_out, out_after_by as Calls·Buffers·out_after_by, work_cleared as Calls·Buffers·work_cleared, work_after_by as Calls·Buffers·work_after_by}
use Rattle.format.specs.Calls.RepairSteps.{tables_hold as Calls·RepairSteps·tables_hold, directory_holds as Calls·RepairSteps·directory_holds, entries_hold as Calls·RepairSteps·entries_hold, streams_hold as Calls·RepairSteps·streams_hold, rest_unit as Calls·RepairSteps·rest_unit, rest_units as Calls·RepairSteps·rest_units, rest_freed as Calls·RepairSteps·rest_freed, has_colour as Calls·RepairSteps·has_colour, blacken_entry as Calls·RepairSteps·blacken_entry, blacken_below as Calls·RepairSteps·blacken_below, blackened as Calls·RepairSteps·blackened, is_unowned as Calls·RepairSteps·is_unowned, unowned_freed_in as Calls·RepairSteps·unowned_freed_in, unowned_freed as Calls·RepairSteps·unowned_freed, fourth_step as Calls·RepairSteps·fourth_step, third_step as Calls·RepairSteps·third_step, second_step as Calls·RepairSteps·second_step, repaired as Calls·RepairSteps·repaired}
use Rattle.format.specs.Calls.Repair.{repair_answer as Calls·Repair·repair_answer, cell_differs as Calls·Repair·cell_differs, colour_differs as Calls·Repair·colour_differs, differences as Calls·Repair·differences, repair_reply_by as Calls·Repair·repair_reply_by, image_repaired_by as Calls·Repair·image_repaired_by, repair_short as Calls·Repair·repair_short, work_repaired_by as Calls·Repair·work_repaired_by, spare_repaired_by as Calls·Repair·spare_repaired_by}
use Rattle.format.specs.Calls.CursorMoves.{cursor_call as Calls·CursorMoves·cursor_call, cursor_after as Calls·CursorMoves·cursor_after}
use Rattle.format.specs.Calls.Program.{program_capacity as Calls·Program·program_capacity, refused_line as Calls·Program·refused_line, program_call as Calls·Program·program_call, program_output_by as Calls·Program·program_output_by}
use Rattle.format.specs.Fresh.Plan.{planned as Fresh·Plan·planned, fat_part as Fresh·Plan·fat_part, difat_part as Fresh·Plan·difat_part, mini_stream_bytes as Fresh·Plan·mini_stream_bytes, mini_stream_part as Fresh·Plan·mini_stream_part, difat_from as Fresh·Plan·difat_from, directory_from as Fresh·Plan·directory_from, mini_fat_from as Fresh·Plan·mini_fat_from, mini_stream_from as Fresh·Plan·mini_stream_from, spare_from as Fresh·Plan·spare_from, start_from as Fresh·Plan·start_from, known_version as Fresh·Plan·known_version, parts_fit as Fresh·Plan·parts_fit}
use Rattle.format.specs.Fresh.Cells.{link_in as Fresh·Cells·link_in, fresh_cell as Fresh·Cells·fresh_cell, fresh_difat as Fresh·Cells·fresh_difat, difat_number as Fresh·Cells·difat_number}
use Rattle.format.specs.Fresh.Header.{minor_version as Fresh·Header·minor_version, directory_field as Fresh·Header·directory_field, numbers_below as Fresh·Header·numbers_below, header_front as Fresh·Header·header_front, header_fields as Fresh·Header·header_fields, fresh_header as Fresh·Header·fresh_header}
use Rattle.format.specs.Fresh.Image.{root_name as Fresh·Image·root_name, root_entry as Fresh·Image·root_entry, fresh_entry as Fresh·Image·fresh_entry, fat_number as Fresh·Image·fat_number, fat_block as Fresh·Image·fat_block, difat_block as Fresh·Image·difat_block, directory_entry as Fresh·Image·directory_entry, directory_block as Fresh·Image·directory_block, mini_number as Fresh·Image·mini_number, mini_fat_block as Fresh·Image·mini_fat_block, fresh_sector as Fresh·Image·fresh_sector, fresh_image as Fresh·Image·fresh_image}
use Rattle.format.specs.Fresh.Answer.{buffer_fits as Fresh·Answer·buffer_fits, format_answer as Fresh·Answer·format_answer, formatted as Fresh·Answer·formatted}
use Rattle.format.specs.History.Rows.{rows_in as History·Rows·rows_in, rows_of as History·Rows·rows_of, means as History·Rows·means, has_row as History·Rows·has_row, row_length as History·Rows·row_length, need_of as History·Rows·need_of, total as History·Rows·total}
use Rattle.format.specs.History.Setting.{setting_of as History·Setting·setting_of, free_sectors as History·Setting·free_sectors, free_minis as History·Setting·free_minis}
use Rattle.format.specs.History.Storages.{storages_in as History·Storages·storages_in, storages_of as History·Storages·storages_of, blank_count_of as History·Storages·blank_count_of, has_storage as History·Storages·has_storage, spelled as History·Storages·spelled, is_storage_or_root as History·Storages·is_storage_or_root}
use Rattle.format.specs.History.State.{state_in as History·State·state_in, state_of as History·State·state_of, with_rows as History·State·with_rows}
use Rattle.format.specs.History.Accepts.{reaches_row as History·Accepts·reaches_row, lacks_room as History·Accepts·lacks_room, may_create as History·Accepts·may_create, row_below as History·Accepts·row_below, some_below as History·Accepts·some_below, may_remove as History·Accepts·may_remove, accepts as History·Accepts·accepts, accepts_repair as History·Accepts·accepts_repair, answers26 as History·Accepts·answers26}
use Rattle.format.specs.History.Step.{change as History·Step·change, put_into as History·Step·put_into, new_path as History·Step·new_path, with_object as History·Step·with_object, without_object as History·Step·without_object, changed as History·Step·changed, state_step as History·Step·state_step}
use Rattle.format.specs.History.Event.{image_step as History·Event·image_step, after as History·Event·after, event_step as History·Event·event_step, state_after as History·Event·state_after}
use Rattle.format.specs.History.Claim.{is_edit as History·Claim·is_edit}
use Rattle.format.specs.Claims.Folding.{former_fold as Claims·Folding·former_fold, former_less as Claims·Folding·former_less, former_before as Claims·Folding·former_before, former_after as Claims·Folding·former_after, former_sides as Claims·Folding·former_sides, former_trees as Claims·Folding·former_trees, former_late as Claims·Folding·former_late, former_verdict as Claims·Folding·former_verdict, steady_unit as Claims·Folding·steady_unit, steady_name as Claims·Folding·steady_name, steady_names as Claims·Folding·steady_names, plain_unit as Claims·Folding·plain_unit, plain_name as Claims·Folding·plain_name, plain_names as Claims·Folding·plain_names}
use Rattle.format.specs.Claims.FoldingPaths.{former_equal as Claims·FoldingPaths·former_equal, former_child as Claims·FoldingPaths·former_child, former_enter as Claims·FoldingPaths·former_enter, former_descend as Claims·FoldingPaths·former_descend, former_resolve as Claims·FoldingPaths·former_resolve, former_parent as Claims·FoldingPaths·former_parent, former_stream as Claims·FoldingPaths·former_stream, former_answer_in as Claims·FoldingPaths·former_answer_in, former_done as Claims·FoldingPaths·former_done, former_answer as Claims·FoldingPaths·former_answer, former_reply as Claims·FoldingPaths·former_reply, path_of as Claims·FoldingPaths·path_of}
use Rattle.format.specs.Claims.Search.{free_beside as Claims·Search·free_beside, InTurns as Claims·Search·InTurns}
use Rattle.format.specs.Claims.PathOrder.{rising as Claims·PathOrder·rising, other_path as Claims·PathOrder·other_path, none_twice as Claims·PathOrder·none_twice}
use Rattle.format.specs.Claims.ListingText.{lines_of as Claims·ListingText·lines_of, first_word as Claims·ListingText·first_word, other_words as Claims·ListingText·other_words, decimal_value as Claims·ListingText·decimal_value, hex_value as Claims·ListingText·hex_value, read_units as Claims·ListingText·read_units, read_name as Claims·ListingText·read_name, type_of as Claims·ListingText·type_of, read_line as Claims·ListingText·read_line, announced as Claims·ListingText·announced, read_listing as Claims·ListingText·read_listing}
use Rattle.format.specs.Claims.Listing.{listed as Claims·Listing·listed, entry_found as Claims·Listing·entry_found, is_named as Claims·Listing·is_named, is_known as Claims·Listing·is_known, agrees as Claims·Listing·agrees}
use Rattle.format.specs.Claims.Cursor.{work_fits as Claims·Cursor·work_fits, takes_byte as Claims·Cursor·takes_byte, room as Claims·Cursor·room, rest_at as Claims·Cursor·rest_at, handed_at as Claims·Cursor·handed_at, handed_all as Claims·Cursor·handed_all, cursor_at_end as Claims·Cursor·cursor_at_end, numbers_at as Claims·Cursor·numbers_at}
use Rattle.format.specs.Claims.Fresh.{fresh_fixed as Claims·Fresh·fresh_fixed, fresh_setting as Claims·Fresh·fresh_setting, fresh_state as Claims·Fresh·fresh_state}
use Rattle.format.specs.Claims.Repair.{is_red as Claims·Repair·is_red, red_entries as Claims·Repair·red_entries}

unfoldable pub opened : Unit {0}
unfolding Basics·Lists·all_below Basics·Lists·all Basics·Lists·any Basics·Lists·list_below Basics·Lists·join_below Basics·Lists·member Basics·Lists·distinct Basics·Lists·equal Basics·Lists·sum Basics·Lists·fit Basics·Lists·without Basics·Bytes·byte_at Basics·Bytes·part Basics·Bytes·number Basics·Bytes·u16at Basics·Bytes·u32at Basics·Bytes·u64at Basics·Bytes·is_zero Basics·Bytes·all_zero Basics·Bytes·le16 Basics·Bytes·le32 Basics·Bytes·le64 Basics·Bytes·put_bytes Basics·Bytes·put16 Basics·Bytes·put32 Basics·Bytes·put64 Layout·Geometry·version3 Layout·Geometry·version4 Layout·Geometry·mini_bytes Layout·Geometry·entry_bytes Layout·Geometry·header_bytes Layout·Geometry·header_difat Layout·Geometry·size_width Layout·Geometry·counts_directory Layout·Geometry·sector_count Layout·Geometry·sector_place Layout·Geometry·place_in Layout·Geometry·cells_in Layout·Geometry·difat_in Layout·Geometry·entries_in Layout·Need·cutoff Layout·Need·round_up Layout·Need·mini_need Layout·Need·sector_need Layout·Chain·chain Layout·Chain·units Layout·Chain·follow Layout·Space·free_units Layout·Space·allocated Layout·Space·chain_for Layout·Space·units_for Layout·Space·block Layout·Header·major_version Layout·Header·directory_count Layout·Header·fat_count Layout·Header·directory_start Layout·Header·mini_fat_start Layout·Header·mini_fat_count Layout·Header·difat_start Layout·Header·difat_count Layout·Header·difat_place Layout·Tables·difat_sector Layout·Tables·difat_sectors Layout·Tables·difat_entry Layout·Tables·fat_sectors Layout·Tables·cell_place_in Layout·Tables·cell_in Layout·Tables·fat_cells Layout·Tables·fat_cell Layout·Tables·sector_space Layout·Name·illegal Layout·Name·legal_unit Layout·Name·legal_name Layout·Name·small_by20 Layout·Name·small_by50 Layout·Name·fold Layout·Name·units_less Layout·Name·name_less Layout·Name·name_equal Layout·PathOrder·same_path Layout·PathOrder·path_less Layout·PathOrder·is_below Layout·PathOrder·insert Layout·Entry·name_bytes Layout·Entry·name_unit Layout·Entry·name Layout·Entry·kind Layout·Entry·colour Layout·Entry·left Layout·Entry·right Layout·Entry·child Layout·Entry·clsid Layout·Entry·created Layout·Entry·modified Layout·Entry·start Layout·Entry·size Layout·NewEntry·no_links Layout·NewEntry·blank_entry Layout·NewEntry·utf16_bytes Layout·NewEntry·entry_rest Layout·NewEntry·new_entry Layout·Directory·directory_sectors Layout·Directory·entry_place Layout·Directory·entry_count Layout·Directory·entry_in Layout·Directory·directory_of Layout·Directory·size_of Layout·Directory·blank_at Layout·Directory·blanks Layout·Tree·tree_of Layout·Tree·grow Layout·Tree·forest Layout·Tree·entries Layout·Tree·siblings Layout·Tree·is_empty Layout·Siblings·goes_left Layout·Siblings·slot_in Layout·Siblings·greatest Layout·Siblings·without_greatest Layout·Siblings·below_greatest Layout·Siblings·sides_joined Layout·Siblings·without_node Layout·Volume·directory_sectors_of Layout·Volume·directory Layout·Volume·mini_fat_sectors Layout·Volume·mini_stream_sectors Layout·Volume·mini_cells Layout·Volume·mini_space Layout·Volume·volume Layout·Volume·root Layout·Volume·root_size Layout·Volume·system_sectors Layout·Volume·fixed_number Layout·Objects·object_at Layout·Objects·objects_in Layout·Objects·objects_of Layout·Objects·path_of Layout·Stream·space_for Layout·Stream·stream_size Layout·Stream·stream_units Layout·Stream·contents Rules·Length·least_image Rules·Length·greatest_image Rules·Length·length_allowed Rules·Length·work_need Rules·Version·version_of Rules·Header·signature Rules·Header·byte_order Rules·Header·mini_shift Rules·Header·header_rules Rules·Tables·difat_need Rules·Tables·table_counts Rules·Tables·difat_ends Rules·Tables·spare_entry_free Rules·Tables·difat_rest Rules·Tables·is_sector Rules·Tables·table_sectors Rules·Tables·mark_right Rules·Tables·table_marks Rules·Tables·table_rules Rules·Cells·plain_cell Rules·Cells·spare_cell_free Rules·Cells·rest_free Rules·Cells·table_mark Rules·Cells·fat_cell_right Rules·Cells·cell_rules Rules·Directory·some_chain Rules·Directory·count_right Rules·Directory·directory_rules Rules·Entries·blank_fields Rules·Entries·name_fields Rules·Entries·stream_fields Rules·Entries·storage_fields Rules·Entries·root_fields Rules·Entries·common_fields Rules·Entries·entry_fields Rules·Entries·entry_right Rules·Entries·entry_rules Rules·Trees·sound Rules·Trees·reached_right Rules·Trees·reached_once Rules·Trees·every_node Rules·Trees·less Rules·Trees·greater Rules·Trees·sides_ordered Rules·Trees·red Rules·Trees·top_black Rules·Trees·coloured Rules·Trees·tree_rules Rules·Mini·mini_cell_right Rules·Mini·mini_fat_chain Rules·Mini·mini_stream_chain Rules·Mini·mini_rules Rules·Streams·stream_chain Rules·Streams·stream_right Rules·Streams·stream_rules Rules·Owners·own_sectors Rules·Owners·own_minis Rules·Owners·owned_sectors Rules·Owners·owned_minis Rules·Owners·owner_rule Rules·Owners·owner_right Rules·Owners·owners_in Rules·Owners·owner_rules Rules·Verdict·check Rules·Verdict·volume_groups Rules·Verdict·groups Rules·Verdict·verdict Calls·Paths·push_front Calls·Paths·split Calls·Paths·names Calls·Paths·joined Calls·Paths·well_formed Calls·Paths·names_before Calls·Paths·last_name Calls·Find·or_else Calls·Find·child_named Calls·Find·found_child Calls·Find·enter Calls·Find·descend Calls·Find·resolve Calls·Find·need_stream Calls·Find·resolve_stream Calls·Find·answer_of Calls·Find·entry_of Calls·Find·need_parent Calls·Find·resolve_parent Calls·Find·below_of Calls·Read·read_count Calls·Read·read_bytes Calls·Read·over Calls·Overwrite·byte_place Calls·Overwrite·put_chain Calls·Overwrite·overwritten Calls·SetLength·small Calls·SetLength·crosses Calls·SetLength·too_few Calls·SetLength·put_cell Calls·SetLength·release Calls·SetLength·link Calls·SetLength·relinked Calls·SetLength·edit_space Calls·SetLength·new_units Calls·SetLength·zeroed Calls·SetLength·tail_zeroed Calls·SetLength·entry_written Calls·SetLength·resized Calls·Move·moved Calls·Move·length_changed Calls·Search·free_from Calls·Search·lowest_free Calls·Search·search Calls·Search·searches Calls·Search·growth_searches Calls·Search·units_found Calls·Search·cells_looked Calls·Search·searches_for Calls·Search·kept_units Calls·Search·length_searches Calls·Create·kind_for Calls·Create·start_for Calls·Create·lowest_blank Calls·Create·slot_for Calls·Create·entry_created Calls·Create·object_created Calls·Remove·siblings_written Calls·Remove·entry_removed_at Calls·Remove·entry_removed Calls·Remove·cut_to_zero Calls·Remove·object_removed Calls·Text·digits Calls·Text·decimal Calls·Text·hex_digit Calls·Text·print_unit Calls·Text·print_name Calls·Listing·line Calls·Listing·lines Calls·Listing·first_line Calls·Listing·listing Calls·Cursor·stream_answer Calls·Cursor·moved_by Calls·Call·work_of Calls·Call·out_of Calls·Answer·first_of Calls·Answer·target Calls·Answer·target_answer Calls·Answer·beyond Calls·Answer·length_answer Calls·Answer·create_answer Calls·Answer·remove_answer Calls·Answer·answer_in Calls·Answer·answer Calls·Reply·plain Calls·Reply·found_reply Calls·Reply·counted Calls·Reply·done Calls·Reply·on_zero Calls·Reply·reply_by Calls·Buffers·edited Calls·Buffers·image_after_by Calls·Buffers·handed_out Calls·Buffers·out_after_by Calls·Buffers·work_cleared Calls·Buffers·work_after_by Calls·RepairSteps·tables_hold Calls·RepairSteps·directory_holds Calls·RepairSteps·entries_hold Calls·RepairSteps·streams_hold Calls·RepairSteps·rest_unit Calls·RepairSteps·rest_units Calls·RepairSteps·rest_freed Calls·RepairSteps·has_colour Calls·RepairSteps·blacken_entry Calls·RepairSteps·blacken_below Calls·RepairSteps·blackened Calls·RepairSteps·is_unowned Calls·RepairSteps·unowned_freed_in Calls·RepairSteps·unowned_freed Calls·RepairSteps·fourth_step Calls·RepairSteps·third_step Calls·RepairSteps·second_step Calls·RepairSteps·repaired Calls·Repair·repair_answer Calls·Repair·cell_differs Calls·Repair·colour_differs Calls·Repair·differences Calls·Repair·repair_reply_by Calls·Repair·image_repaired_by Calls·Repair·repair_short Calls·Repair·work_repaired_by Calls·Repair·spare_repaired_by Calls·CursorMoves·cursor_call Calls·CursorMoves·cursor_after Calls·Program·program_capacity Calls·Program·refused_line Calls·Program·program_call Calls·Program·program_output_by Fresh·Plan·planned Fresh·Plan·fat_part Fresh·Plan·difat_part Fresh·Plan·mini_stream_bytes Fresh·Plan·mini_stream_part Fresh·Plan·difat_from Fresh·Plan·directory_from Fresh·Plan·mini_fat_from Fresh·Plan·mini_stream_from Fresh·Plan·spare_from Fresh·Plan·start_from Fresh·Plan·known_version Fresh·Plan·parts_fit Fresh·Cells·link_in Fresh·Cells·fresh_cell Fresh·Cells·fresh_difat Fresh·Cells·difat_number Fresh·Header·minor_version Fresh·Header·directory_field Fresh·Header·numbers_below Fresh·Header·header_front Fresh·Header·header_fields Fresh·Header·fresh_header Fresh·Image·root_name Fresh·Image·root_entry Fresh·Image·fresh_entry Fresh·Image·fat_number Fresh·Image·fat_block Fresh·Image·difat_block Fresh·Image·directory_entry Fresh·Image·directory_block Fresh·Image·mini_number Fresh·Image·mini_fat_block Fresh·Image·fresh_sector Fresh·Image·fresh_image Fresh·Answer·buffer_fits Fresh·Answer·format_answer Fresh·Answer·formatted History·Rows·rows_in History·Rows·rows_of History·Rows·means History·Rows·has_row History·Rows·row_length History·Rows·need_of History·Rows·total History·Setting·setting_of History·Setting·free_sectors History·Setting·free_minis History·Storages·storages_in History·Storages·storages_of History·Storages·blank_count_of History·Storages·has_storage History·Storages·spelled History·Storages·is_storage_or_root History·State·state_in History·State·state_of History·State·with_rows History·Accepts·reaches_row History·Accepts·lacks_room History·Accepts·may_create History·Accepts·row_below History·Accepts·some_below History·Accepts·may_remove History·Accepts·accepts History·Accepts·accepts_repair History·Accepts·answers26 History·Step·change History·Step·put_into History·Step·new_path History·Step·with_object History·Step·without_object History·Step·changed History·Step·state_step History·Event·image_step History·Event·after History·Event·event_step History·Event·state_after History·Claim·is_edit Claims·Folding·former_fold Claims·Folding·former_less Claims·Folding·former_before Claims·Folding·former_after Claims·Folding·former_sides Claims·Folding·former_trees Claims·Folding·former_late Claims·Folding·former_verdict Claims·Folding·steady_unit Claims·Folding·steady_name Claims·Folding·steady_names Claims·Folding·plain_unit Claims·Folding·plain_name Claims·Folding·plain_names Claims·FoldingPaths·former_equal Claims·FoldingPaths·former_child Claims·FoldingPaths·former_enter Claims·FoldingPaths·former_descend Claims·FoldingPaths·former_resolve Claims·FoldingPaths·former_parent Claims·FoldingPaths·former_stream Claims·FoldingPaths·former_answer_in Claims·FoldingPaths·former_done Claims·FoldingPaths·former_answer Claims·FoldingPaths·former_reply Claims·FoldingPaths·path_of Claims·Search·free_beside Claims·Search·InTurns Claims·PathOrder·rising Claims·PathOrder·other_path Claims·PathOrder·none_twice Claims·ListingText·lines_of Claims·ListingText·first_word Claims·ListingText·other_words Claims·ListingText·decimal_value Claims·ListingText·hex_value Claims·ListingText·read_units Claims·ListingText·read_name Claims·ListingText·type_of Claims·ListingText·read_line Claims·ListingText·announced Claims·ListingText·read_listing Claims·Listing·listed Claims·Listing·entry_found Claims·Listing·is_named Claims·Listing·is_known Claims·Listing·agrees Claims·Cursor·work_fits Claims·Cursor·takes_byte Claims·Cursor·room Claims·Cursor·rest_at Claims·Cursor·handed_at Claims·Cursor·handed_all Claims·Cursor·cursor_at_end Claims·Cursor·numbers_at Claims·Fresh·fresh_fixed Claims·Fresh·fresh_setting Claims·Fresh·fresh_state Claims·Repair·is_red Claims·Repair·red_entries
opened = tt
