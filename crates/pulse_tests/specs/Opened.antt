-- Every definition of `pulse_laws`, opened at once.
-- Written by tools/opened.py.
use Rattle.pulse_laws.specs.Pulse.{record_of as Pulse·record_of, distance_for as Pulse·distance_for, trailer_of as Pulse·trailer_of, distance as Pulse·distance, count as Pulse·count, total as Pulse·total, record_place as Pulse·record_place, preamble as Pulse·preamble, valve_at as Pulse·valve_at, zero_at as Pulse·zero_at, ticks_at as Pulse·ticks_at, pulse_at as Pulse·pulse_at, pulses_in as Pulse·pulses_in, record_right as Pulse·record_right, ticks_below as Pulse·ticks_below, is_pulse_stream as Pulse·is_pulse_stream}
use Rattle.pulse_laws.specs.Added.{longer as Added·longer, trailer_place as Added·trailer_place, tail as Added·tail, with_pulse as Added·with_pulse}
use Rattle.pulse_laws.specs.Calls.{contents_at as Calls·contents_at, reader_answer as Calls·reader_answer, pulses_answer as Calls·pulses_answer, summary_answer as Calls·summary_answer, record_answer as Calls·record_answer, ticks_answer as Calls·ticks_answer, grow_answer as Calls·grow_answer, add_answer as Calls·add_answer, number_alone as Calls·number_alone, summary_given as Calls·summary_given, pulse_given as Calls·pulse_given, summary_reply as Calls·summary_reply, record_reply as Calls·record_reply, add_reply as Calls·add_reply, grown as Calls·grown, add_events as Calls·add_events, counts_as as Calls·counts_as, image_added as Calls·image_added, work_after_pulse as Calls·work_after_pulse}
use Rattle.pulse_laws.specs.Actions.{events_for as Actions·events_for, after_action as Actions·after_action, events_for_all as Actions·events_for_all, after_actions as Actions·after_actions, pulse_fits as Actions·pulse_fits, action_fits as Actions·action_fits, edits_path as Actions·edits_path, edits as Actions·edits, leaves as Actions·leaves, nothing_else_edits as Actions·nothing_else_edits, adds_to as Actions·adds_to, pulses_of as Actions·pulses_of, pulses_added as Actions·pulses_added}
use Rattle.pulse_laws.specs.Claim.{but26 as Claim·but26}

unfoldable pub opened_pulse : Unit {0}
unfolding Pulse·record_of Pulse·distance_for Pulse·trailer_of Pulse·distance Pulse·count Pulse·total Pulse·record_place Pulse·preamble Pulse·valve_at Pulse·zero_at Pulse·ticks_at Pulse·pulse_at Pulse·pulses_in Pulse·record_right Pulse·ticks_below Pulse·is_pulse_stream Added·longer Added·trailer_place Added·tail Added·with_pulse Calls·contents_at Calls·reader_answer Calls·pulses_answer Calls·summary_answer Calls·record_answer Calls·ticks_answer Calls·grow_answer Calls·add_answer Calls·number_alone Calls·summary_given Calls·pulse_given Calls·summary_reply Calls·record_reply Calls·add_reply Calls·grown Calls·add_events Calls·counts_as Calls·image_added Calls·work_after_pulse Actions·events_for Actions·after_action Actions·events_for_all Actions·after_actions Actions·pulse_fits Actions·action_fits Actions·edits_path Actions·edits Actions·leaves Actions·nothing_else_edits Actions·adds_to Actions·pulses_of Actions·pulses_added Claim·but26
opened_pulse = tt
