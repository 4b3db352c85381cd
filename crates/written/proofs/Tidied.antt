-- The two messages are written out so by computation on the definitions.
-- Assumes nothing.
use mathlib.Core.Path.{refl}
use Rattle.words.specs.Words.{bytes, agrees, run, is_word}
use Rattle.lines.specs.Feed.{last_line, lines_from}
use Rattle.lines.specs.Text.{cut_end, trim_of, heads, heading_of, word_ends, comment_of, sides_of, assignment_of, field_then, fields_from, field_more, gathered}
use Rattle.values.specs.Number.{sign_len, is_exponent, ends_number, after_whole, is_number, digits_from, integer_top, is_integer}
use Rattle.epochs.specs.Epoch.{is_leap, month_days, days_before, month_day, year_day, last_second, is_clock, is_fraction, timed_of, epoch_of, is_before}
use Rattle.grammar.specs.Rows.{pick}
use Rattle.keywords.specs.Keywords.{keywords, code_in}
use Rattle.grammar.specs.Keywords.{keyword_of, is_unit}
use Rattle.grammar.specs.Order.{next_of, allows}
use Rattle.step.specs.Step.{is_timely, are_numbers, data_at, data_of, fields_of, past_whole, whole_of, number_of, past_time, is_early, time_of, value_of, assign_of, meta_code, meta_of, plain_of as plainLineOf, past_comment, uncommented_of, filled_of, step_of}
use Rattle.judge.specs.Message.{from_heading, up_to, message_of, group_of, rows_at, rows_from, rows_lines}
use Rattle.write.specs.Plain.{word_in, lead_of, is_field, words_of, parting_of, behind, plain, type_of, plain_of}
use Rattle.written.specs.Tidied.{Tidied}

pub tidied : Tidied
unfolding bytes agrees run is_word last_line lines_from cut_end trim_of heads heading_of word_ends comment_of sides_of assignment_of field_then fields_from field_more gathered sign_len is_exponent ends_number after_whole is_number digits_from integer_top is_integer is_leap month_days days_before month_day year_day last_second is_clock is_fraction timed_of epoch_of is_before pick keywords code_in keyword_of is_unit next_of allows is_timely are_numbers data_at data_of fields_of past_whole whole_of number_of past_time is_early time_of value_of assign_of meta_code meta_of plainLineOf past_comment uncommented_of filled_of step_of from_heading up_to message_of group_of rows_at rows_from rows_lines word_in lead_of is_field words_of parting_of behind plain type_of plain_of
tidied = (refl, refl)
