-- The marked values hold by computation on the definitions.
-- Assumes nothing.
use mathlib.Core.Path.{refl}
use Rattle.words.specs.Words.{bytes, agrees, run, is_word}
use Rattle.values.specs.Number.{sign_len, is_exponent, ends_number, after_whole, is_number, digits_from, integer_top, is_integer}
use Rattle.epochs.specs.Epoch.{is_leap, month_days, days_before, month_day, year_day, last_second, is_clock, is_fraction, timed_of, epoch_of}
use Rattle.grammar.specs.Rows.{pick}
use Rattle.spoken.specs.Saying.{mark_at, said_from, words_by}
use Rattle.spoken.specs.Way.{epoch_way, way_in, way_of}
use Rattle.spoken.specs.Spoken.{fitted, spoken_by, words_in}
use Rattle.heard.specs.Marked.{Numbers, Epochs, Texts, Wrong, Marked}

numbers : Numbers
unfolding bytes run sign_len is_exponent ends_number after_whole is_number digits_from integer_top is_integer pick mark_at said_from words_by way_in way_of fitted spoken_by words_in
numbers = ((refl, refl), (refl, refl), (refl, refl), (refl, refl), (refl, refl), (refl, refl))

epochs : Epochs
unfolding bytes agrees run is_leap month_days days_before month_day year_day last_second is_clock is_fraction timed_of epoch_of pick mark_at said_from words_by epoch_way way_in way_of fitted spoken_by words_in
epochs = ((refl, refl), (refl, refl), (refl, refl))

texts : Texts
unfolding bytes agrees is_word run pick mark_at said_from words_by way_in way_of fitted spoken_by words_in
texts = ((refl, refl), (refl, refl), (refl, refl), (refl, refl))

wrong : Wrong
unfolding bytes agrees is_word run sign_len is_exponent ends_number after_whole is_number digits_from integer_top is_integer timed_of epoch_of pick mark_at said_from words_by epoch_way way_in way_of fitted spoken_by
wrong = (refl, refl, refl, refl, refl, refl, refl, refl, refl, refl, refl, refl)

pub marked : Marked
marked = (numbers, epochs, texts, wrong)
