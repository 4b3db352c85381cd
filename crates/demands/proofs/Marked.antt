-- The marked cases hold by computation on the definitions.
-- Assumes nothing.
use Prim.Native.Nat.{ℕ}
use mathlib.Core.Path.{◌≡◌, refl, ap, ◌∙◌}
use mathlib.Core.Bool.{Bool, true, false, ◌||◌, false≢true}
use mathlib.Core.List.{List, [], ◌∷◌, Memᴰ}
use lib.Dec.{eqb}
use borrow.Author.Tests.{eqb-true}
use Rattle.words.specs.Words.{bytes, agrees, run, is_word}
use Rattle.lines.specs.Feed.{last_line, lines_from, lines_before}
use Rattle.lines.specs.Text.{cut_end, trim_of, heads, heading_of, word_ends, comment_of, sides_of, assignment_of, field_then, fields_from, field_more, gathered}
use Rattle.values.specs.Number.{sign_len, is_exponent, ends_number, after_whole, is_number, digits_from, integer_top, is_integer}
use Rattle.epochs.specs.Epoch.{is_leap, month_days, days_before, month_day, year_day, last_second, is_clock, is_fraction, timed_of, epoch_of, is_before}
use Rattle.grammar.specs.Rows.{pick}
use Rattle.keywords.specs.Keywords.{keywords, code_in}
use Rattle.grammar.specs.Keywords.{keyword_of, is_unit}
use Rattle.grammar.specs.Order.{next_of, allows}
use Rattle.lines.specs.declared.Form.{Form}
use Rattle.lines.specs.declared.Form.TheVariants.{Oem}
use Rattle.grammar.proofs.Laws.{below, comes_only, next_only}
use Rattle.step.specs.Step.{sixty_stands, is_timely, are_numbers, data_at, data_of, fields_of, past_whole, whole_of, number_of, past_time, is_early, time_of, value_of, assign_of, meta_code, meta_of, plain_of, past_comment, uncommented_of, filled_of, step_of}
use Rattle.judge.specs.Message.{from_heading, headings, up_to, message_of, end_of, judge_texts, judge_lines, judge_of, group_of, rows_at, rows_from, rows_lines}
use Rattle.desk.specs.Placing.{desk_after, place_of}
use Rattle.tables.specs.Table.{entry_bytes, table_bytes}
use Rattle.rows.specs.Filled.{room_for}
use Rattle.parts.specs.Parts.{sides_in, keyword_part, value_in, kind_in, first_wrong, data_part, value_part, unit_part, offending}
use Rattle.explain.specs.Codes as Codes
use Rattle.explain.specs.Codes.{those, code_more, codes_of, codes_for}
use Rattle.explain.specs.Explain.{blamed, ended, explain_from, explain_lines, explain_of}
use Rattle.demands.specs.Sixty.{epoch_stands, sixty, InAnyState, Sixty}
use Rattle.demands.specs.Degree.{Tied, Degree}
use Rattle.demands.specs.Marked.{Marked}
use Rattle.demands.specs.Healing.{Met}
use Rattle.demands.specs.Refusals.{Refusals}
use Rattle.std.specs.Prelude.{Some, None}

-- membership by a test that computes
unfoldable has : ℕ → List ℕ → Bool
has q [] = false
has q (x ∷ xs) = eqb q x || has q xs

mem_of : (q : ℕ) (xs : List ℕ) → has q xs ≡ true → Memᴰ q xs
unfolding has
mem_of q [] e = absurd (false≢true e)
mem_of q (x ∷ xs) e = go (eqb q x) refl e (mem_of q xs)
  where
    go : (t : Bool) → eqb q x ≡ t → t || has q xs ≡ true → (has q xs ≡ true → Memᴰ q xs) → Memᴰ q (x ∷ xs)
    go true c r f = Memᴰ.head (eqb-true q x c)
    go false c r f = Memᴰ.tail (f r)

-- ---- second 60, for any who ask and in any state

sixty-one : (may : Bool) → epoch_stands may "2016-12-31T23:59:61" ≡ false
unfolding bytes agrees is_leap month_days days_before month_day last_second is_clock is_fraction timed_of epoch_of
sixty-one true = refl
sixty-one false = refl

no_sixty : (v : List ℕ) (may : Bool) → v ≡ bytes sixty → may ≡ false → epoch_of v may ≡ None
unfolding bytes agrees is_leap month_days days_before month_day last_second is_clock is_fraction timed_of epoch_of
no_sixty v may e n = ap (λ (w : List ℕ). epoch_of w may) e ∙ ap (epoch_of (bytes sixty)) n

any_state : InAnyState
unfolding past_whole time_of data_of
any_state = (
  (λ st v. refl),
  (λ st c p s n u e. rw (no_sixty _ (sixty_stands st c) e (rw n u), time_of)),
  (λ st f s h u e. rw (h, data_of) (rw (no_sixty _ (sixty_stands st 9) e u))),
)

-- ---- INTERPOLATION and its degree, in any state

degree_named : (g : Form) (w : List ℕ) → g ≡ Oem → w ≡ bytes "INTERPOLATION_DEGREE" → keyword_of g w ≡ Some 43
unfolding bytes agrees is_word keywords code_in pick keyword_of
degree_named g w f e = rw (f, e)

-- a degree comes next behind INTERPOLATION alone
degree_next : (g : Form) → g ≡ Oem → comes_only g 43 42 ≡ true
unfolding next_of allows pick below comes_only
degree_next g f = rw f

stop_next : (g : Form) (n : ℕ) → g ≡ Oem → n ≡ 42 → allows (next_of g n) 44 ≡ false
unfolding next_of allows pick
stop_next g n f e = rw (f, e)

tied : Tied
unfolding assign_of meta_of
tied = (
  (λ st x s f e h. rw (degree_named st.form _ f e, next_only st.form 43 42 (degree_next st.form f) st.last h, assign_of)),
  (λ st n f e. rw (stop_next st.form st.last f e, meta_of)),
)

-- one declaration, so that the definitions are opened once
both : Marked × Met × Refusals
unfolding has bytes agrees run is_word last_line lines_from lines_before cut_end trim_of heads heading_of word_ends comment_of sides_of assignment_of field_then fields_from field_more gathered sign_len is_exponent ends_number after_whole is_number digits_from integer_top is_integer is_leap month_days days_before month_day year_day last_second is_clock is_fraction timed_of epoch_of is_before pick keywords code_in keyword_of is_unit next_of allows is_timely are_numbers data_at data_of fields_of past_whole whole_of number_of past_time is_early time_of value_of assign_of meta_code meta_of plain_of past_comment uncommented_of filled_of step_of from_heading headings up_to message_of end_of judge_texts judge_lines judge_of group_of rows_at rows_from rows_lines room_for desk_after place_of entry_bytes table_bytes sides_in keyword_part value_in kind_in first_wrong data_part value_part unit_part offending those code_more Codes.gathered codes_of codes_for blamed ended explain_from explain_lines explain_of
both =
    let sixties : Sixty = (
      (refl, refl, refl, refl, refl, (λ b. refl), (λ b. refl), sixty-one),
      (refl, refl, refl, refl, refl),
      any_state,
      (refl, refl, refl, refl),
      (refl, refl, refl, refl, refl, refl, refl, refl, refl, refl, refl),
      (refl, refl, refl, refl, refl, refl),
      (refl, refl, refl),
    ) in
    let degrees : Degree = (tied, (refl, refl, refl), (refl, refl, refl, refl), (refl, refl, refl), (refl, refl, refl)) in (
      ((λ b. refl), (λ b. refl), (λ b. refl), (λ b. refl), (λ b. refl), sixties, refl, refl, refl, refl, refl, degrees, refl, refl, refl, refl, refl, refl, refl, refl, refl, refl, refl, refl, refl),
      (mem_of 2 _ refl, mem_of 22 _ refl, refl, refl, refl, refl, refl, refl),
      ((refl, refl, refl), (refl, refl, refl, refl, refl, refl, refl, refl), (refl, refl, refl, refl, refl), refl, refl),
    )

pub marked : Marked
marked = both.0

-- the hypotheses of demand 3 can be met
pub met : Met
met = both.1

-- each reason explained
pub refusals : Refusals
refusals = both.2
