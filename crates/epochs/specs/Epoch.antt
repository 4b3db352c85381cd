-- Epochs and their instants, by document 01, "Values", and document 02, (ii). A value is the list of its bytes; sixty says whether second 60 may stand.
-- Assumes nothing.
use Rattle.std.specs.Prelude.{ℕ, zero, suc, ◌+◌, ◌-◌, ◌*◌, ◌%◌, List, [], ◌∷◌, Bool, true, false, not, ◌&&◌, ◌||◌, eqb, leb, ltb, get_or, drop, Option, Some, None}
use Rattle.words.specs.Words.{bytes, agrees, is_digit}
use Rattle.values.specs.Number.{is_digits}
use Rattle.epochs.specs.declared.Instant.{Instant}

-- a shape's `0` is any digit, and every other byte is itself
abbrev pub fits : ℕ → ℕ → Bool
fits p b = (eqb p 48 && is_digit b) || (not (eqb p 48) && eqb p b)

-- the text begins with the shape
abbrev pub shaped : List ℕ → List ℕ → Bool
shaped w s = agrees (λ p b. fits p b) w s

-- the digit at a place, 0 past the end
abbrev pub digit_at : List ℕ → ℕ → ℕ
digit_at s i = get_or s i 0 - 48

-- two digits from a place on
abbrev pub two_at : List ℕ → ℕ → ℕ
two_at s i = digit_at s i * 10 + digit_at s (i + 1)

-- "Gregorian leap years"
unfoldable pub is_leap : ℕ → Bool
is_leap y = eqb (y % 400) 0 || (not (eqb (y % 100) 0) && eqb (y % 4) 0)

-- how many days a month has; none where there is no such month
unfoldable pub month_days : Bool → ℕ → ℕ
month_days leap m = get_or (0 ∷ 31 ∷ elim leap [ true ↦ 29 | false ↦ 28 ] ∷ 31 ∷ 30 ∷ 31 ∷ 30 ∷ 31 ∷ 31 ∷ 30 ∷ 31 ∷ 30 ∷ 31 ∷ []) m 0

-- how many days of a year stand before a month: those of the months before it
unfoldable pub days_before : Bool → ℕ → ℕ
days_before leap zero = 0
days_before leap (suc m) = days_before leap m + month_days leap m

-- the day of the year that is day d of month m, where there is such a day
unfoldable pub month_day : Bool → ℕ → ℕ → Option ℕ
month_day leap m d = elim (leb 1 d && leb d (month_days leap m)) [ true ↦ Some (days_before leap m + d) | false ↦ None ]

-- day d of the year, where there is such a day
unfoldable pub year_day : Bool → ℕ → Option ℕ
year_day leap d = elim (leb 1 d && leb d (elim leap [ true ↦ 366 | false ↦ 365 ])) [ true ↦ Some d | false ↦ None ]

-- "YYYY"
abbrev pub year_at : List ℕ → ℕ
year_at s = two_at s 0 * 100 + two_at s 2

-- a minute's last second: "Second 60 is now right at 23:59, on any date", where "Whoever has an epoch read" says that it may stand
unfoldable pub last_second : ℕ → ℕ → Bool → ℕ
last_second hour minute sixty = elim (eqb hour 23 && (eqb minute 59 && sixty)) [ true ↦ 60 | false ↦ 59 ]

-- "hh:mm:ss" from a place on: "hours 00-23, minutes and seconds 00-59", and second 60 where it may stand
unfoldable pub is_clock : List ℕ → ℕ → Bool → Bool
is_clock s at sixty =
    let hour = two_at s at in
    let minute = two_at s (at + 3) in
    leb hour 23 && (leb minute 59 && leb (two_at s (at + 6)) (last_second hour minute sixty))

abbrev pub second_at : List ℕ → ℕ → ℕ
second_at s at = (two_at s at * 60 + two_at s (at + 3)) * 60 + two_at s (at + 6)

-- "then nothing or a period and 1 to 9 digits"
unfoldable pub is_fraction : List ℕ → Bool
is_fraction [] = true
is_fraction (b ∷ s) = eqb b 46 && is_digits 1 9 s

-- nine digits of a fraction from a place on, those past the end 0: "trailing fraction zeros don't matter"
abbrev pub nano_at : List ℕ → ℕ → ℕ
nano_at s at =
    two_at s at * 10000000 + two_at s (at + 2) * 100000 + two_at s (at + 4) * 1000 + two_at s (at + 6) * 10 + digit_at s (at + 8)

-- the instant of a day of the year, with the clock from a place on: "Years 0001 to 9999"
unfoldable pub timed_of : List ℕ → Option ℕ → ℕ → Bool → Option Instant
timed_of s None at sixty = None
timed_of s (Some day) at sixty =
    elim (leb 1 (year_at s) && (is_clock s at sixty && is_fraction (drop (at + 8) s))) [
      | true ↦ Some (record { day = year_at s * 1000 + day; second = second_at s at; nano = nano_at s (at + 9) })
      | false ↦ None
    ]

-- "Epoch (2, 9, 29, 38-41): `YYYY-MM-DDThh:mm:ss` or `YYYY-DDDThh:mm:ss`, then nothing or a period and 1 to 9 digits"
unfoldable pub epoch_of : List ℕ → Bool → Option Instant
epoch_of s sixty =
    elim (shaped (bytes "0000-00-00T00:00:00") s) [
      | true ↦ timed_of s (month_day (is_leap (year_at s)) (two_at s 5) (two_at s 8)) 11 sixty
      | false ↦
          elim (shaped (bytes "0000-000T00:00:00") s) [
            | true ↦ timed_of s (year_day (is_leap (year_at s)) (two_at s 5 * 10 + digit_at s 7)) 9 sixty
            | false ↦ None
          ]
    ]

-- "Both epoch forms compare by the instant"; "Epochs compare by day, then second of day up to 86,400, then fraction."
unfoldable pub is_before : Instant → Instant → Bool
is_before a b =
    ltb a.day b.day
    || (eqb a.day b.day && (ltb a.second b.second || (eqb a.second b.second && ltb a.nano b.nano)))
