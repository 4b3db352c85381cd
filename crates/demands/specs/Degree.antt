-- Degree missing, by document 02, (iv), settled on the definitions themselves: in any state, and on messages.
-- Assumes nothing.
use Rattle.std.specs.Prelude.{ℕ, ◌≡◌, List, [], ◌++◌, Ok, Err}
use Rattle.words.specs.Words.{bytes}
use Rattle.lines.specs.declared.Sides.{Sides}
use Rattle.lines.specs.declared.Form.TheVariants.{Oem}
use Rattle.step.specs.Step.{part, assign_of, meta_of}
use Rattle.step.specs.declared.State.{State}
use Rattle.reasons.specs.declared.Reason.TheVariants as Reasons
use Rattle.judge.specs.Message.{judge_of, refused}
use Rattle.demands.specs.Sixty.{head_of, until_stop, from_meta_stop, plain}

-- ---- messages

-- a segment with these lines from its eleventh on, between STOP_TIME and META_STOP
abbrev pub segment_with : List ℕ → List ℕ
segment_with lines = until_stop "UTC" plain plain plain plain ++ lines ++ from_meta_stop plain

-- the ephemeris of one such segment: the lines from its fourteenth on
abbrev pub oem_with : List ℕ → List ℕ
oem_with lines = head_of plain ++ segment_with lines

abbrev pub method : List ℕ
method = bytes "INTERPOLATION=Hermite\n"

abbrev pub degree : List ℕ
degree = bytes "INTERPOLATION_DEGREE=7\n"

abbrev pub remark : List ℕ
remark = bytes "COMMENT\n"

-- ---- the statement

-- "INTERPOLATION_DEGREE without INTERPOLATION is now ORDER at its line, and INTERPOLATION without a degree is ORDER at META_STOP."
-- 42 is INTERPOLATION and 44 META_STOP; `last` is the code of the line before, comments and blank lines aside.
abbrev pub Tied : Type 0
Tied =
    ((st : State) (x : Sides) (s : List ℕ) → st.form ≡ Oem → part x.keyword s ≡ bytes "INTERPOLATION_DEGREE" → (st.last ≡ 42 → ⊥)
    → assign_of st x s ≡ Err Reasons.Order)
    × ((st : State) (n : ℕ) → st.form ≡ Oem → st.last ≡ 42 → meta_of st 44 n ≡ Err Reasons.Order)

-- both or neither stand
abbrev pub Standing : Type 0
Standing =
    (judge_of (oem_with (method ++ degree)) 1 ≡ Ok 23)
    × (judge_of (oem_with []) 1 ≡ Ok 21)
    × (judge_of (oem_with (method ++ remark ++ degree)) 1 ≡ Ok 24)

-- the degree alone is ORDER at its line, INTERPOLATION alone at META_STOP's; a comment makes up for neither
abbrev pub Alone : Type 0
Alone =
    (judge_of (oem_with degree) 1 ≡ refused Reasons.Order 14)
    × (judge_of (oem_with method) 1 ≡ refused Reasons.Order 15)
    × (judge_of (oem_with (remark ++ degree)) 1 ≡ refused Reasons.Order 15)
    × (judge_of (oem_with (method ++ remark)) 1 ≡ refused Reasons.Order 16)

-- the other way about, and either of them twice
abbrev pub OutOfTurn : Type 0
OutOfTurn =
    (judge_of (oem_with (degree ++ method)) 1 ≡ refused Reasons.Order 14)
    × (judge_of (oem_with (method ++ method ++ degree)) 1 ≡ refused Reasons.Order 15)
    × (judge_of (oem_with (method ++ degree ++ degree)) 1 ≡ refused Reasons.Order 16)

-- a segment goes by its own lines
abbrev pub BySegment : Type 0
BySegment =
    (judge_of (oem_with (method ++ degree) ++ segment_with []) 1 ≡ Ok 41)
    × (judge_of (oem_with (method ++ degree) ++ segment_with degree) 1 ≡ refused Reasons.Order 28)
    × (judge_of (oem_with [] ++ segment_with method) 1 ≡ refused Reasons.Order 27)

abbrev pub Degree : Type 0
Degree = Tied × Standing × Alone × OutOfTurn × BySegment
