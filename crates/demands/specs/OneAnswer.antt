-- "Any bytes, any ticket, any message number get an answer, and no caller has to check first.": that there is an answer is what the proof of each entry
-- point says, and none asks anything by a `requires`. Here: its promise leaves one, so what two runs on the same input hand back, and leave in the
-- table or the buffer, is the same.
-- Assumes nothing.
use Rattle.std.specs.Prelude.{ℕ, ◌≡◌, List, length, Result, ⊤, ℤ}
use Rattle.judge.specs.Message.{judge_of, count_of}
use Rattle.desk.specs.Placing.{place_of, place_table, read_of, part_heard}
use Rattle.desk.specs.declared.Desk.{Desk}
use Rattle.desk.specs.declared.Ticket.{Ticket}
use Rattle.desk.specs.declared.Placed.{Placed}
use Rattle.tables.specs.Widths.{widen_of, widened, narrow_of, narrowed}
use Rattle.write.specs.Plain.{plain_of}
use Rattle.write.specs.Written.{written_of, buffer_after}
use Rattle.explain.specs.Explain.{explain_of}
use Rattle.explain.specs.declared.Explained.{Explained}
use Rattle.rounding.specs.Say.{say_of}
use Rattle.spoken.specs.Spoken.{spoken_of, words_of, buffer_after as wordsAfter}
use Rattle.reasons.specs.declared.Reason.{Reason}
use Rattle.judge.specs.declared.Refusal.{Refusal}
use Rattle.judge.specs.declared.Row.{Row}

-- two answers that meet a promise are the same
abbrev pub One : {A : Type 0} → (A → Type 0) → Type 0
One {A} promise = (a b : A) → promise a → promise b → a ≡ b

abbrev pub OneAnswer : Type 0
OneAnswer =
    ((f : List ℕ) → One {A = Result ℕ Reason} (λ r. r ≡ count_of f))
    × ((f : List ℕ) (k : ℕ) → One {A = Result ℕ Refusal} (λ r. r ≡ judge_of f k))
    × ((d : Desk) (f : List ℕ) (k : ℕ) (t : List ℕ) → One {A = Placed} (λ r. r ≡ place_of d f k (length t)))
    × ((d : Desk) (f : List ℕ) (k : ℕ) (t : List ℕ) → One {A = List ℕ} (λ u. u ≡ place_table d f k t))
    × ((d : Desk) (k : Ticket) (f t : List ℕ) → One {A = Result Row Reason} (λ r. r ≡ read_of d k f t))
    × ((d : Desk) (k : Ticket) (f t : List ℕ) → One {A = List ℕ} (λ v. v ≡ part_heard (read_of d k f t) f))
    × ((f : List ℕ) (k : ℕ) (b : List ℕ) → One {A = Result ℕ Refusal} (λ r. r ≡ written_of f k (length b)))
    × ((f : List ℕ) (k : ℕ) (b : List ℕ) → One {A = List ℕ} (λ c. c ≡ buffer_after (written_of f k (length b)) (plain_of f k) b))
    × ((f : List ℕ) (k : ℕ) → One {A = Explained} (λ r. r ≡ explain_of f k))
    × ((s : List ℕ) (decimals : ℕ) → One {A = Result ℤ Reason} (λ r. r ≡ say_of s decimals))
    × ((c : ℕ) (v b : List ℕ) → One {A = Result ℕ Reason} (λ r. r ≡ spoken_of c v (length b)))
    × ((c : ℕ) (v b : List ℕ) → One {A = List ℕ} (λ w. w ≡ wordsAfter (spoken_of c v (length b)) (words_of c v) b))
    × ((t u : List ℕ) → One {A = Result ⊤ Reason} (λ r. r ≡ widen_of t u))
    × ((t u : List ℕ) → One {A = List ℕ} (λ x. x ≡ widened t u))
    × ((u t : List ℕ) → One {A = Result ⊤ Reason} (λ r. r ≡ narrow_of u t))
    × ((u t : List ℕ) → One {A = List ℕ} (λ x. x ≡ narrowed u t))
