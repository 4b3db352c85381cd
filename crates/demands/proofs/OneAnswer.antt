-- A promise that is an equation leaves one answer.
-- Assumes nothing.
use mathlib.Core.Path.{◌≡◌, sym, ◌∙◌}
use Rattle.demands.specs.OneAnswer.{One, OneAnswer}

of_equation : {A : Type 0} (x : A) → One {A = A} (λ r. r ≡ x)
of_equation x a b p q = p ∙ sym q

pub one_answer : OneAnswer
one_answer = (
  (λ f. of_equation _),
  (λ f k. of_equation _),
  (λ d f k t. of_equation _),
  (λ d f k t. of_equation _),
  (λ d k f t. of_equation _),
  (λ d k f t. of_equation _),
  (λ f k b. of_equation _),
  (λ f k b. of_equation _),
  (λ f k. of_equation _),
  (λ s decimals. of_equation _),
  (λ c v b. of_equation _),
  (λ c v b. of_equation _),
  (λ t u. of_equation _),
  (λ t u. of_equation _),
  (λ u t. of_equation _),
  (λ u t. of_equation _),
)
