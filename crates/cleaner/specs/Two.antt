-- The two sentences that Overlap compares, as they are found in an image.
use Rattle.std.specs.Prelude.{ℕ, ◌-◌, ◌≤◌, ◌≡◌, List, [], length, take, drop, Result, Ok, Err}
use Rattle.program.specs.Sentences.{Sentence}
use Rattle.program.specs.declared.Refusal.{Refusal}
use Rattle.image.specs.Parts.{Stands}
use Rattle.answers.specs.Answers.{overlap_answer, compare_patterns}
use Rattle.answers.specs.ExpressionAnswers.{expression_answer, share_patterns}
use Rattle.cleaner.specs.Parts.{PatternFrom}
use Rattle.cleaner.specs.Shared.{leaving}

-- The sentence after n of xs stands at p of b, or there is none.
abbrev pub Finds : List ℕ → List Sentence → ℕ → Result ℕ Refusal → Type 0
Finds b xs n (Ok p) = Stands b p xs n
Finds b xs n (Err f) = (drop n xs ≡ []) × (f ≡ record { number = 13; place = 0 })

-- The body of an image.
abbrev pub body : List ℕ → List ℕ
body image = take (length image - 12) image

-- The sentences stand at p and q of the body, and their patterns are what is compared.
pub record TwoFound (image : List ℕ) (first second p q : ℕ) : Type 0 where
  pub x : PatternFrom (body image) p
  pub y : PatternFrom (body image) q
  pub least : 12 ≤ length image
  pub most : length image ≤ 32768
  pub compares : overlap_answer image first second ≡ compare_patterns x.terms y.terms
  pub shares : (lent : List ℕ) → expression_answer image first second lent ≡ share_patterns x.terms y.terms lent

-- The image is refused, or a sentence is not there.
pub record NotFound (image : List ℕ) (first second : ℕ) (f : Refusal) : Type 0 where
  pub compares : overlap_answer image first second ≡ Err f
  pub shares : (lent : List ℕ) → expression_answer image first second lent ≡ leaving (Err f) lent
