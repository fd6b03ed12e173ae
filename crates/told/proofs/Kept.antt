-- Where every sentence is kept, the program is the same.
use Prim.Native.Nat.{ℕ, suc, ◌+◌, ◌<◌}
use native.Mathlib.Omega.{arith}
use mathlib.Core.Path.{◌≡◌, refl, ap, ap₂, ◌∙◌}
use mathlib.Core.Bool.{Bool, true, cond}
use mathlib.Core.List.{List, [], ◌∷◌}
use Rattle.program.specs.Syntax.{Sentences, Function, Program}
use Rattle.program.specs.Encode.{sentence_count, own_sentence_count}
use Rattle.told.specs.Kept.{kept_sentences, kept_function, kept_functions, kept_program}

all-sentences : (b : Sentences) (keep : ℕ → Bool) (i : ℕ) → ((j : ℕ) → j < i + sentence_count b → keep j ≡ true) → kept_sentences keep i b ≡ b
unfolding kept_sentences sentence_count
all-sentences Sentences.empty keep i h = refl
all-sentences (Sentences.sentence a p c r b) keep i h =
    ap (λ (t : Bool). cond t (Sentences.sentence a p c r (kept_sentences keep (suc i) b)) (kept_sentences keep (suc i) b)) (h i (omega arith))
    ∙ ap (Sentences.sentence a p c r) (all-sentences b keep (suc i) (λ j l. h j (omega (arith, l))))

all-functions : (fs : List Function) (keep : ℕ → Bool) (i : ℕ) → ((j : ℕ) → j < i + own_sentence_count fs → keep j ≡ true) → kept_functions keep i fs ≡ fs
unfolding kept_functions kept_function own_sentence_count
all-functions [] keep i h = refl
all-functions (f ∷ fs) keep i h =
    ap (λ (b : Sentences). record { span = f.span; visibility = f.visibility; name = f.name; sentences = b } ∷ kept_functions keep (i + sentence_count f.sentences) fs) (all-sentences f.sentences keep i (λ j l. h j (omega (arith, l))))
    ∙ ap (λ (l : List Function). f ∷ l) (all-functions fs keep (i + sentence_count f.sentences) (λ j l. h j (omega (arith, l))))

pub all-kept : (keep : ℕ → Bool) (w : Program) → ((j : ℕ) → j < own_sentence_count w.functions → keep j ≡ true) → kept_program keep w ≡ w
unfolding kept_program
all-kept keep w h = ap (λ (fs : List Function). record { declarations = w.declarations; functions = fs }) (all-functions w.functions keep 0 (λ j l. h j (omega (arith, l))))

-- Only the marks of its sentences matter.
same-sentences : (b : Sentences) (keep next : ℕ → Bool) (i : ℕ) → ((j : ℕ) → j < i + sentence_count b → keep j ≡ next j) → kept_sentences keep i b ≡ kept_sentences next i b
unfolding kept_sentences sentence_count
same-sentences Sentences.empty keep next i h = refl
same-sentences (Sentences.sentence a p c r b) keep next i h =
    ap₂ (λ (t : Bool) (s : Sentences). cond t (Sentences.sentence a p c r s) s) (h i (omega arith)) (same-sentences b keep next (suc i) (λ j l. h j (omega (arith, l))))

same-functions : (fs : List Function) (keep next : ℕ → Bool) (i : ℕ) → ((j : ℕ) → j < i + own_sentence_count fs → keep j ≡ next j) → kept_functions keep i fs ≡ kept_functions next i fs
unfolding kept_functions kept_function own_sentence_count
same-functions [] keep next i h = refl
same-functions (f ∷ fs) keep next i h =
    ap₂ (λ (b : Sentences) (l : List Function). record { span = f.span; visibility = f.visibility; name = f.name; sentences = b } ∷ l) (same-sentences f.sentences keep next i (λ j l. h j (omega (arith, l))))
    (same-functions fs keep next (i + sentence_count f.sentences) (λ j l. h j (omega (arith, l))))

pub kept_same : (keep next : ℕ → Bool) (w : Program) → ((j : ℕ) → j < own_sentence_count w.functions → keep j ≡ next j) → kept_program keep w ≡ kept_program next w
unfolding kept_program
kept_same keep next w h = ap (λ (fs : List Function). record { declarations = w.declarations; functions = fs }) (same-functions w.functions keep next 0 (λ j l. h j (omega (arith, l))))
