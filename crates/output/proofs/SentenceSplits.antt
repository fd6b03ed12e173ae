-- The same of a sentence.
use mathlib.Core.List.{◌∷◌}
use Rattle.program.specs.Sentences.{Sentence}
use Rattle.program.specs.Encode.{put_head, put_terms, put_conditions}
use Rattle.program.proofs.Splits.{Splits, splits-after, splits_cons, head-splits, terms-splits, conditions-splits}
use Rattle.image.specs.Parts.{put_sentence}

pub sentence-splits : (x : Sentence) → Splits (put_sentence x)
unfolding put_sentence
sentence-splits x k =
    splits-after (put_head x.head) (λ l. put_terms x.pattern (put_conditions x.conditions (12 ∷ put_terms x.result l))) (head-splits x.head)
    (splits-after (put_terms x.pattern) (λ l. put_conditions x.conditions (12 ∷ put_terms x.result l)) (terms-splits x.pattern)
    (splits-after (put_conditions x.conditions) (λ l. 12 ∷ put_terms x.result l) (conditions-splits x.conditions)
    (splits_cons 12 (put_terms x.result) (terms-splits x.result)))) k
