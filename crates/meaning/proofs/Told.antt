-- Events one after another: their bytes are in a row, and what follows stands behind them.
use Prim.Native.Nat.{ℕ, ◌+◌}
use mathlib.Core.Path.{◌≡◌, refl, sym, ap, ◌∙◌}
use mathlib.Core.List.{List, [], ◌∷◌, ◌++◌, append-nil}
use lib.ListN.{length, length-append}
use Rattle.program.specs.Bytes.{put_name}
use Rattle.program.specs.Encode.{put_head, put_terms, put_conditions}
use Rattle.program.proofs.Splits.{Splits, splits-after, splits_cons, head-splits, spanned-splits, terms-splits, conditions-splits}
use Rattle.patterns.specs.Marks.{zero_span, put_expression}
use Rattle.patterns.proofs.Marks.{expression-splits}
use Rattle.meaning.specs.Spanless.{no_head}
use Rattle.meaning.specs.Run.{Event, entered, chosen}
use Rattle.meaning.specs.Records.{put_event, put_events, event_bytes}

event_splits : (e : Event) → Splits (put_event e)
unfolding put_event put_name
event_splits (entered f v) k =
    spanned-splits 8 zero_span (λ l. put_name f (put_expression v (15 ∷ l)))
    (splits-after (put_name f) (λ l. put_expression v (15 ∷ l)) (λ l. ap (λ (x : List ℕ). length f ∷ (x ++ l)) (sym (append-nil f)))
    (splits-after (put_expression v) (λ l. 15 ∷ l) (expression-splits v) (λ l. refl))) k
event_splits (chosen p c r) k =
    splits-after (put_head no_head) (λ l. put_terms p (put_conditions c (12 ∷ put_terms r l))) (head-splits no_head)
    (splits-after (put_terms p) (λ l. put_conditions c (12 ∷ put_terms r l)) (terms-splits p)
    (splits-after (put_conditions c) (λ l. 12 ∷ put_terms r l) (conditions-splits c) (splits_cons 12 (put_terms r) (terms-splits r)))) k

pub events-splits : (l : List Event) → Splits (put_events l)
unfolding put_events
events-splits [] k = refl
events-splits (e ∷ l) k = splits-after (put_event e) (put_events l) (event_splits e) (events-splits l) k

-- The events' bytes, and those behind them.
pub events-length : (l : List Event) (k : List ℕ) → length (put_events l k) ≡ event_bytes l + length k
unfolding event_bytes
events-length l k = ap length (events-splits l k) ∙ length-append (put_events l []) k
