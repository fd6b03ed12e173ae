-- The walk over a body: the stack stays within its room, and the counts go along.
use Prim.Native.Nat.{ℕ, zero, suc, ◌+◌, ◌*◌, ◌-◌, ◌≤◌, ◌<◌}
use native.Mathlib.Omega.{arith}
use native.Mathlib.Nat.{zero-add}
use mathlib.Core.Path.{◌≡◌, refl, sym, ap, subst, ◌∙◌}
use mathlib.Core.Bool.{Bool, true, false}
use mathlib.Core.Logic.{◌⊎◌, inl, inr, ⊎_elim}
use mathlib.Core.List.{List, [], ◌∷◌}
use lib.ListN.{length, get_or, drop, length-drop}
use lib.Seq.{drop-cons, drop-drop}
use lib.Dec.{ltb, leb, eqb}
use borrow.Author.Tests.{eq-eqb, ne_eqb, ltb-true, eqb-true, eqb-false}
use Rattle.program.specs.Syntax.{Span, Head, Sentences, Program}
use Rattle.program.specs.Bytes.{get32, get_span, Bytes}
use Rattle.program.specs.Encode.{put_body, put_declarations, sentence_count, own_sentence_count}
use Rattle.program.specs.Limits.{pick, Mode, scalar}
use Rattle.program.specs.Automaton.{Stack, Values, Turn, wrong, spanned, nested, outside, Scan, scan, scanned, named, TermMark, term_mark, turn_terms, ConditionMark, condition_mark, turn_conditions, SentenceMark, sentence_mark, turn_sentences, ItemMark, item_mark, turn_function, turn_functions, turn_body, turn_names, turn_counted, turn_visibility, turn_code, turn, Read, made, follow, run}
use Rattle.reader.specs.Tally.{tally_of, functions_in, sentences_in, first_in, tally_in}
use Rattle.program.proofs.Sound.{IsSentenceMark, IsItemMark, sentence_mark-is, item_mark-is, encodings, sound}

-- How many frames lie on the bottom.
abbrev pub height : Stack → ℕ
height Stack.any = 0
height Stack.body = 0
height Stack.functions = 0
height (Stack.terms m d x) = suc (height x)
height (Stack.conditions d x) = suc (height x)
height (Stack.sentences d x) = suc (height x)
height (Stack.name g x) = suc (height x)
height (Stack.names n x) = suc (height x)
height (Stack.code x) = suc (height x)
height (Stack.visibility x) = suc (height x)
height (Stack.counted x) = suc (height x)

-- The room that the frames take, by the depth at each.
abbrev pub Fit : Stack → Type 0
Fit Stack.any = ⊥
Fit Stack.body = Unit {0}
Fit Stack.functions = Unit {0}
Fit (Stack.terms m d x) = (d ≤ 32) × (height x ≤ 4 * d + 3) × Fit x
Fit (Stack.conditions d x) = (d ≤ 32) × (height x ≤ 4 * d + 1) × Fit x
Fit (Stack.sentences d x) = (d ≤ 32) × (height x ≤ 4 * d) × Fit x
Fit (Stack.name g x) = (height x ≤ 140) × Fit x
Fit (Stack.names n x) = (height x ≤ 140) × Fit x
Fit (Stack.code x) = (height x ≤ 140) × Fit x
Fit (Stack.visibility x) = (height x ≤ 140) × Fit x
Fit (Stack.counted x) = (height x ≤ 140) × Fit x

pub fit_height : (x : Stack) → Fit x → height x ≤ 141
fit_height Stack.any h = absurd h
fit_height Stack.body h = omega arith
fit_height Stack.functions h = omega arith
fit_height (Stack.terms m d x) h = omega arith
fit_height (Stack.conditions d x) h = omega arith
fit_height (Stack.sentences d x) h = omega arith
fit_height (Stack.name g x) h = omega arith
fit_height (Stack.names n x) h = omega arith
fit_height (Stack.code x) h = omega arith
fit_height (Stack.visibility x) h = omega arith
fit_height (Stack.counted x) h = omega arith

-- P holds of what a turn goes on to.
abbrev Next : {A : Type 0} → ((y : Stack) → (Values y → A) → Type 0) → Turn A → Type 0
Next P (Turn.refuse n l) = Unit {0}
Next P (Turn.done a) = Unit {0}
Next P (Turn.go y k g) = P y g

module _ {A : Type 0} (P : (y : Stack) → (Values y → A) → Type 0) where
  pick_next : (t : Bool) (a b : Turn A) → (t ≡ true → Next P a) → (t ≡ false → Next P b) → Next P (pick t a b)
  pick_next true a b f g = f refl
  pick_next false a b f g = g refl

  spanned-next : (s : List ℕ) (f : Span → Turn A) → ((q : Span) → Next P (f q)) → Next P (spanned s f)
  unfolding spanned
  spanned-next s f h = pick_next (ltb (length s) 8) _ _ (λ e. tt) (λ e. pick_next (ltb (get32 s 4) (get32 s 0)) _ _ (λ e2. tt) (λ e2. h (get_span s 0)))

  nested-next : (d : ℕ) (s : List ℕ) (t : Turn A) → (d < 32 → Next P t) → Next P (nested d s t)
  unfolding nested wrong
  nested-next d s t h = pick_next (ltb d 32) _ _ (λ e. h (ltb-true d 32 e)) (λ e. tt)

  outside-next : (m : Mode) (s : List ℕ) (t : Turn A) → Next P t → Next P (outside m s t)
  unfolding outside wrong
  outside-next Mode.pattern s t h = tt
  outside-next Mode.result s t h = h

  scanned-next : (r : Scan) (t : Turn A) → Next P t → Next P (scanned r t)
  unfolding scanned
  scanned-next (Scan.refuse n l) t h = tt
  scanned-next Scan.good t h = h

  named-next : (g : Bool) (b : ℕ) (s : List ℕ) (t : Turn A) → Next P t → Next P (named g b s t)
  unfolding named wrong
  named-next g b s t h = pick_next (ltb 0 b) _ _ (λ e. pick_next (leb b 63) _ _ (λ e2. scanned-next (scan g b s) t h) (λ e2. tt)) (λ e. tt)

-- A turn keeps within the room.
fit_terms : (k : TermMark) (m : Mode) (d : ℕ) (x : Stack) (s : List ℕ) → Fit (Stack.terms m d x) → Next (λ y g. Fit y) (turn_terms k m d x s)
unfolding turn_terms wrong
fit_terms TermMark.other m d x s h = tt
fit_terms TermMark.character m d x s h = spanned-next (λ y g. Fit y) s _ (λ q. (omega arith, h))
fit_terms TermMark.bracket m d x s h = nested-next (λ y g. Fit y) d s _ (λ l. spanned-next (λ y g. Fit y) s _ (λ q. (omega arith, omega arith, h)))
fit_terms TermMark.call m d x s h = outside-next (λ y g. Fit y) m s _ (nested-next (λ y g. Fit y) d s _ (λ l. spanned-next (λ y g. Fit y) s _ (λ q. (omega arith, (omega arith, omega arith, h)))))
fit_terms TermMark.block m d x s h = outside-next (λ y g. Fit y) m s _ (nested-next (λ y g. Fit y) d s _ (λ l. spanned-next (λ y g. Fit y) s _ (λ q. (omega arith, omega arith, (omega arith, omega arith, h)))))
fit_terms TermMark.close m d x s h = h.2
fit_terms (TermMark.word w) m d x s h = spanned-next (λ y g. Fit y) s _ (λ q. (omega arith, h))

fit_conditions : (k : ConditionMark) (d : ℕ) (x : Stack) (s : List ℕ) → Fit (Stack.conditions d x) → Next (λ y g. Fit y) (turn_conditions k d x s)
unfolding turn_conditions wrong
fit_conditions ConditionMark.other d x s h = tt
fit_conditions ConditionMark.condition d x s h = spanned-next (λ y g. Fit y) s _ (λ q. (h.0, omega arith, (h.0, omega arith, h)))
fit_conditions ConditionMark.result d x s h = (h.0, omega arith, h.2)

fit_sentences : (k : SentenceMark) (d : ℕ) (x : Stack) (s : List ℕ) → Fit (Stack.sentences d x) → Next (λ y g. Fit y) (turn_sentences k d x s)
unfolding turn_sentences wrong
fit_sentences SentenceMark.other d x s h = tt
fit_sentences SentenceMark.sentence d x s h = spanned-next (λ y g. Fit y) s _ (λ q. (h.0, omega arith, (h.0, omega arith, h)))
fit_sentences SentenceMark.close d x s h = h.2

fit_functions : (k : ItemMark) (s : List ℕ) → Next (λ y g. Fit y) (turn_functions k s)
unfolding turn_functions turn_function wrong
fit_functions ItemMark.other s = tt
fit_functions ItemMark.declaration s = tt
fit_functions ItemMark.function s = spanned-next (λ y g. Fit y) s _ (λ q. (omega arith, (omega arith, (omega arith, omega arith, tt))))

fit_body : (k : ItemMark) (s : List ℕ) → Next (λ y g. Fit y) (turn_body k s)
unfolding turn_body turn_function wrong
fit_body ItemMark.other s = tt
fit_body ItemMark.declaration s = spanned-next (λ y g. Fit y) s _ (λ q. (omega arith, tt))
fit_body ItemMark.function s = spanned-next (λ y g. Fit y) s _ (λ q. (omega arith, (omega arith, (omega arith, omega arith, tt))))

fit_names : (n b : ℕ) (x : Stack) (s : List ℕ) → Fit (Stack.names n x) → Next (λ y g. Fit y) (turn_names n b x s)
unfolding turn_names
fit_names zero b x s h = named-next (λ y g. Fit y) false b s _ h.1
fit_names (suc n) b x s h = named-next (λ y g. Fit y) false b s _ h

fit_counted : (b : ℕ) (x : Stack) → Fit (Stack.counted x) → Next (λ y g. Fit y) (turn_counted b x)
unfolding turn_counted
fit_counted zero x h = h.1
fit_counted (suc n) x h = h

fit_code : (b : ℕ) (x : Stack) (s : List ℕ) → Fit (Stack.code x) → Next (λ y g. Fit y) (turn_code b x s)
unfolding turn_code wrong
fit_code b x s h = pick_next (λ y g. Fit y) (ltb (length s) 3) _ _ (λ e. tt) (λ e. pick_next (λ y g. Fit y) (scalar (get32 (b ∷ s) 0)) _ _ (λ e2. h.1) (λ e2. tt))

fit_visibility : (b : ℕ) (x : Stack) (s : List ℕ) → Fit (Stack.visibility x) → Next (λ y g. Fit y) (turn_visibility b x s)
unfolding turn_visibility wrong
fit_visibility zero x s h = h.1
fit_visibility (suc zero) x s h = h.1
fit_visibility (suc (suc b)) x s h = tt

pub fit_turn : (x : Stack) (b : ℕ) (s : List ℕ) → Fit x → Next (λ y g. Fit y) (turn x b s)
unfolding turn wrong
fit_turn Stack.any b s h = tt
fit_turn Stack.body b s h = fit_body (item_mark b) s
fit_turn Stack.functions b s h = fit_functions (item_mark b) s
fit_turn (Stack.terms m d x) b s h = fit_terms (term_mark b) m d x s h
fit_turn (Stack.conditions d x) b s h = fit_conditions (condition_mark b) d x s h
fit_turn (Stack.sentences d x) b s h = fit_sentences (sentence_mark b) d x s h
fit_turn (Stack.name g x) b s h = named-next (λ y g. Fit y) g b s _ h.1
fit_turn (Stack.names n x) b s h = fit_names n b x s h
fit_turn (Stack.code x) b s h = fit_code b x s h
fit_turn (Stack.visibility x) b s h = fit_visibility b x s h
fit_turn (Stack.counted x) b s h = fit_counted b x h

-- What the byte b adds.
abbrev pub functions_at : Stack → ℕ → ℕ
functions_at Stack.any b = 0
functions_at Stack.body b = pick (eqb b 18) 1 0
functions_at Stack.functions b = pick (eqb b 18) 1 0
functions_at (Stack.terms m d x) b = 0
functions_at (Stack.conditions d x) b = 0
functions_at (Stack.name g x) b = 0
functions_at (Stack.names n x) b = 0
functions_at (Stack.code x) b = 0
functions_at (Stack.visibility x) b = 0
functions_at (Stack.counted x) b = 0
functions_at (Stack.sentences d x) b = 0

abbrev pub sentences_at : Stack → ℕ → ℕ
sentences_at Stack.any b = 0
sentences_at Stack.body b = 0
sentences_at Stack.functions b = 0
sentences_at (Stack.terms m d x) b = 0
sentences_at (Stack.conditions d x) b = 0
sentences_at (Stack.name g x) b = 0
sentences_at (Stack.names n x) b = 0
sentences_at (Stack.code x) b = 0
sentences_at (Stack.visibility x) b = 0
sentences_at (Stack.counted x) b = 0
sentences_at (Stack.sentences zero x) b = pick (eqb b 10) 1 0
sentences_at (Stack.sentences (suc d) x) b = 0

-- The byte b is not the first function's mark.
abbrev pub Inner : Stack → ℕ → Type 0
Inner Stack.any b = Unit {0}
Inner Stack.body b = b ≡ 18 → ⊥
Inner Stack.functions b = Unit {0}
Inner (Stack.terms m d x) b = Unit {0}
Inner (Stack.conditions d x) b = Unit {0}
Inner (Stack.name g x) b = Unit {0}
Inner (Stack.names n x) b = Unit {0}
Inner (Stack.code x) b = Unit {0}
Inner (Stack.visibility x) b = Unit {0}
Inner (Stack.counted x) b = Unit {0}
Inner (Stack.sentences d x) b = Unit {0}

-- The byte b is the first function's mark.
abbrev pub Starts : Stack → ℕ → Type 0
Starts Stack.any b = ⊥
Starts Stack.body b = b ≡ 18
Starts Stack.functions b = ⊥
Starts (Stack.terms m d x) b = ⊥
Starts (Stack.conditions d x) b = ⊥
Starts (Stack.name g x) b = ⊥
Starts (Stack.names n x) b = ⊥
Starts (Stack.code x) b = ⊥
Starts (Stack.visibility x) b = ⊥
Starts (Stack.counted x) b = ⊥
Starts (Stack.sentences d x) b = ⊥

-- A turn at b keeps the counts.
abbrev Keeps : (x : Stack) → ℕ → (y : Stack) → (Values y → Values x) → Type 0
Keeps x b y g = (v : Values y) → (functions_in x (g v) ≡ functions_in y v + functions_at x b) × (sentences_in x (g v) ≡ sentences_in y v + sentences_at x b) × ((f : ℕ) → Inner x b → first_in x f (g v) ≡ first_in y f v) × ((f : ℕ) → Starts x b → (first_in y f v ≡ f) × (length (encodings x (g v)) ≡ first_in x f (g v)))

keep_terms : (k : TermMark) (m : Mode) (d : ℕ) (x : Stack) (b : ℕ) (s : List ℕ) → Next (Keeps (Stack.terms m d x) b) (turn_terms k m d x s)
unfolding turn_terms wrong
keep_terms TermMark.other m d x b s = tt
keep_terms TermMark.character m d x b s = spanned-next (Keeps (Stack.terms m d x) b) s _ (λ q v. (omega arith, omega arith, λ f i. refl, λ f z. absurd z))
keep_terms TermMark.bracket m d x b s = nested-next (Keeps (Stack.terms m d x) b) d s _ (λ l. spanned-next (Keeps (Stack.terms m d x) b) s _ (λ q v. (omega arith, omega arith, λ f i. refl, λ f z. absurd z)))
keep_terms TermMark.call m d x b s = outside-next (Keeps (Stack.terms m d x) b) m s _ (nested-next (Keeps (Stack.terms m d x) b) d s _ (λ l. spanned-next (Keeps (Stack.terms m d x) b) s _ (λ q v. (omega arith, omega arith, λ f i. refl, λ f z. absurd z))))
keep_terms TermMark.block m d x b s = outside-next (Keeps (Stack.terms m d x) b) m s _ (nested-next (Keeps (Stack.terms m d x) b) d s _ (λ l. spanned-next (Keeps (Stack.terms m d x) b) s _ (λ q v. (omega arith, omega arith, λ f i. refl, λ f z. absurd z))))
keep_terms TermMark.close m d x b s = λ v. (omega arith, omega arith, λ f i. refl, λ f z. absurd z)
keep_terms (TermMark.word w) m d x b s = spanned-next (Keeps (Stack.terms m d x) b) s _ (λ q v. (omega arith, omega arith, λ f i. refl, λ f z. absurd z))

keep_conditions : (k : ConditionMark) (d : ℕ) (x : Stack) (b : ℕ) (s : List ℕ) → Next (Keeps (Stack.conditions d x) b) (turn_conditions k d x s)
unfolding turn_conditions wrong
keep_conditions ConditionMark.other d x b s = tt
keep_conditions ConditionMark.condition d x b s = spanned-next (Keeps (Stack.conditions d x) b) s _ (λ q v. (omega arith, omega arith, λ f i. refl, λ f z. absurd z))
keep_conditions ConditionMark.result d x b s = λ v. (omega arith, omega arith, λ f i. refl, λ f z. absurd z)

-- A sentence of a function's own, and one of a block.
keep_sentence : (d : ℕ) (x : Stack) (b : ℕ) (h : Head) → b ≡ 10 → Keeps (Stack.sentences d x) b (Stack.terms Mode.pattern d (Stack.conditions d (Stack.sentences d x))) (λ v. (Sentences.sentence h v.0 v.1.0 v.1.1.0 v.1.1.1.0, v.1.1.1.1))
unfolding sentence_count
keep_sentence zero x b h e v = (omega arith, rw (eq-eqb b 10 e) (omega arith), λ f i. refl, λ f z. absurd z)
keep_sentence (suc d) x b h e v = (omega arith, omega arith, λ f i. refl, λ f z. absurd z)

keep_close : (d : ℕ) (x : Stack) (b : ℕ) → b ≡ 15 → Keeps (Stack.sentences d x) b x (λ v. (Sentences.empty, v))
unfolding sentence_count
keep_close zero x b e v = (omega arith, rw (ne_eqb b 10 (omega arith)) (omega arith), λ f i. refl, λ f z. absurd z)
keep_close (suc d) x b e v = (omega arith, omega arith, λ f i. refl, λ f z. absurd z)

keep_sentences : (k : SentenceMark) (d : ℕ) (x : Stack) (b : ℕ) (s : List ℕ) → IsSentenceMark k b → Next (Keeps (Stack.sentences d x) b) (turn_sentences k d x s)
unfolding turn_sentences wrong
keep_sentences SentenceMark.other d x b s e = tt
keep_sentences SentenceMark.sentence d x b s e = spanned-next (Keeps (Stack.sentences d x) b) s _ (λ q. keep_sentence d x b (record { span = q }) e)
keep_sentences SentenceMark.close d x b s e = keep_close d x b e

keep_functions : (k : ItemMark) (b : ℕ) (s : List ℕ) → IsItemMark k b → Next (Keeps Stack.functions b) (turn_functions k s)
unfolding turn_functions turn_function wrong own_sentence_count
keep_functions ItemMark.other b s e = tt
keep_functions ItemMark.declaration b s e = tt
keep_functions ItemMark.function b s e = spanned-next (Keeps Stack.functions b) s _ (λ q v. (rw (eq-eqb b 18 e) (omega arith), omega arith, λ f i. refl, λ f z. absurd z))

keep_body : (k : ItemMark) (b : ℕ) (s : List ℕ) → IsItemMark k b → Next (Keeps Stack.body b) (turn_body k s)
unfolding turn_body turn_function wrong own_sentence_count put_body put_declarations
keep_body ItemMark.other b s e = tt
keep_body ItemMark.declaration b s e = spanned-next (Keeps Stack.body b) s _ (λ q v. (rw (ne_eqb b 18 (omega arith)) (omega arith), omega arith, λ f i. refl, λ f z. absurd (omega arith)))
keep_body ItemMark.function b s e = spanned-next (Keeps Stack.body b) s _ (λ q v. (rw (eq-eqb b 18 e) (omega arith), omega arith, λ f i. absurd (i e), λ f z. (refl, refl)))

keep_names : (n b : ℕ) (x : Stack) (s : List ℕ) → Next (Keeps (Stack.names n x) b) (turn_names n b x s)
unfolding turn_names
keep_names zero b x s = named-next (Keeps (Stack.names zero x) b) false b s _ (λ v. (omega arith, omega arith, λ f i. refl, λ f z. absurd z))
keep_names (suc n) b x s = named-next (Keeps (Stack.names (suc n) x) b) false b s _ (λ v. (omega arith, omega arith, λ f i. refl, λ f z. absurd z))

keep_counted : (c b : ℕ) (x : Stack) → Next (Keeps (Stack.counted x) b) (turn_counted c x)
unfolding turn_counted
keep_counted zero b x = λ v. (omega arith, omega arith, λ f i. refl, λ f z. absurd z)
keep_counted (suc n) b x = λ v. (omega arith, omega arith, λ f i. refl, λ f z. absurd z)

keep_code : (b : ℕ) (x : Stack) (s : List ℕ) → Next (Keeps (Stack.code x) b) (turn_code b x s)
unfolding turn_code wrong
keep_code b x s = pick_next (Keeps (Stack.code x) b) (ltb (length s) 3) _ _ (λ e. tt) (λ e. pick_next (Keeps (Stack.code x) b) (scalar (get32 (b ∷ s) 0)) _ _ (λ e2 v. (omega arith, omega arith, λ f i. refl, λ f z. absurd z)) (λ e2. tt))

keep_visibility : (b : ℕ) (x : Stack) (s : List ℕ) → Next (Keeps (Stack.visibility x) b) (turn_visibility b x s)
unfolding turn_visibility wrong
keep_visibility zero x s = λ v. (omega arith, omega arith, λ f i. refl, λ f z. absurd z)
keep_visibility (suc zero) x s = λ v. (omega arith, omega arith, λ f i. refl, λ f z. absurd z)
keep_visibility (suc (suc b)) x s = tt

pub keep_turn : (x : Stack) (b : ℕ) (s : List ℕ) → Next (Keeps x b) (turn x b s)
unfolding turn wrong
keep_turn Stack.any b s = tt
keep_turn Stack.body b s = keep_body (item_mark b) b s (item_mark-is b)
keep_turn Stack.functions b s = keep_functions (item_mark b) b s (item_mark-is b)
keep_turn (Stack.terms m d x) b s = keep_terms (term_mark b) m d x b s
keep_turn (Stack.conditions d x) b s = keep_conditions (condition_mark b) d x b s
keep_turn (Stack.sentences d x) b s = keep_sentences (sentence_mark b) d x b s (sentence_mark-is b)
keep_turn (Stack.name g x) b s = named-next (Keeps (Stack.name g x) b) g b s _ (λ v. (omega arith, omega arith, λ f i. refl, λ f z. absurd z))
keep_turn (Stack.names n x) b s = keep_names n b x s
keep_turn (Stack.code x) b s = keep_code b x s
keep_turn (Stack.visibility x) b s = keep_visibility b x s
keep_turn (Stack.counted x) b s = keep_counted b b x

pub fit_next : (x y : Stack) (b : ℕ) (s : List ℕ) (k : ℕ) (g : Values y → Values x) → turn x b s ≡ Turn.go y k g → Fit x → Fit y
fit_next x y b s k g e h = subst (Next (λ z f. Fit z)) e (fit_turn x b s h)

pub tally_start : (l f : ℕ) (r : Read Program) → tally_of l r ≡ tally_in Stack.body l 0 0 f r
unfolding tally_of
tally_start l f (Read.refused n k) = refl
tally_start l f (Read.value w) = rw (zero-add (length w.functions), zero-add (own_sentence_count w.functions))

run_skip : (x : Stack) (k : ℕ) (s : List ℕ) → k ≤ length s → run x k s ≡ run x 0 (drop k s)
unfolding run
run_skip x zero s h = refl
run_skip x (suc k) [] h = absurd (omega arith)
run_skip x (suc k) (b ∷ s) h = run_skip x k s (omega arith)

bytes_drop : (n : ℕ) (s : List ℕ) → Bytes s → Bytes (drop n s)
bytes_drop zero s h = h
bytes_drop (suc n) [] h = tt
bytes_drop (suc n) (b ∷ s) h = bytes_drop n s h.1

abbrev pub first_at : Stack → ℕ → ℕ → ℕ → ℕ
first_at Stack.any b left f = f
first_at Stack.body b left f = pick (eqb b 18) left f
first_at Stack.functions b left f = f
first_at (Stack.terms m d x) b left f = f
first_at (Stack.conditions d x) b left f = f
first_at (Stack.sentences d x) b left f = f
first_at (Stack.name g x) b left f = f
first_at (Stack.names n x) b left f = f
first_at (Stack.code x) b left f = f
first_at (Stack.visibility x) b left f = f
first_at (Stack.counted x) b left f = f

-- The first function's mark, or not.
which : (x : Stack) (b left f : ℕ) → ((first_at x b left f ≡ f) × Inner x b) ⊎ ((first_at x b left f ≡ left) × Starts x b)
which Stack.any b left f = inl (refl, tt)
which Stack.body b left f = by (eqb b 18) refl
  where
    by : (t : Bool) → eqb b 18 ≡ t → ((pick t left f ≡ f) × (b ≡ 18 → ⊥)) ⊎ ((pick t left f ≡ left) × (b ≡ 18))
    by true e = inr (refl, eqb-true b 18 e)
    by false e = inl (refl, eqb-false b 18 e)
which Stack.functions b left f = inl (refl, tt)
which (Stack.terms m d x) b left f = inl (refl, tt)
which (Stack.conditions d x) b left f = inl (refl, tt)
which (Stack.sentences d x) b left f = inl (refl, tt)
which (Stack.name g x) b left f = inl (refl, tt)
which (Stack.names n x) b left f = inl (refl, tt)
which (Stack.code x) b left f = inl (refl, tt)
which (Stack.visibility x) b left f = inl (refl, tt)
which (Stack.counted x) b left f = inl (refl, tt)

module _ (b : List ℕ) (at : ℕ) (x y : Stack) (to : ℕ) (g : Values y → Values x) (ha : at < length b) (hl : at < to) (ht : to ≤ length b)
    (turned : turn x (get_or b at 0) (drop (suc at) b) ≡ Turn.go y (to - suc at) g) where
  rest-is : drop (to - suc at) (drop (suc at) b) ≡ drop to b
  rest-is =
      let q : suc at + (to - suc at) ≡ to = omega arith in
      drop-drop (to - suc at) (suc at) b ∙ ap (λ (n : ℕ). drop n b) q

  run_step : run x 0 (drop at b) ≡ made g (run y 0 (drop to b))
  unfolding run follow
  run_step =
      rw (drop-cons b at 0 ha)
      (ap (λ (t : Turn (Values x)). follow t (λ z k. run z k (drop (suc at) b))) turned
      ∙ ap (made g) (run_skip y (to - suc at) (drop (suc at) b) (omega (arith, length-drop (suc at) b)) ∙ ap (run y 0) rest-is))

  kept : Keeps x (get_or b at 0) y g
  kept = subst (Next (Keeps x (get_or b at 0))) turned (keep_turn x (get_or b at 0) (drop (suc at) b))

  -- A turn that counts nothing and does not start the functions.
  pub calm_step : functions_at x (get_or b at 0) ≡ 0 → sentences_at x (get_or b at 0) ≡ 0 → Inner x (get_or b at 0)
      → (nf ns f : ℕ) → tally_in x (length b) nf ns f (run x 0 (drop at b)) ≡ tally_in y (length b) nf ns f (run y 0 (drop to b))
  unfolding made
  calm_step h0 h1 h2 nf ns f = rw run_step (by (run y 0 (drop to b)))
    where
      by : (r : Read (Values y)) → tally_in x (length b) nf ns f (made g r) ≡ tally_in y (length b) nf ns f r
      by (Read.refused n k) = refl
      by (Read.value v) =
          let p : nf + functions_in x (g v) ≡ nf + functions_in y v = omega (arith, (kept v).0, h0) in
          let q : ns + sentences_in x (g v) ≡ ns + sentences_in y v = omega (arith, (kept v).1, h1) in
          rw (p, q, (kept v).2 f h2)

  module _ (bytes : Bytes b) where
    first-kept : (f : ℕ) (v : Values y) → run y 0 (drop to b) ≡ Read.value v → first_in x f (g v) ≡ first_in y (first_at x (get_or b at 0) (length b - at) f) v
    unfolding made
    first-kept f v e =
        ⊎_elim
        (λ w. (kept v).2 f w.1 ∙ ap (λ (n : ℕ). first_in y n v) (sym w.0))
        (λ w.
        let k = (kept v).3 f w.1 in
        let k2 = (kept v).3 (length b - at) w.1 in
        let s = sound (drop at b) x 0 (g v) (bytes_drop at b bytes) (run_step ∙ ap (made g) e) in
        sym k.1 ∙ (ap length (sym s.0) ∙ (length-drop at b ∙ (sym k2.0 ∙ ap (λ (n : ℕ). first_in y n v) (sym w.0)))))
        (which x (get_or b at 0) (length b - at) f)

    pub tally_step : (nf ns f : ℕ) → tally_in x (length b) nf ns f (run x 0 (drop at b))
        ≡ tally_in y (length b) (nf + functions_at x (get_or b at 0)) (ns + sentences_at x (get_or b at 0)) (first_at x (get_or b at 0) (length b - at) f) (run y 0 (drop to b))
    unfolding made
    tally_step nf ns f = rw run_step (by (run y 0 (drop to b)) refl)
      where
        by : (r : Read (Values y)) → run y 0 (drop to b) ≡ r → tally_in x (length b) nf ns f (made g r) ≡ tally_in y (length b) (nf + functions_at x (get_or b at 0)) (ns + sentences_at x (get_or b at 0)) (first_at x (get_or b at 0) (length b - at) f) r
        by (Read.refused n k) e = refl
        by (Read.value v) e =
            let p : nf + functions_in x (g v) ≡ nf + functions_at x (get_or b at 0) + functions_in y v = omega (arith, (kept v).0) in
            let q : ns + sentences_in x (g v) ≡ ns + sentences_at x (get_or b at 0) + sentences_in y v = omega (arith, (kept v).1) in
            rw (p, q, first-kept f v e)
