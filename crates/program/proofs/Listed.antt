-- Reading meets refusals 5 to 10 only, each at a place within the body.
use Prim.Native.Nat.{ℕ, zero, suc, ◌≤◌}
use native.Mathlib.Omega.{arith}
use mathlib.Core.Path.{◌≡◌, subst}
use mathlib.Core.Bool.{Bool, true, false}
use mathlib.Core.List.{List, [], ◌∷◌}
use lib.ListN.{length}
use lib.Dec.{ltb, leb}
use Rattle.program.specs.Syntax.{Span}
use Rattle.program.specs.Bytes.{get32, get_span}
use Rattle.program.specs.Limits.{pick, Mode, allowed, scalar}
use Rattle.program.specs.Automaton.{Stack, Values, Turn, wrong, spanned, nested, outside, Scan, scan, scanned, named, TermMark, term_mark, turn_terms, ConditionMark, condition_mark, turn_conditions, SentenceMark, sentence_mark, turn_sentences, ItemMark, item_mark, turn_function, turn_functions, turn_body, turn_names, turn_counted, turn_visibility, turn_code, turn, Read, made, at_end, follow, run}

-- A number from 5 to 10, and at most m bytes left.
abbrev pub IsListed : ℕ → ℕ → ℕ → Type 0
IsListed m n l = (5 ≤ n) × (n ≤ 10) × (l ≤ m)

-- What a turn refuses is listed, with s after its byte.
abbrev Listed : {A : Type 0} → List ℕ → Turn A → Type 0
Listed s (Turn.refuse n l) = IsListed (suc (length s)) n l
Listed s (Turn.done a) = Unit {0}
Listed s (Turn.go y k g) = Unit {0}

listed-pick : {A : Type 0} (s : List ℕ) (t : Bool) (a b : Turn A) → Listed s a → Listed s b → Listed s (pick t a b)
listed-pick s true a b h k = h
listed-pick s false a b h k = k

listed-spanned : {A : Type 0} (s : List ℕ) (f : Span → Turn A) → ((p : Span) → Listed s (f p)) → Listed s (spanned s f)
unfolding spanned
listed-spanned s f h =
    listed-pick s (ltb (length s) 8) _ _ (omega arith, omega arith, omega arith)
    (listed-pick s (ltb (get32 s 4) (get32 s 0)) _ _ (omega arith, omega arith, omega arith) (h (get_span s 0)))

listed-nested : {A : Type 0} (d : ℕ) (s : List ℕ) (t : Turn A) → Listed s t → Listed s (nested d s t)
unfolding nested wrong
listed-nested d s t h = listed-pick s (ltb d 32) _ _ h (omega arith, omega arith, omega arith)

listed-outside : {A : Type 0} (m : Mode) (s : List ℕ) (t : Turn A) → Listed s t → Listed s (outside m s t)
unfolding outside wrong
listed-outside Mode.pattern s t h = (omega arith, omega arith, omega arith)
listed-outside Mode.result s t h = h

-- The same of the bytes of a name.
abbrev ListedScan : List ℕ → Scan → Type 0
ListedScan s (Scan.refuse n l) = IsListed (length s) n l
ListedScan s Scan.good = Unit {0}

more_left : (b : ℕ) (s : List ℕ) (r : Scan) → ListedScan s r → ListedScan (b ∷ s) r
more_left b s (Scan.refuse n l) h = (h.0, h.1, omega arith)
more_left b s Scan.good h = tt

scan-pick : (s : List ℕ) (t : Bool) (a b : Scan) → ListedScan s a → ListedScan s b → ListedScan s (pick t a b)
scan-pick s true a b h k = h
scan-pick s false a b h k = k

scan-listed : (s : List ℕ) (g : Bool) (n : ℕ) → ListedScan s (scan g n s)
unfolding scan
scan-listed [] g zero = tt
scan-listed [] g (suc n) = (omega arith, omega arith, omega arith)
scan-listed (b ∷ s) g zero = tt
scan-listed (b ∷ s) g (suc n) = scan-pick (b ∷ s) (allowed g b) (scan g n s) _ (more_left b s (scan g n s) (scan-listed s g n)) (omega arith, omega arith, omega arith)

listed-scanned : {A : Type 0} (s : List ℕ) (r : Scan) (t : Turn A) → ListedScan s r → Listed s t → Listed s (scanned r t)
unfolding scanned
listed-scanned s (Scan.refuse n l) t h k = (h.0, h.1, omega arith)
listed-scanned s Scan.good t h k = k

listed-named : {A : Type 0} (g : Bool) (b : ℕ) (s : List ℕ) (t : Turn A) → Listed s t → Listed s (named g b s t)
unfolding named wrong
listed-named g b s t h =
    listed-pick s (ltb 0 b) _ _
    (listed-pick s (leb b 63) _ _ (listed-scanned s (scan g b s) t (scan-listed s g b) h) (omega arith, omega arith, omega arith))
    (omega arith, omega arith, omega arith)

-- Each turn.
listed-terms : (k : TermMark) (m : Mode) (d : ℕ) (x : Stack) (s : List ℕ) → Listed s (turn_terms k m d x s)
unfolding turn_terms wrong
listed-terms TermMark.other m d x s = (omega arith, omega arith, omega arith)
listed-terms TermMark.character m d x s = listed-spanned s _ (λ p. tt)
listed-terms (TermMark.word w) m d x s = listed-spanned s _ (λ p. tt)
listed-terms TermMark.bracket m d x s = listed-nested d s _ (listed-spanned s _ (λ p. tt))
listed-terms TermMark.call m d x s = listed-outside m s _ (listed-nested d s _ (listed-spanned s _ (λ p. tt)))
listed-terms TermMark.block m d x s = listed-outside m s _ (listed-nested d s _ (listed-spanned s _ (λ p. tt)))
listed-terms TermMark.close m d x s = tt

listed-conditions : (k : ConditionMark) (d : ℕ) (x : Stack) (s : List ℕ) → Listed s (turn_conditions k d x s)
unfolding turn_conditions wrong
listed-conditions ConditionMark.other d x s = (omega arith, omega arith, omega arith)
listed-conditions ConditionMark.condition d x s = listed-spanned s _ (λ p. tt)
listed-conditions ConditionMark.result d x s = tt

listed-sentences : (k : SentenceMark) (d : ℕ) (x : Stack) (s : List ℕ) → Listed s (turn_sentences k d x s)
unfolding turn_sentences wrong
listed-sentences SentenceMark.other d x s = (omega arith, omega arith, omega arith)
listed-sentences SentenceMark.sentence d x s = listed-spanned s _ (λ p. tt)
listed-sentences SentenceMark.close d x s = tt

listed-functions : (k : ItemMark) (s : List ℕ) → Listed s (turn_functions k s)
unfolding turn_functions turn_function wrong
listed-functions ItemMark.other s = (omega arith, omega arith, omega arith)
listed-functions ItemMark.declaration s = (omega arith, omega arith, omega arith)
listed-functions ItemMark.function s = listed-spanned s _ (λ p. tt)

listed-body : (k : ItemMark) (s : List ℕ) → Listed s (turn_body k s)
unfolding turn_body turn_function wrong
listed-body ItemMark.other s = (omega arith, omega arith, omega arith)
listed-body ItemMark.declaration s = listed-spanned s _ (λ p. tt)
listed-body ItemMark.function s = listed-spanned s _ (λ p. tt)

listed-names : (n b : ℕ) (x : Stack) (s : List ℕ) → Listed s (turn_names n b x s)
unfolding turn_names
listed-names zero b x s = listed-named false b s _ tt
listed-names (suc n) b x s = listed-named false b s _ tt

listed-counted : (b : ℕ) (x : Stack) (s : List ℕ) → Listed s (turn_counted b x)
unfolding turn_counted
listed-counted zero x s = tt
listed-counted (suc n) x s = tt

listed-visibility : (b : ℕ) (x : Stack) (s : List ℕ) → Listed s (turn_visibility b x s)
unfolding turn_visibility wrong
listed-visibility zero x s = tt
listed-visibility (suc zero) x s = tt
listed-visibility (suc (suc b)) x s = (omega arith, omega arith, omega arith)

listed-code : (b : ℕ) (x : Stack) (s : List ℕ) → Listed s (turn_code b x s)
unfolding turn_code wrong
listed-code b x s =
    listed-pick s (ltb (length s) 3) _ _ (omega arith, omega arith, omega arith)
    (listed-pick s (scalar (get32 (b ∷ s) 0)) _ _ tt (omega arith, omega arith, omega arith))

listed-turn : (x : Stack) (b : ℕ) (s : List ℕ) → Listed s (turn x b s)
unfolding turn
listed-turn Stack.any b s = tt
listed-turn Stack.body b s = listed-body (item_mark b) s
listed-turn Stack.functions b s = listed-functions (item_mark b) s
listed-turn (Stack.terms m d x) b s = listed-terms (term_mark b) m d x s
listed-turn (Stack.conditions d x) b s = listed-conditions (condition_mark b) d x s
listed-turn (Stack.sentences d x) b s = listed-sentences (sentence_mark b) d x s
listed-turn (Stack.name g x) b s = listed-named g b s _ tt
listed-turn (Stack.names n x) b s = listed-names n b x s
listed-turn (Stack.code x) b s = listed-code b x s
listed-turn (Stack.visibility x) b s = listed-visibility b x s
listed-turn (Stack.counted x) b s = listed-counted b x s

-- What reading refuses.
abbrev ListedRead : {A : Type 0} → ℕ → Read A → Type 0
ListedRead m (Read.refused n l) = IsListed m n l
ListedRead m (Read.value a) = Unit {0}

read_made : {A B : Type 0} (m k : ℕ) (g : A → B) (r : Read A) → m ≤ k → ListedRead m r → ListedRead k (made g r)
unfolding made
read_made m k g (Read.refused n l) h z = (z.0, z.1, omega arith)
read_made m k g (Read.value a) h z = tt

read_follow : {A : Type 0} (s : List ℕ) (t : Turn A) (f : (y : Stack) → ℕ → Read (Values y)) → Listed s t → ((y : Stack) (k : ℕ) → ListedRead (length s) (f y k)) → ListedRead (suc (length s)) (follow t f)
unfolding follow
read_follow s (Turn.refuse n l) f h k = h
read_follow s (Turn.done a) f h k = tt
read_follow s (Turn.go y j g) f h k = read_made (length s) (suc (length s)) g (f y j) (omega arith) (k y j)

read_end : (x : Stack) → ListedRead 0 (at_end x)
unfolding at_end
read_end Stack.any = tt
read_end Stack.body = tt
read_end Stack.functions = tt
read_end (Stack.terms m d x) = (omega arith, omega arith, omega arith)
read_end (Stack.conditions d x) = (omega arith, omega arith, omega arith)
read_end (Stack.sentences d x) = (omega arith, omega arith, omega arith)
read_end (Stack.name g x) = (omega arith, omega arith, omega arith)
read_end (Stack.names n x) = (omega arith, omega arith, omega arith)
read_end (Stack.code x) = (omega arith, omega arith, omega arith)
read_end (Stack.visibility x) = (omega arith, omega arith, omega arith)
read_end (Stack.counted x) = (omega arith, omega arith, omega arith)

weaker : {A : Type 0} (m : ℕ) (r : Read A) → ListedRead m r → ListedRead (suc m) r
weaker m (Read.refused n l) h = (h.0, h.1, omega arith)
weaker m (Read.value a) h = tt

read_listed : (s : List ℕ) (x : Stack) (k : ℕ) → ListedRead (length s) (run x k s)
unfolding run
read_listed [] x zero = read_end x
read_listed [] x (suc k) = (omega arith, omega arith, omega arith)
read_listed (b ∷ s) x zero = read_follow s (turn x b s) (λ y k. run y k s) (listed-turn x b s) (λ y k. read_listed s y k)
read_listed (b ∷ s) x (suc k) = weaker (length s) (run x k s) (read_listed s x k)

pub refusals_listed : (s : List ℕ) (x : Stack) (n l : ℕ) → run x 0 s ≡ Read.refused n l → (5 ≤ n) × (n ≤ 10) × (l ≤ length s)
refusals_listed s x n l e = subst (ListedRead (length s)) e (read_listed s x 0)
