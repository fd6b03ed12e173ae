-- Reading bytes from left to right with a stack of what is still to come, so that the first refusal met is the one at the earliest place.
-- One turn takes a mark with its span, a name, a code or a single byte. A refusal is its number and how many bytes are left from its place on.
use Rattle.std.specs.Prelude.{ℕ, zero, suc, Bool, true, false, List, [], ◌∷◌, length, take, ltb, leb, eqb}
use Rattle.program.specs.Syntax.{Name, Span, Symbol, Kind, Terms, Conditions, Sentences, Visibility, Function, Program}
use Rattle.program.specs.Bytes.{get32, get_span}
use Rattle.program.specs.Limits.{pick, Mode, allowed, scalar}

-- What is to come. `any`: whatever follows; `body`: declarations and functions to the end; `functions`: functions to the end.
-- `terms m d`: terms and their close, with d brackets, calls and blocks around them. `conditions d`: conditions and the result.
-- `sentences d`: sentences and their close. `name true`: a number's digits. `names n`: n + 1 names. `counted`: a count byte and that many names.
pub data Stack : Type 0 where
  any body functions : Stack
  terms : Mode → ℕ → Stack → Stack
  conditions sentences : ℕ → Stack → Stack
  name : Bool → Stack → Stack
  names : ℕ → Stack → Stack
  code visibility counted : Stack → Stack

-- The values that reading a stack gives.
abbrev pub Values : Stack → Type 0
Values Stack.any = List ℕ
Values Stack.body = Program
Values Stack.functions = List Function
Values (Stack.terms m d x) = Terms × Values x
Values (Stack.conditions d x) = Conditions × (Terms × Values x)
Values (Stack.sentences d x) = Sentences × Values x
Values (Stack.name g x) = Name × Values x
Values (Stack.names n x) = List Name × Values x
Values (Stack.code x) = ℕ × Values x
Values (Stack.visibility x) = Visibility × Values x
Values (Stack.counted x) = List Name × Values x

-- A turn: a refusal, the end, or the stack after it, how many bytes it takes besides its first, and what the values make.
pub data Turn (A : Type 0) : Type 0 where
  refuse : ℕ → ℕ → Turn A
  done : A → Turn A
  go : (y : Stack) → ℕ → (Values y → A) → Turn A

-- A refusal at the byte before s.
unfoldable pub wrong : {A : Type 0} → ℕ → List ℕ → Turn A
wrong n s = Turn.refuse n (suc (length s))

-- A span at the start of s. "a record cut off (place: body length)"; "8: span start above end. Place: the span's first byte."
unfoldable pub spanned : {A : Type 0} → List ℕ → (Span → Turn A) → Turn A
spanned s f =
    pick (ltb (length s) 8) (Turn.refuse 5 0)
    (pick (ltb (get32 s 4) (get32 s 0)) (Turn.refuse 8 (length s)) (f (get_span s 0)))

-- "10: brackets, calls and blocks nested above 32, the term itself counted. Place: the mark."
unfoldable pub nested : {A : Type 0} → ℕ → List ℕ → Turn A → Turn A
nested d s t = pick (ltb d 32) t (wrong 10 s)

-- "9: call or block inside a pattern. [..] Place: the mark."
unfoldable pub outside : {A : Type 0} → Mode → List ℕ → Turn A → Turn A
outside Mode.pattern s t = wrong 9 s
outside Mode.result s t = t

-- The first n bytes of s as a name's or a number's: "a byte outside 33 to 126 [..]. Place: that byte."
pub data Scan : Type 0 where
  refuse : ℕ → ℕ → Scan
  good : Scan

unfoldable pub scan : Bool → ℕ → List ℕ → Scan
scan g zero s = Scan.good
scan g (suc n) [] = Scan.refuse 5 0
scan g (suc n) (b ∷ s) = pick (allowed g b) (scan g n s) (Scan.refuse 6 (suc (length s)))

unfoldable pub scanned : {A : Type 0} → Scan → Turn A → Turn A
scanned (Scan.refuse n l) t = Turn.refuse n l
scanned Scan.good t = t

-- A name with the length byte b: "a name or number with length 0 or above 63".
unfoldable pub named : {A : Type 0} → Bool → ℕ → List ℕ → Turn A → Turn A
named g b s t = pick (ltb 0 b) (pick (leb b 63) (scanned (scan g b s) t) (wrong 6 s)) (wrong 6 s)

-- A term that is a span and a name: marks 2 to 6.
pub data Word : Type 0 where
  identifier number : Word
  variable : Kind → Word

unfoldable pub word_term : Word → Span → Name → Terms → Terms
word_term Word.identifier s n r = Terms.symbol s (Symbol.identifier n) r
word_term Word.number s n r = Terms.symbol s (Symbol.number n) r
word_term (Word.variable k) s n r = Terms.variable s k n r

unfoldable pub is_number : Word → Bool
is_number Word.identifier = false
is_number Word.number = true
is_number (Word.variable k) = false

-- What a byte is where terms stand.
pub data TermMark : Type 0 where
  other character bracket call block close : TermMark
  word : Word → TermMark

unfoldable pub term_mark : ℕ → TermMark
term_mark b =
    pick (eqb b 1) TermMark.character
    (pick (eqb b 2) (TermMark.word Word.identifier)
    (pick (eqb b 3) (TermMark.word Word.number)
    (pick (eqb b 4) (TermMark.word (Word.variable Kind.s_kind))
    (pick (eqb b 5) (TermMark.word (Word.variable Kind.t_kind))
    (pick (eqb b 6) (TermMark.word (Word.variable Kind.e_kind))
    (pick (eqb b 7) TermMark.bracket
    (pick (eqb b 8) TermMark.call
    (pick (eqb b 9) TermMark.block
    (pick (eqb b 15) TermMark.close TermMark.other)))))))))

-- "5: a byte that no record allows (place: that byte)"
unfoldable pub turn_terms : TermMark → Mode → ℕ → (x : Stack) → List ℕ → Turn (Terms × Values x)
turn_terms TermMark.other m d x s = wrong 5 s
turn_terms TermMark.character m d x s = spanned s (λ p. Turn.go (Stack.code (Stack.terms m d x)) 8 (λ v. (Terms.symbol p (Symbol.character v.0) v.1.0, v.1.1)))
turn_terms (TermMark.word w) m d x s = spanned s (λ p. Turn.go (Stack.name (is_number w) (Stack.terms m d x)) 8 (λ v. (word_term w p v.0 v.1.0, v.1.1)))
turn_terms TermMark.bracket m d x s = nested d s (spanned s (λ p. Turn.go (Stack.terms m (suc d) (Stack.terms m d x)) 8 (λ v. (Terms.bracket p v.0 v.1.0, v.1.1))))
turn_terms TermMark.call m d x s =
    outside m s
    (nested d s
    (spanned s (λ p. Turn.go (Stack.name false (Stack.terms m (suc d) (Stack.terms m d x))) 8 (λ v. (Terms.call p v.0 v.1.0 v.1.1.0, v.1.1.1)))))
turn_terms TermMark.block m d x s =
    outside m s
    (nested d s
    (spanned s (λ p. Turn.go (Stack.terms m (suc d) (Stack.sentences (suc d) (Stack.terms m d x))) 8 (λ v. (Terms.block p v.0 v.1.0 v.1.1.0, v.1.1.1)))))
turn_terms TermMark.close m d x s = Turn.go x 0 (λ v. (Terms.nil, v))

-- "conditions, each 11 [..]; then 12"
pub data ConditionMark : Type 0 where
  other condition result : ConditionMark

unfoldable pub condition_mark : ℕ → ConditionMark
condition_mark b = pick (eqb b 11) ConditionMark.condition (pick (eqb b 12) ConditionMark.result ConditionMark.other)

unfoldable pub turn_conditions : ConditionMark → ℕ → (x : Stack) → List ℕ → Turn (Conditions × (Terms × Values x))
turn_conditions ConditionMark.other d x s = wrong 5 s
turn_conditions ConditionMark.condition d x s =
    spanned s
    (λ p. Turn.go (Stack.terms Mode.result d (Stack.terms Mode.pattern d (Stack.conditions d x))) 8
    (λ v. (Conditions.condition p v.0 v.1.0 v.1.1.0, v.1.1.1)))
turn_conditions ConditionMark.result d x s = Turn.go (Stack.terms Mode.result d x) 0 (λ v. (Conditions.none, v))

-- "Sentence: 10", or the close
pub data SentenceMark : Type 0 where
  other sentence close : SentenceMark

unfoldable pub sentence_mark : ℕ → SentenceMark
sentence_mark b = pick (eqb b 10) SentenceMark.sentence (pick (eqb b 15) SentenceMark.close SentenceMark.other)

unfoldable pub turn_sentences : SentenceMark → ℕ → (x : Stack) → List ℕ → Turn (Sentences × Values x)
turn_sentences SentenceMark.other d x s = wrong 5 s
turn_sentences SentenceMark.sentence d x s =
    spanned s
    (λ p. Turn.go (Stack.terms Mode.pattern d (Stack.conditions d (Stack.sentences d x))) 8
    (λ v. (Sentences.sentence (record { span = p }) v.0 v.1.0 v.1.1.0 v.1.1.1.0, v.1.1.1.1)))
turn_sentences SentenceMark.close d x s = Turn.go x 0 (λ v. (Sentences.empty, v))

-- "Declaration: 17", "Function: 18": "Declarations come first."
pub data ItemMark : Type 0 where
  other declaration function : ItemMark

unfoldable pub item_mark : ℕ → ItemMark
item_mark b = pick (eqb b 17) ItemMark.declaration (pick (eqb b 18) ItemMark.function ItemMark.other)

-- A function, and what it is put before.
unfoldable pub turn_function : {A : Type 0} → (Function → List Function → A) → List ℕ → Turn A
turn_function f s =
    spanned s
    (λ p. Turn.go (Stack.visibility (Stack.name false (Stack.sentences 0 Stack.functions))) 8
    (λ v. f (record { span = p; visibility = v.0; name = v.1.0; sentences = v.1.1.0 }) v.1.1.1))

unfoldable pub turn_functions : ItemMark → List ℕ → Turn (List Function)
turn_functions ItemMark.other s = wrong 5 s
turn_functions ItemMark.declaration s = wrong 5 s
turn_functions ItemMark.function s = turn_function (λ f fs. f ∷ fs) s

unfoldable pub turn_body : ItemMark → List ℕ → Turn Program
turn_body ItemMark.other s = wrong 5 s
turn_body ItemMark.declaration s =
    spanned s
    (λ p. Turn.go (Stack.counted Stack.body) 8
    (λ v. record { declarations = record { span = p; names = v.0 } ∷ v.1.declarations; functions = v.1.functions }))
turn_body ItemMark.function s = turn_function (λ f fs. record { declarations = []; functions = f ∷ fs }) s

unfoldable pub turn_names : ℕ → ℕ → (x : Stack) → List ℕ → Turn (List Name × Values x)
turn_names zero b x s = named false b s (Turn.go x b (λ v. (take b s ∷ [], v)))
turn_names (suc n) b x s = named false b s (Turn.go (Stack.names n x) b (λ v. (take b s ∷ v.0, v.1)))

unfoldable pub turn_counted : ℕ → (x : Stack) → Turn (List Name × Values x)
turn_counted zero x = Turn.go x 0 (λ v. ([], v))
turn_counted (suc n) x = Turn.go (Stack.names n x) 0 (λ v. v)

-- "a byte 0 (Local) or 1 (Entry)"
unfoldable pub turn_visibility : ℕ → (x : Stack) → List ℕ → Turn (Visibility × Values x)
turn_visibility zero x s = Turn.go x 0 (λ v. (Visibility.local, v))
turn_visibility (suc zero) x s = Turn.go x 0 (λ v. (Visibility.entry, v))
turn_visibility (suc (suc n)) x s = wrong 5 s

-- "7: character code [..]. Place: its first byte."
unfoldable pub turn_code : ℕ → (x : Stack) → List ℕ → Turn (ℕ × Values x)
turn_code b x s =
    pick (ltb (length s) 3) (Turn.refuse 5 0)
    (pick (scalar (get32 (b ∷ s) 0)) (Turn.go x 3 (λ v. (get32 (b ∷ s) 0, v))) (wrong 7 s))

-- One turn at the byte b, with s after it.
unfoldable pub turn : (x : Stack) → ℕ → List ℕ → Turn (Values x)
turn Stack.any b s = Turn.done (b ∷ s)
turn Stack.body b s = turn_body (item_mark b) s
turn Stack.functions b s = turn_functions (item_mark b) s
turn (Stack.terms m d x) b s = turn_terms (term_mark b) m d x s
turn (Stack.conditions d x) b s = turn_conditions (condition_mark b) d x s
turn (Stack.sentences d x) b s = turn_sentences (sentence_mark b) d x s
turn (Stack.name g x) b s = named g b s (Turn.go x b (λ v. (take b s, v)))
turn (Stack.names n x) b s = turn_names n b x s
turn (Stack.code x) b s = turn_code b x s
turn (Stack.visibility x) b s = turn_visibility b x s
turn (Stack.counted x) b s = turn_counted b x

-- The outcome of reading: a refusal's number and how many bytes are left from its place on, or a value.
pub data Read (A : Type 0) : Type 0 where
  refused : ℕ → ℕ → Read A
  value : A → Read A

unfoldable pub made : {A B : Type 0} → (A → B) → Read A → Read B
made f (Read.refused n l) = Read.refused n l
made f (Read.value a) = Read.value (f a)

-- Where no byte is left: "a record cut off (place: body length)".
unfoldable pub at_end : (x : Stack) → Read (Values x)
at_end Stack.any = Read.value []
at_end Stack.body = Read.value (record { declarations = []; functions = [] })
at_end Stack.functions = Read.value []
at_end (Stack.terms m d x) = Read.refused 5 0
at_end (Stack.conditions d x) = Read.refused 5 0
at_end (Stack.sentences d x) = Read.refused 5 0
at_end (Stack.name g x) = Read.refused 5 0
at_end (Stack.names n x) = Read.refused 5 0
at_end (Stack.code x) = Read.refused 5 0
at_end (Stack.visibility x) = Read.refused 5 0
at_end (Stack.counted x) = Read.refused 5 0

unfoldable pub follow : {A : Type 0} → Turn A → ((y : Stack) → ℕ → Read (Values y)) → Read A
follow (Turn.refuse n l) f = Read.refused n l
follow (Turn.done a) f = Read.value a
follow (Turn.go y k g) f = made g (f y k)

-- Reads the stack x from s, after k bytes of it that a turn has taken.
unfoldable pub run : (x : Stack) → ℕ → List ℕ → Read (Values x)
run x zero [] = at_end x
run x (suc k) [] = Read.refused 5 0
run x zero (b ∷ s) = follow (turn x b s) (λ y k. run y k s)
run x (suc k) (b ∷ s) = run x k s
