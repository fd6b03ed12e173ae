-- What is read, written again, is the bytes that were read, and it is within the limits.
use Prim.Native.Nat.{ℕ, zero, suc, ◌≤◌, ◌<◌}
use native.Mathlib.Omega.{arith}
use mathlib.Core.Path.{◌≡◌, refl, sym, ap, subst, ◌∙◌}
use mathlib.Core.Bool.{Bool, true, false}
use mathlib.Core.List.{List, [], ◌∷◌, ◌++◌}
use lib.ListN.{length, take}
use lib.Seq.{length-take-le}
use lib.Dec.{ltb, leb}
use borrow.Author.Tests.{ltb-true, ltb-false, leb-true}
use Rattle.program.specs.Syntax.{Span, Terms, Function, Program}
use Rattle.program.specs.Bytes.{put32, put_span, put_name, get32, get_span, Bytes}
use Rattle.program.specs.Encode.{put_symbol, kind_mark, put_head, put_terms, put_conditions, put_sentences, put_names, put_declarations, visibility_byte, put_function, put_functions, put_body}
use Rattle.program.specs.Limits.{pick, Mode, allowed, scalar, ValidSpan, AllAllowed, ValidName, NotPattern, ValidTerms, ValidConditions, ValidSentences, ValidNames, ValidFunctions, ValidBody}
use Rattle.program.specs.Automaton.{Stack, Values, Turn, wrong, spanned, nested, outside, Scan, scan, scanned, named, Word, word_term, is_number, TermMark, term_mark, turn_terms, ConditionMark, condition_mark, turn_conditions, SentenceMark, sentence_mark, turn_sentences, ItemMark, item_mark, turn_function, turn_functions, turn_body, turn_names, turn_counted, turn_visibility, turn_code, turn, Read, made, at_end, follow, run}
use Rattle.program.proofs.Tests.{by_test}
use Rattle.program.proofs.Numbers.{put32_back, span_back, get32-fits}

-- The bytes of a stack's values.
abbrev pub encodings : (x : Stack) → Values x → List ℕ
encodings Stack.any v = v
encodings Stack.body v = put_body v
encodings Stack.functions v = put_functions v
encodings (Stack.terms m d x) v = put_terms v.0 (encodings x v.1)
encodings (Stack.conditions d x) v = put_conditions v.0 (12 ∷ put_terms v.1.0 (encodings x v.1.1))
encodings (Stack.sentences d x) v = put_sentences v.0 (encodings x v.1)
encodings (Stack.name g x) v = put_name v.0 (encodings x v.1)
encodings (Stack.names n x) v = put_names v.0 (encodings x v.1)
encodings (Stack.code x) v = put32 v.0 (encodings x v.1)
encodings (Stack.visibility x) v = visibility_byte v.0 ∷ encodings x v.1
encodings (Stack.counted x) v = length v.0 ∷ put_names v.0 (encodings x v.1)

-- They are within the limits.
abbrev pub ValidValues : (x : Stack) → Values x → Type 0
ValidValues Stack.any v = Unit {0}
ValidValues Stack.body v = ValidBody v
ValidValues Stack.functions v = ValidFunctions v
ValidValues (Stack.terms m d x) v = ValidTerms v.0 m d × ValidValues x v.1
ValidValues (Stack.conditions d x) v = ValidConditions v.0 d × (ValidTerms v.1.0 Mode.result d × ValidValues x v.1.1)
ValidValues (Stack.sentences d x) v = ValidSentences v.0 d × ValidValues x v.1
ValidValues (Stack.name g x) v = ValidName g v.0 × ValidValues x v.1
ValidValues (Stack.names n x) v = (length v.0 ≡ suc n) × ValidNames v.0 × ValidValues x v.1
ValidValues (Stack.code x) v = (scalar v.0 ≡ true) × ValidValues x v.1
ValidValues (Stack.visibility x) v = ValidValues x v.1
ValidValues (Stack.counted x) v = (length v.0 < 256) × ValidNames v.0 × ValidValues x v.1

-- What a turn with s after its byte has to say for P to hold of what is read.
abbrev Says : {A : Type 0} → List ℕ → (A → Type 0) → Turn A → Type 0
Says s P (Turn.refuse n l) = Unit {0}
Says s P (Turn.done a) = P a
Says s P (Turn.go y k g) = (v : Values y) → s ≡ take k s ++ encodings y v → ValidValues y v → P (g v)

-- The byte b and s after it are the bytes of the values.
abbrev Back : (x : Stack) → ℕ → List ℕ → Values x → Type 0
Back x b s v = (b ∷ s ≡ encodings x v) × ValidValues x v

-- The byte of each mark.
unfoldable pub word_mark : Word → ℕ
word_mark Word.identifier = 2
word_mark Word.number = 3
word_mark (Word.variable k) = kind_mark k

abbrev pub IsTermMark : TermMark → ℕ → Type 0
IsTermMark TermMark.other b = Unit {0}
IsTermMark TermMark.character b = b ≡ 1
IsTermMark TermMark.bracket b = b ≡ 7
IsTermMark TermMark.call b = b ≡ 8
IsTermMark TermMark.block b = b ≡ 9
IsTermMark TermMark.close b = b ≡ 15
IsTermMark (TermMark.word w) b = b ≡ word_mark w

abbrev pub IsConditionMark : ConditionMark → ℕ → Type 0
IsConditionMark ConditionMark.other b = Unit {0}
IsConditionMark ConditionMark.condition b = b ≡ 11
IsConditionMark ConditionMark.result b = b ≡ 12

abbrev pub IsSentenceMark : SentenceMark → ℕ → Type 0
IsSentenceMark SentenceMark.other b = Unit {0}
IsSentenceMark SentenceMark.sentence b = b ≡ 10
IsSentenceMark SentenceMark.close b = b ≡ 15

abbrev pub IsItemMark : ItemMark → ℕ → Type 0
IsItemMark ItemMark.other b = Unit {0}
IsItemMark ItemMark.declaration b = b ≡ 17
IsItemMark ItemMark.function b = b ≡ 18

pub term_mark-is : (b : ℕ) → IsTermMark (term_mark b) b
unfolding term_mark word_mark kind_mark
term_mark-is b =
    by_test (λ k. IsTermMark k b) b 1 _ _ (λ e. e)
    (λ n. by_test (λ k. IsTermMark k b) b 2 _ _ (λ e. e)
    (λ n. by_test (λ k. IsTermMark k b) b 3 _ _ (λ e. e)
    (λ n. by_test (λ k. IsTermMark k b) b 4 _ _ (λ e. e)
    (λ n. by_test (λ k. IsTermMark k b) b 5 _ _ (λ e. e)
    (λ n. by_test (λ k. IsTermMark k b) b 6 _ _ (λ e. e)
    (λ n. by_test (λ k. IsTermMark k b) b 7 _ _ (λ e. e)
    (λ n. by_test (λ k. IsTermMark k b) b 8 _ _ (λ e. e)
    (λ n. by_test (λ k. IsTermMark k b) b 9 _ _ (λ e. e)
    (λ n. by_test (λ k. IsTermMark k b) b 15 _ _ (λ e. e) (λ n. tt))))))))))

pub condition_mark-is : (b : ℕ) → IsConditionMark (condition_mark b) b
unfolding condition_mark
condition_mark-is b = by_test (λ k. IsConditionMark k b) b 11 _ _ (λ e. e) (λ n. by_test (λ k. IsConditionMark k b) b 12 _ _ (λ e. e) (λ n. tt))

pub sentence_mark-is : (b : ℕ) → IsSentenceMark (sentence_mark b) b
unfolding sentence_mark
sentence_mark-is b = by_test (λ k. IsSentenceMark k b) b 10 _ _ (λ e. e) (λ n. by_test (λ k. IsSentenceMark k b) b 15 _ _ (λ e. e) (λ n. tt))

pub item_mark-is : (b : ℕ) → IsItemMark (item_mark b) b
unfolding item_mark
item_mark-is b = by_test (λ k. IsItemMark k b) b 17 _ _ (λ e. e) (λ n. by_test (λ k. IsItemMark k b) b 18 _ _ (λ e. e) (λ n. tt))

pick_says : {A : Type 0} (s : List ℕ) (P : A → Type 0) (t : Bool) (a b : Turn A) → (t ≡ true → Says s P a) → (t ≡ false → Says s P b) → Says s P (pick t a b)
pick_says s P true a b f g = f refl
pick_says s P false a b f g = g refl

spanned_says : {A : Type 0} (s : List ℕ) (P : A → Type 0) (f : Span → Turn A) → Bytes s
    → ((p : Span) → ValidSpan p → ((k : List ℕ) → s ≡ take 8 s ++ k → s ≡ put_span p k) → Says s P (f p)) → Says s P (spanned s f)
unfolding spanned get_span
spanned_says s P f h then =
    pick_says s P (ltb (length s) 8) _ _ (λ e. tt)
    (λ e. pick_says s P (ltb (get32 s 4) (get32 s 0)) _ _ (λ e2. tt)
    (λ e2. then (get_span s 0) (ltb-false (get32 s 4) (get32 s 0) e2, get32-fits s 4 h) (λ k q. span_back s k h (ltb-false (length s) 8 e) q)))

nested_says : {A : Type 0} (s : List ℕ) (P : A → Type 0) (d : ℕ) (t : Turn A) → (d < 32 → Says s P t) → Says s P (nested d s t)
unfolding nested wrong
nested_says s P d t f = pick_says s P (ltb d 32) t _ (λ e. f (ltb-true d 32 e)) (λ e. tt)

outside_says : {A : Type 0} (s : List ℕ) (P : A → Type 0) (m : Mode) (t : Turn A) → (NotPattern m → Says s P t) → Says s P (outside m s t)
unfolding outside wrong
outside_says s P Mode.pattern t f = tt
outside_says s P Mode.result t f = f tt

scan_says : {A : Type 0} (s : List ℕ) (P : A → Type 0) (r : Scan) (t : Turn A) → (r ≡ Scan.good → Says s P t) → Says s P (scanned r t)
unfolding scanned
scan_says s P (Scan.refuse n l) t f = tt
scan_says s P Scan.good t f = f refl

pub scan_good : (g : Bool) (n : ℕ) (s : List ℕ) → scan g n s ≡ Scan.good → (n ≤ length s) × AllAllowed g (take n s)
unfolding scan
scan_good g zero s e = (omega arith, tt)
scan_good g (suc n) [] e = absurd (let z : ◌≡◌ {A = ℕ} 0 1 = cc in omega arith)
scan_good g (suc n) (b ∷ s) e = by (scan_good g n s) (allowed g b) refl e
  where
    by : (scan g n s ≡ Scan.good → (n ≤ length s) × AllAllowed g (take n s)) → (t : Bool) → allowed g b ≡ t → pick t (scan g n s) (Scan.refuse 6 (suc (length s))) ≡ Scan.good → (suc n ≤ suc (length s)) × ((allowed g b ≡ true) × AllAllowed g (take n s))
    by ih true p q = let r = ih q in (omega arith, (p, r.1))
    by ih false p q = absurd (let z : ◌≡◌ {A = ℕ} 0 1 = cc in omega arith)

named_says : {A : Type 0} (s : List ℕ) (P : A → Type 0) (g : Bool) (b : ℕ) (t : Turn A) → (ValidName g (take b s) → b ≡ length (take b s) → Says s P t) → Says s P (named g b s t)
unfolding named wrong
named_says s P g b t f =
    pick_says s P (ltb 0 b) _ _
    (λ e. pick_says s P (leb b 63) _ _
    (λ e2. scan_says s P (scan g b s) t
    (λ e3.
    let h = scan_good g b s e3 in
    let l : length (take b s) ≡ b = length-take-le b s h.0 in
    let h1 = ltb-true 0 b e in
    let h2 = leb-true b 63 e2 in
    f (omega arith, omega arith, h.1) (sym l)))
    (λ e2. tt))
    (λ e. tt)

both : {b c : ℕ} {s t : List ℕ} → b ≡ c → s ≡ t → b ∷ s ≡ c ∷ t
both p q = λ i. p i ∷ q i

-- The bytes of a term that is a span and a name.
word_bytes : (w : Word) (s : Span) (n : List ℕ) (r : Terms) (k : List ℕ) → word_mark w ∷ put_span s (put_name n (put_terms r k)) ≡ put_terms (word_term w s n r) k
unfolding word_mark word_term put_terms put_symbol
word_bytes Word.identifier s n r k = refl
word_bytes Word.number s n r k = refl
word_bytes (Word.variable v) s n r k = refl

word-valid : (w : Word) (s : Span) (n : List ℕ) (r : Terms) (m : Mode) (d : ℕ) → ValidSpan s → ValidName (is_number w) n → ValidTerms r m d → ValidTerms (word_term w s n r) m d
unfolding is_number word_term
word-valid Word.identifier s n r m d hs hn hr = (hs, hn, hr)
word-valid Word.number s n r m d hs hn hr = (hs, hn, hr)
word-valid (Word.variable v) s n r m d hs hn hr = (hs, hn, hr)

-- A turn at each mark.
terms_says : (k : TermMark) (m : Mode) (d : ℕ) (x : Stack) (b : ℕ) (s : List ℕ) → IsTermMark k b → Bytes s → Says s (Back (Stack.terms m d x) b s) (turn_terms k m d x s)
unfolding turn_terms wrong put_terms put_symbol
terms_says TermMark.other m d x b s q h = tt
terms_says TermMark.character m d x b s q h =
    spanned_says s (Back (Stack.terms m d x) b s) _ h
    (λ p hp back v e hv. (both q (back _ e), ((hp, hv.0, hv.1.0), hv.1.1)))
terms_says (TermMark.word w) m d x b s q h =
    spanned_says s (Back (Stack.terms m d x) b s) _ h
    (λ p hp back v e hv. (both q (back _ e) ∙ word_bytes w p v.0 v.1.0 (encodings x v.1.1), (word-valid w p v.0 v.1.0 m d hp hv.0 hv.1.0, hv.1.1)))
terms_says TermMark.bracket m d x b s q h =
    nested_says s (Back (Stack.terms m d x) b s) d _
    (λ hd. spanned_says s (Back (Stack.terms m d x) b s) _ h
    (λ p hp back v e hv. (both q (back _ e), ((hp, hd, hv.0, hv.1.0), hv.1.1))))
terms_says TermMark.call m d x b s q h =
    outside_says s (Back (Stack.terms m d x) b s) m _
    (λ ho. nested_says s (Back (Stack.terms m d x) b s) d _
    (λ hd. spanned_says s (Back (Stack.terms m d x) b s) _ h
    (λ p hp back v e hv. (both q (back _ e), ((hp, hd, ho, hv.0, hv.1.0, hv.1.1.0), hv.1.1.1)))))
terms_says TermMark.block m d x b s q h =
    outside_says s (Back (Stack.terms m d x) b s) m _
    (λ ho. nested_says s (Back (Stack.terms m d x) b s) d _
    (λ hd. spanned_says s (Back (Stack.terms m d x) b s) _ h
    (λ p hp back v e hv. (both q (back _ e), ((hp, hd, ho, hv.0, hv.1.0, hv.1.1.0), hv.1.1.1)))))
terms_says TermMark.close m d x b s q h = λ v e hv. (both q e, (tt, hv))

conditions_says : (k : ConditionMark) (d : ℕ) (x : Stack) (b : ℕ) (s : List ℕ) → IsConditionMark k b → Bytes s → Says s (Back (Stack.conditions d x) b s) (turn_conditions k d x s)
unfolding turn_conditions wrong put_conditions
conditions_says ConditionMark.other d x b s q h = tt
conditions_says ConditionMark.condition d x b s q h =
    spanned_says s (Back (Stack.conditions d x) b s) _ h
    (λ p hp back v e hv. (both q (back _ e), ((hp, hv.0, hv.1.0, hv.1.1.0), hv.1.1.1)))
conditions_says ConditionMark.result d x b s q h = λ v e hv. (both q e, (tt, hv))

sentences_says : (k : SentenceMark) (d : ℕ) (x : Stack) (b : ℕ) (s : List ℕ) → IsSentenceMark k b → Bytes s → Says s (Back (Stack.sentences d x) b s) (turn_sentences k d x s)
unfolding turn_sentences wrong put_sentences put_head
sentences_says SentenceMark.other d x b s q h = tt
sentences_says SentenceMark.sentence d x b s q h =
    spanned_says s (Back (Stack.sentences d x) b s) _ h
    (λ p hp back v e hv. (both q (back _ e), ((hp, hv.0, hv.1.0, hv.1.1.0, hv.1.1.1.0), hv.1.1.1.1)))
sentences_says SentenceMark.close d x b s q h = λ v e hv. (both q e, (tt, hv))

functions_says : (k : ItemMark) (b : ℕ) (s : List ℕ) → IsItemMark k b → Bytes s → Says s (Back Stack.functions b s) (turn_functions k s)
unfolding turn_functions turn_function wrong put_function put_functions
functions_says ItemMark.other b s q h = tt
functions_says ItemMark.declaration b s q h = tt
functions_says ItemMark.function b s q h =
    spanned_says s (Back Stack.functions b s) _ h
    (λ p hp back v e hv. (both q (back _ e), (hp, hv.0, hv.1.0, hv.1.1)))

body_says : (k : ItemMark) (b : ℕ) (s : List ℕ) → IsItemMark k b → Bytes s → Says s (Back Stack.body b s) (turn_body k s)
unfolding turn_body turn_function wrong put_body put_declarations put_function put_functions
body_says ItemMark.other b s q h = tt
body_says ItemMark.declaration b s q h =
    spanned_says s (Back Stack.body b s) _ h
    (λ p hp back v e hv. (both q (back _ e), ((hp, hv.0, hv.1, hv.2.0), hv.2.1)))
body_says ItemMark.function b s q h =
    spanned_says s (Back Stack.body b s) _ h
    (λ p hp back v e hv. (both q (back _ e), (tt, (hp, hv.0, hv.1.0, hv.1.1))))

names_says : (n : ℕ) (b : ℕ) (x : Stack) (s : List ℕ) → Says s (Back (Stack.names n x) b s) (turn_names n b x s)
unfolding turn_names put_names put_name
names_says zero b x s =
    named_says s (Back (Stack.names zero x) b s) false b _
    (λ hn l v e hv. (both l e, (refl, (hn, tt), hv)))
names_says (suc n) b x s =
    named_says s (Back (Stack.names (suc n) x) b s) false b _
    (λ hn l v e hv. (both l e, (ap suc hv.0, (hn, hv.1), hv.2)))

counted_says : (b : ℕ) (x : Stack) (s : List ℕ) → b < 256 → Says s (Back (Stack.counted x) b s) (turn_counted b x)
unfolding turn_counted put_names
counted_says zero x s hb = λ v e hv. (both refl e, (hb, tt, hv))
counted_says (suc n) x s hb = λ v e hv. (both (sym hv.0) e, (omega (arith, hv.0), hv.1, hv.2))

visibility_says : (b : ℕ) (x : Stack) (s : List ℕ) → Says s (Back (Stack.visibility x) b s) (turn_visibility b x s)
unfolding turn_visibility wrong visibility_byte
visibility_says zero x s = λ v e hv. (both refl e, hv)
visibility_says (suc zero) x s = λ v e hv. (both refl e, hv)
visibility_says (suc (suc n)) x s = tt

code_says : (x : Stack) (b : ℕ) (s : List ℕ) → Bytes (b ∷ s) → Says s (Back (Stack.code x) b s) (turn_code b x s)
unfolding turn_code wrong
code_says x b s h =
    pick_says s (Back (Stack.code x) b s) (ltb (length s) 3) _ _ (λ e. tt)
    (λ e. pick_says s (Back (Stack.code x) b s) (scalar (get32 (b ∷ s) 0)) _ _
    (λ e2 v q hv. let l = ltb-false (length s) 3 e in (put32_back (b ∷ s) _ h (omega arith) (both refl q), (e2, hv)))
    (λ e2. tt))

turn_says : (x : Stack) (b : ℕ) (s : List ℕ) → Bytes (b ∷ s) → Says s (Back x b s) (turn x b s)
unfolding turn put_name
turn_says Stack.any b s h = (refl, tt)
turn_says Stack.body b s h = body_says (item_mark b) b s (item_mark-is b) h.1
turn_says Stack.functions b s h = functions_says (item_mark b) b s (item_mark-is b) h.1
turn_says (Stack.terms m d x) b s h = terms_says (term_mark b) m d x b s (term_mark-is b) h.1
turn_says (Stack.conditions d x) b s h = conditions_says (condition_mark b) d x b s (condition_mark-is b) h.1
turn_says (Stack.sentences d x) b s h = sentences_says (sentence_mark b) d x b s (sentence_mark-is b) h.1
turn_says (Stack.name g x) b s h = named_says s (Back (Stack.name g x) b s) g b _ (λ hn l v e hv. (both l e, (hn, hv)))
turn_says (Stack.names n x) b s h = names_says n b x s
turn_says (Stack.code x) b s h = code_says x b s h
turn_says (Stack.visibility x) b s h = visibility_says b x s
turn_says (Stack.counted x) b s h = counted_says b x s h.0

pub apart : {A : Type 0} {n l : ℕ} {v : A} → Read.refused n l ≡ Read.value v → ⊥
apart e = let z : ◌≡◌ {A = ℕ} 0 1 = cc in omega arith

abbrev blank : Program
blank = record { declarations = []; functions = [] }

end_says : (x : Stack) (v : Values x) → at_end x ≡ Read.value v → ([] ≡ encodings x v) × ValidValues x v
unfolding at_end put_body put_declarations put_functions
end_says Stack.any v e = let q : [] ≡ v = cc in (q, tt)
end_says Stack.body v e = let q : blank ≡ v = cc in subst (λ (w : Program). ([] ≡ put_body w) × ValidBody w) q (refl, (tt, tt))
end_says Stack.functions v e = let q : [] ≡ v = cc in subst (λ (w : List Function). ([] ≡ put_functions w) × ValidFunctions w) q (refl, tt)
end_says (Stack.terms m d x) v e = absurd (apart e)
end_says (Stack.conditions d x) v e = absurd (apart e)
end_says (Stack.sentences d x) v e = absurd (apart e)
end_says (Stack.name g x) v e = absurd (apart e)
end_says (Stack.names n x) v e = absurd (apart e)
end_says (Stack.code x) v e = absurd (apart e)
end_says (Stack.visibility x) v e = absurd (apart e)
end_says (Stack.counted x) v e = absurd (apart e)

made_ok : {A B : Type 0} (g : A → B) (r : Read A) {v : B} → made g r ≡ Read.value v → (u : A) × (r ≡ Read.value u) × (g u ≡ v)
unfolding made
made_ok g (Read.refused n l) e = absurd (apart e)
made_ok g (Read.value u) e = (u, refl, cc)

-- What a turn leads to.
follow_says : {A : Type 0} (s : List ℕ) (P : A → Type 0) (t : Turn A) (v : A) → Says s P t
    → ((y : Stack) (k : ℕ) (u : Values y) → run y k s ≡ Read.value u → (s ≡ take k s ++ encodings y u) × ValidValues y u)
    → follow t (λ y k. run y k s) ≡ Read.value v → P v
unfolding follow
follow_says s P (Turn.refuse n l) v h ih e = absurd (apart e)
follow_says s P (Turn.done a) v h ih e = let q : a ≡ v = cc in subst P q h
follow_says s P (Turn.go y k g) v h ih e =
    let (u, r, q) = made_ok g (run y k s) e in
    let w = ih y k u r in
    subst P q (h u w.0 w.1)

pub sound : (s : List ℕ) (x : Stack) (k : ℕ) (v : Values x) → Bytes s → run x k s ≡ Read.value v → (s ≡ take k s ++ encodings x v) × ValidValues x v
unfolding run
sound [] x zero v h e = end_says x v e
sound [] x (suc k) v h e = absurd (apart e)
sound (b ∷ s) x zero v h e = follow_says s (Back x b s) (turn x b s) v (turn_says x b s h) (λ y k u r. sound s y k u h.1 r) e
sound (b ∷ s) x (suc k) v h e = let w = sound s x k v h.1 e in (both refl w.0, w.1)
