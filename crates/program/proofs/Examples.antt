-- The definitions evaluated: document 01's worked program, its 12-byte image of zeros, and small images for each refusal.
use Prim.Native.Nat.{ℕ, zero, suc}
use mathlib.Core.Path.{◌≡◌, refl}
use mathlib.Core.List.{List, [], ◌∷◌, ◌++◌, map}
use lib.ListN.{length, replicate}
use Rattle.program.specs.Syntax.{Span, character, e_kind, nil, symbol, variable, bracket, call, none, empty, sentence, local, entry, Function, Program}
use Rattle.program.specs.Bytes.{put16, put32, put_span, put_name, get16, get32, get_span}
use Rattle.program.specs.Encode.{put_symbol, kind_mark, put_head, put_terms, put_conditions, put_sentences, put_names, put_declarations, visibility_byte, put_function, put_functions, put_body, sentence_count, own_sentence_count, trailer, encode}
use Rattle.program.specs.Limits.{allowed, scalar}
use Rattle.program.specs.Automaton.{wrong, spanned, nested, outside, scan, scanned, named, word_term, is_number, term_mark, turn_terms, condition_mark, turn_conditions, sentence_mark, turn_sentences, item_mark, turn_function, turn_functions, turn_body, turn_names, turn_counted, turn_visibility, turn_code, turn, made, at_end, follow, run}
use Rattle.program.specs.Decode.{Answer, sized, pointed, agrees, settled, decode_sized, decode}

-- A name for all that has to unfold.
unfoldable evaluated : ℕ
unfolding put16 put32 put_span put_name get16 get32 get_span put_symbol kind_mark put_head put_terms put_conditions put_sentences put_names put_declarations visibility_byte put_function put_functions put_body sentence_count own_sentence_count trailer encode allowed scalar wrong spanned nested outside scan scanned named word_term is_number term_mark turn_terms condition_mark turn_conditions sentence_mark turn_sentences item_mark turn_function turn_functions turn_body turn_names turn_counted turn_visibility turn_code turn made at_end follow run sized pointed agrees settled decode_sized decode
evaluated = 0

-- "A 12-byte image of zeros"
zeros : decode (replicate 12 0) ≡ Answer.accepted (record { declarations = []; functions = [] })
unfolding evaluated
zeros = refl

at : ℕ → ℕ → Span
at a b = record { start = a; end = b }

-- "For `$ENTRY Go { e.X = <F 'A' e.X>; }` and `F { 'A' e.Y = e.Y; (e.Z) = 'B'; }`", with the spans of examples/worked.ref.
go : Function
unfolding at
go = record {
  span = at 0 32;
  visibility = entry;
  name = 71 ∷ 111 ∷ [];
  sentences =
      sentence (record { span = at 12 30 }) (variable (at 12 15) e_kind (88 ∷ []) nil) none
      (call (at 18 29) (70 ∷ []) (symbol (at 21 24) (character 65) (variable (at 25 28) e_kind (88 ∷ []) nil)) nil) empty;
}

f : Function
unfolding at
f = record {
  span = at 33 66;
  visibility = local;
  name = 70 ∷ [];
  sentences =
      sentence (record { span = at 37 51 }) (symbol (at 37 40) (character 65) (variable (at 41 44) e_kind (89 ∷ []) nil)) none
      (variable (at 47 50) e_kind (89 ∷ []) nil)
      (sentence (record { span = at 52 64 }) (bracket (at 52 57) (variable (at 53 56) e_kind (90 ∷ []) nil) nil) none
      (symbol (at 60 63) (character 66) nil) empty);
}

worked : Program
unfolding go f
worked = record { declarations = []; functions = go ∷ f ∷ [] }

-- Its image, as tools/worked.py writes it.
image_of_worked : List ℕ
image_of_worked =
    18 ∷ 0 ∷ 0 ∷ 0 ∷ 0 ∷ 32 ∷ 0 ∷ 0 ∷ 0 ∷ 1 ∷ 2 ∷ 71 ∷ 111 ∷ 10 ∷ 12 ∷ 0 ∷ 0 ∷ 0 ∷ 30 ∷ 0 ∷ 0 ∷ 0 ∷ 6 ∷ 12
    ∷ 0 ∷ 0 ∷ 0 ∷ 15 ∷ 0 ∷ 0 ∷ 0 ∷ 1 ∷ 88 ∷ 15 ∷ 12 ∷ 8 ∷ 18 ∷ 0 ∷ 0 ∷ 0 ∷ 29 ∷ 0 ∷ 0 ∷ 0 ∷ 1 ∷ 70 ∷ 1 ∷ 21
    ∷ 0 ∷ 0 ∷ 0 ∷ 24 ∷ 0 ∷ 0 ∷ 0 ∷ 65 ∷ 0 ∷ 0 ∷ 0 ∷ 6 ∷ 25 ∷ 0 ∷ 0 ∷ 0 ∷ 28 ∷ 0 ∷ 0 ∷ 0 ∷ 1 ∷ 88 ∷ 15 ∷ 15
    ∷ 15 ∷ 18 ∷ 33 ∷ 0 ∷ 0 ∷ 0 ∷ 66 ∷ 0 ∷ 0 ∷ 0 ∷ 0 ∷ 1 ∷ 70 ∷ 10 ∷ 37 ∷ 0 ∷ 0 ∷ 0 ∷ 51 ∷ 0 ∷ 0 ∷ 0 ∷ 1 ∷ 37
    ∷ 0 ∷ 0 ∷ 0 ∷ 40 ∷ 0 ∷ 0 ∷ 0 ∷ 65 ∷ 0 ∷ 0 ∷ 0 ∷ 6 ∷ 41 ∷ 0 ∷ 0 ∷ 0 ∷ 44 ∷ 0 ∷ 0 ∷ 0 ∷ 1 ∷ 89 ∷ 15 ∷ 12
    ∷ 6 ∷ 47 ∷ 0 ∷ 0 ∷ 0 ∷ 50 ∷ 0 ∷ 0 ∷ 0 ∷ 1 ∷ 89 ∷ 15 ∷ 10 ∷ 52 ∷ 0 ∷ 0 ∷ 0 ∷ 64 ∷ 0 ∷ 0 ∷ 0 ∷ 7 ∷ 52 ∷ 0
    ∷ 0 ∷ 0 ∷ 57 ∷ 0 ∷ 0 ∷ 0 ∷ 6 ∷ 53 ∷ 0 ∷ 0 ∷ 0 ∷ 56 ∷ 0 ∷ 0 ∷ 0 ∷ 1 ∷ 90 ∷ 15 ∷ 15 ∷ 12 ∷ 1 ∷ 60 ∷ 0 ∷ 0
    ∷ 0 ∷ 63 ∷ 0 ∷ 0 ∷ 0 ∷ 66 ∷ 0 ∷ 0 ∷ 0 ∷ 15 ∷ 15 ∷ 179 ∷ 0 ∷ 0 ∷ 0 ∷ 179 ∷ 0 ∷ 0 ∷ 0 ∷ 2 ∷ 0 ∷ 3 ∷ 0 ∷ []

worked_encoded : encode worked ≡ image_of_worked
unfolding evaluated at go f worked image_of_worked
worked_encoded = refl

worked_decoded : decode image_of_worked ≡ Answer.accepted worked
unfolding evaluated at go f worked image_of_worked
worked_decoded = refl

-- An image of a body that is written by hand, and of one function with one sentence.
image : List ℕ → ℕ → ℕ → ℕ → List ℕ
unfolding put32 put16
image body first functions sentences = body ++ put32 (length body) (put32 first (put16 functions (put16 sentences [])))

span : List ℕ
span = 1 ∷ 0 ∷ 0 ∷ 0 ∷ 2 ∷ 0 ∷ 0 ∷ 0 ∷ []

one : List ℕ → List ℕ → List ℕ
unfolding span
one p r = 18 ∷ span ++ (1 ∷ 1 ∷ 102 ∷ 10 ∷ span ++ (p ++ (15 ∷ 12 ∷ r ++ (15 ∷ 15 ∷ []))))

sealed : List ℕ → List ℕ
unfolding image
sealed b = image b (length b) 1 1

-- Brackets, n of them, one in another.
deep : ℕ → List ℕ
unfolding span
deep zero = []
deep (suc n) = 7 ∷ span ++ (deep n ++ (15 ∷ []))

code : ℕ → List ℕ
unfolding span put32
code c = 1 ∷ span ++ put32 c []

number : Answer → ℕ × ℕ
number (Answer.refused n p) = (n, p)
number (Answer.accepted w) = (0, 0)

-- Images, and the refusal with its place, or 0 and 0, as tools/reader.py answers them.
cases : List (List ℕ × (ℕ × ℕ))
unfolding image span one deep code sealed
cases =
    (replicate 11 0, (1, 0))
    ∷ (replicate 32769 0, (1, 0))
    ∷ (replicate 13 0, (4, 0))
    ∷ (image [] 1 0 0, (4, 0))
    ∷ (image [] 0 1 0, (11, 0))
    ∷ (image (0 ∷ []) 0 0 0, (5, 0))
    ∷ (image (17 ∷ []) 0 0 0, (5, 1))
    ∷ (image (17 ∷ span ++ (0 ∷ [])) 0 0 0, (0, 0))
    ∷ (image (17 ∷ span ++ (0 ∷ 0 ∷ [])) 0 0 0, (5, 10))
    ∷ (image (17 ∷ span ++ (1 ∷ 0 ∷ [])) 0 0 0, (6, 10))
    ∷ (image (17 ∷ span ++ (1 ∷ 64 ∷ [])) 0 0 0, (6, 10))
    ∷ (image (17 ∷ span ++ (1 ∷ 3 ∷ 65 ∷ 32 ∷ [])) 0 0 0, (6, 12))
    ∷ (image (17 ∷ span ++ (1 ∷ 3 ∷ 65 ∷ 66 ∷ [])) 0 0 0, (5, 13))
    ∷ (image (17 ∷ 2 ∷ 0 ∷ 0 ∷ 0 ∷ 1 ∷ 0 ∷ 0 ∷ 0 ∷ 0 ∷ []) 0 0 0, (8, 1))
    ∷ (image (18 ∷ span ++ (2 ∷ [])) 10 1 0, (5, 9))
    ∷ (image (18 ∷ span ++ (0 ∷ 1 ∷ 102 ∷ 15 ∷ 17 ∷ [])) 13 1 0, (5, 13))
    ∷ (image (18 ∷ span ++ (0 ∷ 1 ∷ 102 ∷ 15 ∷ [])) 12 1 0, (11, 0))
    ∷ (sealed (one [] []), (0, 0))
    ∷ (sealed (one (8 ∷ []) []), (9, 21))
    ∷ (sealed (one (deep 32) []), (0, 0))
    ∷ (sealed (one (deep 33) []), (10, 309))
    ∷ (sealed (one (code 55295) (code 57344)), (0, 0))
    ∷ (sealed (one (code 55296) []), (7, 30))
    ∷ (sealed (one (code 57343) []), (7, 30))
    ∷ (sealed (one (code 1114111) []), (0, 0))
    ∷ (sealed (one (code 1114112) []), (7, 30))
    ∷ (sealed (one (3 ∷ span ++ (2 ∷ 48 ∷ 65 ∷ [])) []), (6, 32))
    ∷ []

cases_hold : map (λ (r : List ℕ × (ℕ × ℕ)). number (decode r.0)) cases ≡ map (λ (r : List ℕ × (ℕ × ℕ)). r.1) cases
unfolding evaluated image span one deep code sealed number cases
cases_hold = refl
