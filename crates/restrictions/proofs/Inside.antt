-- What the first mark says of records: the lists inside the first of them, what comes after it, and the sites of each.
use Prim.Native.Nat.{ℕ, suc, ◌+◌, ◌<◌, ◌≤◌}
use native.Mathlib.Omega.{arith}
use mathlib.Core.Path.{◌≡◌, refl, ap, ◌∙◌}
use mathlib.Core.Logic.{◌⊎◌, inl, inr}
use mathlib.Core.List.{List, [], ◌∷◌, ◌++◌, append_assoc}
use lib.ListN.{length, get_or, drop}
use Rattle.program.specs.Syntax.{Span, Symbol, character, identifier, number, Kind, s_kind, t_kind, e_kind, Terms, nil, symbol, variable, bracket, call, block, none, condition, empty, sentence}
use Rattle.program.specs.Bytes.{put32, put_span}
use Rattle.program.specs.Encode.{put_symbol, kind_mark, put_head, put_terms, put_conditions, put_sentences}
use Rattle.program.specs.Limits.{Mode, ValidTerms}
use Rattle.image.specs.Parts.{put_sentence, SentenceAt, tail}
use Rattle.program.proofs.Lengths.{name-length, symbol-length, terms-length, conditions-length, sentences-length}
use Rattle.image.proofs.Readings.{fewer_around, fewer_around_sentences}
use Rattle.meaning.specs.Sites.{Site, site, collect_call_sites, condition_sites, sentence_sites}
use Rattle.restrictions.specs.Entries.{CallAt}
use Rattle.restrictions.specs.Records.{Records, terms, conditions, sentences, put_records, record_sites, ValidRecords}

-- Patterns have no sites: "9: call or block inside a pattern."
pub pattern-sites : (p : Terms) (d : ℕ) → ValidTerms p Mode.pattern d → collect_call_sites p ≡ []
unfolding collect_call_sites
pattern-sites nil d h = refl
pattern-sites (symbol s x r) d h = pattern-sites r d h.2
pattern-sites (variable s k n r) d h = pattern-sites r d h.2
pattern-sites (bracket s i r) d h = ap (λ (l : List Site). l ++ collect_call_sites r) (pattern-sites i (suc d) h.2) ∙ pattern-sites r d h.3
pattern-sites (call s f a r) d h = absurd h.2
pattern-sites (block s a b r) d h = absurd h.2

-- What is right in a pattern is right elsewhere.
pub pattern-result : (p : Terms) (d : ℕ) → ValidTerms p Mode.pattern d → ValidTerms p Mode.result d
pattern-result nil d h = tt
pattern-result (symbol s x r) d h = (h.0, h.1, pattern-result r d h.2)
pattern-result (variable s k n r) d h = (h.0, h.1, pattern-result r d h.2)
pattern-result (bracket s i r) d h = (h.0, h.1, pattern-result i (suc d) h.2, pattern-result r d h.3)
pattern-result (call s f a r) d h = absurd h.2
pattern-result (block s a b r) d h = absurd h.2

symbol_low : (s : Span) (x : Symbol) (k : List ℕ) → get_or (put_symbol s x k) 0 0 ≤ 3
unfolding put_symbol
symbol_low s (character c) k = omega arith
symbol_low s (identifier n) k = omega arith
symbol_low s (number n) k = omega arith

kind-low : (v : Kind) → kind_mark v ≤ 6
unfolding kind_mark
kind-low s_kind = omega arith
kind-low t_kind = omega arith
kind-low e_kind = omega arith

pub records-length : (x : Records) (k : List ℕ) → suc (length k) ≤ length (put_records x k)
unfolding put_records
records-length (terms t) k = terms-length t k
records-length (conditions c) k = omega (arith, conditions-length c (12 ∷ k))
records-length (sentences b) k = omega (arith, sentences-length b k)

-- Terms, conditions and sentences are three sorts of records.
abbrev pub sort : Records → ℕ
sort (terms t) = 0
sort (conditions c) = 1
sort (sentences b) = 2

-- Lists of records that stand one after another, each up to its close.
abbrev pub put_all : List Records → List ℕ → List ℕ
put_all [] l = l
put_all (x ∷ xs) l = put_records x (put_all xs l)

abbrev pub sites_then : List Records → List Site → List Site
sites_then [] l = l
sites_then (x ∷ xs) l = record_sites x ++ sites_then xs l

abbrev pub AllValid : List Records → Type 0
AllValid [] = Unit {0}
AllValid (x ∷ xs) = ValidRecords x × AllValid xs

pub all-length : (xs : List Records) (l : List ℕ) → length xs + length l ≤ length (put_all xs l)
all-length [] l = omega arith
all-length (x ∷ xs) l = omega (arith, all-length xs l, records-length x (put_all xs l))

pub then_append : (xs : List Records) (l m : List Site) → sites_then xs l ++ m ≡ sites_then xs (l ++ m)
then_append [] l m = refl
then_append (x ∷ xs) l m = append_assoc (record_sites x) (sites_then xs l) m ∙ ap (λ (k : List Site). record_sites x ++ k) (then_append xs l m)

-- A bracket, a block or a condition: the lists that it opens. A pattern is a list like a result.
pub record OpenHere (x : Records) (k : List ℕ) : Type 0 where
  pub inner : List Records
  pub next : Records
  pub valid_inner : AllValid inner
  pub valid-next : ValidRecords next
  pub is : drop 9 (put_records x k) ≡ put_all inner (put_records next k)
  pub sites : record_sites x ≡ sites_then inner (record_sites next)
  pub same : sort next ≡ sort x
  pub many : ((get_or (put_records x k) 0 0 ≡ 7) × (length inner ≡ 1)) ⊎ ((get_or (put_records x k) 0 0 ≡ 7 → ⊥) × (length inner ≡ 2))

-- A call.
pub record CallHere (x : Records) (k : List ℕ) : Type 0 where
  pub call : CallAt (put_records x k)
  pub next : Records
  pub valid-next : ValidRecords next
  pub is : call.rest ≡ put_records next k
  pub sites : record_sites x ≡ site call.callee call.argument ∷ (record_sites (terms call.argument) ++ record_sites next)
  pub same : sort next ≡ sort x

-- A sentence.
pub record SentenceHere (x : Records) (k : List ℕ) : Type 0 where
  pub here : SentenceAt (put_records x k)
  pub next : Records
  pub valid-next : ValidRecords next
  pub is : here.rest ≡ put_records next k
  pub sites : record_sites x ≡ record_sites (terms here.sentence.result) ++ (record_sites (conditions here.sentence.conditions) ++ record_sites next)
  pub among : sort x ≡ 2

-- The close: the mark of a result for conditions.
pub record CloseHere (x : Records) (k : List ℕ) : Type 0 where
  pub is : drop 1 (put_records x k) ≡ k
  pub sites : record_sites x ≡ []
  pub of_conditions : sort x ≡ 1 → get_or (put_records x k) 0 0 ≡ 15 → ⊥
  pub of_others : (sort x ≡ 1 → ⊥) → get_or (put_records x k) 0 0 ≡ 15

-- A symbol or a variable.
pub record FlatHere (x : Records) (k : List ℕ) : Type 0 where
  pub first : Terms
  pub valid : ValidTerms first Mode.result 0
  pub valid-next : ValidTerms (tail first) Mode.result 0
  pub is : put_records x k ≡ put_terms first k
  pub sites : record_sites x ≡ record_sites (terms (tail first))
  pub same : 0 ≡ sort x
  pub less : length (put_terms (tail first) k) < length (put_terms first k)

module _ (k : List ℕ) where
  pub open_here : (x : Records) → ValidRecords x → 7 ≤ get_or (put_records x k) 0 0 → get_or (put_records x k) 0 0 < 12 → (get_or (put_records x k) 0 0 ≡ 8 → ⊥) → (get_or (put_records x k) 0 0 ≡ 10 → ⊥) → OpenHere x k
  unfolding put_records put_terms put_head put_conditions put_sentences record_sites collect_call_sites condition_sites sentence_sites put_span put32
  open_here (terms nil) v low high n8 n10 = absurd (omega arith)
  open_here (terms (symbol s x r)) v low high n8 n10 = absurd (omega (arith, symbol_low s x (put_terms r k), low))
  open_here (terms (variable s w n r)) v low high n8 n10 = absurd (omega (arith, kind-low w, low))
  open_here (terms (bracket s i r)) v low high n8 n10 =
      record {
        inner = terms i ∷ [];
        next = terms r;
        valid_inner = (fewer_around i Mode.result 1 0 (omega arith) v.2, tt);
        valid-next = v.3;
        is = refl;
        sites = refl;
        same = refl;
        many = inl (refl, refl);
      }
  open_here (terms (call s f a r)) v low high n8 n10 = absurd (n8 refl)
  open_here (terms (block s a b r)) v low high n8 n10 =
      record {
        inner = terms a ∷ sentences b ∷ [];
        next = terms r;
        valid_inner = (fewer_around a Mode.result 1 0 (omega arith) v.3, (fewer_around_sentences b 1 0 (omega arith) v.4, tt));
        valid-next = v.5;
        is = refl;
        sites = refl;
        same = refl;
        many = inr (λ e. omega arith, refl);
      }
  open_here (conditions none) v low high n8 n10 = absurd (omega arith)
  open_here (conditions (condition s t p c)) v low high n8 n10 =
      record {
        inner = terms t ∷ terms p ∷ [];
        next = conditions c;
        valid_inner = (v.1, (pattern-result p 0 v.2, tt));
        valid-next = v.3;
        is = refl;
        sites = refl;
        same = refl;
        many = inr (λ e. omega arith, refl);
      }
  open_here (sentences empty) v low high n8 n10 = absurd (omega arith)
  open_here (sentences (sentence h p c r b)) v low high n8 n10 = absurd (n10 refl)

  pub call-here : (x : Records) → ValidRecords x → get_or (put_records x k) 0 0 ≡ 8 → CallHere x k
  unfolding put_records put_terms put_head put_conditions put_sentences record_sites collect_call_sites condition_sites sentence_sites put_span put32
  call-here (terms nil) v e = absurd (omega arith)
  call-here (terms (symbol s x r)) v e = absurd (omega (arith, symbol_low s x (put_terms r k), e))
  call-here (terms (variable s w n r)) v e = absurd (omega (arith, kind-low w, e))
  call-here (terms (bracket s i r)) v e = absurd (omega arith)
  call-here (terms (call s f a r)) v e = record { call = record { span = s; callee = f; argument = a; rest = put_terms r k; is = refl; valid = fewer_around a Mode.result 1 0 (omega arith) v.4 }; next = terms r; valid-next = v.5; is = refl; sites = refl; same = refl }
  call-here (terms (block s a b r)) v e = absurd (omega arith)
  call-here (conditions none) v e = absurd (omega arith)
  call-here (conditions (condition s t p c)) v e = absurd (omega arith)
  call-here (sentences empty) v e = absurd (omega arith)
  call-here (sentences (sentence h p c r b)) v e = absurd (omega arith)

  pub sentence-here : (x : Records) → ValidRecords x → get_or (put_records x k) 0 0 ≡ 10 → SentenceHere x k
  unfolding put_records put_terms put_head put_conditions put_sentences record_sites collect_call_sites condition_sites sentence_sites put_span put32 put_sentence
  sentence-here (terms nil) v e = absurd (omega arith)
  sentence-here (terms (symbol s x r)) v e = absurd (omega (arith, symbol_low s x (put_terms r k), e))
  sentence-here (terms (variable s w n r)) v e = absurd (omega (arith, kind-low w, e))
  sentence-here (terms (bracket s i r)) v e = absurd (omega arith)
  sentence-here (terms (call s f a r)) v e = absurd (omega arith)
  sentence-here (terms (block s a b r)) v e = absurd (omega arith)
  sentence-here (conditions none) v e = absurd (omega arith)
  sentence-here (conditions (condition s t p c)) v e = absurd (omega arith)
  sentence-here (sentences empty) v e = absurd (omega arith)
  sentence-here (sentences (sentence h p c r b)) v e =
      record {
        here = record { sentence = record { head = h; pattern = p; conditions = c; result = r }; rest = put_sentences b k; is = refl; valid-pattern = v.1; valid-conditions = v.2; valid-result = v.3 };
        next = sentences b;
        valid-next = v.4;
        is = refl;
        sites = ap (λ (l : List Site). l ++ (collect_call_sites r ++ (condition_sites c ++ sentence_sites b))) (pattern-sites p 0 v.1);
        among = refl;
      }

  pub close-here : (x : Records) → ValidRecords x → 12 ≤ get_or (put_records x k) 0 0 → CloseHere x k
  unfolding put_records put_terms put_head put_conditions put_sentences record_sites collect_call_sites condition_sites sentence_sites put_span put32
  close-here (terms nil) v l = record { is = refl; sites = refl; of_conditions = λ e f. absurd (omega arith); of_others = λ e. refl }
  close-here (terms (symbol s x r)) v l = absurd (omega (arith, symbol_low s x (put_terms r k), l))
  close-here (terms (variable s w n r)) v l = absurd (omega (arith, kind-low w, l))
  close-here (terms (bracket s i r)) v l = absurd (omega arith)
  close-here (terms (call s f a r)) v l = absurd (omega arith)
  close-here (terms (block s a b r)) v l = absurd (omega arith)
  close-here (conditions none) v l = record { is = refl; sites = refl; of_conditions = λ e f. omega arith; of_others = λ e. absurd (e refl) }
  close-here (conditions (condition s t p c)) v l = absurd (omega arith)
  close-here (sentences empty) v l = record { is = refl; sites = refl; of_conditions = λ e f. absurd (omega arith); of_others = λ e. refl }
  close-here (sentences (sentence h p c r b)) v l = absurd (omega arith)

  pub flat_here : (x : Records) → ValidRecords x → get_or (put_records x k) 0 0 < 7 → FlatHere x k
  unfolding put_records put_terms put_head put_conditions put_sentences record_sites collect_call_sites condition_sites sentence_sites put_span put32 tail
  flat_here (terms nil) v l = absurd (omega arith)
  flat_here (terms (symbol s x r)) v l = record { first = symbol s x r; valid = v; valid-next = v.2; is = refl; sites = refl; same = refl; less = omega (arith, symbol-length s x (put_terms r k)) }
  flat_here (terms (variable s w n r)) v l = record { first = variable s w n r; valid = v; valid-next = v.2; is = refl; sites = refl; same = refl; less = omega (arith, name-length n (put_terms r k)) }
  flat_here (terms (bracket s i r)) v l = absurd (omega arith)
  flat_here (terms (call s f a r)) v l = absurd (omega arith)
  flat_here (terms (block s a b r)) v l = absurd (omega arith)
  flat_here (conditions none) v l = absurd (omega arith)
  flat_here (conditions (condition s t p c)) v l = absurd (omega arith)
  flat_here (sentences empty) v l = absurd (omega arith)
  flat_here (sentences (sentence h p c r b)) v l = absurd (omega arith)
