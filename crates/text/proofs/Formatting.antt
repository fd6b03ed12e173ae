-- The terms of a pattern in an image, by their first mark, and their texts.
use Prim.Native.Nat.{ℕ, suc, ◌+◌, ◌-◌, ◌≤◌, ◌<◌}
use native.Mathlib.Omega.{arith}
use mathlib.Core.Path.{◌≡◌, refl, sym, ap, ◌∙◌}
use mathlib.Core.List.{List, [], ◌∷◌, ◌++◌, append_assoc}
use native.Mathlib.Nat.{add-zero}
use mathlib.Core.Bool.{Bool, true, false, cond}
use lib.Dec.{eqb}
use lib.ListN.{length, get_or, drop, length-append, length-drop}
use lib.Seq.{get_or-drop}
use Rattle.program.specs.Syntax.{Symbol, character, identifier, number, Kind, s_kind, t_kind, e_kind, Span, Terms, nil, symbol, variable, bracket, call, block}
use Rattle.program.specs.Bytes.{put32, put_span, put_name}
use Rattle.program.specs.Encode.{put_symbol, kind_mark, put_terms}
use Rattle.program.specs.Limits.{Mode, ValidTerms}
use Rattle.image.specs.Parts.{Passes, TermsAt, tail}
use Rattle.program.proofs.Lengths.{span-length, code-length, name-length}
use Rattle.image.proofs.Readings.{first_byte, fewer_around}
use Rattle.patterns.specs.Ascii.{ascii}
use Rattle.symbols.specs.Parts.{SymbolAt}
use Rattle.symbols.proofs.Parts.{part_rest}
use Rattle.rows.proofs.Readings.{part, part_length, pattern-room, first-at, next-at, next_fits}
use Rattle.meaning.specs.Text.{Text, quote, utf8, format_symbol, format_kind, gap, format_terms}
use Rattle.text.specs.Parts.{VariableAt}
use Rattle.text.specs.FormatTerm.{format_term, gap_before}
use Rattle.text.specs.Written.{written}
use Rattle.text.specs.declared.writer.Writer.{Writer}
use Rattle.text.proofs.Written.{both, count, written-nothing}
use Rattle.text.specs.Fill.{limit}
use Rattle.text.proofs.Leaves.{utf8-length, quote-length}

-- The first term's text, and then that of the rest.
pub format_unfolds : (t : Terms) (d : ℕ) → ValidTerms t Mode.pattern d → format_term t ++ (gap (tail t) ++ format_terms (tail t)) ≡ format_terms t
unfolding format_term format_terms gap tail ascii
format_unfolds nil d h = refl
format_unfolds (symbol s x r) d h = refl
format_unfolds (variable s k n r) d h = append_assoc (format_kind k) n (gap r ++ format_terms r)
format_unfolds (bracket s i r) d h = ap (λ (l : Text). 40 ∷ l) (append_assoc (format_terms i) (41 ∷ []) (gap r ++ format_terms r))
format_unfolds (call s f a r) d h = absurd h.2
format_unfolds (block s a b r) d h = absurd h.2

gap-mark : (t : Terms) (k : List ℕ) → ValidTerms t Mode.pattern 0 → gap_before (get_or (put_terms t k) 0 0) ≡ gap t
unfolding gap_before put_terms put_symbol kind_mark gap
gap-mark nil k h = refl
gap-mark (symbol s (character c) r) k h = refl
gap-mark (symbol s (identifier n) r) k h = refl
gap-mark (symbol s (number n) r) k h = refl
gap-mark (variable s s_kind n r) k h = refl
gap-mark (variable s t_kind n r) k h = refl
gap-mark (variable s e_kind n r) k h = refl
gap-mark (bracket s i r) k h = refl
gap-mark (call s f a r) k h = absurd h.2
gap-mark (block s a b r) k h = absurd h.2

gap_length : (t : Terms) → length (gap t) ≤ 1
unfolding gap ascii
gap_length nil = omega arith
gap_length (symbol s x r) = omega arith
gap_length (variable s k n r) = omega arith
gap_length (bracket s i r) = omega arith
gap_length (call s f a r) = omega arith
gap_length (block s a b r) = omega arith

-- A text is shorter than the bytes that it is read from.
symbol-fits : (s : Span) (x : Symbol) (k : List ℕ) → length (format_symbol x) + (7 + length k) ≤ length (put_symbol s x k)
unfolding format_symbol put_symbol
symbol-fits s (character c) k =
    omega (arith, span-length s (put32 c k), code-length c k, utf8-length c, quote-length c, length-append (quote c) (utf8 c ++ quote c), length-append (utf8 c) (quote c))
symbol-fits s (identifier n) k = omega (arith, span-length s (put_name n k), name-length n k)
symbol-fits s (number n) k = omega (arith, span-length s (put_name n k), name-length n k)

kind-length : (v : Kind) → length (format_kind v) ≡ 2
unfolding format_kind ascii
kind-length s_kind = refl
kind-length t_kind = refl
kind-length e_kind = refl

joined_length : (t : Terms) (d : ℕ) → ValidTerms t Mode.pattern d → length (format_terms t) ≡ length (format_term t) + (length (gap (tail t)) + length (format_terms (tail t)))
joined_length t d h =
    sym (ap length (format_unfolds t d h)) ∙ (length-append (format_term t) (gap (tail t) ++ format_terms (tail t)) ∙ ap (λ (n : ℕ). length (format_term t) + n) (length-append (gap (tail t)) (format_terms (tail t))))

bracket-fits : (s : Span) (i : Terms) (k : List ℕ) → length (format_terms i) + length k < length (put_terms i k) → length (ascii "(" ++ (format_terms i ++ ascii ")")) + (5 + length k) ≤ length (7 ∷ put_span s (put_terms i k))
unfolding ascii
bracket-fits s i k l = omega (arith, span-length s (put_terms i k), length-append (format_terms i) (41 ∷ []))

variable-fits : (s : Span) (v : Kind) (n : List ℕ) (k : List ℕ) → length (format_kind v ++ n) + (7 + length k) ≤ length (kind_mark v ∷ put_span s (put_name n k))
variable-fits s v n k = omega (arith, kind-length v, length-append (format_kind v) n, span-length s (put_name n k), name-length n k)

nothing-length : length (format_terms nil) ≡ 0
unfolding format_terms
nothing-length = refl

pub text-fits : (t : Terms) (d : ℕ) (k : List ℕ) → ValidTerms t Mode.pattern d → length (format_terms t) + length k < length (put_terms t k)
unfolding put_terms format_term tail
text-fits nil d k h = omega (arith, nothing-length)
text-fits (symbol s x r) d k h = omega (arith, joined_length (symbol s x r) d h, gap_length r, symbol-fits s x (put_terms r k), text-fits r d k h.2)
text-fits (variable s v n r) d k h = omega (arith, joined_length (variable s v n r) d h, gap_length r, variable-fits s v n (put_terms r k), text-fits r d k h.2)
text-fits (bracket s i r) d k h =
    omega (arith, joined_length (bracket s i r) d h, gap_length r, bracket-fits s i (put_terms r k) (text-fits i (suc d) (put_terms r k) h.2), text-fits r d k h.3)
text-fits (call s f a r) d k h = absurd h.2
text-fits (block s a b r) d k h = absurd h.2

nothing_of : (t : Terms) (k : List ℕ) → ValidTerms t Mode.pattern 0 → get_or (put_terms t k) 0 0 ≡ 15 → format_terms t ≡ []
unfolding put_terms put_symbol kind_mark format_terms
nothing_of nil k h e = refl
nothing_of (symbol s (character c) r) k h e = absurd (omega arith)
nothing_of (symbol s (identifier n) r) k h e = absurd (omega arith)
nothing_of (symbol s (number n) r) k h e = absurd (omega arith)
nothing_of (variable s s_kind n r) k h e = absurd (omega arith)
nothing_of (variable s t_kind n r) k h e = absurd (omega arith)
nothing_of (variable s e_kind n r) k h e = absurd (omega arith)
nothing_of (bracket s i r) k h e = absurd (omega arith)
nothing_of (call s f a r) k h e = absurd h.2
nothing_of (block s a b r) k h e = absurd h.2

-- What the first mark says of the first term.
pub record BracketIn (s : List ℕ) (t : Terms) : Type 0 where
  pub inside : TermsAt Mode.pattern (part s 9)
  pub room : 9 < length s
  pub text : 40 ∷ (format_terms inside.terms ++ (41 ∷ [])) ≡ format_term t

pub record SymbolIn (s : List ℕ) (t : Terms) : Type 0 where
  pub first : SymbolAt s
  pub text : format_symbol first.symbol ≡ format_term t

pub record VariableIn (s : List ℕ) (t : Terms) : Type 0 where
  pub first : VariableAt s
  pub text : format_kind first.kind ++ first.name ≡ format_term t

module _ (s : List ℕ) where
  bracket_of : (t : Terms) (k : List ℕ) → s ≡ put_terms t k → ValidTerms t Mode.pattern 0 → get_or s 0 0 ≡ 7 → BracketIn s t
  unfolding put_terms put_symbol kind_mark put_span put32 format_term ascii
  bracket_of nil k e h m = absurd (omega (arith, first_byte e))
  bracket_of (symbol p (character c) r) k e h m = absurd (omega (arith, first_byte e))
  bracket_of (symbol p (identifier n) r) k e h m = absurd (omega (arith, first_byte e))
  bracket_of (symbol p (number n) r) k e h m = absurd (omega (arith, first_byte e))
  bracket_of (variable p s_kind n r) k e h m = absurd (omega (arith, first_byte e))
  bracket_of (variable p t_kind n r) k e h m = absurd (omega (arith, first_byte e))
  bracket_of (variable p e_kind n r) k e h m = absurd (omega (arith, first_byte e))
  bracket_of (bracket p i r) k e h m = record {
    inside = record { terms = i; rest = put_terms r k; is = part_rest s 9 ∙ ap (drop 9) e; valid = fewer_around i Mode.pattern 1 0 (omega arith) h.2 };
    room = omega (arith, ap length e, text-fits i 1 (put_terms r k) h.2);
    text = refl;
  }
  bracket_of (call p f a r) k e h m = absurd h.2
  bracket_of (block p a b r) k e h m = absurd h.2

  symbol_of : (t : Terms) (k : List ℕ) → s ≡ put_terms t k → ValidTerms t Mode.pattern 0 → get_or s 0 0 < 4 → SymbolIn s t
  unfolding put_terms kind_mark format_term
  symbol_of nil k e h m = absurd (omega (arith, first_byte e))
  symbol_of (symbol p x r) k e h m = record { first = record { span = p; symbol = x; rest = put_terms r k; is = e; valid = h.1 }; text = refl }
  symbol_of (variable p s_kind n r) k e h m = absurd (omega (arith, first_byte e))
  symbol_of (variable p t_kind n r) k e h m = absurd (omega (arith, first_byte e))
  symbol_of (variable p e_kind n r) k e h m = absurd (omega (arith, first_byte e))
  symbol_of (bracket p i r) k e h m = absurd (omega (arith, first_byte e))
  symbol_of (call p f a r) k e h m = absurd h.2
  symbol_of (block p a b r) k e h m = absurd h.2

  variable_of : (t : Terms) (k : List ℕ) → s ≡ put_terms t k → ValidTerms t Mode.pattern 0 → (get_or s 0 0 ≡ 15 → ⊥) → (get_or s 0 0 ≡ 7 → ⊥) → 4 ≤ get_or s 0 0 → VariableIn s t
  unfolding put_terms put_symbol format_term
  variable_of nil k e h c b m = absurd (c (first_byte e))
  variable_of (symbol p (character x) r) k e h c b m = absurd (omega (arith, first_byte e))
  variable_of (symbol p (identifier n) r) k e h c b m = absurd (omega (arith, first_byte e))
  variable_of (symbol p (number n) r) k e h c b m = absurd (omega (arith, first_byte e))
  variable_of (variable p v n r) k e h c b m = record { first = record { span = p; kind = v; name = n; rest = put_terms r k; is = e }; text = refl }
  variable_of (bracket p i r) k e h c b m = absurd (b (first_byte e))
  variable_of (call p f a r) k e h c b m = absurd h.2
  variable_of (block p a b r) k e h c d m = absurd h.2

module _ {s : List ℕ} (t : TermsAt Mode.pattern s) where
  pub bracket_in : get_or s 0 0 ≡ 7 → BracketIn s t.terms
  bracket_in m = bracket_of s t.terms t.rest t.is t.valid m

  pub symbol_in : get_or s 0 0 < 4 → SymbolIn s t.terms
  symbol_in m = symbol_of s t.terms t.rest t.is t.valid m

  pub variable_in : (get_or s 0 0 ≡ 15 → ⊥) → (get_or s 0 0 ≡ 7 → ⊥) → 4 ≤ get_or s 0 0 → VariableIn s t.terms
  variable_in c b m = variable_of s t.terms t.rest t.is t.valid c b m

  pub terms_text_fits : length (format_terms t.terms) < length s
  terms_text_fits = omega (arith, ap length t.is, text-fits t.terms 0 t.rest t.valid)

  pub gap_in : gap_before (get_or s 0 0) ≡ gap t.terms
  gap_in = ap gap_before (first_byte t.is) ∙ gap-mark t.terms t.rest t.valid

  -- Without a first term there is nothing to write.
  pub nothing_in : get_or s 0 0 ≡ 15 → format_terms t.terms ≡ []
  nothing_in m = nothing_of t.terms t.rest t.valid (sym (first_byte t.is) ∙ m)

-- Each term's text, and a space after it, is no longer than the term's bytes.
term_fits : (t : Terms) (k : List ℕ) → ValidTerms t Mode.pattern 0 → (get_or (put_terms t k) 0 0 ≡ 15 → ⊥) → length (format_term t) + (1 + length (put_terms (tail t) k)) ≤ length (put_terms t k)
unfolding put_terms format_term tail
term_fits nil k h m = absurd (m refl)
term_fits (symbol s x r) k h m = omega (arith, symbol-fits s x (put_terms r k))
term_fits (variable s v n r) k h m = omega (arith, variable-fits s v n (put_terms r k))
term_fits (bracket s i r) k h m = omega (arith, bracket-fits s i (put_terms r k) (text-fits i 1 (put_terms r k) h.2))
term_fits (call s f a r) k h m = absurd h.2
term_fits (block s a b r) k h m = absurd h.2

pub term_text_fits : {s : List ℕ} (t : TermsAt Mode.pattern s) → (get_or s 0 0 ≡ 15 → ⊥) → (n : ℕ) → Passes s n (put_terms (tail t.terms) t.rest) → length (format_term t.terms) + 1 ≤ n
term_text_fits {s} t m n h =
    omega (arith, ap length t.is, term_fits t.terms t.rest t.valid (λ e. m (first_byte t.is ∙ e)), h.fits, length-drop n s, ap length h.left)

pub gap_before-length : (m : ℕ) → length (gap_before m) ≤ 1
unfolding gap_before ascii
gap_before-length m = go (eqb m 15)
  where
    go : (x : Bool) → length {A = ℕ} (cond x [] (32 ∷ [])) ≤ 1
    go true = omega arith
    go false = omega arith

pub part_first : (s : List ℕ) (i : ℕ) → get_or (part s i) 0 0 ≡ get_or s i 0
part_first s i = ap (λ (l : List ℕ). get_or l 0 0) (part_rest s i) ∙ (get_or-drop i s 0 0 ∙ ap (λ (n : ℕ). get_or s n 0) (add-zero i))

-- The terms left from i on: their text, written behind what is filled, completes that of all.
pub record Writing (first : Writer) {s : List ℕ} (t : TermsAt Mode.pattern s) (i : ℕ) (now : Writer) : Type 0 where
  pub there : TermsAt Mode.pattern (part s i)
  pub whole : written now (format_terms there.terms) ≡ written first (format_terms t.terms)

pub writing-first : (first : Writer) {s : List ℕ} (t : TermsAt Mode.pattern s) → Writing first t 0 first
writing-first first t = record { there = first-at t; whole = refl }

module _ {first : Writer} {s : List ℕ} {t : TermsAt Mode.pattern s} {i : ℕ} {now : Writer} (w : Writing first t i now) where
  pub writing-last : get_or s i 0 ≡ 15 → now ≡ written first (format_terms t.terms)
  writing-last m = written-nothing now ∙ (ap (written now) (sym (nothing_in w.there (part_first s i ∙ m))) ∙ w.whole)

  pub writing-next : (n : ℕ) (next after : Writer) → Passes (part s i) n (put_terms (tail w.there.terms) w.there.rest) → next ≡ written now (format_term w.there.terms) → after ≡ written next (gap_before (get_or s (i + n) 0)) → Writing first t (i + n) after
  writing-next n next after h e f =
      let x = w.there in
      let y : TermsAt Mode.pattern (part s (i + n)) = next-at s i x n h in
      let g : gap_before (get_or s (i + n) 0) ≡ gap (tail x.terms) = ap gap_before (sym (part_first s (i + n))) ∙ gap_in y in
      let rest = format_terms (tail x.terms) in
      let k : written after rest ≡ written now (format_term x.terms ++ (gap (tail x.terms) ++ rest)) = both now (format_term x.terms) (gap (tail x.terms) ++ rest) e (both next (gap (tail x.terms)) rest (f ∙ ap (written next) g) refl) in
      record { there = y; whole = k ∙ (ap (written now) (format_unfolds x.terms 0 x.valid) ∙ w.whole) }

-- Past a term of n bytes, whose text is shorter.
pub record Past (s : List ℕ) (i n : ℕ) (next : Writer) : Type 0 where
  pub more : i + n < length s
  pub on : 0 < n
  pub short : next.filled + 1 + (length s - (i + n)) ≤ limit

pub past : {first : Writer} {s : List ℕ} {t : TermsAt Mode.pattern s} {i : ℕ} {now : Writer} (w : Writing first t i now) → (get_or s i 0 ≡ 15 → ⊥) → i < length s → now.filled + (length s - i) ≤ limit → (n : ℕ) (next : Writer) → Passes (part s i) n (put_terms (tail w.there.terms) w.there.rest) → next ≡ written now (format_term w.there.terms) → Past s i n next
past {first} {s} {t} {i} {now} w m l h n next p e =
    let x = w.there in
    let k : get_or (part s i) 0 0 ≡ 15 → ⊥ = λ q. m (sym (part_first s i) ∙ q) in
    let f = next_fits s i x k (omega arith) n p in
    let more : i + n < length s = omega (arith, f.0, pattern-room (next-at s i x n p), part_length s (i + n)) in
    record { more = more; on = f.1; short = omega (arith, ap count e, term_text_fits x k n p, more) }
