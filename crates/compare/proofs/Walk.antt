-- Terms token by token: the letters of the tokens, one after another, are the text of the terms.
use Prim.Native.Nat.{ℕ, suc, ◌+◌, ◌-◌, ◌<◌, ◌≤◌}
use native.Mathlib.Omega.{arith}
use native.Mathlib.Nat.{add-zero}
use mathlib.Core.Path.{◌≡◌, refl, sym, ap, subst, ◌∙◌}
use mathlib.Core.List.{List, [], ◌∷◌, ◌++◌, append-nil, append_assoc, flatten}
use lib.ListN.{length, get_or, drop, length-append, length-drop}
use lib.Seq.{take-append_seam, drop-append_seam, get_or-drop}
use borrow.Author.Tests.{ne_eqb}
use Rattle.program.specs.Syntax.{Name, Span, Symbol, character, identifier, number, Kind, s_kind, t_kind, e_kind, Terms, nil, symbol, variable, bracket, call, block}
use Rattle.program.specs.Bytes.{put32, put_span, put_name}
use Rattle.program.specs.Encode.{put_symbol, kind_mark, put_terms}
use Rattle.program.specs.Limits.{Mode, ValidSymbol, ValidTerms}
use Rattle.image.specs.Parts.{TermsAt, token_length, closes_after}
use Rattle.program.proofs.Lengths.{span-length, name-length, terms-length}
use Rattle.image.proofs.Readings.{fewer_around}
use Rattle.patterns.specs.Ascii.{ascii}
use Rattle.meaning.specs.Text.{Text, format_symbol, format_kind, gap, format_terms}
use Rattle.text.specs.FormatTerm.{gap_before, kind_letter}
use Rattle.text.specs.Parts.{VariableAt}
use Rattle.compare.specs.Letters.{token_name, token_text, token_gap, letters, TokenIn, Walk}
use Rattle.text.proofs.Leaves.{CodeIn, code_in, variable-text}
use Rattle.compare.proofs.Letters.{length-code, length-name, length_begin, length-close, text-code, text-name, text-variable, text_begin, text-close, gap_begin, gap_not_begin, letters_are, token-long, character-length}
use Rattle.text.proofs.Formatting.{gap_in}

-- A token with the text w at the start of s, and k behind it.
pub record Piece (s k : List ℕ) (w : Text) : Type 0 where
  pub token : TokenIn s
  pub past : drop (token_length s) s ≡ k
  pub text : token_text s ≡ w
  pub some : 0 < length w

-- A token that carries a name.
module _ (m : ℕ) (p : Span) (n : Name) (k : List ℕ) where
  abbrev named : List ℕ
  named = m ∷ put_span p (put_name n k)

  named-length : get_or named 9 0 ≡ length n
  unfolding put_span put32 put_name
  named-length = refl

  named-name : token_name named ≡ n
  unfolding token_name put_span put32 put_name
  named-name = take-append_seam n k

  named_past : drop (10 + length n) named ≡ k
  unfolding put_span put32 put_name
  named_past =
      let z : 10 + length n ≡ suc (suc (suc (suc (suc (suc (suc (suc (suc (suc (length n)))))))))) = omega arith in
      rw z (drop-append_seam n k)

  module _ (a : m ≡ 1 → ⊥) (b : m < 7) where
    named-long : token_length named ≡ 10 + length n
    named-long = length-name named a b ∙ ap (λ (i : ℕ). 10 + i) named-length

    named_piece : (w : Text) → token_text named ≡ w → 0 < length w → 0 < length k → Piece named k w
    named_piece w e s l = record {
      token = record { within = omega (arith, named-long, span-length p (put_name n k), name-length n k, l); low = λ q. absurd (a q) };
      past = ap (λ (i : ℕ). drop i named) named-long ∙ named_past;
      text = e;
      some = s;
    }

module _ (p : Span) (c : ℕ) (k : List ℕ) (v : ValidSymbol (character c)) where
  abbrev coded : List ℕ
  coded = 1 ∷ put_span p (put32 c k)

  coded_past : drop 13 coded ≡ k
  unfolding put_span put32
  coded_past = refl

  coded_in : CodeIn coded (character c)
  unfolding put_symbol
  coded_in = code_in (record { span = p; symbol = character c; rest = k; is = refl; valid = v }) refl

  character_piece : 0 < length k → Piece coded k (format_symbol (character c))
  character_piece l = record {
    token = record { within = omega (arith, length-code coded refl, length-drop 13 coded, ap length coded_past, l); low = λ q. omega (arith, coded_in.stands, coded_in.low) };
    past = ap (λ (i : ℕ). drop i coded) (length-code coded refl) ∙ coded_past;
    text = text-code coded refl ∙ ap format_symbol (ap character coded_in.stands ∙ sym coded_in.is);
    some = omega (arith, character-length c 0);
  }

symbol_piece : (p : Span) (x : Symbol) (k : List ℕ) → ValidSymbol x → 0 < length k → Piece (put_symbol p x k) k (format_symbol x)
unfolding put_symbol format_symbol
symbol_piece p (character c) k v l = character_piece p c k v l
symbol_piece p (identifier n) k v l = named_piece 2 p n k (λ e. omega (arith, e)) (omega arith) n (text-name (named 2 p n k) (λ e. omega (arith, e)) (omega arith) ∙ named-name 2 p n k) v.0 l
symbol_piece p (number n) k v l = named_piece 3 p n k (λ e. omega (arith, e)) (omega arith) n (text-name (named 3 p n k) (λ e. omega (arith, e)) (omega arith) ∙ named-name 3 p n k) v.0 l

variable-mark : (v : Kind) → (4 ≤ kind_mark v) × (kind_mark v < 7)
unfolding kind_mark
variable-mark s_kind = (omega arith, omega arith)
variable-mark t_kind = (omega arith, omega arith)
variable-mark e_kind = (omega arith, omega arith)

variable_piece : (p : Span) (v : Kind) (n : Name) (k : List ℕ) → 0 < length k → Piece (kind_mark v ∷ put_span p (put_name n k)) k (format_kind v ++ n)
variable_piece p v n k l =
    let s = named (kind_mark v) p n k in
    let h = variable-mark v in
    let x : VariableAt s = record { span = p; kind = v; name = n; rest = k; is = refl } in
    let e : kind_letter (kind_mark v) ∷ 46 ∷ n ≡ format_kind v ++ n = variable-text x in
    named_piece (kind_mark v) p n k (λ e. omega (arith, h.0, e)) h.1 (format_kind v ++ n)
    (text-variable s h.0 h.1 ∙ (ap (λ (l : List ℕ). kind_letter (kind_mark v) ∷ 46 ∷ l) (named-name (kind_mark v) p n k) ∙ e)) (omega (arith, ap length e)) l

span-past : (p : Span) (k : List ℕ) → drop 8 (put_span p k) ≡ k
unfolding put_span put32
span-past p k = refl

begin_piece : (p : Span) (k : List ℕ) → 0 < length k → Piece (7 ∷ put_span p k) k (40 ∷ [])
begin_piece p k l =
    let s : List ℕ = 7 ∷ put_span p k in
    record {
      token = record { within = omega (arith, length_begin s refl, span-length p k, l); low = λ q. absurd (omega (arith, q)) };
      past = ap (λ (i : ℕ). drop i s) (length_begin s refl) ∙ span-past p k;
      text = text_begin s refl;
      some = omega arith;
    }

close_piece : (k : List ℕ) → 0 < length k → Piece (15 ∷ k) k (41 ∷ [])
close_piece k l =
    let s : List ℕ = 15 ∷ k in
    let e = length-close s (omega arith) (λ q. omega (arith, q)) in
    record {
      token = record { within = omega (arith, e, l); low = λ q. absurd (omega (arith, q)) };
      past = ap (λ (i : ℕ). drop i s) e;
      text = text-close s (omega arith) (λ q. omega (arith, q));
      some = omega arith;
    }

pub record Walked (c : ℕ) (s rest : List ℕ) (w : Text) : Type 0 where
  pub texts : List Text
  pub walk : Walk c texts s rest
  pub text : flatten texts ≡ w

closes_flat : (m c : ℕ) → m < 7 → closes_after m c ≡ c
unfolding closes_after
closes_flat m c l = rw (ne_eqb m 7 (λ e. omega (arith, e, l)), ne_eqb m 15 (λ e. omega (arith, e, l)))

closes_begin : (c : ℕ) → closes_after 7 c ≡ c + 1
unfolding closes_after
closes_begin c = refl

closes_close : (c : ℕ) → closes_after 15 (c + 1) ≡ c
unfolding closes_after
closes_close c = let e : c + 1 - 1 ≡ c = omega arith in e

pub walk_long : (c : ℕ) (ls : List Text) (s rest : List ℕ) → Walk c ls s rest → length ls + suc (length rest) ≤ length s
walk_long c [] s rest h = omega (arith, ap length h.0)
walk_long c (x ∷ ls) s rest h = omega (arith, walk_long (closes_after (get_or s 0 0) c) ls (drop (token_length s) s) rest h.4, length-drop (token_length s) s, h.0.within, token-long h.0)

-- One more token in front.
module _ {c d : ℕ} {s k rest : List ℕ} {w v : Text} (p : Piece s k w) (h : Walked d k rest v) (inner : get_or s 0 0 ≡ 15 → 1 < c) (after : closes_after (get_or s 0 0) c ≡ d) where
  walked_more : (g : Text) → token_gap s ≡ g → Walked c s rest ((w ++ g) ++ v)
  unfolding flatten
  walked_more g e =
      let z : w ++ g ≡ letters s = sym (ap (λ (l : Text). l ++ g) p.text) ∙ (sym (ap (λ (l : Text). token_text s ++ l) e) ∙ letters_are s) in
      record {
        texts = (w ++ g) ∷ h.texts;
        walk = (p.token, z, omega (arith, length-append w g, p.some), inner, subst (λ (n : ℕ). Walk n h.texts (drop (token_length s) s) rest) (sym after) (subst (λ (l : List ℕ). Walk d h.texts l rest) (sym p.past) h.walk));
        text = ap (λ (l : Text). (w ++ g) ++ l) h.text;
      }

  -- The space behind a token that begins no bracket.
  walked_next : (get_or s 0 0 ≡ 7 → ⊥) → Walked c s rest ((w ++ gap_before (get_or k 0 0)) ++ v)
  walked_next m =
      let z : get_or s (token_length s) 0 ≡ get_or k 0 0 = ap (λ (i : ℕ). get_or s i 0) (sym (add-zero (token_length s))) ∙ (sym (get_or-drop (token_length s) s 0 0) ∙ ap (λ (l : List ℕ). get_or l 0 0) p.past) in
      walked_more (gap_before (get_or k 0 0)) (gap_not_begin s m ∙ ap gap_before z)

  walked_begin : get_or s 0 0 ≡ 7 → Walked c s rest (w ++ v)
  walked_begin m = subst (λ (l : Text). Walked c s rest (l ++ v)) (append-nil w) (walked_more [] (gap_begin s m))

walked_same : {c : ℕ} {s rest : List ℕ} {w v : Text} → w ≡ v → Walked c s rest w → Walked c s rest v
walked_same e h = record { texts = h.texts; walk = h.walk; text = h.text ∙ e }

rejoin : (a b c d : Text) → (a ++ b) ++ (c ++ d) ≡ (a ++ (b ++ c)) ++ d
rejoin a b c d = sym (append_assoc (a ++ b) c d) ∙ ap (λ (l : Text). l ++ d) (append_assoc a b c)

no_begin : (p : Span) (x : Symbol) (k : List ℕ) → get_or (put_symbol p x k) 0 0 ≡ 7 → ⊥
unfolding put_symbol
no_begin p (character c) k e = omega (arith, e)
no_begin p (identifier n) k e = omega (arith, e)
no_begin p (number n) k e = omega (arith, e)

symbol-mark : (p : Span) (x : Symbol) (k : List ℕ) → get_or (put_symbol p x k) 0 0 < 7
unfolding put_symbol
symbol-mark p (character c) k = omega arith
symbol-mark p (identifier n) k = omega arith
symbol-mark p (number n) k = omega arith

-- A token in front of the terms r, with the space between them.
gap-joined : (r : Terms) (d : ℕ) (k : List ℕ) → ValidTerms r Mode.pattern d → (a v : Text) → (a ++ gap_before (get_or (put_terms r k) 0 0)) ++ (format_terms r ++ v) ≡ (a ++ (gap r ++ format_terms r)) ++ v
gap-joined r d k h a v =
    let y : TermsAt Mode.pattern (put_terms r k) = record { terms = r; rest = k; is = refl; valid = fewer_around r Mode.pattern d 0 (omega arith) h } in
    ap (λ (g : Text). (a ++ g) ++ (format_terms r ++ v)) (gap_in y) ∙ rejoin a (gap r) (format_terms r) v

-- In front of the close of t and what is walked from there on, the tokens of t give its text.
walk_terms : (t : Terms) (d c : ℕ) (k rest : List ℕ) (v : Text) → 0 < c → ValidTerms t Mode.pattern d → Walked c (15 ∷ k) rest v → Walked c (put_terms t k) rest (format_terms t ++ v)
unfolding put_terms format_terms ascii
walk_terms nil d c k rest v l h w = w
walk_terms (symbol s x r) d c k rest v l h w =
    let p = symbol_piece s x (put_terms r k) h.1 (omega (arith, terms-length r k)) in
    let m = symbol-mark s x (put_terms r k) in
    walked_same (gap-joined r d k h.2 (format_symbol x) v)
    (walked_next p (walk_terms r d c k rest v l h.2 w) (λ e. absurd (omega (arith, e, m))) (closes_flat _ c m) (no_begin s x (put_terms r k)))
walk_terms (variable s q n r) d c k rest v l h w =
    let p = variable_piece s q n (put_terms r k) (omega (arith, terms-length r k)) in
    let m = (variable-mark q).1 in
    walked_same (gap-joined r d k h.2 (format_kind q ++ n) v ∙ ap (λ (l : Text). l ++ v) (append_assoc (format_kind q) n (gap r ++ format_terms r)))
    (walked_next p (walk_terms r d c k rest v l h.2 w) (λ e. absurd (omega (arith, e, m))) (closes_flat (kind_mark q) c m) (λ e. omega (arith, e, m)))
walk_terms (bracket s i r) d c k rest v l h w =
    let after : Text = 41 ∷ (gap r ++ format_terms r) in
    let p = begin_piece s (put_terms i (put_terms r k)) (omega (arith, terms-length i (put_terms r k))) in
    let b = close_piece (put_terms r k) (omega (arith, terms-length r k)) in
    let behind : Walked (c + 1) (15 ∷ put_terms r k) rest (after ++ v) = walked_same (gap-joined r d k h.3 (41 ∷ []) v) (walked_next b (walk_terms r d c k rest v l h.3 w) (λ e. omega (arith, l)) (closes_close c) (λ e. omega (arith, e))) in
    walked_same (ap (λ (l : Text). 40 ∷ l) (sym (append_assoc (format_terms i) after v)))
    (walked_begin p (walk_terms i (suc d) (c + 1) (put_terms r k) rest (after ++ v) (omega arith) h.2 behind) (λ e. absurd (omega (arith, e))) (closes_begin c) refl)
walk_terms (call s f a r) d c k rest v l h w = absurd h.2
walk_terms (block s a b r) d c k rest v l h w = absurd h.2

-- The terms at the start of s.
pub walk_all : {s : List ℕ} (t : TermsAt Mode.pattern s) → Walked 1 s t.rest (format_terms t.terms)
unfolding flatten
walk_all {s} t =
    subst (λ (l : List ℕ). Walked 1 l t.rest (format_terms t.terms)) (sym t.is)
    (walked_same (append-nil (format_terms t.terms))
    (walk_terms t.terms 0 1 t.rest t.rest [] (omega arith) t.valid (record { texts = []; walk = (refl, refl); text = refl })))
