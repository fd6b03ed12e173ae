-- A variable of the pattern that is known: what is left of the value behind its value.
use Prim.Native.Nat.{ℕ, ◌+◌, ◌-◌, ◌≤◌}
use native.Mathlib.Omega.{arith}
use mathlib.Core.Path.{◌≡◌, refl, sym, ap, ap₂, subst, ◌∙◌}
use mathlib.Core.Logic.{inl, inr}
use mathlib.Core.Bool.{Bool, true, false, ◌&&◌, cond}
use mathlib.Core.List.{List, [], ◌∷◌, ◌++◌, append_assoc}
use mathlib.Core.Option.{Option, none, some}
use lib.ListN.{length, get_or, take, drop, length-drop, length-append}
use lib.Seq.{drop-drop, drop-append_seam, drop_at, get_or-drop}
use Rattle.program.specs.Syntax.{Span, Name, Kind, s_kind, t_kind, e_kind, Symbol, Terms, variable}
use Rattle.program.specs.Bytes.{put32, put_span, put_name, get16}
use Rattle.program.specs.Encode.{kind_mark, put_terms}
use Rattle.program.proofs.Lengths.{span-length, name-length}
use Rattle.patterns.specs.Symbols.{same_symbol}
use Rattle.patterns.specs.Expression.{Expression, void, atom, group, ◌⧺◌}
use Rattle.patterns.specs.Fresh.{Fits}
use Rattle.patterns.specs.Marks.{put_expression}
use Rattle.patterns.proofs.Marks.{expression-splits, joined_bytes}
use Rattle.meaning.specs.Inputs.{Token, tokens, if_read, input_of}
use Rattle.meaning.specs.Match.{Bindings, value_of, same_expression}
use Rattle.meaning.specs.Records.{bytes_of}
use Rattle.meaning.proofs.Inputs.{tokens_of, ValidExpression, first-closing, input_read}
use Rattle.meaning.proofs.Tokens.{tokens-end, tokens-next, tokens-before, Closed}
use Rattle.meaning.proofs.Fronts.{rest_after, front-is}
use Rattle.meaning.proofs.Matching.{Pair, pair, matches_all, s_void, s_atom, s_group, t_void, t_atom, t_group, bind_known, if_left, e_known}
use Rattle.std.specs.Prelude.{Some, None}
use Rattle.values.specs.Values.{ValueAt, LevelAt, FrontOf}
use Rattle.matching.specs.Bindings.{VariableAt, HoldsAt}
use Rattle.matching.specs.Pairs.{put_patterns, put_behind, ValidPairs, PairsAt, VariablePair, OnwardWith}
use Rattle.matching.proofs.Meeting.{slice_length, drop-take}

-- ---- the variable

module _ {body work : List ℕ} {p v end : ℕ} (q : VariablePair body work p v end) where
  unfoldable pub variable-at : VariableAt (drop p body)
  unfolding put_terms
  variable-at = record { span = q.span; kind = q.kind; name = q.name; rest = put_terms q.behind (put_patterns q.more q.rest); is = q.at.pattern; valid = q.at.valid.0.1 }

ten_behind : (m : ℕ) (s : Span) (n k : List ℕ) → drop (10 + length n) (m ∷ put_span s (put_name n k)) ≡ k
unfolding put_span put32 put_name
ten_behind m s n k = sym (drop-drop (length n) 10 (m ∷ put_span s (put_name n k))) ∙ drop-append_seam n k

length_byte : (m : ℕ) (s : Span) (n k : List ℕ) → get_or (m ∷ put_span s (put_name n k)) 9 0 ≡ length n
unfolding put_span put32 put_name
length_byte m s n k = refl

module _ (body : List ℕ) (p : ℕ) (x : VariableAt (drop p body)) where
  pub name_byte : get_or body (p + 9) 0 ≡ length x.name
  name_byte = sym (get_or-drop p body 9 0) ∙ (ap (λ (s : List ℕ). get_or s 9 0) x.is ∙ length_byte (kind_mark x.kind) x.span x.name x.rest)

  pub variable-length : p + 10 + length x.name ≤ length body
  variable-length = let e = ap length x.is in let d = length-drop p body in let s = span-length x.span (put_name x.name x.rest) in let n = name-length x.name x.rest in omega (arith, e, d, s, n)

  pub behind-variable : (r : ℕ) → r ≡ p + 10 + get_or body (p + 9) 0 → (drop r body ≡ x.rest) × (r ≤ length body)
  behind-variable r e =
      let n = name_byte in
      let r' : r ≡ p + (10 + length x.name) = omega (arith, e, n) in (
        ap (λ (i : ℕ). drop i body) r' ∙ (sym (drop-drop (10 + length x.name) p body) ∙ (ap (drop (10 + length x.name)) x.is ∙ ten_behind (kind_mark x.kind) x.span x.name x.rest)),
        let l = variable-length in omega (arith, e, n, l),
      )

-- ---- the value as tokens

unfoldable pub behind_tokens : List Pair → List Token
behind_tokens [] = []
behind_tokens (y ∷ l) = Token.closing ∷ tokens_of y.value (behind_tokens l)

close-first : (k : List ℕ) (l : List Token) → tokens k ≡ some l → tokens (15 ∷ k) ≡ some (Token.closing ∷ l)
unfolding if_read
close-first k l e = tokens-next (15 ∷ k) (record { token = Token.closing; size = 1 }) (first-closing k) ∙ ap (λ (o : Option (List Token)). if_read o (λ j. some (Token.closing ∷ j))) e

pub behind-tokens : (l : List Pair) → ValidPairs l → tokens (put_behind l) ≡ some (behind_tokens l)
unfolding put_behind behind_tokens
behind-tokens [] h = tokens-end [] refl
behind-tokens (y ∷ l) h = close-first (put_expression y.value (put_behind l)) (tokens_of y.value (behind_tokens l)) (tokens-before y.value h.0.1 (put_behind l) (behind_tokens l) (behind-tokens l h.1))

pub behind_closed : (l : List Pair) → Closed (behind_tokens l)
unfolding behind_tokens
behind_closed [] = tt
behind_closed (y ∷ l) = tt

unfoldable pub level-here : {body work : List ℕ} {p v end : ℕ} {rest : List ℕ} {x : Pair} {l : List Pair} → PairsAt body work p v end rest x l → LevelAt (take (end - v) (drop v work))
level-here {body} {work} {p} {v} {end} {rest} {x} {l} at = record { level = x.value; behind = behind_tokens l; is = ap tokens at.value ∙ tokens-before x.value at.valid.1 (put_behind l) (behind_tokens l) (behind-tokens l at.valid-more); ends = behind_closed l }

unfoldable pub value-here : {work : List ℕ} {top at : ℕ} {u : Expression} → HoldsAt work top at u → {from until : ℕ} → from ≡ get16 work (at + 2) → until ≡ get16 work (at + 4) → ValueAt (take (until - from) (drop from work))
value-here {work} {top} {at} {u} h e f = record { expression = u; is = ap₂ (λ (x y : ℕ). input_of (take (y - x) (drop x work))) e f ∙ (ap input_of h.is ∙ input_read u h.valid) }

-- ---- what is left

rest-place : (u v w : Expression) (j : ℕ) (k : List ℕ) → rest_after u v ≡ some w → j + bytes_of w ≡ bytes_of v → drop j (put_expression v k) ≡ put_expression w k
unfolding bytes_of
rest-place u v w j k e b =
    let f = front-is u v w e in
    let t = put_expression f.front [] in
    let whole : put_expression v [] ≡ t ++ put_expression w [] = ap (λ (y : Expression). put_expression y []) f.whole ∙ joined_bytes f.front w in
    let n : length t ≡ j = (let z = ap length whole in let a = length-append t (put_expression w []) in omega (arith, z, a, b)) in
    ap (drop j) (expression-splits v k ∙ (ap (λ (y : List ℕ). y ++ k) whole ∙ append_assoc t (put_expression w []) k))
    ∙ (drop_at t (put_expression w [] ++ k) j n ∙ sym (expression-splits w k))

rest-valid : (f w : Expression) → ValidExpression (f ⧺ w) → ValidExpression w
unfolding ◌⧺◌
rest-valid void w h = h
rest-valid (atom x f) w h = rest-valid f w h.1
rest-valid (group u f) w h = rest-valid f w h.1

one_way : (t : Bool) (w : Expression) (f : Expression → List Bindings) → cond (t && true) (f w) [] ≡ if_left (cond t (some w) none) f
unfolding if_left
one_way true w f = refl
one_way false w f = refl

there : (w : Expression) (f : Expression → List Bindings) → if_left (some w) f ≡ f w
unfolding if_left
there w f = refl

nowhere : (v : Expression) (o : Option Expression) (f : Expression → List Bindings) → FrontOf v o None → if_left o f ≡ []
unfolding if_left
nowhere v none f h = refl
nowhere v (some w) f h = absurd h

until : (v : Expression) (o : Option Expression) (j : ℕ) → FrontOf v o (Some j) → (w : Expression) × (o ≡ some w) × (j + bytes_of w ≡ bytes_of v)
until v none j h = absurd h
until v (some w) j h = (w, refl, h)

put_length : (v : Expression) (k : List ℕ) → length (put_expression v k) ≡ bytes_of v + length k
unfolding bytes_of
put_length v k = ap length (expression-splits v k) ∙ length-append (put_expression v []) k

-- A known variable of any kind.
known_symbol : (l : List Pair) (b : Bindings) (s : Span) (n : Name) (r : Terms) (v : Expression) (y : Symbol) → value_of s_kind n b ≡ some (atom y void) → matches_all (pair (variable s s_kind n r) v ∷ l) b ≡ if_left (rest_after (atom y void) v) (λ w. matches_all (pair r w ∷ l) b)
unfolding rest_after if_left same_expression
known_symbol l b s n r void y e = s_void l b s n r
known_symbol l b s n r (atom x w) y e = s_atom l b s n r x w ∙ (bind_known (λ c. matches_all (pair r w ∷ l) c) s_kind n (atom x void) b (atom y void) e ∙ one_way (same_symbol y x) w (λ z. matches_all (pair r z ∷ l) b))
known_symbol l b s n r (group u w) y e = s_group l b s n r u w

known_term : (l : List Pair) (b : Bindings) (s : Span) (n : Name) (r : Terms) (v : Expression) (y : Symbol) → value_of t_kind n b ≡ some (atom y void) → matches_all (pair (variable s t_kind n r) v ∷ l) b ≡ if_left (rest_after (atom y void) v) (λ w. matches_all (pair r w ∷ l) b)
unfolding rest_after if_left same_expression
known_term l b s n r void y e = t_void l b s n r
known_term l b s n r (atom x w) y e = t_atom l b s n r x w ∙ (bind_known (λ c. matches_all (pair r w ∷ l) c) t_kind n (atom x void) b (atom y void) e ∙ one_way (same_symbol y x) w (λ z. matches_all (pair r z ∷ l) b))
known_term l b s n r (group u w) y e = t_group l b s n r u w ∙ bind_known (λ c. matches_all (pair r w ∷ l) c) t_kind n (group u void) b (atom y void) e

known_bracket : (l : List Pair) (b : Bindings) (s : Span) (n : Name) (r : Terms) (v : Expression) (i : Expression) → value_of t_kind n b ≡ some (group i void) → matches_all (pair (variable s t_kind n r) v ∷ l) b ≡ if_left (rest_after (group i void) v) (λ w. matches_all (pair r w ∷ l) b)
unfolding rest_after if_left same_expression
known_bracket l b s n r void i e = t_void l b s n r
known_bracket l b s n r (atom x w) i e = t_atom l b s n r x w ∙ bind_known (λ c. matches_all (pair r w ∷ l) c) t_kind n (atom x void) b (group i void) e
known_bracket l b s n r (group u w) i e = t_group l b s n r u w ∙ (bind_known (λ c. matches_all (pair r w ∷ l) c) t_kind n (group u void) b (group i void) e ∙ one_way (same_expression i u) w (λ z. matches_all (pair r z ∷ l) b))

known : (l : List Pair) (b : Bindings) (s : Span) (k : Kind) (n : Name) (r : Terms) (v u : Expression) → Fits k u → value_of k n b ≡ some u → matches_all (pair (variable s k n r) v ∷ l) b ≡ if_left (rest_after u v) (λ w. matches_all (pair r w ∷ l) b)
known l b s s_kind n r v u f e = known_symbol l b s n r v f.0 (e ∙ ap some f.1) ∙ ap (λ (y : Expression). if_left (rest_after y v) (λ w. matches_all (pair r w ∷ l) b)) (sym f.1)
known l b s t_kind n r v u (inl f) e = known_term l b s n r v f.0 (e ∙ ap some f.1) ∙ ap (λ (y : Expression). if_left (rest_after y v) (λ w. matches_all (pair r w ∷ l) b)) (sym f.1)
known l b s t_kind n r v u (inr f) e = known_bracket l b s n r v f.0 (e ∙ ap some f.1) ∙ ap (λ (y : Expression). if_left (rest_after y v) (λ w. matches_all (pair r w ∷ l) b)) (sym f.1)
known l b s e_kind n r v u f e = e_known l b s n r v u e

-- ---- the step

pub front-short : {body work : List ℕ} {p v end : ℕ} {rest : List ℕ} {x : Pair} {l : List Pair} (at : PairsAt body work p v end rest x l) (o : Option Expression) (j : ℕ) → FrontOf x.value o (Some j) → v + j ≤ end
front-short {body} {work} {p} {v} {end} {rest} {x} {l} at o j f =
    let i = (until x.value o j f).2 in
    let z = ap length at.value in
    let k = put_length x.value (put_behind l) in
    let r = at.ordered in
    let len = slice_length at in
    omega (arith, z, k, i, r, len)

module _ {body work : List ℕ} {p v end : ℕ} (q : VariablePair body work p v end) (b : Bindings) (u : Expression) (fits : Fits q.kind u) (told : value_of q.kind q.name b ≡ some u) where
  left : matches_all (pair (variable q.span q.kind q.name q.behind) q.value ∷ q.more) b ≡ if_left (rest_after u q.value) (λ w. matches_all (pair q.behind w ∷ q.more) b)
  left = known q.more b q.span q.kind q.name q.behind q.value u fits told

  pub known_failed : FrontOf q.value (rest_after u q.value) None → matches_all (pair (variable q.span q.kind q.name q.behind) q.value ∷ q.more) b ≡ []
  known_failed f = left ∙ nowhere q.value (rest_after u q.value) (λ w. matches_all (pair q.behind w ∷ q.more) b) f

  pub known_on : (next j : ℕ) → drop next body ≡ put_terms q.behind (put_patterns q.more q.rest) → FrontOf q.value (rest_after u q.value) (Some j) → OnwardWith body work next (v + j) end q.rest (pair (variable q.span q.kind q.name q.behind) q.value) q.more b b
  known_on next j e f =
      let o = until q.value (rest_after u q.value) j f in
      let w = o.0 in
      let at = q.at in
      let g = front-is u q.value w o.1 in
      let short : v + j ≤ end = front-short at (rest_after u q.value) j f in
      record {
        first = pair q.behind w;
        more = q.more;
        at = record {
          pattern = e;
          value =
              ap (λ (i : ℕ). take i (drop (v + j) work)) (let z : end - (v + j) ≡ end - v - j = omega arith in z)
              ∙ (ap (take (end - v - j)) (sym (drop-drop j v work)) ∙ (sym (drop-take j (end - v) (drop v work)) ∙ (ap (drop j) at.value ∙ rest-place u q.value w j (put_behind q.more) o.1 o.2)));
          ordered = short;
          within = at.within;
          valid = (at.valid.0.2, rest-valid g.front w (subst ValidExpression g.whole at.valid.1));
          valid-more = at.valid-more;
        };
        same = left ∙ ap (λ (y : Option Expression). if_left y (λ z. matches_all (pair q.behind z ∷ q.more) b)) o.1 ∙ there w (λ z. matches_all (pair q.behind z ∷ q.more) b);
      }
