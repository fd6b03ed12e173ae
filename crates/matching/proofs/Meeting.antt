-- A token of the pattern with one of the value: what each step keeps.
use Prim.Native.Nat.{ℕ, zero, suc, ◌+◌, ◌-◌, ◌<◌, ◌≤◌}
use native.Mathlib.Omega.{arith}
use mathlib.Core.Path.{◌≡◌, refl, sym, ap, subst, ◌∙◌}
use mathlib.Core.Bool.{Bool, true, false, true≢false, cond}
use mathlib.Core.List.{List, [], ◌∷◌}
use lib.ListN.{length, get_or, take, drop, length-drop}
use lib.Seq.{drop-drop, take-nil, length-take-le}
use Rattle.program.specs.Syntax.{Span, Kind, s_kind, t_kind, e_kind, Symbol, Terms, nil, symbol, variable, bracket, call, block}
use Rattle.program.specs.Bytes.{put_span}
use Rattle.program.specs.Encode.{put_symbol, kind_mark, put_terms}
use Rattle.program.specs.Limits.{Mode, ValidSpan, ValidSymbol, ValidTerms}
use Rattle.program.proofs.Lengths.{terms-length}
use Rattle.image.proofs.Readings.{fewer_around}
use Rattle.patterns.specs.Symbols.{same_symbol}
use Rattle.patterns.specs.Expression.{Expression, void, atom, group}
use Rattle.patterns.specs.Marks.{zero_span, put_expression}
use Rattle.meaning.specs.Inputs.{Token, reading, first_token}
use Rattle.meaning.specs.Match.{Bindings}
use Rattle.meaning.proofs.Inputs.{ValidExpression, first-symbol, behind-symbol, zero_valid, first_opening, behind-opening, first-closing}
use Rattle.meaning.proofs.Tokens.{token_bytes, Sized, first-sized}
use Rattle.meaning.proofs.Fronts.{same_token}
use Rattle.meaning.proofs.Matching.{Pair, pair, matches_all, all-ended, ended-atom, ended-group, symbol-void, symbol-atom, symbol-group, bracket-void, bracket-atom, bracket-group}
use Rattle.values.specs.Values.{TokenAt}
use Rattle.matching.specs.Pairs.{put_patterns, put_behind, ValidPair, ValidPairs, PairsAt, Onward}

-- ---- first tokens

pub record Head (s : List ℕ) (t : Token) (k : List ℕ) : Type 0 where
  pub is : first_token s ≡ reading t (token_bytes t)
  pub behind : drop (token_bytes t) s ≡ k

head-closing : (k : List ℕ) → Head (15 ∷ k) Token.closing k
unfolding token_bytes
head-closing k = record { is = first-closing k; behind = refl }

head-opening : (p : Span) → ValidSpan p → (k : List ℕ) → Head (7 ∷ put_span p k) Token.opening k
unfolding token_bytes
head-opening p h k = record { is = first_opening p h k; behind = behind-opening p k }

head-symbol : (p : Span) → ValidSpan p → (x : Symbol) → ValidSymbol x → (k : List ℕ) → Head (put_symbol p x k) (Token.symbol x) k
unfolding token_bytes
head-symbol p h x v k = record { is = first-symbol p h x v k; behind = behind-symbol p x k }

-- ---- the two of them

pub record Next (p : Terms) (v : Expression) (l : List Pair) (rest behind_p behind_v : List ℕ) : Type 0 where
  pub first : Pair
  pub more : List Pair
  pub pattern : behind_p ≡ put_terms first.pattern (put_patterns more rest)
  pub value : behind_v ≡ put_expression first.value (put_behind more)
  pub valid : ValidPair first
  pub valid-more : ValidPairs more
  pub same : (b : Bindings) → matches_all (pair p v ∷ l) b ≡ matches_all (first ∷ more) b

-- What follows when the tokens are the same, and what when they are not.
pub record Meeting (p : Terms) (v : Expression) (l : List Pair) (rest : List ℕ) : Type 0 where
  pub token_p : Token
  pub token_v : Token
  pub behind_p : List ℕ
  pub behind_v : List ℕ
  pub head_p : Head (put_terms p (put_patterns l rest)) token_p behind_p
  pub head_v : Head (put_expression v (put_behind l)) token_v behind_v
  pub on : same_token token_p token_v ≡ true → Next p v l rest behind_p behind_v
  pub off : same_token token_p token_v ≡ false → (b : Bindings) → matches_all (pair p v ∷ l) b ≡ []

no : {A : Type 0} → false ≡ true → A
no e = absurd (true≢false (sym e))

no' : {A : Type 0} → true ≡ false → A
no' e = absurd (true≢false e)

meet-nil : (v : Expression) (l : List Pair) (rest : List ℕ) → ValidExpression v → ValidPairs l → (0 < length (put_expression v (put_behind l))) → Meeting nil v l rest
unfolding put_terms put_expression put_behind put_patterns same_token
meet-nil void [] rest g h n = absurd (omega arith)
meet-nil void (y ∷ l) rest g h n = record {
  token_p = Token.closing;
  token_v = Token.closing;
  behind_p = put_patterns (y ∷ l) rest;
  behind_v = put_expression y.value (put_behind l);
  head_p = head-closing (put_patterns (y ∷ l) rest);
  head_v = head-closing (put_expression y.value (put_behind l));
  on = λ e. record { first = y; more = l; pattern = refl; value = refl; valid = h.0; valid-more = h.1; same = λ b. all-ended (y ∷ l) b };
  off = λ e. no' e;
}
meet-nil (atom x w) l rest g h n = record {
  token_p = Token.closing;
  token_v = Token.symbol x;
  behind_p = put_patterns l rest;
  behind_v = put_expression w (put_behind l);
  head_p = head-closing (put_patterns l rest);
  head_v = head-symbol zero_span zero_valid x g.0 (put_expression w (put_behind l));
  on = λ e. no e;
  off = λ e b. ended-atom l b x w;
}
meet-nil (group u w) l rest g h n = record {
  token_p = Token.closing;
  token_v = Token.opening;
  behind_p = put_patterns l rest;
  behind_v = put_expression u (15 ∷ put_expression w (put_behind l));
  head_p = head-closing (put_patterns l rest);
  head_v = head-opening zero_span zero_valid (put_expression u (15 ∷ put_expression w (put_behind l)));
  on = λ e. no e;
  off = λ e b. ended-group l b u w;
}

chosen : (t : Bool) (m : List Bindings) → t ≡ true → cond t m [] ≡ m
chosen t m e = ap (λ (x : Bool). cond x m []) e

dropped : (t : Bool) (m : List Bindings) → t ≡ false → cond t m [] ≡ []
dropped t m e = ap (λ (x : Bool). cond x m []) e

meet-symbol : (s : Span) (a : Symbol) (p : Terms) (v : Expression) (l : List Pair) (rest : List ℕ) → ValidTerms (symbol s a p) Mode.pattern 0 → ValidExpression v → ValidPairs l → (0 < length (put_expression v (put_behind l))) → Meeting (symbol s a p) v l rest
unfolding put_terms put_expression put_behind put_patterns same_token
meet-symbol s a p void [] rest f g h n = absurd (omega arith)
meet-symbol s a p void (y ∷ l) rest f g h n = record {
  token_p = Token.symbol a;
  token_v = Token.closing;
  behind_p = put_terms p (put_patterns (y ∷ l) rest);
  behind_v = put_expression y.value (put_behind l);
  head_p = head-symbol s f.0 a f.1 (put_terms p (put_patterns (y ∷ l) rest));
  head_v = head-closing (put_expression y.value (put_behind l));
  on = λ e. no e;
  off = λ e b. symbol-void (y ∷ l) b s a p;
}
meet-symbol s a p (atom x w) l rest f g h n = record {
  token_p = Token.symbol a;
  token_v = Token.symbol x;
  behind_p = put_terms p (put_patterns l rest);
  behind_v = put_expression w (put_behind l);
  head_p = head-symbol s f.0 a f.1 (put_terms p (put_patterns l rest));
  head_v = head-symbol zero_span zero_valid x g.0 (put_expression w (put_behind l));
  on = λ e. record { first = pair p w; more = l; pattern = refl; value = refl; valid = (f.2, g.1); valid-more = h; same = λ b. symbol-atom l b s a p x w ∙ chosen (same_symbol a x) _ e };
  off = λ e b. symbol-atom l b s a p x w ∙ dropped (same_symbol a x) _ e;
}
meet-symbol s a p (group u w) l rest f g h n = record {
  token_p = Token.symbol a;
  token_v = Token.opening;
  behind_p = put_terms p (put_patterns l rest);
  behind_v = put_expression u (15 ∷ put_expression w (put_behind l));
  head_p = head-symbol s f.0 a f.1 (put_terms p (put_patterns l rest));
  head_v = head-opening zero_span zero_valid (put_expression u (15 ∷ put_expression w (put_behind l)));
  on = λ e. no e;
  off = λ e b. symbol-group l b s a p u w;
}

meet-bracket : (s : Span) (i p : Terms) (v : Expression) (l : List Pair) (rest : List ℕ) → ValidTerms (bracket s i p) Mode.pattern 0 → ValidExpression v → ValidPairs l → (0 < length (put_expression v (put_behind l))) → Meeting (bracket s i p) v l rest
unfolding put_terms put_expression put_behind put_patterns same_token
meet-bracket s i p void [] rest f g h n = absurd (omega arith)
meet-bracket s i p void (y ∷ l) rest f g h n = record {
  token_p = Token.opening;
  token_v = Token.closing;
  behind_p = put_terms i (put_terms p (put_patterns (y ∷ l) rest));
  behind_v = put_expression y.value (put_behind l);
  head_p = head-opening s f.0 (put_terms i (put_terms p (put_patterns (y ∷ l) rest)));
  head_v = head-closing (put_expression y.value (put_behind l));
  on = λ e. no e;
  off = λ e b. bracket-void (y ∷ l) b s i p;
}
meet-bracket s i p (atom x w) l rest f g h n = record {
  token_p = Token.opening;
  token_v = Token.symbol x;
  behind_p = put_terms i (put_terms p (put_patterns l rest));
  behind_v = put_expression w (put_behind l);
  head_p = head-opening s f.0 (put_terms i (put_terms p (put_patterns l rest)));
  head_v = head-symbol zero_span zero_valid x g.0 (put_expression w (put_behind l));
  on = λ e. no e;
  off = λ e b. bracket-atom l b s i p x w;
}
meet-bracket s i p (group u w) l rest f g h n = record {
  token_p = Token.opening;
  token_v = Token.opening;
  behind_p = put_terms i (put_terms p (put_patterns l rest));
  behind_v = put_expression u (15 ∷ put_expression w (put_behind l));
  head_p = head-opening s f.0 (put_terms i (put_terms p (put_patterns l rest)));
  head_v = head-opening zero_span zero_valid (put_expression u (15 ∷ put_expression w (put_behind l)));
  on = λ e. record { first = pair i u; more = pair p w ∷ l; pattern = refl; value = refl; valid = (fewer_around i Mode.pattern 1 0 (omega arith) f.2, g.0); valid-more = ((f.3, g.1), h); same = λ b. bracket-group l b s i p u w };
  off = λ e. no' e;
}

variable-mark : (k : Kind) → (4 ≤ kind_mark k) × (kind_mark k ≤ 6)
unfolding kind_mark
variable-mark s_kind = (omega arith, omega arith)
variable-mark t_kind = (omega arith, omega arith)
variable-mark e_kind = (omega arith, omega arith)

pub meeting : (p : Terms) (v : Expression) (l : List Pair) (rest : List ℕ) → ValidPair (pair p v) → ValidPairs l → ((4 ≤ get_or (put_terms p (put_patterns l rest)) 0 0) × (get_or (put_terms p (put_patterns l rest)) 0 0 ≤ 6) → ⊥) → 0 < length (put_expression v (put_behind l)) → Meeting p v l rest
unfolding put_terms
meeting nil v l rest h g f n = meet-nil v l rest h.1 g n
meeting (symbol s a p) v l rest h g f n = meet-symbol s a p v l rest h.0 h.1 g n
meeting (variable s k m p) v l rest h g f n = absurd (f (variable-mark k))
meeting (bracket s i p) v l rest h g f n = meet-bracket s i p v l rest h.0 h.1 g n
meeting (call s m a p) v l rest h g f n = absurd h.0.2
meeting (block s a c p) v l rest h g f n = absurd h.0.2

-- ---- at the value's end

symbol-there : (x : Symbol) (k : List ℕ) → 0 < length (put_symbol zero_span x k)
unfolding put_symbol
symbol-there (Symbol.character c) k = omega arith
symbol-there (Symbol.identifier n) k = omega arith
symbol-there (Symbol.number n) k = omega arith

pub all-void : (v : Expression) (l : List Pair) → length (put_expression v (put_behind l)) ≡ 0 → (v ≡ void) × (l ≡ [])
unfolding put_expression put_behind
all-void void [] e = (refl, refl)
all-void void (y ∷ l) e = absurd (omega arith)
all-void (atom x w) l e = absurd (let z = symbol-there x (put_expression w (put_behind l)) in omega (arith, z, e))
all-void (group u w) l e = absurd (omega arith)

pub ended-close : (p : Terms) (l : List Pair) (rest : List ℕ) → get_or (put_terms p (put_patterns l rest)) 0 0 ≡ 15 → (p ≡ nil)
unfolding put_terms put_symbol put_patterns
ended-close nil l rest e = refl
ended-close (symbol s (Symbol.character c) p) l rest e = absurd (omega arith)
ended-close (symbol s (Symbol.identifier n) p) l rest e = absurd (omega arith)
ended-close (symbol s (Symbol.number n) p) l rest e = absurd (omega arith)
ended-close (variable s k n p) l rest e = absurd (let m = variable-mark k in omega (arith, m.1, e))
ended-close (bracket s i p) l rest e = absurd (omega arith)
ended-close (call s f a p) l rest e = absurd (omega arith)
ended-close (block s a c p) l rest e = absurd (omega arith)

ended-other : (p : Terms) (rest : List ℕ) → ValidTerms p Mode.pattern 0 → ((4 ≤ get_or (put_terms p rest) 0 0) × (get_or (put_terms p rest) 0 0 ≤ 6) → ⊥) → (get_or (put_terms p rest) 0 0 ≡ 15 → ⊥) → (b : Bindings) → matches_all (pair p void ∷ []) b ≡ []
unfolding put_terms
ended-other nil rest h f e b = absurd (e refl)
ended-other (symbol s a p) rest h f e b = symbol-void [] b s a p
ended-other (variable s k n p) rest h f e b = absurd (f (variable-mark k))
ended-other (bracket s i p) rest h f e b = bracket-void [] b s i p
ended-other (call s m a p) rest h f e b = absurd h.2
ended-other (block s a c p) rest h f e b = absurd h.2

one_match : (b : Bindings) → matches_all (pair nil void ∷ []) b ≡ b ∷ []
unfolding matches_all
one_match b = all-ended [] b

-- ---- at two places

pub drop-take : (m n : ℕ) (s : List ℕ) → drop m (take n s) ≡ take (n - m) (drop m s)
drop-take zero n s = ap (λ (i : ℕ). take i s) (let e : n ≡ n - 0 = omega arith in e)
drop-take (suc m) zero s = let e : 0 ≡ 0 - suc m = omega arith in ap (λ (i : ℕ). take i (drop (suc m) s)) e
drop-take (suc m) (suc n) [] = sym (take-nil (suc n - suc m))
drop-take (suc m) (suc n) (x ∷ s) = drop-take m n s ∙ (let e : n - m ≡ suc n - suc m = omega arith in ap (λ (i : ℕ). take i (drop m s)) e)

matched : (p : Terms) (v : Expression) (l : List Pair) → p ≡ nil → v ≡ void → l ≡ [] → (b : Bindings) → matches_all (pair p v ∷ l) b ≡ b ∷ []
matched p v l e f g b = ap (λ (q : Terms). matches_all (pair q v ∷ l) b) e ∙ (ap (λ (q : Expression). matches_all (pair nil q ∷ l) b) f ∙ (ap (λ (q : List Pair). matches_all (pair nil void ∷ q) b) g ∙ one_match b))

module _ {body work : List ℕ} {p v end : ℕ} {rest : List ℕ} {x : Pair} {l : List Pair} (at : PairsAt body work p v end rest x l) where
  pub slice_length : length (take (end - v) (drop v work)) ≡ end - v
  slice_length = length-take-le (end - v) (drop v work) (let d = length-drop v work in let w = at.within in omega (arith, d, w))

  pub pattern-there : p < length body
  pattern-there = let z = ap length at.pattern in let k = terms-length x.pattern (put_patterns l rest) in let d = length-drop p body in omega (arith, z, k, d)

  pub nothing_left_lem : v ≡ end → (x.value ≡ void) × (l ≡ [])
  nothing_left_lem e = all-void x.value l (sym (ap length at.value) ∙ (slice_length ∙ (let z : end - v ≡ 0 = omega (arith, e) in z)))

  mark-here : get_or (drop p body) 0 0 ≡ get_or (put_terms x.pattern (put_patterns l rest)) 0 0
  mark-here = ap (λ (s : List ℕ). get_or s 0 0) at.pattern

  pub matched_here : v ≡ end → get_or (drop p body) 0 0 ≡ 15 → (drop (p + 1) body ≡ rest) × ((b : Bindings) → matches_all (x ∷ l) b ≡ b ∷ [])
  unfolding put_terms put_patterns
  matched_here e f =
      let o = nothing_left_lem e in
      let q = ended-close x.pattern l rest (sym mark-here ∙ f) in (
        sym (drop-drop 1 p body) ∙ ap (drop 1) (at.pattern ∙ (ap (λ (t : Terms). put_terms t (put_patterns l rest)) q ∙ ap (λ (m : List Pair). 15 ∷ put_patterns m rest) o.1)),
        λ b. matched x.pattern x.value l q o.0 o.1 b,
      )

  pub failed_here : v ≡ end → ((4 ≤ get_or (drop p body) 0 0) × (get_or (drop p body) 0 0 ≤ 6) → ⊥) → (get_or (drop p body) 0 0 ≡ 15 → ⊥) → (b : Bindings) → matches_all (x ∷ l) b ≡ []
  failed_here e f g b =
      let o = nothing_left_lem e in
      let m = mark-here in
      ap (λ (q : Expression). matches_all (pair x.pattern q ∷ l) b) o.0
      ∙ (ap (λ (q : List Pair). matches_all (pair x.pattern void ∷ q) b) o.1
      ∙ ended-other x.pattern (put_patterns l rest) at.valid.0 (λ h. f (subst (λ (i : ℕ). (4 ≤ i) × (i ≤ 6)) (sym m) h)) (λ h. g (m ∙ h)) b)

  module _ (apart : v ≡ end → ⊥) (fixed : (4 ≤ get_or (drop p body) 0 0) × (get_or (drop p body) 0 0 ≤ 6) → ⊥) where
    here : Meeting x.pattern x.value l rest
    here =
        meeting x.pattern x.value l rest at.valid at.valid-more (λ h. fixed (subst (λ (i : ℕ). (4 ≤ i) × (i ≤ 6)) (sym mark-here) h))
        (let z = ap length at.value in let o = at.ordered in by z o)
      where
        positive : (n : ℕ) → end - v ≡ n → v ≤ end → 0 < n
        positive zero e o = absurd (apart (omega arith))
        positive (suc n) e o = omega arith

        by : length (take (end - v) (drop v work)) ≡ length (put_expression x.value (put_behind l)) → v ≤ end → 0 < length (put_expression x.value (put_behind l))
        by z o = positive (length (put_expression x.value (put_behind l))) (sym slice_length ∙ z) o

    pub pattern-token : {a : List ℕ} → a ≡ drop p body → TokenAt a
    pattern-token q = record { reading = record { token = here.token_p; size = token_bytes here.token_p }; is = ap first_token (q ∙ at.pattern) ∙ here.head_p.is }

    pub value-token : TokenAt (take (end - v) (drop v work))
    value-token = record { reading = record { token = here.token_v; size = token_bytes here.token_v }; is = ap first_token at.value ∙ here.head_v.is }

    module _ {a : List ℕ} (q : a ≡ drop p body) (t : Bool) (told : (y : TokenAt a) (z : TokenAt (take (end - v) (drop v work))) → t ≡ same_token y.reading.token z.reading.token) where
      pub off-here : t ≡ false → (b : Bindings) → matches_all (x ∷ l) b ≡ []
      unfolding pattern-token value-token
      off-here e b = here.off (sym (told (pattern-token q) value-token) ∙ e) b

      pub on-here : t ≡ true → (n m : ℕ) → ((y : TokenAt a) → n ≡ y.reading.size) → ((z : TokenAt (take (end - v) (drop v work))) → m ≡ z.reading.size) → Onward body work (p + n) (v + m) end rest x l
      unfolding pattern-token value-token
      on-here e n m f g =
          let n' = f (pattern-token q) in
          let m' = g value-token in
          let y = here.on (sym (told (pattern-token q) value-token) ∙ e) in
          let s = subst (Sized (take (end - v) (drop v work))) value-token.is (first-sized (take (end - v) (drop v work))) in
          let r : v + m ≤ end = (let o = at.ordered in let i = slice_length in omega (arith, o, i, s.1, m')) in
          record {
            first = y.first;
            more = y.more;
            at = record {
              pattern = sym (drop-drop n p body) ∙ (ap (drop n) at.pattern ∙ (ap (λ (i : ℕ). drop i (put_terms x.pattern (put_patterns l rest))) n' ∙ (here.head_p.behind ∙ y.pattern)));
              value =
                  ap (λ (i : ℕ). take i (drop (v + m) work)) (let z : end - (v + m) ≡ end - v - m = omega arith in z)
                  ∙ (ap (take (end - v - m)) (sym (drop-drop m v work)) ∙ (sym (drop-take m (end - v) (drop v work)) ∙ (ap (drop m) at.value ∙ (ap (λ (i : ℕ). drop i (put_expression x.value (put_behind l))) m' ∙ (here.head_v.behind ∙ y.value)))));
              ordered = r;
              within = at.within;
              valid = y.valid;
              valid-more = y.valid-more;
            };
            same = y.same;
          }
