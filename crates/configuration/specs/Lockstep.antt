-- Two arguments token by token, "once variable names are numbered by first appearance": a token is a symbol, a variable, a bracket's beginning or a close.
use Rattle.std.specs.Prelude.{ℕ, ◌+◌, ◌<◌, ◌≡◌, Bool, true, false, ◌&&◌, cond, List, [], ◌∷◌, ◌++◌, length, get_or, drop}
use Rattle.program.specs.Syntax.{Name, Span, Terms, nil, symbol, variable, bracket, call, block}
use Rattle.program.specs.Bytes.{put_span}
use Rattle.program.specs.Encode.{put_terms}
use Rattle.program.specs.Limits.{Mode, ValidSpan}
use Rattle.image.specs.Parts.{Passes, TermsAt}
use Rattle.patterns.specs.Names.{caseless, eq_bytes}
use Rattle.patterns.specs.Symbols.{eq_symbol}
use Rattle.patterns.specs.Equality.{eq_span, eq_kind}

-- What stands behind the first token.
unfoldable pub after_token : Terms → List ℕ → List ℕ
after_token nil k = k
after_token (symbol s x r) k = put_terms r k
after_token (variable s v n r) k = put_terms r k
after_token (bracket s i r) k = put_terms i (put_terms r k)
after_token (call s f a r) k = k
after_token (block s a b r) k = k

-- The first tokens are the same but for variables' names.
unfoldable pub same_token : Terms → Terms → Bool
same_token nil nil = true
same_token nil (symbol z y u) = false
same_token nil (variable z l m u) = false
same_token nil (bracket z j u) = false
same_token nil (call z g c u) = false
same_token nil (block z c d u) = false
same_token (symbol s x r) nil = false
same_token (symbol s x r) (symbol z y u) = eq_span s z && eq_symbol x y
same_token (symbol s x r) (variable z l m u) = false
same_token (symbol s x r) (bracket z j u) = false
same_token (symbol s x r) (call z g c u) = false
same_token (symbol s x r) (block z c d u) = false
same_token (variable s k n r) nil = false
same_token (variable s k n r) (symbol z y u) = false
same_token (variable s k n r) (variable z l m u) = eq_span s z && eq_kind k l
same_token (variable s k n r) (bracket z j u) = false
same_token (variable s k n r) (call z g c u) = false
same_token (variable s k n r) (block z c d u) = false
same_token (bracket s i r) nil = false
same_token (bracket s i r) (symbol z y u) = false
same_token (bracket s i r) (variable z l m u) = false
same_token (bracket s i r) (bracket z j u) = eq_span s z
same_token (bracket s i r) (call z g c u) = false
same_token (bracket s i r) (block z c d u) = false
same_token (call s f a r) w = false
same_token (block s a b r) w = false

-- The name of a variable that stands first.
unfoldable pub first_name : Terms → List Name
first_name nil = []
first_name (symbol s x r) = []
first_name (variable s k n r) = caseless n ∷ []
first_name (bracket s i r) = []
first_name (call s f a r) = []
first_name (block s a b r) = []

-- Two names that stand at the same place of two arguments.
pub record Pair : Type 0 where
  pub one : Name
  pub two : Name

abbrev pub pair : Name → Name → Pair
pair n m = record { one = n; two = m }

unfoldable pub pairs : List Name → List Name → List Pair
pairs [] l = []
pairs (n ∷ ns) [] = []
pairs (n ∷ ns) (m ∷ ms) = pair n m ∷ []

-- The name is the one of the variable that stands first.
unfoldable pub meets : List Name → Name → Bool
meets [] m = false
meets (n ∷ ns) m = eq_bytes n m

-- The same number without counting: both names are new, or both are first seen at the same pair.
unfoldable pub first_both : Name → Name → List Pair → Bool
first_both n m [] = true
first_both n m (p ∷ ps) = cond (eq_bytes p.one n) (eq_bytes p.two m) (cond (eq_bytes p.two m) false (first_both n m ps))

-- The same of the tokens: those that are no variables have no names.
unfoldable pub alike : List Name → List Name → List Pair → Bool
alike [] l ps = true
alike (n ∷ ns) [] ps = true
alike (n ∷ ns) (m ∷ ms) ps = first_both n m ps

-- A token of each argument, at x of a and y of b.
pub record Step : Type 0 where
  pub first : ℕ
  pub second : ℕ
  pub names : List Pair

pub record StepAt (a b : List ℕ) (x y : ℕ) (t : Step) : Type 0 where
  pub one : TermsAt Mode.pattern (drop x a)
  pub two : TermsAt Mode.pattern (drop y b)
  pub past_one : Passes (drop x a) t.first (after_token one.terms one.rest)
  pub past_two : Passes (drop y b) t.second (after_token two.terms two.rest)
  pub moves : 0 < t.first
  pub names : t.names ≡ pairs (first_name one.terms) (first_name two.terms)
  pub together : length (first_name one.terms) ≡ length (first_name two.terms)

-- The tokens from x and y on lead to i and j.
abbrev pub Path : List ℕ → List ℕ → List Step → ℕ → ℕ → ℕ → ℕ → Type 0
Path a b [] x y i j = (x ≡ i) × (y ≡ j)
Path a b (t ∷ ts) x y i j = StepAt a b x y t × Path a b ts (x + t.first) (y + t.second) i j

unfoldable pub names_met : List Step → List Pair
names_met [] = []
names_met (t ∷ ts) = t.names ++ names_met ts

-- A walk over both arguments from their starts.
pub record Walked (a b : List ℕ) (i j : ℕ) : Type 0 where
  pub steps : List Step
  pub path : Path a b steps 0 0 i j

-- Such a walk to two places where patterns go on with the same mark.
pub record WalkedTo (a b : List ℕ) (i j : ℕ) : Type 0 where
  pub walked : Walked a b i j
  pub one : TermsAt Mode.pattern (drop i a)
  pub two : TermsAt Mode.pattern (drop j b)
  pub marks : get_or (drop i a) 0 0 ≡ get_or (drop j b) 0 0

-- A record begins with its mark and its span.
pub record SpanAt (s : List ℕ) : Type 0 where
  pub mark : ℕ
  pub span : Span
  pub rest : List ℕ
  pub is : s ≡ mark ∷ put_span span rest
  pub valid : ValidSpan span
