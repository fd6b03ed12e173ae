-- Matching pair by pair: patterns with the expressions that they are to meet, one law for each beginning of the first pair.
use mathlib.Core.Path.{◌≡◌, refl, sym, ap, ◌∙◌}
use mathlib.Core.Bool.{Bool, true, false, ◌&&◌, cond}
use mathlib.Core.List.{List, [], ◌∷◌, ◌++◌, map, flat_map, append-nil, append_assoc}
use mathlib.Core.Option.{Option, none, some}
use Rattle.program.specs.Syntax.{Span, Name, Kind, s_kind, t_kind, e_kind, Symbol, Terms, nil, symbol, variable, bracket, call, block, Sentences}
use Rattle.patterns.specs.Symbols.{same_symbol}
use Rattle.patterns.specs.Expression.{Expression, void, atom, group}
use Rattle.meaning.specs.Match.{Binding, Bindings, value_of, same_expression, meets, bind, Split, splits, matches}
use Rattle.meaning.proofs.Fronts.{rest_after}

-- ---- lists of lists

flat_map_append : {A B : Type 0} (f : A → List B) (l k : List A) → flat_map f (l ++ k) ≡ flat_map f l ++ flat_map f k
unfolding flat_map
flat_map_append f [] k = refl
flat_map_append f (x ∷ l) k = ap (λ (y : List _). f x ++ y) (flat_map_append f l k) ∙ sym (append_assoc (f x) (flat_map f l) (flat_map f k))

pub flat_map_flat_map : {A B C : Type 0} (f : B → List C) (g : A → List B) (l : List A) → flat_map f (flat_map g l) ≡ flat_map (λ x. flat_map f (g x)) l
unfolding flat_map
flat_map_flat_map f g [] = refl
flat_map_flat_map f g (x ∷ l) = flat_map_append f (g x) (flat_map g l) ∙ ap (λ (y : List _). flat_map f (g x) ++ y) (flat_map_flat_map f g l)

pub flat_map_map : {A B C : Type 0} (f : B → List C) (g : A → B) (l : List A) → flat_map f (map g l) ≡ flat_map (λ x. f (g x)) l
unfolding flat_map
flat_map_map f g [] = refl
flat_map_map f g (x ∷ l) = ap (λ (y : List _). f (g x) ++ y) (flat_map_map f g l)

pub flat_map_alike : {A B : Type 0} (f g : A → List B) (l : List A) → ((x : A) → f x ≡ g x) → flat_map f l ≡ flat_map g l
unfolding flat_map
flat_map_alike f g [] h = refl
flat_map_alike f g (x ∷ l) h = ap (λ (y : List _). y ++ flat_map f l) (h x) ∙ ap (λ (y : List _). g x ++ y) (flat_map_alike f g l h)

flat_map_none : {A B : Type 0} (f : A → List B) (l : List A) → ((x : A) → f x ≡ []) → flat_map f l ≡ []
unfolding flat_map
flat_map_none f [] h = refl
flat_map_none f (x ∷ l) h = ap (λ (y : List _). y ++ flat_map f l) (h x) ∙ flat_map_none f l h

flat_map_one : {A B : Type 0} (f : A → List B) (x : A) → flat_map f (x ∷ []) ≡ f x
unfolding flat_map
flat_map_one f x = append-nil (f x)

flat_map_cond : {A B : Type 0} (f : A → List B) (t : Bool) (l : List A) → flat_map f (cond t l []) ≡ cond t (flat_map f l) []
unfolding flat_map
flat_map_cond f true l = refl
flat_map_cond f false l = refl

-- ---- pairs

pub record Pair : Type 0 where
  pub pattern : Terms
  pub value : Expression

abbrev pub pair : Terms → Expression → Pair
pair p v = record { pattern = p; value = v }

-- The matches of all pairs, one after another.
unfoldable pub matches_all : List Pair → Bindings → List Bindings
matches_all [] b = b ∷ []
matches_all (x ∷ l) b = flat_map (λ c. matches_all l c) (matches x.pattern x.value b)

ones : (l : List Bindings) → flat_map (λ c. c ∷ []) l ≡ l
unfolding flat_map
ones [] = refl
ones (x ∷ l) = ap (λ (y : List Bindings). x ∷ y) (ones l)

-- One pair is a pattern with its expression.
pub all_one : (p : Terms) (v : Expression) (b : Bindings) → matches_all (pair p v ∷ []) b ≡ matches p v b
unfolding matches_all
all_one p v b = ones (matches p v b)

module _ (l : List Pair) (b : Bindings) where
  pub all-ended : matches_all (pair nil void ∷ l) b ≡ matches_all l b
  unfolding matches_all matches
  all-ended = flat_map_one (λ c. matches_all l c) b

  pub ended-atom : (x : Symbol) (w : Expression) → matches_all (pair nil (atom x w) ∷ l) b ≡ []
  unfolding matches_all matches flat_map
  ended-atom x w = refl

  pub ended-group : (u w : Expression) → matches_all (pair nil (group u w) ∷ l) b ≡ []
  unfolding matches_all matches flat_map
  ended-group u w = refl

  module _ (s : Span) (a : Symbol) (p : Terms) where
    pub symbol-void : matches_all (pair (symbol s a p) void ∷ l) b ≡ []
    unfolding matches_all matches flat_map
    symbol-void = refl

    pub symbol-atom : (x : Symbol) (w : Expression) → matches_all (pair (symbol s a p) (atom x w) ∷ l) b ≡ cond (same_symbol a x) (matches_all (pair p w ∷ l) b) []
    unfolding matches_all matches
    symbol-atom x w = flat_map_cond (λ c. matches_all l c) (same_symbol a x) (matches p w b)

    pub symbol-group : (u w : Expression) → matches_all (pair (symbol s a p) (group u w) ∷ l) b ≡ []
    unfolding matches_all matches flat_map
    symbol-group u w = refl

  module _ (s : Span) (n : Name) (p : Terms) where
    pub s_void : matches_all (pair (variable s s_kind n p) void ∷ l) b ≡ []
    unfolding matches_all matches flat_map
    s_void = refl

    pub s_atom : (x : Symbol) (w : Expression) → matches_all (pair (variable s s_kind n p) (atom x w) ∷ l) b ≡ flat_map (λ c. matches_all (pair p w ∷ l) c) (bind s_kind n (atom x void) b)
    unfolding matches_all matches
    s_atom x w = flat_map_flat_map (λ c. matches_all l c) (λ c. matches p w c) (bind s_kind n (atom x void) b)

    pub s_group : (u w : Expression) → matches_all (pair (variable s s_kind n p) (group u w) ∷ l) b ≡ []
    unfolding matches_all matches flat_map
    s_group u w = refl

    pub t_void : matches_all (pair (variable s t_kind n p) void ∷ l) b ≡ []
    unfolding matches_all matches flat_map
    t_void = refl

    pub t_atom : (x : Symbol) (w : Expression) → matches_all (pair (variable s t_kind n p) (atom x w) ∷ l) b ≡ flat_map (λ c. matches_all (pair p w ∷ l) c) (bind t_kind n (atom x void) b)
    unfolding matches_all matches
    t_atom x w = flat_map_flat_map (λ c. matches_all l c) (λ c. matches p w c) (bind t_kind n (atom x void) b)

    pub t_group : (u w : Expression) → matches_all (pair (variable s t_kind n p) (group u w) ∷ l) b ≡ flat_map (λ c. matches_all (pair p w ∷ l) c) (bind t_kind n (group u void) b)
    unfolding matches_all matches
    t_group u w = flat_map_flat_map (λ c. matches_all l c) (λ c. matches p w c) (bind t_kind n (group u void) b)

    pub e_any : (v : Expression) → matches_all (pair (variable s e_kind n p) v ∷ l) b ≡ flat_map (λ x. flat_map (λ c. matches_all (pair p x.rest ∷ l) c) (bind e_kind n x.front b)) (splits v)
    unfolding matches_all matches
    e_any v =
        flat_map_flat_map (λ c. matches_all l c) (λ x. flat_map (λ c. matches p x.rest c) (bind e_kind n x.front b)) (splits v)
        ∙ flat_map_alike _ _ (splits v) (λ x. flat_map_flat_map (λ c. matches_all l c) (λ c. matches p x.rest c) (bind e_kind n x.front b))

  module _ (s : Span) (i p : Terms) where
    pub bracket-void : matches_all (pair (bracket s i p) void ∷ l) b ≡ []
    unfolding matches_all matches flat_map
    bracket-void = refl

    pub bracket-atom : (x : Symbol) (w : Expression) → matches_all (pair (bracket s i p) (atom x w) ∷ l) b ≡ []
    unfolding matches_all matches flat_map
    bracket-atom x w = refl

    -- A bracket's inside comes first, and then what follows it.
    pub bracket-group : (u w : Expression) → matches_all (pair (bracket s i p) (group u w) ∷ l) b ≡ matches_all (pair i u ∷ pair p w ∷ l) b
    unfolding matches_all matches
    bracket-group u w = flat_map_flat_map (λ c. matches_all l c) (λ c. matches p w c) (matches i u b)

  pub no_call : (s : Span) (f : Name) (a p : Terms) (v : Expression) → matches_all (pair (call s f a p) v ∷ l) b ≡ []
  unfolding matches_all matches flat_map
  no_call s f a p v = refl

  pub no_block : (s : Span) (a : Terms) (c : Sentences) (p : Terms) (v : Expression) → matches_all (pair (block s a c p) v ∷ l) b ≡ []
  unfolding matches_all matches flat_map
  no_block s a c p v = refl

-- ---- variables, new and known

abbrev pub bound : Kind → Name → Expression → Binding
bound k n v = record { kind = k; name = n; value = v }

module _ (f : Bindings → List Bindings) (k : Kind) (n : Name) (v : Expression) (b : Bindings) where
  pub bind_new : value_of k n b ≡ none → flat_map f (bind k n v b) ≡ f (bound k n v ∷ b)
  unfolding bind meets
  bind_new e = ap (λ (o : Option Expression). flat_map f (meets o k n v b)) e ∙ flat_map_one f (bound k n v ∷ b)

  pub bind_known : (u : Expression) → value_of k n b ≡ some u → flat_map f (bind k n v b) ≡ cond (same_expression u v) (f b) []
  unfolding bind meets
  bind_known u e = ap (λ (o : Option Expression). flat_map f (meets o k n v b)) e ∙ (flat_map_cond f (same_expression u v) (b ∷ []) ∙ ap (λ (y : List Bindings). cond (same_expression u v) y []) (flat_map_one f b))

-- ---- a known variable fits one split at most

unfoldable pub if_left : {B : Type 0} → Option Expression → (Expression → List B) → List B
if_left none f = []
if_left (some r) f = f r

if_cond : {B : Type 0} (t : Bool) (o : Option Expression) (f : Expression → List B) → cond t (if_left o f) [] ≡ if_left (cond t o none) f
unfolding if_left
if_cond true o f = refl
if_cond false o f = refl

module _ {B : Type 0} (f : Expression → List B) where
  abbrev fitting : Expression → Split → List B
  fitting u x = cond (same_expression u x.front) (f x.rest) []

  -- Behind a first term, the same of the rest.
  fitting_and : (t : Bool) (u : Expression) (l : List Split) → flat_map (λ x. cond (t && same_expression u x.front) (f x.rest) []) l ≡ cond t (flat_map (fitting u) l) []
  unfolding flat_map
  fitting_and true u l = refl
  fitting_and false u l = flat_map_none _ l (λ x. refl)

  pub known_split : (u v : Expression) → flat_map (fitting u) (splits v) ≡ if_left (rest_after u v) f
  unfolding flat_map splits same_expression rest_after if_left
  known_split void void = append-nil (f void)
  known_split void (atom x v) = ap (λ (y : List B). f (atom x v) ++ y) (flat_map_map (fitting void) _ (splits v) ∙ flat_map_none _ (splits v) (λ x. refl)) ∙ append-nil (f (atom x v))
  known_split void (group j v) = ap (λ (y : List B). f (group j v) ++ y) (flat_map_map (fitting void) _ (splits v) ∙ flat_map_none _ (splits v) (λ x. refl)) ∙ append-nil (f (group j v))
  known_split (atom y u) void = refl
  known_split (atom y u) (atom x v) =
      flat_map_map (fitting (atom y u)) _ (splits v)
      ∙ (fitting_and (same_symbol y x) u (splits v) ∙ (ap (λ (k : List B). cond (same_symbol y x) k []) (known_split u v) ∙ if_cond (same_symbol y x) (rest_after u v) f))
  known_split (atom y u) (group j v) = flat_map_map (fitting (atom y u)) _ (splits v) ∙ flat_map_none _ (splits v) (λ x. refl)
  known_split (group i u) void = refl
  known_split (group i u) (atom x v) = flat_map_map (fitting (group i u)) _ (splits v) ∙ flat_map_none _ (splits v) (λ x. refl)
  known_split (group i u) (group j v) =
      flat_map_map (fitting (group i u)) _ (splits v)
      ∙ (fitting_and (same_expression i j) u (splits v) ∙ (ap (λ (k : List B). cond (same_expression i j) k []) (known_split u v) ∙ if_cond (same_expression i j) (rest_after u v) f))

-- An `e.` variable that is known: what is left behind its value.
pub e_known : (l : List Pair) (b : Bindings) (s : Span) (n : Name) (p : Terms) (v u : Expression) → value_of e_kind n b ≡ some u → matches_all (pair (variable s e_kind n p) v ∷ l) b ≡ if_left (rest_after u v) (λ r. matches_all (pair p r ∷ l) b)
e_known l b s n p v u e =
    e_any l b s n p v
    ∙ (flat_map_alike _ _ (splits v) (λ x. bind_known (λ c. matches_all (pair p x.rest ∷ l) c) e_kind n x.front b u e)
    ∙ known_split (λ r. matches_all (pair p r ∷ l) b) u v)

-- One that is new takes any front.
pub e_new : (l : List Pair) (b : Bindings) (s : Span) (n : Name) (p : Terms) (v : Expression) → value_of e_kind n b ≡ none → matches_all (pair (variable s e_kind n p) v ∷ l) b ≡ flat_map (λ x. matches_all (pair p x.rest ∷ l) (bound e_kind n x.front ∷ b)) (splits v)
e_new l b s n p v e = e_any l b s n p v ∙ flat_map_alike _ _ (splits v) (λ x. bind_new (λ c. matches_all (pair p x.rest ∷ l) c) e_kind n x.front b e)

-- ---- before its sequence's close it takes all

last_split : {B : Type 0} (f : Split → List B) (v : Expression) → ((x : Split) (y : Symbol) (w : Expression) → x.rest ≡ atom y w → f x ≡ []) → ((x : Split) (u w : Expression) → x.rest ≡ group u w → f x ≡ []) → flat_map f (splits v) ≡ f (record { front = v; rest = void })
unfolding flat_map splits
last_split f void h k = append-nil (f (record { front = void; rest = void }))
last_split f (atom x v) h k =
    ap (λ (y : List _). y ++ flat_map f (map (λ c. record { front = atom x c.front; rest = c.rest }) (splits v))) (h (record { front = void; rest = atom x v }) x v refl)
    ∙ (flat_map_map f _ (splits v) ∙ last_split (λ c. f (record { front = atom x c.front; rest = c.rest })) v (λ c y w e. h (record { front = atom x c.front; rest = c.rest }) y w e) (λ c u w e. k (record { front = atom x c.front; rest = c.rest }) u w e))
last_split f (group i v) h k =
    ap (λ (y : List _). y ++ flat_map f (map (λ c. record { front = group i c.front; rest = c.rest }) (splits v))) (k (record { front = void; rest = group i v }) i v refl)
    ∙ (flat_map_map f _ (splits v) ∙ last_split (λ c. f (record { front = group i c.front; rest = c.rest })) v (λ c y w e. h (record { front = group i c.front; rest = c.rest }) y w e) (λ c u w e. k (record { front = group i c.front; rest = c.rest }) u w e))

pub e_last : (l : List Pair) (b : Bindings) (s : Span) (n : Name) (v : Expression) → value_of e_kind n b ≡ none → matches_all (pair (variable s e_kind n nil) v ∷ l) b ≡ matches_all l (bound e_kind n v ∷ b)
e_last l b s n v e =
    e_new l b s n nil v e
    ∙ (last_split (λ x. matches_all (pair nil x.rest ∷ l) (bound e_kind n x.front ∷ b)) v
    (λ x y w q. ap (λ (r : Expression). matches_all (pair nil r ∷ l) (bound e_kind n x.front ∷ b)) q ∙ ended-atom l (bound e_kind n x.front ∷ b) y w)
    (λ x u w q. ap (λ (r : Expression). matches_all (pair nil r ∷ l) (bound e_kind n x.front ∷ b)) q ∙ ended-group l (bound e_kind n x.front ∷ b) u w)
    ∙ all-ended l (bound e_kind n v ∷ b))
