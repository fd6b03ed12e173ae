-- A match binds each variable to an expression that fits its kind, and what it matches is a fresh instance of the pattern.
use mathlib.Core.Path.{◌≡◌, refl, ap}
use mathlib.Core.Logic.{inl, inr}
use mathlib.Core.Bool.{Bool, true, false, cond}
use mathlib.Core.List.{[], ◌∷◌}
use mathlib.Core.Option.{Option, none, some}
use lib.Dec.{T}
use Rattle.program.specs.Syntax.{Name, Kind, s_kind, t_kind, e_kind, Terms, nil, symbol, variable, bracket, call, block}
use Rattle.patterns.specs.Names.{same_name}
use Rattle.patterns.specs.Symbols.{same_symbol}
use Rattle.patterns.specs.Expression.{Expression, void, atom, group, ◌⧺◌}
use Rattle.patterns.specs.Fresh.{Fits, Fresh}
use Rattle.patterns.specs.Equality.{eq_kind}
use Rattle.meaning.specs.Match.{Binding, Bindings, is_variable, value_of, same_expression, meets, bind, Split, splits, matches}
use Rattle.meaning.proofs.Every.{and_left, All, Opt, all_mono, all_map, all_flat_map, all_if}

abbrev pub BindingFits : Binding → Type 0
BindingFits x = Fits x.kind x.value

abbrev pub WellKinded : Bindings → Type 0
WellKinded b = All BindingFits b

fits-kind : (k l : Kind) (v : Expression) → T (eq_kind k l) → Fits l v → Fits k v
unfolding eq_kind
fits-kind s_kind s_kind v h f = f
fits-kind s_kind t_kind v h f = absurd h
fits-kind s_kind e_kind v h f = absurd h
fits-kind t_kind s_kind v h f = absurd h
fits-kind t_kind t_kind v h f = f
fits-kind t_kind e_kind v h f = absurd h
fits-kind e_kind s_kind v h f = absurd h
fits-kind e_kind t_kind v h f = absurd h
fits-kind e_kind e_kind v h f = f

variable-fits : (k : Kind) (n : Name) (x : Binding) → T (is_variable k n x) → BindingFits x → Fits k x.value
unfolding is_variable
variable-fits k n x h f = fits-kind k x.kind x.value (and_left (eq_kind k x.kind) (same_name n x.name) h) f

opt_if : {A : Type 0} (P : A → Type 0) (t : Bool) (x : A) (o : Option A) → (T t → P x) → Opt P o → Opt P (cond t (some x) o)
opt_if P true x o h k = h tt
opt_if P false x o h k = k

-- The value of a variable fits its kind.
pub value-fits : (k : Kind) (n : Name) (b : Bindings) → WellKinded b → Opt (Fits k) (value_of k n b)
unfolding value_of
value-fits k n [] w = tt
value-fits k n (x ∷ b) w = opt_if (Fits k) (is_variable k n x) x.value (value_of k n b) (λ h. variable-fits k n x h w.0) (value-fits k n b w.1)

meets-fits : (o : Option Expression) (k : Kind) (n : Name) (v : Expression) (b : Bindings) → Fits k v → WellKinded b → All WellKinded (meets o k n v b)
unfolding meets
meets-fits none k n v b f w = ((f, w), tt)
meets-fits (some u) k n v b f w = all_if WellKinded (same_expression u v) (b ∷ []) (λ _. (w, tt))

bind-fits : (k : Kind) (n : Name) (v : Expression) (b : Bindings) → Fits k v → WellKinded b → All WellKinded (bind k n v b)
unfolding bind
bind-fits k n v b f w = meets-fits (value_of k n b) k n v b f w

-- The parts of a split make the whole.
abbrev Makes : Expression → Split → Type 0
Makes v c = v ≡ c.front ⧺ c.rest

splits-make : (v : Expression) → All (Makes v) (splits v)
unfolding splits ◌⧺◌
splits-make void = (refl, tt)
splits-make (atom x v) = (refl, all_map (Makes v) (Makes (atom x v)) _ (splits v) (λ c e. ap (atom x) e) (splits-make v))
splits-make (group i v) = (refl, all_map (Makes v) (Makes (group i v)) _ (splits v) (λ c e. ap (group i) e) (splits-make v))

abbrev pub Good : Terms → Expression → Bindings → Type 0
Good p v b = WellKinded b × Fresh p v

pub matches-good : (p : Terms) (v : Expression) (b : Bindings) → WellKinded b → All (Good p v) (matches p v b)
unfolding matches Fresh ◌⧺◌
matches-good nil void b w = ((w, refl), tt)
matches-good nil (atom x y) b w = tt
matches-good nil (group u y) b w = tt
matches-good (symbol s a p) void b w = tt
matches-good (symbol s a p) (atom x y) b w =
    all_if (Good (symbol s a p) (atom x y)) (same_symbol a x) (matches p y b) (λ t.
    all_mono (Good p y) (Good (symbol s a p) (atom x y)) (matches p y b) (λ c g. (g.0, (x, y, refl, t, g.1))) (matches-good p y b w))
matches-good (symbol s a p) (group u y) b w = tt
matches-good (variable s s_kind n p) void b w = tt
matches-good (variable s s_kind n p) (atom x y) b w =
    all_flat_map WellKinded (Good (variable s s_kind n p) (atom x y)) _ (bind s_kind n (atom x void) b) (λ c wc.
    all_mono (Good p y) (Good (variable s s_kind n p) (atom x y)) (matches p y c) (λ d g. (g.0, (atom x void, y, refl, (x, refl), g.1))) (matches-good p y c wc))
    (bind-fits s_kind n (atom x void) b (x, refl) w)
matches-good (variable s s_kind n p) (group u y) b w = tt
matches-good (variable s t_kind n p) void b w = tt
matches-good (variable s t_kind n p) (atom x y) b w =
    all_flat_map WellKinded (Good (variable s t_kind n p) (atom x y)) _ (bind t_kind n (atom x void) b) (λ c wc.
    all_mono (Good p y) (Good (variable s t_kind n p) (atom x y)) (matches p y c) (λ d g. (g.0, (atom x void, y, refl, inl (x, refl), g.1))) (matches-good p y c wc))
    (bind-fits t_kind n (atom x void) b (inl (x, refl)) w)
matches-good (variable s t_kind n p) (group u y) b w =
    all_flat_map WellKinded (Good (variable s t_kind n p) (group u y)) _ (bind t_kind n (group u void) b) (λ c wc.
    all_mono (Good p y) (Good (variable s t_kind n p) (group u y)) (matches p y c) (λ d g. (g.0, (group u void, y, refl, inr (u, refl), g.1))) (matches-good p y c wc))
    (bind-fits t_kind n (group u void) b (inr (u, refl)) w)
matches-good (variable s e_kind n p) v b w =
    all_flat_map (Makes v) (Good (variable s e_kind n p) v) _ (splits v) (λ x e.
    all_flat_map WellKinded (Good (variable s e_kind n p) v) _ (bind e_kind n x.front b) (λ c wc.
    all_mono (Good p x.rest) (Good (variable s e_kind n p) v) (matches p x.rest c) (λ d g. (g.0, (x.front, x.rest, e, tt, g.1))) (matches-good p x.rest c wc))
    (bind-fits e_kind n x.front b tt w))
    (splits-make v)
matches-good (bracket s i p) void b w = tt
matches-good (bracket s i p) (atom x y) b w = tt
matches-good (bracket s i p) (group u y) b w =
    all_flat_map (Good i u) (Good (bracket s i p) (group u y)) _ (matches i u b) (λ c gc.
    all_mono (Good p y) (Good (bracket s i p) (group u y)) (matches p y c) (λ d g. (g.0, (u, y, refl, gc.1, g.1))) (matches-good p y c gc.0))
    (matches-good i u b w)
matches-good (call s f a p) v b w = tt
matches-good (block s a c p) v b w = tt

pub matches_kinded : (p : Terms) (v : Expression) (b : Bindings) → WellKinded b → All WellKinded (matches p v b)
matches_kinded p v b w = all_mono (Good p v) WellKinded (matches p v b) (λ _ g. g.0) (matches-good p v b w)
