-- A new variable takes a front of the value: what it takes, and the matches with it.
use Prim.Native.Nat.{ℕ, zero, suc, ◌+◌, ◌-◌, ◌<◌, ◌≤◌}
use native.Mathlib.Omega.{arith}
use mathlib.Core.Path.{◌≡◌, refl, sym, ap, ap₂, subst, ◌∙◌}
use mathlib.Core.Logic.{inl, inr}
use mathlib.Core.List.{List, [], ◌∷◌, ◌++◌, append-nil, append_assoc}
use mathlib.Core.Option.{none}
use lib.ListN.{length, get_or, take, drop, length-drop, length-append}
use lib.Seq.{drop-drop, drop_at, take_at, take-take, get_or-drop}
use Rattle.program.specs.Syntax.{Span, Name, Kind, s_kind, t_kind, e_kind, Symbol, character, identifier, number, Terms, nil, symbol, variable, bracket, call, block}
use Rattle.program.specs.Encode.{put_symbol, kind_mark, put_terms}
use Rattle.program.proofs.Lengths.{terms-length}
use Rattle.patterns.specs.Expression.{Expression, void, atom, group, ◌⧺◌}
use Rattle.patterns.specs.Fresh.{Fits}
use Rattle.patterns.specs.Marks.{zero_span, put_expression}
use Rattle.patterns.proofs.Expression.{⧺_void, void-atom, void-group}
use Rattle.patterns.proofs.Marks.{expression-splits, joined_bytes}
use Rattle.meaning.specs.Match.{Bindings, value_of}
use Rattle.meaning.specs.Records.{bytes_of}
use Rattle.meaning.proofs.Inputs.{ValidExpression}
use Rattle.meaning.proofs.Matching.{Pair, pair, bound, matches_all, s_void, s_atom, s_group, t_void, t_atom, t_group, bind_new}
use Rattle.meaning.proofs.Searching.{Site, site, onward, first_taken, onward_first, first_taken_lem}
use Rattle.values.specs.Values.{rest_of}
use Rattle.matching.specs.Pairs.{PairsAt, put_patterns, put_behind, VariablePair}
use Rattle.matching.specs.Takes.{further_if, Takes}
use Rattle.matching.proofs.Meeting.{slice_length, drop-take, nothing_left_lem, ended-close}
use Rattle.matching.proofs.Held.{Apart, part_below}

-- ---- a front in bytes

pub front_bytes : (t w : Expression) (k : List ℕ) → put_expression (t ⧺ w) k ≡ put_expression t [] ++ put_expression w k
front_bytes t w k =
    expression-splits (t ⧺ w) k
    ∙ (ap (λ (y : List ℕ). y ++ k) (joined_bytes t w) ∙ (append_assoc (put_expression t []) (put_expression w []) k ∙ ap (λ (y : List ℕ). put_expression t [] ++ y) (sym (expression-splits w k))))

pub front-size : (t w : Expression) (r : ℕ) → r + bytes_of w ≡ bytes_of (t ⧺ w) → length (put_expression t []) ≡ r
unfolding bytes_of
front-size t w r e = let z = ap length (joined_bytes t w) in let a = length-append (put_expression t []) (put_expression w []) in omega (arith, z, a, e)

pub valid-front : (t w : Expression) → ValidExpression (t ⧺ w) → ValidExpression t × ValidExpression w
unfolding ◌⧺◌
valid-front void w h = (tt, h)
valid-front (atom x t) w h = let r = valid-front t w h.1 in ((h.0, r.0), r.1)
valid-front (group u t) w h = let r = valid-front t w h.1 in ((h.0, r.0), r.1)

module _ {body work : List ℕ} {p v end : ℕ} (q : VariablePair body work p v end) (b : Bindings) (t w : Expression) (whole : q.value ≡ t ⧺ w) (r : ℕ) (size : r + bytes_of w ≡ bytes_of q.value) where
  text : take (end - v) (drop v work) ≡ put_expression t [] ++ put_expression w (put_behind q.more)
  text = q.at.value ∙ (ap (λ (y : Expression). put_expression y (put_behind q.more)) whole ∙ front_bytes t w (put_behind q.more))

  sized : length (put_expression t []) ≡ r
  sized = front-size t w r (size ∙ ap bytes_of whole)

  short : v + r ≤ end
  short = let z = ap length text in let a = length-append (put_expression t []) (put_expression w (put_behind q.more)) in let n = slice_length q.at in let s = sized in let o = q.at.ordered in omega (arith, z, a, n, s, o)

  pub takes :
      Fits q.kind t
      → matches_all (pair (variable q.span q.kind q.name q.behind) q.value ∷ q.more) b
      ≡ matches_all (pair q.behind w ∷ q.more) (bound q.kind q.name t ∷ b) ++ further_if q.kind (site q.name q.behind q.more b) t w
      → Takes body work p v end q b (v + r)
  takes fits e =
      let h = short in
      let f = valid-front t w (subst ValidExpression whole q.at.valid.1) in
      let i : v + r - v ≡ r = omega arith in
      let j : end - (v + r) ≡ end - v - r = omega arith in
      record {
        taken = t;
        left = w;
        ordered = omega arith;
        within = h;
        is = ap (λ (n : ℕ). take n (drop v work)) i ∙ (sym (take-take r (end - v) (drop v work) (omega arith)) ∙ (ap (take r) text ∙ take_at (put_expression t []) (put_expression w (put_behind q.more)) r sized));
        behind = ap (λ (n : ℕ). take n (drop (v + r) work)) j ∙ (ap (take (end - v - r)) (sym (drop-drop r v work)) ∙ (sym (drop-take r (end - v) (drop v work)) ∙ (ap (drop r) text ∙ drop_at (put_expression t []) (put_expression w (put_behind q.more)) r sized)));
        fits = fits;
        valid-taken = f.0;
        valid-left = f.1;
        same = e;
      }

fits-any : (k : Kind) (t : Expression) → k ≡ e_kind → Fits k t
fits-any k t e = subst (λ (i : Kind). Fits i t) (sym e) tt

fits-atom : (k : Kind) (x : Symbol) → Fits k (atom x void)
fits-atom s_kind x = (x, refl)
fits-atom t_kind x = inl (x, refl)
fits-atom e_kind x = tt

fits-group : (k : Kind) (u : Expression) → (k ≡ s_kind → ⊥) → Fits k (group u void)
fits-group s_kind u h = absurd (h refl)
fits-group t_kind u h = inr (u, refl)
fits-group e_kind u h = tt

-- ---- an `e.` variable

not_nil : (p : Terms) (v : Expression) → (p ≡ nil → ⊥) → ((first_taken p v).front ≡ void) × ((first_taken p v).rest ≡ v)
unfolding first_taken
not_nil nil v h = absurd (h refl)
not_nil (symbol s a p) v h = (refl, refl)
not_nil (variable s k n p) v h = (refl, refl)
not_nil (bracket s i p) v h = (refl, refl)
not_nil (call s f a p) v h = (refl, refl)
not_nil (block s a c p) v h = (refl, refl)

onward_of : (c : Site) (t w : Expression) → onward c t w ≡ matches_all (pair c.behind w ∷ c.pending) (bound e_kind c.name t ∷ c.before) ++ further_if e_kind c t w
unfolding further_if
onward_of c t w = onward_first c t w

any_same : (s : Span) (n : Name) (p : Terms) (v : Expression) (l : List Pair) (b : Bindings) (t w : Expression) → value_of e_kind n b ≡ none → (first_taken p v).front ≡ t → (first_taken p v).rest ≡ w → matches_all (pair (variable s e_kind n p) v ∷ l) b ≡ matches_all (pair p w ∷ l) (bound e_kind n t ∷ b) ++ further_if e_kind (site n p l b) t w
any_same s n p v l b t w e f g = sym (first_taken_lem n p v l b s e) ∙ (ap₂ (λ (x y : Expression). onward (site n p l b) x y) f g ∙ onward_of (site n p l b) t w)

kinded : {body work : List ℕ} {p v end : ℕ} (q : VariablePair body work p v end) (b : Bindings) (t w : Expression) → q.kind ≡ e_kind → value_of q.kind q.name b ≡ none → (first_taken q.behind q.value).front ≡ t → (first_taken q.behind q.value).rest ≡ w
    → matches_all (pair (variable q.span q.kind q.name q.behind) q.value ∷ q.more) b ≡ matches_all (pair q.behind w ∷ q.more) (bound q.kind q.name t ∷ b) ++ further_if q.kind (site q.name q.behind q.more b) t w
kinded q b t w k e f g =
    subst
    (λ (i : Kind). matches_all (pair (variable q.span i q.name q.behind) q.value ∷ q.more) b ≡ matches_all (pair q.behind w ∷ q.more) (bound i q.name t ∷ b) ++ further_if i (site q.name q.behind q.more b) t w)
    (sym k) (any_same q.span q.name q.behind q.value q.more b t w (ap (λ (i : Kind). value_of i q.name b) (sym k) ∙ e) f g)

no_bytes : bytes_of void ≡ 0
unfolding bytes_of put_expression
no_bytes = refl

first-nil : (v : Expression) → ((first_taken nil v).front ≡ v) × ((first_taken nil v).rest ≡ void)
unfolding first_taken
first-nil v = (refl, refl)

module _ {body work : List ℕ} {p v end : ℕ} (q : VariablePair body work p v end) (b : Bindings) (kind : q.kind ≡ e_kind) (new : value_of q.kind q.name b ≡ none) where
  -- Before its sequence's close it takes all.
  pub takes_all : q.behind ≡ nil → (r : ℕ) → r ≡ bytes_of q.value → Takes body work p v end q b (v + r)
  takes_all e r f =
      let n = first-nil q.value in
      takes q b q.value void (sym (⧺_void q.value)) r (let z = no_bytes in omega (arith, z, f)) (fits-any q.kind q.value kind)
      (kinded q b q.value void kind new (ap (λ (i : Terms). (first_taken i q.value).front) e ∙ n.0) (ap (λ (i : Terms). (first_taken i q.value).rest) e ∙ n.1))

  pub takes_nothing : (q.behind ≡ nil → ⊥) → Takes body work p v end q b v
  unfolding ◌⧺◌
  takes_nothing h =
      let n = not_nil q.behind q.value h in
      subst (Takes body work p v end q b) (let z : v + 0 ≡ v = omega arith in z) (takes q b void q.value refl 0 (omega arith) (fits-any q.kind void kind) (kinded q b void q.value kind new n.0 n.1))

-- ---- an `s.` or a `t.` variable

first-mark : (x : Symbol) (k : List ℕ) → (1 ≤ get_or (put_symbol zero_span x k) 0 0) × (get_or (put_symbol zero_span x k) 0 0 ≤ 3)
unfolding put_symbol
first-mark (character c) k = (omega arith, omega arith)
first-mark (identifier n) k = (omega arith, omega arith)
first-mark (number n) k = (omega arith, omega arith)

pub value-close : (v : Expression) (l : List Pair) → get_or (put_expression v (put_behind l)) 0 0 ≡ 15 → v ≡ void
unfolding put_expression
value-close void l e = refl
value-close (atom x w) l e = absurd (let m = first-mark x (put_expression w (put_behind l)) in omega (arith, m.1, e))
value-close (group u w) l e = absurd (omega arith)

value-bracket : (v : Expression) (l : List Pair) → get_or (put_expression v (put_behind l)) 0 0 ≡ 7 → (u : Expression) × (w : Expression) × (v ≡ group u w)
unfolding put_expression put_behind
value-bracket void [] e = absurd (omega arith)
value-bracket void (y ∷ l) e = absurd (omega arith)
value-bracket (atom x w) l e = absurd (let m = first-mark x (put_expression w (put_behind l)) in omega (arith, m.1, e))
value-bracket (group u w) l e = (u, w, refl)

pub value_there : (v : Expression) (l : List Pair) → 0 < length (put_expression v (put_behind l)) → (get_or (put_expression v (put_behind l)) 0 0 ≡ 15 → ⊥) → v ≡ void → ⊥
unfolding put_expression put_behind
value_there void [] n h e = absurd (omega arith)
value_there void (y ∷ l) n h e = h refl
value_there (atom x w) l n h e = void-atom (sym e)
value_there (group u w) l n h e = void-group (sym e)

no_value : (s : Span) (k : Kind) (n : Name) (r : Terms) (l : List Pair) (b : Bindings) → (k ≡ e_kind → ⊥) → matches_all (pair (variable s k n r) void ∷ l) b ≡ []
no_value s s_kind n r l b h = s_void l b s n r
no_value s t_kind n r l b h = t_void l b s n r
no_value s e_kind n r l b h = absurd (h refl)

one-atom : (s : Span) (k : Kind) (n : Name) (r : Terms) (l : List Pair) (b : Bindings) (x : Symbol) (w : Expression) (c : Site) → (k ≡ e_kind → ⊥) → value_of k n b ≡ none → matches_all (pair (variable s k n r) (atom x w) ∷ l) b ≡ matches_all (pair r w ∷ l) (bound k n (atom x void) ∷ b) ++ further_if k c (atom x void) w
unfolding further_if
one-atom s s_kind n r l b x w c h e = s_atom l b s n r x w ∙ (bind_new (λ d. matches_all (pair r w ∷ l) d) s_kind n (atom x void) b e ∙ sym (append-nil _))
one-atom s t_kind n r l b x w c h e = t_atom l b s n r x w ∙ (bind_new (λ d. matches_all (pair r w ∷ l) d) t_kind n (atom x void) b e ∙ sym (append-nil _))
one-atom s e_kind n r l b x w c h e = absurd (h refl)

one-group : (s : Span) (k : Kind) (n : Name) (r : Terms) (l : List Pair) (b : Bindings) (u w : Expression) (c : Site) → (k ≡ e_kind → ⊥) → (k ≡ s_kind → ⊥) → value_of k n b ≡ none → matches_all (pair (variable s k n r) (group u w) ∷ l) b ≡ matches_all (pair r w ∷ l) (bound k n (group u void) ∷ b) ++ further_if k c (group u void) w
unfolding further_if
one-group s s_kind n r l b u w c h g e = absurd (g refl)
one-group s t_kind n r l b u w c h g e = t_group l b s n r u w ∙ (bind_new (λ d. matches_all (pair r w ∷ l) d) t_kind n (group u void) b e ∙ sym (append-nil _))
one-group s e_kind n r l b u w c h g e = absurd (h refl)

kind_s : (k : Kind) → kind_mark k ≡ 4 → k ≡ s_kind
unfolding kind_mark
kind_s s_kind e = refl
kind_s t_kind e = absurd (omega arith)
kind_s e_kind e = absurd (omega arith)

kind_e : (k : Kind) → kind_mark k ≡ 6 → k ≡ e_kind
unfolding kind_mark
kind_e s_kind e = absurd (omega arith)
kind_e t_kind e = absurd (omega arith)
kind_e e_kind e = refl

module _ {body work : List ℕ} {p v end : ℕ} (q : VariablePair body work p v end) where
  pub kind-mark : get_or body p 0 ≡ kind_mark q.kind
  unfolding put_terms
  kind-mark = (let z : p ≡ p + 0 = omega arith in ap (λ (i : ℕ). get_or body i 0) z) ∙ (sym (get_or-drop p body 0 0) ∙ ap (λ (s : List ℕ). get_or s 0 0) q.at.pattern)

  pub is_any : get_or body p 0 ≡ 6 → q.kind ≡ e_kind
  is_any e = kind_e q.kind (sym kind-mark ∙ e)

  pub is_one : (get_or body p 0 ≡ 6 → ⊥) → q.kind ≡ e_kind → ⊥
  unfolding kind_mark
  is_one h e = h (kind-mark ∙ ap kind_mark e)

  value-mark : get_or (take (end - v) (drop v work)) 0 0 ≡ get_or (put_expression q.value (put_behind q.more)) 0 0
  value-mark = ap (λ (s : List ℕ). get_or s 0 0) q.at.value

  -- The pattern behind the variable begins with a close where nothing follows it.
  pub behind-nil : (next : ℕ) → drop next body ≡ put_terms q.behind (put_patterns q.more q.rest) → get_or body next 0 ≡ 15 → q.behind ≡ nil
  behind-nil next e f = ended-close q.behind q.more q.rest (sym (ap (λ (s : List ℕ). get_or s 0 0) e) ∙ (get_or-drop next body 0 0 ∙ ((let z : next + 0 ≡ next = omega arith in ap (λ (i : ℕ). get_or body i 0) z) ∙ f)))

  pub behind-some : (next : ℕ) → drop next body ≡ put_terms q.behind (put_patterns q.more q.rest) → (get_or body next 0 ≡ 15 → ⊥) → q.behind ≡ nil → ⊥
  unfolding put_terms
  behind-some next e f h = f ((let z : next ≡ next + 0 = omega arith in ap (λ (i : ℕ). get_or body i 0) z) ∙ (sym (get_or-drop next body 0 0) ∙ (ap (λ (s : List ℕ). get_or s 0 0) (e ∙ ap (λ (t : Terms). put_terms t (put_patterns q.more q.rest)) h))))

  pub behind-there : (next : ℕ) → drop next body ≡ put_terms q.behind (put_patterns q.more q.rest) → next < length body
  behind-there next e = let z = ap length e in let k = terms-length q.behind (put_patterns q.more q.rest) in let d = length-drop next body in omega (arith, z, k, d)

  module _ (b : Bindings) (kind : q.kind ≡ e_kind → ⊥) where
    void-none : q.value ≡ void → matches_all (pair (variable q.span q.kind q.name q.behind) q.value ∷ q.more) b ≡ []
    void-none e = ap (λ (y : Expression). matches_all (pair (variable q.span q.kind q.name q.behind) y ∷ q.more) b) e ∙ no_value q.span q.kind q.name q.behind q.more b kind

    pub none-at_end : v ≡ end → matches_all (pair (variable q.span q.kind q.name q.behind) q.value ∷ q.more) b ≡ []
    none-at_end e = void-none (nothing_left_lem q.at e).0

    pub none_at_close : get_or (take (end - v) (drop v work)) 0 0 ≡ 15 → matches_all (pair (variable q.span q.kind q.name q.behind) q.value ∷ q.more) b ≡ []
    none_at_close e = void-none (value-close q.value q.more (sym value-mark ∙ e))

    pub none_at_bracket : get_or body p 0 ≡ 4 → get_or (take (end - v) (drop v work)) 0 0 ≡ 7 → matches_all (pair (variable q.span q.kind q.name q.behind) q.value ∷ q.more) b ≡ []
    none_at_bracket f e =
        let g = value-bracket q.value q.more (sym value-mark ∙ e) in
        ap₂ (λ (k : Kind) (y : Expression). matches_all (pair (variable q.span k q.name q.behind) y ∷ q.more) b) (kind_s q.kind (sym kind-mark ∙ f)) g.2
        ∙ s_group q.more b q.span q.name q.behind g.0 g.1

  pub some-value : (v ≡ end → ⊥) → (get_or (take (end - v) (drop v work)) 0 0 ≡ 15 → ⊥) → q.value ≡ void → ⊥
  some-value h g =
      value_there q.value q.more (positive (length (put_expression q.value (put_behind q.more))) (sym (slice_length q.at) ∙ ap length q.at.value) q.at.ordered) (λ e. g (value-mark ∙ e))
    where
      positive : (n : ℕ) → end - v ≡ n → v ≤ end → 0 < n
      positive zero e o = absurd (h (omega arith))
      positive (suc n) e o = omega arith

  -- One term is taken.
  pub takes_one : (b : Bindings) → (q.kind ≡ e_kind → ⊥) → value_of q.kind q.name b ≡ none → (q.value ≡ void → ⊥) → (get_or body p 0 ≡ 4 → get_or (take (end - v) (drop v work)) 0 0 ≡ 7 → ⊥) → (r : ℕ) → r + bytes_of (rest_of q.value) ≡ bytes_of q.value → Takes body work p v end q b (v + r)
  unfolding rest_of ◌⧺◌ put_expression kind_mark
  takes_one b kind new some-term fits r size = by q.value refl
    where
      by : (y : Expression) → q.value ≡ y → Takes body work p v end q b (v + r)
      by void e = absurd (some-term e)
      by (atom x w) e =
          takes q b (atom x void) w e r (subst (λ (z : Expression). r + bytes_of (rest_of z) ≡ bytes_of q.value) e size) (fits-atom q.kind x)
          (ap (λ (z : Expression). matches_all (pair (variable q.span q.kind q.name q.behind) z ∷ q.more) b) e ∙ one-atom q.span q.kind q.name q.behind q.more b x w (site q.name q.behind q.more b) kind new)
      by (group u w) e =
          takes q b (group u void) w e r (subst (λ (z : Expression). r + bytes_of (rest_of z) ≡ bytes_of q.value) e size) (fits-group q.kind u (λ k. fits (kind-mark ∙ ap kind_mark k) (value-mark ∙ ap (λ (z : Expression). get_or (put_expression z (put_behind q.more)) 0 0) e)))
          (ap (λ (z : Expression). matches_all (pair (variable q.span q.kind q.name q.behind) z ∷ q.more) b) e ∙ one-group q.span q.kind q.name q.behind q.more b u w (site q.name q.behind q.more b) kind (λ k. fits (kind-mark ∙ ap kind_mark k) (value-mark ∙ ap (λ (z : Expression). get_or (put_expression z (put_behind q.more)) 0 0) e)) new)

-- The whole value stands before the end.
pub value-within : {body work : List ℕ} {p v end : ℕ} (q : VariablePair body work p v end) → v + bytes_of q.value ≤ end
unfolding bytes_of
value-within {body} {work} {p} {v} {end} q =
    let z = ap length (q.at.value ∙ expression-splits q.value (put_behind q.more)) in
    let a = length-append (put_expression q.value []) (put_behind q.more) in
    let n = slice_length q.at in
    let o = q.at.ordered in
    omega (arith, z, a, n, o)

-- ---- bound in the state

pub pairs-kept : {body work new : List ℕ} {lo hi p v end : ℕ} {rest : List ℕ} {x : Pair} {l : List Pair} → Apart work new lo hi → end ≤ lo → length new ≡ length work → PairsAt body work p v end rest x l → PairsAt body new p v end rest x l
pairs-kept {body} {work} {new} {lo} {hi} {p} {v} {end} a h n at = record {
  pattern = at.pattern;
  value = part_below a v (end - v) (let o = at.ordered in omega (arith, o, h)) ∙ at.value;
  ordered = at.ordered;
  within = let w = at.within in omega (arith, w, n);
  valid = at.valid;
  valid-more = at.valid-more;
}
