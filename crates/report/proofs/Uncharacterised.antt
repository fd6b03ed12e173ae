-- The line of uncharacterised functions, one function after another.
use Prim.Native.Nat.{ℕ, zero, suc, ◌+◌, ◌≤◌, ◌<◌}
use native.Mathlib.Omega.{arith}
use native.Mathlib.Numerals.{add-one}
use mathlib.Core.Path.{◌≡◌, refl, sym, ap, ◌∙◌}
use mathlib.Core.Bool.{Bool, true, false, false≢true, ◌&&◌, ◌||◌, not, cond, or-true}
use mathlib.Core.List.{List, [], ◌∷◌, ◌++◌, append_assoc, append-nil, flatten}
use mathlib.Core.Option.{some}
use lib.Dec.{eqb, ltb}
use lib.ListN.{length, get_elem?, take, length-append}
use lib.Seq.{take_all}
use borrow.Author.Tests.{eq-eqb, ne_eqb}
use Rattle.program.specs.Syntax.{Name, Function, Program}
use Rattle.patterns.specs.Ascii.{ascii}
use Rattle.patterns.specs.Names.{same_name}
use Rattle.meaning.specs.Lists.{any, firsts}
use Rattle.told.specs.Numbered.{Held, sites_of}
use Rattle.meaning.proofs.Earlier.{new_after}
use Rattle.index.specs.First.{First}
use Rattle.told.specs.Calls.{is_listed}
use Rattle.index.proofs.First.{element_below, element_same, first_any}
use Rattle.meaning.specs.Text.{Text}
use Rattle.told.specs.Asked.{uncharacterises}
use Rattle.cleaning.specs.Indexed.{SomeBody}
use Rattle.told.specs.ToldReport.{uncharacterised_names}
use Rattle.told.proofs.ReportLists.{names_new}
use Rattle.index.specs.declared.Plan.{Plan}
use Rattle.text.specs.declared.writer.Writer.{Writer}
use Rattle.text.specs.Written.{written}
use Rattle.meaning.specs.Report.{join, uncharacterised_line}
use Rattle.text.proofs.Written.{both, same}
use Rattle.report.specs.Emitting.{SomeReadable}
use Rattle.report.specs.Names.{is_uncharacterised, is_newly_uncharacterised, lead, uncharacterised_text, uncharacterised_count, line_end}

pub some-body : {b m : List ℕ} {p : Plan} → SomeReadable b m p → SomeBody m p
some-body {b} s = record { body = b; program = s.program; indexed = s.readable.indexed }

-- ---- whether a function is listed

pub uncharacterised-any : (f : Name) (sites : List Held) (r : ℕ) → First (is_listed false f) 0 sites r → ltb r (length sites) ≡ any (uncharacterises (λ s. true) f) sites
unfolding uncharacterises
uncharacterised-any f sites r g = sym (first_any g)

pub uncharacterised-root : (root : ℕ) (sites : List Held) (f : ℕ) (x : Function) → f ≡ root → false ≡ is_uncharacterised root sites f x
unfolding is_uncharacterised
uncharacterised-root root sites f x e = sym (ap (λ (t : Bool). not t && any (uncharacterises (λ s. true) x.name) sites) (eq-eqb f root e))

pub uncharacterised-other : (root : ℕ) (sites : List Held) (f : ℕ) (x : Function) → (f ≡ root → ⊥) → any (uncharacterises (λ s. true) x.name) sites ≡ is_uncharacterised root sites f x
unfolding is_uncharacterised
uncharacterised-other root sites f x n = sym (ap (λ (t : Bool). not t && any (uncharacterises (λ s. true) x.name) sites) (ne_eqb f root n))

-- ---- one function more

module _ (root : ℕ) (sites : List Held) where
  keeps : (t : Bool) (n : Name) (a b c : List Name) → a ≡ b ++ c → cond t (n ∷ a) a ≡ cond t (n ∷ b) b ++ c
  keeps true n a b c e = ap (λ (l : List Name). n ∷ l) e
  keeps false n a b c e = e

  pub uncharacterised_snoc : (fs : List Function) (f k i : ℕ) (x : Function) → get_elem? fs f ≡ some x → i ≡ k + f
      → uncharacterised_names root sites k (take (suc f) fs) ≡ uncharacterised_names root sites k (take f fs) ++ cond (is_uncharacterised root sites i x) (x.name ∷ []) []
  unfolding uncharacterised_names is_uncharacterised
  uncharacterised_snoc [] f k i x e z = absurd (omega (arith, element_below {A = Function} [] f x e))
  uncharacterised_snoc (y ∷ fs) zero k i x e z =
      let q : y ≡ x = element_same (y ∷ fs) 0 y x refl e in
      let h : k ≡ i = omega (arith, z) in
      ap (λ (v : Function). cond (not (eqb k root) && any (uncharacterises (λ s. true) v.name) sites) (v.name ∷ []) []) q
      ∙ ap (λ (n : ℕ). cond (not (eqb n root) && any (uncharacterises (λ s. true) x.name) sites) (x.name ∷ []) []) h
  uncharacterised_snoc (y ∷ fs) (suc f) k i x e z =
      keeps (not (eqb k root) && any (uncharacterises (λ s. true) y.name) sites) y.name (uncharacterised_names root sites (suc k) (take (suc f) fs)) (uncharacterised_names root sites (suc k) (take f fs)) (cond (is_uncharacterised root sites i x) (x.name ∷ []) [])
      (uncharacterised_snoc fs f (suc k) i x e (omega (arith, z)))

  module _ (test : Name → Bool) where
    more : (t : Bool) (n : Name) (a b : List Name) → (any test a ≡ true → any test b ≡ true) → any test (cond t (n ∷ a) a) ≡ true → any test (cond t (n ∷ b) b) ≡ true
    unfolding any
    more false n a b h e = h e
    more true n a b h e = by (test n) refl
      where
        by : (u : Bool) → test n ≡ u → (test n || any test b) ≡ true
        by true q = ap (λ (v : Bool). v || any test b) q
        by false q = ap (λ (v : Bool). test n || v) (h (sym (ap (λ (v : Bool). v || any test a) q) ∙ e)) ∙ or-true (test n)

    -- What an earlier function passes, is passed among more of them.
    pub earlier-any : (fs : List Function) (g f k : ℕ) → g ≤ f → any test (uncharacterised_names root sites k (take g fs)) ≡ true → any test (uncharacterised_names root sites k (take f fs)) ≡ true
    unfolding uncharacterised_names any
    earlier-any fs zero f k h e = absurd (false≢true e)
    earlier-any fs (suc g) zero k h e = absurd (omega (arith, h))
    earlier-any [] (suc g) (suc f) k h e = e
    earlier-any (y ∷ fs) (suc g) (suc f) k h e =
        more (not (eqb k root) && any (uncharacterises (λ s. true) y.name) sites) y.name (uncharacterised_names root sites (suc k) (take g fs)) (uncharacterised_names root sites (suc k) (take f fs)) (earlier-any fs g f (suc k) (omega (arith, h))) e

any_append : {A : Type 0} (test : A → Bool) (l m : List A) → any test (l ++ m) ≡ (any test l || any test m)
unfolding any
any_append test [] m = refl
any_append test (x ∷ l) m = by (test x) (any_append test l m)
  where
    by : (t : Bool) → any test (l ++ m) ≡ (any test l || any test m) → (t || any test (l ++ m)) ≡ ((t || any test l) || any test m)
    by true e = refl
    by false e = e

-- The functions before the f-th, and their names that are listed.
abbrev pub names_to : ℕ → Program → ℕ → List Name
names_to root w f = uncharacterised_names root (sites_of w) 0 (take f w.functions)

pub names_to_next : (root : ℕ) (w : Program) (f : ℕ) (x : Function) → get_elem? w.functions f ≡ some x → names_to root w (f + 1) ≡ names_to root w f ++ cond (is_uncharacterised root (sites_of w) f x) (x.name ∷ []) []
names_to_next root w f x e = ap (names_to root w) (add-one f) ∙ uncharacterised_snoc root (sites_of w) w.functions f 0 f x e (omega arith)

-- Whether one more function has a name that passes.
pub any_next : (test : Name → Bool) (root : ℕ) (w : Program) (f : ℕ) (x : Function) → get_elem? w.functions f ≡ some x → any test (names_to root w (f + 1)) ≡ (any test (names_to root w f) || (is_uncharacterised root (sites_of w) f x && test x.name))
unfolding any
any_next test root w f x e = ap (any test) (names_to_next root w f x e) ∙ (any_append test (names_to root w f) (cond (is_uncharacterised root (sites_of w) f x) (x.name ∷ []) []) ∙ ap (λ (t : Bool). any test (names_to root w f) || t) (by (is_uncharacterised root (sites_of w) f x)))
  where
    or_false : (t : Bool) → (t || false) ≡ t
    or_false true = refl
    or_false false = refl

    by : (t : Bool) → any test (cond t (x.name ∷ []) []) ≡ (t && test x.name)
    by true = or_false (test x.name)
    by false = refl

pub none_before : (test : Name → Bool) (root : ℕ) (w : Program) → any test (names_to root w 0) ≡ false
unfolding uncharacterised_names any
none_before test root w = refl

pub found_before : (test : Name → Bool) (root : ℕ) (w : Program) (g f : ℕ) (y : Function) → get_elem? w.functions g ≡ some y → g < f → (is_uncharacterised root (sites_of w) g y && test y.name) ≡ true → true ≡ any test (names_to root w f)
found_before test root w g f y e l h =
    sym (earlier-any root (sites_of w) test w.functions (g + 1) f 0 (omega (arith, l)) (any_next test root w g y e ∙ (ap (λ (t : Bool). any test (names_to root w g) || t) h ∙ or-true (any test (names_to root w g)))))

pub none_yet : (test : Name → Bool) (root : ℕ) (w : Program) (g : ℕ) (y : Function) → get_elem? w.functions g ≡ some y → any test (names_to root w g) ≡ false → (is_uncharacterised root (sites_of w) g y && test y.name) ≡ false → any test (names_to root w (g + 1)) ≡ false
none_yet test root w g y e n h = any_next test root w g y e ∙ (ap (λ (t : Bool). t || (is_uncharacterised root (sites_of w) g y && test y.name)) n ∙ h)

-- ---- what one function adds

pub text_new : (root : ℕ) (w : Program) (f : ℕ) (x : Function) (first : Bool) → is_newly_uncharacterised root w f x ≡ true → lead first ++ x.name ≡ uncharacterised_text root w f x first
unfolding uncharacterised_text
text_new root w f x first e = sym (ap (λ (t : Bool). cond t (lead first ++ x.name) []) e)

pub text-none : (root : ℕ) (w : Program) (f : ℕ) (x : Function) (first : Bool) → is_newly_uncharacterised root w f x ≡ false → [] ≡ uncharacterised_text root w f x first
unfolding uncharacterised_text
text-none root w f x first e = sym (ap (λ (t : Bool). cond t (lead first ++ x.name) []) e)

pub count_new : (root : ℕ) (w : Program) (f : ℕ) (x : Function) → is_newly_uncharacterised root w f x ≡ true → uncharacterised_count root w f x ≡ 1
unfolding uncharacterised_count
count_new root w f x e = ap (λ (t : Bool). cond t 1 0) e

pub count_none : (root : ℕ) (w : Program) (f : ℕ) (x : Function) → is_newly_uncharacterised root w f x ≡ false → uncharacterised_count root w f x ≡ 0
unfolding uncharacterised_count
count_none root w f x e = ap (λ (t : Bool). cond t 1 0) e

-- ---- the names so far

module _ {A : Type 0} (same : A → A → Bool) where
  rotate : (t u v : Bool) → ((t || u) || v) ≡ (u || (t || v))
  rotate true true v = refl
  rotate true false v = refl
  rotate false u v = refl

  new_snoc : (l earlier : List A) (x : A) → new_after same earlier (l ++ (x ∷ [])) ≡ new_after same earlier l ++ cond (any (λ y. same y x) earlier || any (λ y. same y x) l) [] (x ∷ [])
  unfolding new_after any
  new_snoc [] earlier x = by (any (λ y. same y x) earlier)
    where
      by : (t : Bool) → cond t [] (x ∷ []) ≡ cond (t || false) [] (x ∷ [])
      by true = refl
      by false = refl
  new_snoc (z ∷ l) earlier x =
      by (any (λ y. same y z) earlier) (new_after same (z ∷ earlier) (l ++ (x ∷ []))) (new_after same (z ∷ earlier) l) (new_snoc l (z ∷ earlier) x ∙ ap (λ (t : Bool). new_after same (z ∷ earlier) l ++ cond t [] (x ∷ [])) (rotate (same z x) (any (λ y. same y x) earlier) (any (λ y. same y x) l)))
    where
      by : (t : Bool) (a b : List A) → a ≡ b ++ cond (any (λ y. same y x) earlier || (same z x || any (λ y. same y x) l)) [] (x ∷ []) → cond t a (z ∷ a) ≡ cond t b (z ∷ b) ++ cond (any (λ y. same y x) earlier || (same z x || any (λ y. same y x) l)) [] (x ∷ [])
      by true a b e = e
      by false a b e = ap (λ (m : List A). z ∷ m) e

  -- One more, if any: it is new if none so far is the same.
  pub new_next : (l : List A) (x : A) (o : Bool) → new_after same [] (l ++ cond o (x ∷ []) []) ≡ new_after same [] l ++ cond o (cond (any (λ y. same y x) l) [] (x ∷ [])) []
  unfolding any
  new_next l x true = new_snoc l [] x
  new_next l x false = ap (new_after same []) (append-nil l) ∙ sym (append-nil (new_after same [] l))

unfoldable is_nil : List Name → Bool
is_nil [] = true
is_nil (x ∷ l) = false

-- The line without its end.
unfoldable pub names_line : List Name → Text
names_line [] = []
names_line (x ∷ l) = ascii "uncharacterised: " ++ join (ascii ", ") (x ∷ l)

join_snoc : (between : Text) (l : List Text) (y x : Text) → join between (y ∷ (l ++ (x ∷ []))) ≡ join between (y ∷ l) ++ (between ++ x)
unfolding join
join_snoc between [] y x = refl
join_snoc between (z ∷ l) y x =
    ap (λ (t : Text). y ++ (between ++ t)) (join_snoc between l z x)
    ∙ (ap (λ (t : Text). y ++ t) (sym (append_assoc between (join between (z ∷ l)) (between ++ x))) ∙ sym (append_assoc y (between ++ join between (z ∷ l)) (between ++ x)))

names_snoc : (l : List Name) (x : Name) → names_line (l ++ (x ∷ [])) ≡ names_line l ++ (lead (is_nil l) ++ x)
unfolding names_line join lead is_nil
names_snoc [] x = refl
names_snoc (y ∷ l) x = ap (λ (t : Text). ascii "uncharacterised: " ++ t) (join_snoc (ascii ", ") l y x) ∙ sym (append_assoc (ascii "uncharacterised: ") (join (ascii ", ") (y ∷ l)) (ascii ", " ++ x))

-- The line has a name if one was counted.
first_count : (l : List Name) (n : ℕ) → n ≡ length l → eqb n 0 ≡ is_nil l
unfolding is_nil
first_count [] n e = eq-eqb n 0 e
first_count (x ∷ l) n e = ne_eqb n 0 (λ z. absurd (omega (arith, e, z)))

names-end : (l : List Name) → names_line l ++ line_end (is_nil l) ≡ uncharacterised_line l
unfolding names_line is_nil line_end uncharacterised_line flatten
names-end [] = refl
names-end (x ∷ l) = simp (append_assoc, append-nil) refl

-- The line when the functions before the f-th have been looked at.
abbrev pub line_to : ℕ → Program → ℕ → Text
line_to root w f = names_line (new_after same_name [] (names_to root w f))

line_next : (root : ℕ) (w : Program) (f : ℕ) (x : Function) → get_elem? w.functions f ≡ some x → line_to root w f ++ uncharacterised_text root w f x (is_nil (new_after same_name [] (names_to root w f))) ≡ line_to root w (f + 1)
unfolding uncharacterised_text is_newly_uncharacterised
line_next root w f x e =
    by (new_after same_name [] (names_to root w f)) (is_uncharacterised root (sites_of w) f x) (any (λ n. same_name n x.name) (names_to root w f))
    ∙ ap names_line (sym (ap (new_after same_name []) (names_to_next root w f x e) ∙ new_next same_name (names_to root w f) x.name (is_uncharacterised root (sites_of w) f x)))
  where
    by : (l : List Name) (o s : Bool) → names_line l ++ cond (o && not s) (lead (is_nil l) ++ x.name) [] ≡ names_line (l ++ cond o (cond s [] (x.name ∷ [])) [])
    by l false s = append-nil (names_line l) ∙ sym (ap names_line (append-nil l))
    by l true true = append-nil (names_line l) ∙ sym (ap names_line (append-nil l))
    by l true false = sym (names_snoc l x.name)

pub line_start : (root : ℕ) (w : Program) → [] ≡ line_to root w 0
unfolding uncharacterised_names new_after names_line
line_start root w = refl

pub line_step : (root : ℕ) (w : Program) (f : ℕ) (x : Function) → get_elem? w.functions f ≡ some x → (n : ℕ) → n ≡ length (new_after same_name [] (names_to root w f)) → (s : Writer) {b d : Writer}
    → b ≡ written s (line_to root w f) → d ≡ written b (uncharacterised_text root w f x (eqb n 0)) → d ≡ written s (line_to root w (f + 1))
line_step root w f x e n k s {b} {d} g h =
    same s (line_next root w f x e)
    (both s (line_to root w f) (uncharacterised_text root w f x (is_nil (new_after same_name [] (names_to root w f)))) g
    (same b (ap (uncharacterised_text root w f x) (first_count (new_after same_name [] (names_to root w f)) n k)) h))

pub line_done : (root : ℕ) (w : Program) (f : ℕ) → length w.functions ≤ f → (n : ℕ) → n ≡ length (new_after same_name [] (names_to root w f)) → (s : Writer) {b d : Writer}
    → b ≡ written s (line_to root w f) → d ≡ written b (line_end (eqb n 0)) → d ≡ written s (uncharacterised_line (firsts same_name (uncharacterised_names root (sites_of w) 0 w.functions)))
line_done root w f l n k s {b} {d} g h =
    same s (names-end (new_after same_name [] (names_to root w f)) ∙ ap uncharacterised_line (ap (λ (fs : List Function). new_after same_name [] (uncharacterised_names root (sites_of w) 0 fs)) (take_all f w.functions l) ∙ sym (names_new (uncharacterised_names root (sites_of w) 0 w.functions))))
    (both s (line_to root w f) (line_end (is_nil (new_after same_name [] (names_to root w f)))) g
    (same b (ap line_end (first_count (new_after same_name [] (names_to root w f)) n k)) h))

-- How many names the line has then.
abbrev pub count_to : ℕ → Program → ℕ → ℕ
count_to root w f = length (new_after same_name [] (names_to root w f))

pub count-start : (root : ℕ) (w : Program) → 0 ≡ count_to root w 0
unfolding uncharacterised_names new_after
count-start root w = refl

pub count_step : (root : ℕ) (w : Program) (f : ℕ) (x : Function) → get_elem? w.functions f ≡ some x → count_to root w f + uncharacterised_count root w f x ≡ count_to root w (f + 1)
unfolding uncharacterised_count is_newly_uncharacterised
count_step root w f x e =
    by (new_after same_name [] (names_to root w f)) (is_uncharacterised root (sites_of w) f x) (any (λ n. same_name n x.name) (names_to root w f))
    ∙ ap length (sym (ap (new_after same_name []) (names_to_next root w f x e) ∙ new_next same_name (names_to root w f) x.name (is_uncharacterised root (sites_of w) f x)))
  where
    by : (l : List Name) (o s : Bool) → length l + cond (o && not s) 1 0 ≡ length (l ++ cond o (cond s [] (x.name ∷ [])) [])
    by l false s = omega (arith, length-append l [])
    by l true true = omega (arith, length-append l [])
    by l true false = omega (arith, length-append l (x.name ∷ []))

pub count-done : (root : ℕ) (w : Program) (f : ℕ) → length w.functions ≤ f → count_to root w f ≡ length (firsts same_name (uncharacterised_names root (sites_of w) 0 w.functions))
count-done root w f l = ap length (ap (λ (fs : List Function). new_after same_name [] (uncharacterised_names root (sites_of w) 0 fs)) (take_all f w.functions l) ∙ sym (names_new (uncharacterised_names root (sites_of w) 0 w.functions)))
