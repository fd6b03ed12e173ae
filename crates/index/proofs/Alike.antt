-- The walk along the list of a function's plain sites, to the first that a site repeats.
use Prim.Native.Nat.{ℕ, suc, ◌+◌, ◌≤◌, ◌<◌}
use native.Mathlib.Omega.{arith}
use mathlib.Core.Path.{◌≡◌, refl, ap, subst, ◌∙◌}
use mathlib.Core.Bool.{Bool, true, false, ◌&&◌, and-eq-true_iff}
use mathlib.Core.List.{List}
use mathlib.Core.Option.{some}
use borrow.Author.Tests.{ltb-true, ltb-false}
use lib.Dec.{ltb}
use lib.ListN.{get_or, get_elem?, drop}
use Rattle.program.specs.Syntax.{Name, Terms}
use Rattle.program.specs.Encode.{put_terms}
use Rattle.program.specs.Limits.{Mode, ValidTerms}
use Rattle.image.specs.Parts.{TermsAt}
use Rattle.symbols.proofs.Parts.{part_rest}
use Rattle.rows.proofs.Readings.{part}
use Rattle.patterns.specs.Configuration.{same_configuration}
use Rattle.told.specs.Numbered.{Held}
use Rattle.restrictions.specs.Entries.{CallAt, entry_offset}
use Rattle.restrictions.proofs.Modes.{plain-pattern}
use Rattle.meaning.proofs.Repeats.{repeats_exactly}
use Rattle.index.specs.First.{First}
use Rattle.told.specs.Calls.{is_plain, is_listed, is_call_of}
use Rattle.index.specs.Links.{entry_next, is_repeat}
use Rattle.index.specs.Lists.{ListAt, Among}
use Rattle.index.proofs.First.{element_at, element_below, first-here, first_over, first-before}

pub listed_plain : (f : Name) (y : Held) → is_listed true f y ≡ true → is_plain y ≡ true
unfolding is_listed
listed_plain f y h = ((and-eq-true_iff (is_call_of f y) (is_plain y)).0 h).1

-- A site that is not listed is no repeat, nor is one whose argument is another configuration.
and_false : (t u : Bool) → u ≡ false → (t && u) ≡ false
and_false true u e = e
and_false false u e = refl

pub repeat-listed : (f : Name) (y x : Held) → is_listed true f x ≡ false → is_repeat f y x ≡ false
unfolding is_repeat
repeat-listed f y x h = ap (λ (t : Bool). t && same_configuration x.site.argument y.site.argument) h

pub repeat-other : (f : Name) (y x : Held) → same_configuration x.site.argument y.site.argument ≡ false → is_repeat f y x ≡ false
unfolding is_repeat
repeat-other f y x h = and_false (is_listed true f x) (same_configuration x.site.argument y.site.argument) h

pub repeat-same : (f : Name) (y x : Held) → is_listed true f x ≡ true → same_configuration x.site.argument y.site.argument ≡ true → is_repeat f y x ≡ true
unfolding is_repeat
repeat-same f y x h g = (and-eq-true_iff (is_listed true f x) (same_configuration x.site.argument y.site.argument)).1 (h, g)

-- A listed site repeats itself.
pub repeat_self : (f : Name) (y : Held) → is_listed true f y ≡ true → is_repeat f y y ≡ true
unfolding is_plain
repeat_self f y h = repeat-same f y y h ((repeats_exactly y.site.argument y.site.argument (listed_plain f y h)).1 refl)

-- The walk that looks for what y, the site i, repeats has come to the site j of the list.
pub record Alike (f : Name) (sites : List Held) (y : Held) (i j : ℕ) : Type 0 where
  pub upto : j ≤ i
  pub site : Held
  pub among : Among f sites j site
  pub none : (k : ℕ) (x : Held) → k < j → get_elem? sites k ≡ some x → is_repeat f y x ≡ false

module _ {f : Name} {sites : List Held} {y : Held} {i : ℕ} (a : Among f sites i y) where
  -- From a place up to which nothing is a repeat, to the next of the list.
  pub alike_at : (from r : ℕ) → from ≤ i → First (is_listed true f) from sites r → ((k : ℕ) (x : Held) → k < from → get_elem? sites k ≡ some x → is_repeat f y x ≡ false) → Alike f sites y i r
  alike_at from r h g e =
      let u = first-before g h a.is a.listed in
      let x = element_at sites r (omega (arith, u, element_below sites i y a.is)) in
      record {
        upto = u;
        site = x.element;
        among = record { is = x.is; listed = g.found x.element x.is };
        none = λ k z l d. before k z l d (ltb k from) refl;
      }
    where
      before : (k : ℕ) (x : Held) → k < r → get_elem? sites k ≡ some x → (t : Bool) → ltb k from ≡ t → is_repeat f y x ≡ false
      before k x l d true t = e k x (ltb-true k from t) d
      before k x l d false t = repeat-listed f y x (g.none k x (ltb-false k from t) l d)

  module _ {j : ℕ} (w : Alike f sites y i j) where
    -- Past a site that is none.
    pub alike-past : same_configuration w.site.site.argument y.site.argument ≡ false → (k : ℕ) (x : Held) → k < suc j → get_elem? sites k ≡ some x → is_repeat f y x ≡ false
    alike-past h k x l d = past (ltb k j) refl
      where
        past : (t : Bool) → ltb k j ≡ t → is_repeat f y x ≡ false
        past true t = w.none k x (ltb-true k j t) d
        past false t =
            let z : k ≡ j = omega (arith, ltb-false k j t) in
            ap (is_repeat f y) (cc w.among.is) ∙ repeat-other f y w.site h

    pub alike-found : is_repeat f y w.site ≡ true → First (is_repeat f y) 0 sites j
    alike-found h = first_over (omega arith) (λ k x l g d. w.none k x g d) (first-here w.among.is h)

    -- The walk has come to the site itself.
    pub alike_end : i ≤ j → First (is_repeat f y) 0 sites j
    alike_end h =
        let z : j ≡ i = omega (arith, w.upto) in
        let e : w.site ≡ y = cc (w.among.is, a.is) in
        alike-found (ap (is_repeat f y) e ∙ repeat_self f y a.listed)

module _ {b m : List ℕ} {calls links n head : ℕ} {f : Name} {sites : List Held} (l : ListAt b m calls links n head f sites) where
  module _ {i : ℕ} {y : Held} (a : Among f sites i y) where
    pub among_below : i < n
    among_below = omega (arith, element_below sites i y a.is, l.count)

    abbrev pub call_of : CallAt (drop (entry_offset (get_or m (calls + i) 0)) b)
    call_of = (l.entries.entry i y a.is).call

    pub valid_of : ValidTerms y.site.argument Mode.pattern 0
    unfolding is_plain
    valid_of = plain-pattern y.site.argument 0 (listed_plain f y a.listed) (subst (λ (t : Terms). ValidTerms t Mode.result 0) (l.entries.entry i y a.is).argument call_of.valid)

    -- The reading of its argument, at the place where that begins.
    abbrev pub reading_of : (r : ℕ) → drop r b ≡ put_terms call_of.argument call_of.rest → TermsAt Mode.pattern (part b r)
    reading_of r e = record {
      terms = y.site.argument;
      rest = call_of.rest;
      is = part_rest b r ∙ (e ∙ ap (λ (t : Terms). put_terms t call_of.rest) (l.entries.entry i y a.is).argument);
      valid = valid_of;
    }

    pub alike-first : Alike f sites y i head
    alike-first = alike_at a 0 head (omega arith) l.begins (λ k x h d. absurd (omega arith))

    pub alike_next : {j : ℕ} (w : Alike f sites y i j) → j < i → same_configuration w.site.site.argument y.site.argument ≡ false
        → Alike f sites y i (entry_next (get_or m (links + j) 0)) × (j < entry_next (get_or m (links + j) 0))
    alike_next {j} w h e =
        let g = l.chain.next j w.site (omega arith) w.among.is w.among.listed in
        (alike_at a (suc j) (entry_next (get_or m (links + j) 0)) (omega arith) g (alike-past a w e), g.later)
