-- Classes for the list of one function after another: functions of one name have one list, which is classed once, others share no site.
use Prim.Native.Nat.{ℕ, suc, ◌+◌, ◌-◌, ◌<◌}
use native.Mathlib.Omega.{arith}
use mathlib.Core.Path.{◌≡◌, refl, sym, ap, subst, ◌∙◌}
use mathlib.Core.Bool.{Bool, true, false, ◌&&◌, true≢false}
use mathlib.Core.List.{List}
use mathlib.Core.Option.{some}
use lib.ListN.{length, get_or, get_elem?}
use Rattle.program.specs.Syntax.{Name, Function, Program}
use Rattle.patterns.specs.Names.{same_name}
use Rattle.patterns.proofs.Names.{same_name_sym, same_name_trans}
use Rattle.patterns.specs.Configuration.{same_configuration}
use Rattle.told.specs.Numbered.{Held, sites_of}
use Rattle.restrictions.specs.Entries.{Entry}
use Rattle.index.specs.declared.Plan.{Plan}
use Rattle.index.specs.First.{First}
use Rattle.told.specs.Calls.{is_call_of, is_listed}
use Rattle.index.specs.Layout.{calls, links, notes}
use Rattle.index.specs.Bucket.{bucket_of, in_bucket, is_named, Filed}
use Rattle.index.specs.Tabled.{Tabled, SomeFiled}
use Rattle.index.specs.Links.{list_head, entry_class, is_repeat, Classed}
use Rattle.index.specs.Lists.{ListAt, OnlyClasses}
use Rattle.index.proofs.Calls.{listed-call, same_lists}
use Rattle.index.proofs.Entries.{below_or_here}
use Rattle.index.proofs.First.{element_at, element_below, element_same}
use Rattle.index.proofs.Shared.{own_first}
use Rattle.index.proofs.Firsts.{first_agree}
use Rattle.index.proofs.Preserved.{tabled-same}
use Rattle.cleaning.specs.Prepared.{Chains, ClassesWritten, Earlier}

-- Two functions that both have the site y have one name.
pub one_name : (f g : Name) (y : Held) → is_listed true f y ≡ true → is_listed true g y ≡ true → same_name f g ≡ true
unfolding is_call_of
one_name f g y a b = same_name_trans f y.site.callee g (same_name_sym f y.site.callee ∙ listed-call f y true a) (listed-call g y true b)

repeats_same : (f g : Name) (y : Held) → same_name f g ≡ true → (x : Held) → is_repeat f y x ≡ is_repeat g y x
unfolding is_repeat
repeats_same f g y e x = ap (λ (t : Bool). t && same_configuration x.site.argument y.site.argument) (same_lists f g true e x)

-- Classing the list of f keeps the classes of g.
classed-kept : (f g : Name) (sites : List Held) (old new : List ℕ) (links : ℕ) → Classed f sites new links → OnlyClasses f sites old new links → Classed g sites old links → Classed g sites new links
classed-kept f g sites old new links a o k = record { class = λ i y e t. go i y e t (is_listed true f y) refl }
  where
    go : (i : ℕ) (y : Held) → get_elem? sites i ≡ some y → is_listed true g y ≡ true → (b : Bool) → is_listed true f y ≡ b → First (is_repeat g y) 0 sites (entry_class (get_or new (links + i) 0))
    go i y e t true h = first_agree (is_repeat f y) (is_repeat g y) (repeats_same f g y (one_name f g y h t)) (a.class i y e h)
    go i y e t false h =
        subst (λ (m : ℕ). First (is_repeat g y) 0 sites (entry_class m))
        (sym (o.others (links + i) (λ j z w q.
        let d : i ≡ j = omega arith in
        let u : z ≡ y = element_same sites j z y w.is (subst (λ (n : ℕ). get_elem? sites n ≡ some y) d e) in
        true≢false (sym w.listed ∙ (ap (is_listed true f) u ∙ h)))))
        (k.class i y e t)

-- Functions of one name have one list, and so one set of classes.
classed-same : (f g : Name) (sites : List Held) (m : List ℕ) (links : ℕ) → same_name f g ≡ true → Classed f sites m links → Classed g sites m links
classed-same f g sites m links e a = record { class = λ i y q t. first_agree (is_repeat f y) (is_repeat g y) (repeats_same f g y e) (a.class i y q (same_lists f g true e y ∙ t)) }

module _ {b old new : List ℕ} {p : Plan} {w : Program} (l : Chains b w old p) {f : ℕ} (k : ClassesWritten w old new p f) where
  -- The list of the f-th function, as work has it by now.
  pub chains-list : (x : Function) → get_elem? w.functions f ≡ some x → (head : ℕ) → head ≡ list_head true (get_or new (p.functions + f) 0) → f < p.functions → ListAt b new (calls p) (links p) p.sites head x.name (sites_of w)
  chains-list x e head h u = record {
    entries = record { entry = λ i y q. subst (λ (m : ℕ). Entry b m y) (sym (k.before (calls p + i) (omega (arith, element_below (sites_of w) i y q, l.sites)))) (l.site.entry i y q) };
    count = l.sites;
    calls_fit = omega (arith, l.fits, k.length);
    links_fit = omega (arith, l.fits, k.length);
    chain = record { next = λ i y a q t. subst (λ (m : ℕ). First (is_listed true x.name) (suc i) (sites_of w) m) (sym (k.nexts i)) ((l.chained.chain true f x e).next i y a q t) };
    begins = subst (First (is_listed true x.name) 0 (sites_of w)) (sym (h ∙ ap (list_head true) (k.before (p.functions + f) (omega (arith, u))))) (l.headed.head true f x e);
  }

  classes_then : (x : Function) → get_elem? w.functions f ≡ some x → (next : List ℕ) → Classed x.name (sites_of w) next (links p) → OnlyClasses x.name (sites_of w) new next (links p) → ClassesWritten w old next p (f + 1)
  classes_then x e next c o = record {
    length = o.length ∙ k.length;
    before = λ j h. o.others j (λ i y a q. absurd (omega arith)) ∙ k.before j h;
    behind = λ j h. o.others j (λ i y a q. absurd (omega (arith, element_below (sites_of w) i y a.is, l.sites))) ∙ k.behind j h;
    nexts = λ i. o.nexts i ∙ k.nexts i;
    classed = λ g y h q.
        below_or_here (λ (n : ℕ). Classed y.name (sites_of w) next (links p)) g f
        (λ u. classed-kept x.name y.name (sites_of w) new next (links p) c o (k.classed g y u q))
        (λ u. subst (λ (v : Function). Classed v.name (sites_of w) next (links p)) (element_same w.functions f x y e (subst (λ (n : ℕ). get_elem? w.functions n ≡ some y) u q)) c)
        h;
  }

  pub tabled_still : Tabled b new p.functions w.functions
  tabled_still = tabled-same l.function (λ j h. k.before j (omega (arith, h))) k.length

  pub filed-there : Filed w.functions new (notes p) (notes p + p.functions) (length new - notes p - p.functions) 0
  filed-there = subst
      (λ (n : ℕ). Filed w.functions new (notes p) (notes p + p.functions) n 0)
      (omega (arith, k.length))
      (record {
        bucket = λ j h. subst (First (in_bucket (length old - notes p - p.functions) j) 0 w.functions) (sym (k.behind (notes p + p.functions + j) (omega arith))) (l.filed.bucket j h);
        link = λ j x h q. subst (First (in_bucket (length old - notes p - p.functions) (bucket_of (length old - notes p - p.functions) x.name)) (suc j) w.functions) (sym (k.behind (notes p + j) (omega arith))) (l.filed.link j x h q);
      })

  pub classes_next : (x : Function) → get_elem? w.functions f ≡ some x → (r : ℕ) → r ≡ links p → {next : List ℕ} → Classed x.name (sites_of w) next r → OnlyClasses x.name (sites_of w) new next r → ClassesWritten w old next p (f + 1)
  classes_next x e r h {next} c o =
      classes_then x e next (subst (Classed x.name (sites_of w) next) h c) (subst (OnlyClasses x.name (sites_of w) new next) h o)

  -- A later function of a name has the classes of the first.
  pub classes_later : (x : Function) → get_elem? w.functions f ≡ some x → Earlier w.functions f x → ClassesWritten w old new p (f + 1)
  classes_later x e g = record {
    length = k.length;
    before = k.before;
    behind = k.behind;
    nexts = k.nexts;
    classed = λ h y u q.
        below_or_here (λ (n : ℕ). Classed y.name (sites_of w) new (links p)) h f
        (λ v. k.classed h y v q)
        (λ v. subst (λ (z : Function). Classed z.name (sites_of w) new (links p)) (element_same w.functions f x y e (subst (λ (n : ℕ). get_elem? w.functions n ≡ some y) v q)) (classed-same g.function.name x.name (sites_of w) new (links p) g.named (k.classed g.place g.function g.below g.is)))
        u;
  }

  -- The functions are filed as they were.
  pub filed_still : SomeFiled b new (record { functions = p.functions; at = notes p; buckets = length new - notes p - p.functions })
  filed_still = record {
    functions = w.functions;
    tabled = tabled_still;
    filed = filed-there;
    fits = omega (arith, l.fits, k.length);
    some = omega (arith, l.fits, k.length);
  }

pub classes_none : (w : Program) (m : List ℕ) (p : Plan) → ClassesWritten w m m p 0
classes_none w m p = record { length = refl; before = λ k h. refl; behind = λ k h. refl; nexts = λ i. refl; classed = λ f x h e. absurd (omega arith) }

-- A function that is not the first of its name has an earlier one.
pub earlier-named : (fs : List Function) (f g : ℕ) (x : Function) → get_elem? fs f ≡ some x → First (is_named x.name) 0 fs g → (g ≡ f → ⊥) → Earlier fs f x
unfolding is_named
earlier-named fs f g x q c n =
    let z = element_at fs g (omega (arith, own_first fs f g x q c, element_below fs f x q)) in record {
      place = g;
      function = z.element;
      below = omega (arith, own_first fs f g x q c, n);
      is = z.is;
      named = c.found z.element z.is;
    }
