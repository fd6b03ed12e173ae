-- The entries of work: what they say of sites and sentences, and what writing a round or a witness leaves.
use Prim.Native.Nat.{ℕ, zero, suc, ◌+◌, ◌/◌, ◌%◌, ◌<◌, ◌≤◌}
use native.Mathlib.Omega.{arith}
use mathlib.Core.Path.{◌≡◌, refl, sym, ap, subst, fun_ext, ◌∙◌}
use mathlib.Core.Bool.{Bool, true, false, ◌&&◌, cond, not, true≢false}
use mathlib.Core.List.{List, [], ◌∷◌, ◌++◌}
use mathlib.Core.Option.{some}
use borrow.Author.Tests.{ltb-true, lt-ltb, eqb-true, eq-eqb}
use lib.Dec.{eqb, ltb}
use lib.ListN.{length, get_or, get_elem?, drop}
use Rattle.std.specs.Prelude.{Option, None, Some, is_some}
use Rattle.std.specs.Option.{option_eq, unwrap_or}
use Rattle.program.specs.Syntax.{Name, Terms, Function, Program}
use Rattle.program.specs.Sentences.{Sentence, own_sentences}
use Rattle.image.specs.Parts.{SentenceAt}
use Rattle.meaning.specs.Sites.{Site}
use Rattle.told.specs.Numbered.{Held, held_by, own_sites, held_sites, sentences_before, sites_of}
use Rattle.restrictions.specs.Entries.{Entry}
use Rattle.index.specs.declared.Plan.{Plan}
use Rattle.index.specs.Layout.{heads, lines, calls, links}
use Rattle.index.specs.First.{First}
use Rattle.index.specs.Tables.{FunctionEntry, SentenceEntry}
use Rattle.told.specs.Calls.{is_listed}
use Rattle.index.specs.Links.{list_head, entry_next, entry_class, is_repeat}
use Rattle.index.proofs.First.{element_below}
use Rattle.told.specs.Asked.{restricts, is_met, meets}
use Rattle.cleaning.specs.Indexed.{Indexed, fell_of, FellIn, OnlyRounds}
use Rattle.cleaning.specs.Walks.{Walkable, NoneMet, WitnessOf}

-- ---- the number of a site's sentence

held_below : (l : List Site) (k n : ℕ) (m : List Held) → k < n → ((i : ℕ) (x : Held) → get_elem? m i ≡ some x → x.sentence < n)
    → (i : ℕ) (x : Held) → get_elem? (held_by k l ++ m) i ≡ some x → x.sentence < n
unfolding held_by
held_below [] k n m h f i x e = f i x e
held_below (y ∷ l) k n m h f zero x e =
    let z : record { sentence = k; site = y } ≡ x = cc in
    subst (λ (u : Held). u.sentence < n) z h
held_below (y ∷ l) k n m h f (suc i) x e = held_below l k n m h f i x e

pub sites-below : (xs : List Sentence) (k n : ℕ) → k + length xs ≤ n → (i : ℕ) (x : Held) → get_elem? (held_sites k xs) i ≡ some x → x.sentence < n
unfolding held_sites
sites-below [] k n h i x e = let z : ◌≡◌ {A = ℕ} 0 1 = cc in absurd (omega arith)
sites-below (y ∷ xs) k n h i x e = held_below (own_sites y) k n (held_sites (suc k) xs) (omega arith) (sites-below xs (suc k) n (omega arith)) i x e

pub indexed-walkable : {b : List ℕ} {w : Program} {m : List ℕ} {p : Plan} → Indexed b w m p → (kind : Bool) (f : ℕ) (x : Function) → get_elem? w.functions f ≡ some x → Walkable kind x.name (sites_of w) m p
indexed-walkable {b} {w} {m} {p} d kind f x e = record {
  count = d.sites;
  fits = d.fits;
  small = d.small;
  number = λ i y g. ((d.site.entry i y g).sentence, sites-below (own_sentences w.functions) 0 p.sentences (omega (arith, d.sentences)) i y g);
  chain = d.chained.chain kind f x e;
}

-- ---- the round in which a sentence fell

pub fell-is : (p : Plan) (m : List ℕ) (s : ℕ) → s < p.sentences → fell_of p m s ≡ get_or m (lines p + s) 0 / 32768 % 4096
unfolding fell_of
fell-is p m s h = ap (λ (t : Bool). cond t (get_or m (lines p + s) 0 / 32768 % 4096) 0) (lt-ltb s p.sentences h)

-- Whether it fell at all, from the answer.
pub never-fell : (n : ℕ) (o : Option ℕ) → FellIn n o → is_some o ≡ false → n ≡ 0
never-fell n None e h = e
never-fell n (Some r) e h = absurd (true≢false h)

pub fell-once : (n : ℕ) (o : Option ℕ) → FellIn n o → is_some o ≡ true → n ≡ 0 → ⊥
fell-once n None e h = absurd (true≢false (sym h))
fell-once n (Some r) e h = λ z. omega (arith, z, e.0, e.1)

-- The number back, 0 for none.
pub fell-number : (n : ℕ) (o : Option ℕ) → FellIn n o → unwrap_or o 0 ≡ n
fell-number n None e = sym e
fell-number n (Some r) e = sym e.0

-- Whether it fell in the round r.
pub fell-other : (n r : ℕ) (o : Option ℕ) → FellIn n o → 0 < r → true ≡ not (option_eq eqb o (Some r)) → n ≡ r → ⊥
fell-other n r None e l h = λ z. omega (arith, e, z, l)
fell-other n r (Some k) e l h = λ z. true≢false (h ∙ ap not (eq-eqb k r (sym e.0 ∙ z)))

pub fell-same : (n r : ℕ) (o : Option ℕ) → FellIn n o → false ≡ not (option_eq eqb o (Some r)) → n ≡ r
fell-same n r None e h = absurd (true≢false (sym h))
fell-same n r (Some k) e h = by (eqb k r) refl
  where
    by : (t : Bool) → eqb k r ≡ t → n ≡ r
    by true q = e.0 ∙ eqb-true k r q
    by false q = absurd (true≢false (sym (h ∙ ap not q)))

-- ---- what other entries leave

-- A sentence's place is the same, so its entry names the same sentence.
record PlaceOf (b : List ℕ) (n : ℕ) (x : Sentence) : Type 0 where
  pub stands : SentenceAt (drop n b)
  pub is : stands.sentence ≡ x

entry-same : (b : List ℕ) (e d : ℕ) (x : Sentence) → d % 32768 ≡ e % 32768 → SentenceEntry b e x → SentenceEntry b d x
entry-same b e d x h g =
    let z = subst (λ (n : ℕ). PlaceOf b n x) (sym h) (record { stands = g.stands; is = g.is }) in
    record { stands = z.stands; is = z.is }

module _ {b : List ℕ} {w : Program} {old new : List ℕ} {p : Plan} (o : OnlyRounds p old new) (d : Indexed b w old p) where
  function-before : (f : ℕ) (x : Function) → get_elem? w.functions f ≡ some x → f < p.functions
  function-before f x e = omega (arith, element_below w.functions f x e, d.functions)

  site-before : (i : ℕ) (y : Held) → get_elem? (sites_of w) i ≡ some y → i < p.sites
  site-before i y e = omega (arith, element_below (sites_of w) i y e, d.sites)

  call_kept : (i : ℕ) → i < p.sites → get_or new (calls p + i) 0 ≡ get_or old (calls p + i) 0
  call_kept i l = o.after (calls p + i) (omega arith) (omega arith)

  link-kept : (i : ℕ) → i < p.sites → get_or new (links p + i) 0 ≡ get_or old (links p + i) 0
  link-kept i l = o.after (links p + i) (omega arith) (omega arith)

  pub only_rounds_indexed : Indexed b w new p
  only_rounds_indexed = record {
    functions = d.functions;
    sentences = d.sentences;
    sites = d.sites;
    fits = omega (arith, d.fits, o.length);
    small = omega (arith, d.small, o.length);
    function = record { entry = λ f x e. subst (λ (n : ℕ). FunctionEntry b n x (sentences_before f w.functions)) (sym (o.before (0 + f) (omega (arith, function-before f x e)))) (d.function.entry f x e) };
    sentence = record { entry = λ s x e. entry-same b (get_or old (lines p + s) 0) (get_or new (lines p + s) 0) x (o.place s (omega (arith, element_below (own_sentences w.functions) s x e, d.sentences))) (d.sentence.entry s x e) };
    site = record { entry = λ i x e. subst (λ (n : ℕ). Entry b n x) (sym (call_kept i (site-before i x e))) (d.site.entry i x e) };
    headed = record { head = λ kind f x e. subst (λ (n : ℕ). First (is_listed kind x.name) 0 (sites_of w) (list_head kind n)) (sym (o.before (heads p + f) (omega (arith, function-before f x e)))) (d.headed.head kind f x e) };
    chained = record {
      chain = λ kind f x e. record {
        next = λ i y h g t. subst (λ (n : ℕ). First (is_listed kind x.name) (suc i) (sites_of w) (entry_next n)) (sym (link-kept i (site-before i y g))) ((d.chained.chain kind f x e).next i y h g t);
      };
    };
    classed = λ f x e. record {
      class = λ i y g t. subst (λ (n : ℕ). First (is_repeat x.name y) 0 (sites_of w) (entry_class n)) (sym (link-kept i (site-before i y g))) ((d.classed f x e).class i y g t);
    };
  }

-- Rounds stand in the sentences' entries.
pub fell_by : (p : Plan) (old new : List ℕ) → ((s : ℕ) → s < p.sentences → get_or new (lines p + s) 0 / 32768 % 4096 ≡ get_or old (lines p + s) 0 / 32768 % 4096) → fell_of p new ≡ fell_of p old
unfolding fell_of
fell_by p old new h = fun_ext (λ k. by k (ltb k p.sentences) refl)
  where
    by : (k : ℕ) (t : Bool) → ltb k p.sentences ≡ t → cond t (get_or new (lines p + k) 0 / 32768 % 4096) 0 ≡ cond t (get_or old (lines p + k) 0 / 32768 % 4096) 0
    by k true e = h k (ltb-true k p.sentences e)
    by k false e = refl

pub fell-from : (p : Plan) (old new : List ℕ) → ((s : ℕ) → s < p.sentences → get_or new (lines p + s) 0 ≡ get_or old (lines p + s) 0) → fell_of p new ≡ fell_of p old
fell-from p old new h = fell_by p old new (λ s l. ap (λ (n : ℕ). n / 32768 % 4096) (h s l))

-- ---- sites only go

less-met : (a b c d : Bool) → (a ≡ true → b ≡ true) → ((b && c) && d) ≡ false → ((a && c) && d) ≡ false
less-met true true c d h e = e
less-met true false c d h e = let z : false ≡ true = h refl in let y : ◌≡◌ {A = ℕ} 0 1 = cc in absurd (omega arith)
less-met false b c d h e = refl

module _ {keep next : ℕ → Bool} (fewer : (s : ℕ) → next s ≡ true → keep s ≡ true) where
  pub none-later : (f : Name) (p : Terms) (sites : List Held) (i : ℕ) → NoneMet keep f p sites i → NoneMet next f p sites i
  unfolding meets restricts
  none-later f p sites i h j x l e = less-met (next x.sentence) (keep x.sentence) (is_listed true f x) (is_met p x) (fewer x.sentence) (h j x l e)

  pub witness-later : {f : Name} {p : Terms} {sites : List Held} {d : ℕ} → WitnessOf keep f p sites d → WitnessOf next f p sites d
  witness-later {f} {p} {sites} {d} w = record { within = w.within; before = λ k e. none-later f p sites k (w.before k e); itself = w.itself }
