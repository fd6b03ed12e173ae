-- `cleaning::walks::still_met` meets its contract. Assumes nothing.
use Prim.Native.Nat.{ℕ, suc, ◌+◌, ◌<◌, ◌≤◌}
use native.Mathlib.Omega.{arith}
use mathlib.Core.Path.{◌≡◌, sym, ap, subst, ◌∙◌}
use mathlib.Core.Bool.{Bool, true, false}
use mathlib.Core.List.{List}
use borrow.Author.Tests.{lt-ltb, le-ltb}
use lib.ListN.{length, get_or, set, get_elem?}
use lib.Seq.{get_or-set_same}
use Rattle.program.specs.Sentences.{Sentence, own_sentences}
use Rattle.program.specs.Syntax.{Function, Program}
use Rattle.index.specs.First.{First}
use Rattle.index.specs.Layout.{heads, witnesses}
use Rattle.index.specs.Links.{list_head}
use Rattle.index.proofs.First.{element_below}
use Rattle.told.specs.Asked.{meets}
use Rattle.told.specs.History.{is_there}
use Rattle.told.specs.Numbered.{sites_of}
use Rattle.cleaning.specs.Indexed.{Indexed, fell_of}
use Rattle.index.specs.declared.Plan.{Plan}
use Rattle.cleaning.specs.Room.{Used}
use Rattle.cleaning.specs.Walks.{OnList, NoneMet, Owns, WitnessOf, SomeOwned, witness_from, OneColumn}
use Rattle.cleaning.proofs.Meeting.{number_is, site_element, sentence-below}
use Rattle.cleaning.proofs.Room.{used_same, one_column, no_column}
use Rattle.cleaning.proofs.Witnesses.{pattern-there, begins-at, none_left, witness-there, still_by}
use Rattle.cleaning.proofs.walks.still_met.Goals as goal
use Rattle.cleaning.proofs.walks.still_met.Goals.{In-Some}

-- The sentence has a witness in work.
witness_inside : {b m : List ℕ} {p : Plan} {keep : ℕ → Bool} {f s : ℕ} → SomeOwned b m p keep f s → (s < p.sentences) × (witnesses p + s < length m) × (length m ≤ 8192)
witness_inside {s = s} q =
    let d = q.indexed in
    let e = element_below (own_sentences q.program.functions) s q.sentence q.owns.sentence in
    (omega (arith, e, d.sentences), omega (arith, e, d.sentences, d.fits), d.small)

-- Where the search begins, no site of the list has been met.
begins : {b m : List ℕ} {p : Plan} {keep : ℕ → Bool} {w : Program} {f s i : ℕ} {x : Function} {y : Sentence} → Indexed b w m p → Owns w f x s y → WitnessOf keep x.name y.pattern (sites_of w) (get_or m (witnesses p + s) 0)
    → i ≡ witness_from (get_or m (witnesses p + s) 0) (list_head true (get_or m (heads p + f) 0)) → OnList x.name (sites_of w) i × NoneMet keep x.name y.pattern (sites_of w) i
begins {m = m} {p} {keep} {w} {f} {s} {x = x} {y} d o a e =
    rw e (begins-at keep x.name y.pattern (sites_of w) (get_or m (witnesses p + s) 0) (list_head true (get_or m (heads p + f) 0)) (d.headed.head true f x o.function) a)

-- An entry is written in a column that begins at n, which is q.
put-there : {n q : ℕ} → n ≡ q → (s : ℕ) (m : List ℕ) (v : ℕ) → n + s < length m → get_or (set m (n + s) v) (q + s) 0 ≡ v
put-there {n} e s m v h = ap (λ (j : ℕ). get_or (set m (n + s) v) (j + s) 0) (sym e) ∙ get_or-set_same m (n + s) v 0 h

put-column : {n q : ℕ} → n ≡ q → (s : ℕ) {p : Plan} {m o : List ℕ} → Used p m o → (v : ℕ) → OneColumn p m (set o (n + s) v) (q + s)
put-column {n} e s {p} {m} {o} u v = subst (λ (j : ℕ). OneColumn p m (set o (n + s) v) (j + s)) e (one_column u (n + s) v)

pub witnesses-requires : goal.witnesses-requires
witnesses-requires c = omega (arith, witness_inside c.requires.0)

pub overflow_add-k : goal.overflow_add-k
overflow_add-k c = omega (arith, witness_inside c.requires.0)

pub witness_of-i-requires : goal.witness_of-i-requires
witness_of-i-requires c =
    let p = c.requires.0 in
    let below : c.args.f < c.args.plan.functions = omega (arith, element_below p.program.functions c.args.f p.function p.owns.function, p.indexed.functions) in
    (below, (witness_inside p).0, (p.indexed.fits, p.indexed.small))

pub overflow_cast-work : goal.overflow_cast-work
overflow_cast-work c = let d = c.requires.0.indexed in omega (arith, d.fits, d.small)

pub overflow_add-work : goal.overflow_add-work
overflow_add-work c = let d = c.requires.0.indexed in omega (arith, d.fits, d.small)

pub offset_bounds-work-k : goal.offset_bounds-work-k
offset_bounds-work-k c = omega (arith, witness_inside c.requires.0)

pub bounds-work-k : goal.bounds-work-k
bounds-work-k c = omega (arith, witness_inside c.requires.0)

pub returns-then-plan-i : goal.returns-then-plan-i
returns-then-plan-i c =
    let n = c.args.plan.sites in let i = c.witness_of-i.result in record {
      met = λ w x y d o a.
          let g = begins d o a c.witness_of-i.ensures in
          let h : length (sites_of w) ≤ i = omega (arith, c.if-plan-i.true, d.sites) in
          let z : n + 1 ≡ suc i = omega (arith, h, g.0.within, d.sites) in
          let b : c.witnesses.result + c.args.s < length c.args.work.now = omega (arith, witness_inside c.requires.0) in
          still_by _ _ _ _ i (none_left _ _ _ _ i g.0 g.1 h) _ (put-there c.witnesses.ensures c.args.s c.args.work.now (n + 1) b ∙ z) false (sym (le-ltb i (length (sites_of w)) h));
      others = put-column c.witnesses.ensures c.args.s used_same (n + 1);
    }

pub offset_bounds-work-k-2 : goal.offset_bounds-work-k-2
offset_bounds-work-k-2 c = omega (arith, witness_inside c.requires.0)

pub bounds-work-k-2 : goal.bounds-work-k-2
bounds-work-k-2 c = omega (arith, witness_inside c.requires.0)

pub site_there-requires : goal.site_there-requires
site_there-requires c =
    let p = c.requires.0 in
    let h : c.witness_of-i.result < c.args.plan.sites = omega (arith, c.if-plan-i.false) in
    (h, sentence-below p.indexed c.args.f p.function p.owns.function c.witness_of-i.result h, (p.indexed.fits, p.indexed.small))

pub returns-then-site_there : goal.returns-then-site_there
returns-then-site_there c =
    let keep = is_there (fell_of c.args.plan c.args.work.now) c.args.round in
    let v = get_or c.args.work.now (witnesses c.args.plan + c.args.s) 0 in
    let i = c.witness_of-i.result in
    let e = c.witness_of-i.ensures in record {
      met = λ w x y d o a.
          let h : i < c.args.plan.sites = omega (arith, c.if-plan-i.false) in
          let u = site_element d c.args.f x o.function i h in
          let k = ap keep (sym (number_is d c.args.f x o.function i u.element u.is)) ∙ sym c.site_there.ensures ∙ c.if-site_there.true in
          let n = witness_from v (list_head true (get_or c.args.work.now (heads c.args.plan + c.args.f) 0)) in
          let g = witness-there keep x.name y.pattern (sites_of w) v (list_head true (get_or c.args.work.now (heads c.args.plan + c.args.f) 0)) (λ z. c.if-work-k-ne0.true (ap (λ (j : ℕ). get_or c.args.work.now (j + c.args.s) 0) c.witnesses.ensures ∙ z)) a u.element (ap (get_elem? (sites_of w)) (sym e) ∙ u.is) k in
          still_by keep x.name y.pattern (sites_of w) n g.0 v g.1 true (sym (lt-ltb n (length (sites_of w)) (omega (arith, e, h, d.sites))));
      others = no_column c.args.plan c.args.work.now (witnesses c.args.plan + c.args.s);
    }

pub pattern_place-pattern-requires : goal.pattern_place-pattern-requires
pattern_place-pattern-requires c =
    let d = c.requires.0.indexed in
    ((witness_inside c.requires.0).0, (omega (arith, d.fits), d.small))

pub meeting_from-requires : goal.meeting_from-requires
meeting_from-requires c =
    let p = c.requires.0 in (
      record {
        program = p.program;
        indexed = p.indexed;
        place = c.args.f;
        function = p.function;
        is = p.owns.function;
        listed = (begins p.indexed p.owns p.witnessed c.witness_of-i.ensures).0;
        reading = pattern-there (p.indexed.sentence.entry c.args.s p.sentence p.owns.sentence) c.pattern_place-pattern.result c.pattern_place-pattern.ensures.0;
      },
      c.requires.1,
    )

-- The site that the search finds is the first that is met.
first_met : (c : In-Some) (w : Program) (x : Function) (y : Sentence) → Indexed c.args.b.now w c.args.work.now c.args.plan → Owns w c.args.f x c.args.s y
    → WitnessOf (is_there (fell_of c.args.plan c.args.work.now) c.args.round) x.name y.pattern (sites_of w) (get_or c.args.work.now (witnesses c.args.plan + c.args.s) 0)
    → First (meets (is_there (fell_of c.args.plan c.args.work.now) c.args.round) x.name y.pattern) 0 (sites_of w) c.in-Some.next × (c.in-Some.next < length (sites_of w))
first_met c w x y d o a =
    let i = begins d o a c.witness_of-i.ensures in
    c.in-Some.ensures.met w c.args.f x d o.function i.0 (pattern-there (d.sentence.entry c.args.s y o.sentence) c.pattern_place-pattern.result c.pattern_place-pattern.ensures.0) i.1

next_below : (c : In-Some) → c.in-Some.next < 8192
next_below c =
    let p = c.requires.0 in
    omega (arith, (first_met c p.program p.function p.sentence p.indexed p.owns p.witnessed).1, p.indexed.sites, p.indexed.fits, p.indexed.small)

pub overflow_cast-work-in-Some : goal.overflow_cast-work-in-Some
overflow_cast-work-in-Some c = omega (arith, next_below c)

pub overflow_add-work-in-Some : goal.overflow_add-work-in-Some
overflow_add-work-in-Some c = omega (arith, next_below c)

pub offset_bounds-work-k-in-Some : goal.offset_bounds-work-k-in-Some
offset_bounds-work-k-in-Some c = omega (arith, witness_inside c.requires.0)

pub bounds-work-k-in-Some : goal.bounds-work-k-in-Some
bounds-work-k-in-Some c = omega (arith, witness_inside c.requires.0, c.meeting_from.ensures.keeps.length)

pub offset_bounds-work-k-in-None : goal.offset_bounds-work-k-in-None
offset_bounds-work-k-in-None c = omega (arith, witness_inside c.requires.0)

pub bounds-work-k-in-None : goal.bounds-work-k-in-None
bounds-work-k-in-None c = omega (arith, witness_inside c.requires.0, c.meeting_from.ensures.keeps.length)

pub returns-in-Some : goal.returns-in-Some
returns-in-Some c =
    let m = c.meeting_from.new.work in let n = c.in-Some.next in record {
      met = λ w x y d o a.
          let g = first_met c w x y d o a in
          let z : n + 1 ≡ suc n = omega arith in
          let b : c.witnesses.result + c.args.s < length m = bounds-work-k-in-Some c in
          still_by _ _ _ _ n g.0 _ (put-there c.witnesses.ensures c.args.s m (n + 1) b ∙ z) true (sym (lt-ltb n (length (sites_of w)) g.1));
      others = put-column c.witnesses.ensures c.args.s c.meeting_from.ensures.keeps (n + 1);
    }

pub returns-in-None : goal.returns-in-None
returns-in-None c =
    let m = c.meeting_from.new.work in let n = c.args.plan.sites in record {
      met = λ w x y d o a.
          let i = begins d o a c.witness_of-i.ensures in
          let l = length (sites_of w) in
          let t = pattern-there (d.sentence.entry c.args.s y o.sentence) c.pattern_place-pattern.result c.pattern_place-pattern.ensures.0 in
          let z : n + 1 ≡ suc l = omega (arith, d.sites) in
          let b : c.witnesses.result + c.args.s < length m = bounds-work-k-in-None c in
          still_by _ _ _ _ l (c.in-None.ensures.met w c.args.f x d o.function i.0 t i.1) _ (put-there c.witnesses.ensures c.args.s m (n + 1) b ∙ z) false (sym (le-ltb l l (omega arith)));
      others = put-column c.witnesses.ensures c.args.s c.meeting_from.ensures.keeps (n + 1);
    }
