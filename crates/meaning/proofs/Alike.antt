-- A cleaned form of a program runs as the program does, however it is watched.
use Prim.Native.Nat.{ℕ, zero, suc, ◌+◌}
use mathlib.Core.Path.{◌≡◌, refl, sym, ◌∙◌, ap, fun_ext}
use mathlib.Core.List.{List, [], ◌∷◌}
use mathlib.Core.Option.{Option, none, some}
use mathlib.Core.Bool.{Bool, true, false, cond}
use lib.ListN.{get_elem?}
use Rattle.program.specs.Syntax.{Name, Head, Terms, Conditions, Sentences, sentence, Function, Program}
use Rattle.patterns.specs.Names.{same_name}
use Rattle.patterns.specs.Expression.{Expression}
use Rattle.patterns.specs.Fresh.{Fresh}
use Rattle.meaning.specs.Sites.{Site, sentence_sites, function_sites, program_sites}
use Rattle.meaning.specs.Root.{root_place, root}
use Rattle.meaning.specs.Match.{matches}
use Rattle.meaning.specs.Spanless.{spanless, spanless_conditions}
use Rattle.meaning.specs.Run.{Event, entered, chosen, sentences_of}
use Rattle.meaning.specs.Records.{bytes_of}
use Rattle.meaning.specs.Watch.{Watch, Load, Watched, gives, stops, and_then, weighing, bound_anew, first_of, if_fits, Callee, tells, evaluate, hold, choose, entry, body, enter_to, enter, enter_root, watched_outcome, watched_run}
use Rattle.meaning.proofs.Cleaned.{Lacks, Finds, Cleaned}
use Rattle.meaning.proofs.Every.{Opt, all_none, Every, every_left, every_right}
use Rattle.meaning.proofs.Matches.{Good, matches-good}
use Rattle.meaning.proofs.Congruence.{Any, Gives, Holds, Agree, choose-same}

-- Every load.
abbrev Free : Load → Type 0
Free s = Unit {0}

free : (x : Watched Expression) → Gives Free Any x
free (gives a s) = (tt, tt)
free (stops e s) = tt

free-holds : Holds Free
free-holds = record { noted = λ e s i. i; weighed = λ w s i. i }

module _ (watch : Watch) where
  free-same : (c d : Callee) (b : Sentences) (v : Expression) (s : Load) → Every (Agree Free c d) (sentence_sites b) → choose watch c b v [] s ≡ choose watch d b v [] s
  free-same c d b v s h = choose-same watch Free free-holds c d (λ f u t _. free (c f u t)) b v [] s tt tt h

  -- ---- sentences that lack some which nothing can choose

  module _ (c : Callee) (v : Expression) where
    -- A sentence without a match is passed over.
    passed : (h : Head) (p : Terms) (d : Conditions) (r : Terms) (b : Sentences) (s : Load) → (Fresh p v → ⊥) → choose watch c (sentence h p d r b) v [] s ≡ choose watch c b v [] s
    unfolding choose first_of and_then if_fits weighing
    passed h p d r b s n =
        let e : matches p v [] ≡ [] = all_none (Good p v) (matches p v []) (matches-good p v [] tt) (λ x g. n g.1) in
        rw e

    onward : (h : Head) (p : Terms) (d : Conditions) (r : Terms) (a b : Sentences) (s : Load) → ((s : Load) → choose watch c a v [] s ≡ choose watch c b v [] s) → choose watch c (sentence h p d r a) v [] s ≡ choose watch c (sentence h p d r b) v [] s
    unfolding choose
    onward h p d r a b s e =
        ap (λ (k : Load → Watched Expression). and_then (first_of (matches p v []) (λ m s₁. hold watch c d m (weighing (s.weight + bound_anew m []) s₁)) s) (λ o s₁. if_fits o (λ m s₂. and_then (tells watch (chosen (spanless p) (spanless_conditions d) (spanless r)) s₂) (λ _ s₃. evaluate watch c r m s₃)) (λ s₂. k (weighing s.weight s₂)) s₁)) (fun_ext e)

    lacks_choose : {a b : Sentences} → Lacks v a b → (s : Load) → choose watch c a v [] s ≡ choose watch c b v [] s
    lacks_choose Lacks.nothing s = refl
    lacks_choose (Lacks.keeps {h = h} {p = p} {c = d} {r = r} {b = a} {d = b} l) s = onward h p d r a b s (lacks_choose l)
    lacks_choose (Lacks.drops {h = h} {p = p} {c = d} {r = r} {b = a} n l) s = passed h p d r a s n ∙ lacks_choose l s

    finds_body : (o q : Option Sentences) (s : Load) → Finds v o q → body watch c o v s ≡ body watch c q v s
    unfolding body
    finds_body none none s h = refl
    finds_body none (some b) s h = absurd h
    finds_body (some a) none s h = absurd h
    finds_body (some a) (some b) s h = lacks_choose h s

  -- ---- the same sentences, and callees that agree at their sites

  body_same : (c d : Callee) (o : Option Sentences) (v : Expression) (s : Load) → Opt (λ (b : Sentences). Every (Agree Free c d) (sentence_sites b)) o → body watch c o v s ≡ body watch d o v s
  unfolding body
  body_same c d none v s h = refl
  body_same c d (some b) v s h = free-same c d b v s h

  -- What holds of the sites of all functions holds of those of a function that is found by name or by place.
  found-sites : (P : Site → Type 0) (f : Name) (fs : List Function) → Every P (function_sites fs) → Opt (λ (b : Sentences). Every P (sentence_sites b)) (sentences_of f fs)
  unfolding sentences_of function_sites
  found-sites P f [] h = tt
  found-sites P f (g ∷ gs) h = pick (same_name f g.name) (every_left P (sentence_sites g.sentences) (function_sites gs) h) (found-sites P f gs (every_right P (sentence_sites g.sentences) (function_sites gs) h))
    where
      pick : (t : Bool) → Every P (sentence_sites g.sentences) → Opt (λ (b : Sentences). Every P (sentence_sites b)) (sentences_of f gs) → Opt (λ (b : Sentences). Every P (sentence_sites b)) (cond t (some g.sentences) (sentences_of f gs))
      pick true a b = a
      pick false a b = b

  placed_sites : (P : Site → Type 0) (fs : List Function) (i : ℕ) → Every P (function_sites fs) → Opt (λ (g : Function). Every P (sentence_sites g.sentences)) (get_elem? fs i)
  unfolding function_sites
  placed_sites P [] i h = tt
  placed_sites P (g ∷ gs) zero h = every_left P (sentence_sites g.sentences) (function_sites gs) h
  placed_sites P (g ∷ gs) (suc i) h = placed_sites P gs i (every_right P (sentence_sites g.sentences) (function_sites gs) h)

  entry-same : (e : Event) (k m : Load → Watched Expression) (s : Load) → ((s : Load) → k s ≡ m s) → entry watch e k s ≡ entry watch e m s
  entry-same e k m s h = ap (λ (z : Load → Watched Expression). entry watch e z s) (fun_ext h)

  module _ (p q : Program) (cleaned : Cleaned p q) where
    -- At every depth the two programs do the same at every call site of the cleaned one.
    agree_to : (d : ℕ) → Every (Agree Free (enter_to watch d p) (enter_to watch d q)) (program_sites q)
    unfolding enter_to program_sites
    agree_to zero x m v s _ h = refl
    agree_to (suc d) x m v s _ h =
        let ih : Every (Agree Free (enter_to watch d p) (enter_to watch d q)) (program_sites q) = agree_to d in
        entry-same (entered x.callee v) _ _ s (λ s₁.
        finds_body (enter_to watch d p) v (sentences_of x.callee p.functions) (sentences_of x.callee q.functions) s₁ (cleaned.finds x m v h)
        ∙ body_same (enter_to watch d p) (enter_to watch d q) (sentences_of x.callee q.functions) v s₁ (found-sites (Agree Free (enter_to watch d p) (enter_to watch d q)) x.callee q.functions ih))

    agree : Every (Agree Free (enter watch p) (enter watch q)) (program_sites q)
    unfolding enter
    agree x m v s _ h = agree_to s.calls x m v s tt h

    root-same : (o : Option Function) (v : Expression) (s : Load) → Opt (λ (g : Function). Every (Agree Free (enter watch p) (enter watch q)) (sentence_sites g.sentences)) o → enter_root watch p o v s ≡ enter_root watch q o v s
    unfolding enter_root
    root-same none v s h = refl
    root-same (some g) v s h = entry-same (entered g.name v) _ _ s (λ s₁. free-same (enter watch p) (enter watch q) g.sentences v s₁ h)

    -- For every input, answer list and call limit: the same events in the same order, and the same stop.
    pub cleaned_watched : (input : Expression) (answers : List Expression) (limit : ℕ) → watched_run watch q input answers limit ≡ watched_run watch p input answers limit
    unfolding watched_run root program_sites
    cleaned_watched input answers limit =
        let s : Load = record { calls = limit; answers = answers; events = []; weight = bytes_of input } in
        ap (watched_outcome watch) (sym (root-same (root q) input s (placed_sites (Agree Free (enter watch p) (enter watch q)) q.functions (root_place q) agree)))
        ∙ ap (λ (o : Option Function). watched_outcome watch (enter_root watch p o input s)) cleaned.same-root
