-- Runs of small programs, by computation: each of the six endings, and what document 01 says of conditions, blocks, names and answers.
use Prim.Native.Nat.{ℕ}
use Prim.Native.String.{String}
use mathlib.Core.Path.{◌≡◌, refl}
use mathlib.Core.List.{[], ◌∷◌}
use Rattle.program.specs.Syntax.{Span, character, identifier, s_kind, e_kind, nil, symbol, variable, bracket, call, block, none, condition, empty, sentence, local, entry, Program}
use Rattle.patterns.specs.Expression.{Expression, void, atom, group}
use Rattle.patterns.specs.Ascii.{ascii}
use Rattle.patterns.proofs.Vocabulary.{char, s_var, e_var, br, apply, within, when, rule, define}
use Rattle.meaning.proofs.CleaningExamples.{worked, nothing}
use Rattle.meaning.specs.Run.{entered, chosen, value, no_root, no_answer_left, nothing_fitting, variable_unbound, call_limit, run}
use Rattle.meaning.proofs.RunComputing.{computing}

-- A span.
abbrev here : Span
here = record { start = 3; end = 5 }

-- Expressions: a character, an identifier.
abbrev letter : ℕ → Expression → Expression
letter c v = atom (character c) v

abbrev name : String → Expression → Expression
name n v = atom (identifier (ascii n)) v

-- ---- document 01's worked program, with limits 0, 1 and 2

limit_0 : run worked (letter 120 void) [] 0 ≡ record { events = []; ending = call_limit }
unfolding computing
limit_0 = refl

limit_1 : run worked (letter 120 void) [] 1
    ≡ record {
      events = entered (ascii "Go") (letter 120 void) ∷ chosen (e_var "X" nil) none (apply "F" (char 65 (e_var "X" nil)) nil) ∷ [];
      ending = call_limit;
    }
unfolding computing
limit_1 = refl

limit_2 : run worked (letter 120 void) [] 2
    ≡ record {
      events =
          entered (ascii "Go") (letter 120 void)
          ∷ chosen (e_var "X" nil) none (apply "F" (char 65 (e_var "X" nil)) nil)
          ∷ entered (ascii "F") (letter 65 (letter 120 void))
          ∷ chosen (char 65 (e_var "Y" nil)) none (e_var "Y" nil)
          ∷ [];
      ending = value (letter 120 void);
    }
unfolding computing
limit_2 = refl

-- "without functions it ends, no root", also at limit 0.
no-root : run nothing (letter 120 void) [] 0 ≡ record { events = []; ending = no_root }
unfolding computing
no-root = refl

-- ---- conditions

-- `Go { e.X, <Q e.X> : 'A' = 'Y'; e.X = <Q>; }`: the condition fails, but its call was entered and its answer is gone.
fails : Program
fails = record {
  declarations = [];
  functions = define local "Go" (rule (e_var "X" nil) (when (apply "Q" (e_var "X" nil) nil) (char 65 nil) none) (char 89 nil) (rule (e_var "X" nil) none (apply "Q" nil nil) empty)) ∷ [];
}

condition-fails : run fails (letter 120 void) (letter 66 void ∷ letter 67 void ∷ []) 9
    ≡ record {
      events =
          entered (ascii "Go") (letter 120 void)
          ∷ entered (ascii "Q") (letter 120 void)
          ∷ chosen (e_var "X" nil) none (apply "Q" nil nil)
          ∷ entered (ascii "Q") void
          ∷ [];
      ending = value (letter 67 void);
    }
unfolding computing fails
condition-fails = refl

-- `Go { e.X, e.X : e.A 'B' e.C, <Q e.A> : 'K' = (e.A) e.C; }`: the second condition fails, and the first one's next match is tried.
second : Program
second = record {
  declarations = [];
  functions =
      define local "Go"
      (rule (e_var "X" nil) (when (e_var "X" nil) (e_var "A" (char 66 (e_var "C" nil))) (when (apply "Q" (e_var "A" nil) nil) (char 75 nil) none)) (br (e_var "A" nil) (e_var "C" nil)) empty)
      ∷ [];
}

second_match : run second (letter 65 (letter 66 (letter 67 (letter 66 void)))) (letter 78 void ∷ letter 75 void ∷ []) 9
    ≡ record {
      events =
          entered (ascii "Go") (letter 65 (letter 66 (letter 67 (letter 66 void))))
          ∷ entered (ascii "Q") (letter 65 void)
          ∷ entered (ascii "Q") (letter 65 (letter 66 (letter 67 void)))
          ∷ chosen (e_var "X" nil) (when (e_var "X" nil) (e_var "A" (char 66 (e_var "C" nil))) (when (apply "Q" (e_var "A" nil) nil) (char 75 nil) none)) (br (e_var "A" nil) (e_var "C" nil))
          ∷ [];
      ending = value (group (letter 65 (letter 66 (letter 67 void))) void);
    }
unfolding computing second
second_match = refl

-- ---- blocks

-- `Go { s.X e.Y = B e.Y; }` with the block B of argument `e.Y` and sentences `s.X 'C' = 'N'; s.x e.Z = s.X (e.Z);`: the block sees the `s.X` around it.
around : Program
around = record {
  declarations = [];
  functions =
      define local "Go"
      (rule (s_var "X" (e_var "Y" nil)) none
      (within (e_var "Y" nil) (rule (s_var "X" (char 67 nil)) none (char 78 nil) (rule (s_var "x" (e_var "Z" nil)) none (s_var "X" (br (e_var "Z" nil) nil)) empty)) (e_var "Y" nil)) empty)
      ∷ [];
}

block_around : run around (letter 65 (letter 65 (letter 66 void))) [] 9
    ≡ record {
      events =
          entered (ascii "Go") (letter 65 (letter 65 (letter 66 void)))
          ∷ chosen (s_var "X" (e_var "Y" nil)) none
          (within (e_var "Y" nil) (rule (s_var "X" (char 67 nil)) none (char 78 nil) (rule (s_var "x" (e_var "Z" nil)) none (s_var "X" (br (e_var "Z" nil) nil)) empty)) (e_var "Y" nil))
          ∷ chosen (s_var "x" (e_var "Z" nil)) none (s_var "X" (br (e_var "Z" nil) nil))
          ∷ [];
      ending = value (letter 65 (group (letter 66 void) (letter 65 (letter 66 void))));
    }
unfolding computing around
block_around = refl

-- With another symbol nothing fits in the block, and the run ends.
block-fails : run around (letter 65 (letter 66 void)) [] 9
    ≡ record {
      events =
          entered (ascii "Go") (letter 65 (letter 66 void))
          ∷ chosen (s_var "X" (e_var "Y" nil)) none
          (within (e_var "Y" nil) (rule (s_var "X" (char 67 nil)) none (char 78 nil) (rule (s_var "x" (e_var "Z" nil)) none (s_var "X" (br (e_var "Z" nil) nil)) empty)) (e_var "Y" nil))
          ∷ [];
      ending = nothing_fitting;
    }
unfolding computing around
block-fails = refl

-- ---- variables

-- `Go { s.A s.a = s.A; }`: "where it repeats it keeps the value first bound, as spelled there".
repeated : Program
repeated = record { declarations = []; functions = define local "Go" (rule (s_var "A" (s_var "a" nil)) none (s_var "A" nil) empty) ∷ [] }

repeated_variable : run repeated (name "aB" (name "Ab" void)) [] 9
    ≡ record {
      events = entered (ascii "Go") (name "aB" (name "Ab" void)) ∷ chosen (s_var "A" (s_var "a" nil)) none (s_var "A" nil) ∷ [];
      ending = value (name "aB" void);
    }
unfolding computing repeated
repeated_variable = refl

-- `Go { (e.A e.B) e.B e.C = (e.A) e.C; }`: the leftmost `e.` is the shortest, through brackets.
shortest : Program
shortest = record { declarations = []; functions = define local "Go" (rule (br (e_var "A" (e_var "B" nil)) (e_var "B" (e_var "C" nil))) none (br (e_var "A" nil) (e_var "C" nil)) empty) ∷ [] }

shortest_first : run shortest (group (letter 65 (letter 66 void)) (letter 66 (letter 67 void))) [] 9
    ≡ record {
      events =
          entered (ascii "Go") (group (letter 65 (letter 66 void)) (letter 66 (letter 67 void)))
          ∷ chosen (br (e_var "A" (e_var "B" nil)) (e_var "B" (e_var "C" nil))) none (br (e_var "A" nil) (e_var "C" nil))
          ∷ [];
      ending = value (group (letter 65 void) (letter 67 void));
    }
unfolding computing shortest
shortest_first = refl

-- `Go { = <Q> e.U <R>; }`: `<Q>` is entered, `e.U` is unbound, `<R>` is never entered.
unbound : Program
unbound = record { declarations = []; functions = define local "Go" (rule nil none (apply "Q" nil (e_var "U" (apply "R" nil nil))) empty) ∷ [] }

unbound_after_call : run unbound void (letter 65 void ∷ letter 66 void ∷ []) 9
    ≡ record {
      events = entered (ascii "Go") void ∷ chosen nil none (apply "Q" nil (e_var "U" (apply "R" nil nil))) ∷ entered (ascii "Q") void ∷ [];
      ending = variable_unbound;
    }
unfolding computing unbound
unbound_after_call = refl

-- ---- events

-- A condition and a block with spans: the events have none.
placed : Program
placed = record {
  declarations = [];
  functions = define local "Go"
      (sentence (record { span = here }) (symbol here (character 65) nil) (condition here (symbol here (character 66) nil) (variable here e_kind (ascii "X") nil) none)
      (block here (variable here e_kind (ascii "X") nil) (sentence (record { span = here }) (bracket here nil nil) none nil (sentence (record { span = here }) (variable here s_kind (ascii "Y") nil) none (call here (ascii "Q") nil nil) empty)) nil) empty) ∷ [];
}

no_spans : run placed (letter 65 void) (void ∷ []) 9
    ≡ record {
      events =
          entered (ascii "Go") (letter 65 void)
          ∷ chosen (char 65 nil) (when (char 66 nil) (e_var "X" nil) none)
          (within (e_var "X" nil) (rule (br nil nil) none nil (rule (s_var "Y" nil) none (apply "Q" nil nil) empty)) nil)
          ∷ chosen (s_var "Y" nil) none (apply "Q" nil nil)
          ∷ entered (ascii "Q") void
          ∷ [];
      ending = value void;
    }
unfolding computing placed
no_spans = refl

-- ---- names and answers

-- `Go { 'A' e.X = <gO e.X>; = 'Z'; }`: the root called by name, as spelled in the call.
again : Program
again = record { declarations = []; functions = define local "Go" (rule (char 65 (e_var "X" nil)) none (apply "gO" (e_var "X" nil) nil) (rule nil none (char 90 nil) empty)) ∷ [] }

root_by_name : run again (letter 65 void) [] 9
    ≡ record {
      events =
          entered (ascii "Go") (letter 65 void)
          ∷ chosen (char 65 (e_var "X" nil)) none (apply "gO" (e_var "X" nil) nil)
          ∷ entered (ascii "gO") void
          ∷ chosen nil none (char 90 nil)
          ∷ [];
      ending = value (letter 90 void);
    }
unfolding computing again
root_by_name = refl

-- A Local `go { 'A' = 'F'; }` before an Entry `Go { e.X = <Go e.X>; }`: the root is the second by place, and the first by name.
namesakes : Program
namesakes = record {
  declarations = [];
  functions = define local "go" (rule (char 65 nil) none (char 70 nil) empty) ∷ define entry "Go" (rule (e_var "X" nil) none (apply "Go" (e_var "X" nil) nil) empty) ∷ [];
}

two_of_one_name : run namesakes (letter 65 void) [] 9
    ≡ record {
      events =
          entered (ascii "Go") (letter 65 void)
          ∷ chosen (e_var "X" nil) none (apply "Go" (e_var "X" nil) nil)
          ∷ entered (ascii "Go") (letter 65 void)
          ∷ chosen (char 65 nil) none (char 70 nil)
          ∷ [];
      ending = value (letter 70 void);
    }
unfolding computing namesakes
two_of_one_name = refl

-- A first function of the name without sentences is the one taken.
bare : Program
bare = record { declarations = []; functions = define local "Go" (rule nil none (apply "F" nil nil) empty) ∷ define local "F" empty ∷ define local "f" (rule nil none nil empty) ∷ [] }

first_has_none : run bare void (letter 65 void ∷ []) 9 ≡ record { events = entered (ascii "Go") void ∷ chosen nil none (apply "F" nil nil) ∷ entered (ascii "F") void ∷ []; ending = nothing_fitting }
unfolding computing bare
first_has_none = refl

-- `Go { = <Q> <Q>; }` with one answer: the second call is entered all the same; at limit 2 the limit comes first.
asking : Program
asking = record { declarations = []; functions = define local "Go" (rule nil none (apply "Q" nil (apply "Q" nil nil)) empty) ∷ [] }

answers_run_out : run asking void (letter 65 void ∷ []) 9
    ≡ record { events = entered (ascii "Go") void ∷ chosen nil none (apply "Q" nil (apply "Q" nil nil)) ∷ entered (ascii "Q") void ∷ entered (ascii "Q") void ∷ []; ending = no_answer_left }
unfolding computing asking
answers_run_out = refl

limit-first : run asking void (letter 65 void ∷ []) 2 ≡ record { events = entered (ascii "Go") void ∷ chosen nil none (apply "Q" nil (apply "Q" nil nil)) ∷ entered (ascii "Q") void ∷ []; ending = call_limit }
unfolding computing asking
limit-first = refl
