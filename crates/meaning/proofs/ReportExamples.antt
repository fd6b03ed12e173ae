-- Reports by computation: document 01's two, and one for each kind of line. tools/report_examples.py holds each to the Rust's, but for the last line where document 02 departs from it.
use Prim.Native.Nat.{ℕ, zero, suc}
use mathlib.Core.Path.{◌≡◌, refl}
use mathlib.Core.List.{[], ◌∷◌}
use Rattle.program.specs.Syntax.{character, Terms, nil, symbol, call, block, none, empty, local, entry, Program}
use Rattle.patterns.specs.Ascii.{ascii}
use Rattle.meaning.specs.Text.{Text}
use Rattle.meaning.specs.CleanReport.{clean_report}
use Rattle.patterns.proofs.Vocabulary.{no_span, char, s_var, t_var, e_var, br, apply, rule, define}
use Rattle.meaning.proofs.CleaningExamples.{worked, nothing}
use Rattle.meaning.specs.Report.{format_clean_report}
use Rattle.meaning.proofs.ReportComputing.{computing}

-- The report of a program.
abbrev reported : Program → Text
reported p = format_clean_report (clean_report p)

worked_report : reported worked
    ≡ ascii "functions: 2\nsentences: 3 -> 2\nrounds: 2\nremoved: 1\n  F {(e.Z)} rejected by <'A' e.X>\nundecided: 0\nuncovered: 0\ngraph: perfect\n"
unfolding computing
worked_report = refl

-- The last line departs from the Rust's, which is `graph: perfect`.
nothing-report : reported nothing ≡ ascii "functions: 0\nsentences: 0 -> 0\nrounds: 1\nremoved: 0\nundecided: 0\nuncovered: 0\ngraph: empty\n"
unfolding computing
nothing-report = refl

-- "declarations or not"
declared : Program
declared = record { declarations = record { span = no_span; names = ascii "F" ∷ [] } ∷ []; functions = [] }

declared_report : reported declared ≡ ascii "functions: 0\nsentences: 0 -> 0\nrounds: 1\nremoved: 0\nundecided: 0\nuncovered: 0\ngraph: empty\n"
unfolding computing declared
declared_report = refl

-- A function without sentences is something.
bare : Program
bare = record { declarations = []; functions = define local "Go" empty ∷ [] }

bare-report : reported bare ≡ ascii "functions: 1\nsentences: 0 -> 0\nrounds: 1\nremoved: 0\nundecided: 0\nuncovered: 0\ngraph: perfect\n"
unfolding computing bare
bare-report = refl

-- `F` is called with a call in its argument, `H` with what no sentence of it takes. The last line departs from the Rust's, which leaves the uncharacterised out.
lists : Program
lists = record {
  declarations = [];
  functions =
      define entry "Go" (rule (e_var "X" nil) none (apply "F" (apply "G" (e_var "X" nil) nil) (apply "g" (char 65 (br (e_var "X" nil) nil)) (apply "H" (char 66 nil) nil))) empty)
      ∷ define local "F" (rule (char 65 nil) none nil (rule (char 66 nil) none nil empty))
      ∷ define local "G" (rule (s_var "Y" (t_var "Z" nil)) none nil (rule (char 66 nil) none nil (rule (e_var "X" nil) none nil empty)))
      ∷ define local "H" (rule (char 65 nil) none nil empty)
      ∷ [];
}

lists_report : reported lists
    ≡ ascii "functions: 4\nsentences: 7 -> 7\nrounds: 1\nremoved: 0\nundecided: 1\n  H {'A'}\nuncovered: 1\n  H <- 'B'\nuncharacterised: F\ngraph: clean (undecided 1, uncovered 1, uncharacterised 1)\n"
unfolding computing lists
lists_report = refl

-- Two functions that a call in an argument leaves untested, and nothing else to list: the Rust calls it perfect.
untested : Program
untested = record {
  declarations = [];
  functions =
      define local "Go" (rule nil none (apply "F" (apply "G" nil nil) (apply "H" (apply "G" nil nil) (apply "f" (apply "G" nil nil) nil))) empty)
      ∷ define local "F" (rule nil none nil empty)
      ∷ define local "G" (rule nil none nil empty)
      ∷ define local "H" (rule nil none nil empty)
      ∷ [];
}

untested_report : reported untested
    ≡ ascii "functions: 4\nsentences: 4 -> 4\nrounds: 1\nremoved: 0\nundecided: 0\nuncovered: 0\nuncharacterised: F, H\ngraph: clean (undecided 0, uncovered 0, uncharacterised 2)\n"
unfolding computing untested
untested_report = refl

-- "Any `Mu` or `Up` call: same bytes out, rounds 0, verdict unknown."
dynamic : Program
dynamic = record {
  declarations = [];
  functions =
      define local "Go" (rule (e_var "X" nil) none (apply "mU" (e_var "X" nil) (apply "F" (char 65 nil) nil)) empty)
      ∷ define local "F" (rule (char 65 nil) none nil (rule (char 66 nil) none nil empty))
      ∷ [];
}

dynamic-report : reported dynamic
    ≡ ascii "functions: 2\nsentences: 3 -> 3\nrounds: 0\nremoved: 0\nundecided: 0\nuncovered: 0\ndynamic-dispatch: yes (nothing cleaned)\ngraph: unknown\n"
unfolding computing dynamic
dynamic-report = refl

-- The same in a sentence of a block.
dynamic_block : Program
dynamic_block = record {
  declarations = [];
  functions =
      define local "Go" (rule (e_var "X" nil) none (block no_span (e_var "X" nil) (rule (e_var "Y" nil) none (apply "UP" (e_var "Y" nil) nil) empty) (apply "F" (char 65 nil) nil)) empty)
      ∷ define local "F" (rule (char 65 nil) none nil (rule (char 66 nil) none nil empty))
      ∷ [];
}

dynamic_block_report : reported dynamic_block
    ≡ ascii "functions: 2\nsentences: 3 -> 3\nrounds: 0\nremoved: 0\nundecided: 0\nuncovered: 0\ndynamic-dispatch: yes (nothing cleaned)\ngraph: unknown\n"
unfolding computing dynamic_block
dynamic_block_report = refl

-- The site `<G 'X'>` goes with its sentence, and then `G`'s first sentence.
cascade : Program
cascade = record {
  declarations = [];
  functions =
      define local "Go" (rule nil none (apply "F" (char 65 nil) (apply "G" (char 89 nil) nil)) empty)
      ∷ define local "F" (rule (char 65 nil) none nil (rule (char 66 nil) none (apply "G" (char 88 nil) nil) empty))
      ∷ define local "G" (rule (char 88 nil) none nil (rule (char 89 nil) none nil empty))
      ∷ [];
}

cascade_report : reported cascade
    ≡ ascii "functions: 3\nsentences: 5 -> 3\nrounds: 3\nremoved: 2\n  F {'B'} rejected by <'A'>\n  G {'X'} rejected by <'Y'>\nundecided: 0\nuncovered: 0\ngraph: perfect\n"
unfolding computing cascade
cascade_report = refl

-- "`<F 'A'>` twice, at different spans, has two restrictions"; the call's own span does not count.
spanned : Program
spanned = record {
  declarations = [];
  functions =
      define local "Go"
      (rule nil none
      (call no_span (ascii "F") (symbol (record { start = 1; end = 2 }) (character 65) nil)
      (call no_span (ascii "F") (symbol (record { start = 3; end = 4 }) (character 65) nil)
      (call (record { start = 7; end = 9 }) (ascii "F") (symbol (record { start = 3; end = 4 }) (character 65) nil) nil))) empty)
      ∷ define local "F" (rule (char 65 nil) none nil (rule (char 66 nil) none nil empty))
      ∷ [];
}

spanned-report : reported spanned
    ≡ ascii "functions: 2\nsentences: 3 -> 2\nrounds: 2\nremoved: 1\n  F {'B'} rejected by <'A'> <'A'>\nundecided: 0\nuncovered: 0\ngraph: perfect\n"
unfolding computing spanned
spanned-report = refl

-- "A function whose sentences are all rejected keeps all of them; those are listed undecided and the restrictions uncovered." Neighbouring repeats go.
emptied : Program
emptied = record {
  declarations = [];
  functions =
      define local "Go" (rule nil none (apply "F" (char 65 nil) nil) empty)
      ∷ define local "F" (rule (char 66 nil) none nil (rule (char 67 nil) none nil (rule (char 67 nil) none nil empty)))
      ∷ [];
}

emptied_report : reported emptied
    ≡ ascii "functions: 2\nsentences: 4 -> 4\nrounds: 1\nremoved: 0\nundecided: 2\n  F {'B'}\n  F {'C'}\nuncovered: 1\n  F <- 'A'\ngraph: clean (undecided 2, uncovered 1)\n"
unfolding computing emptied
emptied_report = refl

-- An empty restriction, "also where there is none", that is, no sentence.
uncalled : Program
uncalled = record { declarations = []; functions = define local "Go" (rule nil none (apply "G" nil nil) empty) ∷ define local "G" empty ∷ [] }

uncalled_report : reported uncalled ≡ ascii "functions: 2\nsentences: 1 -> 1\nrounds: 1\nremoved: 0\nundecided: 0\nuncovered: 1\n  G <- \ngraph: clean (undecided 0, uncovered 1)\n"
unfolding computing uncalled
uncalled_report = refl

-- `<F s.X s.x>` and `<f s.Y s.Y>` are one restriction: names are numbered without regard to case.
numbered : Program
numbered = record {
  declarations = [];
  functions =
      define local "Go" (rule (s_var "X" (s_var "Y" nil)) none (apply "F" (s_var "X" (s_var "x" nil)) (apply "f" (s_var "Y" (s_var "Y" nil)) (apply "F" (s_var "X" (s_var "Y" nil)) nil))) empty)
      ∷ define local "F" (rule (s_var "A" (s_var "B" nil)) none nil (rule (char 67 nil) none nil empty))
      ∷ [];
}

numbered-report : reported numbered
    ≡ ascii "functions: 2\nsentences: 3 -> 2\nrounds: 2\nremoved: 1\n  F {'C'} rejected by <s.X s.x> <s.X s.Y>\nundecided: 0\nuncovered: 0\ngraph: perfect\n"
unfolding computing numbered
numbered-report = refl

-- With 27 characters the verdict is Unknown: the sentence stays, and is undecided.
letters : ℕ → Terms
letters zero = nil
letters (suc n) = char 65 (letters n)

exhausted : Program
exhausted = record {
  declarations = [];
  functions = define local "Go" (rule nil none (apply "F" (letters 27) nil) empty) ∷ define local "F" (rule (e_var "1" (e_var "2" (e_var "3" (char 66 nil)))) none nil (rule (e_var "X" nil) none nil empty)) ∷ [];
}

exhausted_report : reported exhausted
    ≡ ascii "functions: 2\nsentences: 3 -> 3\nrounds: 1\nremoved: 0\nundecided: 1\n  F {e.1 e.2 e.3 'B'}\nuncovered: 0\ngraph: clean (undecided 1, uncovered 0)\n"
unfolding computing letters exhausted
exhausted_report = refl
