-- The report's lines with numbers, in the pieces in which they are emitted.
use Rattle.std.specs.Prelude.{ℕ, ◌+◌, not, cond, ◌++◌, eqb}
use Rattle.patterns.specs.Ascii.{ascii}
use Rattle.meaning.specs.Text.{Text}
use Rattle.meaning.specs.Decimal.{decimal}

-- Above any number of a report, none of which has more than 17 digits.
abbrev pub most : ℕ
most = 100000000000000000

-- A number after its label.
unfoldable pub counted : Text → ℕ → Text
counted label n = label ++ decimal n

-- The same on a line of its own.
unfoldable pub count_line : Text → ℕ → Text
count_line label n = counted label n ++ ascii "\n"

-- "Lines give functions, own sentences before and after, rounds, each list's count": up to the first list.
unfoldable pub top_text : ℕ → ℕ → ℕ → ℕ → ℕ → Text
top_text functions before after rounds removed =
    counted (ascii "functions: ") functions
    ++ (counted (ascii "\nsentences: ") before ++ (counted (ascii " -> ") after ++ (counted (ascii "\nrounds: ") rounds ++ count_line (ascii "\nremoved: ") removed)))

-- "Any `Mu` or `Up` call: same bytes out, rounds 0, verdict unknown": all lines of such a program.
unfoldable pub unchanged_text : ℕ → ℕ → Text
unchanged_text functions sentences =
    top_text functions sentences sentences 0 0 ++ (count_line (ascii "undecided: ") 0 ++ (count_line (ascii "uncovered: ") 0 ++ ascii "dynamic-dispatch: yes (nothing cleaned)\ngraph: unknown\n"))

-- The verdict if undecided and uncovered have so many lines, not both none.
unfoldable pub clean_text : ℕ → ℕ → Text
clean_text undecided uncovered = counted (ascii "graph: clean (undecided ") undecided ++ (counted (ascii ", uncovered ") uncovered ++ ascii ")\n")

-- The same if so many functions are uncharacterised.
unfoldable pub untested_text : ℕ → ℕ → ℕ → Text
untested_text undecided uncovered uncharacterised = counted (ascii "graph: clean (undecided ") undecided ++ (counted (ascii ", uncovered ") uncovered ++ (counted (ascii ", uncharacterised ") uncharacterised ++ ascii ")\n"))

-- The verdict of a program that is cleaned, by its numbers.
unfoldable pub graph_text : ℕ → ℕ → ℕ → ℕ → Text
graph_text functions undecided uncovered uncharacterised =
    cond (eqb functions 0) (ascii "graph: empty\n")
    (cond (not (eqb uncharacterised 0)) (untested_text undecided uncovered uncharacterised)
    (cond (eqb (undecided + uncovered) 0) (ascii "graph: perfect\n")
    (clean_text undecided uncovered)))
