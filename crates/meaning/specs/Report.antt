-- The text of a report: the Rust's `format_clean_report`. "Lines give functions, own sentences before and after, rounds, each list's count and entries, the verdict."
use Rattle.std.specs.Prelude.{◌+◌, Bool, true, false, not, cond, eqb, length}
use mathlib.Core.List.{List, [], ◌∷◌, ◌++◌, map, flat_map, flatten}
use Rattle.program.specs.Syntax.{Name}
use Rattle.patterns.specs.Ascii.{ascii}
use Rattle.meaning.specs.Text.{Text}
use Rattle.meaning.specs.CleanReport.{RemovedSentence, UndecidedSentence, UncoveredRestriction, CleanReport}
use Rattle.meaning.specs.Decimal.{decimal}

-- The Rust's `join`.
unfoldable pub join : Text → List Text → Text
join between [] = []
join between (x ∷ []) = x
join between (x ∷ y ∷ l) = x ++ (between ++ join between (y ∷ l))

unfoldable pub angled : Text → Text
angled x = ascii "<" ++ (x ++ ascii ">")

unfoldable pub removed_line : RemovedSentence → Text
removed_line x = flatten (ascii "  " ∷ x.function ∷ ascii " {" ∷ x.pattern ∷ ascii "} rejected by " ∷ join (ascii " ") (map angled x.restrictions) ∷ ascii "\n" ∷ [])

unfoldable pub undecided_line : UndecidedSentence → Text
undecided_line x = flatten (ascii "  " ∷ x.function ∷ ascii " {" ∷ x.pattern ∷ ascii "}\n" ∷ [])

unfoldable pub uncovered_line : UncoveredRestriction → Text
uncovered_line x = flatten (ascii "  " ∷ x.function ∷ ascii " <- " ∷ x.input ∷ ascii "\n" ∷ [])

-- The last line, "the verdict": the Rust's `perfection`, but for document 02's two clauses.
unfoldable pub graph_line : CleanReport → Text
graph_line r =
    -- "Any `Mu` or `Up` call: same bytes out, rounds 0, verdict unknown."
    cond r.dynamic_dispatch (ascii "graph: unknown\n")
    -- "an image with no functions": "It should end its report with `graph: empty`, declarations or not"
    (cond (eqb r.functions 0) (ascii "graph: empty\n")
    -- "If the list is not empty and there is no dynamic dispatch": "with the three counts"
    (cond (not (eqb (length r.uncharacterised) 0))
    (flatten (ascii "graph: clean (undecided " ∷ decimal (length r.undecided) ∷ ascii ", uncovered " ∷ decimal (length r.uncovered) ∷ ascii ", uncharacterised " ∷ decimal (length r.uncharacterised) ∷ ascii ")\n" ∷ []))
    -- "With an empty list the lines are unchanged": those of the Rust, perfect if nothing is undecided or uncovered
    (cond (eqb (length r.undecided + length r.uncovered) 0) (ascii "graph: perfect\n")
    (flatten (ascii "graph: clean (undecided " ∷ decimal (length r.undecided) ∷ ascii ", uncovered " ∷ decimal (length r.uncovered) ∷ ascii ")\n" ∷ [])))))

unfoldable pub uncharacterised_line : List Name → Text
uncharacterised_line [] = []
uncharacterised_line (f ∷ l) = flatten (ascii "uncharacterised: " ∷ join (ascii ", ") (f ∷ l) ∷ ascii "\n" ∷ [])

unfoldable pub dispatch_line : Bool → Text
dispatch_line true = ascii "dynamic-dispatch: yes (nothing cleaned)\n"
dispatch_line false = []

-- The lines after the lists: of names, a flag and counts.
unfoldable pub last_lines : CleanReport → Text
last_lines r =
    uncharacterised_line r.uncharacterised
    ++ (dispatch_line r.dynamic_dispatch ++ graph_line r)

unfoldable pub format_clean_report : CleanReport → Text
format_clean_report r =
    flatten (ascii "functions: " ∷ decimal r.functions
    ∷ ascii "\nsentences: " ∷ decimal r.sentences_before ∷ ascii " -> " ∷ decimal r.sentences_after
    ∷ ascii "\nrounds: " ∷ decimal r.rounds
    ∷ ascii "\nremoved: " ∷ decimal (length r.removed) ∷ ascii "\n" ∷ flat_map removed_line r.removed
    ∷ ascii "undecided: " ∷ decimal (length r.undecided) ∷ ascii "\n" ∷ flat_map undecided_line r.undecided
    ∷ ascii "uncovered: " ∷ decimal (length r.uncovered) ∷ ascii "\n" ∷ flat_map uncovered_line r.uncovered
    ∷ last_lines r ∷ [])
