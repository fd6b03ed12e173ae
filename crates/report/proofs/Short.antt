-- How long a report is at most: its length fits 40 bits.
use Prim.Native.Nat.{ℕ, suc, ◌+◌, ◌*◌, ◌≤◌, ◌<◌}
use native.Mathlib.Omega.{arith}
use native.Mathlib.Nat.{mul-le-mul}
use mathlib.Core.Path.{◌≡◌, refl, sym, ◌∙◌}
use mathlib.Core.Bool.{Bool, true, false, not, cond}
use mathlib.Core.List.{List, [], ◌∷◌, ◌++◌, flatten, flat_map}
use borrow.Author.Tests.{leb-true, leb-false}
use lib.Dec.{eqb, leb}
use lib.ListN.{length, length-append}
use Rattle.program.specs.Syntax.{Program}
use Rattle.program.specs.Encode.{own_sentence_count}
use Rattle.patterns.specs.Ascii.{ascii}
use Rattle.program.proofs.Own.{own-counted}
use Rattle.index.specs.declared.Plan.{Plan}
use Rattle.meaning.specs.Root.{root_place}
use Rattle.meaning.specs.Text.{Text}
use Rattle.meaning.specs.CleanReport.{CleanReport, same_undecided, same_uncovered}
use Rattle.told.specs.History.{is_there}
use Rattle.told.specs.Numbered.{sites_of}
use Rattle.told.specs.ToldReport.{undecided_told, uncovered_told, told_report, unchanged_report}
use Rattle.meaning.specs.Decimal.{decimal}
use Rattle.meaning.specs.Report.{removed_line, undecided_line, uncovered_line, graph_line, uncharacterised_line, dispatch_line, last_lines, format_clean_report}
use Rattle.meaning.proofs.Decimal.{decimal-length}
use Rattle.report.specs.Emitting.{Readable}
use Rattle.told.proofs.AtMost.{runs_among, most_among, flatten_length, lines-length}
use Rattle.told.proofs.Fallen.{start-count}
use Rattle.report.proofs.Fits.{functions_fit, sites_fit, removed_most, undecided_most, uncovered_most, uncharacterised_most, uncharacterised_line_lem}

-- The numbers of a report have at most 17 digits.
record Small (r : CleanReport) : Type 0 where
  pub functions : r.functions < 100000000000000000
  pub before : r.sentences_before < 100000000000000000
  pub after : r.sentences_after < 100000000000000000
  pub rounds : r.rounds < 100000000000000000
  pub removed : length r.removed < 100000000000000000
  pub undecided : length r.undecided < 100000000000000000
  pub uncovered : length r.uncovered < 100000000000000000
  pub uncharacterised : length r.uncharacterised < 100000000000000000

-- Whichever verdict it is, it is no longer than the longest.
chosen-length : (t f w n : Bool) (a b c d e : Text) → length a ≤ 107 → length b ≤ 107 → length c ≤ 107 → length d ≤ 107 → length e ≤ 107 → length (cond t a (cond f b (cond (not w) c (cond n d e)))) ≤ 107
chosen-length true f w n a b c d e g h i j k = g
chosen-length false true w n a b c d e g h i j k = h
chosen-length false false false n a b c d e g h i j k = i
chosen-length false false true true a b c d e g h i j k = j
chosen-length false false true false a b c d e g h i j k = k

graph_length : (r : CleanReport) → Small r → length (graph_line r) ≤ 107
unfolding graph_line ascii
graph_length r h =
    let u = length r.undecided in
    let v = length r.uncovered in
    let w = length r.uncharacterised in
    let clean = ascii "graph: clean (undecided " ∷ decimal u ∷ ascii ", uncovered " ∷ decimal v ∷ ascii ")\n" ∷ [] in
    let untested = ascii "graph: clean (undecided " ∷ decimal u ∷ ascii ", uncovered " ∷ decimal v ∷ ascii ", uncharacterised " ∷ decimal w ∷ ascii ")\n" ∷ [] in
    chosen-length r.dynamic_dispatch (eqb r.functions 0) (eqb w 0) (eqb (u + v) 0) (ascii "graph: unknown\n") (ascii "graph: empty\n") (flatten untested) (ascii "graph: perfect\n") (flatten clean) (omega arith) (omega arith)
    (omega (arith, flatten_length untested, decimal-length 16 u h.undecided, decimal-length 16 v h.uncovered, decimal-length 16 w h.uncharacterised)) (omega arith) (omega (arith, flatten_length clean, decimal-length 16 u h.undecided, decimal-length 16 v h.uncovered))

dispatch_length : (t : Bool) → length (dispatch_line t) ≤ 40
unfolding dispatch_line ascii
dispatch_length true = omega arith
dispatch_length false = omega arith

-- Beside its lists a report has few bytes.
report-length : (r : CleanReport) → Small r
    → length (format_clean_report r) ≤ 400 + (length (flat_map removed_line r.removed) + (length (flat_map undecided_line r.undecided) + (length (flat_map uncovered_line r.uncovered) + length (uncharacterised_line r.uncharacterised))))
unfolding format_clean_report last_lines ascii
report-length r h =
    let g = graph_line r in
    omega (
      arith,
      flatten_length (ascii "functions: " ∷ decimal r.functions
          ∷ ascii "\nsentences: " ∷ decimal r.sentences_before ∷ ascii " -> " ∷ decimal r.sentences_after
          ∷ ascii "\nrounds: " ∷ decimal r.rounds
          ∷ ascii "\nremoved: " ∷ decimal (length r.removed) ∷ ascii "\n" ∷ flat_map removed_line r.removed
          ∷ ascii "undecided: " ∷ decimal (length r.undecided) ∷ ascii "\n" ∷ flat_map undecided_line r.undecided
          ∷ ascii "uncovered: " ∷ decimal (length r.uncovered) ∷ ascii "\n" ∷ flat_map uncovered_line r.uncovered
          ∷ last_lines r ∷ []),
      length-append (uncharacterised_line r.uncharacterised) (dispatch_line r.dynamic_dispatch ++ g),
      length-append (dispatch_line r.dynamic_dispatch) g,
      dispatch_length r.dynamic_dispatch,
      graph_length r h,
      decimal-length 16 r.functions h.functions,
      decimal-length 16 r.sentences_before h.before,
      decimal-length 16 r.sentences_after h.after,
      decimal-length 16 r.rounds h.rounds,
      decimal-length 16 (length r.removed) h.removed,
      decimal-length 16 (length r.undecided) h.undecided,
      decimal-length 16 (length r.uncovered) h.uncovered,
    )

-- Of two numbers one is no more than half of both.
product_small : (a b : ℕ) → a + b ≤ 4096 → a * b ≤ 8388608
product_small a b h = by (leb a 2048) refl
  where
    by : (t : Bool) → leb a 2048 ≡ t → a * b ≤ 8388608
    by true e = let l : b ≤ 4096 = omega arith in omega (arith, mul-le-mul (leb-true a 2048 e) l)
    by false e =
        let l : a ≤ 4096 = omega arith in
        let k : b ≤ 2048 = omega (arith, leb-false a 2048 e) in
        omega (arith, mul-le-mul l k)

pub unchanged_short : (w : Program) → length w.functions < 100000000000000000 → own_sentence_count w.functions < 100000000000000000 → length (format_clean_report (unchanged_report w)) < 1099511627776
unfolding unchanged_report flat_map uncharacterised_line
unchanged_short w f s =
    omega (arith, report-length (unchanged_report w) (record { functions = f; before = s; after = s; rounds = omega arith; removed = omega arith; undecided = omega arith; uncovered = omega arith; uncharacterised = omega arith }))

pub report-short : {b : List ℕ} {w : Program} {m : List ℕ} {p : Plan} → Readable b w m p → (fell : ℕ → ℕ) (n : ℕ) → n < 4096 → length (format_clean_report (told_report w fell n)) < 1099511627776
unfolding told_report
report-short {b} {w} {m} {p} d fell n h =
    let e = functions_fit d in
    let s = sites_fit d in
    let keep = is_there fell (suc n) in
    let r = told_report w fell n in
    let x = removed_most fell w n e s in
    let y = most_among (runs_among same_undecided (undecided_told keep (sites_of w) 0 w.functions) []) (undecided_most keep (sites_of w) 0 w.functions e) in
    let z = most_among (runs_among same_uncovered (uncovered_told keep (sites_of w) 0 w.functions) []) (uncovered_most keep (sites_of w) s 0 w.functions e) in
    let o = uncharacterised_most (root_place w) (sites_of w) w.functions e in
    let functions : length w.functions ≡ p.functions = d.indexed.functions in
    let sentences : own_sentence_count w.functions ≡ p.sentences = sym (own-counted w.functions) ∙ d.indexed.sentences in
    let few : p.functions + (p.sentences + p.sites) ≤ 4096 = omega (arith, d.indexed.fits, d.indexed.small) in
    let fn = product_small (length w.functions) p.sites (omega (arith, functions, few)) in
    let sn = product_small (own_sentence_count w.functions) p.sites (omega (arith, sentences, few)) in
    let small : Small r = record {
      functions = omega (arith, functions, few);
      before = omega (arith, sentences, few);
      after = omega (arith, start-count w fell (suc n), sentences, few);
      rounds = omega (arith, h);
      removed = omega (arith, x.few, sentences, few);
      undecided = omega (arith, y.few, sentences, few);
      uncovered = omega (arith, z.few, fn);
      uncharacterised = omega (arith, o.few, functions, few);
    } in
    omega (arith, report-length r small, lines-length removed_line (65555 + p.sites * 32771) r.removed x, lines-length undecided_line 65542 r.undecided y, lines-length uncovered_line 65543 r.uncovered z, uncharacterised_line_lem r.uncharacterised o, fn, sn, functions, sentences, few)
