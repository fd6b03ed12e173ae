-- Cases 1 to 11, computed: a test that the checker computes is turned into the table's equations.
use Prim.Native.Nat.{◌-◌}
use mathlib.Core.Path.{◌≡◌, refl}
use mathlib.Core.Bool.{Bool, true, ◌&&◌, and-eq-true_iff}
use mathlib.Core.List.{List, [], ◌∷◌}
use lib.Dec.{eqb}
use borrow.Author.Tests.{eqb-true}
use Rattle.patterns.specs.Ascii.{ascii}
use Rattle.patterns.specs.Names.{lower, caseless, eq_bytes}
use Rattle.patterns.specs.Symbols.{significant, key, eq_symbol, same_symbol}
use Rattle.patterns.specs.declared.Found.{Found}
use Rattle.patterns.specs.Search.{view, leftover_overlap, ends, splits_from, absorbing_split, literal_overlap, start, overlap_of_terms, entered, enter, size, search_to, sequence, patterns_overlap, spent}
use Rattle.patterns.specs.Table.{nowhere, char, ident, digits, var, empty-bracket, three_then_b, before_a, Case, table, longer, nested, Holds}
use Rattle.patterns.proofs.Verdicts.{eq_verdict, eq_verdict_true}

abbrev right : Found → Case → Bool
right q k = eq_verdict q.verdict k.verdict && eqb (start - q.fuel) k.entries

all_right : List Case → Bool
all_right [] = true
all_right (k ∷ ks) = right (sequence start k.first k.second) k && all_right ks

hold : (ks : List Case) → all_right ks ≡ true → Holds ks
unfolding all_right patterns_overlap spent
hold [] e = tt
hold (k ∷ ks) e =
    let q = sequence start k.first k.second in
    let h = (and-eq-true_iff (right q k) (all_right ks)).0 e in
    let r = (and-eq-true_iff (eq_verdict q.verdict k.verdict) (eqb (start - q.fuel) k.entries)).0 h.0 in
    (eq_verdict_true q.verdict k.verdict r.0, eqb-true (start - q.fuel) k.entries r.1, hold ks h.1)

-- One computation for all.
all_computed : (all_right table && (all_right longer && all_right nested)) ≡ true
unfolding all_right table longer nested nowhere char ident digits var empty-bracket three_then_b before_a ascii sequence search_to size enter entered view absorbing_split splits_from ends leftover_overlap overlap_of_terms literal_overlap same_symbol key significant eq_symbol eq_bytes caseless lower
all_computed = refl

pub cases : Holds table
cases = hold table ((and-eq-true_iff (all_right table) (all_right longer && all_right nested)).0 all_computed).0

longer_and_nested : (all_right longer ≡ true) × (all_right nested ≡ true)
longer_and_nested =
    (and-eq-true_iff (all_right longer) (all_right nested)).0 ((and-eq-true_iff (all_right table) (all_right longer && all_right nested)).0 all_computed).1

pub longer_cases : Holds longer
longer_cases = hold longer longer_and_nested.0

pub nested_cases : Holds nested
nested_cases = hold nested longer_and_nested.1
