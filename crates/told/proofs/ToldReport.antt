-- The whole report, told by numbers.
use Prim.Native.Nat.{ℕ, zero, suc}
use mathlib.Core.Path.{◌≡◌, refl, ap, ◌∙◌}
use mathlib.Core.Bool.{Bool, true, false, cond}
use mathlib.Core.List.{List, [], flat_map}
use lib.ListN.{length}
use Rattle.program.specs.Syntax.{Program}
use Rattle.program.specs.Encode.{own_sentence_count}
use Rattle.meaning.specs.Lists.{firsts_after, firsts}
use Rattle.meaning.specs.Dispatch.{residual_dispatches_dynamically}
use Rattle.meaning.specs.Cleaning.{is_root, rounds_of, rounds, after, clean_residual_program}
use Rattle.meaning.specs.CleanReport.{removed, uncharacterised, same_undecided, same_uncovered, undecided, uncovered, unless, clean_report}
use Rattle.told.specs.History.{is_there, start_of, rounds_told, Told}
use Rattle.told.specs.Numbered.{sites_of}
use Rattle.told.specs.ToldReport.{undecided_told, uncovered_told, runs_after, told_report, unchanged_report}
use Rattle.told.proofs.History.{told-rounds, told_cleaned}
use Rattle.told.proofs.ToldRemoved.{told-removed}
use Rattle.told.proofs.ToldFinal.{undecided_runs, uncovered_runs}
use Rattle.told.proofs.ToldNames.{told-uncharacterised}

told-count : (w : Program) (fell : ℕ → ℕ) (r n : ℕ) → length (rounds_told w fell r n) ≡ n
unfolding rounds_told
told-count w fell r zero = refl
told-count w fell r (suc n) = ap suc (told-count w fell (suc r) n)

module _ (w : Program) (fell : ℕ → ℕ) (n : ℕ) (t : Told w fell n) (static : residual_dispatches_dynamically w ≡ false) where
  pub told-length : length (rounds w) ≡ n
  told-length = ap length (told-rounds w fell n t static) ∙ told-count w fell 1 n

  pub told-after : own_sentence_count (clean_residual_program w).functions ≡ own_sentence_count (start_of w fell (suc n)).functions
  told-after = ap (λ (p : Program). own_sentence_count p.functions) (told_cleaned w fell n t static)

  final_undecided : unless (residual_dispatches_dynamically w) (undecided (clean_residual_program w)) ≡ runs_after same_undecided [] (undecided_told (is_there fell (suc n)) (sites_of w) 0 w.functions)
  unfolding unless start_of
  final_undecided =
      ap (λ (x : Bool). unless x (undecided (clean_residual_program w))) static ∙ (ap undecided (told_cleaned w fell n t static) ∙ undecided_runs (is_there fell (suc n)) w)

  final_uncovered : unless (residual_dispatches_dynamically w) (uncovered (clean_residual_program w)) ≡ runs_after same_uncovered [] (uncovered_told (is_there fell (suc n)) (sites_of w) 0 w.functions)
  unfolding unless start_of
  final_uncovered =
      ap (λ (x : Bool). unless x (uncovered (clean_residual_program w))) static ∙ (ap uncovered (told_cleaned w fell n t static) ∙ uncovered_runs (is_there fell (suc n)) w)

  pub told-report : clean_report w ≡ told_report w fell n
  unfolding clean_report told_report
  told-report =
      let a = told-after in
      let b = told-removed w fell n t static in
      let c = final_undecided in
      let d = final_uncovered in
      let e = told-uncharacterised w fell n t static in
      let f = told-length in
      λ i. record {
        functions = length w.functions;
        sentences_before = own_sentence_count w.functions;
        sentences_after = a i;
        removed = b i;
        undecided = c i;
        uncovered = d i;
        uncharacterised = e i;
        dynamic_dispatch = static i;
        rounds = f i;
      }

-- "Any `Mu` or `Up` call: same bytes out, rounds 0".
module _ (w : Program) (dynamic : residual_dispatches_dynamically w ≡ true) where
  pub dynamic-rounds : rounds w ≡ []
  unfolding rounds
  dynamic-rounds = ap (λ (x : Bool). cond x [] (rounds_of (is_root w) w)) dynamic

  pub dynamic_cleaned : clean_residual_program w ≡ w
  unfolding clean_residual_program after
  dynamic_cleaned = ap (after w) dynamic-rounds

  dynamic-removed : removed (rounds w) ≡ []
  unfolding removed firsts firsts_after flat_map
  dynamic-removed = ap removed dynamic-rounds

  dynamic-names : uncharacterised (rounds w) ≡ []
  unfolding uncharacterised firsts firsts_after flat_map
  dynamic-names = ap uncharacterised dynamic-rounds

  none-listed : {A : Type 0} (l : List A) → unless (residual_dispatches_dynamically w) l ≡ []
  unfolding unless
  none-listed l = ap (λ (x : Bool). unless x l) dynamic

  pub dynamic-report : clean_report w ≡ unchanged_report w
  unfolding clean_report unchanged_report
  dynamic-report =
      let a : own_sentence_count (clean_residual_program w).functions ≡ own_sentence_count w.functions = ap (λ (p : Program). own_sentence_count p.functions) dynamic_cleaned in
      let b = dynamic-removed in
      let c = none-listed (undecided (clean_residual_program w)) in
      let d = none-listed (uncovered (clean_residual_program w)) in
      let e = dynamic-names in
      let f : length (rounds w) ≡ 0 = ap length dynamic-rounds in
      λ i. record {
        functions = length w.functions;
        sentences_before = own_sentence_count w.functions;
        sentences_after = a i;
        removed = b i;
        undecided = c i;
        uncovered = d i;
        uncharacterised = e i;
        dynamic_dispatch = dynamic i;
        rounds = f i;
      }
