-- Demand 3 on programs: "the run of the cleaned show and the run of the original have the same events in the same order, each call with its name and argument and each sentence chosen, and the same ending, with the same value where there is one".
-- It is proved of watched runs first: document 02, request 1, "a cleaned and an uncleaned show leave the same list", refusals 15 and 16 included.
use Prim.Native.Nat.{ℕ}
use mathlib.Core.Path.{◌≡◌, sym, ap, ◌∙◌}
use mathlib.Core.List.{List}
use Rattle.program.specs.Syntax.{Program}
use Rattle.patterns.specs.Expression.{Expression}
use Rattle.meaning.specs.Cleaning.{clean_residual_program}
use Rattle.meaning.specs.Run.{Ending, Outcome, run}
use Rattle.meaning.specs.Watch.{Watch, Stop, ended, too_heavy, too_long, WatchedOutcome, watched_run}
use Rattle.meaning.proofs.Rounds.{cleaned_program}
use Rattle.meaning.proofs.Cleaned.{Cleaned}
use Rattle.meaning.proofs.Alike.{cleaned_watched}
use Rattle.meaning.proofs.Unwatched.{unwatched, unwatched_run}

pub same_watched : (watch : Watch) (p : Program) (input : Expression) (answers : List Expression) (limit : ℕ)
    → watched_run watch (clean_residual_program p) input answers limit ≡ watched_run watch p input answers limit
same_watched watch p = cleaned_watched watch p (clean_residual_program p) (cleaned_program p)

-- An outcome is found again in how the watched run stopped.
ending_of : Stop → Ending
ending_of (ended e) = e
ending_of too_heavy = Ending.call_limit
ending_of too_long = Ending.call_limit

plain : WatchedOutcome → Outcome
plain o = record { events = o.events; ending = ending_of o.stop }

run_of : (p : Program) (input : Expression) (answers : List Expression) (limit : ℕ) → plain (watched_run unwatched p input answers limit) ≡ run p input answers limit
unfolding plain ending_of
run_of p input answers limit = ap plain (unwatched_run p input answers limit)

-- A cleaned form of a program runs as the program does.
pub cleaned_run : (p q : Program) → Cleaned p q → (input : Expression) (answers : List Expression) (limit : ℕ) → run q input answers limit ≡ run p input answers limit
cleaned_run p q h input answers limit = sym (run_of q input answers limit) ∙ ap plain (cleaned_watched unwatched p q h input answers limit) ∙ run_of p input answers limit

pub same-run : (p : Program) (input : Expression) (answers : List Expression) (limit : ℕ) → run (clean_residual_program p) input answers limit ≡ run p input answers limit
same-run p = cleaned_run p (clean_residual_program p) (cleaned_program p)
