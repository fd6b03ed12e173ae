-- Watched runs of small programs, by computation: after how many events, and at which weight, a run stops.
use Prim.Native.Nat.{ℕ}
use mathlib.Core.Path.{◌≡◌, refl}
use mathlib.Core.Bool.{false}
use mathlib.Core.List.{List, [], ◌∷◌}
use lib.Dec.{ltb}
use lib.ListN.{length}
use Rattle.program.specs.Syntax.{character, nil, none, empty, local, Function, Program}
use Rattle.patterns.specs.Expression.{Expression, void, atom}
use Rattle.patterns.proofs.Vocabulary.{char, s_var, e_var, br, apply, within, when, rule, define}
use Rattle.meaning.specs.Run.{value, no_root, nothing_fitting, call_limit}
use Rattle.meaning.specs.Watch.{Watch, Stop, ended, too_heavy, too_long, watched_run}
use Rattle.meaning.proofs.WatchComputing.{computing}

abbrev letter : ℕ → Expression → Expression
letter c v = atom (character c) v

abbrev program : List Function → Program
program l = record { declarations = []; functions = l }

-- A weight above so many bytes is too heavy.
abbrev up_to : ℕ → Watch
up_to n = record { heavy = λ w. ltb n w; long = λ _. false }

abbrev slice : ℕ → Watch
slice n = record { heavy = λ _. false; long = λ m. ltb n m }

pub record Stopped : Type 0 where
  pub events : ℕ
  pub stop : Stop

abbrev after : ℕ → Stop → Stopped
after n e = record { events = n; stop = e }

abbrev stopped : Watch → Program → Expression → List Expression → ℕ → Stopped
stopped w p v l n = let o = watched_run w p v l n in after (length o.events) o.stop

-- `F { e.X = e.X; }`: tested at 42 (the entry), 84.
copies : Program
copies = program (define local "F" (rule (e_var "X" nil) none (e_var "X" nil) empty) ∷ [])

copied : (stopped (up_to 41) copies (letter 65 (letter 66 void)) [] 9 ≡ after 0 too_heavy)
    × (stopped (up_to 83) copies (letter 65 (letter 66 void)) [] 9 ≡ after 2 too_heavy)
    × (stopped (up_to 84) copies (letter 65 (letter 66 void)) [] 9 ≡ after 2 (ended (value (letter 65 (letter 66 void)))))
unfolding computing copies
copied = (refl, refl, refl)

-- `F { = 'A' <G 'B'> 'C'; } G { s.X = s.X s.X; }`: 16 (entry), 29, 42, 58 (entry), 87, 100, 68.
handed : Program
handed = program (define local "F" (rule nil none (char 65 (apply "G" (char 66 nil) (char 67 nil))) empty) ∷ define local "G" (rule (s_var "X" nil) none (s_var "X" (s_var "X" nil)) empty) ∷ [])

handed_once : (stopped (up_to 15) handed void [] 9 ≡ after 0 too_heavy)
    × (stopped (up_to 28) handed void [] 9 ≡ after 2 too_heavy)
    × (stopped (up_to 57) handed void [] 9 ≡ after 2 too_heavy)
    × (stopped (up_to 58) handed void [] 9 ≡ after 4 too_heavy)
    × (stopped (up_to 99) handed void [] 9 ≡ after 4 too_heavy)
    × (stopped (up_to 100) handed void [] 9 ≡ after 4 (ended (value (letter 65 (letter 66 (letter 66 (letter 67 void)))))))
unfolding computing handed
handed_once = (refl, refl, refl, refl, refl, refl)

-- `F { = 'A' <X 'B'>; }` with the answer 'CD': 16 (entry), 29, 42, 58 (entry), 55: the call is answered, then the answer's terms are added.
asks : Program
asks = program (define local "F" (rule nil none (char 65 (apply "X" (char 66 nil) nil)) empty) ∷ [])

answered : (stopped (up_to 57) asks void (letter 67 (letter 68 void) ∷ []) 9 ≡ after 2 too_heavy)
    × (stopped (up_to 58) asks void (letter 67 (letter 68 void) ∷ []) 9 ≡ after 3 (ended (value (letter 65 (letter 67 (letter 68 void))))))
    × (stopped (up_to 58) asks void (letter 67 (letter 68 (letter 69 void)) ∷ []) 9 ≡ after 3 too_heavy)
unfolding computing asks
answered = (refl, refl, refl)

-- `F { s.1 = [s.1 'B' : { s.2 s.3 = s.3; }] 'Z'; }`: 29 (entry), 58, 71, 132, 71: a block is open once its argument is whole, and its opening is not tested.
opens : Program
opens = program (define local "F" (rule (s_var "1" nil) none (within (s_var "1" (char 66 nil)) (rule (s_var "2" (s_var "3" nil)) none (s_var "3" nil) empty) (char 90 nil)) empty) ∷ [])

opened : (stopped (up_to 70) opens (letter 65 void) [] 9 ≡ after 2 too_heavy)
    × (stopped (up_to 131) opens (letter 65 void) [] 9 ≡ after 3 too_heavy)
    × (stopped (up_to 132) opens (letter 65 void) [] 9 ≡ after 3 (ended (value (letter 66 (letter 90 void)))))
unfolding computing opens
opened = (refl, refl, refl)

-- `F { 'A' e.1 = <F e.1>; = ; }`: 42 (entry), 71, 87 (entry), 119 (entry): the caller of a last call still counts.
tails : Program
tails = program (define local "F" (rule (char 65 (e_var "1" nil)) none (apply "F" (e_var "1" nil) nil) (rule nil none nil empty)) ∷ [])

tail-calls : (stopped (up_to 86) tails (letter 65 (letter 65 void)) [] 9 ≡ after 2 too_heavy)
    × (stopped (up_to 118) tails (letter 65 (letter 65 void)) [] 9 ≡ after 4 too_heavy)
    × (stopped (up_to 119) tails (letter 65 (letter 65 void)) [] 9 ≡ after 6 (ended (value void)))
unfolding computing tails
tail-calls = (refl, refl, refl)

-- `F { = ('A' <G> 'B'); } G { = 'C'; }`: 16 (entry), 26, 39, 55 (entry), 68, 65: a bracket with its close, on opening.
groups : Program
groups = program (define local "F" (rule nil none (br (char 65 (apply "G" nil (char 66 nil))) nil) empty) ∷ define local "G" (rule nil none (char 67 nil) empty) ∷ [])

grouped : (stopped (up_to 25) groups void [] 9 ≡ after 2 too_heavy) × (stopped (up_to 54) groups void [] 9 ≡ after 2 too_heavy) × (stopped (up_to 67) groups void [] 9 ≡ after 4 too_heavy)
unfolding computing groups
grouped = (refl, refl, refl)

-- `F { e.1 s.A e.2, <G s.A> : e.3 s.B e.4, s.B : 'Y' = e.1 s.A e.3; } G { 'P' = 'XZ'; 'Q' = 'XZY'; }` with 'PQ':
-- 42 (entry), 103, 119 (entry), 132, 145, 177, 177, then the next match: 103, 119 (entry), 132, 145, 158, 190, 190, 190, 203, 216, 242.
tries : Program
tries = program (
    define local "F" (rule (e_var "1" (s_var "A" (e_var "2" nil))) (when (apply "G" (s_var "A" nil) nil) (e_var "3" (s_var "B" (e_var "4" nil))) (when (s_var "B" nil) (char 89 nil) none)) (e_var "1" (s_var "A" (e_var "3" nil))) empty)
    ∷ define local "G" (rule (char 80 nil) none (char 88 (char 90 nil)) (rule (char 81 nil) none (char 88 (char 90 (char 89 nil))) empty)) ∷ [])

tried : (stopped (up_to 176) tries (letter 80 (letter 81 void)) [] 9 ≡ after 3 too_heavy)
    × (stopped (up_to 189) tries (letter 80 (letter 81 void)) [] 9 ≡ after 5 too_heavy)
    × (stopped (up_to 241) tries (letter 80 (letter 81 void)) [] 9 ≡ after 6 too_heavy)
    × (stopped (up_to 242) tries (letter 80 (letter 81 void)) [] 9 ≡ after 6 (ended (value (letter 80 (letter 81 (letter 88 (letter 90 void)))))))
unfolding computing tries
tried = (refl, refl, refl, refl)

-- `F { , 'aaaa' : 'b' = ; = 'bbbb'; }`: 16 (entry), 29, 42, 55, 68; the condition fails, and its value is left: 29, 42, 55, 68.
leaves : Program
leaves = program (define local "F" (rule nil (when (char 97 (char 97 (char 97 (char 97 nil)))) (char 98 nil) none) nil (rule nil none (char 98 (char 98 (char 98 (char 98 nil)))) empty)) ∷ [])

left : (stopped (up_to 67) leaves void [] 9 ≡ after 1 too_heavy) × (stopped (up_to 68) leaves void [] 9 ≡ after 2 (ended (value (letter 98 (letter 98 (letter 98 (letter 98 void)))))))
unfolding computing leaves
left = (refl, refl)

-- "Call limit n ends the run before entry n + 1", and so before 15; 15 is met before 16; without functions nothing is counted.
first_ends : (stopped (up_to 28) copies (letter 65 void) [] 0 ≡ after 0 (ended call_limit))
    × (stopped (up_to 28) copies (letter 65 void) [] 1 ≡ after 0 too_heavy)
    × (stopped (up_to 0) (program []) (letter 65 void) [] 0 ≡ after 0 (ended no_root))
unfolding computing copies
first_ends = (refl, refl, refl)

-- `F { = ; }`: 12 bytes of the call, 12 of the sentence, and the close of the value, which falls under 16 too.
ends : Program
ends = program (define local "F" (rule nil none nil empty) ∷ [])

lists : (stopped (slice 11) ends void [] 9 ≡ after 0 too_long)
    × (stopped (slice 23) ends void [] 9 ≡ after 1 too_long)
    × (stopped (slice 24) ends void [] 9 ≡ after 2 too_long)
    × (stopped (slice 25) ends void [] 9 ≡ after 2 (ended (value void)))
    × (stopped (slice 12) (program (define local "F" (rule (char 65 nil) none nil empty) ∷ [])) void [] 9 ≡ after 1 (ended nothing_fitting))
unfolding computing ends
lists = (refl, refl, refl, refl, refl)
