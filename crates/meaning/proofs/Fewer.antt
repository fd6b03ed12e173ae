-- What rounds leave of a program is within the limits that the program is within, and no longer: they leave out sentences, and nothing else.
use Prim.Native.Nat.{ℕ, zero, suc, ◌≤◌}
use native.Mathlib.Omega.{arith}
use native.Mathlib.Nat.{le_trans}
use mathlib.Core.Path.{◌≡◌, refl, ap}
use mathlib.Core.Bool.{Bool, true, false, cond}
use mathlib.Core.List.Memᴰ
use mathlib.Core.List.{List, [], ◌∷◌, map, Memᴰ}
use lib.ListN.{length, length-append}
use Rattle.program.specs.Syntax.{Head, Terms, Conditions, Sentences, empty, sentence, Function, Program}
use Rattle.program.specs.Bytes.{put_name}
use Rattle.program.specs.Encode.{put_head, put_terms, put_conditions, put_sentences, visibility_byte, put_function, put_functions, put_declarations, put_body, own_sentence_count, encode}
use Rattle.program.specs.Limits.{Valid, ValidSentences, ValidFunctions}
use Rattle.program.proofs.Lengths.{span-length, name-length, encode-length}
use Rattle.program.proofs.Splits.{Splits, splits-after, splits_cons, head-splits, terms-splits, conditions-splits, declarations-splits}
use Rattle.meaning.specs.Sites.{Site, program_sites}
use Rattle.meaning.specs.Restrictions.{entering_restrictions}
use Rattle.meaning.specs.Dispatch.{residual_dispatches_dynamically}
use Rattle.meaning.specs.Cleaning.{Standing, standing, rejected, accepted, kept_of, change, LeftAlone, changes, Round, round, changed, left_by, drops_nothing, rounds_up_to, rounds_of, is_root, rounds, after, clean_residual_program}

-- The second sentences are some of the first.
pub data Fewer : Sentences → Sentences → Type 0 where
  nothing : Fewer empty empty
  keeps : {h : Head} {p : Terms} {c : Conditions} {r : Terms} {b d : Sentences} → Fewer b d → Fewer (sentence h p c r b) (sentence h p c r d)
  drops : {h : Head} {p : Terms} {c : Conditions} {r : Terms} {b d : Sentences} → Fewer b d → Fewer (sentence h p c r b) d

fewer_same : (b : Sentences) → Fewer b b
fewer_same empty = Fewer.nothing
fewer_same (sentence h p c r b) = Fewer.keeps (fewer_same b)

-- ---- a round and the sentences of a function

fewer_cond : (t : Bool) (h : Head) (p : Terms) (c : Conditions) (r : Terms) (b d : Sentences) → Fewer b d → Fewer (sentence h p c r b) (cond t d (sentence h p c r d))
fewer_cond true h p c r b d l = Fewer.drops l
fewer_cond false h p c r b d l = Fewer.keeps l

accepted_fewer : (j : Standing) (b : Sentences) → Fewer b (accepted j b)
unfolding accepted
accepted_fewer j empty = Fewer.nothing
accepted_fewer j (sentence h p c r b) = fewer_cond (rejected j p) h p c r b (accepted j b) (accepted_fewer j b)

kept_fewer : (d b : Sentences) → Fewer b d → Fewer b (kept_of d b)
unfolding kept_of
kept_fewer empty b l = fewer_same b
kept_fewer (sentence h p c r d) b l = l

change_fewer : (j : Standing) (f : Function) → Fewer f.sentences (changed (change j f)).sentences
unfolding change changed
change_fewer j f = kept_fewer (accepted j f.sentences) f.sentences (accepted_fewer j f.sentences)

-- ---- within the limits

fewer_valid : (b d : Sentences) (n : ℕ) → Fewer b d → ValidSentences b n → ValidSentences d n
fewer_valid empty empty n Fewer.nothing v = v
fewer_valid empty (sentence _ _ _ _ d) n x v = elim x [ ]
fewer_valid (sentence h p c r b) (sentence _ _ _ _ d) n (Fewer.keeps l) v = (v.0, v.1, v.2, v.3, fewer_valid b d n l v.4)
fewer_valid (sentence h p c r b) d n (Fewer.drops l) v = fewer_valid b d n l v.4

-- ---- no longer

-- What is written behind something longer is longer.
behind-longer : (f : List ℕ → List ℕ) → Splits f → (a k : List ℕ) → length a ≤ length k → length (f a) ≤ length (f k)
behind-longer f s a k l = omega (arith, l, ap length (s a), ap length (s k), length-append (f []) a, length-append (f []) k)

-- What is written with something before it is longer.
before-longer : (f : List ℕ → List ℕ) → Splits f → (k : List ℕ) → length k ≤ length (f k)
before-longer f s k = omega (arith, ap length (s k), length-append (f []) k)

abbrev put_one : Head → Terms → Conditions → Terms → List ℕ → List ℕ
put_one h p c r k = put_head h (put_terms p (put_conditions c (12 ∷ put_terms r k)))

one-splits : (h : Head) (p : Terms) (c : Conditions) (r : Terms) → Splits (put_one h p c r)
one-splits h p c r k =
    splits-after (put_head h) (λ l. put_terms p (put_conditions c (12 ∷ put_terms r l))) (head-splits h)
    (splits-after (put_terms p) (λ l. put_conditions c (12 ∷ put_terms r l)) (terms-splits p)
    (splits-after (put_conditions c) (λ l. 12 ∷ put_terms r l) (conditions-splits c) (splits_cons 12 (put_terms r) (terms-splits r)))) k

fewer_shorter : (b d : Sentences) (a k : List ℕ) → Fewer b d → length a ≤ length k → length (put_sentences d a) ≤ length (put_sentences b k)
unfolding put_sentences
fewer_shorter empty empty a k Fewer.nothing l = omega (arith, l)
fewer_shorter empty (sentence _ _ _ _ d) a k x l = elim x [ ]
fewer_shorter (sentence h p c r b) (sentence _ _ _ _ d) a k (Fewer.keeps q) l = behind-longer (put_one h p c r) (one-splits h p c r) (put_sentences d a) (put_sentences b k) (fewer_shorter b d a k q l)
fewer_shorter (sentence h p c r b) d a k (Fewer.drops q) l = le_trans (fewer_shorter b d a k q l) (before-longer (put_one h p c r) (one-splits h p c r) (put_sentences b k))

-- ---- the functions and the program that a round leaves

module _ (alone : LeftAlone) (sites : List Site) where
  functions-valid : (i : ℕ) (fs : List Function) → ValidFunctions fs → ValidFunctions (map changed (changes alone sites i fs))
  unfolding changes changed change
  functions-valid i [] v = v
  functions-valid i (f ∷ fs) v =
      let j = standing (alone i f) (entering_restrictions f.name sites) in
      (v.0, v.1, fewer_valid f.sentences (changed (change j f)).sentences 0 (change_fewer j f) v.2, functions-valid (suc i) fs v.3)

  functions_shorter : (i : ℕ) (fs : List Function) → length (put_functions (map changed (changes alone sites i fs))) ≤ length (put_functions fs)
  unfolding put_functions put_function changes changed change
  functions_shorter i [] = omega arith
  functions_shorter i (f ∷ fs) =
      let j = standing (alone i f) (entering_restrictions f.name sites) in
      let a : List ℕ = put_functions (map changed (changes alone sites (suc i) fs)) in
      let s1 : List ℕ = put_sentences (changed (change j f)).sentences a in
      let s2 : List ℕ = put_sentences f.sentences (put_functions fs) in
      let v : ℕ = visibility_byte f.visibility in
      let u = fewer_shorter f.sentences (changed (change j f)).sentences a (put_functions fs) (change_fewer j f) (functions_shorter (suc i) fs) in
      omega (arith, u, span-length f.span (v ∷ put_name f.name s1), span-length f.span (v ∷ put_name f.name s2), name-length f.name s1, name-length f.name s2)

round_shorter : (alone : LeftAlone) (p : Program) → length (encode (left_by (round alone p))) ≤ length (encode p)
unfolding put_body left_by round
round_shorter alone p =
    let k : List ℕ = put_functions (left_by (round alone p)).functions in
    let u = behind-longer (put_declarations p.declarations) (declarations-splits p.declarations) k (put_functions p.functions) (functions_shorter alone (program_sites p) 0 p.functions) in
    omega (arith, u, encode-length p, encode-length (left_by (round alone p)))

round-valid : (alone : LeftAlone) (p : Program) → Valid p → Valid (left_by (round alone p))
round-valid alone p v = ((unfold left_by round in v.0.0, unfold left_by round in functions-valid alone (program_sites p) 0 p.functions v.0.1), le_trans (round_shorter alone p) v.1)

-- ---- the rounds

after_cond : (P : Program → Type 0) (t : Bool) (p : Program) (l : List Round) → P p → P (after p l) → P (after p (cond t [] l))
unfolding after
after_cond P true p l h k = h
after_cond P false p l h k = k

valid_up_to : (n : ℕ) (alone : LeftAlone) (p : Program) → Valid p → Valid (after p (rounds_up_to n alone p))
unfolding rounds_up_to after
valid_up_to zero alone p v = v
valid_up_to (suc n) alone p v =
    let r = round alone p in
    let u : Valid (left_by r) = round-valid alone p v in
    after_cond Valid (drops_nothing r) (left_by r) (rounds_up_to n alone (left_by r)) u (valid_up_to n alone (left_by r) u)

-- What cleaning leaves is within the limits.
pub cleaned_valid : (p : Program) → Valid p → Valid (clean_residual_program p)
unfolding clean_residual_program rounds rounds_of
cleaned_valid p v = after_cond Valid (residual_dispatches_dynamically p) p (rounds_of (is_root p) p) v (valid_up_to (suc (own_sentence_count p.functions)) (is_root p) p v)

-- Each round is one of a program within the limits.
pub record RoundOf (alone : LeftAlone) (r : Round) : Type 0 where
  pub valid : Valid r.start
  pub is : r.changes ≡ changes alone (program_sites r.start) 0 r.start.functions

abbrev AllRounds : LeftAlone → List Round → Type 0
AllRounds alone [] = Unit {0}
AllRounds alone (r ∷ l) = RoundOf alone r × AllRounds alone l

all_cond : (alone : LeftAlone) (t : Bool) (l : List Round) → AllRounds alone l → AllRounds alone (cond t [] l)
all_cond alone true l h = tt
all_cond alone false l h = h

all_up_to : (n : ℕ) (alone : LeftAlone) (p : Program) → Valid p → AllRounds alone (rounds_up_to n alone p)
unfolding rounds_up_to
all_up_to zero alone p v = tt
all_up_to (suc n) alone p v =
    let r = round alone p in
    (record { valid = unfold round in v; is = unfold round in refl }, all_cond alone (drops_nothing r) (rounds_up_to n alone (left_by r)) (all_up_to n alone (left_by r) (round-valid alone p v)))

one_of_all : (alone : LeftAlone) (l : List Round) (r : Round) → AllRounds alone l → Memᴰ r l → RoundOf alone r
one_of_all alone [] r h m = absurd (Memᴰ.not-nil m)
one_of_all alone (x ∷ l) r h (Memᴰ.head e) = rw e h.0
one_of_all alone (x ∷ l) r h (Memᴰ.tail m) = one_of_all alone l r h.1 m

pub round_of : (p : Program) → Valid p → (r : Round) → Memᴰ r (rounds p) → RoundOf (is_root p) r
unfolding rounds rounds_of
round_of p v r m =
    one_of_all (is_root p) (rounds p) r (all_cond (is_root p) (residual_dispatches_dynamically p) (rounds_of (is_root p) p) (all_up_to (suc (own_sentence_count p.functions)) (is_root p) p v)) m
