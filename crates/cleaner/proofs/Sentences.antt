-- The sentences that Overlap compares: where they stand in an accepted image, and that their patterns are within the limits.
use Prim.Native.Nat.{ℕ, ◌+◌, ◌-◌, ◌≤◌}
use native.Mathlib.Omega.{arith}
use mathlib.Core.Path.{◌≡◌, refl, sym, ap, subst, ◌∙◌}
use mathlib.Core.List.{List, [], ◌∷◌}
use mathlib.Core.Option.{some}
use lib.ListN.{length, drop, get_elem?, length-drop}
use lib.Seq.{drop-drop}
use Rattle.std.specs.Prelude.{Result, Ok, Err, ⊤}
use Rattle.program.specs.Syntax.{Terms, Function}
use Rattle.program.specs.Bytes.{put_span, put32, Bytes}
use Rattle.program.specs.Encode.{put_head, put_terms, put_conditions, put_functions}
use Rattle.program.specs.Limits.{Mode, ValidFunctions}
use Rattle.program.specs.Decode.{Answer, decode}
use Rattle.image.specs.Parts.{TermsAt, put_sentence, FunctionsAt, Stands, Accepted}
use Rattle.image.proofs.Accepted.{accepted-long}
use Rattle.program.specs.Sentences.{Sentence, own_sentences}
use Rattle.program.specs.declared.Refusal.{Refusal}
use Rattle.reader.specs.Tally.{checked_of}
use Rattle.reader.specs.Steps.{refusal}
use Rattle.program.proofs.Lengths.{head-length}
use Rattle.program.proofs.RoundTrip.{encode-decode}
use Rattle.program.proofs.Own.{element, no_element, own-valid}
use Rattle.patterns.specs.Search.{patterns_overlap, spent, sequence, start}
use Rattle.patterns.specs.declared.Found.{Found}
use Rattle.patterns.proofs.Fuel.{fuel-falls}
use Rattle.cleaner.specs.Parts.{PatternFrom}
use Rattle.cleaner.specs.Two.{body, TwoFound, NotFound}
use Rattle.cleaner.proofs.Start.{image_small}
use Rattle.answers.specs.Answers.{compare_patterns, compare_found, compare_sentences, overlap_of, overlap_answer}
use Rattle.answers.specs.ExpressionAnswers.{refusing_expression, share_found, share_sentences, share_of, expression_answer}

-- ---- where a sentence stands

pub head_passed : (x : Sentence) (k : List ℕ) → drop 9 (put_sentence x k) ≡ put_terms x.pattern (put_conditions x.conditions (12 ∷ put_terms x.result k))
unfolding put_sentence put_head put_span put32
head_passed x k = refl

pub sentence-long : (x : Sentence) (k : List ℕ) → 9 ≤ length (put_sentence x k)
unfolding put_sentence
sentence-long x k = omega (arith, head-length x.head (put_terms x.pattern (put_conditions x.conditions (12 ∷ put_terms x.result k))))

abbrev pub pattern-from : (b : List ℕ) (p n : ℕ) (fs : List Function) → ValidFunctions fs → (h : Stands b p (own_sentences fs) n) → PatternFrom b p
pattern-from b p n fs v h =
    let x = h.sentence in
    record {
      terms = x.pattern;
      rest = put_conditions x.conditions (12 ∷ put_terms x.result h.rest);
      within = omega (arith, ap length h.stands, length-drop p b, sentence-long x h.rest);
      is = sym (drop-drop 9 p b) ∙ (ap (drop 9) h.stands ∙ head_passed x h.rest);
      valid = own-valid fs v n x h.more h.is;
    }

-- ---- the comparison

abbrev pub pattern_part : (b : List ℕ) (p : ℕ) → PatternFrom b p → TermsAt Mode.pattern (drop (p + 9) b)
pattern_part b p x = record { terms = x.terms; rest = x.rest; is = x.is; valid = x.valid }

pub compared : (a c : Terms) (f : Found) → f ≡ sequence start a c → Ok (record { verdict = f.verdict; spent = 4096 - f.fuel }) ≡ compare_patterns a c
unfolding compare_patterns patterns_overlap spent
compared a c f e = ap (λ (q : Found). Ok (record { verdict = q.verdict; spent = 4096 - q.fuel })) e

pub fuel-left : (a c : Terms) (f : Found) → f ≡ sequence start a c → f.fuel ≤ 4096
fuel-left a c f e = subst (λ (q : Found). q.fuel ≤ 4096) (sym e) (fuel-falls start a c)

-- ---- what an image is read as

pub accepted_of : (s : List ℕ) (v : Result ⊤ Refusal) (x : ⊤) → v ≡ checked_of (decode s) → v ≡ Ok x → Accepted s
unfolding checked_of
accepted_of s v x e q = by (decode s) refl (sym e ∙ q)
  where
    by : (a : Answer) → decode s ≡ a → checked_of a ≡ Ok x → Accepted s
    by (Answer.refused n p) u z = absurd (let y : ◌≡◌ {A = ℕ} 0 1 = cc in omega arith)
    by (Answer.accepted w) u z = record { program = w; is = u }

pub refused_of : (s : List ℕ) (v : Result ⊤ Refusal) (f : Refusal) → v ≡ checked_of (decode s) → v ≡ Err f → decode s ≡ Answer.refused f.number f.place
unfolding checked_of
refused_of s v f e q = by (decode s) refl (sym e ∙ q)
  where
    by : (a : Answer) → decode s ≡ a → checked_of a ≡ Err f → decode s ≡ Answer.refused f.number f.place
    by (Answer.refused n p) u z = let y : refusal n p ≡ f = cc in u ∙ ap (λ (x : Refusal). Answer.refused x.number x.place) y
    by (Answer.accepted w) u z = absurd (let y : ◌≡◌ {A = ℕ} 0 1 = cc in omega arith)

-- ---- the answers, by what is found

module _ (s : List ℕ) (i j : ℕ) where
  pub not_accepted : (f : Refusal) → decode s ≡ Answer.refused f.number f.place → NotFound s i j f
  unfolding overlap_answer overlap_of expression_answer share_of refusing_expression
  not_accepted f e = record { compares = rw e; shares = λ lent. rw e }

  pub first_missing : (a : Accepted s) (f : Refusal) → f ≡ record { number = 13; place = 0 } → drop i (own_sentences a.program.functions) ≡ [] → NotFound s i j f
  unfolding overlap_answer overlap_of compare_sentences compare_found expression_answer share_of share_sentences share_found refusing_expression
  first_missing a f q e =
      let h = no_element (own_sentences a.program.functions) i e in
      record { compares = rw (a.is, h, q); shares = λ lent. rw (a.is, h, q) }

  pub second_missing : (a : Accepted s) (f : Refusal) (x : Sentence) → f ≡ record { number = 13; place = 0 } → get_elem? (own_sentences a.program.functions) i ≡ some x → drop j (own_sentences a.program.functions) ≡ [] → NotFound s i j f
  unfolding overlap_answer overlap_of compare_sentences compare_found expression_answer share_of share_sentences share_found refusing_expression
  second_missing a f x q u e =
      let h = no_element (own_sentences a.program.functions) j e in
      record { compares = rw (a.is, u, h, q); shares = λ lent. rw (a.is, u, h, q) }

  module _ (bytes : Bytes s) (a : Accepted s) where
    pub valid-functions : ValidFunctions a.program.functions
    valid-functions = (encode-decode s a.program bytes a.is).1.0.1

    -- The functions of an accepted image, where its body has them from `from` on.
    abbrev pub functions_here : (from : ℕ) → drop from (body s) ≡ put_functions a.program.functions → FunctionsAt (drop from (body s))
    functions_here from e = record { functions = a.program.functions; is = e; valid = valid-functions }

    pub stands_there : (n p : ℕ) → (h : Stands (body s) p (own_sentences a.program.functions) n) → get_elem? (own_sentences a.program.functions) n ≡ some h.sentence
    stands_there n p h = element (own_sentences a.program.functions) n h.sentence h.more h.is

    pub two_found : (p q : ℕ) → Stands (body s) p (own_sentences a.program.functions) i → Stands (body s) q (own_sentences a.program.functions) j → TwoFound s i j p q
    unfolding overlap_answer overlap_of compare_sentences compare_found expression_answer share_of share_sentences share_found
    two_found p q h k = record {
      x = pattern-from (body s) p i a.program.functions valid-functions h;
      y = pattern-from (body s) q j a.program.functions valid-functions k;
      least = accepted-long s bytes a;
      most = image_small s bytes a;
      compares = rw (a.is, stands_there i p h, stands_there j q k);
      shares = λ lent. rw (a.is, stands_there i p h, stands_there j q k);
    }
