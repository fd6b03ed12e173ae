-- Where names and patterns stand in the body that the entries name.
use Prim.Native.Nat.{ℕ, ◌+◌, ◌%◌, ◌<◌, ◌≤◌}
use native.Mathlib.Omega.{arith}
use mathlib.Core.Path.{◌≡◌, sym, ap, subst, ◌∙◌}
use mathlib.Core.List.{List}
use mathlib.Core.Option.{some}
use lib.ListN.{length, get_or, get_elem?, drop, length-drop}
use Rattle.program.specs.Syntax.{Name, Terms, Function, Program}
use Rattle.program.specs.Encode.{put_sentences}
use Rattle.program.specs.Limits.{Mode}
use Rattle.image.specs.Parts.{TermsAt, FunctionAt}
use Rattle.program.specs.Sentences.{Sentence, own_sentences}
use Rattle.program.proofs.Lengths.{name-length}
use Rattle.symbols.proofs.Parts.{part_rest}
use Rattle.rows.proofs.Readings.{part}
use Rattle.index.specs.declared.Plan.{Plan}
use Rattle.index.specs.Layout.{lines}
use Rattle.index.proofs.First.{Element, element_at, element_below}
use Rattle.index.proofs.Functions.{name-is}
use Rattle.meaning.specs.Text.{format_terms}
use Rattle.cleaning.proofs.Meeting.{pattern_part}
use Rattle.cleaning.proofs.Witnesses.{pattern-there}
use Rattle.cleaning.specs.Walks.{Owns}
use Rattle.text.proofs.Formatting.{terms_text_fits}
use Rattle.report.specs.declared.listing.Candidate.{Candidate}
use Rattle.report.specs.Emitting.{Readable}
use Rattle.report.specs.Listing.{Stands}

-- A function of that name stands at n of b.
pub record NamedAt (b : List ℕ) (n : ℕ) (f : Name) : Type 0 where
  pub stands : FunctionAt (drop n b)
  pub is : stands.function.name ≡ f

part_length : (b : List ℕ) (n : ℕ) → length (part b n) ≤ length b
part_length b n = omega (arith, ap length (part_rest b n), length-drop n b)

pub named-fits : {b : List ℕ} {n : ℕ} {f : Name} → NamedAt b n f → length f ≤ length b
named-fits {b} {n} {f} x =
    omega (arith, ap length x.is, ap length (name-is b n x.stands), name-length x.stands.function.name (put_sentences x.stands.function.sentences x.stands.rest), part_length b (n + 10))

module _ {b : List ℕ} {w : Program} {m : List ℕ} {p : Plan} (d : Readable b w m p) where
  pub function_of : (f : ℕ) → f < p.functions → Element w.functions f
  function_of f h = element_at w.functions f (omega (arith, d.indexed.functions))

  pub sentence_of : (s : ℕ) → s < p.sentences → Element (own_sentences w.functions) s
  sentence_of s h = element_at (own_sentences w.functions) s (omega (arith, d.indexed.sentences))

  pub stands_below : {c : Candidate} {x : Function} {r : Terms} → Stands b w c x r → c.function < p.functions
  stands_below {c} {x} s = omega (arith, element_below w.functions c.function x s.function, d.indexed.functions)

  pub owner_below : {f s : ℕ} {x : Function} {y : Sentence} → Owns w f x s y → f < p.functions
  owner_below {f} {x} o = omega (arith, element_below w.functions f x o.function, d.indexed.functions)

  pub owned_below : {f s : ℕ} {x : Function} {y : Sentence} → Owns w f x s y → s < p.sentences
  owned_below {s} {y} o = omega (arith, element_below (own_sentences w.functions) s y o.sentence, d.indexed.sentences)

  pub named-at : (f : ℕ) (x : Function) → get_elem? w.functions f ≡ some x → (n : ℕ) → n ≡ get_or m f 0 % 32768 → NamedAt b n x.name
  named-at f x e n z =
      let g = d.indexed.function.entry f x e in
      let k : 0 + f ≡ f = omega arith in
      subst (λ (q : ℕ). NamedAt b q x.name) (sym (z ∙ ap (λ (i : ℕ). get_or m i 0 % 32768) (sym k))) (record { stands = g.stands; is = ap (λ (y : Function). y.name) g.is })

  module _ (s : ℕ) (y : Sentence) (e : get_elem? (own_sentences w.functions) s ≡ some y) (n : ℕ) (z : n ≡ get_or m (lines p + s) 0 % 32768 + 9) where
    abbrev pub pattern-at : TermsAt Mode.pattern (drop n b)
    pattern-at = pattern-there (d.indexed.sentence.entry s y e) n z

    pub pattern-fits : length (format_terms y.pattern) ≤ 32768
    pattern-fits = omega (arith, terms_text_fits (pattern_part b n pattern-at), part_length b n, d.short)

pub readable_part : {b : List ℕ} {w : Program} {m : List ℕ} {p : Plan} → Readable b w m p → (n : ℕ) → length (part b n) ≤ 32768
readable_part {b} d n = omega (arith, part_length b n, d.short)
