-- The walk over all functions, sentence by sentence: the sites listed and those of the sentences to come make up the whole.
use Prim.Native.Nat.{ℕ, suc, ◌+◌, ◌<◌, ◌≤◌}
use native.Mathlib.Omega.{arith}
use mathlib.Core.Path.{◌≡◌, refl, sym, ap, subst, ◌∙◌}
use mathlib.Core.List.{List, [], ◌++◌, append_assoc, append-nil}
use lib.ListN.{length, get_or, drop, length-append, length-drop}
use Rattle.program.specs.Syntax.{Function}
use Rattle.program.specs.Encode.{put_sentences, put_functions}
use Rattle.image.specs.Parts.{Passes, FunctionAt, FunctionsAt}
use Rattle.program.specs.Sentences.{Sentence, own_sentences}
use Rattle.rows.proofs.Readings.{part}
use Rattle.restrictions.specs.declared.Walk.{Walk}
use Rattle.meaning.specs.Sites.{function_sites}
use Rattle.told.specs.Numbered.{Held, held_by, own_sites, held_sites}
use Rattle.restrictions.specs.Entries.{Appended}
use Rattle.restrictions.specs.Numbered.{SentenceCollected}
use Rattle.restrictions.proofs.Appended.{held-length, appended_nothing, appended-length, appended_then}
use Rattle.restrictions.proofs.Bytes.{functions-bytes}
use Rattle.told.proofs.Numbered.{numbered-length}
use Rattle.program.proofs.Own.{own-counted}
use Rattle.restrictions.proofs.Places.{Place, FunctionIn, SentenceIn, place_none, place-close, place-function, place-part, place-fits, place_inside, place-sentence, place-later, place-next}

pub record Walking (b : List ℕ) (from : ℕ) (old : List ℕ) (n : ℕ) (new : List ℕ) (p s c : ℕ) (h : FunctionsAt (drop from b)) : Type 0 where
  pub rest : List Sentence
  pub more : List Function
  pub place : Place (drop p b) rest more
  pub done : List Held
  pub appended : Appended b old n c new done
  pub whole : held_sites 0 (own_sentences h.functions) ≡ done ++ held_sites s rest
  pub count : s + length rest ≡ length (own_sentences h.functions)

pub walking_first : {b : List ℕ} {from : ℕ} (old : List ℕ) (n : ℕ) (h : FunctionsAt (drop from b)) → n ≤ length old → Walking b from old n old from 0 n h
walking_first {b} old n h l = record { rest = own_sentences h.functions; more = h.functions; place = Place.outer h.is h.valid refl; done = []; appended = appended_nothing b old n l; whole = refl; count = omega arith }

module _ {b : List ℕ} {from : ℕ} {old : List ℕ} {n : ℕ} {new : List ℕ} {p s c : ℕ} {h : FunctionsAt (drop from b)} (w : Walking b from old n new p s c h) where
  pub walking_length : length new ≡ length old
  walking_length = appended-length w.appended

  pub walking_end : length b ≤ p → Appended b old n c new (held_sites 0 (own_sentences h.functions))
  unfolding held_sites
  walking_end l =
      let e : w.rest ≡ [] = (place_none b p w.place l).0 in
      subst (Appended b old n c new) (sym (w.whole ∙ (ap (λ (r : List Sentence). w.done ++ held_sites s r) e ∙ append-nil w.done))) w.appended

  module _ (l : p < length b) where
    pub walking_close : (get_or b p 0 ≡ 18 → ⊥) → (get_or b p 0 ≡ 10 → ⊥) → Walking b from old n new (p + 1) s c h
    walking_close m k = record {
      rest = w.rest;
      more = w.more;
      place = place-close b p w.place l m k;
      done = w.done;
      appended = w.appended;
      whole = w.whole;
      count = w.count;
    }

    module _ (m : get_or b p 0 ≡ 18) where
      abbrev pub function-there : FunctionIn (drop p b) w.rest w.more
      function-there = place-function b p w.place l m

      abbrev pub function-part : FunctionAt (part b p)
      function-part = place-part b p w.place l m

      module _ (i : ℕ) (q : Passes (part b p) i (put_sentences (place-function b p w.place l m).function.sentences (put_functions (place-function b p w.place l m).functions))) where
        pub function-fits : (0 < i) × (p + i ≤ length b)
        function-fits = place-fits b p w.place l m i q

        pub walking-function : Walking b from old n new (p + i) s c h
        walking-function = record {
          rest = w.rest;
          more = (place-function b p w.place l m).functions;
          place = place_inside b p w.place l m i q;
          done = w.done;
          appended = w.appended;
          whole = w.whole;
          count = w.count;
        }

    module _ (m : get_or b p 0 ≡ 10) where
      abbrev pub sentence-there : SentenceIn (drop p b) w.rest w.more
      sentence-there = place-sentence b p w.place l m

      split : held_sites s w.rest ≡ held_by s (own_sites sentence-there.here.sentence) ++ held_sites (suc s) sentence-there.more
      unfolding held_sites
      split = ap (held_sites s) sentence-there.sentences

      -- A sentence's number fits its 12 bits.
      pub sentence-small : length b ≤ 32768 → s < 4096
      sentence-small u =
          omega (arith, u, w.count, ap length sentence-there.sentences, own-counted h.functions, functions-bytes h.functions h.valid, ap length h.is, length-drop from b)

      pub sentence-room : n + length (function_sites h.functions) ≤ length old → c + length (own_sites sentence-there.here.sentence) ≤ length new
      sentence-room u =
          let x = own_sites sentence-there.here.sentence in
          omega (arith, u, numbered-length 0 h.functions, ap length w.whole, length-append w.done (held_sites s w.rest), ap length split, length-append (held_by s x) (held_sites (suc s) sentence-there.more), held-length s x, w.appended.count, w.appended.many, walking_length)

      module _ {new' : List ℕ} {v : Walk} (z : SentenceCollected b p s new c new' v sentence-there.here) where
        pub sentence-later : p < v.at
        sentence-later = place-later b p w.place l m v.at z.left z.fits

        pub walking-sentence : Walking b from old n new' v.at (s + 1) v.count h
        walking-sentence =
            let x = held_by s (own_sites sentence-there.here.sentence) in
            let y : suc s ≡ s + 1 = omega arith in
            record {
              rest = sentence-there.more;
              more = w.more;
              place = place-next b p w.place l m v.at z.left z.fits;
              done = w.done ++ x;
              appended = appended_then w.appended z.appended;
              whole = w.whole ∙ (ap (λ (k : List Held). w.done ++ k) split ∙ (sym (append_assoc w.done x (held_sites (suc s) sentence-there.more)) ∙ ap (λ (i : ℕ). (w.done ++ x) ++ held_sites i sentence-there.more) y));
              count = omega (arith, w.count, ap length sentence-there.sentences);
            }
