-- The result and the conditions of a sentence as records up to their close.
use Prim.Native.Nat.{ℕ, ◌+◌, ◌<◌, ◌≤◌}
use native.Mathlib.Omega.{arith}
use mathlib.Core.Path.{◌≡◌, sym, ap, subst, ◌∙◌}
use mathlib.Core.List.{List, [], ◌∷◌, ◌++◌}
use lib.ListN.{length, drop, length-append, length-drop}
use Rattle.program.specs.Encode.{put_terms, put_conditions}
use Rattle.image.specs.Parts.{Passes, put_sentence, SentenceAt}
use Rattle.program.specs.Sentences.{Sentence}
use Rattle.program.proofs.Lengths.{head-length}
use Rattle.symbols.proofs.Parts.{part_rest}
use Rattle.rows.proofs.Readings.{part, part_length, part_part}
use Rattle.restrictions.specs.declared.Walk.{Walk}
use Rattle.meaning.specs.Sites.{Site, collect_call_sites, condition_sites}
use Rattle.told.specs.Numbered.{held_by, own_sites}
use Rattle.restrictions.specs.Entries.{Appended}
use Rattle.restrictions.specs.Records.{terms, conditions, put_records, record_sites, RecordsAt, Collected}
use Rattle.restrictions.specs.Numbered.{SentenceCollected}
use Rattle.restrictions.proofs.Inside.{pattern-sites}
use Rattle.restrictions.proofs.Appended.{held-append, held-length, appended-length, appended_then}

-- A sentence's own sites are those of its result and then of its conditions.
own_is : (x : Sentence) → collect_call_sites x.pattern ≡ [] → own_sites x ≡ record_sites (terms x.result) ++ record_sites (conditions x.conditions)
unfolding own_sites record_sites
own_is x e = ap (λ (l : List Site). l ++ (collect_call_sites x.result ++ condition_sites x.conditions)) e

module _ (b : List ℕ) (at : ℕ) (x : SentenceAt (drop at b)) where
  abbrev pub sentence-there : SentenceAt (part b at)
  sentence-there = record { sentence = x.sentence; rest = x.rest; is = part_rest b at ∙ x.is; valid-pattern = x.valid-pattern; valid-conditions = x.valid-conditions; valid-result = x.valid-result }

  pub sentence-within : at < length b
  unfolding put_sentence
  sentence-within =
      omega (arith, length-drop at b, ap length x.is, head-length x.sentence.head (put_terms x.sentence.pattern (put_conditions x.sentence.conditions (12 ∷ put_terms x.sentence.result x.rest))))

  own-sites : own_sites x.sentence ≡ record_sites (terms x.sentence.result) ++ record_sites (conditions x.sentence.conditions)
  own-sites = own_is x.sentence (pattern-sites x.sentence.pattern 0 x.valid-pattern)

  own-length : length (own_sites x.sentence) ≡ length (record_sites (terms x.sentence.result)) + length (record_sites (conditions x.sentence.conditions))
  own-length = ap length own-sites ∙ length-append (record_sites (terms x.sentence.result)) (record_sites (conditions x.sentence.conditions))

  pub place-fits : {i : ℕ} {l : List ℕ} → Passes (part b at) i l → at + i ≤ length b
  place-fits h = omega (arith, h.fits, part_length b at, sentence-within)

  module _ (i : ℕ) (h : Passes (part b at) i (put_terms x.sentence.result x.rest)) where
    pub result-is : part b (at + i) ≡ put_records (terms x.sentence.result) x.rest
    unfolding put_records
    result-is = sym (part_part b at i) ∙ h.left

    abbrev pub result-records : RecordsAt (part b (at + i))
    result-records = record { records = terms x.sentence.result; rest = x.rest; is = result-is; valid = x.valid-result }

    pub result-room : (n m : ℕ) → n + length (own_sites x.sentence) ≤ m → n + length (record_sites result-records.records) ≤ m
    result-room n m l = omega (arith, l, own-length)

    module _ {k : ℕ} {old : List ℕ} {n : ℕ} {new : List ℕ} {a : Walk} (z : Collected b (part b (at + i)) k old n new a result-records) where
      pub result-end : at + i + a.at ≤ length b
      result-end = omega (arith, z.fits, part_length b (at + i), place-fits h)

      module _ (j : ℕ) (q : Passes (part b at) j (put_conditions x.sentence.conditions (12 ∷ put_terms x.sentence.result x.rest))) where
        pub conditions-is : part b (at + j) ≡ put_records (conditions x.sentence.conditions) (put_terms x.sentence.result x.rest)
        unfolding put_records
        conditions-is = sym (part_part b at j) ∙ q.left

        abbrev pub conditions-records : RecordsAt (part b (at + j))
        conditions-records = record { records = conditions x.sentence.conditions; rest = put_terms x.sentence.result x.rest; is = conditions-is; valid = x.valid-conditions }

        pub conditions-room : n + length (own_sites x.sentence) ≤ length old → a.count + length (record_sites conditions-records.records) ≤ length new
        conditions-room l = omega (arith, l, own-length, appended-length z.appended, z.appended.count, z.appended.many, held-length k (record_sites (terms x.sentence.result)))

        pub sentence-collected : {last : List ℕ} {w v : Walk} → Collected b (part b (at + j)) k new a.count last w conditions-records → v.at ≡ at + i + a.at → v.count ≡ w.count → SentenceCollected b at k old n last v x
        sentence-collected {last} {w} y e f = record {
          appended = subst (λ (c : ℕ). Appended b old n c last (held_by k (own_sites x.sentence))) (sym f)
              (subst (Appended b old n w.count last) (sym (ap (held_by k) own-sites ∙ held-append k (record_sites (terms x.sentence.result)) (record_sites (conditions x.sentence.conditions)))) (appended_then z.appended y.appended));
          left = ap (λ (m : ℕ). drop m b) e ∙ (sym (part_rest b (at + i + a.at)) ∙ (sym (part_part b (at + i) a.at) ∙ z.left));
          fits = omega (arith, e, result-end);
        }
