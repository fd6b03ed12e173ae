-- Functions, sentences and sites of a body in work: their room, and that all of them stand there.
use Prim.Native.Nat.{ℕ, zero, suc, ◌+◌, ◌-◌, ◌*◌, ◌/◌, ◌<◌, ◌≤◌}
use native.Mathlib.Omega.{arith}
use mathlib.Core.Path.{◌≡◌, sym, ap, subst, ◌∙◌}
use mathlib.Core.List.{List, [], ◌∷◌, ◌++◌}
use mathlib.Core.Option.{some}
use lib.ListN.{length, get_or, get_elem?, take, drop, length-append, length-drop, get_or-append}
use lib.Seq.{length-take-le, get_or-append-add, get_or-take}
use Rattle.program.specs.Syntax.{Function, Program}
use Rattle.program.specs.Automaton.{Stack, Read, run}
use Rattle.program.specs.Sentences.{own_sentences}
use Rattle.image.specs.Parts.{FunctionsAt}
use Rattle.program.proofs.Complete.{run-functions}
use Rattle.told.specs.Numbered.{Held, held_sites, sentences_before, sites_of}
use Rattle.restrictions.specs.Entries.{Entry, SitesIn, Appended}
use Rattle.restrictions.specs.Numbered.{RoomForFunctions}
use Rattle.restrictions.proofs.Bytes.{functions-bytes}
use Rattle.told.proofs.Numbered.{numbered-length}
use Rattle.program.proofs.Own.{own-counted}
use Rattle.index.specs.Tables.{FunctionEntry, SentenceEntry, FunctionsIn, SentencesIn, SitesAt}
use Rattle.index.proofs.First.{element_below}
use Rattle.cleaning.specs.Prepared.{BodyOf, Enough, ProgramListed}

-- The bytes say which functions they hold.
one-functions : {s : List ℕ} (h g : FunctionsAt s) → h.functions ≡ g.functions
one-functions h g =
    let e : Read.value h.functions ≡ Read.value g.functions = sym (run-functions h.functions h.valid) ∙ (ap (run Stack.functions 0) (sym h.is ∙ g.is) ∙ run-functions g.functions g.valid) in
    cc

-- Sites in order are the sites by their number.
site_in : (b es : List ℕ) (xs : List Held) (i : ℕ) (x : Held) → SitesIn b es xs → get_elem? xs i ≡ some x → Entry b (get_or es i 0) x
site_in b [] [] i x h q = let z : ◌≡◌ {A = ℕ} 0 1 = cc in absurd (omega arith)
site_in b [] (y ∷ xs) i x h q = absurd h
site_in b (e ∷ es) [] i x h q = absurd h
site_in b (e ∷ es) (y ∷ xs) zero x h q = let z : y ≡ x = cc in subst (Entry b e) z h.0
site_in b (e ∷ es) (y ∷ xs) (suc i) x h q = site_in b es xs i x h.1 q

-- A part from a on that is put back behind what stands before it.
module _ (xs ys post : List ℕ) (a : ℕ) (l : a ≤ length xs) where
  put_before : (k : ℕ) → k < a → get_or (take a xs ++ (ys ++ post)) k 0 ≡ get_or xs k 0
  put_before k h = get_or-append (take a xs) (ys ++ post) 0 k (omega (arith, h, length-take-le a xs l)) ∙ get_or-take a xs k 0 h

  put_within : (i : ℕ) → i < length ys → get_or (take a xs ++ (ys ++ post)) (a + i) 0 ≡ get_or ys i 0
  put_within i h =
      ap (λ (k : ℕ). get_or (take a xs ++ (ys ++ post)) (k + i) 0) (sym (length-take-le a xs l))
      ∙ (get_or-append-add (take a xs) (ys ++ post) i 0 ∙ get_or-append ys post 0 i h)

  sites_put : {b part : List ℕ} {r : ℕ} {held : List Held} → Appended b part 0 r ys held → SitesAt b held (take a xs ++ (ys ++ post)) a
  sites_put {b} {part} {r} {held} p = record {
    entry = λ i x q.
        let u : i < length p.entries = omega (arith, element_below held i x q, p.many) in
        let s : length ys ≡ length (p.entries ++ drop r part) = ap length p.is in
        let v : get_or ys i 0 ≡ get_or p.entries i 0 = ap (λ (z : List ℕ). get_or z i 0) p.is ∙ get_or-append p.entries (drop r part) 0 i u in
        subst (λ (k : ℕ). Entry b k x) (sym (put_within i (omega (arith, u, s, length-append p.entries (drop r part))) ∙ v)) (site_in b p.entries held i x p.named q);
  }

module _ {b m : List ℕ} {from functions sentences : ℕ} (enough : Enough b m) {w : Program} (d : BodyOf b from w) (fc : length w.functions ≡ functions) (sc : length (own_sentences w.functions) ≡ sentences) where
  same : (h : FunctionsAt (drop from b)) → h.functions ≡ w.functions
  same h = one-functions h d.reading ∙ d.is

  pub body-room : 3 * functions + 2 * sentences + (sentences + 31) / 32 + 3 * length (sites_of w) < length m
  body-room =
      let h = d.reading in
      let x = functions-bytes h.functions h.valid in
      let y : length (drop from b) ≡ _ = ap length h.is in
      let n : length (sites_of w) ≡ _ = ap (λ (fs : List Function). length (held_sites 0 (own_sentences fs))) (sym d.is) ∙ numbered-length 0 h.functions in
      let f : length h.functions ≡ functions = ap length d.is ∙ fc in
      let s : length (own_sentences h.functions) ≡ sentences = ap (λ (fs : List Function). length (own_sentences fs)) d.is ∙ sc in
      omega (arith, x, y, n, f, s, own-counted h.functions, length-drop from b, enough.enough)

  pub functions-room : (k : ℕ) → k ≡ length m → (h : FunctionsAt (drop from b)) → (length h.functions ≤ 2 * functions) × (2 * functions + length (own_sentences h.functions) ≤ k)
  functions-room k e h =
      let f : length h.functions ≡ functions = ap length (same h) ∙ fc in
      let s : length (own_sentences h.functions) ≡ sentences = ap (λ (fs : List Function). length (own_sentences fs)) (same h) ∙ sc in
      (omega (arith, f), omega (arith, s, e, body-room))

  abbrev calls : ℕ
  calls = 2 * functions + 2 * sentences + (sentences + 31) / 32

  module _ (m₂ : List ℕ) (size : length m₂ ≡ length m) where
    pub calls-within : 2 * functions + 2 * sentences + (sentences + 31) / 32 ≤ length m₂
    calls-within = omega (arith, size, body-room)

    pub sites-room : RoomForFunctions b from 0 (length (take (length m₂ - (2 * functions + 2 * sentences + (sentences + 31) / 32)) (drop (2 * functions + 2 * sentences + (sentences + 31) / 32) m₂)))
    sites-room =
        let n : length (sites_of w) ≡ _ = ap (λ (fs : List Function). length (held_sites 0 (own_sentences fs))) (sym d.is) ∙ numbered-length 0 d.reading.functions in
        record {
          reading = d.reading;
          room = omega (arith, n, body-room, size, length-take-le (length m₂ - calls) (drop calls m₂) (omega (arith, length-drop calls m₂)));
        }

    pub program-listed : (m₁ ys post : List ℕ) {part : List ℕ} {r : ℕ}
        → ((k : ℕ) → 0 ≤ k → k < length m → get_or m₁ k 0 ≡ 0)
        → ((h : FunctionsAt (drop from b)) → FunctionsIn b h.functions m₂ 0)
        → ((h : FunctionsAt (drop from b)) → SentencesIn b (own_sentences h.functions) m₂ (2 * functions))
        → ((h : FunctionsAt (drop from b)) (s : ℕ) → s < length (own_sentences h.functions) → get_or m₂ (2 * functions + s) 0 < 32768)
        → ((h : FunctionsAt (drop from b)) → (length m₂ ≡ length m₁) × ((k : ℕ) → 2 * functions + length (own_sentences h.functions) ≤ k → get_or m₂ k 0 ≡ get_or m₁ k 0))
        → ((h : FunctionsAt (drop from b)) → Appended b part 0 r ys (held_sites 0 (own_sentences h.functions)))
        → length (take (2 * functions + 2 * sentences + (sentences + 31) / 32) m₂ ++ (ys ++ post)) ≡ length m
        → ProgramListed b w (take (2 * functions + 2 * sentences + (sentences + 31) / 32) m₂ ++ (ys ++ post)) (record { functions = functions; sentences = sentences; sites = r }) × (length (take (2 * functions + 2 * sentences + (sentences + 31) / 32) m₂ ++ (ys ++ post)) ≡ length m)
    program-listed m₁ ys post {part} {r} zeros fs ss fresh others sites long =
        let h = d.reading in
        let s : length (own_sentences h.functions) ≡ sentences = ap (λ (l : List Function). length (own_sentences l)) d.is ∙ sc in
        let fi : FunctionsIn b w.functions m₂ 0 = subst (λ (l : List Function). FunctionsIn b l m₂ 0) d.is (fs h) in
        let si : SentencesIn b (own_sentences w.functions) m₂ (2 * functions) = subst (λ (l : List Function). SentencesIn b (own_sentences l) m₂ (2 * functions)) d.is (ss h) in
        let p : Appended b part 0 r ys (sites_of w) = subst (λ (l : List Function). Appended b part 0 r ys (held_sites 0 (own_sentences l))) d.is (sites h) in
        let c : r ≡ length (sites_of w) = omega (arith, p.count, p.many) in (
          record {
            functions = fc;
            sentences = sc;
            sites = sym c;
            fits = omega (arith, long, c, body-room);
            small = omega (arith, long, enough.small);
            function = record { entry = λ f x q. subst (λ (v : ℕ). FunctionEntry b v x (sentences_before f w.functions)) (sym (put_before m₂ ys post calls calls-within (0 + f) (omega (arith, element_below w.functions f x q, fc)))) (fi.entry f x q) };
            sentence = record { entry = λ i x q. subst (λ (v : ℕ). SentenceEntry b v x) (sym (put_before m₂ ys post calls calls-within (2 * functions + i) (omega (arith, element_below (own_sentences w.functions) i x q, sc)))) (si.entry i x q) };
            site = sites_put m₂ ys post calls calls-within p;
            fresh = λ i u.
                let v = put_before m₂ ys post calls calls-within (2 * functions + i) (omega (arith, u)) in
                omega (arith, v, fresh h i (omega (arith, u, s)));
            asked = λ i u.
                put_before m₂ ys post calls calls-within (2 * functions + sentences + i) (omega (arith, u))
                ∙ ((others h).1 (2 * functions + sentences + i) (omega (arith, s)) ∙ zeros (2 * functions + sentences + i) (omega arith) (omega (arith, u, body-room)));
          },
          long,
        )
