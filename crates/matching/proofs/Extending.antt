-- A choice takes one term more: its binding, the older choices, and the matches.
use Prim.Native.Nat.{ℕ, ◌+◌, ◌-◌, ◌<◌, ◌≤◌}
use native.Mathlib.Omega.{arith}
use mathlib.Core.Path.{◌≡◌, refl, sym, ap, ap₂, subst, ◌∙◌}
use mathlib.Core.Logic.{inl, inr}
use mathlib.Core.List.{List, [], ◌∷◌, ◌++◌, append_assoc}
use lib.ListN.{length, get_or, take, drop, length-append}
use lib.Seq.{drop-drop, take-add, take_at, drop_at, take-take}
use Rattle.program.specs.Syntax.{Kind, s_kind, t_kind, e_kind}
use Rattle.program.specs.Bytes.{put16, get16}
use Rattle.program.specs.Encode.{put_terms}
use Rattle.patterns.specs.Expression.{Expression, void, atom, group, ◌⧺◌}
use Rattle.patterns.specs.Marks.{put_expression}
use Rattle.patterns.proofs.Marks.{joined_bytes}
use Rattle.meaning.specs.Match.{Binding, Bindings}
use Rattle.meaning.specs.Records.{bytes_of}
use Rattle.meaning.specs.Inputs.{tokens}
use Rattle.meaning.proofs.Inputs.{ValidExpression}
use Rattle.meaning.proofs.Tokens.{tokens-before}
use Rattle.meaning.proofs.Matching.{pair, bound, matches_all}
use Rattle.meaning.proofs.Searching.{Site, Choice, choice, bindings_at, remaining, further, onward, onward_first}
use Rattle.text.specs.Fill.{Emitted}
use Rattle.text.proofs.Fill.{emitted-length}
use Rattle.values.specs.Values.{LevelAt, rest_of}
use Rattle.matching.specs.Bindings.{VariableAt, RunAt}
use Rattle.matching.specs.Pairs.{put_patterns, put_behind, PairsAt}
use Rattle.matching.specs.Choices.{ChoiceAt, ByKind, ChoicesAt, Newest}
use Rattle.matching.specs.Took.{Took}
use Rattle.matching.proofs.Held.{Apart, emitted-apart, number_above, number-below, part_below, number-length, StandsAt, extended_run, written-number}
use Rattle.matching.proofs.Meeting.{slice_length, drop-take}
use Rattle.matching.proofs.Taking.{behind_tokens, behind-tokens, behind_closed, behind-variable}
use Rattle.matching.proofs.Splitting.{pairs-kept, front_bytes, front-size, valid-front}

-- ---- older choices stay

module _ {work new : List ℕ} {lo hi : ℕ} (a : Apart work new lo hi) (body rest : List ℕ) (top : ℕ) (below : top ≤ lo) where
  choice-kept : (at : ℕ) (x : Binding) (b : Bindings) (c : Choice) → hi ≤ at → ChoiceAt body work rest top at x b c → ChoiceAt body new rest top at x b c
  choice-kept at x b c g h =
      let n0 = number_above a at g in
      let n4 = number_above a (at + 4) (omega arith) in
      let n6 = number_above a (at + 6) (omega arith) in
      let o = h.ordered in
      let w = h.within in
      record {
        name = h.name;
        before = h.before;
        taken = h.taken;
        pattern = subst (λ (i : ℕ). (v : VariableAt (drop i body)) → v.rest ≡ put_terms c.site.behind (put_patterns c.site.pending rest)) (sym n0) h.pattern;
        value = ap₂ (λ (i j : ℕ). take (i - j) (drop j new)) n6 n4 ∙ (part_below a (get16 work (at + 4)) (get16 work (at + 6) - get16 work (at + 4)) (omega (arith, o, w, below)) ∙ h.value);
        ordered = omega (arith, o, n4, n6);
        within = omega (arith, w, n6);
        valid = h.valid;
        valid-more = h.valid-more;
      }

  pub choices-kept : (stop : ℕ) (b : Bindings) (at : ℕ) (cs : List Choice) → hi ≤ at → ChoicesAt body work rest top stop b at cs → ChoicesAt body new rest top stop b at cs
  choices-kept stop [] at cs g k = k
  choices-kept stop (x ∷ b) at cs g (inl k) = inl k
  choices-kept stop (x ∷ b) at cs g (inr k) = inr (k.0, by x.kind (λ c. choice-kept at x b c g) (λ ds. choices-kept stop b (at + 8) ds (omega arith)) cs k.1)
    where
      by : (i : Kind) {P Q : Choice → Type 0} {R S : List Choice → Type 0} → ((c : Choice) → P c → Q c) → ((ds : List Choice) → R ds → S ds) → (cs : List Choice) → ByKind i P R cs → ByKind i Q S cs
      by s_kind f g cs k = g cs k
      by t_kind f g cs k = g cs k
      by e_kind f g cs k = (k.0, k.1, k.2, f k.0 k.3, g k.1 k.4)

choices-within : (body work rest : List ℕ) (top stop : ℕ) (b : Bindings) (at : ℕ) (cs : List Choice) → ChoicesAt body work rest top stop b at cs → at ≤ stop
choices-within body work rest top stop [] at cs k = let z = k.0 in omega (arith, z)
choices-within body work rest top stop (x ∷ b) at cs (inl k) = let z = k.0 in omega (arith, z)
choices-within body work rest top stop (x ∷ b) at cs (inr k) = let z = k.0 in omega (arith, z)

-- ---- the first term of what is left

pub record First (v : Expression) : Type 0 where
  pub term : Expression
  pub whole : v ≡ term ⧺ rest_of v
  pub further-is : (c : Site) (t : Expression) → further c t v ≡ onward c (t ⧺ term) (rest_of v)

first : (v : Expression) → (v ≡ void → ⊥) → First v
unfolding rest_of ◌⧺◌ further
first void h = absurd (h refl)
first (atom x w) h = record { term = atom x void; whole = refl; further-is = λ c t. refl }
first (group u w) h = record { term = group u void; whole = refl; further-is = λ c t. refl }

valid-join : (v w : Expression) → ValidExpression v → ValidExpression w → ValidExpression (v ⧺ w)
unfolding ◌⧺◌
valid-join void w h g = g
valid-join (atom x v) w h g = (h.0, valid-join v w h.1 g)
valid-join (group u v) w h g = (h.0, valid-join v w h.1 g)

-- ---- one term more

module _ {body work rest : List ℕ} {top frame stop at : ℕ} {cs : List Choice} (n : Newest body work rest top frame stop cs at) (room : frame ≤ length work) (low : top ≤ at) where
  pub choice-pairs : (next : ℕ) → drop next body ≡ n.run.1.variable.rest → PairsAt body work next (get16 work (at + 4)) (get16 work (at + 6)) rest (pair n.choice.site.behind n.choice.left) n.choice.site.pending
  choice-pairs next e = record {
    pattern = e ∙ n.here.pattern n.run.1.variable;
    value = n.here.value;
    ordered = n.here.ordered;
    within = let w = n.here.within in let r = n.run.0 in omega (arith, w, r, room, low);
    valid = n.here.valid;
    valid-more = n.here.valid-more;
  }

  module _ (next r : ℕ) (behind-it : drop next body ≡ n.run.1.variable.rest) (size : r + bytes_of (rest_of n.choice.left) ≡ bytes_of n.choice.left) where
    f : First n.choice.left
    f = first n.choice.left n.some_left

    text : take (get16 work (at + 6) - get16 work (at + 4)) (drop (get16 work (at + 4)) work) ≡ put_expression f.term [] ++ put_expression (rest_of n.choice.left) (put_behind n.choice.site.pending)
    text = n.here.value ∙ (ap (λ (y : Expression). put_expression y (put_behind n.choice.site.pending)) f.whole ∙ front_bytes f.term (rest_of n.choice.left) (put_behind n.choice.site.pending))

    sized : length (put_expression f.term []) ≡ r
    sized = front-size f.term (rest_of n.choice.left) r (size ∙ ap bytes_of f.whole)

    pub short : get16 work (at + 4) + r ≤ get16 work (at + 6)
    short =
        let z = ap length text in
        let a = length-append (put_expression f.term []) (put_expression (rest_of n.choice.left) (put_behind n.choice.site.pending)) in
        let l = slice_length (choice-pairs next behind-it) in
        let s = sized in
        let o = n.here.ordered in
        omega (arith, z, a, l, s, o)

    valid_parts : ValidExpression f.term × ValidExpression (rest_of n.choice.left)
    valid_parts = valid-front f.term (rest_of n.choice.left) (subst ValidExpression f.whole n.here.valid.1)

    -- The value with the term, in the state.
    stands : StandsAt work top (get16 work (at + 2)) (get16 work (at + 4) + r) (n.first.value ⧺ f.term)
    stands =
        let h = n.run.1.holds in
        let o = h.ordered in
        let w = n.here.within in
        let l = short in
        let i : get16 work (at + 4) + r - get16 work (at + 2) ≡ get16 work (at + 4) - get16 work (at + 2) + r = omega arith in
        let j : get16 work (at + 2) + (get16 work (at + 4) - get16 work (at + 2)) ≡ get16 work (at + 4) = omega arith in
        let t : take r (drop (get16 work (at + 4)) work) ≡ put_expression f.term [] =
        sym (take-take r (get16 work (at + 6) - get16 work (at + 4)) (drop (get16 work (at + 4)) work) (omega arith)) ∙ (ap (take r) text ∙ take_at (put_expression f.term []) (put_expression (rest_of n.choice.left) (put_behind n.choice.site.pending)) r sized) in
        record {
          ordered = omega arith;
          within = omega arith;
          is =
              ap (λ (k : ℕ). take k (drop (get16 work (at + 2)) work)) i
              ∙ (take-add (get16 work (at + 4) - get16 work (at + 2)) r (drop (get16 work (at + 2)) work)
              ∙ (ap₂ (λ (x y : List ℕ). x ++ y) h.is (ap (take r) (drop-drop (get16 work (at + 4) - get16 work (at + 2)) (get16 work (at + 2)) work ∙ ap (λ (k : ℕ). drop k work) j) ∙ t) ∙ sym (joined_bytes n.first.value f.term)));
          valid = valid-join n.first.value f.term h.valid valid_parts.0;
        }

    left-pairs : PairsAt body work next (get16 work (at + 4) + r) (get16 work (at + 6)) rest (pair n.choice.site.behind (rest_of n.choice.left)) n.choice.site.pending
    left-pairs =
        let p = choice-pairs next behind-it in
        let l = short in
        record {
          pattern = p.pattern;
          value =
              ap (λ (k : ℕ). take k (drop (get16 work (at + 4) + r) work)) (let z : get16 work (at + 6) - (get16 work (at + 4) + r) ≡ get16 work (at + 6) - get16 work (at + 4) - r = omega arith in z)
              ∙ (ap (take (get16 work (at + 6) - get16 work (at + 4) - r)) (sym (drop-drop r (get16 work (at + 4)) work))
              ∙ (sym (drop-take r (get16 work (at + 6) - get16 work (at + 4)) (drop (get16 work (at + 4)) work)) ∙ (ap (drop r) text ∙ drop_at (put_expression f.term []) (put_expression (rest_of n.choice.left) (put_behind n.choice.site.pending)) r sized)));
          ordered = l;
          within = p.within;
          valid = (n.here.valid.0, valid_parts.1);
          valid-more = n.here.valid-more;
        }

    pub took : {new : List ℕ} {q : ℕ} → Emitted work (at + 4) (put16 (get16 work (at + 4) + r) []) q new → top < 65536 → Took body new rest top frame stop cs at (record { p = next; v = get16 work (at + 4) + r; end = get16 work (at + 6) })
    unfolding remaining
    took {new} {q} e small =
        let s = n.choice.site in
        let t = n.choice.taken ⧺ f.term in
        let v = rest_of n.choice.left in
        let k = number-length (get16 work (at + 4) + r) in
        let long : at + 8 ≤ length work = (let z = n.run.0 in omega (arith, z, room)) in
        let a = emitted-apart e (omega (arith, long, k)) in
        let w = n.here.within in
        let l = short in
        let bs : (record { kind = n.first.kind; name = n.first.name; value = n.first.value ⧺ f.term } ∷ n.more) ≡ bindings_at s t = (λ i. record { kind = n.kind i; name = sym n.here.name i; value = sym n.here.taken i ⧺ f.term } ∷ sym n.here.before i) in
        let run = extended_run n.more n.first (get16 work (at + 4) + r) e low long (omega (arith, l, w, small)) n.run stands in
        let p = pairs-kept a (omega (arith, w, low)) (emitted-length e) left-pairs in
        let n0 = number-below a at (omega arith) in
        let n4 = written-number (get16 work (at + 4) + r) e (omega (arith, long)) (omega (arith, l, w, small)) in
        let n6 = number_above a (at + 6) (omega (arith, k)) in
        let here : ChoiceAt body new rest top at (bound e_kind s.name t) s.before (choice s t v) = record {
          name = refl;
          before = refl;
          taken = refl;
          pattern = subst (λ (i : ℕ). (y : VariableAt (drop i body)) → y.rest ≡ put_terms s.behind (put_patterns s.pending rest)) (sym n0) n.here.pattern;
          value = ap₂ (λ (i j : ℕ). take (i - j) (drop j new)) n6 n4 ∙ p.value;
          ordered = omega (arith, n4, n6, l);
          within = omega (arith, n6, w);
          valid = (n.here.valid.0, valid_parts.1);
          valid-more = n.here.valid-more;
        } in
        let older = subst (λ (b : Bindings). ChoicesAt body new rest top stop b (at + 8) n.others) (sym n.here.before) (choices-kept a body rest top (omega (arith, low)) stop n.more (at + 8) n.others (omega (arith, k)) n.behind) in
        record {
          site = s;
          taken = t;
          left = v;
          others = n.others;
          run = subst (λ (b : Bindings). RunAt body new top frame b at) bs run;
          choices = inr (choices-within body work rest top stop n.more (at + 8) n.others n.behind, (choice s t v, n.others, refl, here, older));
          pairs = p;
          same =
              n.same
              ∙ (ap (λ (m : List Bindings). m ++ remaining n.others) (f.further-is s n.choice.taken ∙ onward_first s t v)
              ∙ append_assoc (matches_all (pair s.behind v ∷ s.pending) (bindings_at s t)) (further s t v) (remaining n.others));
        }

  own-next : drop (get16 work at + 10 + get_or body (get16 work at + 9) 0) body ≡ n.run.1.variable.rest
  own-next = (behind-variable body (get16 work at) n.run.1.variable _ refl).0

  pub more-short : (r : ℕ) → r + bytes_of (rest_of n.choice.left) ≡ bytes_of n.choice.left → get16 work (at + 4) + r ≤ get16 work (at + 6)
  more-short r size = short (get16 work at + 10 + get_or body (get16 work at + 9) 0) r own-next size

-- ---- as the code has the numbers

module _ {body work rest : List ℕ} {top frame stop at : ℕ} {cs : List Choice} (n : Newest body work rest top frame stop cs at) where
  unfoldable pub level_of : {until end : ℕ} → until ≡ get16 work (at + 4) → end ≡ get16 work (at + 6) → LevelAt (take (end - until) (drop until work))
  level_of e f = record {
    level = n.choice.left;
    behind = behind_tokens n.choice.site.pending;
    is =
        ap₂ (λ (j i : ℕ). tokens (take (i - j) (drop j work))) e f
        ∙ (ap tokens n.here.value ∙ tokens-before n.choice.left n.here.valid.1 (put_behind n.choice.site.pending) (behind_tokens n.choice.site.pending) (behind-tokens n.choice.site.pending n.here.valid-more));
    ends = behind_closed n.choice.site.pending;
  }

  pub variable_of : {place : ℕ} → place ≡ get16 work at → VariableAt (drop place body)
  variable_of e = subst (λ (i : ℕ). VariableAt (drop i body)) (sym e) n.run.1.variable

  pub took_so :
      frame ≤ length work → top ≤ at → top < 65536 → (r : ℕ) {place until end next q : ℕ} {new : List ℕ} → place ≡ get16 work at → until ≡ get16 work (at + 4) → end ≡ get16 work (at + 6)
      → r + bytes_of (rest_of n.choice.left) ≡ bytes_of n.choice.left → Emitted work (at + 4) (put16 (until + r) []) q new
      → ((x : VariableAt (drop place body)) → (drop next body ≡ x.rest) × (next ≤ length body))
      → Took body new rest top frame stop cs at (record { p = next; v = until + r; end = end })
  took_so room low small r {place} {until} {end} {next} {q} {new} e0 e4 e6 size e behind =
      let b = (subst (λ (i : ℕ). (x : VariableAt (drop i body)) → (drop next body ≡ x.rest) × (next ≤ length body)) e0 behind n.run.1.variable).0 in
      let w = subst (λ (i : ℕ). Emitted work (at + 4) (put16 (i + r) []) q new) e4 e in
      subst (Took body new rest top frame stop cs at) (λ i. record { p = next; v = sym e4 i + r; end = sym e6 i }) (took n room low next r b size w small)
