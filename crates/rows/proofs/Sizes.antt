-- What two brackets hold, and that it is smaller: the measure of the cycle. How many terms a list has, and their bytes: the room for a table.
use Prim.Native.Nat.{ℕ, zero, suc, ◌+◌, ◌-◌, ◌*◌, ◌<◌, ◌≤◌}
use native.Mathlib.Omega.{arith}
use mathlib.Core.Path.{◌≡◌, refl, sym, ap, ap₂, ◌∙◌, subst}
use mathlib.Core.List.{List}
use lib.ListN.{length, drop, get_or}
use lib.Seq.{drop-drop}
use Rattle.program.specs.Syntax.{Terms, nil, symbol, variable, bracket, call, block}
use Rattle.program.specs.Bytes.{put_name}
use Rattle.program.specs.Encode.{put_terms}
use Rattle.program.specs.Limits.{Mode, ValidTerms}
use Rattle.program.proofs.Lengths.{span-length, name-length, symbol-length}
use Rattle.image.specs.Parts.{TermsAt, tail}
use Rattle.symbols.proofs.Parts.{part_rest}
use Rattle.patterns.specs.Search.{One, View, view, size, start, overlap_of_terms, sequence}
use Rattle.patterns.proofs.Size.{Below, view-below}
use Rattle.rows.specs.Parts.{HeadAt}
use Rattle.rows.specs.Cells.{code_of, PairTold}
use Rattle.rows.specs.Rows.{read_at, behind_terms, PatternFrom, Stands, Listed, HeadsTold}
use Rattle.rows.proofs.Readings.{part, mark_in}
use Rattle.rows.proofs.Heads.{bracket-at}
use Rattle.rows.proofs.Words.{cell_verdict}
use Rattle.rows.proofs.Places.{reading_part, read_is, place-some, place-one}

tail-size : (t : Terms) → size (tail t) ≤ size t
unfolding size tail
tail-size nil = omega arith
tail-size (symbol s x r) = omega arith
tail-size (variable s k n r) = omega arith
tail-size (bracket s i r) = omega arith
tail-size (call s f a r) = omega arith
tail-size (block s a b r) = omega arith

pub behind-size : (n : ℕ) (t : Terms) → size (behind_terms n t) ≤ size t
unfolding behind_terms
behind-size zero t = omega arith
behind-size (suc n) t = omega (arith, tail-size (behind_terms n t), behind-size n t)

pub stands-size : {b : List ℕ} {q : ℕ} (n : ℕ) (t : Terms) → Stands b q (behind_terms n t) → size (read_at b q) ≤ size t
stands-size n t s = omega (arith, ap size s.is, behind-size n t)

-- A bracket at p, and what it holds.
pub record Inside (b : List ℕ) (p : ℕ) : Type 0 where
  pub from : PatternFrom b (p + 9)
  pub is : view (read_at b p) ≡ View.one (One.brackets (read_at b (p + 9))) (tail (read_at b p))
  pub less : size (read_at b (p + 9)) < size (read_at b p)

inner_part : (b : List ℕ) (p : ℕ) → part (part b p) 9 ≡ drop (p + 9) b
inner_part b p = part_rest (part b p) 9 ∙ ap (drop 9) (part_rest b p) ∙ drop-drop 9 p b

inside_sum : (t i r : Terms) → view t ≡ View.one (One.brackets i) r → size i + size r < size t
inside_sum t i r e = subst (Below (size t)) e (view-below t)

inside_less : (t i r : Terms) → view t ≡ View.one (One.brackets i) r → size i < size t
inside_less t i r e = omega (arith, inside_sum t i r e)

pub inside_at : {b : List ℕ} {p : ℕ} → PatternFrom b p → get_or b p 0 ≡ 7 → Inside b p
inside_at {b} {p} s m =
    let h = place-one s (λ e. omega (arith, e, m)) (λ e. omega (arith, e, m)) in
    let x : HeadAt (part b p) = record { pattern = reading_part s; head = h.0; rest = tail (read_at b p); is = h.1 } in
    let k = bracket-at x (mark_in b p ∙ m) in
    let i = k.inner in
    let inner : PatternFrom b (p + 9) = record { pattern = record { terms = i.terms; rest = i.rest; is = sym (inner_part b p) ∙ i.is; valid = i.valid } } in
    let e : view (read_at b p) ≡ View.one (One.brackets (read_at b (p + 9))) (tail (read_at b p)) = h.1 ∙ ap (λ (o : One). View.one o (tail (read_at b p))) (k.is ∙ ap One.brackets (sym (read_is inner))) in
    record { from = inner; is = e; less = inside_less (read_at b p) (read_at b (p + 9)) (tail (read_at b p)) e }

-- The verdict on two brackets, in the cells of what they hold.
pub brackets-told : {b : List ℕ} {p q w : ℕ} → Inside b p → Inside b q → PairTold (read_at b (p + 9)) (read_at b (q + 9)) w → HeadsTold (read_at b p) (read_at b q) w
unfolding overlap_of_terms
brackets-told {b} {p} {q} {w} x y t = record {
  first = λ u v d e. cell_verdict (read_at b (p + 9)) (read_at b (q + 9)) t.first ∙ ap code_of (held u v (same d x.is) (same e y.is)).0;
  second = λ u v d e. cell_verdict (read_at b (q + 9)) (read_at b (p + 9)) t.second ∙ ap code_of (held u v (same d x.is) (same e y.is)).1;
}
  where
    same : {s : View} {u v : One} {r : Terms} → s ≡ View.one u r → s ≡ View.one v r → v ≡ u
    same d e = cc

    held : (u v : One) → One.brackets (read_at b (p + 9)) ≡ u → One.brackets (read_at b (q + 9)) ≡ v
        → ((sequence start (read_at b (p + 9)) (read_at b (q + 9))).verdict ≡ overlap_of_terms sequence u v) × ((sequence start (read_at b (q + 9)) (read_at b (p + 9))).verdict ≡ overlap_of_terms sequence v u)
    held u v d e = (ap₂ (overlap_of_terms sequence) d e, ap₂ (overlap_of_terms sequence) e d)

-- ---- room

-- A sequence that is not empty has a term more than its tail.
some_size : (t : Terms) → (view t ≡ View.nothing → ⊥) → size (tail t) < size t
unfolding size tail view
some_size nil d = absurd (d refl)
some_size (symbol s x r) d = omega arith
some_size (variable s k n r) d = omega arith
some_size (bracket s i r) d = omega arith
some_size (call s f a r) d = omega arith
some_size (block s a b r) d = omega arith

pub place-size : {b : List ℕ} {p : ℕ} → PatternFrom b p → (get_or b p 0 ≡ 15 → ⊥) → size (tail (read_at b p)) < size (read_at b p)
place-size {b} {p} s m = some_size (read_at b p) (place-some s m)

module _ {b m : List ℕ} {at n : ℕ} {t : Terms} (h : Listed b m at n t) where
  step_size : (j : ℕ) → j < n → size (behind_terms (suc j) t) < size (behind_terms j t)
  unfolding behind_terms
  step_size j l = some_size (behind_terms j t) (subst (λ (u : Terms). view u ≡ View.nothing → ⊥) (h.stands j l).is (place-some (h.stands j l).from (h.stands j l).further))

  -- As many terms as have been passed, at least.
  passed_size : (j : ℕ) → j ≤ n → j + size (behind_terms j t) ≤ size t
  unfolding behind_terms
  passed_size zero l = omega arith
  passed_size (suc j) l = omega (arith, step_size j (omega (arith, l)), passed_size j (omega (arith, l)))

  -- As many as are left, at least, k before the end.
  left-size : (k j : ℕ) → j + k ≡ n → k ≤ size (behind_terms j t)
  left-size zero j e = omega arith
  left-size (suc k) j e = omega (arith, step_size j (omega (arith, e)), left-size k (suc j) (omega (arith, e)))

  pub listed-size : n ≤ size t
  listed-size = omega (arith, passed_size n (omega arith))

  -- The terms of the list, and what a bracket in it holds.
  pub inside_size : (j : ℕ) → j < n → get_or b (get_or m (at + j) 0) 0 ≡ 7 → n + size (read_at b (get_or m (at + j) 0 + 9)) ≤ size t
  unfolding behind_terms
  inside_size j l e =
      let s = h.stands j l in
      let i = inside_at s.from e in
      let q = get_or m (at + j) 0 in
      let below : size (read_at b (q + 9)) + size (tail (read_at b q)) < size (read_at b q) = inside_sum (read_at b q) (read_at b (q + 9)) (tail (read_at b q)) i.is in
      omega (arith, below, ap size s.is, ap (λ (u : Terms). size (tail u)) s.is, passed_size j (omega (arith, l)), left-size (n - suc j) (suc j) (omega (arith, l)))

-- A term takes ten bytes at least, so that a pattern has an entry of room for every five of its bytes.
terms-bytes : (t : Terms) (k : List ℕ) (d : ℕ) → ValidTerms t Mode.pattern d → 10 * size t + length k < length (put_terms t k)
unfolding size put_terms
terms-bytes nil k d h = omega arith
terms-bytes (symbol s x r) k d h = omega (arith, symbol-length s x (put_terms r k), terms-bytes r k d h.2)
terms-bytes (variable s v n r) k d h = omega (arith, span-length s (put_name n (put_terms r k)), name-length n (put_terms r k), terms-bytes r k d h.2)
terms-bytes (bracket s i r) k d h = omega (arith, span-length s (put_terms i (put_terms r k)), terms-bytes i (put_terms r k) (suc d) h.2, terms-bytes r k d h.3)
terms-bytes (call s f a r) k d h = absurd h.2
terms-bytes (block s a b r) k d h = absurd h.2

pub pattern-bytes : {s : List ℕ} (x : TermsAt Mode.pattern s) → 10 * size x.terms + length x.rest < length s
pattern-bytes x = omega (arith, ap length x.is, terms-bytes x.terms x.rest 0 x.valid)
