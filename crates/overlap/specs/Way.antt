-- The way of a search that succeeds, by places of a body: at each split the end that meets the rest. And the splits that are
-- open while it is looked for.
use Rattle.std.specs.Prelude.{ℕ, zero, suc, ◌+◌, ◌*◌, ◌<◌, ◌≤◌, ◌≡◌, true, false, List, [], ◌∷◌, ◌⊎◌, length, get_or, drop, set}
use Rattle.program.specs.Syntax.{Terms}
use Rattle.program.specs.Encode.{put_terms}
use Rattle.program.specs.Limits.{Mode}
use Rattle.image.specs.Parts.{TermsAt, tail}
use Rattle.patterns.specs.declared.Verdict.{Verdict}
use Rattle.patterns.specs.declared.Verdict.TheVariants.{Disjoint, Overlap, Unknown}
use Rattle.patterns.specs.Search.{found, ends, splits_from, sequence}
use Rattle.overlap.specs.Steps.{is_overlap}
use Rattle.overlap.specs.declared.way.Lead.{Lead}
use Rattle.overlap.specs.declared.way.Pair.{Pair}
use Rattle.overlap.specs.declared.way.Turn.{Turn}

-- An end of a split, and the fuel with which it is entered.
pub record End : Type 0 where
  pub place : ℕ
  pub fuel : ℕ

-- The place behind the first term of the pattern at i.
pub record Next (b : List ℕ) (i k : ℕ) : Type 0 where
  pub there : TermsAt Mode.pattern (drop i b)
  pub is : drop k b ≡ put_terms (tail there.terms) there.rest
  pub within : k ≤ length b

-- The ends from that at i on, entered with the fuel f, do not meet p, up to the end e.
pub data Fails (b : List ℕ) (p : Terms) (e : End) : ℕ → ℕ → Type 0 where
  fails-none : Fails b p e e.fuel e.place
  fails_more : {f i k : ℕ} → (n : Next b i k) → (get_or b i 0 ≡ 15 → ⊥) → i < k → is_overlap (sequence f p n.there.terms).verdict ≡ false
      → Fails b p e (sequence f p n.there.terms).fuel k → Fails b p e f i

-- Of a split before the pattern at k, against that at j, the first end that meets is e.
pub record Taken (b : List ℕ) (k j f : ℕ) (e : End) : Type 0 where
  pub rest : TermsAt Mode.pattern (drop k b)
  pub end : TermsAt Mode.pattern (drop e.place b)
  pub fails : Fails b rest.terms e f j
  pub meets : is_overlap (sequence e.fuel rest.terms end.terms).verdict ≡ true

-- The patterns at i and j, searched with a fuel, take these ends at their first splits.
pub data Way (b : List ℕ) : List End → ℕ → ℕ → ℕ → Type 0 where
  way-any : {f i j : ℕ} → Way b [] f i j
  way-heads : {es : List End} {f i j k l : ℕ} → (get_or b i 0 ≡ 6 → ⊥) → (get_or b j 0 ≡ 6 → ⊥) → Next b i k → Next b j l → Way b es f k l → Way b es (suc f) i j
  way-first : {es : List End} {e : End} {f i j k : ℕ} → get_or b i 0 ≡ 6 → Next b i k → Taken b k j f e → Way b es e.fuel k e.place → Way b (e ∷ es) (suc f) i j
  way-second : {es : List End} {e : End} {f i j l : ℕ} → (get_or b i 0 ≡ 6 → ⊥) → get_or b j 0 ≡ 6 → Next b j l → Taken b l i f e → Way b es e.fuel l e.place → Way b (e ∷ es) (suc f) i j

-- ---- open splits, three entries each

abbrev pub end_at : List ℕ → ℕ → End
end_at m t = record { place = get_or m (t + 1) 0; fuel = get_or m (t + 2) 0 }

-- The ends in turn of n open splits, those from `from` on, before others.
unfoldable pub in_turn : List ℕ → ℕ → ℕ → List End → List End
in_turn m from zero es = es
in_turn m from (suc n) es = in_turn m from n (end_at m (from + 3 * n) ∷ es)

-- The search on the patterns at i and j with the fuel f has become the split before the pattern at `rest`, of which the ends
-- before that at `other` were Disjoint; that one is in turn with the fuel g.
pub record Leads (b : List ℕ) (f i j rest other g : ℕ) : Type 0 where
  pub first : TermsAt Mode.pattern (drop rest b)
  pub second : TermsAt Mode.pattern (drop other b)
  pub less : g < f
  pub whole : (x : TermsAt Mode.pattern (drop i b)) (y : TermsAt Mode.pattern (drop j b))
      → sequence f x.terms y.terms ≡ splits_from sequence first.terms (ends second.terms) Disjoint g
  pub way : (e : End) (es : List End) → Fails b first.terms e g other → (q : TermsAt Mode.pattern (drop e.place b))
      → is_overlap (sequence e.fuel first.terms q.terms).verdict ≡ true → Way b es e.fuel rest e.place → Way b (e ∷ es) f i j

-- From the patterns at p and q with a fuel, n splits are open, and the patterns at i and j with the fuel f are in turn.
pub data Trail (b m : List ℕ) (from fuel p q : ℕ) : ℕ → ℕ → ℕ → ℕ → Type 0 where
  trail-start : Trail b m from fuel p q 0 fuel p q
  trail_open : {n f i j g k l : ℕ} → Trail b m from fuel p q n f i j → Leads b f i j k l g
      → k ≡ get_or m (from + 3 * n) 0 → l ≡ get_or m (from + 3 * n + 1) 0 → g ≡ get_or m (from + 3 * n + 2) 0 → Trail b m from fuel p q (suc n) g k l

-- The same from anywhere.
pub record Trailing (b m : List ℕ) (from n f i j : ℕ) : Type 0 where
  pub fuel : ℕ
  pub left : ℕ
  pub right : ℕ
  pub trail : Trail b m from fuel left right n f i j

-- The patterns at i and j are Disjoint, and so much fuel is left.
abbrev pub Apart : List ℕ → ℕ → ℕ → ℕ → ℕ → Type 0
Apart b f i j g = (x : TermsAt Mode.pattern (drop i b)) (y : TermsAt Mode.pattern (drop j b)) → sequence f x.terms y.terms ≡ found Disjoint g

abbrev pub Met : List ℕ → ℕ → ℕ → ℕ → Type 0
Met b f i j = (x : TermsAt Mode.pattern (drop i b)) (y : TermsAt Mode.pattern (drop j b)) → is_overlap (sequence f x.terms y.terms).verdict ≡ true

-- The patterns in turn are Disjoint, from the patterns at p and q or from anywhere.
pub record Failing (b m : List ℕ) (from fuel p q n g : ℕ) : Type 0 where
  pub left : ℕ
  pub right : ℕ
  pub from-fuel : ℕ
  pub trail : Trail b m from fuel p q n from-fuel left right
  pub apart : Apart b from-fuel left right g

pub record Fallen (b m : List ℕ) (from n g : ℕ) : Type 0 where
  pub fuel : ℕ
  pub left : ℕ
  pub right : ℕ
  pub failing : Failing b m from fuel left right n g

abbrev pub lead_of : Verdict → ℕ → Lead
lead_of Disjoint f = Lead.Apart f
lead_of Overlap f = Lead.Met
lead_of Unknown f = Lead.Stuck

-- What the heads of two patterns lead to: nothing is said, an answer, or a split.
abbrev pub Told : List ℕ → ℕ → ℕ → ℕ → Lead → Type 0
Told b f i j Lead.Stuck = Unit {0}
Told b f i j Lead.Met = Met b f i j
Told b f i j (Lead.Apart g) = Apart b f i j g × (g < f)
Told b f i j (Lead.Split o) = Leads b f i j o.rest o.other o.fuel

-- After a turn of the search: it goes on, or the ends of its splits are a way.
abbrev pub Turned : List ℕ → List ℕ → ℕ → ℕ → ℕ → ℕ → Turn → Type 0
Turned b m from fuel p q (Turn.On s) = Trail b m from fuel p q s.height s.fuel s.left s.right
Turned b m from fuel p q (Turn.Ended n) = Way b (in_turn m from n []) fuel p q

-- What it goes on with: patterns, and less fuel, or the fuel that was left.
pub record Onto (b : List ℕ) (s : Pair) : Type 0 where
  pub first : TermsAt Mode.pattern (drop s.left b)
  pub second : TermsAt Mode.pattern (drop s.right b)

abbrev pub Goes : List ℕ → ℕ → Turn → Type 0
Goes b fuel (Turn.On s) = Onto b s × (s.fuel < fuel)
Goes b fuel (Turn.Ended n) = Unit {0}

abbrev pub GoesWith : List ℕ → ℕ → Turn → Type 0
GoesWith b fuel (Turn.On s) = Onto b s × (s.fuel ≡ fuel)
GoesWith b fuel (Turn.Ended n) = Unit {0}

abbrev pub height_of : Turn → ℕ
height_of (Turn.On s) = s.height
height_of (Turn.Ended n) = n

abbrev pub go_on : ℕ → ℕ → ℕ → ℕ → Turn
go_on i j f n = Turn.On (record { left = i; right = j; fuel = f; height = n })

-- A split at the entry t.
abbrev pub split_at : List ℕ → ℕ → ℕ → ℕ → ℕ → List ℕ
split_at m t i j f = set (set (set m t i) (t + 1) j) (t + 2) f

-- A split was opened at the top, or there was no room for it.
abbrev pub Opened : List ℕ → ℕ → ℕ → ℕ → ℕ → ℕ → Turn → List ℕ → Type 0
Opened m from n i j f r o =
    ((r ≡ go_on i j f (n + 1)) × (o ≡ split_at m (from + 3 * n) i j f) × (from + 3 * n + 3 ≤ length m)) ⊎ ((r ≡ Turn.Ended 0) × (o ≡ m))
