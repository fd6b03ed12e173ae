-- One expression token by token: what the loops of `levels` keep, and where they end.
use Prim.Native.Nat.{ℕ, zero, suc, ◌+◌, ◌-◌, ◌<◌, ◌≤◌}
use native.Mathlib.Omega.{arith}
use native.Mathlib.Nat.{add-zero}
use mathlib.Core.Path.{◌≡◌, refl, sym, ap, subst, ◌∙◌}
use mathlib.Core.Bool.{Bool, true, false}
use mathlib.Core.List.{List, [], ◌∷◌, ◌++◌, append-nil, append_assoc}
use mathlib.Core.Option.{Option, none, some, some-injective}
use lib.Dec.{eqb, ltb}
use lib.ListN.{length, get_or, drop, length-drop, length-append}
use lib.Seq.{drop-drop}
use borrow.Author.Tests.{eq-eqb, ne_eqb, ltb-true, ltb-false}
use Rattle.program.specs.Syntax.{Symbol, character, identifier, number}
use Rattle.program.specs.Bytes.{put32, put_span, put_name}
use Rattle.program.specs.Encode.{put_symbol}
use Rattle.patterns.specs.Expression.{Expression, void, atom, group}
use Rattle.patterns.specs.Marks.{zero_span, put_expression}
use Rattle.patterns.proofs.Marks.{expression-splits}
use Rattle.meaning.specs.Records.{bytes_of}
use Rattle.meaning.specs.Match.{same_expression}
use Rattle.meaning.specs.Inputs.{Token, Reading, first_token, tokens}
use Rattle.meaning.proofs.Inputs.{tokens_of, symbol_bytes}
use Rattle.meaning.proofs.Tokens.{Turned, turned, tokens-end, Sized, first-sized, KindOf, token-kind, put_token, put_tokens, put_tokens_lem, token_bytes, token-bytes, put_length, level_text, level_rest, Closed, expression-text, expression-rest, input-tokens}
use Rattle.meaning.proofs.Fronts.{rest_after, nothing_left, same-is, same_token, in_step, tokens_if, front_in_step}
use Rattle.text.specs.Fill.{Emitted}
use Rattle.text.proofs.Fill.{emitted-same, emitted-append, emitted-nothing}
use Rattle.std.specs.Prelude.{Option as Found, Some, None}
use Rattle.std.specs.Option.{option_eq}
use Rattle.values.specs.Counting.{depth_after}
use Rattle.values.specs.Values.{TokenAt, ValueAt, LevelAt, Ends, rest_of, FrontOf}
use Rattle.symbols.proofs.Parts.{part_rest}
use Rattle.values.proofs.Turns.{part, depth_opening, depth_closing, depth_other}

-- ---- one token more

text-next : (t : Token) (l : List Token) (m d e : ℕ) → KindOf m t → (m ≡ 15 → 0 < d) → e ≡ depth_after m d → level_text (t ∷ l) d ≡ put_token zero_span t (level_text l e)
unfolding level_text put_token
text-next (Token.symbol x) l m d e k h q = ap (λ (i : ℕ). put_symbol zero_span x (level_text l i)) (depth_other m d k.1 k.0 ∙ sym q)
text-next Token.opening l m d e k h q = ap (λ (i : ℕ). 7 ∷ put_span zero_span (level_text l i)) (let z = depth_opening m d k in omega (arith, z, q))
text-next Token.closing l m zero e k h q = absurd (omega (arith, h k))
text-next Token.closing l m (suc d) e k h q = ap (λ (i : ℕ). 15 ∷ level_text l i) (let z = depth_closing m (suc d) k in omega (arith, z, q))

rest-next : (t : Token) (l : List Token) (m d e : ℕ) → KindOf m t → (m ≡ 15 → 0 < d) → e ≡ depth_after m d → level_rest (t ∷ l) d ≡ level_rest l e
unfolding level_rest
rest-next (Token.symbol x) l m d e k h q = ap (level_rest l) (depth_other m d k.1 k.0 ∙ sym q)
rest-next Token.opening l m d e k h q = ap (level_rest l) (let z = depth_opening m d k in omega (arith, z, q))
rest-next Token.closing l m zero e k h q = absurd (omega (arith, h k))
rest-next Token.closing l m (suc d) e k h q = ap (level_rest l) (let z = depth_closing m (suc d) k in omega (arith, z, q))

-- The tokens behind the first, with its size.
pub record Onward (s : List ℕ) (at n : ℕ) (t : Token) (l : List Token) : Type 0 where
  pub more : List Token
  pub split : l ≡ t ∷ more
  pub is : tokens (drop (at + n) s) ≡ some more
  pub size : n ≡ token_bytes t

module _ (s : List ℕ) (at : ℕ) (l : List Token) (is : tokens (drop at s) ≡ some l) (inside : at < length s) where
  turn : Turned (drop at s) l
  turn = turned (drop at s) l is (simp length-drop (omega arith))

  pub token-at : (x : List ℕ) → x ≡ drop at s → TokenAt x
  token-at x q = record { reading = turn.reading; is = ap first_token q ∙ turn.is }

  pub onward : (x : List ℕ) → x ≡ drop at s → (t : TokenAt x) (n : ℕ) → n ≡ t.reading.size → Onward s at n t.reading.token l
  onward x q t n e =
      let u = turn in
      let r : u.reading ≡ t.reading = some-injective u.reading t.reading (sym u.is ∙ (ap first_token (sym q) ∙ t.is)) in
      record {
        more = u.more;
        split = u.split ∙ ap (λ (y : Reading). y.token ∷ u.more) r;
        is = ap (λ (k : List ℕ). tokens k) (sym (drop-drop u.reading.size at s ∙ ap (λ (i : ℕ). drop (at + i) s) (ap (λ (y : Reading). y.size) r ∙ sym e))) ∙ u.next;
        size = e ∙ token-bytes x t.reading t.is;
      }

-- Where no token of the level is left.
unfoldable pub Done : List Token → ℕ → Type 0
Done left d = (level_text left d ≡ []) × (level_rest left d ≡ left)

closed_done : (t : Token) (more left : List Token) (m d : ℕ) → left ≡ t ∷ more → KindOf m t → m ≡ 15 → d ≡ 0 → Done left d
unfolding Done level_text level_rest
closed_done (Token.symbol x) more left m d e k f z = absurd (k.0 f)
closed_done Token.opening more left m d e k f z = absurd (omega (arith, k, f))
closed_done Token.closing more left m zero e k f z = (ap (λ (y : List Token). level_text y 0) e, ap (λ (y : List Token). level_rest y 0) e ∙ sym e)
closed_done Token.closing more left m (suc d) e k f z = absurd (omega (arith, z))

-- The part that begins at a place, with the tokens from there on.
module _ (s : List ℕ) (at : ℕ) {left : List Token} (is : tokens (drop at s) ≡ some left) (inside : at < length s) where
  pub part-token : TokenAt (part s at)
  part-token = token-at s at left is inside (part s at) (part_rest s at)

  pub part-room : {n : ℕ} → ((t : TokenAt (part s at)) → n ≡ t.reading.size) → (1 ≤ n) × (n ≤ length s - at)
  part-room size =
      let t = part-token in
      let e = size t in
      let z = subst (Sized (part s at)) t.is (first-sized (part s at)) in
      (omega (arith, z.0, e), omega (arith, z.1, e, ap length (part_rest s at), length-drop at s))

  pub part-onward : {n : ℕ} → ((t : TokenAt (part s at)) → n ≡ t.reading.size) → Onward s at n part-token.reading.token left
  part-onward {n} size = onward s at left is inside (part s at) (part_rest s at) part-token n (size part-token)

  pub part_kind : KindOf (get_or (part s at) 0 0) part-token.reading.token
  part_kind = token-kind (part s at) part-token.reading part-token.is

  pub part-split : Onward s at part-token.reading.size part-token.reading.token left
  part-split = onward s at left is inside (part s at) (part_rest s at) part-token part-token.reading.size refl

  pub part_closed : {d : ℕ} → (get_or (part s at) 0 0 ≡ 15) × (d ≡ 0) → Done left d
  part_closed {d} h = closed_done part-token.reading.token part-split.more left (get_or (part s at) 0 0) d part-split.split part_kind h.0 h.1

-- ---- the length of an expression

pub record Passed (s : List ℕ) (l : List Token) (at d : ℕ) : Type 0 where
  pub left : List Token
  pub is : tokens (drop at s) ≡ some left
  pub bytes : at + length (level_text left d) ≡ length (level_text l 0)
  pub rest : level_rest left d ≡ level_rest l 0

pub passed_first : (s : List ℕ) (l : List Token) → tokens s ≡ some l → Passed s l 0 0
passed_first s l e = record { left = l; is = e; bytes = omega arith; rest = refl }

pub passed_more : {s : List ℕ} {l : List Token} {at d : ℕ} (p : Passed s l at d) → at < length s → {n e : ℕ} → ((t : TokenAt (part s at)) → n ≡ t.reading.size) → (e ≡ depth_after (get_or (part s at) 0 0) d) × (get_or (part s at) 0 0 ≡ 15 → 0 < d) → Passed s l (at + n) e
passed_more {s} {l} {at} {d} p h {n} {e} size g =
    let o = part-onward s at p.is h size in
    let t = (part-token s at p.is h).reading.token in
    let m = get_or (part s at) 0 0 in
    let k = part_kind s at p.is h in
    let text : level_text p.left d ≡ put_token zero_span t (level_text o.more e) = ap (λ (y : List Token). level_text y d) o.split ∙ text-next t o.more m d e k g.1 g.0 in
    record {
      left = o.more;
      is = o.is;
      bytes = omega (arith, p.bytes, ap length text, put_length t (level_text o.more e), o.size);
      rest = sym (rest-next t o.more m d e k g.1 g.0) ∙ (sym (ap (λ (y : List Token). level_rest y d) o.split) ∙ p.rest);
    }

pub ended_here : (s : List ℕ) (at d : ℕ) (left : List Token) → tokens (drop at s) ≡ some left → length s ≤ at → Done left d
unfolding Done level_text level_rest
ended_here s at d left is h =
    let e : left ≡ [] = some-injective left [] (sym is ∙ tokens-end (drop at s) (simp length-drop (omega arith))) in
    (ap (λ (y : List Token). level_text y d) e, ap (λ (y : List Token). level_rest y d) e ∙ sym e)

pub level-ends : {s : List ℕ} {at d : ℕ} (v : LevelAt s) (p : Passed s (tokens_of v.level v.behind) at d) → at ≤ length s → Done p.left d → Ends s v.level v.behind at
unfolding Done bytes_of
level-ends {s} {at} {d} v p h f = record {
  bytes = omega (arith, p.bytes, ap length f.0, ap length (expression-text v.level v.behind v.ends));
  within = h;
  left = p.is ∙ ap some (sym f.1 ∙ (p.rest ∙ expression-rest v.level v.behind v.ends));
}

-- What a token stands behind is not all there is.
pub more-behind : {s : List ℕ} {v : Expression} {t : Token} {k : List Token} {r : ℕ} → Ends s v (t ∷ k) r → r < length s
more-behind {s} {v} {t} {k} {r} e = by (ltb r (length s)) refl
  where
    by : (u : Bool) → ltb r (length s) ≡ u → r < length s
    by true f = ltb-true r (length s) f
    by false f =
        let g = ltb-false r (length s) f in
        absurd (let h = sym (tokens-end (drop r s) (simp length-drop (omega arith))) ∙ e.left in let z : ◌≡◌ {A = ℕ} 0 1 = cc in omega arith)

-- ---- an expression written

put_append : (t : Token) (k : List ℕ) → put_token zero_span t k ≡ put_token zero_span t [] ++ k
unfolding put_token put_symbol put_span put32 put_name zero_span
put_append (Token.symbol (character c)) k = refl
put_append (Token.symbol (identifier n)) k = ap (λ (l : List ℕ). 2 ∷ 0 ∷ 0 ∷ 0 ∷ 0 ∷ 0 ∷ 0 ∷ 0 ∷ 0 ∷ length n ∷ l) (sym (append_assoc n [] k))
put_append (Token.symbol (number n)) k = ap (λ (l : List ℕ). 3 ∷ 0 ∷ 0 ∷ 0 ∷ 0 ∷ 0 ∷ 0 ∷ 0 ∷ 0 ∷ length n ∷ l) (sym (append_assoc n [] k))
put_append Token.opening k = refl
put_append Token.closing k = refl

pub record Wrote (s : List ℕ) (l : List Token) (out₀ : List ℕ) (at : ℕ) (out : List ℕ) (i d : ℕ) : Type 0 where
  pub left : List Token
  pub is : tokens (drop i s) ≡ some left
  pub text : List ℕ
  pub emitted : Emitted out₀ at text (at + i) out
  pub whole : text ++ level_text left d ≡ level_text l 0

pub wrote_first : (s : List ℕ) (l : List Token) (out : List ℕ) (at : ℕ) → tokens s ≡ some l → Wrote s l out at out 0 0
wrote_first s l out at e = record { left = l; is = e; text = []; emitted = subst (λ (j : ℕ). Emitted out at [] j out) (sym (add-zero at)) (emitted-nothing out at); whole = refl }

pub wrote_more :
    {s : List ℕ} {l : List Token} {out₀ : List ℕ} {at : ℕ} {out : List ℕ} {i d : ℕ} (p : Wrote s l out₀ at out i d) → i < length s
    → {n e : ℕ} → ((t : TokenAt (part s i)) → n ≡ t.reading.size) → (e ≡ depth_after (get_or (part s i) 0 0) d) × (get_or (part s i) 0 0 ≡ 15 → 0 < d)
    → {r : ℕ} {new : List ℕ} → ((t : TokenAt (part s i)) → Emitted out (at + i) (put_token zero_span t.reading.token []) r new) → Wrote s l out₀ at new (i + n) e
wrote_more {s} {l} {out₀} {at} {out} {i} {d} p h {n} {e} size g {r} {new} written =
    let o = part-onward s i p.is h size in
    let t = (part-token s i p.is h).reading.token in
    let w = written (part-token s i p.is h) in
    let text : level_text p.left d ≡ put_token zero_span t (level_text o.more e) = ap (λ (y : List Token). level_text y d) o.split ∙ text-next t o.more (get_or (part s i) 0 0) d e (part_kind s i p.is h) g.1 g.0 in
    let place : r ≡ at + (i + n) = omega (arith, w.after, put_length t [], o.size) in
    record {
      left = o.more;
      is = o.is;
      text = p.text ++ put_token zero_span t [];
      emitted = subst (λ (j : ℕ). Emitted out₀ at (p.text ++ put_token zero_span t []) j new) place (emitted-append p.text (put_token zero_span t []) p.emitted w);
      whole = append_assoc p.text (put_token zero_span t []) (level_text o.more e) ∙ (ap (λ (y : List ℕ). p.text ++ y) (sym (text ∙ put_append t (level_text o.more e))) ∙ p.whole);
    }

pub level-written : {s : List ℕ} {out₀ : List ℕ} {at : ℕ} {out : List ℕ} {i d : ℕ} (v : LevelAt s) (p : Wrote s (tokens_of v.level v.behind) out₀ at out i d) → Done p.left d → Emitted out₀ at (put_expression v.level []) (at + i) out
unfolding Done
level-written v p f =
    emitted-same (sym (append-nil p.text) ∙ (ap (λ (y : List ℕ). p.text ++ y) (sym f.0) ∙ (p.whole ∙ expression-text v.level v.behind v.ends))) p.emitted

-- ---- its first term

put_bytes_length : (v : Expression) (k : List ℕ) → length (put_expression v k) ≡ bytes_of v + length k
unfolding bytes_of
put_bytes_length v k = ap length (expression-splits v k) ∙ length-append (put_expression v []) k

group-length : (u w : Expression) (r : ℕ) → r ≡ bytes_of u → 10 + r + bytes_of w ≡ bytes_of (group u w)
unfolding put_expression put_span put32 zero_span
group-length u w r e = omega (arith, e, put_bytes_length (group u w) [], put_bytes_length u (15 ∷ put_expression w []), put_bytes_length w [])

atom-length : (x : Symbol) (w : Expression) (r : ℕ) → r ≡ symbol_bytes x → r + bytes_of w ≡ bytes_of (atom x w)
unfolding put_expression put_token token_bytes
atom-length x w r e = omega (arith, e, put_bytes_length (atom x w) [], put_length (Token.symbol x) (put_expression w []), put_bytes_length w [])

head-opening : (v : Expression) (k : List Token) → Closed k → (t : Token) (more : List Token) → tokens_of v k ≡ t ∷ more → (m : ℕ) → KindOf m t → m ≡ 7 → (u : Expression) × (w : Expression) × (v ≡ group u w) × (t ≡ Token.opening) × (more ≡ tokens_of u (Token.closing ∷ tokens_of w k))
unfolding tokens_of
head-opening void [] h t more e m d f = absurd (let z : ◌≡◌ {A = ℕ} 0 1 = cc in omega arith)
head-opening void (Token.symbol x ∷ k) h t more e m d f = absurd h
head-opening void (Token.opening ∷ k) h t more e m d f = absurd h
head-opening void (Token.closing ∷ k) h t more e m d f = absurd (let q : t ≡ Token.closing = cc in let g = subst (KindOf m) q d in omega (arith, g, f))
head-opening (atom x v) k h t more e m d f = absurd (let q : t ≡ Token.symbol x = cc in (subst (KindOf m) q d).1 f)
head-opening (group u w) k h t more e m d f = (u, w, refl, cc, cc)

head-symbol : (v : Expression) (k : List Token) → Closed k → (t : Token) (more : List Token) → tokens_of v k ≡ t ∷ more → (m : ℕ) → KindOf m t → (m ≡ 7 → ⊥) → (m ≡ 15 → ⊥) → (x : Symbol) × (w : Expression) × (v ≡ atom x w) × (t ≡ Token.symbol x)
unfolding tokens_of
head-symbol void [] h t more e m d f g = absurd (let z : ◌≡◌ {A = ℕ} 0 1 = cc in omega arith)
head-symbol void (Token.symbol x ∷ k) h t more e m d f g = absurd h
head-symbol void (Token.opening ∷ k) h t more e m d f g = absurd h
head-symbol void (Token.closing ∷ k) h t more e m d f g = absurd (let q : t ≡ Token.closing = cc in g (subst (KindOf m) q d))
head-symbol (atom x v) k h t more e m d f g = (x, v, refl, cc)
head-symbol (group u w) k h t more e m d f g = absurd (let q : t ≡ Token.opening = cc in f (subst (KindOf m) q d))

-- A term stands there: the slice is not at its end, nor at a close.
no_term : (v : Expression) (k : List Token) → (v ≡ void → ⊥) → tokens_of v k ≡ [] → ⊥
unfolding tokens_of
no_term void k h e = h refl
no_term (atom x v) k h e = let z : ◌≡◌ {A = ℕ} 0 1 = cc in omega arith
no_term (group u v) k h e = let z : ◌≡◌ {A = ℕ} 0 1 = cc in omega arith

no-close : (v : Expression) (k : List Token) → (v ≡ void → ⊥) → (t : Token) (more : List Token) → tokens_of v k ≡ t ∷ more → (m : ℕ) → KindOf m t → m ≡ 15 → ⊥
unfolding tokens_of
no-close void k h t more e m d f = h refl
no-close (atom x v) k h t more e m d f = let q : t ≡ Token.symbol x = cc in (subst (KindOf m) q d).0 f
no-close (group u v) k h t more e m d f = let q : t ≡ Token.opening = cc in let g = subst (KindOf m) q d in omega (arith, g, f)

module _ {s : List ℕ} where
  pub term_there : (v : LevelAt s) → (v.level ≡ void → ⊥) → 0 < length s
  term_there v h = by (length s) refl
    where
      by : (n : ℕ) → length s ≡ n → 0 < length s
      by zero e = absurd (no_term v.level v.behind h (some-injective (tokens_of v.level v.behind) [] (sym v.is ∙ tokens-end s e)))
      by (suc n) e = omega (arith, e)

  pub term_no_close : (v : LevelAt s) → (v.level ≡ void → ⊥) → get_or s 0 0 ≡ 15 → ⊥
  term_no_close v h f =
      let o = turned s (tokens_of v.level v.behind) v.is (term_there v h) in
      no-close v.level v.behind h o.reading.token o.more o.split (get_or s 0 0) (token-kind s o.reading o.is) f

  module _ (v : LevelAt s) (there : 0 < length s) where
    top : Turned s (tokens_of v.level v.behind)
    top = turned s (tokens_of v.level v.behind) v.is there

    -- A bracket's inside stands behind its nine bytes.
    opened : get_or s 0 0 ≡ 7 → (u : Expression) × (w : Expression) × (v.level ≡ group u w) × (top.reading.token ≡ Token.opening) × (top.more ≡ tokens_of u (Token.closing ∷ tokens_of w v.behind))
    opened f = head-opening v.level v.behind v.ends top.reading.token top.more top.split (get_or s 0 0) (token-kind s top.reading top.is) f

    pub inside_at : get_or s 0 0 ≡ 7 → LevelAt (drop 9 s)
    unfolding token_bytes
    inside_at f =
        let o = opened f in
        let n : top.reading.size ≡ 9 = token-bytes s top.reading top.is ∙ ap token_bytes o.3 in
        record { level = o.0; behind = Token.closing ∷ tokens_of o.1 v.behind; is = ap (λ (i : ℕ). tokens (drop i s)) (sym n) ∙ (top.next ∙ ap some o.4); ends = tt }

    pub bracket-room : get_or s 0 0 ≡ 7 → 9 ≤ length s
    unfolding token_bytes
    bracket-room f =
        let z = subst (Sized s) top.is (first-sized s) in
        omega (arith, z.1, token-bytes s top.reading top.is, ap token_bytes (opened f).3)

    pub bracket-short : (f : get_or s 0 0 ≡ 7) (r : ℕ) → Ends (drop 9 s) (inside_at f).level (inside_at f).behind r → 10 + r ≤ length s
    unfolding inside_at
    bracket-short f r e = let h = more-behind e in let l = bracket-room f in omega (arith, h, l, length-drop 9 s)

    pub bracket-length : (f : get_or s 0 0 ≡ 7) (r : ℕ) → r ≡ bytes_of (inside_at f).level → 10 + r + bytes_of (rest_of v.level) ≡ bytes_of v.level
    unfolding rest_of opened inside_at
    bracket-length f r e =
        let o = opened f in
        ap (λ (y : Expression). 10 + r + bytes_of (rest_of y)) o.2 ∙ (group-length o.0 o.1 r e ∙ ap bytes_of (sym o.2))

    pub symbol-length : (get_or s 0 0 ≡ 7 → ⊥) → (get_or s 0 0 ≡ 15 → ⊥) → (t : TokenAt s) (r : ℕ) → r ≡ t.reading.size → r + bytes_of (rest_of v.level) ≡ bytes_of v.level
    unfolding rest_of token_bytes
    symbol-length f g t r e =
        let o = head-symbol v.level v.behind v.ends top.reading.token top.more top.split (get_or s 0 0) (token-kind s top.reading top.is) f g in
        let q : t.reading ≡ top.reading = some-injective t.reading top.reading (sym t.is ∙ top.is) in
        let n : r ≡ symbol_bytes o.0 = e ∙ (ap (λ (y : Reading). y.size) q ∙ (token-bytes s top.reading top.is ∙ ap token_bytes o.3)) in
        ap (λ (y : Expression). r + bytes_of (rest_of y)) o.2 ∙ (atom-length o.0 o.1 r n ∙ ap bytes_of (sym o.2))

    pub token-first : TokenAt s
    token-first = record { reading = top.reading; is = top.is }

-- ---- two expressions in step

pub record Stepped (a b : List ℕ) (all-a all-b : List Token) (i j : ℕ) : Type 0 where
  pub left_a : List Token
  pub left_b : List Token
  pub is_a : tokens (drop i a) ≡ some left_a
  pub is_b : tokens (drop j b) ≡ some left_b
  pub same : in_step left_a left_b ≡ in_step all-a all-b
  pub bytes : j + length (put_tokens left_b []) ≡ length (put_tokens all-b [])

pub stepped_first : (a b : List ℕ) (l k : List Token) → tokens a ≡ some l → tokens b ≡ some k → Stepped a b l k 0 0
stepped_first a b l k e f = record { left_a = l; left_b = k; is_a = e; is_b = f; same = refl; bytes = omega arith }

step_cut : (l k : List Token) (t : Token) (more : List Token) → l ≡ t ∷ more → k ≡ [] → in_step l k ≡ none
unfolding in_step
step_cut l k t more e f = ap (λ (y : List Token). in_step y k) e ∙ ap (in_step (t ∷ more)) f

step_on : (l k : List Token) (t u : Token) (more rest : List Token) → l ≡ t ∷ more → k ≡ u ∷ rest → same_token t u ≡ true → in_step l k ≡ in_step more rest
unfolding in_step
step_on l k t u more rest e f h = ap (λ (y : List Token). in_step y k) e ∙ (ap (in_step (t ∷ more)) f ∙ rw h)

step_off : (l k : List Token) (t u : Token) (more rest : List Token) → l ≡ t ∷ more → k ≡ u ∷ rest → same_token t u ≡ false → in_step l k ≡ none
unfolding in_step
step_off l k t u more rest e f h = ap (λ (y : List Token). in_step y k) e ∙ (ap (in_step (t ∷ more)) f ∙ rw h)

put_tokens_length : (l : List Token) (t : Token) (more : List Token) → l ≡ t ∷ more → length (put_tokens l []) ≡ token_bytes t + length (put_tokens more [])
unfolding put_tokens
put_tokens_length l t more e = ap (λ (y : List Token). length (put_tokens y [])) e ∙ put_length t (put_tokens more [])

module _ {a b : List ℕ} {l k : List Token} {i j : ℕ} (p : Stepped a b l k i j) where
  pub stepped_short : i < length a → length b ≤ j → in_step l k ≡ none
  stepped_short h g =
      let o = part-split a i p.is_a h in
      sym p.same ∙ step_cut p.left_a p.left_b (part-token a i p.is_a h).reading.token o.more o.split (some-injective p.left_b [] (sym p.is_b ∙ tokens-end (drop j b) (simp length-drop (omega arith))))

  module _ (h : i < length a) (g : j < length b) {t : Bool} (told : (x : TokenAt (part a i)) (y : TokenAt (part b j)) → t ≡ same_token x.reading.token y.reading.token) where
    first-same : t ≡ same_token (part-token a i p.is_a h).reading.token (part-token b j p.is_b g).reading.token
    first-same = told (part-token a i p.is_a h) (part-token b j p.is_b g)

    pub stepped_off : t ≡ false → in_step l k ≡ none
    stepped_off e =
        let o = part-split a i p.is_a h in
        let w = part-split b j p.is_b g in
        sym p.same ∙ step_off p.left_a p.left_b (part-token a i p.is_a h).reading.token (part-token b j p.is_b g).reading.token o.more w.more o.split w.split (sym first-same ∙ e)

    pub stepped_on : t ≡ true → {n m : ℕ} → ((x : TokenAt (part a i)) → n ≡ x.reading.size) → ((y : TokenAt (part b j)) → m ≡ y.reading.size) → Stepped a b l k (i + n) (j + m)
    stepped_on e size-a size_b =
        let o = part-onward a i p.is_a h size-a in
        let w = part-onward b j p.is_b g size_b in
        record {
          left_a = o.more;
          left_b = w.more;
          is_a = o.is;
          is_b = w.is;
          same = sym (step_on p.left_a p.left_b (part-token a i p.is_a h).reading.token (part-token b j p.is_b g).reading.token o.more w.more o.split w.split (sym first-same ∙ e)) ∙ p.same;
          bytes = omega (arith, p.bytes, w.size, put_tokens_length p.left_b (part-token b j p.is_b g).reading.token w.more w.split);
        }

  pub stepped_end : length a ≤ i → in_step l k ≡ some p.left_b
  unfolding in_step
  stepped_end h = sym p.same ∙ ap (λ (y : List Token). in_step y p.left_b) (some-injective p.left_a [] (sym p.is_a ∙ tokens-end (drop i a) (simp length-drop (omega arith))))

front-none : (v : Expression) (o : Option Expression) (k : List Token) → tokens_if o k ≡ none → FrontOf v o None
unfolding tokens_if
front-none v none k e = tt
front-none v (some w) k e = let z : ◌≡◌ {A = ℕ} 0 1 = cc in omega arith

front-some : (v : Expression) (o : Option Expression) (k left : List Token) (j : ℕ) → tokens_if o k ≡ some left → j + length (put_tokens left []) ≡ length (put_tokens (tokens_of v k) []) → FrontOf v o (Some j)
unfolding tokens_if
front-some v none k left j e b = absurd (let z : ◌≡◌ {A = ℕ} 0 1 = cc in omega arith)
front-some v (some w) k left j e b =
    let q : length (put_tokens left []) ≡ bytes_of w + length (put_tokens k []) = ap (λ (y : List Token). length (put_tokens y [])) (sym (some-injective (tokens_of w k) left e)) ∙ (ap length (put_tokens_lem w k []) ∙ put_bytes_length w (put_tokens k [])) in
    let r : length (put_tokens (tokens_of v k) []) ≡ bytes_of v + length (put_tokens k []) = ap length (put_tokens_lem v k []) ∙ put_bytes_length v (put_tokens k []) in
    omega (arith, q, r, b)

module _ {a b : List ℕ} (u : ValueAt a) (v : LevelAt b) where
  in_step_lem : in_step (tokens_of u.expression []) (tokens_of v.level v.behind) ≡ tokens_if (rest_after u.expression v.level) v.behind
  in_step_lem = front_in_step u.expression v.level v.behind v.ends

  pub front-nowhere : in_step (tokens_of u.expression []) (tokens_of v.level v.behind) ≡ none → FrontOf v.level (rest_after u.expression v.level) None
  front-nowhere e = front-none v.level (rest_after u.expression v.level) v.behind (sym in_step_lem ∙ e)

  pub front_until : {i j : ℕ} (p : Stepped a b (tokens_of u.expression []) (tokens_of v.level v.behind) i j) → length a ≤ i → FrontOf v.level (rest_after u.expression v.level) (Some j)
  front_until {i} {j} p h = front-some v.level (rest_after u.expression v.level) v.behind p.left_b j (sym in_step_lem ∙ stepped_end p h) p.bytes

pub value-tokens : {s : List ℕ} (u : ValueAt s) → tokens s ≡ some (tokens_of u.expression [])
value-tokens {s} u = input-tokens s u.expression u.is

unfoldable pub value-level : {s : List ℕ} → ValueAt s → LevelAt s
value-level u = record { level = u.expression; behind = []; is = value-tokens u; ends = tt }

-- ---- two whole expressions

tokens-length : (n : ℕ) (s : List ℕ) (l : List Token) → length s ≤ n → tokens s ≡ some l → length s ≡ length (put_tokens l [])
unfolding put_tokens
tokens-length zero s l h e = omega (arith, ap (λ (y : List Token). length (put_tokens y [])) (some-injective l [] (sym e ∙ tokens-end s (omega arith))))
tokens-length (suc n) s l h e = by (length s) refl (tokens-length n)
  where
    by : (i : ℕ) → length s ≡ i → ((s : List ℕ) (l : List Token) → length s ≤ n → tokens s ≡ some l → length s ≡ length (put_tokens l [])) → length s ≡ length (put_tokens l [])
    by zero f ih = omega (arith, f, ap (λ (y : List Token). length (put_tokens y [])) (some-injective l [] (sym e ∙ tokens-end s f)))
    by (suc i) f ih =
        let o = turned s l e (omega (arith, f)) in
        let z = subst (Sized s) o.is (first-sized s) in
        let d = length-drop o.reading.size s in
        let k = ih (drop o.reading.size s) o.more (omega (arith, d, z.0, h, f)) o.next in
        omega (arith, d, k, z.0, z.1, put_tokens_length l o.reading.token o.more o.split, token-bytes s o.reading o.is)

pub value-length : {s : List ℕ} (v : ValueAt s) → length s ≡ bytes_of v.expression
unfolding put_tokens
value-length {s} v = omega (arith, tokens-length (length s) s (tokens_of v.expression []) (omega arith) (value-tokens v), ap length (put_tokens_lem v.expression [] []), put_bytes_length v.expression [])

void-bytes : bytes_of void ≡ 0
unfolding bytes_of put_expression
void-bytes = refl

symbol-bytes : (x : Symbol) → 1 ≤ symbol_bytes x
unfolding symbol_bytes
symbol-bytes (character c) = omega arith
symbol-bytes (identifier n) = omega arith
symbol-bytes (number n) = omega arith

nothing-bytes : (w : Expression) (j n : ℕ) → j + bytes_of w ≡ n → nothing_left (some w) ≡ eqb j n
unfolding nothing_left
nothing-bytes void j n e = sym (eq-eqb j n (omega (arith, e, void-bytes)))
nothing-bytes (atom x w) j n e = sym (ne_eqb j n (λ z. omega (arith, z, e, atom-length x w (symbol_bytes x) refl, symbol-bytes x)))
nothing-bytes (group u w) j n e = sym (ne_eqb j n (λ z. omega (arith, z, e, group-length u w (bytes_of u) refl)))

left-told : (o : Option Expression) (v : Expression) (j n : ℕ) → n ≡ bytes_of v → FrontOf v o (Some j) → eqb j n ≡ nothing_left o
left-told none v j n e f = absurd f
left-told (some w) v j n e f = sym (nothing-bytes w j n (f ∙ sym e))

left-nowhere : (o : Option Expression) (v : Expression) → FrontOf v o None → false ≡ nothing_left o
unfolding nothing_left
left-nowhere none v f = refl
left-nowhere (some w) v f = absurd f

module _ {a b : List ℕ} (u : ValueAt a) (v : ValueAt b) where
  pub same-told : (o : Found ℕ) → FrontOf v.expression (rest_after u.expression v.expression) o → option_eq eqb o (Some (length b)) ≡ same_expression u.expression v.expression
  same-told None f = left-nowhere (rest_after u.expression v.expression) v.expression f ∙ sym (same-is u.expression v.expression)
  same-told (Some j) f = left-told (rest_after u.expression v.expression) v.expression j (length b) (value-length v) f ∙ sym (same-is u.expression v.expression)
