use Prim.Native.Nat.{ℕ, ◌+◌, ◌<◌, ◌≤◌}
use native.Mathlib.Omega.{arith}
use mathlib.Core.Path.{◌≡◌, sym, ◌∙◌}
use mathlib.Core.Bool.{Bool, true}
use mathlib.Core.List.{List}
use lib.ListN.{length, get_or}
use Rattle.program.specs.Limits.{Mode}
use Rattle.image.specs.Parts.{TermsAt}
use Rattle.configuration.specs.Lockstep.{same_token, first_name, alike, names_met, WalkedTo}
use Rattle.configuration.proofs.Tokens.{pattern-room, token-passes, token-here}
use Rattle.configuration.proofs.Scan.{part, part_length}
use Rattle.configuration.proofs.Lockstep.{Lockstep, lockstep_first, lockstep_end, top_one, top_two, one_part, two_part, here-within, token-fails, walked_here, numbering-fails, moves-on, lockstep-next, closes_most}
use Rattle.configuration.proofs.same_configuration.Goals as goal
use Rattle.configuration.proofs.same_configuration.Goals.{After-token_len-j, In-loop-closes, then-not-same_token-via-then-not-same_token, then-not-same_token-via-else-not-same_token+then-not-same_numbering}

-- In a turn both walks are at a token.
both-within : (c : In-loop-closes) → (c.loop-closes.i < length c.args.a.now) × (c.loop-closes.j < length c.args.b.now)
both-within c = here-within (c.loop-closes.invariant.2 c.requires.0 c.requires.1) c.loop-closes-test.true

-- What the two tests say of the tokens there.
module _ {a b : List ℕ} {i j closes : ℕ} {p : TermsAt Mode.pattern a} {q : TermsAt Mode.pattern b} (s : Lockstep a b i j closes p q) (l : 0 < closes) where
  tokens-alike : {r : Bool} → ((x : TermsAt Mode.pattern (part a i)) (y : TermsAt Mode.pattern (part b j)) → r ≡ same_token x.terms y.terms) → r ≡ true → same_token (top_one s l).first (top_two s l).first ≡ true
  tokens-alike f e = sym (f (one_part s l) (two_part s l)) ∙ e

  numbers-alike : same_token (top_one s l).first (top_two s l).first ≡ true → {r : Bool} → ((w : WalkedTo a b i j) → r ≡ alike (first_name w.one.terms) (first_name w.two.terms) (names_met w.walked.steps)) → r ≡ true
      → alike (first_name (top_one s l).first) (first_name (top_two s l).first) (names_met s.walked.steps) ≡ true
  numbers-alike t f e = sym (f (walked_here s l t)) ∙ e

-- Past a token of each.
moves : (c : After-token_len-j) → (0 < c.token_len-i.result) × (c.loop-closes.i + c.token_len-i.result ≤ length c.args.a.now) × (c.loop-closes.j + c.token_len-j.result ≤ length c.args.b.now)
moves c =
    let s = c.loop-closes.invariant.2 c.requires.0 c.requires.1 in
    let l = c.loop-closes-test.true in
    let t = tokens-alike s l c.same_token.ensures c.if-not-same_token.false in
    let e = numbers-alike s l t c.same_numbering.ensures c.if-not-same_numbering.false in
    let d = c.token_len-i in
    let k = c.token_len-j in
    moves-on s l t e d.result (token-passes (one_part s l) d.ensures) k.result (token-passes (two_part s l) k.ensures)

pub loop-closes-init : goal.loop-closes-init
loop-closes-init c = (omega arith, omega arith, λ p q. lockstep_first p q)

pub slice_bounds-x-count : goal.slice_bounds-x-count
slice_bounds-x-count c = omega (arith, both-within (goal.at.slice_bounds-x-count c).In-loop-closes)

pub slice_bounds-x-start : goal.slice_bounds-x-start
slice_bounds-x-start c = omega (arith, both-within (goal.at.slice_bounds-x-start c).In-loop-closes)

pub slice_bounds-x-end : goal.slice_bounds-x-end
slice_bounds-x-end c = omega arith

pub slice_bounds-y-count : goal.slice_bounds-y-count
slice_bounds-y-count c = omega (arith, both-within (goal.at.slice_bounds-y-count c).In-loop-closes)

pub slice_bounds-y-start : goal.slice_bounds-y-start
slice_bounds-y-start c = omega (arith, both-within (goal.at.slice_bounds-y-start c).In-loop-closes)

pub slice_bounds-y-end : goal.slice_bounds-y-end
slice_bounds-y-end c = omega arith

pub same_token-requires : goal.same_token-requires
same_token-requires c = let s = c.loop-closes.invariant.2 c.requires.0 c.requires.1 in (one_part s c.loop-closes-test.true, two_part s c.loop-closes-test.true)

pub same_numbering-requires : goal.same_numbering-requires
same_numbering-requires c =
    let s = c.loop-closes.invariant.2 c.requires.0 c.requires.1 in
    let l = c.loop-closes-test.true in
    walked_here s l (tokens-alike s l c.same_token.ensures c.if-not-same_token.false)

pub bounds-x-0 : goal.bounds-x-0
bounds-x-0 c = pattern-room (one_part (c.loop-closes.invariant.2 c.requires.0 c.requires.1) c.loop-closes-test.true)

pub closes_after-closes-requires : goal.closes_after-closes-requires
closes_after-closes-requires c = (c.loop-closes-test.true, omega (arith, c.loop-closes.invariant.1, both-within (goal.at.closes_after-closes-requires c).In-loop-closes))

pub token_len-i-requires : goal.token_len-i-requires
token_len-i-requires c = token-here (one_part (c.loop-closes.invariant.2 c.requires.0 c.requires.1) c.loop-closes-test.true)

pub overflow_add-i : goal.overflow_add-i
overflow_add-i c =
    let p = one_part (c.loop-closes.invariant.2 c.requires.0 c.requires.1) c.loop-closes-test.true in
    omega (arith, (token-passes p c.token_len-i.ensures).fits, part_length c.args.a.now c.loop-closes.i, both-within (goal.at.overflow_add-i c).In-loop-closes)

pub token_len-j-requires : goal.token_len-j-requires
token_len-j-requires c = token-here (two_part (c.loop-closes.invariant.2 c.requires.0 c.requires.1) c.loop-closes-test.true)

pub overflow_add-j : goal.overflow_add-j
overflow_add-j c =
    let p = two_part (c.loop-closes.invariant.2 c.requires.0 c.requires.1) c.loop-closes-test.true in
    omega (arith, (token-passes p c.token_len-j.ensures).fits, part_length c.args.b.now c.loop-closes.j, both-within (goal.at.overflow_add-j c).In-loop-closes)

pub loop-closes-smaller : goal.loop-closes-smaller
loop-closes-smaller c = omega (arith, both-within (goal.at.loop-closes-smaller c).In-loop-closes, moves (goal.at.loop-closes-smaller c).After-token_len-j)

pub loop-closes-preserved : goal.loop-closes-preserved
loop-closes-preserved c =
    let l = c.loop-closes-test.true in
    let d = c.token_len-i in
    let k = c.token_len-j in
    let v = moves (goal.at.loop-closes-preserved c).After-token_len-j in
    let n = c.closes_after-closes in (
      v.1,
      omega (arith, c.loop-closes.invariant.1, v.0, n.ensures, closes_most (get_or (part c.args.a.now c.loop-closes.i) 0 0) c.loop-closes.closes),
      λ p q.
          let s = c.loop-closes.invariant.2 p q in
          let t = tokens-alike s l c.same_token.ensures c.if-not-same_token.false in
          let e = numbers-alike s l t c.same_numbering.ensures c.if-not-same_numbering.false in
          lockstep-next s l t e d.result (token-passes (one_part s l) d.ensures) k.result (token-passes (two_part s l) k.ensures) n.result n.ensures,
    )

pub returns-then-not-same_token : goal.returns-then-not-same_token
returns-then-not-same_token c = λ p q.
    let l = c.loop-closes-test.true in
    let s = c.loop-closes.invariant.2 p q in
    let f = c.same_token.ensures (one_part s l) (two_part s l) in
    elim c.then-not-same_token.branch [
      | then-not-same_token-via-then-not-same_token w ↦ sym (token-fails s l (sym f ∙ w.if-not-same_token.true))
      | then-not-same_token-via-else-not-same_token+then-not-same_numbering w ↦
          let t = tokens-alike s l c.same_token.ensures w.if-not-same_token.false in
          sym (numbering-fails s l t (sym (w.same_numbering.ensures (walked_here s l t)) ∙ w.if-not-same_numbering.true))
    ]

pub returns : goal.returns
returns c = λ p q. sym (lockstep_end (c.loop-closes.invariant.2 p q) c.loop-closes-test.false)
