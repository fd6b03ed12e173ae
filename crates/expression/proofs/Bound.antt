-- What two patterns of a body meet in is short.
use Prim.Native.Nat.{ℕ, ◌*◌, ◌≤◌}
use native.Mathlib.Omega.{arith}
use mathlib.Core.Path.{ap}
use mathlib.Core.Bool.{Bool}
use mathlib.Core.List.{List, []}
use lib.ListN.{length, drop, length-drop, length-append}
use Rattle.program.specs.Encode.{put_terms}
use Rattle.program.specs.Limits.{Mode}
use Rattle.program.proofs.Splits.{terms-splits}
use Rattle.image.specs.Parts.{TermsAt}
use Rattle.patterns.proofs.MeetBytes.{terms_bytes, valid_coded, meet_within}
use Rattle.expression.specs.Walk.{meet_bytes}

pattern-bytes : (b : List ℕ) (p : ℕ) (x : TermsAt Mode.pattern (drop p b)) → terms_bytes x.terms ≤ length b
pattern-bytes b p x = omega (arith, ap length x.is, ap length (terms-splits x.terms x.rest), length-append (put_terms x.terms []) x.rest, length-drop p b)

pub meeting_short : (b : List ℕ) (p q : ℕ) (c : Bool) (f : ℕ) (x : TermsAt Mode.pattern (drop p b)) (y : TermsAt Mode.pattern (drop q b)) → length (meet_bytes c f x.terms y.terms) ≤ 4 * length b
meeting_short b p q c f x y =
    let w = meet_within x.terms y.terms c f (valid_coded x.terms 0 x.valid) (valid_coded y.terms 0 y.valid) in
    omega (arith, w.short, pattern-bytes b p x, pattern-bytes b q y)
