-- The programs that an image can hold: document 01's refusals, said of trees.
use Rattle.std.specs.Prelude.{ℕ, suc, ◌≤◌, ◌<◌, ◌≡◌, Bool, true, false, List, [], ◌∷◌, length, ltb, leb}
use Rattle.program.specs.Syntax.{Name, Span, Symbol, character, identifier, number, Terms, nil, symbol, variable, bracket, call, block, Conditions, none, condition, Sentences, empty, sentence, Declaration, Function, Program}
use Rattle.program.specs.Encode.{encode}

-- `pick test yes no`
abbrev pub pick {ℓ} : {A : Type ℓ} → Bool → A → A → A
pick true a b = a
pick false a b = b

-- Where terms stand: "call or block inside a pattern" is refused.
pub data Mode : Type 0 where
  pattern result : Mode

-- "a byte outside 33 to 126 (number: outside '0' to '9')": false for a name's bytes, true for a number's
unfoldable pub allowed : Bool → ℕ → Bool
allowed false b = pick (leb 33 b) (leb b 126) false
allowed true b = pick (leb 48 b) (leb b 57) false

-- "character code above 1,114,111 or in 55,296 to 57,343"
unfoldable pub scalar : ℕ → Bool
scalar c = pick (ltb c 55296) true (pick (leb c 57343) false (leb c 1114111))

-- "span start above end"; each is a 32-bit number
abbrev pub ValidSpan : Span → Type 0
ValidSpan s = (s.start ≤ s.end) × (s.end < 4294967296)

abbrev pub AllAllowed : Bool → Name → Type 0
AllAllowed g [] = Unit {0}
AllAllowed g (b ∷ n) = (allowed g b ≡ true) × AllAllowed g n

-- "a name or number with length 0 or above 63"
abbrev pub ValidName : Bool → Name → Type 0
ValidName g n = (1 ≤ length n) × (length n ≤ 63) × AllAllowed g n

abbrev pub ValidSymbol : Symbol → Type 0
ValidSymbol (character c) = scalar c ≡ true
ValidSymbol (identifier n) = ValidName false n
ValidSymbol (number n) = ValidName true n

-- "9: call or block inside a pattern."
abbrev pub NotPattern : Mode → Type 0
NotPattern Mode.pattern = ⊥
NotPattern Mode.result = Unit {0}

-- "10: brackets, calls and blocks nested above 32, the term itself counted": d of them stand around.
abbrev mutual
  pub ValidTerms : Terms → Mode → ℕ → Type 0
  ValidTerms nil m d = Unit {0}
  ValidTerms (symbol s x r) m d = ValidSpan s × ValidSymbol x × ValidTerms r m d
  ValidTerms (variable s v n r) m d = ValidSpan s × ValidName false n × ValidTerms r m d
  ValidTerms (bracket s t r) m d = ValidSpan s × (d < 32) × ValidTerms t m (suc d) × ValidTerms r m d
  ValidTerms (call s n t r) m d = ValidSpan s × (d < 32) × NotPattern m × ValidName false n × ValidTerms t m (suc d) × ValidTerms r m d
  ValidTerms (block s t b r) m d = ValidSpan s × (d < 32) × NotPattern m × ValidTerms t m (suc d) × ValidSentences b (suc d) × ValidTerms r m d

  pub ValidConditions : Conditions → ℕ → Type 0
  ValidConditions none d = Unit {0}
  ValidConditions (condition s t p c) d = ValidSpan s × ValidTerms t Mode.result d × ValidTerms p Mode.pattern d × ValidConditions c d

  pub ValidSentences : Sentences → ℕ → Type 0
  ValidSentences empty d = Unit {0}
  ValidSentences (sentence h p c r b) d = ValidSpan h.span × ValidTerms p Mode.pattern d × ValidConditions c d × ValidTerms r Mode.result d × ValidSentences b d

abbrev pub ValidNames : List Name → Type 0
ValidNames [] = Unit {0}
ValidNames (n ∷ ns) = ValidName false n × ValidNames ns

-- "one count byte"
abbrev pub ValidDeclarations : List Declaration → Type 0
ValidDeclarations [] = Unit {0}
ValidDeclarations (d ∷ ds) = ValidSpan d.span × (length d.names < 256) × ValidNames d.names × ValidDeclarations ds

abbrev pub ValidFunctions : List Function → Type 0
ValidFunctions [] = Unit {0}
ValidFunctions (f ∷ fs) = ValidSpan f.span × ValidName false f.name × ValidSentences f.sentences 0 × ValidFunctions fs

abbrev pub ValidBody : Program → Type 0
ValidBody w = ValidDeclarations w.declarations × ValidFunctions w.functions

-- "1: image below 12 or above 32,768 bytes." No encoding is below 12.
abbrev pub Valid : Program → Type 0
Valid w = ValidBody w × (length (encode w) ≤ 32768)
