-- Words for the programs of examples: terms with zero spans, names by their letters.
use Prim.Native.Nat.{ℕ}
use Prim.Native.String.{String}
use Rattle.program.specs.Syntax.{Span, character, identifier, number, s_kind, t_kind, e_kind, Terms, symbol, variable, bracket, call, block, Conditions, condition, Sentences, sentence, Visibility, Function}
use Rattle.patterns.specs.Ascii.{ascii}

abbrev pub no_span : Span
no_span = record { start = 0; end = 0 }

abbrev pub char : ℕ → Terms → Terms
char c r = symbol no_span (character c) r

abbrev pub word : String → Terms → Terms
word n r = symbol no_span (identifier (ascii n)) r

abbrev pub num : String → Terms → Terms
num n r = symbol no_span (number (ascii n)) r

abbrev pub s_var : String → Terms → Terms
s_var n r = variable no_span s_kind (ascii n) r

abbrev pub t_var : String → Terms → Terms
t_var n r = variable no_span t_kind (ascii n) r

abbrev pub e_var : String → Terms → Terms
e_var n r = variable no_span e_kind (ascii n) r

abbrev pub br : Terms → Terms → Terms
br i r = bracket no_span i r

abbrev pub apply : String → Terms → Terms → Terms
apply f a r = call no_span (ascii f) a r

abbrev pub within : Terms → Sentences → Terms → Terms
within a b r = block no_span a b r

abbrev pub when : Terms → Terms → Conditions → Conditions
when r p c = condition no_span r p c

abbrev pub rule : Terms → Conditions → Terms → Sentences → Sentences
rule p c r b = sentence (record { span = no_span }) p c r b

abbrev pub define : Visibility → String → Sentences → Function
define v n b = record { span = no_span; visibility = v; name = ascii n; sentences = b }
