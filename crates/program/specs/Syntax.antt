-- A program as an image holds it (document 01, "The image"), with its spans, names and declarations.
-- A sequence is flattened into its elements' type: a constructor that ends in its own type is an element and the rest.
use Rattle.std.specs.Prelude.{ℕ, List}

-- "A name is a length byte and its bytes": the bytes. The digits of a number are written the same way.
abbrev pub Name : Type 0
Name = List ℕ

-- "A span is two 32-bit numbers, start and end."
pub record Span : Type 0 where
  pub start : ℕ
  pub end : ℕ

-- "1 character (32-bit code); 2 identifier, 3 number"
pub data Symbol : Type 0 where
  character : ℕ → Symbol
  identifier number : Name → Symbol

-- "4 `s.`, 5 `t.`, 6 `e.` variable": one symbol, one term, any sequence of terms
pub data Kind : Type 0 where
  s_kind t_kind e_kind : Kind

-- What a sentence has before its pattern.
pub record Head : Type 0 where
  pub span : Span

mutual
  -- "Terms, each with a span after its mark": symbol, variable, "bracket (terms, close); call (name, terms, close); block (terms, close, sentences, close)"
  pub data Terms : Type 0 where
    nil : Terms
    symbol : Span → Symbol → Terms → Terms
    variable : Span → Kind → Name → Terms → Terms
    bracket : Span → Terms → Terms → Terms
    call : Span → Name → Terms → Terms → Terms
    block : Span → Terms → Sentences → Terms → Terms

  -- "conditions, each 11, span, result terms, close, pattern terms, close"
  pub data Conditions : Type 0 where
    none : Conditions
    condition : Span → Terms → Terms → Conditions → Conditions

  -- "Sentence: 10, span, pattern terms, close; conditions [..]; then 12, result terms, close."
  pub data Sentences : Type 0 where
    empty : Sentences
    sentence : Head → Terms → Conditions → Terms → Sentences → Sentences

-- "a byte 0 (Local) or 1 (Entry)"
pub data Visibility : Type 0 where
  local entry : Visibility

-- "Declaration: 17, span, one count byte, that many names."
pub record Declaration : Type 0 where
  pub span : Span
  pub names : List Name

-- "Function: 18, span, a byte 0 (Local) or 1 (Entry), name, sentences, close."
pub record Function : Type 0 where
  pub span : Span
  pub visibility : Visibility
  pub name : Name
  pub sentences : Sentences

-- "Declarations come first."
pub record Program : Type 0 where
  pub declarations : List Declaration
  pub functions : List Function
