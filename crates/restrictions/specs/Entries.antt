-- Call sites as entries of a work slice: "a record's name is handed back as the image's own bytes", so an entry only says where the call stands.
use Rattle.std.specs.Prelude.{ℕ, ◌+◌, ◌/◌, ◌%◌, ◌≤◌, ◌≡◌, List, [], ◌∷◌, ◌++◌, length, take, drop}
use Rattle.told.specs.Numbered.{Held}
use Rattle.program.specs.Syntax.{Name, Span, Terms}
use Rattle.program.specs.Bytes.{put_span, put_name}
use Rattle.program.specs.Encode.{put_terms}
use Rattle.program.specs.Limits.{Mode, ValidTerms}

-- "8 call (name, terms, close)": a call at the start of s.
pub record CallAt (s : List ℕ) : Type 0 where
  pub span : Span
  pub callee : Name
  pub argument : Terms
  pub rest : List ℕ
  pub is : s ≡ 8 ∷ put_span span (put_name callee (put_terms argument rest))
  pub valid : ValidTerms argument Mode.result 0

-- The offset of the call, 15 bits, and above it the sentence's number, 12 bits.
abbrev pub entry_offset : ℕ → ℕ
entry_offset e = e % 32768

abbrev pub entry_sentence : ℕ → ℕ
entry_sentence e = e / 32768 % 4096

-- Entry e names the site x of the body b.
pub record Entry (b : List ℕ) (e : ℕ) (x : Held) : Type 0 where
  pub call : CallAt (drop (entry_offset e) b)
  pub callee : call.callee ≡ x.site.callee
  pub argument : call.argument ≡ x.site.argument
  pub sentence : entry_sentence e ≡ x.sentence

-- The entries name these sites, in order.
abbrev pub SitesIn : List ℕ → List ℕ → List Held → Type 0
SitesIn b [] [] = Unit {0}
SitesIn b [] (x ∷ xs) = ⊥
SitesIn b (e ∷ es) [] = ⊥
SitesIn b (e ∷ es) (x ∷ xs) = Entry b e x × SitesIn b es xs

-- `new` is `old` with the sites xs of b written from n on, up to r.
pub record Appended (b old : List ℕ) (n r : ℕ) (new : List ℕ) (xs : List Held) : Type 0 where
  pub entries : List ℕ
  pub is : new ≡ take n old ++ (entries ++ drop r old)
  pub named : SitesIn b entries xs
  pub count : r ≡ n + length entries
  pub many : length entries ≡ length xs
  pub fits : r ≤ length old
