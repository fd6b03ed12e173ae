-- What the first mark says of terms.
use Prim.Native.Nat.{ℕ, ◌<◌}
use native.Mathlib.Omega.{arith}
use mathlib.Core.Path.{◌≡◌, refl}
use mathlib.Core.List.{List}
use lib.ListN.{length, get_or}
use Rattle.program.specs.Syntax.{Name, Span, character, identifier, number, s_kind, t_kind, e_kind, Terms, nil, symbol, variable, bracket, call, block, Sentences}
use Rattle.program.specs.Bytes.{put_name}
use Rattle.program.specs.Encode.{put_symbol, kind_mark, put_terms, put_sentences}
use Rattle.image.specs.Parts.{tail}
use Rattle.program.proofs.Lengths.{span-length, name-length, symbol-length, terms-length, sentences-length}
use Rattle.meaning.specs.Sites.{collect_call_sites, restriction_is_characterisable}

pub record IsBracket (t : Terms) : Type 0 where
  pub span : Span
  pub inside : Terms
  pub rest : Terms
  pub is : t ≡ bracket span inside rest

pub record IsCall (t : Terms) : Type 0 where
  pub span : Span
  pub callee : Name
  pub argument : Terms
  pub rest : Terms
  pub is : t ≡ call span callee argument rest

pub record IsBlock (t : Terms) : Type 0 where
  pub span : Span
  pub argument : Terms
  pub sentences : Sentences
  pub rest : Terms
  pub is : t ≡ block span argument sentences rest

-- A symbol or a variable has no calls.
pub record IsFlat (t : Terms) : Type 0 where
  pub sites : collect_call_sites t ≡ collect_call_sites (tail t)
  pub plain : restriction_is_characterisable t ≡ restriction_is_characterisable (tail t)

module _ (k : List ℕ) where
  pub at-close : (t : Terms) → get_or (put_terms t k) 0 0 ≡ 15 → t ≡ nil
  unfolding put_terms put_symbol kind_mark
  at-close nil e = refl
  at-close (symbol s (character c) r) e = absurd (omega arith)
  at-close (symbol s (identifier n) r) e = absurd (omega arith)
  at-close (symbol s (number n) r) e = absurd (omega arith)
  at-close (variable s s_kind n r) e = absurd (omega arith)
  at-close (variable s t_kind n r) e = absurd (omega arith)
  at-close (variable s e_kind n r) e = absurd (omega arith)
  at-close (bracket s i r) e = absurd (omega arith)
  at-close (call s f a r) e = absurd (omega arith)
  at-close (block s a b r) e = absurd (omega arith)

  pub at_bracket : (t : Terms) → get_or (put_terms t k) 0 0 ≡ 7 → IsBracket t
  unfolding put_terms put_symbol kind_mark
  at_bracket nil e = absurd (omega arith)
  at_bracket (symbol s (character c) r) e = absurd (omega arith)
  at_bracket (symbol s (identifier n) r) e = absurd (omega arith)
  at_bracket (symbol s (number n) r) e = absurd (omega arith)
  at_bracket (variable s s_kind n r) e = absurd (omega arith)
  at_bracket (variable s t_kind n r) e = absurd (omega arith)
  at_bracket (variable s e_kind n r) e = absurd (omega arith)
  at_bracket (bracket s i r) e = record { span = s; inside = i; rest = r; is = refl }
  at_bracket (call s f a r) e = absurd (omega arith)
  at_bracket (block s a b r) e = absurd (omega arith)

  pub at_call : (t : Terms) → get_or (put_terms t k) 0 0 ≡ 8 → IsCall t
  unfolding put_terms put_symbol kind_mark
  at_call nil e = absurd (omega arith)
  at_call (symbol s (character c) r) e = absurd (omega arith)
  at_call (symbol s (identifier n) r) e = absurd (omega arith)
  at_call (symbol s (number n) r) e = absurd (omega arith)
  at_call (variable s s_kind n r) e = absurd (omega arith)
  at_call (variable s t_kind n r) e = absurd (omega arith)
  at_call (variable s e_kind n r) e = absurd (omega arith)
  at_call (bracket s i r) e = absurd (omega arith)
  at_call (call s f a r) e = record { span = s; callee = f; argument = a; rest = r; is = refl }
  at_call (block s a b r) e = absurd (omega arith)

  pub at_block : (t : Terms) → get_or (put_terms t k) 0 0 ≡ 9 → IsBlock t
  unfolding put_terms put_symbol kind_mark
  at_block nil e = absurd (omega arith)
  at_block (symbol s (character c) r) e = absurd (omega arith)
  at_block (symbol s (identifier n) r) e = absurd (omega arith)
  at_block (symbol s (number n) r) e = absurd (omega arith)
  at_block (variable s s_kind n r) e = absurd (omega arith)
  at_block (variable s t_kind n r) e = absurd (omega arith)
  at_block (variable s e_kind n r) e = absurd (omega arith)
  at_block (bracket s i r) e = absurd (omega arith)
  at_block (call s f a r) e = absurd (omega arith)
  at_block (block s a b r) e = record { span = s; argument = a; sentences = b; rest = r; is = refl }

  pub at_flat : (t : Terms) → (get_or (put_terms t k) 0 0 ≡ 7 → ⊥) → (get_or (put_terms t k) 0 0 ≡ 8 → ⊥) → (get_or (put_terms t k) 0 0 ≡ 9 → ⊥) → (get_or (put_terms t k) 0 0 ≡ 15 → ⊥) → IsFlat t
  unfolding put_terms collect_call_sites restriction_is_characterisable tail
  at_flat nil n7 n8 n9 n15 = absurd (n15 refl)
  at_flat (symbol s x r) n7 n8 n9 n15 = record { sites = refl; plain = refl }
  at_flat (variable s v n r) n7 n8 n9 n15 = record { sites = refl; plain = refl }
  at_flat (bracket s i r) n7 n8 n9 n15 = absurd (n7 refl)
  at_flat (call s f a r) n7 n8 n9 n15 = absurd (n8 refl)
  at_flat (block s a b r) n7 n8 n9 n15 = absurd (n9 refl)

  -- A term takes bytes.
  pub tail-less : (t : Terms) → (get_or (put_terms t k) 0 0 ≡ 15 → ⊥) → length (put_terms (tail t) k) < length (put_terms t k)
  unfolding put_terms tail
  tail-less nil h = absurd (h refl)
  tail-less (symbol s x r) h = omega (arith, symbol-length s x (put_terms r k))
  tail-less (variable s v n r) h = omega (arith, span-length s (put_name n (put_terms r k)), name-length n (put_terms r k))
  tail-less (bracket s i r) h = omega (arith, span-length s (put_terms i (put_terms r k)), terms-length i (put_terms r k))
  tail-less (call s f a r) h = omega (arith, span-length s (put_name f (put_terms a (put_terms r k))), name-length f (put_terms a (put_terms r k)), terms-length a (put_terms r k))
  tail-less (block s a b r) h = omega (arith, span-length s (put_terms a (put_sentences b (put_terms r k))), terms-length a (put_sentences b (put_terms r k)), sentences-length b (put_terms r k))
