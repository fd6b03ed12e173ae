-- `values::tokens::is_token` meets its contract. Assumes nothing.
use native.Mathlib.Omega.{arith}
use mathlib.Core.Path.{sym, ◌∙◌}
use lib.ListN.{length}
use borrow.Author.Tests.{eqb-true}
use Rattle.meaning.proofs.Tokens.{span-room}
use Rattle.values.proofs.Sizes.{nothing-read, closing-read, no_span-read, opening-read, code-read, name-read, other-read}
use Rattle.values.proofs.tokens.is_token.Goals as goal

pub returns-then-is_empty : goal.returns-then-is_empty
returns-then-is_empty c = nothing-read c.args.s.now (eqb-true (length c.args.s.now) 0 (sym c.if-is_empty.ensures))

pub returns-then-m-eq15 : goal.returns-then-m-eq15
returns-then-m-eq15 c = closing-read c.args.s.now c.if-m-eq15.true

pub returns-then-not-span_fits : goal.returns-then-not-span_fits
returns-then-not-span_fits c = no_span-read c.args.s.now c.if-m-eq15.false (sym c.span_fits.ensures ∙ c.if-not-span_fits.true)

pub code_fits-requires : goal.code_fits-requires
code_fits-requires c = span-room c.args.s.now (sym c.span_fits.ensures ∙ c.if-not-span_fits.false)

pub name_fits-requires : goal.name_fits-requires
name_fits-requires c = span-room c.args.s.now (sym c.span_fits.ensures ∙ c.if-not-span_fits.false)

pub returns-in-1 : goal.returns-in-1
returns-in-1 c = c.code_fits.ensures ∙ code-read c.args.s.now (sym c.span_fits.ensures ∙ c.if-not-span_fits.false) c.in-1.is

pub returns-in-7 : goal.returns-in-7
returns-in-7 c = opening-read c.args.s.now (sym c.span_fits.ensures ∙ c.if-not-span_fits.false) c.in-7.is

pub returns-in-2 : goal.returns-in-2
returns-in-2 c = c.name_fits.ensures ∙ name-read c.args.s.now (sym c.span_fits.ensures ∙ c.if-not-span_fits.false) (omega arith) (omega arith)

pub returns-in_default : goal.returns-in_default
returns-in_default c = other-read c.args.s.now (sym c.span_fits.ensures ∙ c.if-not-span_fits.false) c.if-m-eq15.false (λ e. omega (arith, e)) (λ e. omega (arith, e)) (λ e. omega (arith, e)) (λ e. omega (arith, e))

pub returns-in_default-2 : goal.returns-in_default-2
returns-in_default-2 c = other-read c.args.s.now (sym c.span_fits.ensures ∙ c.if-not-span_fits.false) c.if-m-eq15.false (λ e. omega (arith, e)) (λ e. omega (arith, e)) (λ e. omega (arith, e)) (λ e. omega (arith, e))
