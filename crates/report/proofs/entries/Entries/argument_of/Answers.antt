-- `report::entries::Entries::argument_of` meets its contract. Assumes nothing.
use Prim.Native.Nat.{ℕ, ◌+◌, ◌<◌}
use native.Mathlib.Omega.{arith}
use mathlib.Core.Path.{◌≡◌, refl, sym, ◌∙◌}
use mathlib.Core.Bool.{true}
use mathlib.Core.Option.{some}
use lib.ListN.{get_or, get_elem?}
use Rattle.program.specs.Syntax.{Function, Program}
use Rattle.symbols.proofs.Parts.{part_rest}
use Rattle.index.specs.Layout.{heads}
use Rattle.index.specs.Links.{list_head}
use Rattle.index.specs.Lists.{ListAt}
use Rattle.index.proofs.Alike.{call_of, reading_of}
use Rattle.told.specs.Numbered.{sites_of}
use Rattle.cleaning.proofs.Meeting.{list_at, site-below}
use Rattle.report.specs.Emitting.{Readable}
use Rattle.report.proofs.entries.Entries.argument_of.Goals as goal

pub calls-requires : goal.calls-requires
calls-requires c = let d = c.requires.readable.indexed in (omega (arith, d.fits, d.small), omega (arith, d.fits, d.small))

pub overflow_add-k : goal.overflow_add-k
overflow_add-k c =
    let below : c.args.i < c.args.self.now.plan.sites = let a = c.requires in site-below a.readable.indexed a.place a.function a.is c.args.i a.site a.at in
    let d = c.requires.readable.indexed in omega (arith, d.fits, d.small, c.calls.ensures, below)

pub offset_bounds-self-k : goal.offset_bounds-self-k
offset_bounds-self-k c =
    let below : c.args.i < c.args.self.now.plan.sites = let a = c.requires in site-below a.readable.indexed a.place a.function a.is c.args.i a.site a.at in
    let d = c.requires.readable.indexed in omega (arith, d.fits, d.small, c.calls.ensures, below)

pub bounds-self-k : goal.bounds-self-k
bounds-self-k c =
    let below : c.args.i < c.args.self.now.plan.sites = let a = c.requires in site-below a.readable.indexed a.place a.function a.is c.args.i a.site a.at in
    let d = c.requires.readable.indexed in omega (arith, d.fits, d.small, c.calls.ensures, below)

pub site_argument-requires : goal.site_argument-requires
site_argument-requires c =
    let the_let : (w : Program) (f : ℕ) (x : Function) → let a = c.args in Readable a.self.now.b.now w a.self.now.work.now a.self.now.plan → get_elem? w.functions f ≡ some x → ListAt a.self.now.b.now a.self.now.work.now c.calls.result (c.calls.result + a.self.now.plan.sites) a.self.now.plan.sites (list_head true (get_or a.self.now.work.now (heads a.self.now.plan + f) 0)) x.name (sites_of w) = λ w f x d e. list_at d.indexed f x e c.calls.result c.calls.ensures in
    let a = c.requires in
    call_of (the_let a.program a.place a.function a.readable a.is) (record { is = a.at; listed = a.listed })

pub returns : goal.returns
returns c =
    let the_let : (w : Program) (f : ℕ) (x : Function) → let a = c.args in Readable a.self.now.b.now w a.self.now.work.now a.self.now.plan → get_elem? w.functions f ≡ some x → ListAt a.self.now.b.now a.self.now.work.now c.calls.result (c.calls.result + a.self.now.plan.sites) a.self.now.plan.sites (list_head true (get_or a.self.now.work.now (heads a.self.now.plan + f) 0)) x.name (sites_of w) = λ w f x d e. list_at d.indexed f x e c.calls.result c.calls.ensures in
    let r = c.site_argument in (
      r.ensures.0,
      λ w f x y d e g l.
          let t = reading_of (the_let w f x d e) (record { is = g; listed = l }) r.result (r.ensures.1 (call_of (the_let w f x d e) (record { is = g; listed = l }))) in
          record { reading = record { terms = t.terms; rest = t.rest; is = sym (part_rest c.args.self.now.b.now r.result) ∙ t.is; valid = t.valid }; is = refl },
    )
