-- `report::entries::Entries::put_if_leads` meets its contract. Assumes nothing.
use Prim.Native.Nat.{ℕ}
use native.Mathlib.Omega.{arith}
use mathlib.Core.Bool.{Bool, true}
use mathlib.Core.Option.{some}
use mathlib.Core.Path.{ap, sym, ◌∙◌, ◌≡◌}
use lib.ListN.{get_elem?}
use Rattle.told.specs.History.{is_there}
use Rattle.cleaning.specs.Indexed.{fell_of}
use Rattle.told.specs.Numbered.{sites_of, Held}
use Rattle.program.specs.Syntax.{Function, Program}
use Rattle.told.specs.Calls.{is_listed}
use Rattle.report.specs.Emitting.{Readable}
use Rattle.report.specs.Leading.{angled_if, is_leading}
use Rattle.text.proofs.Written.{written-nothing, same}
use Rattle.report.proofs.entries.Entries.put_if_leads.Goals as goal

pub leads-requires : goal.leads-requires
leads-requires c =
    let a = c.requires.0 in
    record { body = c.args.self.now.b.now; program = a.program; indexed = a.readable.indexed; place = a.place; function = a.function; is = a.is; site = a.site; at = a.at; listed = a.listed }

pub returns-else-leads : goal.returns-else-leads
unfolding angled_if
returns-else-leads c =
    let the_let : (w : Program) (f : ℕ) (x : Function) (y : Held) → let a = c.args in Readable a.self.now.b.now w a.self.now.work.now a.self.now.plan → get_elem? w.functions f ≡ some x → get_elem? (sites_of w) a.i ≡ some y → is_listed true x.name y ≡ true → c.leads.result ≡ is_leading (is_there (fell_of a.self.now.plan a.self.now.work.now) a.round) x.name (sites_of w) a.i y = λ w f x y d e g l. c.leads.ensures c.args.self.now.b.now w f x y d e g l in
    record {
      written = λ w f x y d e g l.
          same c.args.out.now (ap (λ (t : Bool). angled_if t y.site.argument) (sym (c.if-leads.false) ∙ the_let w f x y d e g l)) (written-nothing c.args.out.now);
      short = omega arith;
    }

pub put_restriction-requires : goal.put_restriction-requires
put_restriction-requires c = c.requires

pub returns-then-leads : goal.returns-then-leads
unfolding angled_if
returns-then-leads c =
    let the_let : (w : Program) (f : ℕ) (x : Function) (y : Held) → let a = c.args in Readable a.self.now.b.now w a.self.now.work.now a.self.now.plan → get_elem? w.functions f ≡ some x → get_elem? (sites_of w) a.i ≡ some y → is_listed true x.name y ≡ true → c.leads.result ≡ is_leading (is_there (fell_of a.self.now.plan a.self.now.work.now) a.round) x.name (sites_of w) a.i y = λ w f x y d e g l. c.leads.ensures c.args.self.now.b.now w f x y d e g l in
    record {
      written = λ w f x y d e g l.
          same c.args.out.now (ap (λ (t : Bool). angled_if t y.site.argument) (sym (c.if-leads.true) ∙ the_let w f x y d e g l)) (c.put_restriction.ensures.written w f x y d e g l);
      short = c.put_restriction.ensures.short;
    }
