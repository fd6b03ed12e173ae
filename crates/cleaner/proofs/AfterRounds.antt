-- What marking the sentences that are left keeps, and what the rounds leave then.
use Prim.Native.Nat.{ℕ, zero, suc, ◌+◌, ◌<◌, ◌≤◌}
use native.Mathlib.Omega.{arith}
use mathlib.Core.Path.{◌≡◌, sym, ap, subst, fun_ext, ◌∙◌}
use mathlib.Core.Bool.{◌&&◌}
use mathlib.Core.List.{List, map}
use mathlib.Core.Option
use mathlib.Core.Option.{some}
use lib.Dec.{eqb, ltb}
use lib.ListN.{length, get_or, get_elem?}
use Rattle.program.specs.Syntax.{Function, Program}
use Rattle.program.specs.Sentences.{own_sentences}
use Rattle.restrictions.specs.Entries.{Entry}
use Rattle.index.specs.declared.Plan.{Plan}
use Rattle.index.specs.Layout.{heads, lines, witnesses, marks, calls, links}
use Rattle.index.specs.First.{First}
use Rattle.told.specs.Numbered.{sentences_before, sites_of}
use Rattle.index.specs.Tables.{FunctionEntry, SentenceEntry, Apart}
use Rattle.index.specs.Tabled.{Tabled}
use Rattle.told.specs.Calls.{is_listed}
use Rattle.index.specs.Links.{list_head, entry_next, entry_class, is_repeat}
use Rattle.index.proofs.First.{element_below}
use Rattle.meaning.specs.Root.{entry_place, root_place}
use Rattle.told.specs.Kept.{is_kept}
use Rattle.told.specs.History.{is_there, after_all, Told}
use Rattle.cleaning.specs.Indexed.{Indexed, fell_of}
use Rattle.cleaning.specs.Prepared.{ProgramLinked}
use Rattle.cleaning.specs.Walks.{Witnessed}
use Rattle.cleaning.specs.RoundDone.{RoundsReady, RoundsMade}
use Rattle.cleaning.proofs.Indexed.{fell-from, only_rounds_indexed}
use Rattle.cleaning.proofs.Witnesses.{witnessed-kept}
use Rattle.output.proofs.MarkPart.{fell-apart}
use Rattle.cleaner.specs.Delivery.{marks_in}
use Rattle.cleaner.specs.Done.{Done}
use Rattle.report.specs.Emitting.{Readable, Decided}
use Rattle.report.specs.Notes.{NotesWritten, OnlyOpen}
use Rattle.report.proofs.OpenNotes.{open_fell, open_readable}
use Rattle.report.proofs.SiteNotes.{written-only}
use Rattle.cleaner.proofs.Delivered.{marks-same}

-- Functions and sentences stand before the marks, sites and their lists behind them.
module _ {b : List ℕ} {w : Program} {old new : List ℕ} {p : Plan} (o : Apart old new (marks p) (calls p)) (d : Indexed b w old p) where
  function-before : (f : ℕ) (x : Function) → get_elem? w.functions f ≡ some x → f < p.functions
  function-before f x e = omega (arith, element_below w.functions f x e, d.functions)

  call_kept : (i : ℕ) → get_or new (calls p + i) 0 ≡ get_or old (calls p + i) 0
  call_kept i = o.after (calls p + i) (λ l. omega (arith, l))

  link-kept : (i : ℕ) → get_or new (links p + i) 0 ≡ get_or old (links p + i) 0
  link-kept i = o.after (links p + i) (λ l. omega (arith, l))

  pub marks-indexed : Indexed b w new p
  marks-indexed = record {
    functions = d.functions;
    sentences = d.sentences;
    sites = d.sites;
    fits = omega (arith, d.fits, o.length);
    small = omega (arith, d.small, o.length);
    function = record { entry = λ f x e. subst (λ (n : ℕ). FunctionEntry b n x (sentences_before f w.functions)) (sym (o.before (0 + f) (omega (arith, function-before f x e)))) (d.function.entry f x e) };
    sentence = record { entry = λ s x e. subst (λ (n : ℕ). SentenceEntry b n x) (sym (o.before (lines p + s) (omega (arith, element_below (own_sentences w.functions) s x e, d.sentences)))) (d.sentence.entry s x e) };
    site = record { entry = λ i x e. subst (λ (n : ℕ). Entry b n x) (sym (call_kept i)) (d.site.entry i x e) };
    headed = record { head = λ kind f x e. subst (λ (n : ℕ). First (is_listed kind x.name) 0 (sites_of w) (list_head kind n)) (sym (o.before (heads p + f) (omega (arith, function-before f x e)))) (d.headed.head kind f x e) };
    chained = record {
      chain = λ kind f x e. record {
        next = λ i y h g t. subst (λ (n : ℕ). First (is_listed kind x.name) (suc i) (sites_of w) (entry_next n)) (sym (link-kept i)) ((d.chained.chain kind f x e).next i y h g t);
      };
    };
    classed = λ f x e. record {
      class = λ i y g t. subst (λ (n : ℕ). First (is_repeat x.name y) 0 (sites_of w) (entry_class n)) (sym (link-kept i)) ((d.classed f x e).class i y g t);
    };
  }

-- The functions' entries of linked work, for who looks for the root.
pub linked_tabled : {b : List ℕ} {w : Program} {m : List ℕ} {p : Plan} → ProgramLinked b w m p → Tabled b m p.functions w.functions
linked_tabled {p} l = record { entries = l.indexed.function; count = l.indexed.functions; fits = omega (arith, l.indexed.fits) }

pub root-found : {root : ℕ} (w : Program) → root ≡ Option.get_or (entry_place (map (λ f. f.visibility) w.functions)) zero → root ≡ root_place w
unfolding root_place
root-found w e = e

pub linked_ready : {b : List ℕ} {w : Program} {m : List ℕ} {p : Plan} {root : ℕ} → ProgramLinked b w m p → root ≡ root_place w → RoundsReady b w m p root
linked_ready l e = record { indexed = l.indexed; fell = l.fell; asked = l.asked; root_is = e }

-- When the sentences that are left are marked and the sites noted, the report can read the entries.
module _ {b : List ℕ} {w : Program} {start old mid noted : List ℕ} {p : Plan} {root n : ℕ} (h : length b ≤ 32768) (r : RoundsReady b w start p root) (m : RoundsMade w start old p n) (a : Apart old mid (marks p) (calls p)) (o : NotesWritten w mid noted p p.functions) where
  noted-fell : fell_of p noted ≡ fell_of p old
  noted-fell = fell-from p mid noted (λ s l. o.before (lines p + s) (omega arith)) ∙ fun_ext (fell-apart p old mid a)

  pub noted-readable : Readable b w noted p
  noted-readable =
      let d = only_rounds_indexed m.only r.indexed in
      record {
        indexed = only_rounds_indexed (written-only o) (marks-indexed a d);
        short = h;
        witnessed = subst (λ (f : ℕ → ℕ). Witnessed (is_there f after_all) w noted p) (sym noted-fell) (witnessed-kept d.sentences (λ s l. o.before (witnesses p + s) (omega arith) ∙ a.before (witnesses p + s) (omega arith)) m.witnessed);
        noted = record { list = λ f x q. o.noted f x (omega (arith, element_below w.functions f x q, d.functions)) q };
      }

  -- And when it is noted which of them are undecided, the rounds are done.
  pub rounds-done : {new : List ℕ} → ((s : ℕ) → is_kept (marks_in p mid) s ≡ (ltb s p.sentences && eqb (fell_of p old s) 0)) → OnlyOpen p noted new → Decided b new p → Done b w new p root n
  rounds-done {new} k u c =
      let e = open_fell u ∙ noted-fell in
      record {
        removing = record {
          readable = open_readable u noted-readable;
          told = subst (λ (f : ℕ → ℕ). Told w f n) (sym e) m.told;
          below = λ s. omega (arith, ap (λ (f : ℕ → ℕ). f s) e, m.below s);
          decided = c;
        };
        root_is = r.root_is;
        marked = λ s.
            ap (λ (x : List ℕ). is_kept x s) (marks-same p mid new (omega (arith, noted-readable.indexed.fits, o.length)) (u.length ∙ o.length) (λ j i l. u.after j (omega (arith, i)) (omega (arith, l)) ∙ o.before j (omega (arith, l))))
            ∙ (k s ∙ ap (λ (f : ℕ → ℕ). ltb s p.sentences && eqb (f s) 0) (sym e));
      }
