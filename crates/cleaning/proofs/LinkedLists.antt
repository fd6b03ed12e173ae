-- Work from the lists of a program to its links: what each step keeps, and what stands at the end.
use Prim.Native.Nat.{ℕ, suc, ◌+◌, ◌-◌, ◌*◌, ◌/◌, ◌%◌, ◌<◌, ◌≤◌}
use native.Mathlib.Omega.{arith}
use mathlib.Core.Path.{◌≡◌, refl, sym, subst, ◌∙◌}
use mathlib.Core.Bool.{Bool, true, false, cond}
use mathlib.Core.List.{List}
use borrow.Author.Tests.{ltb-true}
use lib.Dec.{ltb}
use lib.ListN.{length, get_or}
use Rattle.program.specs.Syntax.{Program}
use Rattle.program.specs.Sentences.{own_sentences}
use Rattle.index.specs.declared.Plan.{Plan}
use Rattle.index.specs.First.{First}
use Rattle.index.specs.Bucket.{Filed}
use Rattle.told.specs.Calls.{is_listed}
use Rattle.index.specs.Layout.{heads, lines, calls, links, notes}
use Rattle.told.specs.Numbered.{sentences_before, sites_of}
use Rattle.index.specs.Tables.{FunctionEntry, SentenceEntry, SitesAt, Apart}
use Rattle.index.specs.Tabled.{Tabled, SomeFiled}
use Rattle.index.specs.Linking.{Columns, LinksOnly}
use Rattle.index.specs.Linking as linking
use Rattle.index.specs.Links.{list_head, entry_next, Headed, Chained}
use Rattle.index.proofs.First.{element_below}
use Rattle.index.proofs.Preserved.{tabled-same, sites-same, filed-apart, indexed-after, some_filed_after}
use Rattle.cleaning.specs.Indexed.{Indexed, fell_of}
use Rattle.cleaning.specs.Prepared.{ProgramListed, Chains, ListsKept, ClassesWritten, ProgramLinked}

-- The columns behind the sites, when those begin at r.
module _ {b m : List ℕ} {p : Plan} {w : Program} (l : ProgramListed b w m p) (r : ℕ) (e : r ≡ calls p) where
  abbrev at : ℕ
  at = r + p.sites + p.sites

  pub room-left : r + p.sites + p.sites + p.functions < length m
  room-left = omega (arith, l.fits, e)

  tabled : Tabled b m p.functions w.functions
  tabled = record { entries = l.function; count = l.functions; fits = omega (arith, l.fits) }

  sites-at : SitesAt b (sites_of w) m r
  sites-at = subst (SitesAt b (sites_of w) m) (sym e) l.site

  module _ {m₁ : List ℕ} (a₁ : Apart m m₁ (r + p.sites + p.sites + p.functions) (length m)) where
    pub tabled-filled : Tabled b m₁ p.functions w.functions
    tabled-filled = tabled-same tabled (λ k h. a₁.before k (omega (arith, h))) a₁.length

    module _ {m₂ : List ℕ} (a₂ : Apart m₁ m₂ (r + p.sites + p.sites) (r + p.sites + p.sites + p.functions + (length m - (r + p.sites + p.sites + p.functions))))
        (d : Filed w.functions m₂ (r + p.sites + p.sites) (r + p.sites + p.sites + p.functions) (length m - (r + p.sites + p.sites + p.functions)) 0)
        {m₃ : List ℕ} (a₃ : Apart m₂ m₃ p.functions (2 * p.functions)) where
      wide : 2 * p.functions ≤ at
      wide = omega (arith, e)

      same_size : length m₃ ≡ length m
      same_size = a₃.length ∙ (a₂.length ∙ a₁.length)

      kept-functions : (k : ℕ) → k < p.functions → get_or m₃ k 0 ≡ get_or m k 0
      kept-functions k h = a₃.before k h ∙ (a₂.before k (omega (arith, h, e)) ∙ a₁.before k (omega (arith, h, e)))

      kept-columns : (k : ℕ) → 2 * p.functions ≤ k → k < at → get_or m₃ k 0 ≡ get_or m k 0
      kept-columns k h u = a₃.after k (λ v. omega (arith, h, v)) ∙ (a₂.before k u ∙ a₁.before k (omega (arith, u)))

      tabled-cleared : Tabled b m₃ p.functions w.functions
      tabled-cleared = tabled-same tabled kept-functions same_size

      pub indexed-cleared : linking.Indexed b m₃ p.functions r p.sites (r + p.sites + p.sites) (length m - (r + p.sites + p.sites + p.functions)) w.functions (sites_of w)
      indexed-cleared = record {
        tabled = tabled-cleared;
        filed = filed-apart a₃ wide d;
        entries = sites-same sites-at (λ i h. kept-columns (r + i) (omega (arith, e)) (omega (arith, h, l.sites)));
        count = l.sites;
      }

      pub filed-cleared : SomeFiled b m₃ (record { functions = p.functions; at = r + p.sites + p.sites; buckets = length m - (r + p.sites + p.sites + p.functions) })
      filed-cleared = record { functions = w.functions; tabled = tabled-cleared; filed = indexed-cleared.filed; fits = omega (arith, room-left, same_size); some = omega (arith, room-left) }

      pub columns-cleared : Columns m₃ p.functions r (r + p.sites) p.sites (r + p.sites + p.sites) (length m - (r + p.sites + p.sites + p.functions))
      columns-cleared = record {
        heads_fit = omega (arith, e);
        calls_fit = omega arith;
        links_fit = omega arith;
        fits = omega (arith, room-left, same_size);
        small = omega (arith, l.small, same_size);
        few = omega (arith, l.small, room-left);
      }

      module _ {m₄ : List ℕ} (o : LinksOnly m₃ m₄ p.functions (r + p.sites) p.sites) where
        pub indexed-linked : linking.Indexed b m₄ p.functions r p.sites (r + p.sites + p.sites) (length m - (r + p.sites + p.sites + p.functions)) w.functions (sites_of w)
        indexed-linked = indexed-after columns-cleared o indexed-cleared

        pub filed-linked : SomeFiled b m₄ (record { functions = p.functions; at = r + p.sites + p.sites; buckets = length m - (r + p.sites + p.sites + p.functions) })
        filed-linked = some_filed_after columns-cleared o filed-cleared

        pub small-linked : length m₄ ≤ 32768
        small-linked = omega (arith, o.length, same_size, l.small)

        module _ {m₅ : List ℕ} (a₅ : Apart m₄ m₅ p.functions (2 * p.functions)) where
          pub lists_kept : ListsKept m m₅ p
          lists_kept = record {
            length = a₅.length ∙ (o.length ∙ same_size);
            functions = λ k h. a₅.before k h ∙ (o.entries k h ∙ kept-functions k h);
            columns = λ k h u. a₅.after k (λ v. omega (arith, h, v)) ∙ (o.columns k h (omega (arith, u, e)) ∙ kept-columns k h (omega (arith, u, e)));
          }

          linked-here : (i : ℕ) → get_or m₅ (r + p.sites + i) 0 ≡ get_or m₄ (r + p.sites + i) 0
          linked-here i = a₅.after (r + p.sites + i) (λ v. omega (arith, v, e))

          filed-shared : Filed w.functions m₅ (notes p) (notes p + p.functions) (length m₅ - notes p - p.functions) 0
          filed-shared = subst
              (λ (n : ℕ). Filed w.functions m₅ (notes p) (notes p + p.functions) n 0)
              (omega (arith, e, lists_kept.length))
              (subst (λ (k : ℕ). Filed w.functions m₅ k (k + p.functions) (length m - (r + p.sites + p.sites + p.functions)) 0) (omega (arith, e)) (filed-apart a₅ wide indexed-linked.filed))

          pub chains-linked : Headed w.functions (sites_of w) m₅ p.functions → Chained w.functions (sites_of w) m₄ (r + p.sites) 0 → Chains b w m₅ p
          chains-linked h c = record {
            functions = l.functions;
            sites = l.sites;
            fits = omega (arith, l.fits, lists_kept.length);
            small = omega (arith, l.small, lists_kept.length);
            function = tabled-same indexed-linked.tabled (λ k h. a₅.before k h) a₅.length;
            filed = filed-shared;
            site = sites-same l.site (λ i u. lists_kept.columns (calls p + i) (omega arith) (omega (arith, u, l.sites)));
            headed = h;
            chained = subst (λ (k : ℕ). Chained w.functions (sites_of w) m₅ (k + p.sites) 0) e (record { chain = λ kind f x q. record { next = λ i y u v t. subst (λ (k : ℕ). First (is_listed kind x.name) (suc i) (sites_of w) (entry_next k)) (sym (linked-here i)) ((c.chain kind f x q).next i y u v t) } });
          }

-- With the classes all is there.
module _ {b old mid new : List ℕ} {p : Plan} {w : Program} (l : ProgramListed b w old p) (s : Chains b w mid p) (k : ListsKept old mid p) (c : ClassesWritten w mid new p p.functions) where
  size : length new ≡ length old
  size = c.length ∙ k.length

  functions-kept : (j : ℕ) → j < p.functions → get_or new j 0 ≡ get_or old j 0
  functions-kept j h = c.before j (omega (arith, h)) ∙ k.functions j h

  columns-kept : (j : ℕ) → lines p ≤ j → j < links p → get_or new j 0 ≡ get_or old j 0
  columns-kept j h u = c.before j u ∙ k.columns j h u

  indexed : Indexed b w new p
  indexed = record {
    functions = l.functions;
    sentences = l.sentences;
    sites = l.sites;
    fits = omega (arith, l.fits, size);
    small = omega (arith, l.small, size);
    function = record { entry = λ f x q. subst (λ (v : ℕ). FunctionEntry b v x (sentences_before f w.functions)) (sym (functions-kept (0 + f) (omega (arith, element_below w.functions f x q, l.functions)))) (l.function.entry f x q) };
    sentence = record { entry = λ i x q. subst (λ (v : ℕ). SentenceEntry b v x) (sym (columns-kept (lines p + i) (omega arith) (omega (arith, element_below (own_sentences w.functions) i x q, l.sentences)))) (l.sentence.entry i x q) };
    site = sites-same l.site (λ i u. columns-kept (calls p + i) (omega arith) (omega (arith, u, l.sites)));
    headed = record { head = λ kind f x q. subst (λ (v : ℕ). First (is_listed kind x.name) 0 (sites_of w) (list_head kind v)) (sym (c.before (heads p + f) (omega (arith, element_below w.functions f x q, l.functions)))) (s.headed.head kind f x q) };
    chained = record { chain = λ kind f x q. record { next = λ i y u v t. subst (λ (j : ℕ). First (is_listed kind x.name) (suc i) (sites_of w) j) (sym (c.nexts i)) ((s.chained.chain kind f x q).next i y u v t) } };
    classed = λ f x q. c.classed f x (omega (arith, element_below w.functions f x q, l.functions)) q;
  }

  none-fell : (i : ℕ) → fell_of p new i ≡ 0
  unfolding fell_of
  none-fell i = go (ltb i p.sentences) refl
    where
      go : (t : Bool) → ltb i p.sentences ≡ t → cond t (get_or new (lines p + i) 0 / 32768 % 4096) 0 ≡ 0
      go true h =
          let u = ltb-true i p.sentences h in
          let v = columns-kept (lines p + i) (omega arith) (omega (arith, u)) in
          omega (arith, v, l.fresh i u)
      go false h = refl

  pub program_linked : ProgramLinked b w new p × (length new ≡ length old)
  program_linked = (
    record {
      indexed = indexed;
      fell = none-fell;
      asked = λ i h. columns-kept (lines p + p.sentences + i) (omega arith) (omega (arith, h)) ∙ l.asked i h;
    },
    size,
  )
