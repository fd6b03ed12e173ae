-- The texts of a report's lines: a name, a pattern and a restriction are each no longer than the body that they stand in.
use Prim.Native.Nat.{ℕ, zero, suc, ◌+◌, ◌*◌, ◌%◌, ◌≤◌}
use native.Mathlib.Omega.{arith}
use mathlib.Core.Path.{◌≡◌, refl, ap, ◌∙◌}
use mathlib.Core.Bool.{Bool, true, ◌&&◌, not}
use mathlib.Core.List.{List, [], ◌∷◌, map}
use lib.Dec.{eqb}
use lib.ListN.{length, get_or, length-append, length-drop}
use Rattle.program.specs.Syntax.{Name, Terms, Sentences, empty, sentence, Function, Program}
use Rattle.program.specs.Bytes.{put_name}
use Rattle.program.specs.Encode.{put_terms, sentence_count, own_sentence_count}
use Rattle.program.specs.Sentences.{Sentence, sentence_list, own_sentences}
use Rattle.program.proofs.Lengths.{span-length, name-length}
use Rattle.patterns.specs.Ascii.{ascii}
use Rattle.patterns.specs.Names.{same_name}
use Rattle.patterns.specs.Search.{patterns_overlap}
use Rattle.patterns.specs.Configuration.{same_configuration}
use Rattle.meaning.specs.Lists.{any, all, select, firsts}
use Rattle.meaning.specs.Sites.{Site, restriction_is_characterisable}
use Rattle.told.specs.Numbered.{Held, sites_of}
use Rattle.restrictions.specs.Entries.{Entry, entry_offset}
use Rattle.meaning.specs.Restrictions.{entering, entering_restrictions}
use Rattle.restrictions.proofs.Modes.{plain-pattern}
use Rattle.program.proofs.Own.{sentences-counted}
use Rattle.index.specs.declared.Plan.{Plan}
use Rattle.index.specs.Layout.{lines}
use Rattle.meaning.specs.Cleaning.{is_disjoint}
use Rattle.meaning.specs.Text.{Text, format_terms}
use Rattle.meaning.specs.CleanReport.{RemovedSentence, UndecidedSentence, UncoveredRestriction}
use Rattle.told.specs.KeptSites.{kept_sites}
use Rattle.told.specs.Asked.{uncharacterises, is_judged}
use Rattle.told.specs.History.{is_there, numbered}
use Rattle.told.specs.ToldReport.{Fallen, fallen_of, fallen_in, fallen_from, restrictions_at, removed_of, same_fallen, overlaps, judged_only, undecided_in, uncovered_in, undecided_told, uncovered_told, uncharacterised_names}
use Rattle.meaning.specs.Report.{join, angled, removed_line, undecided_line, uncovered_line, uncharacterised_line}
use Rattle.text.proofs.Formatting.{text-fits}
use Rattle.report.specs.Emitting.{Readable}
use Rattle.told.proofs.AtMost.{Each, AtMost, Among, each_at, each_append, each_split, each_cond, either, select-among, firsts-among, most_more, most_among, most_select, most_append, most_judged, most_map, flatten_length, joined_length}
use Rattle.told.proofs.Fallen.{fallen_count}
use Rattle.report.proofs.Places.{named-at, named-fits, pattern-fits}

-- ---- texts that are no longer than a body

abbrev pub Fits : Text → Type 0
Fits t = length t ≤ 32768

abbrev pub TermsFit : Terms → Type 0
TermsFit t = Fits (format_terms t)

abbrev pub PatternFits : Sentence → Type 0
PatternFits y = TermsFit y.pattern

abbrev pub FunctionFits : Function → Type 0
FunctionFits x = Fits x.name × Each PatternFits (sentence_list x.sentences)

abbrev pub ArgumentFits : Terms → Type 0
ArgumentFits t = restriction_is_characterisable t ≡ true → TermsFit t

abbrev pub HeldFits : Held → Type 0
HeldFits x = ArgumentFits x.site.argument

abbrev SiteFits : Site → Type 0
SiteFits x = ArgumentFits x.argument

entry-fits : {b : List ℕ} {e : ℕ} {x : Held} → length b ≤ 32768 → Entry b e x → HeldFits x
entry-fits {b} {e} {x} h y c =
    let a = y.call.argument in
    let r = y.call.rest in
    let t = text-fits a 0 r (plain-pattern a 0 (ap restriction_is_characterisable y.argument ∙ c) y.call.valid) in
    omega (arith, h, t, ap (λ (z : Terms). length (format_terms z)) y.argument, ap length y.call.is, span-length y.call.span (put_name y.call.callee (put_terms a r)), name-length y.call.callee (put_terms a r), length-drop (entry_offset e) b)

own_fit : (fs : List Function) → Each (λ x. Fits x.name) fs → Each PatternFits (own_sentences fs) → Each FunctionFits fs
unfolding own_sentences
own_fit [] n s = tt
own_fit (x ∷ fs) n s = let a = each_split PatternFits (sentence_list x.sentences) (own_sentences fs) s in ((n.0, a.0), own_fit fs n.1 a.1)

module _ {b : List ℕ} {w : Program} {m : List ℕ} {p : Plan} (d : Readable b w m p) where
  pub functions_fit : Each FunctionFits w.functions
  functions_fit =
      own_fit w.functions
      (each_at (λ x. Fits x.name) w.functions (λ f x e. omega (arith, named-fits (named-at d f x e (get_or m f 0 % 32768) refl), d.short)))
      (each_at PatternFits (own_sentences w.functions) (λ s y e. pattern-fits d s y e (get_or m (lines p + s) 0 % 32768 + 9) refl))

  pub sites_fit : AtMost HeldFits p.sites (sites_of w)
  sites_fit = record {
    each = each_at HeldFits (sites_of w) (λ i x e. entry-fits d.short (d.indexed.site.entry i x e));
    few = omega (arith, d.indexed.sites);
  }

-- ---- restrictions

kept-among : (keep : ℕ → Bool) (sites : List Held) → Among (kept_sites keep sites) (map (λ x. x.site) sites)
unfolding kept_sites
kept-among keep [] = Among.nothing
kept-among keep (x ∷ sites) = let a = kept-among keep sites in either (keep x.sentence) (Among.taken a) (Among.passed a)

restrictions_fit : (keep : ℕ → Bool) (f : Name) {n : ℕ} (sites : List Held) → AtMost HeldFits n sites → AtMost TermsFit n (restrictions_at keep f sites)
unfolding entering_restrictions entering
restrictions_fit keep f {n} sites h =
    let k : AtMost SiteFits n (kept_sites keep sites) = most_among (kept-among keep sites) (most_map HeldFits SiteFits (λ x. x.site) sites (λ x s. s) h) in
    let s : AtMost SiteFits n (select (λ x. same_name x.callee f) (kept_sites keep sites)) = most_among (select-among (λ x. same_name x.callee f) (kept_sites keep sites)) k in
    let a : AtMost ArgumentFits n (entering f (kept_sites keep sites)) = most_map SiteFits ArgumentFits (λ x. x.argument) (select (λ x. same_name x.callee f) (kept_sites keep sites)) (λ x e. e) s in
    most_among (firsts-among same_configuration (select restriction_is_characterisable (entering f (kept_sites keep sites)))) (most_select restriction_is_characterisable (entering f (kept_sites keep sites)) a)

-- ---- lines

angled-fits : (t : Text) → Fits t → length (angled t) ≤ 32770
unfolding angled ascii
angled-fits t h = omega (arith, length-append t (62 ∷ []))

removed_line_lem : (x : RemovedSentence) {n : ℕ} → Fits x.function → Fits x.pattern → AtMost Fits n x.restrictions → length (removed_line x) ≤ 65555 + n * 32771
unfolding removed_line ascii
removed_line_lem x {n} f p r =
    let j = joined_length (ascii " ") 32770 (map angled x.restrictions) (most_map Fits (λ t. length t ≤ 32770) angled x.restrictions angled-fits r) in
    omega (arith, f, p, j, flatten_length (ascii "  " ∷ x.function ∷ ascii " {" ∷ x.pattern ∷ ascii "} rejected by " ∷ join (ascii " ") (map angled x.restrictions) ∷ ascii "\n" ∷ []))

undecided_line_lem : (x : UndecidedSentence) → Fits x.function → Fits x.pattern → length (undecided_line x) ≤ 65542
unfolding undecided_line ascii
undecided_line_lem x f p = omega (arith, f, p, flatten_length (ascii "  " ∷ x.function ∷ ascii " {" ∷ x.pattern ∷ ascii "}\n" ∷ []))

uncovered_line_lem : (x : UncoveredRestriction) → Fits x.function → Fits x.input → length (uncovered_line x) ≤ 65543
unfolding uncovered_line ascii
uncovered_line_lem x f i = omega (arith, f, i, flatten_length (ascii "  " ∷ x.function ∷ ascii " <- " ∷ x.input ∷ ascii "\n" ∷ []))

pub uncharacterised_line_lem : {n : ℕ} (l : List Name) → AtMost Fits n l → length (uncharacterised_line l) ≤ 18 + n * 32770
unfolding uncharacterised_line ascii
uncharacterised_line_lem [] h = omega arith
uncharacterised_line_lem (f ∷ l) h = omega (arith, joined_length (ascii ", ") 32768 (f ∷ l) h, flatten_length (ascii "uncharacterised: " ∷ join (ascii ", ") (f ∷ l) ∷ ascii "\n" ∷ []))

-- ---- the removed sentences

abbrev FallenFits : Fallen → Type 0
FallenFits u = Fits u.function.name × PatternFits u.sentence

module _ (fell : ℕ → ℕ) where
  fallen_of-fits : (r : ℕ) (x : Function) → Fits x.name → (b : Sentences) (i : ℕ) → Each PatternFits (sentence_list b) → Each FallenFits (fallen_of fell r x i b)
  unfolding fallen_of sentence_list
  fallen_of-fits r x n empty i e = tt
  fallen_of-fits r x n (sentence h p c q b) i e =
      let l = fallen_of fell r x (suc i) b in
      let a = fallen_of-fits r x n b (suc i) e.1 in
      each_cond FallenFits (eqb (fell i) r) (record { round = r; function = x; number = i; sentence = record { head = h; pattern = p; conditions = c; result = q } } ∷ l) l ((n, e.0), a) a

  fallen_in-fits : (r : ℕ) (fs : List Function) (i : ℕ) → Each FunctionFits fs → Each FallenFits (fallen_in fell r i fs)
  unfolding fallen_in
  fallen_in-fits r [] i e = tt
  fallen_in-fits r (x ∷ fs) i e =
      let j : ℕ = i + sentence_count x.sentences in
      each_append FallenFits (fallen_of fell r x i x.sentences) (fallen_in fell r j fs) (fallen_of-fits r x e.0.0 x.sentences i e.0.1) (fallen_in-fits r fs j e.1)

  fallen_fits : (w : Program) → Each FunctionFits w.functions → (n r : ℕ) → Each FallenFits (fallen_from w fell r n)
  unfolding fallen_from
  fallen_fits w e zero r = tt
  fallen_fits w e (suc n) r = each_append FallenFits (fallen_in fell r 0 w.functions) (fallen_from w fell (suc r) n) (fallen_in-fits r w.functions 0 e) (fallen_fits w e n (suc r))

  removed-fits : (w : Program) {k : ℕ} → AtMost HeldFits k (sites_of w) → (u : Fallen) → FallenFits u → length (removed_line (removed_of w fell u)) ≤ 65555 + k * 32771
  unfolding removed_of
  removed-fits w {k} s u h =
      let l = restrictions_at (is_there fell u.round) u.function.name (sites_of w) in
      removed_line_lem (removed_of w fell u) h.0 h.1 (most_map TermsFit Fits format_terms l (λ t f. f) (restrictions_fit (is_there fell u.round) u.function.name (sites_of w) s))

  pub removed_most : (w : Program) {k : ℕ} (n : ℕ) → Each FunctionFits w.functions → AtMost HeldFits k (sites_of w)
      → AtMost (λ x. length (removed_line x) ≤ 65555 + k * 32771) (own_sentence_count w.functions) (map (removed_of w fell) (firsts same_fallen (fallen_from w fell 1 n)))
  removed_most w {k} n e s =
      let a : AtMost FallenFits (own_sentence_count w.functions) (fallen_from w fell 1 n) = record { each = fallen_fits w e n 1; few = fallen_count w fell 1 n } in
      most_map FallenFits (λ x. length (removed_line x) ≤ 65555 + k * 32771) (removed_of w fell) (firsts same_fallen (fallen_from w fell 1 n)) (removed-fits w s) (most_among (firsts-among same_fallen (fallen_from w fell 1 n)) a)

-- ---- the final lists

numbered-among : (keep : ℕ → Bool) (b : Sentences) (i : ℕ) → Among (numbered keep i b) (sentence_list b)
unfolding numbered sentence_list
numbered-among keep empty i = Among.nothing
numbered-among keep (sentence h p c r b) i = let a = numbered-among keep b (suc i) in either (keep i) (Among.taken a) (Among.passed a)

abbrev pub UndecidedFits : UndecidedSentence → Type 0
UndecidedFits u = length (undecided_line u) ≤ 65542

abbrev pub UncoveredFits : UncoveredRestriction → Type 0
UncoveredFits u = length (uncovered_line u) ≤ 65543

module _ (keep : ℕ → Bool) (sites : List Held) where
  undecided_in_lem : (i : ℕ) (x : Function) → FunctionFits x → AtMost UndecidedFits (sentence_count x.sentences) (undecided_in keep sites i x)
  unfolding undecided_in
  undecided_in_lem i x e =
      let test : Sentence → Bool = λ y. not (any (overlaps keep x.name y.pattern) sites) in
      let a : AtMost PatternFits (sentence_count x.sentences) (sentence_list x.sentences) = record { each = e.1; few = omega (arith, sentences-counted x.sentences) } in
      let s = most_among (select-among test (numbered keep i x.sentences)) (most_among (numbered-among keep x.sentences i) a) in
      most_map PatternFits UndecidedFits (λ y. record { function = x.name; pattern = format_terms y.pattern }) (select test (numbered keep i x.sentences))
      (λ y f. undecided_line_lem (record { function = x.name; pattern = format_terms y.pattern }) e.0 f) s

  pub undecided_most : (i : ℕ) (fs : List Function) → Each FunctionFits fs → AtMost UndecidedFits (own_sentence_count fs) (undecided_told keep sites i fs)
  unfolding undecided_told own_sentence_count
  undecided_most i [] e = record { each = tt; few = omega arith }
  undecided_most i (x ∷ fs) e =
      let j : ℕ = i + sentence_count x.sentences in
      let t = is_judged keep x.name sites in
      most_append (judged_only t (undecided_in keep sites i x)) (undecided_told keep sites j fs) (most_judged t (undecided_in_lem i x e.0)) (undecided_most j fs e.1)

  module _ {k : ℕ} (s : AtMost HeldFits k sites) where
    uncovered_in_lem : (i : ℕ) (x : Function) → FunctionFits x → AtMost UncoveredFits k (uncovered_in keep sites i x)
    unfolding uncovered_in
    uncovered_in_lem i x e =
        let test : Terms → Bool = λ r. all (λ y. is_disjoint (patterns_overlap y.pattern r)) (numbered keep i x.sentences) in
        let l = restrictions_at keep x.name sites in
        most_map TermsFit UncoveredFits (λ r. record { function = x.name; input = format_terms r }) (select test l)
        (λ r f. uncovered_line_lem (record { function = x.name; input = format_terms r }) e.0 f) (most_among (select-among test l) (restrictions_fit keep x.name sites s))

    pub uncovered_most : (i : ℕ) (fs : List Function) → Each FunctionFits fs → AtMost UncoveredFits (length fs * k) (uncovered_told keep sites i fs)
    unfolding uncovered_told
    uncovered_most i [] e = record { each = tt; few = omega arith }
    uncovered_most i (x ∷ fs) e =
        let j : ℕ = i + sentence_count x.sentences in
        let t = is_judged keep x.name sites in
        most_more (omega arith) (most_append (judged_only t (uncovered_in keep sites i x)) (uncovered_told keep sites j fs) (most_judged t (uncovered_in_lem i x e.0)) (uncovered_most j fs e.1))

uncharacterised-among : (root : ℕ) (sites : List Held) (fs : List Function) (k : ℕ) → Among (uncharacterised_names root sites k fs) (map (λ x. x.name) fs)
unfolding uncharacterised_names
uncharacterised-among root sites [] k = Among.nothing
uncharacterised-among root sites (x ∷ fs) k =
    let a = uncharacterised-among root sites fs (suc k) in
    either (not (eqb k root) && any (uncharacterises (λ s. true) x.name) sites) (Among.taken a) (Among.passed a)

pub uncharacterised_most : (root : ℕ) (sites : List Held) (fs : List Function) → Each FunctionFits fs → AtMost Fits (length fs) (firsts same_name (uncharacterised_names root sites 0 fs))
uncharacterised_most root sites fs e =
    most_among (firsts-among same_name (uncharacterised_names root sites 0 fs)) (most_among (uncharacterised-among root sites fs 0) (most_map FunctionFits Fits (λ x. x.name) fs (λ x f. f.0) (record { each = e; few = omega arith })))
