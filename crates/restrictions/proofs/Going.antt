-- The walk over a part one turn at a time: what is listed and what is left make up the sites of the whole.
use Prim.Native.Nat.{ℕ, zero, suc, ◌+◌, ◌-◌, ◌<◌, ◌≤◌}
use native.Mathlib.Omega.{arith}
use mathlib.Core.Path.{◌≡◌, refl, sym, ap, subst, ◌∙◌}
use mathlib.Core.Logic.{◌⊎◌, inl, inr}
use mathlib.Core.List.{List, [], ◌∷◌, ◌++◌, append_assoc, append-nil}
use lib.ListN.{length, get_or, drop, set, length-append, length-drop}
use lib.Seq.{drop-drop}
use Rattle.std.specs.Prelude.{Option, Some, None}
use Rattle.program.specs.Bytes.{put32, put_span, put_name}
use Rattle.program.specs.Encode.{put_terms, put_conditions}
use Rattle.program.specs.Limits.{Mode}
use Rattle.image.specs.Parts.{Passes, TermsAt, SentenceAt, tail}
use Rattle.program.proofs.Lengths.{terms-length, conditions-length}
use Rattle.symbols.proofs.Parts.{part_rest}
use Rattle.rows.proofs.Readings.{part, part_length, part_part}
use Rattle.restrictions.specs.declared.Walk.{Walk}
use Rattle.meaning.specs.Sites.{Site, site}
use Rattle.restrictions.specs.Entries.{CallAt, entry_offset, entry_sentence, Entry, Appended}
use Rattle.told.specs.Numbered.{held_by}
use Rattle.restrictions.specs.Records.{Records, terms, conditions, put_records, record_sites, ValidRecords, RecordsAt, Collected}
use Rattle.restrictions.proofs.Inside.{sort, records-length, put_all, sites_then, AllValid, all-length, then_append, OpenHere, CallHere, SentenceHere, CloseHere, FlatHere, open_here, call-here, sentence-here, close-here, flat_here}
use Rattle.restrictions.proofs.Stage.{InResult, InConditions, Stage, Stands, to_go, less_back, less-out}
use Rattle.restrictions.proofs.Appended.{held-append, held-length, appended_nothing, appended-length, appended_then, appended_one}

-- A body with s at a place.
abbrev pub body_with : ℕ → List ℕ → List ℕ
body_with zero s = s
body_with (suc n) s = 0 ∷ body_with n s

pub body_with_lem : (n : ℕ) (s : List ℕ) → drop n (body_with n s) ≡ s
body_with_lem zero s = refl
body_with_lem (suc n) s = body_with_lem n s

-- At the loop's head: the lists that are opened at i, and the records in which they stand.
pub record Going (b s : List ℕ) (k : ℕ) (old : List ℕ) (n : ℕ) (new : List ℕ) (i c q : ℕ) (next : Option ℕ) (r : RecordsAt s) : Type 0 where
  pub opened : List Records
  pub first : Records
  pub after : List ℕ
  pub later : List Site
  pub is : part s i ≡ put_all opened (put_records first after)
  pub valid_opened : AllValid opened
  pub valid : ValidRecords first
  pub lists : q ≡ length opened
  pub stage : Stage s r.rest i next first after later
  pub done : List Site
  pub appended : Appended b old n c new (held_by k done)
  pub whole : record_sites r.records ≡ done ++ sites_then opened (record_sites first ++ later)

pub going_first : {b s : List ℕ} (k : ℕ) (old : List ℕ) (n : ℕ) (r : RecordsAt s) → n ≤ length old → Going b s k old n old 0 n 0 None r
unfolding held_by
going_first {b} {s} k old n r l = record {
  opened = [];
  first = r.records;
  after = r.rest;
  later = [];
  is = part_rest s 0 ∙ r.is;
  valid_opened = tt;
  valid = r.valid;
  lists = refl;
  stage = (refl, refl);
  done = [];
  appended = appended_nothing b old n l;
  whole = sym (append-nil (record_sites r.records));
}

-- Where a part's bytes stand in the whole.
pub from_part : (b : List ℕ) (p i : ℕ) {l : List ℕ} → Passes (part b p) i l → drop (p + i) b ≡ l
from_part b p i h = sym (part_rest b (p + i)) ∙ (sym (part_part b p i) ∙ h.left)

-- A part of a part stands in the body too.
pub part_of_body : (b s : List ℕ) (at i : ℕ) → drop at b ≡ s → drop (at + i) b ≡ part s i
part_of_body b s at i e = sym (drop-drop i at b) ∙ (ap (drop i) e ∙ sym (part_rest s i))

-- The first of some lists.
pub record FirstOf (l : List Records) : Type 0 where
  pub list : Records
  pub others : List Records
  pub is : l ≡ list ∷ others

module _ {b s : List ℕ} {k : ℕ} {old : List ℕ} {n : ℕ} {new : List ℕ} {i c q : ℕ} {next : Option ℕ} {r : RecordsAt s} (g : Going b s k old n new i c q next r) where
  abbrev left : List Site
  left = sites_then g.opened (record_sites g.first ++ g.later)

  part_long : length g.after < length (part s i)
  part_long = omega (arith, ap length g.is, all-length g.opened (put_records g.first g.after), records-length g.first g.after)

  pub going_within : i < length s
  going_within = omega (arith, part_long, part_length s i)

  pub going_length : length new ≡ length old
  going_length = appended-length g.appended

  going_room : n + length (record_sites r.records) ≤ length old → c + length left ≤ length new
  going_room l = omega (arith, l, going_length, g.appended.count, g.appended.many, held-length k g.done, ap length g.whole, length-append g.done left)

  before_more : (p : ℕ) → InConditions s r.rest p g.first g.after g.later → (i < p) × (p < length s)
  before_more p h = (
    omega (arith, part_long, h.longer, ap length h.is, part_length s i, part_length s p),
    omega (arith, ap length h.is, records-length h.more r.rest, part_length s p),
  )

  pub stands : Stands (length s) i next
  stands = go next g.stage
    where
      go : (o : Option ℕ) → Stage s r.rest i o g.first g.after g.later → Stands (length s) i o
      go None t = tt
      go (Some p) (inl h) = inl h.passed
      go (Some p) (inr h) = inr (before_more p h)

  -- Further on in records of the same sort.
  stage_on : (j : ℕ) (y : Records) → i ≤ j → sort y ≡ sort g.first → Stage s r.rest j next y g.after g.later
  stage_on j y l e = go next g.stage
    where
      go : (o : Option ℕ) → Stage s r.rest i o g.first g.after g.later → Stage s r.rest j o y g.after g.later
      go None h = h
      go (Some p) (inl h) =
          inl
          (record {
            conditions = h.conditions;
            follows = h.follows;
            more = h.more;
            of_terms = e ∙ h.of_terms;
            of_conditions = h.of_conditions;
            passed = omega (arith, l, h.passed);
            is = h.is;
            valid = h.valid;
            is-more = h.is-more;
            valid-more = h.valid-more;
            longer = h.longer;
            sites = h.sites;
          })
      go (Some p) (inr h) = inr (record { more = h.more; of_conditions = e ∙ h.of_conditions; is = h.is; valid = h.valid; longer = h.longer; sites = h.sites })

  -- After more sites.
  going_on : {new' : List ℕ} {i' c' q' : ℕ} {next' : Option ℕ} (ys : List Site) → Appended b new c c' new' (held_by k ys) → (xs : List Records) (x : Records) (after : List ℕ) (later : List Site) → part s i' ≡ put_all xs (put_records x after) → AllValid xs → ValidRecords x → q' ≡ length xs → Stage s r.rest i' next' x after later → left ≡ ys ++ sites_then xs (record_sites x ++ later)
      → Going b s k old n new' i' c' q' next' r
  going_on {new'} {i'} {c'} ys a xs x after later e v w m t z = record {
    opened = xs;
    first = x;
    after = after;
    later = later;
    is = e;
    valid_opened = v;
    valid = w;
    lists = m;
    stage = t;
    done = g.done ++ ys;
    appended = subst (Appended b old n c' new') (sym (held-append k g.done ys)) (appended_then g.appended a);
    whole = g.whole ∙ (ap (λ (l : List Site). g.done ++ l) z ∙ sym (append_assoc g.done ys (sites_then xs (record_sites x ++ later))));
  }

  nothing-listed : Appended b new c c new (held_by k [])
  unfolding held_by
  nothing-listed = appended_nothing b new c (omega (arith, g.appended.fits, going_length))

  -- A list is opened at i.
  module _ (l : 0 < q) where
    pub list_in : FirstOf g.opened
    list_in = go g.opened refl
      where
        go : (ys : List Records) → g.opened ≡ ys → FirstOf g.opened
        go [] e = absurd (omega (arith, l, g.lists, ap length e))
        go (x ∷ xs) e = record { list = x; others = xs; is = e }

    abbrev inner_rest : List ℕ
    inner_rest = put_all list_in.others (put_records g.first g.after)

    pub inner_valid : AllValid (list_in.list ∷ list_in.others)
    inner_valid = subst AllValid list_in.is g.valid_opened

    abbrev pub inner_reading : RecordsAt (part s i)
    inner_reading = record { records = list_in.list; rest = inner_rest; is = g.is ∙ ap (λ (xs : List Records). put_all xs (put_records g.first g.after)) list_in.is; valid = inner_valid.0 }

    left_is : left ≡ record_sites list_in.list ++ sites_then list_in.others (record_sites g.first ++ g.later)
    left_is = ap (λ (xs : List Records). sites_then xs (record_sites g.first ++ g.later)) list_in.is

    pub inner_room : n + length (record_sites r.records) ≤ length old → c + length (record_sites inner_reading.records) ≤ length new
    inner_room u = omega (arith, going_room u, ap length left_is, length-append (record_sites list_in.list) (sites_then list_in.others (record_sites g.first ++ g.later)))

    pub inner_fits : {k' : ℕ} {old' : List ℕ} {n' : ℕ} {new' : List ℕ} {w : Walk} → Collected b (part s i) k' old' n' new' w inner_reading → (0 < w.at) × (i + w.at ≤ length s)
    inner_fits {w = w} z = (
      omega (arith, ap length inner_reading.is, records-length list_in.list inner_rest, length-drop w.at (part s i), ap length z.left, z.fits),
      omega (arith, z.fits, part_length s i, going_within),
    )

    pub descended : {new' : List ℕ} {w : Walk} → Collected b (part s i) k new c new' w inner_reading → Going b s k old n new' (i + w.at) w.count (q - 1) next r
    descended {w = w} z =
        going_on (record_sites list_in.list) z.appended list_in.others g.first g.after g.later (sym (part_part s i w.at) ∙ z.left) inner_valid.1 g.valid (omega (arith, g.lists, ap length list_in.is)) (stage_on (i + w.at) g.first (omega arith) refl) left_is

    -- It is empty.
    pub skipped : get_or (part s i) 0 0 ≡ 15 → Going b s k old n new (i + 1) c (q - 1) next r
    skipped m =
        let h = close-here inner_rest list_in.list inner_valid.0 (omega (arith, m, ap (λ (l : List ℕ). get_or l 0 0) inner_reading.is)) in
        descended {w = record { at = 1; count = c }} (record {
          appended = subst (λ (l : List Site). Appended b new c c new (held_by k l)) (sym h.sites) nothing-listed;
          left = ap (drop 1) inner_reading.is ∙ h.is;
          fits = omega (arith, going_within, part_length s i);
        })

  -- None is.
  module _ (u : q ≤ 0) where
    pub none_opened : g.opened ≡ []
    none_opened = go g.opened refl
      where
        go : (ys : List Records) → g.opened ≡ ys → g.opened ≡ []
        go [] e = e
        go (x ∷ xs) e = absurd (omega (arith, u, g.lists, ap length e))

    no_lists : q ≡ length {A = Records} []
    no_lists = omega (arith, u)

    pub is-here : part s i ≡ put_records g.first g.after
    is-here = g.is ∙ ap (λ (xs : List Records). put_all xs (put_records g.first g.after)) none_opened

    left_here : left ≡ record_sites g.first ++ g.later
    left_here = ap (λ (xs : List Records). sites_then xs (record_sites g.first ++ g.later)) none_opened

    mark-here : get_or (part s i) 0 0 ≡ get_or (put_records g.first g.after) 0 0
    mark-here = ap (λ (l : List ℕ). get_or l 0 0) is-here

    module _ (m : get_or (part s i) 0 0 < 7) where
      pub flat_in : FlatHere g.first g.after
      flat_in = flat_here g.after g.first g.valid (omega (arith, m, mark-here))

      abbrev pub flat-part : TermsAt Mode.result (part s i)
      flat-part = record { terms = flat_in.first; rest = g.after; is = is-here ∙ flat_in.is; valid = flat_in.valid }

      module _ (j : ℕ) (h : Passes (part s i) j (put_terms (tail flat_in.first) g.after)) where
        pub flat_fits : (0 < j) × (i + j ≤ length s)
        flat_fits = (
          omega (arith, h.fits, length-drop j (part s i), ap length h.left, ap length flat-part.is, flat_in.less),
          omega (arith, h.fits, part_length s i, going_within),
        )

        pub flat_passed : Going b s k old n new (i + j) c q next r
        unfolding put_records
        flat_passed =
            going_on [] nothing-listed [] (terms (tail flat_in.first)) g.after g.later (sym (part_part s i j) ∙ h.left) tt flat_in.valid-next no_lists (stage_on (i + j) (terms (tail flat_in.first)) (omega arith) flat_in.same) (left_here ∙ ap (λ (l : List Site). l ++ g.later) flat_in.sites)

    module _ (m : get_or (part s i) 0 0 ≡ 8) where
      pub call-in : CallHere g.first g.after
      call-in = call-here g.after g.first g.valid (sym mark-here ∙ m)

      abbrev pub call_part : CallAt (part s i)
      call_part = record { span = call-in.call.span; callee = call-in.call.callee; argument = call-in.call.argument; rest = call-in.call.rest; is = is-here ∙ call-in.call.is; valid = call-in.call.valid }

      pub call-space : n + length (record_sites r.records) ≤ length old → c < length new
      call-space l = omega (arith, going_room l, ap length left_here, length-append (record_sites g.first) g.later, ap length call-in.sites)

      module _ (j : ℕ) (h : Passes (part s i) j (put_terms call-in.call.argument call-in.call.rest)) where
        argument_is : part s (i + j) ≡ put_records (terms call-in.call.argument) (put_records call-in.next g.after)
        unfolding put_records
        argument_is = sym (part_part s i j) ∙ (h.left ∙ ap (put_terms call-in.call.argument) call-in.is)

        pub argument-fits : (0 < j) × (i + j ≤ length s)
        unfolding put_span put32 put_name
        argument-fits = (
          omega (arith, h.fits, length-drop j (part s i), ap length h.left, ap length call_part.is, length-append call-in.call.callee (put_terms call-in.call.argument call-in.call.rest)),
          omega (arith, h.fits, part_length s i, going_within),
        )

        -- The entry e, and after it the argument.
        pub call-passed : (at e : ℕ) → drop at b ≡ s → (entry_offset e ≡ at + i) × (entry_sentence e ≡ k) → c < length new → Going b s k old n (set new c e) (i + j) (c + 1) 1 next r
        unfolding held_by
        call-passed at e d t l =
            let x = site call-in.call.callee call-in.call.argument in
            let a = record_sites (terms call-in.call.argument) in
            going_on (x ∷ []) (appended_one b new c e (record { sentence = k; site = x }) l entry_here) (terms call-in.call.argument ∷ []) call-in.next g.after g.later argument_is (call-in.call.valid, tt) call-in.valid-next refl (stage_on (i + j) call-in.next (omega arith) call-in.same)
            (left_here ∙ (ap (λ (l : List Site). l ++ g.later) call-in.sites ∙ ap (λ (l : List Site). x ∷ l) (append_assoc a (record_sites call-in.next) g.later)))
          where
            entry_here : Entry b e (record { sentence = k; site = site call-in.call.callee call-in.call.argument })
            entry_here = record {
              call = record { span = call-in.call.span; callee = call-in.call.callee; argument = call-in.call.argument; rest = call-in.call.rest; is = ap (λ (p : ℕ). drop p b) t.0 ∙ (part_of_body b s at i d ∙ call_part.is); valid = call-in.call.valid };
              callee = refl;
              argument = refl;
              sentence = t.1;
            }

    module _ (m : get_or (part s i) 0 0 ≡ 10) where
      pub sentence_in : SentenceHere g.first g.after
      sentence_in = sentence-here g.after g.first g.valid (sym mark-here ∙ m)

      abbrev pub sentence-part : SentenceAt (part s i)
      sentence-part = record {
        sentence = sentence_in.here.sentence;
        rest = sentence_in.here.rest;
        is = is-here ∙ sentence_in.here.is;
        valid-pattern = sentence_in.here.valid-pattern;
        valid-conditions = sentence_in.here.valid-conditions;
        valid-result = sentence_in.here.valid-result;
      }

      -- A sentence stands in no other of the same walk.
      among-own : (next ≡ None) × ((g.after ≡ r.rest) × (g.later ≡ []))
      among-own = go next g.stage
        where
          go : (o : Option ℕ) → Stage s r.rest i o g.first g.after g.later → (o ≡ None) × ((g.after ≡ r.rest) × (g.later ≡ []))
          go None t = (refl, t)
          go (Some p) (inl h) = absurd (omega (arith, h.of_terms, sentence_in.among))
          go (Some p) (inr h) = absurd (omega (arith, h.of_conditions, sentence_in.among))

      pub none_before : next ≡ None
      none_before = among-own.0

      abbrev result-bytes : List ℕ
      result-bytes = put_terms sentence_in.here.sentence.result sentence_in.here.rest

      module _ (j : ℕ) (h : Passes (part s i) j (put_conditions sentence_in.here.sentence.conditions (12 ∷ put_terms sentence_in.here.sentence.result sentence_in.here.rest))) where
        pub conditions-fits : i + j ≤ length s
        conditions-fits = omega (arith, h.fits, part_length s i, going_within)

        conditions-is : part s (i + j) ≡ put_records (conditions sentence_in.here.sentence.conditions) result-bytes
        unfolding put_records
        conditions-is = sym (part_part s i j) ∙ h.left

        module _ (p : ℕ) (f : Passes (part s i) p (put_terms sentence_in.here.sentence.result sentence_in.here.rest)) where
          pub result_fits : (j < p) × (i + p ≤ length s)
          result_fits = (
            omega (arith, h.fits, f.fits, length-drop j (part s i), ap length h.left, length-drop p (part s i), ap length f.left, conditions-length sentence_in.here.sentence.conditions (12 ∷ result-bytes)),
            omega (arith, f.fits, part_length s i, going_within),
          )

          result-is : part s (i + p) ≡ put_records (terms sentence_in.here.sentence.result) sentence_in.here.rest
          unfolding put_records
          result-is = sym (part_part s i p) ∙ f.left

          in-result : InResult s r.rest (i + p) (i + j) (terms sentence_in.here.sentence.result) sentence_in.here.rest (record_sites (conditions sentence_in.here.sentence.conditions) ++ record_sites sentence_in.next)
          in-result = record {
            conditions = conditions sentence_in.here.sentence.conditions;
            follows = result-bytes;
            more = sentence_in.next;
            of_terms = refl;
            of_conditions = refl;
            passed = omega (arith, result_fits);
            is = conditions-is;
            valid = sentence_in.here.valid-conditions;
            is-more = sentence_in.is ∙ ap (put_records sentence_in.next) among-own.1.0;
            valid-more = sentence_in.valid-next;
            longer = omega (arith, terms-length sentence_in.here.sentence.result sentence_in.here.rest);
            sites = refl;
          }

          -- To its result.
          pub sentence-entered : Going b s k old n new (i + p) c q (Some (i + j)) r
          sentence-entered =
              going_on [] nothing-listed [] (terms sentence_in.here.sentence.result) sentence_in.here.rest (record_sites (conditions sentence_in.here.sentence.conditions) ++ record_sites sentence_in.next) result-is tt sentence_in.here.valid-result no_lists (inl in-result)
              (left_here ∙ (ap (λ (l : List Site). record_sites g.first ++ l) among-own.1.1 ∙ (append-nil (record_sites g.first) ∙ sentence_in.sites)))

    module _ (low : 7 ≤ get_or (part s i) 0 0) (n8 : get_or (part s i) 0 0 ≡ 8 → ⊥) (n10 : get_or (part s i) 0 0 ≡ 10 → ⊥) (m : get_or (part s i) 0 0 < 12) where
      open_in : OpenHere g.first g.after
      open_in = open_here g.after g.first g.valid (omega (arith, low, mark-here)) (omega (arith, m, mark-here)) (λ e. n8 (mark-here ∙ e)) (λ e. n10 (mark-here ∙ e))

      inside_is : part s (i + 9) ≡ put_all open_in.inner (put_records open_in.next g.after)
      inside_is = sym (part_part s i 9) ∙ (ap (drop 9) is-here ∙ open_in.is)

      pub inside-fits : i + 9 ≤ length s
      inside-fits = omega (arith, ap length inside_is, all-length open_in.inner (put_records open_in.next g.after), records-length open_in.next g.after, part_length s (i + 9))

      -- To the lists inside, of which there are o.
      pub lists-opened : (o : ℕ) → ((get_or (part s i) 0 0 ≡ 7) → o ≡ 1) × ((get_or (part s i) 0 0 ≡ 7 → ⊥) → o ≡ 2) → Going b s k old n new (i + 9) c o next r
      lists-opened o h =
          going_on [] nothing-listed open_in.inner open_in.next g.after g.later inside_is open_in.valid_inner open_in.valid-next (go open_in.many) (stage_on (i + 9) open_in.next (omega arith) open_in.same)
          (left_here ∙ (ap (λ (l : List Site). l ++ g.later) open_in.sites ∙ then_append open_in.inner (record_sites open_in.next) g.later))
        where
          go : ((get_or (put_records g.first g.after) 0 0 ≡ 7) × (length open_in.inner ≡ 1)) ⊎ ((get_or (put_records g.first g.after) 0 0 ≡ 7 → ⊥) × (length open_in.inner ≡ 2)) → o ≡ length open_in.inner
          go (inl t) = h.0 (mark-here ∙ t.0) ∙ sym t.1
          go (inr t) = h.1 (λ e. t.0 (sym mark-here ∙ e)) ∙ sym t.1

    module _ (m : 12 ≤ get_or (part s i) 0 0) where
      close_in : CloseHere g.first g.after
      close_in = close-here g.after g.first g.valid (omega (arith, m, mark-here))

      closed_is : part s (i + 1) ≡ g.after
      closed_is = sym (part_part s i 1) ∙ (ap (drop 1) is-here ∙ close_in.is)

      left_closed : left ≡ g.later
      left_closed = left_here ∙ ap (λ (l : List Site). l ++ g.later) close_in.sites

      -- The close of the part's own records.
      module _ (e : next ≡ None) where
        closed-own : (g.after ≡ r.rest) × (g.later ≡ [])
        closed-own = subst (λ (o : Option ℕ). Stage s r.rest i o g.first g.after g.later) e g.stage

        pub going_done : {w : Walk} → w.at ≡ i + 1 → w.count ≡ c → Collected b s k old n new w r
        going_done {w} a f = record {
          appended = subst (λ (p : ℕ). Appended b old n p new (held_by k (record_sites r.records))) (sym f)
              (subst (λ (l : List Site). Appended b old n c new (held_by k l)) (sym (g.whole ∙ (ap (λ (l : List Site). g.done ++ l) (left_closed ∙ closed-own.1) ∙ append-nil g.done))) g.appended);
          left = ap (λ (p : ℕ). drop p s) a ∙ (sym (part_rest s (i + 1)) ∙ (closed_is ∙ closed-own.0));
          fits = omega (arith, a, going_within);
        }

      -- From the result of a sentence to its conditions, or from these to the records after it.
      module _ (p : ℕ) (e : next ≡ Some p) (v : Option ℕ) (h : ((get_or (part s i) 0 0 ≡ 15) → v ≡ Some (i + 1)) × ((get_or (part s i) 0 0 ≡ 15 → ⊥) → v ≡ None)) where
        closed_inside : InResult s r.rest i p g.first g.after g.later ⊎ InConditions s r.rest p g.first g.after g.later
        closed_inside = subst (λ (o : Option ℕ). Stage s r.rest i o g.first g.after g.later) e g.stage

        to-conditions : InResult s r.rest i p g.first g.after g.later → v ≡ Some (i + 1)
        to-conditions t = h.0 (mark-here ∙ close_in.of_others (λ f. omega (arith, f, t.of_terms)))

        to-more : InConditions s r.rest p g.first g.after g.later → v ≡ None
        to-more t = h.1 (λ f. close_in.of_conditions t.of_conditions (sym mark-here ∙ f))

        pub resumed : Going b s k old n new p c q v r
        resumed = go closed_inside
          where
            go : InResult s r.rest i p g.first g.after g.later ⊎ InConditions s r.rest p g.first g.after g.later → Going b s k old n new p c q v r
            go (inl t) =
                rw (to-conditions t)
                (going_on [] nothing-listed [] t.conditions t.follows (record_sites t.more) t.is tt t.valid no_lists
                (inr (record { more = t.more; of_conditions = t.of_conditions; is = closed_is ∙ t.is-more; valid = t.valid-more; longer = omega (arith, t.longer, ap length t.is-more); sites = refl }))
                (left_closed ∙ t.sites))
            go (inr t) =
                rw (to-more t)
                (going_on [] nothing-listed [] t.more r.rest [] t.is tt t.valid no_lists (refl, refl) (left_closed ∙ (t.sites ∙ sym (append-nil (record_sites t.more)))))

        pub resumed-less : length s ≤ 32768 → to_go (length s) p v < to_go (length s) i next
        resumed-less l = go closed_inside
          where
            go : InResult s r.rest i p g.first g.after g.later ⊎ InConditions s r.rest p g.first g.after g.later → to_go (length s) p v < to_go (length s) i next
            go (inl t) = rw (to-conditions t, e) (less_back (length s) l i p going_within t.passed)
            go (inr t) = rw (to-more t, e) (less-out (length s) l i p (before_more p t))
