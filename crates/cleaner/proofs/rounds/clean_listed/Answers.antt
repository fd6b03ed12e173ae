-- `cleaner::rounds::clean_listed` meets its contract. Assumes nothing.
use Prim.Native.Nat.{ℕ, zero}
use mathlib.Core.Path.{◌≡◌, ◌∙◌}
use mathlib.Core.List.{List, map}
use mathlib.Core.Option
use Rattle.program.specs.Syntax.{Function, Program}
use Rattle.index.specs.declared.Plan.{Plan}
use Rattle.index.specs.Layout.{marks, calls}
use Rattle.index.specs.Tables.{Apart}
use Rattle.index.specs.Tabled.{Tabled}
use Rattle.meaning.specs.Root.{entry_place}
use Rattle.cleaning.specs.Indexed.{Indexed}
use Rattle.cleaning.specs.Prepared.{ProgramListed, ProgramLinked}
use Rattle.cleaning.specs.RoundDone.{RoundsReady, RoundsMade}
use Rattle.cleaning.proofs.Indexed.{only_rounds_indexed}
use Rattle.cleaner.proofs.AfterRounds.{linked_tabled, root-found, linked_ready, marks-indexed, noted-readable, rounds-done}
use Rattle.report.proofs.OpenNotes.{decided-all}
use Rattle.cleaner.proofs.rounds.clean_listed.Goals as goal

-- Linked work is ready for the rounds, and still indexed when they are made and marked.
module _ {b m : List ℕ} {w : Program} {p : Plan} {root : ℕ} where
  ready : ProgramLinked b w m p → ((fs : List Function) → Tabled b m p.functions fs → root ≡ Option.get_or (entry_place (map (λ f. f.visibility) fs)) zero) → RoundsReady b w m p root
  ready l f = linked_ready l (root-found w (f w.functions (linked_tabled l)))

  marked : {made new : List ℕ} {n : ℕ} → RoundsReady b w m p root → RoundsMade w m made p n → Apart made new (marks p) (calls p) → Indexed b w new p
  marked r d a = marks-indexed a (only_rounds_indexed d.only r.indexed)

pub root_place-root-requires : goal.root_place-root-requires
root_place-root-requires c =
    let p = c.requires.0 in
    record { functions = p.program.functions; tabled = linked_tabled (c.link_program.ensures p.program p.listed).0 }

pub clean_rounds-rounds-requires : goal.clean_rounds-rounds-requires
clean_rounds-rounds-requires c =
    let p = c.requires.0 in
    (record { program = p.program; ready = ready (c.link_program.ensures p.program p.listed).0 c.root_place-root.ensures }, c.requires.1)

pub note_repeats-requires : goal.note_repeats-requires
note_repeats-requires c =
    let p = c.requires.0 in
    let r = ready (c.link_program.ensures p.program p.listed).0 c.root_place-root.ensures in
    record { body = c.args.b.now; program = p.program; indexed = marked r (c.clean_rounds-rounds.ensures p.program r) c.mark_left.ensures.others }

pub note_undecided-requires : goal.note_undecided-requires
note_undecided-requires c =
    let p = c.requires.0 in
    let r = ready (c.link_program.ensures p.program p.listed).0 c.root_place-root.ensures in
    let m = c.clean_rounds-rounds.ensures p.program r in
    let a = c.mark_left.ensures.others in
    record { program = p.program; readable = noted-readable c.requires.1 r m a (c.note_repeats.ensures c.args.b.now p.program (marked r m a)) }

pub returns : goal.returns
returns c =
    let b = c.args.b.now in
    let p = c.requires.0 in
    let a = c.mark_left.ensures.others in
    let r = λ (w : Program) (h : ProgramListed b w c.args.work.now c.args.plan). ready (c.link_program.ensures w h).0 c.root_place-root.ensures in
    let made = λ (w : Program) (h : ProgramListed b w c.args.work.now c.args.plan). c.clean_rounds-rounds.ensures w (r w h) in
    let noted = λ (w : Program) (h : ProgramListed b w c.args.work.now c.args.plan). c.note_repeats.ensures b w (marked (r w h) (made w h) a) in
    let asked = c.note_undecided.ensures in
    let m = made p.program p.listed in
    let n = noted p.program p.listed in
    let u = (asked p.program (noted-readable c.requires.1 (r p.program p.listed) m a n)).only in record {
      done = λ w h. rounds-done c.requires.1 (r w h) (made w h) a (noted w h) c.mark_left.ensures.marked u (decided-all u asked);
      few = m.few;
      same = u.length ∙ (n.length ∙ (a.length ∙ (m.only.length ∙ (c.link_program.ensures p.program p.listed).1)));
    }
