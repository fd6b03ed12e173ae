use Rattle.std.proofs.Common.{◌++◌, ◌∙◌, arith}
use Rattle.patterns.specs.Ascii.{ascii}
use Rattle.text.specs.Counts.{counted, clean_text, untested_text}
use Rattle.text.proofs.Pieces.{graph_empty, graph_untested, graph_perfect, graph_clean}
use Rattle.text.proofs.Written.{both, same}
use Rattle.text.proofs.writer.Writer.put_graph.Goals as goal
use Rattle.text.proofs.writer.Writer.put_graph.Goals.{then-graph-gt0, else-graph-gt0}

pub returns-then-graph-eq0 : goal.returns-then-graph-eq0
unfolding ascii
returns-then-graph-eq0 c = let g = c.args.graph in same c.args.self.now (graph_empty g.functions g.undecided g.uncovered g.uncharacterised c.if-graph-eq0.true) c.put_bytes.ensures

pub returns-then-graph-eq0-2 : goal.returns-then-graph-eq0-2
unfolding ascii
returns-then-graph-eq0-2 c = let g = c.args.graph in
    same c.args.self.now (graph_perfect g.functions g.undecided g.uncovered g.uncharacterised c.if-graph-eq0.false (omega arith) (omega arith)) c.put_bytes-then-graph-eq0-2.ensures

pub returns : goal.returns
unfolding ascii untested_text clean_text
returns c =
    let g = c.args.graph in
    let w = c.args.self.now in
    let first = counted (ascii "graph: clean (undecided ") g.undecided in
    let second = counted (ascii ", uncovered ") g.uncovered in
    let third = counted (ascii ", uncharacterised ") g.uncharacterised in
    let end = ascii ")\n" in
    elim c.if-graph-gt0.branch [
      | then-graph-gt0 x ↦ same w (graph_untested g.functions g.undecided g.uncovered g.uncharacterised c.if-graph-eq0.false x.if-graph-gt0.true)
          (both w first (second ++ (third ++ end)) c.put_counted.ensures.written
          (both _ second (third ++ end) c.put_counted-2.ensures.written (both _ third end (x.self-is ∙ x.put_counted-then-graph-gt0.ensures.written) c.put_bytes-2.ensures)))
      | else-graph-gt0 x ↦ same w (graph_clean g.functions g.undecided g.uncovered g.uncharacterised c.if-graph-eq0.false (omega arith) (omega arith))
          (both w first (second ++ end) c.put_counted.ensures.written (both _ second end (x.self-is ∙ c.put_counted-2.ensures.written) c.put_bytes-2.ensures))
    ]
