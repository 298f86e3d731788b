-- Checked bodies without positions.
use Rattle.p3l_ast.specs.Unplaced.{statements_unplaced}
use Rattle.p3l_body.specs.Seq.{SeqTree}

abbrev pub seq_unplaced : SeqTree → SeqTree
seq_unplaced seq = record {
  home = seq.home;
  ins = seq.ins;
  outs = seq.outs;
  locals = seq.locals;
  budget = seq.budget;
  body = statements_unplaced seq.body;
  constants = seq.constants;
}
