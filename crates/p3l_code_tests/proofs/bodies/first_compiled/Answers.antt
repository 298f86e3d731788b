use Rattle.p3l_ast.specs.Tree.{module_tree, program_tree}
use Rattle.p3l_body.specs.Seq.{seq_tree}
use Rattle.p3l_code_tests.proofs.bodies.first_compiled.Goals as goal

pub compile-requires : goal.compile-requires
compile-requires c =
    c.body_compiles.ensures c.args.text.now (program_tree c.args.program.now) (seq_tree c.in-Ok.seq) c.requires (record {
      place = 0;
      checks = module_tree c.in-Some.module.now;
      there = c.in-Some.ensures;
      constants = _;
      home = _;
      checked = c.in-Ok.ensures;
    })
