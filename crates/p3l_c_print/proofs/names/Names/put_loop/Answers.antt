use Rattle.std.proofs.Common.{ap, ◌∙◌}
use Rattle.p3l_ast.specs.Tree.{phrase}
use Rattle.p3l_c_print.specs.declared.value.Value.{Value}
use Rattle.p3l_c_print.proofs.Lines.{value_after}
use Rattle.p3l_c_print.proofs.names.Names.put_loop.Goals as goal

pub returns-clause-temps : goal.returns-clause-temps
returns-clause-temps c = ap (λ (v : Value). v.after) c.in_ok-value.ensures.value ∙ value_after c.args.self.now 0 (phrase c.args.condition.now)
