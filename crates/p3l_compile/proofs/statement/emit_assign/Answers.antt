use Rattle.std.proofs.Common.{length}
use Rattle.std.proofs.lemmas.Result.{on_ok_weaker}
use Rattle.p3l_compile.proofs.Given.{given_weaker}
use Rattle.p3l_ast.specs.Tree.{phrase}
use Rattle.p3l_compile.proofs.Emitted.{not_empty}
use Rattle.p3l_compile.proofs.Joined.{assign_emitted, assign_sized}
use Rattle.p3l_compile.proofs.statement.emit_assign.Goals as goal

pub returns-clause-code : goal.returns-clause-code
returns-clause-code c =
    let some = not_empty c.is_empty.result _ c.args.target.now.index.items c.is_empty.ensures c.if-is_empty.false c.args.target.now.index.ok.0 in
    given_weaker c.put-2.result (λ d.
    assign_emitted c.args.scope.now c.args.target.now.at.name c.args.target.now.index.items (phrase c.args.expr.now) c.args.code.now.items c.put.new.code.items c.emit_index.new.code.items c.emit_expr.new.code.items c.put-2.new.code.items c.store_at.result
    some c.in_ok-put.ensures.code c.in_ok-put.ensures.size c.in_ok-emit_index.ensures.code c.in_ok-emit_index.ensures.size c.in_ok-emit_expr.ensures.code c.store_at.ensures d) c.put-2.ensures.code

pub returns-clause-size : goal.returns-clause-size
returns-clause-size c =
    let some = not_empty c.is_empty.result _ c.args.target.now.index.items c.is_empty.ensures c.if-is_empty.false c.args.target.now.index.ok.0 in
    on_ok_weaker c.put-2.result (λ d.
    assign_sized c.args.target.now.index.items (phrase c.args.expr.now) (length c.args.code.now.items) (length c.put.new.code.items) (length c.emit_index.new.code.items) (length c.emit_expr.new.code.items) (length c.put-2.new.code.items)
    some c.in_ok-put.ensures.size c.in_ok-emit_index.ensures.size c.in_ok-emit_expr.ensures.size d) c.put-2.ensures.size
