use Rattle.std.proofs.Common.{◌≡◌, drop}
use Rattle.p3l_ast.specs.Tree.{statements}
use Rattle.p3l_body.specs.Mention.{code_mentions, mentions_rule}
use Rattle.p3l_body.proofs.mention.Names.+statement.Given as goal

-- the rules of the statements that are left
abbrev pub invariant-check_statements-loop-stmt : goal.invariant-check_statements-loop-stmt
invariant-check_statements-loop-stmt l =
    mentions_rule l.self.consts.now l.self.scope.now (code_mentions (statements (drop l.stmt-index l.stmts)))
    ≡ mentions_rule l.self.consts.now l.self.scope.now (code_mentions (statements l.stmts))
