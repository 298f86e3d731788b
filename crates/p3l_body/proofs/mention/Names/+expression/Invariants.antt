use Rattle.std.proofs.Common.{◌≡◌, drop}
use Rattle.p3l_ast.specs.Tree.{phrases}
use Rattle.p3l_body.specs.Mention.{index_mentions, mentions_rule}
use Rattle.p3l_body.proofs.mention.Names.+expression.Given as goal

-- the rules of the indices that are left
abbrev pub invariant-check_place-loop-index : goal.invariant-check_place-loop-index
invariant-check_place-loop-index l =
    mentions_rule l.self.consts.now l.self.scope.now (index_mentions (phrases (drop l.index-index l.index-items)))
    ≡ mentions_rule l.self.consts.now l.self.scope.now (index_mentions (phrases l.index-items))
